-- The sign words by their names.
use Rattle.std.specs.Prelude.{ℕ}
use Rattle.numeric.specs.Package.{plus_word, minus_word, nan_word, plus_infinity_word, minus_infinity_word}
use Rattle.numeric.specs.declared.sign_word.SignWord.{SignWord}
use Rattle.numeric.specs.declared.sign_word.SignWord.TheVariants.{Plus, Minus, NaN, PlusInfinity, MinusInfinity}

abbrev pub word_of : SignWord → ℕ
word_of Plus = plus_word
word_of Minus = minus_word
word_of NaN = nan_word
word_of PlusInfinity = plus_infinity_word
word_of MinusInfinity = minus_infinity_word
