-- The bytes of a package.
use Rattle.std.specs.Prelude.{ℕ, suc, ◌-◌, ◌/◌, ◌%◌, ◌^◌, List, [], ◌∷◌, ℤ, pos, negsuc}
use Rattle.std.specs.List.{flat_map}
use Rattle.numeric.specs.Package.{Package, ndigits}

-- A word of 16 bits, the most significant byte first.
abbrev pub word_bytes : ℕ → List ℕ
word_bytes w = w / 256 ∷ w % 256 ∷ []

-- A signed number as a word, in two's complement.
abbrev pub signed_word : ℤ → ℕ
signed_word (pos n) = n
signed_word (negsuc n) = 2 ^ 16 - suc n

abbrev pub package_bytes : Package → List ℕ
package_bytes q = flat_map word_bytes (ndigits q ∷ signed_word q.weight ∷ q.sign ∷ q.scale ∷ q.groups)
