-- Groups in the front of a buffer.
use Rattle.std.specs.Prelude.{◌≡◌, ℕ, ◌+◌, ◌-◌, ◌*◌, ◌%◌, ◌^◌, List, length}
use Rattle.std.specs.Int.Digits.{number_from_digits}
use Rattle.std.specs.List.{flat_map}
use Rattle.numeric.specs.Buffer.{placed}
use Rattle.numeric.specs.Bytes.{word_bytes}
use Rattle.numeric.specs.Groups.{Proper, words_in}

-- The buffer was `before`, and now k proper groups stand in its front; nothing else has changed.
pub record Laid (before after : List ℕ) (k : ℕ) : Type 0 where
  pub groups : List ℕ
  pub proper : Proper groups
  pub long : length groups ≡ k
  pub bytes : after ≡ placed before 0 (flat_map word_bytes groups)

-- The number that the digits of k groups in bytes, and then of a group that fills, form.
abbrev pub held : List ℕ → ℕ → ℕ → ℕ → ℕ
held bytes k places group = number_from_digits 10000 (words_in k bytes) * 10 ^ places + group

-- Proper groups that form the number x stand in the front of the buffer, which was `before`; nothing else has changed.
pub record Finished (before after : List ℕ) (x : ℕ) : Type 0 where
  pub count : ℕ
  pub laid : Laid before after count
  pub value : number_from_digits 10000 laid.groups ≡ x

-- How many zeros fill a group of which so many places are taken; a group that is not begun needs none.
abbrev pub filler : ℕ → ℕ
filler places = (4 - places) % 4
