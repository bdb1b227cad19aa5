-- The number that bytes write, most significant byte first.
use Rattle.std.specs.Prelude.{ℕ, zero, suc, ◌+◌, ◌*◌, List, slice_index}

-- The number that the n bytes from place k on write.
abbrev pub bytes_number : ℕ → ℕ → List ℕ → ℕ
bytes_number zero k bs = 0
bytes_number (suc n) k bs = bytes_number n k bs * 256 + slice_index bs (k + n)
