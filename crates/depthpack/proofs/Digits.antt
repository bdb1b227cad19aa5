-- Four digits of a fraction below 1.
use Rattle.std.proofs.Common.{ℕ, ◌*◌, ◌/◌, ◌%◌, ◌<◌, mod-lt, arith}
use Rattle.std.proofs.lemmas.Nat.{div_below}

pub next_digits : (r d : ℕ) → r < d → (r * 10000 / d < 10000) × (r * 10000 % d < d)
next_digits r d below = (div_below (r * 10000) d 10000 (omega arith) (omega arith), mod-lt (r * 10000) (omega arith))
