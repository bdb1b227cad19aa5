-- Words in parts of equally many bits, the lowest part first.
use Rattle.std.specs.Prelude.{ℕ, zero, suc, ◌+◌, ◌-◌, ◌*◌, ◌/◌, ◌%◌, ◌^◌}

-- The number that n parts of b bits write in a base.
unfoldable pub written : ℕ → ℕ → ℕ → ℕ → ℕ
written b base zero w = 0
written b base (suc n) w = w % 2 ^ b + base * written b base n (w / 2 ^ b)

-- Ones in the lower half of each of n parts of 2 * b bits.
unfoldable pub lower_halves : ℕ → ℕ → ℕ
lower_halves b zero = 0
lower_halves b (suc n) = lower_halves b n * 2 ^ (b + b) + (2 ^ b - 1)
