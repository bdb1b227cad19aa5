-- The state of a division in its whole part.
use Rattle.std.specs.Prelude.{◌≡◌, ℕ, ◌-◌, ◌*◌, ◌^◌, ◌<◌, ◌≤◌}
use Rattle.generic.specs.declared.counting.CountingNumber as counting
use Rattle.division.specs.declared.integral_state.IntegralState.{IntegralState}

-- Of the rest m over the divisor d, with the unit u and the place p: digits of the whole part are still to come, m < 10^p × d,
-- and the unit of the next digit, 10^(p-1) × d, is a number of the type, whose greatest is most.
pub record Sound (m d u p most : ℕ) : Type 0 where
  pub divisor : 0 < d
  pub place : 0 < p
  pub unit : u ≡ 10 ^ (p - 1) * d
  pub fits : u ≤ most
  pub rest : m < 10 ^ p * d

-- What all makers of a state promise.
abbrev pub SoundState : {X : Type 0} → counting.Ghosts X → IntegralState X → Type 0
SoundState g s = Sound (g.number s.rest) (g.number s.divisor) (g.number s.unit) s.place g.greatest
