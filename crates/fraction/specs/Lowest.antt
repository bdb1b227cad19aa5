-- Lowest terms, by divisibility.
use Rattle.std.specs.Prelude.{◌≡◌, ℕ, ◌*◌, ◌<◌}
use Rattle.generic.specs.Divisors.{GreatestDivisor}

-- n' over d' is n over d in lowest terms: the same fraction, and no number but 1 divides both n' and d'. Of 0 it is 0 over 1.
pub record Lowest (n d n' d' : ℕ) : Type 0 where
  pub positive : 0 < d'
  pub same : n' * d ≡ n * d'
  pub reduced : GreatestDivisor 1 n' d'
