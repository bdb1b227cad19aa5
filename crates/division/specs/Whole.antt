-- The whole part of a division.
use Rattle.std.specs.Prelude.{◌≡◌, ℕ, ◌-◌, ◌*◌, ◌^◌, ◌<◌, ◌≤◌, [], Ok, Err, Result}
use Rattle.generic.specs.Refusals.{refuses}
use Rattle.generic.specs.declared.counting.CountingNumber as counting
use Rattle.division.specs.Faults.{refusal}
use Rattle.division.specs.Runs.{whole, Made}
use Rattle.division.specs.Sink.{called}
use Rattle.division.specs.Sound.{SoundState}
use Rattle.division.specs.declared.fault.DivisionFault.{DivisionFault}
use Rattle.division.specs.declared.integral_state.IntegralState.{IntegralState}
use Rattle.division.specs.declared.sink.DigitSink.{Ghosts}
use Rattle.division.specs.declared.state.Division.{Division}
use Rattle.division.specs.declared.state.Division.TheVariants.{Whole, Fraction}

-- n over d has w digits in its whole part: no leading zero, and one 0 for n < d.
pub record Width (n d w : ℕ) : Type 0 where
  pub some : 0 < w
  pub enough : n < 10 ^ w * d
  pub no_zero : 1 < w → 10 ^ (w - 1) * d ≤ n

-- The state that n over d begins with: all its whole digits are to come.
pub record Begun {X : Type 0} (g : counting.Ghosts X) (n d : X) (s : IntegralState X) : Type 0 where
  pub sound : SoundState g s
  pub rest : s.rest ≡ n
  pub divisor : s.divisor ≡ d
  pub width : Width (g.number n) (g.number d) s.place

-- Opening n over d is refused with 7 exactly when d is 0.
abbrev pub Opens : {X : Type 0} (g : counting.Ghosts X) → X → X → Result (IntegralState X) DivisionFault → Type 0
Opens g n d (Ok s) = Begun g n d s
Opens g n d (Err f) = (g.number d ≡ 0) × (refusal f ≡ refuses 7 [])

-- Going on with the whole part, which goes on while digits of it are still to come.
abbrev pub Integrates : {X S : Type 0} (g : counting.Ghosts X) → Ghosts S → IntegralState X → S → S → Division X → Type 0
Integrates g sink a s t (Whole b) =
    (sink.left s < a.place) × (b.divisor ≡ a.divisor) × SoundState g b
    × Made (g.number a.divisor) (g.number a.rest) a.place (called sink whole s t (g.number b.rest) b.place)
    × sink.on s t
Integrates g sink a s t (Fraction b) =
    (a.place ≤ sink.left s) × (b.divisor ≡ a.divisor) × (g.number b.remainder < g.number b.divisor)
    × Made (g.number a.divisor) (g.number a.rest) a.place (called sink whole s t (g.number b.remainder) 0)
    × sink.on s t

-- The state after a digit of the state s that leaves the rest m.
abbrev pub Follows : {X : Type 0} (g : counting.Ghosts X) → IntegralState X → X → Division X → Type 0
Follows g s m (Whole a) = (1 < s.place) × (a.rest ≡ m) × (a.divisor ≡ s.divisor) × (a.place ≡ s.place - 1) × SoundState g a
Follows g s m (Fraction a) = (s.place ≡ 1) × (a.remainder ≡ m) × (a.divisor ≡ s.divisor) × (g.number m < g.number s.divisor)
