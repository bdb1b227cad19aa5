-- A division wherever it stands, and sinks that it serves one after another.
use Rattle.std.specs.Prelude.{◌≡◌, ℕ, ◌<◌, ◌≤◌, List, [], ◌∷◌, Ok, Err, Result}
use Rattle.generic.specs.Refusals.{refuses}
use Rattle.generic.specs.declared.counting.CountingNumber as counting
use Rattle.division.specs.Faults.{refusal}
use Rattle.division.specs.Laws.{Leading, StandsStill}
use Rattle.division.specs.Runs.{Call, Made, Run, last_rest, last_place}
use Rattle.division.specs.Sink.{tally}
use Rattle.division.specs.Sound.{SoundState}
use Rattle.division.specs.Whole.{Begun}
use Rattle.division.specs.declared.fault.DivisionFault.{DivisionFault}
use Rattle.division.specs.declared.integral_state.IntegralState.{IntegralState}
use Rattle.division.specs.declared.sink.DigitSink.{Ghosts}
use Rattle.division.specs.declared.state.Division.{Division}
use Rattle.division.specs.declared.state.Division.TheVariants.{Whole, Fraction}

-- Its divisor, its rest, which in the fraction is the remainder, and its place, which in the fraction is 0.
abbrev pub divisor_of : {X : Type 0} → Division X → X
divisor_of (Whole s) = s.divisor
divisor_of (Fraction s) = s.divisor

abbrev pub rest_of : {X : Type 0} → Division X → X
rest_of (Whole s) = s.rest
rest_of (Fraction s) = s.remainder

abbrev pub place_of : {X : Type 0} → Division X → ℕ
place_of (Whole s) = s.place
place_of (Fraction s) = 0

-- What all makers of a division promise.
abbrev pub SoundDivision : {X : Type 0} → counting.Ghosts X → Division X → Type 0
SoundDivision g (Whole s) = SoundState g s
SoundDivision g (Fraction s) = Unit {0}

-- In its whole part it can always go on, and in its fraction where the remainder is below the divisor.
abbrev pub CanGoOn : {X : Type 0} → counting.Ghosts X → Division X → Type 0
CanGoOn g (Whole s) = Unit {0}
CanGoOn g (Fraction s) = g.number s.remainder < g.number s.divisor

-- A call took the sink from s to s'.
pub record Seen {S : Type 0} (sink : Ghosts S) (s s' : S) (c : Call) : Type 0 where
  pub step : c.step ≡ sink.step
  pub before : c.before ≡ tally sink s
  pub after : c.after ≡ tally sink s'
  pub on : sink.on s s'

-- One call for each sink, in the order of the sinks.
abbrev pub Serves : {S : Type 0} → Ghosts S → List Call → List S → List S → Type 0
Serves sink [] ss ts = (ss ≡ []) × (ts ≡ [])
Serves {S} sink (c ∷ cs) ss ts =
    (s : S) × (ss' : List S) × (t : S) × (ts' : List S) × (ss ≡ s ∷ ss') × (ts ≡ t ∷ ts') × Seen sink s t c × Serves sink cs ss' ts'

-- One call takes a division and a sink on.
pub record Steps {X S : Type 0} (g : counting.Ghosts X) (sink : Ghosts S) (before : Division X) (s s' : S) (after : Division X) : Type 0 where
  pub call : Call
  pub sees : Seen sink s s' call
  pub made : Made (g.number (divisor_of before)) (g.number (rest_of before)) (place_of before) call
  pub rest : call.rest' ≡ g.number (rest_of after)
  pub place : call.place' ≡ place_of after
  pub divisor : divisor_of after ≡ divisor_of before
  pub sound : SoundDivision g after

-- A run of calls takes a division on and serves the sinks with it, from ss to ts. A division that can go on gives them its next
-- digits, and one that is refused changes neither them nor itself.
pub record Served {X S : Type 0} (g : counting.Ghosts X) (sink : Ghosts S) (before : Division X) (ss ts : List S) (after : Division X) : Type 0 where
  pub calls : List Call
  pub serves : Serves sink calls ss ts
  pub run : Run (g.number (divisor_of before)) (g.number (rest_of before)) (place_of before) calls
  pub rest : last_rest (g.number (rest_of before)) calls ≡ g.number (rest_of after)
  pub place : last_place (place_of before) calls ≡ place_of after
  pub divisor : divisor_of after ≡ divisor_of before
  pub sound : SoundDivision g after
  pub leading :
      CanGoOn g before
      → Leading (g.number (rest_of before)) (g.number (divisor_of before)) (place_of before) calls
  pub refused :
      place_of before ≡ 0 → g.number (divisor_of before) ≤ g.number (rest_of before)
      → StandsStill (g.number (divisor_of before)) (g.number (rest_of before)) calls

-- A run of calls from a state in the whole part on serves the sinks, which took its leading digits.
pub record Leads {X S : Type 0} (g : counting.Ghosts X) (sink : Ghosts S) (start : IntegralState X) (ss ts : List S) (after : Division X) : Type 0 where
  pub run : Served g sink (Whole start) ss ts after
  pub leading : Leading (g.number start.rest) (g.number start.divisor) start.place run.calls

-- The sinks are served with n over d, from all its whole digits on.
pub record Opened {X S : Type 0} (g : counting.Ghosts X) (sink : Ghosts S) (n d : X) (ss ts : List S) (after : Division X) : Type 0 where
  pub start : IntegralState X
  pub begun : Begun g n d start
  pub leads : Leads g sink start ss ts after

-- What serving the sinks with n over d comes to: refused with 7 exactly when d is 0, and no sink has then changed.
abbrev pub ServedWhole : {X S : Type 0} (g : counting.Ghosts X) → Ghosts S → X → X → List S → List S → Result (Division X) DivisionFault → Type 0
ServedWhole g sink n d ss ts (Ok after) = Opened g sink n d ss ts after
ServedWhole g sink n d ss ts (Err f) = (g.number d ≡ 0) × (refusal f ≡ refuses 7 []) × (ts ≡ ss)
