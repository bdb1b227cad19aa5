-- One call more on a division that serves sinks.
use Rattle.std.proofs.Common.{◌≡◌, ℕ, ◌*◌, ◌^◌, ◌<◌, List, [], ◌∷◌, ◌++◌, sym, refl, ap, ◌∙◌, subst, one-mul, arith}
use Rattle.generic.specs.declared.counting.CountingNumber as counting
use Rattle.division.specs.Laws.{Leading}
use Rattle.division.specs.Runs.{Kind, whole, Call, Made, Run, last_rest, last_place}
use Rattle.division.specs.Serve.{divisor_of, rest_of, place_of, SoundDivision, CanGoOn, Seen, Serves, Steps, Served}
use Rattle.division.specs.declared.integral_state.IntegralState.{IntegralState}
use Rattle.division.specs.declared.sink.DigitSink.{Ghosts}
use Rattle.division.specs.Sink.{called}
use Rattle.division.specs.Whole.{Integrates}
use Rattle.division.specs.declared.state.Division.{Division}
use Rattle.division.specs.declared.state.Division.TheVariants.{Whole, Fraction}
use Rattle.division.proofs.Lost.{leading, leading_more}
use Rattle.division.proofs.Runs.{one_expansion, last_rest_more, last_place_more}

serves_more : {S : Type 0} (sink : Ghosts S) (cs : List Call) (ss ts : List S) (c : Call) (s t : S) → Serves sink cs ss ts → Seen sink s t c → Serves sink (cs ++ c ∷ []) (ss ++ s ∷ []) (ts ++ t ∷ [])
serves_more sink [] ss ts c s t (none, none') sees = (s, [], t, [], ap (λ l. l ++ s ∷ []) none, ap (λ l. l ++ t ∷ []) none', sees, (refl, refl))
serves_more sink (c' ∷ cs) ss ts c s t (s', ss', t', ts', here, there, sees', on) sees =
    (s', ss' ++ s ∷ [], t', ts' ++ t ∷ [], ap (λ l. l ++ s ∷ []) here, ap (λ l. l ++ t ∷ []) there, sees', serves_more sink cs ss' ts' c s t on sees)

run_more : (d m p : ℕ) (cs : List Call) (c : Call) → Run d m p cs → Made d (last_rest m cs) (last_place p cs) c → Run d m p (cs ++ c ∷ [])
run_more d m p [] c run made = (made, tt)
run_more d m p (c' ∷ cs) c run made = (run.0, run_more d c'.rest' c'.place' cs c run.1 made)

-- a division that can go on stands for a rest below its whole
small : {X : Type 0} (g : counting.Ghosts X) (d : Division X) → SoundDivision g d → CanGoOn g d → g.number (rest_of d) < 10 ^ place_of d * g.number (divisor_of d)
small g (Whole s) sound can = sound.rest
small g (Fraction s) sound can = omega (arith, one-mul (g.number s.divisor))

-- what the law says of a refused run belongs to any run of calls; that the run leads where its start can go on is handed in
served : {X S : Type 0} (g : counting.Ghosts X) (sink : Ghosts S) (start after : Division X) (ss ts : List S) (cs : List Call) → Serves sink cs ss ts → Run (g.number (divisor_of start)) (g.number (rest_of start)) (place_of start) cs → last_rest (g.number (rest_of start)) cs ≡ g.number (rest_of after) → last_place (place_of start) cs ≡ place_of after → divisor_of after ≡ divisor_of start → SoundDivision g after → (CanGoOn g start → Leading (g.number (rest_of start)) (g.number (divisor_of start)) (place_of start) cs) → Served g sink start ss ts after
served g sink start after ss ts cs serves run rest place divisor sound leading =
    record {
      calls = cs;
      serves = serves;
      run = run;
      rest = rest;
      place = place;
      divisor = divisor;
      sound = sound;
      leading = leading;
      refused = λ none large. (one_expansion (g.number (divisor_of start)) (g.number (rest_of start)) (place_of start) cs run).1 none large;
    }

pub served_none : {X S : Type 0} (g : counting.Ghosts X) (sink : Ghosts S) (start : Division X) → SoundDivision g start → Served g sink start [] [] start
served_none g sink start sound =
    served g sink start start [] [] [] (refl, refl) tt refl refl refl sound
    (λ can. leading (g.number (rest_of start)) (g.number (divisor_of start)) (place_of start) [] (small g start sound can) tt)

pub served_more : {X S : Type 0} (g : counting.Ghosts X) (sink : Ghosts S) (start mid after : Division X) (ss ts : List S) (s t : S) → Served g sink start ss ts mid → Steps g sink mid s t after → Served g sink start (ss ++ s ∷ []) (ts ++ t ∷ []) after
served_more g sink start mid after ss ts s t before step =
    let m : ℕ = g.number (rest_of start) in
    let p : ℕ = place_of start in
    let made : Made (g.number (divisor_of start)) (last_rest m before.calls) (last_place p before.calls) step.call =
    rw (before.rest, before.place, ap g.number (sym before.divisor)) step.made in
    served g sink start after (ss ++ s ∷ []) (ts ++ t ∷ []) (before.calls ++ step.call ∷ [])
    (serves_more sink before.calls ss ts step.call s t before.serves step.sees)
    (run_more (g.number (divisor_of start)) m p before.calls step.call before.run made)
    (last_rest_more m before.calls (step.call ∷ []) ∙ step.rest)
    (last_place_more p before.calls (step.call ∷ []) ∙ step.place)
    (step.divisor ∙ before.divisor)
    step.sound
    (λ can. leading_more m (g.number (divisor_of start)) p before.calls step.call (before.leading can) made)

-- One call, by its kind and by the divisions before and after.
pub steps : {X S : Type 0} (g : counting.Ghosts X) (sink : Ghosts S) (before before' : Division X) (s t : S) (after : Division X) (kind : Kind) → before' ≡ before → sink.on s t → divisor_of after ≡ divisor_of before → SoundDivision g after → Made (g.number (divisor_of before)) (g.number (rest_of before)) (place_of before) (called sink kind s t (g.number (rest_of after)) (place_of after)) → Steps g sink before' s t after
steps g sink before before' s t after kind same on divisor sound made =
    subst (λ b. Steps g sink b s t after) (sym same) (record {
      call = called sink kind s t (g.number (rest_of after)) (place_of after);
      sees = record { step = refl; before = refl; after = refl; on = on };
      made = made;
      rest = refl;
      place = refl;
      divisor = divisor;
      sound = sound;
    })

-- A call on the whole part.
pub integrated : {X S : Type 0} (g : counting.Ghosts X) (sink : Ghosts S) (before : Division X) (state : IntegralState X) (s t : S) (after : Division X) → before ≡ Whole state
    → Integrates g sink state s t after → Steps g sink before s t after
integrated g sink before state s t (Whole a) same went =
    steps g sink (Whole state) before s t (Whole a) whole same went.4 went.1 went.2 went.3
integrated g sink before state s t (Fraction a) same went =
    steps g sink (Whole state) before s t (Fraction a) whole same went.4 went.1 tt went.3
