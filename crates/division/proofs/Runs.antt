-- The law over runs.
use Rattle.std.proofs.Common.{◌≡◌, ℕ, zero, suc, ◌+◌, ◌-◌, ◌*◌, ◌/◌, ◌%◌, ◌^◌, ◌<◌, ◌≤◌, min, List, [], ◌∷◌, ◌++◌, length, sym, refl, ap, ◌∙◌, suc-add, one-mul, zero-add, arith}
use Rattle.std.proofs.lemmas.List.{append-nil, append_assoc}
use Rattle.division.specs.Expansion.{digits, rest, coming, Went}
use Rattle.division.specs.Faults.{Cause}
use Rattle.division.specs.Laws.{StandsStill}
use Rattle.division.specs.Runs.{Kind, whole, fraction, refused, Call, MadeBy, Made, Run, total, last_rest, last_place, Shared, Goes, EachGoes}
use Rattle.division.specs.Tally.{Same, Took}
use Rattle.division.specs.declared.fault.DivisionFault.{DivisionFault}
use Rattle.division.specs.declared.fault.DivisionFault.TheVariants.{ZeroDivisor, RemainderNotBelow}
use Rattle.division.proofs.Decimals.{below}

-- From the rest m at the place p on: no call is refused, the sinks took the next digits, each once and in order, and the
-- state handed back last is the one after them.
pub record GoesOn (d m p : ℕ) (cs : List Call) : Type 0 where
  pub kinds : EachGoes cs
  pub shared : Shared (digits d m p (total cs)) cs
  pub state : last_rest m cs ≡ rest d m p (total cs)
  pub place : last_place p cs ≡ p - total cs

-- Whatever the calls and their sinks: a division that stands for a rest below its whole goes on, and one in its fraction whose
-- remainder is not below the divisor, 0 among the divisors, stands still.
abbrev pub OneExpansion : Type 0
OneExpansion =
    (d m p : ℕ) (cs : List Call) → Run d m p cs → (m < 10 ^ p * d → GoesOn d m p cs) × (p ≡ 0 → d ≤ m → StandsStill d m cs)

-- The place after k digits, by recursion.
abbrev place : ℕ → ℕ → ℕ
place p zero = p
place zero (suc k) = place zero k
place (suc p) (suc k) = place p k

place_is : (p k : ℕ) → place p k ≡ p - k
place_is p zero = omega arith
place_is zero (suc k) = place_is zero k ∙ omega arith
place_is (suc p) (suc k) = place_is p k ∙ omega arith

digits_join : (d m p j k : ℕ) → digits d m p (j + k) ≡ digits d m p j ++ digits d (rest d m p j) (place p j) k
digits_join d m p zero k = ap (digits d m p) (zero-add k)
digits_join d m zero (suc j) k = rw (suc-add) (ap (λ ds. (10 * m / d) ∷ ds) (digits_join d (10 * m % d) zero j k))
digits_join d m (suc p) (suc j) k = rw (suc-add) (ap (λ ds. (m / (10 ^ p * d)) ∷ ds) (digits_join d (m % (10 ^ p * d)) p j k))

rest_join : (d m p j k : ℕ) → rest d m p (j + k) ≡ rest d (rest d m p j) (place p j) k
rest_join d m p zero k = ap (rest d m p) (zero-add k)
rest_join d m zero (suc j) k = rw (suc-add) (rest_join d (10 * m % d) zero j k)
rest_join d m (suc p) (suc j) k = rw (suc-add) (rest_join d (m % (10 ^ p * d)) p j k)

pub length_digits : (d m p k : ℕ) → length (digits d m p k) ≡ k
length_digits d m p zero = refl
length_digits d m zero (suc k) = ap suc (length_digits d (10 * m % d) zero k)
length_digits d m (suc p) (suc k) = ap suc (length_digits d (m % (10 ^ p * d)) p k)

-- What one call that goes on comes to: its sink took the next digits, and the state is the one after them.
record One (d m p : ℕ) (c : Call) : Type 0 where
  took : Took c.step c.before (digits d m p (c.after.taken - c.before.taken)) c.after
  state : c.rest' ≡ rest d m p (c.after.taken - c.before.taken)
  at : c.place' ≡ p - (c.after.taken - c.before.taken)

one_went : (d m p k : ℕ) (c : Call) → Went c.step d m p k c.before c.after c.rest' c.place' → One d m p c
one_went d m p k c w =
    let e : c.after.taken - c.before.taken ≡ k = omega (arith, w.taken) in
    let n = length_digits d m p k in
    record {
      took = rw e (record { taken = omega (arith, w.taken); left = omega (arith, w.left); held = w.held });
      state = rw e w.state;
      at = rw e w.place;
    }

-- A rest below its whole gives no cause to refuse.
no_cause : (f : DivisionFault) (d m p : ℕ) → p ≡ 0 → m < 10 ^ p * d → Cause f d m → ⊥
no_cause ZeroDivisor d m p z h cause = let i : m < 10 ^ 0 * d = rw z at h in omega (arith, one-mul d)
no_cause RemainderNotBelow d m p z h cause = let i : m < 10 ^ 0 * d = rw z at h in omega (arith, one-mul d)

one_made : (kind : Kind) (d m p : ℕ) (c : Call) → m < 10 ^ p * d → MadeBy kind d m p c → Goes kind × One d m p c
one_made whole d m p c h made = (tt, one_went d m p (min c.before.left p) c made.1)
one_made fraction d m p c h made = (tt, rw made.0 (one_went d m 0 (coming d m c.before.left) c made.2))
one_made (refused f) d m p c h made = absurd (no_cause f d m p made.0 h made.1)

-- A call on a rest below its whole is a run that goes on.
pub goes_one : (d m p : ℕ) (c : Call) → m < 10 ^ p * d → Made d m p c → GoesOn d m p (c ∷ [])
goes_one d m p c h made =
    let goes = one_made c.kind d m p c h made in
    let one = goes.1 in
    let e : total (c ∷ []) ≡ c.after.taken - c.before.taken = omega arith in
    let ds : List ℕ = digits d m p (total (c ∷ [])) in
    record {
      kinds = (goes.0, tt);
      shared = (ds, [], sym (append-nil ds), rw e one.took, refl);
      state = rw e one.state;
      place = rw e one.at;
    }

-- What a run of some calls and then more comes to.
each_goes_more : (cs cs' : List Call) → EachGoes cs → EachGoes cs' → EachGoes (cs ++ cs')
each_goes_more [] cs' each each' = each'
each_goes_more (c ∷ cs) cs' each each' = (each.0, each_goes_more cs cs' each.1 each')

shared_more : (ds ds' : List ℕ) (cs cs' : List Call) → Shared ds cs → Shared ds' cs' → Shared (ds ++ ds') (cs ++ cs')
shared_more ds ds' [] cs' none on = rw none on
shared_more ds ds' (c ∷ cs) cs' (xs, ys, cut, took, rest) on =
    (xs, ys ++ ds', ap (λ l. l ++ ds') cut ∙ append_assoc xs ys ds', took, shared_more ys ds' cs cs' rest on)

total_more : (cs cs' : List Call) → total (cs ++ cs') ≡ total cs + total cs'
total_more [] cs' = omega arith
total_more (c ∷ cs) cs' = omega (arith, total_more cs cs')

pub last_rest_more : (m : ℕ) (cs cs' : List Call) → last_rest m (cs ++ cs') ≡ last_rest (last_rest m cs) cs'
last_rest_more m [] cs' = refl
last_rest_more m (c ∷ cs) cs' = last_rest_more c.rest' cs cs'

pub last_place_more : (p : ℕ) (cs cs' : List Call) → last_place p (cs ++ cs') ≡ last_place (last_place p cs) cs'
last_place_more p [] cs' = refl
last_place_more p (c ∷ cs) cs' = last_place_more c.place' cs cs'

-- One run that goes on, and one that goes on from where it ended, are one that goes on.
pub goes_more : (d m p : ℕ) (cs cs' : List Call) → GoesOn d m p cs → GoesOn d (last_rest m cs) (last_place p cs) cs' → GoesOn d m p (cs ++ cs')
goes_more d m p cs cs' here there =
    let j : ℕ = total cs in
    let k : ℕ = total cs' in
    let r : ℕ = last_rest m cs in
    let q : ℕ = last_place p cs in
    let count : total (cs ++ cs') ≡ j + k = total_more cs cs' in
    let at : place p j ≡ q = place_is p j ∙ sym here.place in
    let join : digits d m p (j + k) ≡ digits d m p j ++ digits d r q k = rw (here.state, sym at) (digits_join d m p j k) in
    let join_rest : rest d m p (j + k) ≡ rest d r q k = rw (here.state, sym at) (rest_join d m p j k) in
    record {
      kinds = each_goes_more cs cs' here.kinds there.kinds;
      shared = rw (count, join) (shared_more (digits d m p j) (digits d r q k) cs cs' here.shared there.shared);
      state = last_rest_more m cs cs' ∙ there.state ∙ sym join_rest ∙ ap (rest d m p) (sym count);
      place = last_place_more p cs cs' ∙ there.place ∙ omega (arith, here.place, count);
    }

-- A run that goes on from a rest below its whole comes to a rest below its whole.
pub stays_below : (d m p : ℕ) (cs : List Call) → GoesOn d m p cs → m < 10 ^ p * d → last_rest m cs < 10 ^ last_place p cs * d
stays_below d m p cs on h = rw (on.state, on.place) (below d (total cs) m p h)

goes_on : (d m p : ℕ) (cs : List Call) → Run d m p cs → m < 10 ^ p * d → GoesOn d m p cs
goes_on d m p [] run h = record { kinds = tt; shared = refl; state = refl; place = omega arith }
goes_on d m p (c ∷ cs) run h =
    let one = goes_one d m p c h run.0 in
    goes_more d m p (c ∷ []) cs one (goes_on d c.rest' c.place' cs run.1 (stays_below d m p (c ∷ []) one h))

-- What one call comes to where the remainder is not below the divisor.
record Still (d m : ℕ) (kind : Kind) (c : Call) : Type 0 where
  refusal : (f : DivisionFault) × (kind ≡ refused f) × Cause f d m
  same : Same c.before c.after
  state : c.rest' ≡ m
  at : c.place' ≡ 0

still_made : (kind : Kind) (d m p : ℕ) (c : Call) → p ≡ 0 → d ≤ m → MadeBy kind d m p c → Still d m kind c
still_made whole d m p c z h made = absurd (omega (arith, made.0))
still_made fraction d m p c z h made = absurd (omega (arith, made.1))
still_made (refused f) d m p c z h made = record { refusal = (f, refl, made.1); same = made.2; state = made.3; at = made.4 }

stands_still : (d m : ℕ) (cs : List Call) → Run d m 0 cs → d ≤ m → StandsStill d m cs
stands_still d m [] run h = record { kinds = tt; none = refl; state = refl; place = refl }
stands_still d m (c ∷ cs) run h =
    let one = still_made c.kind d m 0 c refl h run.0 in
    let on = stands_still d m cs (rw (one.state, one.at) at run.1) h in
    record {
      kinds = (one.refusal.0, one.refusal.1, one.refusal.2, one.same, on.kinds);
      none = omega (arith, one.same.taken, on.none);
      state = rw one.state on.state;
      place = rw one.at on.place;
    }

pub one_expansion : OneExpansion
one_expansion d m p cs run = (λ h. goes_on d m p cs run h, λ z h. stands_still d m cs (rw z at run) h)
