-- No run of calls loses a digit.
use Rattle.std.proofs.Common.{◌≡◌, ℕ, ◌-◌, ◌*◌, ◌^◌, ◌<◌, ◌≤◌, ◌⊎◌, inl, inr, List, [], ◌∷◌, ◌++◌, sym, refl, ap, ◌∙◌, one-mul, mul-one, arith}
use Rattle.std.proofs.lemmas.Bool.{cases_lt}
use Rattle.division.specs.Expansion.{rest}
use Rattle.division.specs.Laws.{Leading, NoDigitLost}
use Rattle.division.specs.Runs.{Call, Made, Run, total, last_rest, last_place}
use Rattle.division.proofs.Decimals.{quotient, lesser}
use Rattle.division.proofs.Runs.{GoesOn, goes_one, goes_more, stays_below, last_rest_more, last_place_more, one_expansion}

-- No power of ten is left: n stands alone up to the end of the whole part, and the divisor from there on.
in_ones : (n j w : ℕ) → j ≤ w → n * 10 ^ (j - w) ≡ n
in_ones n j w le = let none : j - w ≡ 0 = omega arith in ap (λ e. n * 10 ^ e) none ∙ mul-one n

in_divisors : (d j w : ℕ) → w ≤ j → 10 ^ (w - j) * d ≡ d
in_divisors d j w le = let none : w - j ≡ 0 = omega arith in ap (λ e. 10 ^ e * d) none ∙ one-mul d

-- Whatever rest a run began with: it leads where it goes on and comes to a rest below its whole.
leads : (n d w : ℕ) (cs : List Call) → GoesOn d n w cs → last_rest n cs < 10 ^ last_place w cs * d → Leading n d w cs
leads n d w cs on below =
    let j : ℕ = total cs in
    let law = quotient d n w j in
    let small : last_rest n cs < 10 ^ (w - j) * d = rw on.place at below in
    record {
      kinds = on.kinds;
      shared = on.shared;
      place = on.place;
      whole = λ le. (sym (in_ones n j w le) ∙ rw on.state law, small);
      fraction = λ le.
          let unit = in_divisors d j w le in
          (rw on.state (rw unit at law), rw unit at small);
    }

pub leading : (n d w : ℕ) (cs : List Call) → n < 10 ^ w * d → Run d n w cs → Leading n d w cs
leading n d w cs small run =
    let on = (one_expansion d n w cs run).0 small in
    leads n d w cs on (stays_below d n w cs on small)

-- The equations of a run that leads fix the rest that it comes to, which is below its whole.
led : (n d w : ℕ) (cs : List Call) → Leading n d w cs → (total cs < w) ⊎ (w ≤ total cs) → (last_rest n cs ≡ rest d n w (total cs)) × (last_rest n cs < 10 ^ (w - total cs) * d)
led n d w cs l (inl before) =
    let j : ℕ = total cs in
    let is = l.whole (omega arith) in
    let unit = in_ones n j w (omega arith) in
    (omega (arith, unit, quotient d n w j, is.0), is.1)
led n d w cs l (inr past) =
    let j : ℕ = total cs in
    let is = l.fraction past in
    let unit = in_divisors d j w past in
    let law = rw unit at (quotient d n w j) in
    (omega (arith, law, is.0), rw unit is.1)

-- A run that leads does so with one call more.
pub leading_more : (n d w : ℕ) (cs : List Call) (c : Call) → Leading n d w cs → Made d (last_rest n cs) (last_place w cs) c → Leading n d w (cs ++ c ∷ [])
leading_more n d w cs c l made =
    let r : ℕ = last_rest n cs in
    let q : ℕ = last_place w cs in
    let is = led n d w cs l (cases_lt (total cs) w) in
    let small : r < 10 ^ q * d = rw l.place is.1 in
    let on : GoesOn d n w cs = record { kinds = l.kinds; shared = l.shared; state = is.0; place = l.place } in
    let one = goes_one d r q c small made in
    leads n d w (cs ++ c ∷ []) (goes_more d n w cs (c ∷ []) on one)
    (rw (last_rest_more n cs (c ∷ []), last_place_more w cs (c ∷ [])) (stays_below d r q (c ∷ []) one small))

pub no_digit_lost : NoDigitLost
no_digit_lost =
    record {
      opened = λ n d w cs width run. leading n d w cs width.enough run;
      begun = λ r d cs run small. leading r d 0 cs (omega (arith, one-mul d)) run;
      refused = λ r d cs run large. (one_expansion d r 0 cs run).1 refl large;
      lesser = lesser;
    }
