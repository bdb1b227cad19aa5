-- The groups that stand in a buffer are those of the package.
use Rattle.std.proofs.Common.{◌≡◌, ℕ, zero, suc, ◌+◌, ◌-◌, ◌*◌, ◌/◌, ◌%◌, ◌^◌, ◌<◌, ◌≤◌, min, List, sym, refl, ap, ◌∙◌, subst, ⊎_elim, mul-le-mul_right, mod-eq_of_lt, mul_assoc, mul_comm, one-mul, le-div_iff_mul-le, mul-one, mul-div_cancel, arith, rules, pow-add, Ok, Err, Result, IsOk}
use native.Mathlib.Nat.{one-le-pow, div-div-eq-div-mul}
use Rattle.std.specs.Int.Digits.{number_from_digits}
use Rattle.std.specs.List.{flat_map}
use Rattle.std.proofs.lemmas.Bool.{cases_lt}
use Rattle.generic.specs.declared.counting.CountingNumber.{Ghosts}
use Rattle.division.specs.Digits.{fed, shifted}
use Rattle.division.specs.Expansion.{digits, rest, coming}
use Rattle.division.specs.Faults.{Cause}
use Rattle.division.specs.Whole.{Width, Integrates}
use Rattle.division.specs.declared.state.Division.{Division}
use Rattle.division.specs.declared.state.Division.TheVariants.{Whole, Fraction}
use Rattle.division.specs.declared.integral_state.IntegralState.{IntegralState}
use Rattle.division.specs.Resume.{Resumes}
use Rattle.division.specs.declared.sink.DigitSink as DigitSink
use Rattle.division.specs.declared.state.Resumed.{Resumed}
use Rattle.division.specs.declared.state.Refused.{Refused}
use Rattle.division.specs.declared.fault.DivisionFault.{DivisionFault}
use Rattle.division.specs.declared.fault.DivisionFault.TheVariants.{ZeroDivisor, RemainderNotBelow}
use Rattle.numeric.specs.Buffer.{placed}
use Rattle.numeric.specs.Bytes.{word_bytes}
use Rattle.numeric.specs.Cut.{cut}
use Rattle.numeric.specs.Package.{fours, filled, groups_of}
use Rattle.numeric.proofs.Cut.{rest_is}
use Rattle.numeric.proofs.Held.{held_below, held_whole}
use Rattle.numeric.proofs.Numbers.{pow_fours}
use Rattle.numeric.proofs.Proper.{groups_fraction, groups_whole}
use Rattle.numeric_write.specs.Laid.{Laid, Finished, filler}
use Rattle.numeric_write.specs.Sink.{Goes, groups}
use Rattle.numeric_write.specs.declared.group_sink.GroupSink.{GroupSink}
use Rattle.numeric_write.proofs.Filling.{laid_none}

-- THE FRACTION BELOW 1

-- its whole part is the lone 0
pub lone_zero : (n d w : ℕ) → n < d → Width n d w → w ≡ 1
lone_zero n d w lt is = ⊎_elim
    (λ more. absurd (omega (arith, is.no_zero more, one-mul d, mul-le-mul_right d (one-le-pow (w - 1) 10 (omega arith)))))
    (λ le. omega (arith, is.some))
    (cases_lt 1 w)

pub lone_rest : (n d w : ℕ) → n < d → w ≡ 1 → rest d n w 1 ≡ n
lone_rest n d w lt one = ap (λ p. rest d n p 1) one ∙ ap (λ x. n % x) (one-mul d) ∙ mod-eq_of_lt lt

-- fewer digits than come
pub coming_less : (d r p k : ℕ) → k ≤ coming d r p → coming d r k ≡ k
coming_less d r p zero h = refl
coming_less d r zero (suc k) h = absurd (omega arith)
coming_less d zero (suc p) (suc k) h = absurd (omega arith)
coming_less d (suc r) (suc p) (suc k) h = ap suc (coming_less d (10 * suc r % d) p k (omega arith))

-- of k + l digits that come, l come after the first k
pub coming_rest : (d r k l : ℕ) → coming d r (k + l) ≡ k + l → coming d (rest d r 0 k) l ≡ l
coming_rest d r zero l h =
    let e : zero + l ≡ l = omega arith in
    ap (coming d r) (sym e) ∙ h ∙ e
coming_rest d zero (suc k) l h =
    let e : suc k + l ≡ suc (k + l) = omega arith in
    let none : coming d zero (suc k + l) ≡ 0 = ap (coming d zero) e in
    absurd (omega arith)
coming_rest d (suc r) (suc k) l h =
    let e : suc k + l ≡ suc (k + l) = omega arith in
    let more : suc (coming d (10 * suc r % d) (k + l)) ≡ suc k + l = sym (ap (coming d (suc r)) e) ∙ h in
    coming_rest d (10 * suc r % d) k l (omega arith)

pub rest_below : (n d k : ℕ) → n < d → n * 10 ^ k < d → rest d n 0 k ≡ n * 10 ^ k
rest_below n d k lt small = ap (λ x. rest d x 0 k) (sym (mod-eq_of_lt lt)) ∙ rest_is d n k ∙ mod-eq_of_lt small

-- the digits after k zeros form the cut number
pub held_after : (n d k s : ℕ) → n < d → n * 10 ^ k < d → k ≤ s → fed shifted 0 (digits d (rest d n 0 k) 0 (s - k)) ≡ cut n d s
held_after n d k s lt small le =
    let sum : k + (s - k) ≡ s = omega arith in
    let is = rest_below n d k lt small in
    held_below (rest d n 0 k) d (s - k) (subst (λ x. x < d) (sym is) small)
    ∙ ap (λ x. x * 10 ^ (s - k) / d) is
    ∙ ap (λ x. x / d) (mul_assoc n (10 ^ k) (10 ^ (s - k)) ∙ ap (λ x. n * x) (sym (pow-add 10 k (s - k)) ∙ ap (λ x. 10 ^ x) sum))

-- WHAT STANDS IN THE BUFFER

pub put_fraction : (before after : List ℕ) (Q s h places : ℕ) → 0 < s → Finished before after (h * 10 ^ filler places) → h ≡ Q → places ≡ s % 4
    → after ≡ placed before 0 (flat_map word_bytes (groups_of Q s))
put_fraction before after Q s h places some f is end =
    let zeros : filler places ≡ 4 * fours s - s = omega arith in
    let value : number_from_digits 10000 f.laid.groups ≡ filled Q s = f.value ∙ ap (λ x. x * 10 ^ filler places) is ∙ ap (λ x. Q * 10 ^ x) zeros in
    f.laid.bytes ∙ ap (λ gs. placed before 0 (flat_map word_bytes gs)) (sym (groups_fraction Q s f.laid.groups some f.laid.proper value))

pub put_number : (before after : List ℕ) (Q t h places : ℕ) → 0 < Q → Finished before after (h * 10 ^ filler places) → places ≡ 0 → h * 10000 ^ t ≡ Q → (h % 10000 ≡ 0 → ⊥)
    → after ≡ placed before 0 (flat_map word_bytes (groups_of Q 0))
put_number before after Q t h places some f end is last =
    let value : number_from_digits 10000 f.laid.groups ≡ h = f.value ∙ ap (λ x. h * 10 ^ filler x) end ∙ mul-one h in
    f.laid.bytes
    ∙ ap (λ gs. placed before 0 (flat_map word_bytes gs))
    (sym (groups_whole Q t f.laid.groups some f.laid.proper (ap (λ x. x * 10000 ^ t) value ∙ is) (λ z. last (ap (λ x. x % 10000) (sym value) ∙ z))))

-- A SINK FROM ITS FIRST DIGIT TO ITS END

-- what a sink that begins in the buffer b leaves there, once it has come from s to t and is finished
abbrev EndsAs : GroupSink → List ℕ → Type 0
EndsAs t after = (before : List ℕ) → Laid before t.buffer.now t.count → Finished before after (groups.held t * 10 ^ filler t.places)

-- the places taken at the end, of a sink that began with f and took k digits
end_places : (s t : GroupSink) (f k : ℕ) → Goes s t → s.taken ≡ 0 → s.places ≡ f → t.taken ≡ k → t.places ≡ (f + k) % 4
end_places s t f k on none first all = omega (arith, on.step, t.open)

laid_first : (b : List ℕ) (s t : GroupSink) → Goes s t → s.buffer.now ≡ b → s.count ≡ 0 → Laid b t.buffer.now t.count
laid_first b s t on same none = on.laid b (subst (λ x. Laid b x s.count) (sym same) (subst (Laid b b) (sym none) (laid_none b)))

pub ended_fraction : (b : List ℕ) (s t : GroupSink) (after : List ℕ) (Q sc f k : ℕ)
    → Goes s t → s.buffer.now ≡ b → s.count ≡ 0 → s.taken ≡ 0 → s.places ≡ f → t.taken ≡ k → groups.held t ≡ Q → 0 < sc → (f + k) % 4 ≡ sc % 4 → EndsAs t after
    → after ≡ placed b 0 (flat_map word_bytes (groups_of Q sc))
ended_fraction b s t after Q sc f k on same none start first all is some aligned ends =
    put_fraction b after Q sc (groups.held t) t.places some (ends b (laid_first b s t on same none)) is (end_places s t f k on start first all ∙ aligned)

pub ended_number : (b : List ℕ) (s t : GroupSink) (after : List ℕ) (Q z f k : ℕ)
    → Goes s t → s.buffer.now ≡ b → s.count ≡ 0 → s.taken ≡ 0 → s.places ≡ f → t.taken ≡ k → 0 < Q → (f + k) % 4 ≡ 0 → groups.held t * 10000 ^ z ≡ Q → (groups.held t % 10000 ≡ 0 → ⊥) → EndsAs t after
    → after ≡ placed b 0 (flat_map word_bytes (groups_of Q 0))
ended_number b s t after Q z f k on same none start first all some aligned is last ends =
    put_number b after Q z (groups.held t) t.places some (ends b (laid_first b s t on same none)) (end_places s t f k on start first all ∙ aligned) is last

-- A division whose remainder is below its divisor is not refused.
pub not_refused : (f : DivisionFault) (d m : ℕ) → m < d → Cause f d m → ⊥
not_refused ZeroDivisor d m lt c = omega arith
not_refused RemainderNotBelow d m lt c = omega (arith, c.1)

pub accepted : {X S : Type 0} (t : Ghosts X) (sink : DigitSink.Ghosts S) (m d : X) (a b : S) (r : Result (Resumed X) (Refused X)) → t.number m < t.number d → Resumes t sink m d a b r → IsOk r
accepted t sink m d a b (Ok x) lt i = search rules
accepted t sink m d a b (Err x) lt i = absurd (not_refused x.fault (t.number d) (t.number m) lt i.2.1)

-- THE WHOLE PART

-- what going on with the whole part makes of a sink, whether it is paused or ends
pub integrated : {X S : Type 0} (t : Ghosts X) (sink : DigitSink.Ghosts S) (s : IntegralState X) (a b : S) (x : Division X) → Integrates t sink s a b x
    → (sink.taken b ≡ sink.taken a + min (sink.left a) s.place)
    × (sink.held b ≡ fed sink.step (sink.held a) (digits (t.number s.divisor) (t.number s.rest) s.place (min (sink.left a) s.place)))
    × sink.on a b
integrated t sink s a b (Whole x) i = (i.3.1.taken, i.3.1.held, i.4)
integrated t sink s a b (Fraction x) i = (i.3.1.taken, i.3.1.held, i.4)

-- without the zeros at its end a whole number is its front
pub held_front : (n d w z front : ℕ) → 0 < d → n < 10 ^ w * d → 4 * z < w → front * 10000 ^ z ≡ n / d → fed shifted 0 (digits d n w (w - 4 * z)) ≡ front
held_front n d w z front h lt few is =
    let back : w - (w - 4 * z) ≡ 4 * z = omega arith in
    held_whole n d w (w - 4 * z) h lt (omega arith)
    ∙ ap (λ x. n / (10 ^ x * d)) back
    ∙ ap (λ x. n / (x * d)) (sym (pow_fours z))
    ∙ ap (λ x. n / x) (mul_comm (10000 ^ z) d)
    ∙ sym (div-div-eq-div-mul n d (10000 ^ z))
    ∙ ap (λ x. x / 10000 ^ z) (sym is)
    ∙ mul-div_cancel front (one-le-pow z 10000 (omega arith))

pub whole_some : (n d : ℕ) → 0 < d → d ≤ n → 0 < n / d
whole_some n d h le = (le-div_iff_mul-le {x = 1} {y = n} h).1 (omega (arith, one-mul d))

pub whole_cut : (n d : ℕ) → cut n d 0 ≡ n / d
whole_cut n d = ap (λ x. x / d) (mul-one n)

-- ROOM FOR THE DIGITS

pub left_mixed : (w s f digits' len left : ℕ) → f ≡ (4 - w % 4) % 4 → digits' ≡ w + s → 2 * (fours w + fours s) ≤ len → left ≡ min digits' (4 * (len / 2) - f % 4) → left ≡ w + s
left_mixed w s f digits' len left first all room is =
    let four : f + w ≡ 4 * fours w = omega arith in
    omega arith

pub left_whole : (w z f digits' len left : ℕ) → f ≡ (4 - digits' % 4) % 4 → digits' + 4 * z ≡ w → 2 * (fours w - z) ≤ len → left ≡ min digits' (4 * (len / 2) - f % 4) → left ≡ digits'
left_whole w z f digits' len left first all room is =
    let four : f + digits' ≡ 4 * fours digits' = omega arith in
    let same : fours w ≡ fours digits' + z = omega arith in
    omega arith

pub aligned_mixed : (w s f : ℕ) → f ≡ (4 - w % 4) % 4 → (f % 4 + (w + s)) % 4 ≡ s % 4
aligned_mixed w s f first = omega arith

pub aligned_whole : (k f : ℕ) → f ≡ (4 - k % 4) % 4 → (f % 4 + k) % 4 ≡ 0
aligned_whole k f first = omega arith
