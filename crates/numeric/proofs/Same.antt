-- Equal fractions are written as equal packages.
use Rattle.std.proofs.Common.{◌≡◌, ℕ, ◌*◌, ◌/◌, ◌%◌, ◌^◌, ◌<◌, eqb, sym, ap, ◌∙◌, ap₂, ⊎_elim, mul_comm, mul-pos, div-add-mod', zero-mul, mul_right_comm, arith}
use native.Mathlib.Nat.{mul-div-mul_right, mul-mod_left, eq_of_mul-eq-mul_right}
use Rattle.std.proofs.lemmas.Bool.{cases_eq, eq-eqb, ne_eqb, cond-true, cond-false}
use Rattle.generic.specs.declared.sign.Sign.{Sign}
use Rattle.fraction.specs.Meaning.{rational}
use Rattle.numeric.specs.Cut.{cut, scale_of, Ends}
use Rattle.numeric.specs.Package.{Package, written, bare, plus_word, sign_word, package_of, cut_package, precision_in_force}
use Rattle.numeric.proofs.Cut.{scale_is, scale_unique}

-- both sides of an equal fraction, times x
raised : (n d n' d' x : ℕ) → n' * d ≡ n * d' → n' * x * d ≡ n * x * d'
raised n d n' d' x same = mul_right_comm n' x d ∙ ap (λ y. y * x) same ∙ mul_right_comm n d' x

pub cut_same : (n d n' d' s : ℕ) → 0 < d → 0 < d' → n' * d ≡ n * d' → cut n' d' s ≡ cut n d s
cut_same n d n' d' s pos pos' same =
    let x : ℕ = 10 ^ s in
    sym (mul-div-mul_right (n' * x) d' pos)
    ∙ ap (λ y. y / (d' * d)) (raised n d n' d' x same)
    ∙ ap (λ y. n * x * d' / y) (mul_comm d' d)
    ∙ mul-div-mul_right (n * x) d pos'

ends_same : (n d n' d' s : ℕ) → 0 < d → n' * d ≡ n * d' → Ends n d s → Ends n' d' s
ends_same n d n' d' s pos same z =
    let m : ℕ = n * 10 ^ s in
    let c : ℕ = m / d in
    let all : c * d ≡ m = omega (arith, div-add-mod' m d) in
    let e : c * d' ≡ n' * 10 ^ s =
    eq_of_mul-eq-mul_right d pos (c * d') (n' * 10 ^ s)
    (mul_right_comm c d' d ∙ ap (λ y. y * d') all ∙ sym (raised n d n' d' (10 ^ s) same)) in
    ap (λ y. y % d') (sym e) ∙ mul-mod_left c d'

pub scale_same : (n d n' d' p : ℕ) → 0 < d → 0 < d' → n' * d ≡ n * d' → scale_of n' d' p ≡ scale_of n d p
scale_same n d n' d' p pos pos' same =
    let s = scale_is n' d' p in
    scale_unique n d p (scale_of n' d' p) (scale_of n d p)
    record {
      within = s.within;
      goes_on = λ t lt e. s.goes_on t lt (ends_same n d n' d' t pos same e);
      stops = λ lt. ends_same n' d' n d (scale_of n' d' p) pos' (sym same) (s.stops lt);
    }
    (scale_is n d p)

-- the fraction is 0 in both or in neither
zero_same : (n d n' d' : ℕ) → 0 < d → n' * d ≡ n * d' → n ≡ 0 → n' ≡ 0
zero_same n d n' d' pos same z = ⊎_elim
    (λ e. e)
    (λ some. absurd (omega (arith, mul-pos {m = n'} (omega arith) pos, ap (λ y. y * d') z, zero-mul d')))
    (cases_eq n' 0)

pub written_same : (sign : Sign) (n d n' d' p : ℕ) → 0 < d → 0 < d' → n' * d ≡ n * d' → written (rational sign n' d') p ≡ written (rational sign n d) p
unfolding written
written_same sign n d n' d' p pos pos' same =
    let q : ℕ = precision_in_force p in
    let none : Package = bare plus_word in
    let one : Package = cut_package sign n d (scale_of n d q) in
    let two : Package = cut_package sign n' d' (scale_of n' d' q) in
    let scale : scale_of n' d' q ≡ scale_of n d q = scale_same n d n' d' q pos pos' same in
    let cuts : cut n' d' (scale_of n' d' q) ≡ cut n d (scale_of n d q) =
    cut_same n d n' d' (scale_of n' d' q) pos pos' same ∙ ap (cut n d) scale in
    ⊎_elim
    (λ z. cond-true (eqb n' 0) none two (eq-eqb n' 0 (zero_same n d n' d' pos same z)) ∙ sym (cond-true (eqb n 0) none one (eq-eqb n 0 z)))
    (λ nz.
    cond-false (eqb n' 0) none two (ne_eqb n' 0 (λ z. nz (zero_same n' d' n d pos' (sym same) z)))
    ∙ ap₂ (package_of (sign_word sign)) cuts scale
    ∙ sym (cond-false (eqb n 0) none one (ne_eqb n 0 nz)))
    (cases_eq n 0)
