use Rattle.std.proofs.Common.{◌≡◌, ℕ, ◌/◌, ◌<◌, sym, ◌∙◌, subst, arith}
use Rattle.numeric_write.specs.Measure.{Sized}
use Rattle.numeric_write.proofs.Measuring.{apart, below_is, below_rest, above_is, sized_as, scale_from, scale_some, scale_within, sized_quotient, sized_mixed}
use Rattle.numeric_write.proofs.measure.measure.Goals as goal

pub below_one-requires : goal.below_one-requires
below_one-requires g c =
    let n : ℕ = g.T.CountingNumber.number c.args.ratio.numer in
    let d : ℕ = g.T.CountingNumber.number c.args.ratio.denom in
    let divided = rw (c.numer-n.ensures, c.denom-d.ensures) at (rw c.unwrap-whole.ensures at c.div_rem.ensures) in
    let length = rw c.denom-d.ensures at c.fraction_length-scale.ensures in
    let small : n < d = below_is n d c.requires.denom (sym divided.1 ∙ c.is_zero.ensures.0 c.if-is_zero.true) in
    let r : ℕ = g.T.CountingNumber.number c.unwrap-whole.result.1 in
    let rest : r ≡ n = divided.2 ∙ below_rest n d small in
    rw (c.numer-n.ensures, c.denom-d.ensures) record {
      fraction = (c.requires.some, small);
      scale = (omega (arith, scale_some d r c.args.precision.digits (omega (arith, c.requires.some)) c.args.precision.some), omega (arith, scale_within d r c.args.precision.digits, c.args.precision.most));
    }

pub returns-then-is_zero : goal.returns-then-is_zero
returns-then-is_zero g c =
    let n : ℕ = g.T.CountingNumber.number c.args.ratio.numer in
    let d : ℕ = g.T.CountingNumber.number c.args.ratio.denom in
    let divided = rw (c.numer-n.ensures, c.denom-d.ensures) at (rw c.unwrap-whole.ensures at c.div_rem.ensures) in
    let length = rw c.denom-d.ensures at c.fraction_length-scale.ensures in
    let r : ℕ = g.T.CountingNumber.number c.unwrap-whole.result.1 in
    let is = c.below_one.result in
    let sized = rw (c.numer-n.ensures, c.denom-d.ensures) at c.below_one.ensures.1 in
    let same = c.below_one.ensures.0 in
    record {
      scale = same ∙ scale_from n d c.args.precision.digits r c.fraction_length-scale.result divided.2 length;
      sized = subst (λ s. Sized n d c.args.places s is.shape is.groups is.weight) (sym same) (sized c.args.places);
    }

pub returns-then-scale-eq0 : goal.returns-then-scale-eq0
returns-then-scale-eq0 g c =
    let n : ℕ = g.T.CountingNumber.number c.args.ratio.numer in
    let d : ℕ = g.T.CountingNumber.number c.args.ratio.denom in
    let divided = rw (c.numer-n.ensures, c.denom-d.ensures) at (rw c.unwrap-whole.ensures at c.div_rem.ensures) in
    let length = rw c.denom-d.ensures at c.fraction_length-scale.ensures in
    let x : ℕ = g.T.CountingNumber.number c.unwrap-whole.result.0 in
    let r : ℕ = g.T.CountingNumber.number c.unwrap-whole.result.1 in
    let w : ℕ = c.args.places in
    let is = c.whole_number.result in
    let some : x ≡ 0 → ⊥ = λ z. apart c.is_zero.result (c.is_zero.ensures.1 z) c.if-is_zero.false in
    let same = c.whole_number.ensures.0 in
    let quotient : Sized (n / d) 1 w 0 is.shape is.groups is.weight =
    subst (λ y. Sized y 1 w 0 is.shape is.groups is.weight) divided.1 c.whole_number.ensures.1 in
    let above : 0 < n / d = omega (arith, some, divided.1) in
    record {
      scale = same ∙ sym c.if-scale-eq0.true ∙ scale_from n d c.args.precision.digits r c.fraction_length-scale.result divided.2 length;
      sized = subst (λ s. Sized n d w s is.shape is.groups is.weight) (sym same) (sized_quotient n d w is.groups is.shape is.weight (above_is n d c.requires.denom above) above quotient);
    }

pub mixed-requires : goal.mixed-requires
mixed-requires g c =
    let d : ℕ = g.T.CountingNumber.number c.args.ratio.denom in
    let length = rw c.denom-d.ensures at c.fraction_length-scale.ensures in
    let r : ℕ = g.T.CountingNumber.number c.unwrap-whole.result.1 in
    (c.requires.places.some, omega (arith, length, scale_within d r c.args.precision.digits, c.args.precision.most))

pub returns : goal.returns
returns g c =
    let n : ℕ = g.T.CountingNumber.number c.args.ratio.numer in
    let d : ℕ = g.T.CountingNumber.number c.args.ratio.denom in
    let divided = rw (c.numer-n.ensures, c.denom-d.ensures) at (rw c.unwrap-whole.ensures at c.div_rem.ensures) in
    let length = rw c.denom-d.ensures at c.fraction_length-scale.ensures in
    let x : ℕ = g.T.CountingNumber.number c.unwrap-whole.result.0 in
    let r : ℕ = g.T.CountingNumber.number c.unwrap-whole.result.1 in
    let w : ℕ = c.args.places in
    let s : ℕ = c.fraction_length-scale.result in
    let some : x ≡ 0 → ⊥ = λ z. apart c.is_zero.result (c.is_zero.ensures.1 z) c.if-is_zero.false in
    let above : 0 < n / d = omega (arith, some, divided.1) in
    let more : 0 < s = omega (arith, c.if-scale-eq0.false) in
    record {
      scale = c.mixed.ensures.1 ∙ scale_from n d c.args.precision.digits r s divided.2 length;
      sized = sized_as n d w s c.mixed.result.shape c.mixed.result.scale c.mixed.result.groups c.mixed.result.weight c.mixed.ensures
          (sized_mixed n d s w c.requires.denom (λ z. omega arith) (above_is n d c.requires.denom above) c.requires.places more);
    }
