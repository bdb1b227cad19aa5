use Rattle.std.proofs.Common.{◌≡◌, ℕ, ◌-◌, ◌/◌, ◌%◌, negsuc, sym, refl, ap, ◌∙◌, subst, arith, w16, to_z, of_z}
use Rattle.numeric.specs.Package.{fours}
use Rattle.numeric_write.specs.Measure.{Sized}
use Rattle.numeric_write.specs.declared.shape.Shape.TheVariants.{Below}
use Rattle.numeric_write.proofs.Measuring.{sized_none, sized_some, below_bits}
use Rattle.numeric_write.proofs.measure.below_one.Goals as goal

pub returns-then-scale-from : goal.returns-then-scale-from
returns-then-scale-from g c =
    let n : ℕ = g.T.CountingNumber.number c.args.n in
    let d : ℕ = g.T.CountingNumber.number c.args.d in
    let s : ℕ = c.args.scale in
    let z : ℕ = c.leading_zeros-zeros.result in
    let weight = ap (λ x. to_z w16 (of_z w16 x)) c.below_weight.ensures ∙ below_bits (s / 4) (omega arith) in (
      refl,
      λ w. subst (Sized n d w s (Below (z - z % 4)) 0) (sym weight)
          (sized_none n d s z w c.requires.fraction.0 c.requires.fraction.1 c.leading_zeros-zeros.ensures (omega arith)),
    )

pub returns : goal.returns
returns g c =
    let n : ℕ = g.T.CountingNumber.number c.args.n in
    let d : ℕ = g.T.CountingNumber.number c.args.d in
    let s : ℕ = c.args.scale in
    let z : ℕ = c.leading_zeros-zeros.result in
    let weight = ap (λ x. to_z w16 (of_z w16 x)) (c.below_weight-2.ensures ∙ ap negsuc c.from-left_out.ensures) ∙ below_bits (z / 4) (omega arith) in
    let count : fours s - z / 4 ≡ c.groups_for.result - c.from-left_out.result = omega arith in (
      refl,
      λ w. subst (λ k. Sized n d w s (Below (z - z % 4)) k (to_z w16 (of_z w16 c.below_weight-2.result))) count (subst (Sized n d w s (Below (z - z % 4)) (fours s - z / 4)) (sym weight)
          (sized_some n d s z w c.requires.fraction.0 c.requires.fraction.1 c.leading_zeros-zeros.ensures (omega arith))),
    )
