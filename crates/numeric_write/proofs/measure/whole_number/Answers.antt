use Rattle.std.proofs.Common.{◌≡◌, ℕ, ◌-◌, pos, sym, refl, ap, ◌∙◌, subst, arith}
use Rattle.numeric.specs.Package.{fours}
use Rattle.numeric_write.specs.Measure.{Sized}
use Rattle.numeric_write.specs.declared.shape.Shape.TheVariants.{Whole}
use Rattle.numeric_write.proofs.Measuring.{whole_fits, sized_whole, above_bits}
use Rattle.numeric_write.proofs.measure.whole_number.Goals as goal

pub overflow_sub-result : goal.overflow_sub-result
overflow_sub-result g c =
    omega (arith, whole_fits (g.T.CountingNumber.number c.args.whole) c.args.places c.trailing_zero_groups-zeros.result c.requires.1 c.trailing_zero_groups-zeros.ensures)

pub returns : goal.returns
returns g c =
    let x : ℕ = g.T.CountingNumber.number c.args.whole in
    let w : ℕ = c.args.places in
    let t : ℕ = c.trailing_zero_groups-zeros.result in
    let k : ℕ = c.groups_for-groups.result in
    let groups : k ≡ fours w = omega arith in
    let weight = above_bits k (omega (arith, c.requires.1.some)) (omega arith) ∙ ap (λ j. pos (j - 1)) groups in
    let count : fours w - t ≡ k - c.from-2.result = omega arith in
    let sized = sized_whole x w t c.requires.0 c.requires.1 c.trailing_zero_groups-zeros.ensures in
    (refl, subst (λ z. Sized x 1 w 0 (Whole t) (k - c.from-2.result) z) (sym weight) (subst (λ j. Sized x 1 w 0 (Whole t) j (pos (fours w - 1))) count sized))
