use Rattle.std.proofs.Common.{◌≡◌, ℕ, sym, ap, ◌∙◌}
use Rattle.numeric.specs.Cut.{cut}
use Rattle.numeric.specs.Package.{package_of, sign_word}
use Rattle.numeric_write.specs.Plans.{cut_of}
use Rattle.numeric_write.proofs.Measuring.{apart}
use Rattle.numeric_write.proofs.Writing.{written_zero, written_some}
use Rattle.numeric_write.proofs.plan.Plan.of_ratio.Goals as goal

pub returns-then-is_zero : goal.returns-then-is_zero
returns-then-is_zero g c =
    sym (written_zero c.args.sign _ _ c.args.precision.digits (rw c.numer.ensures at (c.is_zero.ensures.0 c.if-is_zero.true)))

pub returns : goal.returns
returns g c =
    let number = g.T.CountingNumber.number in
    let n : ℕ = number c.args.ratio.numer in
    let d : ℕ = number c.args.ratio.denom in
    let sign = c.args.sign in
    let p : ℕ = c.args.precision.digits in
    let m = c.new.result in
    let is = c.new.ensures in
    let some : n ≡ 0 → ⊥ = λ z. apart c.is_zero.result (c.is_zero.ensures.1 (rw c.numer.ensures z)) c.if-is_zero.false in
    ap (λ k. package_of k (cut_of m) m.extent.scale) c.of_number.ensures
    ∙ ap (λ x. package_of (sign_word sign) (cut (number x) (number m.state.divisor) m.extent.scale) m.extent.scale) is.rest
    ∙ ap (λ x. package_of (sign_word sign) (cut n (number x) m.extent.scale) m.extent.scale) is.divisor
    ∙ ap (λ s. package_of (sign_word sign) (cut n d s) s) is.scale
    ∙ sym (written_some sign n d p c.args.precision.some c.args.precision.most some)
