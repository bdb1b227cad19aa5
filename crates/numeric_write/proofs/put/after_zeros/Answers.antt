use Rattle.std.proofs.Common.{◌≡◌, ℕ, ◌-◌, min, ap, ◌∙◌, arith}
use Rattle.division.specs.Expansion.{rest, coming}
use Rattle.numeric_write.proofs.Putting.{lone_zero, lone_rest}
use Rattle.numeric_write.proofs.put.after_zeros.Goals as goal

pub returns : goal.returns
returns g c =
    let number = g.T.CountingNumber.number in
    let n : ℕ = number c.args.state.rest in
    let d : ℕ = number c.args.state.divisor in
    let w : ℕ = c.args.state.place in
    let k : ℕ = c.args.passed in
    let one : w ≡ 1 = lone_zero n d w c.requires.below c.requires.opened in
    let whole = c.fraction_after-fraction.ensures in
    let r : ℕ = number c.fraction_after-fraction.result.remainder in
    let dd = ap number whole.divisor.0 in
    let rr : r ≡ n = whole.went.state ∙ ap (rest d n w) one ∙ lone_rest n d w c.requires.below one in
    let after : ℕ = min c.fraction_after-fraction.new.sink.limit 65535 - c.fraction_after-fraction.new.sink.taken in
    let left : after ≡ k = omega (arith, whole.went.left, c.new-zeros.ensures.left) in
    let went = rw c.unwrap.ensures at c.divide_rem_resume.ensures.resumes in (
      went.0 ∙ whole.divisor.0,
      went.1.2.state ∙ ap (λ x. rest x r 0 (coming x r after)) dd ∙ ap (λ x. rest d x 0 (coming d x after)) rr ∙ ap (λ x. rest d n 0 (coming d n x)) left ∙ ap (rest d n 0) c.requires.some,
    )
