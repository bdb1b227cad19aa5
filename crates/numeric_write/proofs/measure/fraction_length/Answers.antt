use Rattle.std.proofs.Common.{◌≡◌, ℕ, ◌^◌, ◌<◌, min, sym, ap, ◌∙◌, arith}
use Rattle.division.specs.Expansion.{coming, rest}
use Rattle.numeric.proofs.Ends.{counted_ends, counted_goes_on}
use Rattle.numeric_write.proofs.Measuring.{apart}
use Rattle.numeric_write.proofs.measure.fraction_length.Goals as goal

pub returns-then-is_zero : goal.returns-then-is_zero
returns-then-is_zero g c =
    let r : ℕ = g.T.CountingNumber.number c.args.remainder in
    let d : ℕ = g.T.CountingNumber.number c.args.divisor in
    let went = (rw c.unwrap-resumed.ensures at c.divide_rem.ensures.resumes).1.2 in
    let left = c.new-counter.ensures.left ∙ c.min.ensures in
    let narrow : d < 2 ^ 64 = omega (arith, g.met.T.CountingNumber.within c.args.divisor, g.met.T.CountingNumber.widest) in
    let ended : rest d r 0 (coming d r (min c.args.most 64)) ≡ 0 =
    ap (λ l. rest d r 0 (coming d r l)) (sym left) ∙ sym went.state ∙ ap g.T.CountingNumber.number (sym c.remainder.ensures) ∙ c.is_zero.ensures.0 c.if-is_zero.true in
    omega (arith, c.taken.ensures, went.taken, c.new-counter.ensures.taken, ap (coming d r) left, counted_ends r d c.args.most c.requires narrow ended)

pub returns-else-is_zero : goal.returns-else-is_zero
returns-else-is_zero g c =
    let r : ℕ = g.T.CountingNumber.number c.args.remainder in
    let d : ℕ = g.T.CountingNumber.number c.args.divisor in
    let went = (rw c.unwrap-resumed.ensures at c.divide_rem.ensures.resumes).1.2 in
    let left = c.new-counter.ensures.left ∙ c.min.ensures in
    let narrow : d < 2 ^ 64 = omega (arith, g.met.T.CountingNumber.within c.args.divisor, g.met.T.CountingNumber.widest) in
    let on : rest d r 0 (coming d r (min c.args.most 64)) ≡ 0 → ⊥ =
    λ z.
    let after : g.T.CountingNumber.number c.remainder.result ≡ 0 =
    ap g.T.CountingNumber.number c.remainder.ensures ∙ went.state ∙ ap (λ l. rest d r 0 (coming d r l)) left ∙ z in
    apart c.is_zero.result (c.is_zero.ensures.1 after) c.if-is_zero.false in
    sym (counted_goes_on r d c.args.most c.requires narrow on)
