use Rattle.std.proofs.Common.{ℕ, ◌%◌, sym, ap, ◌∙◌, arith}
use Rattle.division.specs.Expansion.{coming}
use Rattle.numeric_write.proofs.Writing.{scale_bound, scale_again}
use Rattle.numeric_write.proofs.measured.Measured.new.Goals as goal

pub invariant_of-result : goal.invariant_of-result
invariant_of-result g c =
    let n : ℕ = g.T.CountingNumber.number c.args.ratio.numer in
    let d : ℕ = g.T.CountingNumber.number c.args.ratio.denom in
    let begun = rw (c.numer.ensures, c.denom.ensures) at (rw c.unwrap-state.ensures at c.open.ensures) in
    let scale = c.measure-extent.ensures.scale in
    record {
      sound = begun.sound;
      opened = rw (begun.rest, begun.divisor) begun.width;
      sized = rw (begun.rest, begun.divisor) (rw c.place.ensures at c.measure-extent.ensures.sized);
      reached = rw (begun.rest, begun.divisor) (ap (coming d (n % d)) scale ∙ scale_again n d c.args.precision.digits ∙ sym scale);
      bounded = omega (arith, scale, scale_bound n d c.args.precision.digits, c.args.precision.most);
    }
