use Rattle.std.proofs.Common.{rules}
use Rattle.fraction.proofs.Reduced.{reduces, nothing_divides}
use Rattle.fraction.proofs.ratio.Ratio.lowest.Goals as goal

pub returns-in_err-checked_div-in_default : goal.returns-in_err-checked_div-in_default
returns-in_err-checked_div-in_default g c =
    let none = nothing_divides (g.T.CountingNumber.number c.args.denom) _ c.gcd-common.ensures.right c.in_err-checked_div-in_default.ensures in
    search rules

pub returns-in_ok-checked_div-in_default-2 : goal.returns-in_ok-checked_div-in_default-2
returns-in_ok-checked_div-in_default-2 g c =
    reduces g.T.CountingNumber.number _ _ _ _ _ c.gcd-common.ensures c.in_ok-checked_div-in_default.ensures.1 c.in_ok-checked_div-in_default-2.ensures.1 _ c.new-in_default.ensures
