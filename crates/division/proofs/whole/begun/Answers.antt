use Rattle.std.proofs.Common.{◌≡◌, ◌+◌, ◌-◌, ◌*◌, ◌<◌, refl, ◌∙◌, arith}
use Rattle.division.proofs.Places.{begun_width, unit_up}
use Rattle.division.proofs.Tests.{less, not_less, past}
use Rattle.division.proofs.whole.begun.Given as given
use Rattle.division.proofs.whole.begun.Goals as goal
use Rattle.division.proofs.whole.begun.Goals.{Joined-checked_mul, in-Some+then-is_lt, in_default}

pub widen-preserved : goal.widen-preserved
widen-preserved g c =
    let p = c.widen.place in
    let next = rw c.ten-ten.ensures at c.in-Some.ensures.1 in
    let le = not_less _ _ _ c.compare.ensures c.if-is_lt.ensures in
    let e : p + 1 - 1 ≡ p = omega arith in (
      omega arith,
      rw e (rw c.widen.invariant.1 at next ∙ unit_up p (g.T.CountingNumber.number c.args.d) c.widen.invariant.0),
      λ h. le,
      omega (arith, c.widen.invariant.3),
    )

-- What n is below, whichever way the loop ended.
below : (g : given.Over) (c : Joined-checked_mul g) → g.T.CountingNumber.number c.args.n < 10 * g.T.CountingNumber.number c.widen.unit
below g c =
    let number = g.T.CountingNumber.number in
    let bound = g.met.T.CountingNumber.within c.args.n in
    elim c.match-checked_mul.branch [
      | in-Some+then-is_lt w ↦
          let next = rw c.ten-ten.ensures at w.in-Some.ensures.1 in
          let small = less _ _ _ w.compare.ensures w.if-is_lt.ensures in
          omega arith
      | in_default w ↦ let over = past _ _ (rw c.ten-ten.ensures at w.in_default.ensures) in omega arith
    ]

pub returns : goal.returns
returns g c =
    let inv = c.widen.invariant in
    let width = begun_width _ _ _ _ inv.0 inv.1 (below g c) inv.2 in
    record {
      sound = record { divisor = c.requires; place = inv.0; unit = inv.1; fits = g.met.T.CountingNumber.within c.widen.unit; rest = width.enough };
      rest = refl;
      divisor = refl;
      width = width;
    }
