use Rattle.std.proofs.Common.{◌-◌, ◌*◌, ◌/◌, mod-lt, arith}
use Rattle.division.proofs.Blocks.{ten_pos}
use Rattle.division.proofs.Puts.{remain_all, above_small, above_below, group_small, group_less, groups_done, takes_parts}
use Rattle.division.proofs.Runs.{length_digits}
use Rattle.division.proofs.block.put_all.Goals as goal

pub split-first-requires-clause-high : goal.split-first-requires-clause-high
split-first-requires-clause-high g c = above_below _ c.args.count _ (omega arith) (omega arith) c.requires.number

pub put_group-requires-clause-number : goal.put_group-requires-clause-number
put_group-requires-clause-number g c = rw c.split-first.ensures.0 (above_small _ c.args.count _ (omega arith) c.requires.number)

pub loop-groups-init : goal.loop-groups-init
loop-groups-init g c =
    let s = g.S.DigitSink in
    let groups = (c.args.count - 1) / 4 in
    let above = c.args.count - 4 * groups in
    let long = length_digits 1 c.split-first.result.0 above above in (
      omega arith,
      rw c.split-first.ensures.1 (mod-lt c.args.number (ten_pos (4 * groups))),
      omega (arith, c.put_group.ensures.took.left),
      remain_all s.step _ _,
      g.met.S.DigitSink.order.stays _,
    )

pub split-four-requires-clause-high : goal.split-four-requires-clause-high
split-four-requires-clause-high g c = group_small _ c.loop-groups.groups (omega arith) c.loop-groups.invariant.1

pub put_group-requires-in-loop-groups-clause-number : goal.put_group-requires-in-loop-groups-clause-number
put_group-requires-in-loop-groups-clause-number g c = rw c.split-four.ensures.0 (group_small _ c.loop-groups.groups (omega arith) c.loop-groups.invariant.1)

pub loop-groups-preserved : goal.loop-groups-preserved
loop-groups-preserved g c =
    let s = g.S.DigitSink in
    let inv = c.loop-groups.invariant in
    let takes = c.put_group-in-loop-groups.ensures.took in (
      omega arith,
      rw c.split-four.ensures.1 (mod-lt c.loop-groups.rest (ten_pos (4 * (c.loop-groups.groups - 1)))),
      omega (arith, takes.left),
      group_less s.step _ _ c.loop-groups.rest c.loop-groups.groups c.split-four.result.0 c.split-four.result.1 _ _ (omega arith) inv.1 c.split-four.ensures.0 c.split-four.ensures.1 takes inv.3,
      g.met.S.DigitSink.order.joins _ _ _ inv.4 c.put_group-in-loop-groups.ensures.on,
    )

pub returns : goal.returns
returns g c =
    let parts = c.split-first.ensures in
    let s = g.S.DigitSink in
    record {
      took =
          takes_parts s.step c.args.number c.args.count ((c.args.count - 1) / 4) c.split-first.result.0 c.split-first.result.1 _ _ _ (omega arith) c.requires.number parts.0 parts.1
          c.put_group.ensures.took
          (groups_done s.step _ _ c.loop-groups.rest c.loop-groups.groups _ c.loop-groups-test.false c.loop-groups.invariant.3);
      on = g.met.S.DigitSink.order.joins _ _ _ c.put_group.ensures.on c.loop-groups.invariant.4;
    }
