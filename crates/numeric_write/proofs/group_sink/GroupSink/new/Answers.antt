use Rattle.std.proofs.Common.{◌≡◌, true, ltb, length, refl, ap, ◌∙◌, arith}
use native.Mathlib.Nat.{one-le-pow}
use Rattle.numeric_write.specs.States.{going, fills}
use Rattle.numeric_write.specs.declared.group_state.GroupState.TheVariants.{Skipping}
use Rattle.numeric_write.proofs.Filling.{going_after, skipping_fills, first_open, first_room}
use Rattle.numeric_write.proofs.group_sink.GroupSink.new.Goals as goal

pub invariant_of-result : goal.invariant_of-result
invariant_of-result c =
    let b = ltb 0 c.min-left.result in
    let never : fills c.after.result ≡ true → ⊥ = λ h. skipping_fills b (rw c.after.ensures at h) in
    let len = length c.args.buffer.now in
    let room = first_room c.args.places c.min-left.result len c.first_places.result c.first_places.ensures (omega arith) in
    record {
      below = omega (arith, one-le-pow c.first_places.result 10 (omega arith));
      «open» = first_open c.args.places c.min-left.result c.first_places.result c.first_places.ensures;
      room = omega (arith, room);
      bound = omega arith;
      going = ap going c.after.ensures ∙ going_after Skipping b refl;
      empty = λ h. refl;
      zeros = λ h. refl;
      begun = λ h z. absurd (never h);
    }
