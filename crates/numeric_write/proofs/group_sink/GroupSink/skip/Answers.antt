use Rattle.std.proofs.Common.{◌≡◌, ◌+◌, ◌-◌, ◌%◌, true, ltb, refl, ap, ◌∙◌, arith}
use native.Mathlib.Nat.{one-le-pow}
use Rattle.numeric_write.specs.States.{going, fills}
use Rattle.numeric_write.specs.declared.group_state.GroupState.TheVariants.{Skipping}
use Rattle.numeric_write.proofs.Filling.{going_after, skipping_fills}
use Rattle.numeric_write.proofs.group_sink.GroupSink.skip.Goals as goal

pub invariant_of-self : goal.invariant_of-self
invariant_of-self c =
    let s = c.args.self.now in
    let b = ltb 0 (s.left - 1) in
    let is = c.after-self.ensures in
    let never : fills c.after-self.result ≡ true → ⊥ = λ h. skipping_fills b (rw is at h) in
    record {
      below = omega (arith, one-le-pow ((s.places + 1) % 4) 10 (omega arith));
      «open» = omega arith;
      room = omega arith;
      bound = omega arith;
      going = ap going is ∙ going_after Skipping b refl;
      empty = λ h. c.requires.empty.0;
      zeros = λ h. c.requires.empty.1;
      begun = λ h z. absurd (never h);
    }
