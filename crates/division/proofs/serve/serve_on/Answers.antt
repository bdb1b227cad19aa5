use Rattle.std.proofs.Common.{◌≡◌, ℕ, ◌+◌, ◌<◌, ◌≢◌, [], ◌∷◌, ◌++◌, length, get_or, take, set, sym, refl, ap, ◌∙◌, arith, get_or-set_other}
use Rattle.std.proofs.lemmas.List.{take_more, take_more_set}
use Rattle.division.proofs.Serving.{served_none, served_more}
use Rattle.division.proofs.serve.serve_on.Goals as goal

pub loop-sink-init : goal.loop-sink-init
loop-sink-init g c = (served_none _ _ _ c.requires, λ k d h. refl)

pub next-division-requires : goal.next-division-requires
next-division-requires g c = c.loop-sink.invariant.0.sound

pub loop-sink-preserved : goal.loop-sink-preserved
loop-sink-preserved g c =
    let i : ℕ = c.loop-sink.sink-index in
    let before = c.args.sinks.now in
    let sinks = c.loop-sink.sink-items in
    let x = c.sink-item.result in
    let y = c.next-division.new.sink in
    let here : i < length before = c.loop-sink-test.true in
    let there : i < length sinks = omega arith in
    let same : get_or before i x ≡ get_or sinks i x = sym (c.loop-sink.invariant.1 i x (omega arith)) in
    let olds : take (i + 1) before ≡ take i before ++ get_or sinks i x ∷ [] = take_more before i x here ∙ ap (λ e. take i before ++ e ∷ []) same in
    let news : take (i + 1) (set sinks i y) ≡ take i sinks ++ y ∷ [] = take_more_set sinks i y there in (
      rw (olds, news) (served_more _ _ _ _ _ _ _ _ _ c.loop-sink.invariant.0 c.next-division.ensures),
      λ k d h. let other : k ≢ i = omega arith in rw get_or-set_other (c.loop-sink.invariant.1 k d (omega arith)),
    )
