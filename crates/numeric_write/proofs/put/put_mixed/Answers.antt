use Rattle.std.proofs.Common.{◌≡◌, ℕ, ◌+◌, ◌-◌, ◌%◌, ◌<◌, length, ap, ◌∙◌, subst, arith, rules}
use Rattle.std.specs.List.{flat_map}
use Rattle.division.specs.Digits.{fed, shifted}
use Rattle.division.specs.Expansion.{digits, rest, coming}
use Rattle.numeric.specs.Buffer.{placed}
use Rattle.numeric.specs.Bytes.{word_bytes}
use Rattle.numeric.specs.Cut.{cut}
use Rattle.numeric.specs.Package.{groups_of}
use Rattle.numeric.proofs.Held.{rest_whole, held_cut}
use Rattle.numeric_write.specs.Measure.{Shaped}
use Rattle.numeric_write.specs.Going.{goes_order}
use Rattle.numeric_write.proofs.Putting.{left_mixed, aligned_mixed, ended_fraction}
use Rattle.numeric_write.proofs.put.put_mixed.Goals as goal

pub returns : goal.returns
returns g c =
    let m = c.args.measured in
    let n : ℕ = g.T.CountingNumber.number m.state.rest in
    let d : ℕ = g.T.CountingNumber.number m.state.divisor in
    let w : ℕ = m.state.place in
    let s : ℕ = m.extent.scale in
    let shaped = subst (Shaped n d w s m.extent.groups) c.requires.shape m.sized.shaped in
    let first = c.new-sink.result in
    let mid = c.fraction_after-fraction.new.sink in
    let last = c.divide_rem_resume.new.sink in
    let f : ℕ = c.places_before.result in
    let some : 0 < d = m.sound.divisor in
    let enough = m.opened.enough in
    let place = c.place-whole.ensures in
    let left : first.left ≡ w + s =
    left_mixed w s f (c.from.result + s) (length c.args.part.now) first.left (c.places_before.ensures ∙ ap (λ x. (4 - x % 4) % 4) place)
    (ap (λ x. x + s) (c.from.ensures ∙ place)) (omega (arith, shaped.2, c.requires.room)) c.new-sink.ensures.begins.left in
    let whole = c.fraction_after-fraction.ensures.went in
    let r : ℕ = g.T.CountingNumber.number c.fraction_after-fraction.result.remainder in
    let d' : ℕ = g.T.CountingNumber.number c.fraction_after-fraction.result.divisor in
    let dd : d' ≡ d = ap g.T.CountingNumber.number c.fraction_after-fraction.ensures.divisor.0 in
    let rr : r ≡ rest d n w w = whole.state in
    let after : mid.left ≡ s = omega (arith, whole.left) in
    let resumed = rw c.unwrap-resumed.ensures at c.divide_rem_resume.ensures.resumes in
    let went = resumed.1.2 in
    let more : coming d' r mid.left ≡ s =
    ap (λ x. coming x r mid.left) dd ∙ ap (λ x. coming d x mid.left) (rr ∙ rest_whole n d w some enough) ∙ ap (coming d (n % d)) after ∙ m.reached in
    let half = whole.held ∙ ap (λ h. fed shifted h (digits d n w w)) c.new-sink.ensures.begins.held in
    let held = went.held ∙ ap (λ h. fed shifted h (digits d' r 0 (coming d' r mid.left))) half
    ∙ ap (λ x. fed shifted (fed shifted 0 (digits d n w w)) (digits d' r 0 x)) more
    ∙ ap (λ x. fed shifted (fed shifted 0 (digits d n w w)) (digits x r 0 s)) dd
    ∙ ap (λ x. fed shifted (fed shifted 0 (digits d n w w)) (digits d x 0 s)) rr
    ∙ held_cut n d w s some enough in
    let on = goes_order.joins first mid last c.fraction_after-fraction.ensures.on resumed.2 in
    let final : c.finish.new.self.0 ≡ placed c.args.part.now 0 (flat_map word_bytes (groups_of (cut n d s) s)) =
    ended_fraction c.args.part.now first last c.finish.new.self.0 (cut n d s) s (f % 4) (w + s)
    on c.new-sink.ensures.buffer.0 c.new-sink.ensures.buffer.2 c.new-sink.ensures.begins.taken
    (c.new-sink.ensures.places (omega (arith, shaped.1)))
    (omega (arith, went.taken, whole.taken, c.new-sink.ensures.begins.taken, more)) held shaped.1 (aligned_mixed w s f (c.places_before.ensures ∙ ap (λ x. (4 - x % 4) % 4) place)) c.finish.ensures in
    let lender = on.lender ∙ c.new-sink.ensures.buffer.1 in
    search rules
