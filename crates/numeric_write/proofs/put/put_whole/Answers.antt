use Rattle.std.proofs.Common.{◌≡◌, ℕ, ◌+◌, ◌-◌, ◌*◌, ◌/◌, ◌%◌, ◌^◌, ◌<◌, min, length, sym, ap, ◌∙◌, subst, arith, rules}
use Rattle.std.specs.List.{flat_map}
use Rattle.division.specs.Digits.{fed, shifted}
use Rattle.division.specs.Expansion.{digits}
use Rattle.numeric.specs.Buffer.{placed}
use Rattle.numeric.specs.Bytes.{word_bytes}
use Rattle.numeric.specs.Cut.{cut}
use Rattle.numeric.specs.Package.{groups_of}
use Rattle.numeric_write.specs.Measure.{Shaped}
use Rattle.numeric_write.specs.Sink.{groups}
use Rattle.numeric_write.proofs.Measuring.{front_is}
use Rattle.numeric_write.proofs.Putting.{integrated, left_whole, aligned_whole, held_front, whole_some, whole_cut, ended_number}
use Rattle.numeric_write.proofs.put.put_whole.Goals as goal

pub returns : goal.returns
returns g c =
    let m = c.args.measured in
    let n : ℕ = g.T.CountingNumber.number m.state.rest in
    let d : ℕ = g.T.CountingNumber.number m.state.divisor in
    let w : ℕ = m.state.place in
    let z : ℕ = c.args.zeros in
    let shaped = subst (Shaped n d w m.extent.scale m.extent.groups) c.requires.shape m.sized.shaped in
    let front : ℕ = n / d / 10000 ^ z in
    let first = c.new-sink.result in
    let last = c.divide_integral-rest.new.sink in
    let k : ℕ = w - 4 * z in
    let some : 0 < d = m.sound.divisor in
    let f : ℕ = c.places_before.result in
    let k_is : c.from.result ≡ k = c.from.ensures ∙ ap (λ x. x - 4 * z) c.place.ensures in
    let before : f ≡ (4 - k % 4) % 4 = c.places_before.ensures ∙ ap (λ x. (4 - (x - 4 * z) % 4) % 4) c.place.ensures in
    let rest : c.from.result + 4 * z ≡ w = omega (arith, shaped.3) in
    let left : first.left ≡ k =
    left_whole w z f c.from.result (length c.args.part.now) first.left (before ∙ ap (λ x. (4 - x % 4) % 4) (sym k_is)) rest (omega (arith, shaped.2, c.requires.room)) c.new-sink.ensures.begins.left ∙ k_is in
    let went = integrated g.T.CountingNumber groups m.state first last c.divide_integral-rest.result c.divide_integral-rest.ensures in
    let all : min first.left w ≡ k = omega arith in
    let held : groups.held last ≡ front =
    went.1 ∙ ap (λ h. fed shifted h (digits d n w (min first.left w))) c.new-sink.ensures.begins.held ∙ ap (λ x. fed shifted 0 (digits d n w x)) all
    ∙ held_front n d w z front some m.opened.enough shaped.3 (front_is (n / d) z shaped.4) in
    let final : c.finish.new.self.0 ≡ placed c.args.part.now 0 (flat_map word_bytes (groups_of (cut n d 0) 0)) =
    ended_number c.args.part.now first last c.finish.new.self.0 (cut n d 0) z (f % 4) k
    went.2 c.new-sink.ensures.buffer.0 c.new-sink.ensures.buffer.2 c.new-sink.ensures.begins.taken
    (c.new-sink.ensures.places (omega (arith, shaped.3)))
    (omega (arith, went.0, c.new-sink.ensures.begins.taken))
    (omega (arith, whole_cut n d, whole_some n d some shaped.0))
    (aligned_whole k f before)
    (ap (λ x. x * 10000 ^ z) held ∙ (front_is (n / d) z shaped.4) ∙ sym (whole_cut n d))
    (λ none. shaped.4.1 (ap (λ x. x % 10000) (sym held) ∙ none)) c.finish.ensures in
    let lender = went.2.lender ∙ c.new-sink.ensures.buffer.1 in
    search rules
