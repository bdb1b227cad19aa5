use Rattle.std.proofs.Common.{◌≡◌, ℕ, ◌+◌, ◌-◌, ◌<◌, sym, ap, ◌∙◌, subst, arith, rules}
use Rattle.std.specs.List.{flat_map}
use Rattle.division.specs.Digits.{fed, shifted}
use Rattle.division.specs.Expansion.{digits, rest, coming}
use Rattle.numeric.specs.Buffer.{placed}
use Rattle.numeric.specs.Bytes.{word_bytes}
use Rattle.numeric.specs.Cut.{cut}
use Rattle.numeric.specs.Package.{groups_of}
use Rattle.numeric_write.specs.Measure.{Shaped}
use Rattle.numeric_write.specs.Sink.{groups}
use Rattle.numeric_write.proofs.Measuring.{below_rest}
use Rattle.numeric_write.proofs.Putting.{coming_less, coming_rest, rest_below, held_after, ended_fraction, accepted}
use Rattle.numeric_write.proofs.put.put_below.Goals as goal

pub after_zeros-fraction-requires : goal.after_zeros-fraction-requires
after_zeros-fraction-requires g c =
    let m = c.args.measured in
    let n : ℕ = g.T.CountingNumber.number m.state.rest in
    let d : ℕ = g.T.CountingNumber.number m.state.divisor in
    let s : ℕ = m.extent.scale in
    let shaped = subst (Shaped n d m.state.place s m.extent.groups) c.requires.shape m.sized.shaped in
    let more = shaped.3 c.requires.some in
    let scale = sym (ap (λ x. coming d x s) (below_rest n d shaped.0)) ∙ m.reached in
    record { sound = m.sound; opened = m.opened; below = shaped.0; some = coming_less d n s c.args.passed (omega (arith, more.0, scale)) }

pub unwrap-resumed-requires : goal.unwrap-resumed-requires
unwrap-resumed-requires g c =
    let number = g.T.CountingNumber.number in
    let m = c.args.measured in
    let n : ℕ = number m.state.rest in
    let d : ℕ = number m.state.divisor in
    let shaped = subst (Shaped n d m.state.place m.extent.scale m.extent.groups) c.requires.shape m.sized.shaped in
    let is = c.after_zeros-fraction.ensures in
    let fraction = c.after_zeros-fraction.result in
    let small : number fraction.remainder < number fraction.divisor = omega (arith, ap number is.0, is.1, rest_below n d c.args.passed shaped.0 shaped.2, shaped.2) in
    accepted g.T.CountingNumber groups fraction.remainder fraction.divisor c.new-sink.result c.divide_rem_resume.new.sink c.divide_rem_resume.result small c.divide_rem_resume.ensures.resumes

pub returns : goal.returns
returns g c =
    let m = c.args.measured in
    let n : ℕ = g.T.CountingNumber.number m.state.rest in
    let d : ℕ = g.T.CountingNumber.number m.state.divisor in
    let k : ℕ = c.args.passed in
    let s : ℕ = m.extent.scale in
    let shaped = subst (Shaped n d m.state.place s m.extent.groups) c.requires.shape m.sized.shaped in
    let more = shaped.3 c.requires.some in
    let scale = sym (ap (λ x. coming d x s) (below_rest n d shaped.0)) ∙ m.reached in
    let fr = c.after_zeros-fraction.result in
    let d' : ℕ = g.T.CountingNumber.number fr.divisor in
    let r : ℕ = g.T.CountingNumber.number fr.remainder in
    let dd : d' ≡ d = ap g.T.CountingNumber.number c.after_zeros-fraction.ensures.0 in
    let rr : r ≡ rest d n 0 k = c.after_zeros-fraction.ensures.1 in
    let first = c.new-sink.result in
    let last = c.divide_rem_resume.new.sink in
    let resumed = rw c.unwrap-resumed.ensures at c.divide_rem_resume.ensures.resumes in
    let went = resumed.1.2 in
    let left : first.left ≡ s - k = omega (arith, c.new-sink.ensures.begins.left, more.0, more.1, c.requires.room) in
    let sum : k + (s - k) ≡ s = omega arith in
    let all : coming d' r first.left ≡ s - k =
    ap (λ x. coming x r first.left) dd ∙ ap (λ x. coming d x first.left) rr ∙ ap (coming d (rest d n 0 k)) left
    ∙ coming_rest d n k (s - k) (ap (coming d n) sum ∙ scale ∙ sym sum) in
    let held = went.held ∙ ap (λ h. fed shifted h (digits d' r 0 (coming d' r first.left))) c.new-sink.ensures.begins.held
    ∙ ap (λ x. fed shifted 0 (digits d' r 0 x)) all ∙ ap (λ x. fed shifted 0 (digits x r 0 (s - k))) dd ∙ ap (λ x. fed shifted 0 (digits d x 0 (s - k))) rr
    ∙ held_after n d k s shaped.0 shaped.2 (omega arith) in
    let final : c.finish.new.self.0 ≡ placed c.args.part.now 0 (flat_map word_bytes (groups_of (cut n d s) s)) =
    ended_fraction c.args.part.now first last c.finish.new.self.0 (cut n d s) s 0 (s - k)
    resumed.2 c.new-sink.ensures.buffer.0 c.new-sink.ensures.buffer.2 c.new-sink.ensures.begins.taken
    (c.new-sink.ensures.places (omega (arith, more.0)))
    (went.taken ∙ omega (arith, c.new-sink.ensures.begins.taken, all)) held (omega arith) (omega (arith, shaped.1)) c.finish.ensures in
    let lender = resumed.2.lender ∙ c.new-sink.ensures.buffer.1 in
    search rules
