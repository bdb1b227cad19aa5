use Rattle.std.proofs.Common.{◌≡◌, ℕ, List, [], ◌∷◌, length, sym, ap, ◌∙◌, arith}
use Rattle.std.specs.List.{flat_map}
use Rattle.numeric.specs.Buffer.{placed}
use Rattle.numeric.specs.Bytes.{word_bytes, signed_word, package_bytes}
use Rattle.numeric.specs.Package.{Package, package_of}
use Rattle.numeric.specs.Words.{word_of}
use Rattle.numeric.proofs.Bytes.{placed_lent, placed_append}
use Rattle.numeric_write.specs.Plans.{cut_of, planned}
use Rattle.numeric_write.proofs.plan.Plan.put.Goals as goal

pub returns-in-Groups : goal.returns-in-Groups
returns-in-Groups g c =
    let m = c.in-Groups.measured in
    let e = m.extent in
    let h = c.new.result in
    let sign : ℕ = word_of c.in-Groups.sign in
    let part : List ℕ = c.args.part.now in
    let q : Package = package_of sign (cut_of m) e.scale in
    let room = rw c.in-Groups.is at c.requires in
    let hs : List ℕ = flat_map word_bytes (length q.groups ∷ signed_word q.weight ∷ sign ∷ e.scale ∷ []) in
    let head : c.put_header-in-Groups.new.part ≡ placed part 0 hs =
    c.put_header-in-Groups.ensures
    ∙ ap (λ k. placed part 0 (flat_map word_bytes (k ∷ signed_word h.weight ∷ word_of h.sign ∷ h.scale ∷ []))) (c.new.ensures.0 ∙ m.sized.groups_are)
    ∙ ap (λ z. placed part 0 (flat_map word_bytes (length q.groups ∷ signed_word z ∷ word_of h.sign ∷ h.scale ∷ []))) (c.new.ensures.1 ∙ m.sized.weight_is)
    ∙ ap (λ s. placed part 0 (flat_map word_bytes (length q.groups ∷ signed_word q.weight ∷ word_of s ∷ h.scale ∷ []))) c.new.ensures.2
    ∙ ap (λ k. placed part 0 (flat_map word_bytes (length q.groups ∷ signed_word q.weight ∷ sign ∷ k ∷ []))) c.new.ensures.3 in
    placed_lent c.put_header-in-Groups.new.part c.put_groups.new.part 8 (flat_map word_bytes q.groups) c.put_groups.ensures
    ∙ ap (λ l. placed l 8 (flat_map word_bytes q.groups)) head
    ∙ placed_append part 0 hs (flat_map word_bytes q.groups) (omega (arith, room))
    ∙ ap (λ x. placed part 0 (package_bytes (planned x))) (sym c.in-Groups.is)
