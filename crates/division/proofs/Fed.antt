-- Digits fed in turn.
use Rattle.std.proofs.Common.{◌≡◌, ℕ, ◌+◌, ◌-◌, ◌<◌, List, [], ◌∷◌, ◌++◌, length, take, set, refl, ap, ◌∙◌}
use native.Mathlib.Nat.{add-sub_cancel_left}
use Rattle.std.proofs.lemmas.List.{take_more_set}
use Rattle.division.specs.Digits.{fed, shifted, ascii_number}

pub fed_append : (step : ℕ → ℕ → ℕ) (h : ℕ) (xs ys : List ℕ) → fed step h (xs ++ ys) ≡ fed step (fed step h xs) ys
fed_append step h [] ys = refl
fed_append step h (x ∷ xs) ys = fed_append step (step h x) xs ys

-- one more digit in the text
pub ascii_more : (bs : List ℕ) (t d : ℕ) → t < length bs → ascii_number (take (t + 1) (set bs t (48 + d))) ≡ shifted (ascii_number (take t bs)) d
ascii_more bs t d within =
    ap ascii_number (take_more_set bs t (48 + d) within)
    ∙ fed_append (λ h b. shifted h (b - 48)) 0 (take t bs) ((48 + d) ∷ [])
    ∙ ap (shifted (ascii_number (take t bs))) (add-sub_cancel_left 48 d)
