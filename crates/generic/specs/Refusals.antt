-- A refusal by its number and the values that it carries.
use Rattle.std.specs.Prelude.{◌≡◌, ℕ, List, Ok, Err, Result}

pub record Refusal : Type 0 where
  pub number : ℕ
  pub values : List ℕ

abbrev pub refuses : ℕ → List ℕ → Refusal
refuses k vs = record { number = k; values = vs }

-- The value that means n where P holds, and exactly where it does not the refusal f.
abbrev pub OrRefused : {T E : Type 0} → (T → ℕ) → (E → Refusal) → Result T E → Type 0 → ℕ → Refusal → Type 0
OrRefused number refusal (Ok x) P n f = P × (number x ≡ n)
OrRefused number refusal (Err e) P n f = (P → ⊥) × (refusal e ≡ f)
