-- A number with its sign.
use Rattle.std.specs.Prelude.{◌≡◌, ℕ, Some, None, Option}
use Rattle.generic.specs.declared.sign.Sign.{Sign}
use Rattle.generic.specs.declared.sign.Sign.TheVariants.{Plus}

-- Plus and the value that means n where P holds, and None exactly where it does not.
abbrev pub PlusExactly : {T : Type 0} → (T → ℕ) → Option (Sign × T) → Type 0 → ℕ → Type 0
PlusExactly number None P n = P → ⊥
PlusExactly number (Some (sign, x)) P n = P × (sign ≡ Plus) × (number x ≡ n)
