-- What an operation on counting numbers answers: the exact result, or None exactly where it has no place.
use Rattle.std.specs.Prelude.{◌≡◌, ℕ, ◌*◌, ◌/◌, ◌%◌, ◌<◌, ◌≤◌, Some, None, Option}

-- The value that means n where P holds, and None exactly where it does not.
abbrev pub Exactly : {T : Type 0} → (T → ℕ) → Option T → Type 0 → ℕ → Type 0
Exactly number None P n = P → ⊥
Exactly number (Some x) P n = P × (number x ≡ n)

-- The quotient and the remainder of n over d, and None exactly where d is 0.
abbrev pub Divided : {T : Type 0} → (T → ℕ) → Option (T × T) → ℕ → ℕ → Type 0
Divided number None n d = d ≡ 0
Divided number (Some (q, r)) n d = (0 < d) × (number q ≡ n / d) × (number r ≡ n % d)

-- The quotient and the remainder of w times n over d, where n is below d, and None exactly where it is not.
abbrev pub Scaled : {T : Type 0} → (T → ℕ) → Option (ℕ × T) → ℕ → ℕ → ℕ → Type 0
Scaled number None w n d = d ≤ n
Scaled number (Some (q, r)) w n d = (n < d) × (q ≡ w * n / d) × (number r ≡ w * n % d)
