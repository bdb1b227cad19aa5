-- What a test or a None says of the numbers.
use Rattle.std.proofs.Common.{◌≡◌, ℕ, zero, suc, ◌<◌, ◌≤◌, true, false, Some, None, Option, IsSome, sym, refl, inl, inr, arith, rules}
use Rattle.std.specs.Ordering.{MatchOrdering, is_lt}
use Rattle.std.specs.declared.cmp.Ordering.{Ordering}
use Rattle.std.specs.declared.cmp.Ordering.TheVariants.{Less, Equal, Greater}
use Rattle.generic.specs.Exact.{Exactly}
use Rattle.std.proofs.lemmas.Bool.{cases_lt}

different : false ≡ true → ⊥
different e = let z : ◌≡◌ {A = ℕ} 0 1 = cc in omega arith

pub not_zero : (n : ℕ) → (n ≡ 0 → false ≡ true) → 0 < n
not_zero zero f = absurd (different (f refl))
not_zero (suc n) f = omega arith

pub past : (m n : ℕ) → (m ≤ n → ⊥) → n < m
past m n f = elim (cases_lt n m) [ inl lt ↦ lt | inr ge ↦ absurd (f ge) ]

-- What a comparison says of two numbers.
pub less : (o : Ordering) (m n : ℕ) → MatchOrdering o (m < n) (m ≡ n) (n < m) → true ≡ is_lt o → m < n
less Less m n h e = h
less Equal m n h e = absurd (different (sym e))
less Greater m n h e = absurd (different (sym e))

pub not_less : (o : Ordering) (m n : ℕ) → MatchOrdering o (m < n) (m ≡ n) (n < m) → false ≡ is_lt o → n ≤ m
not_less Less m n h e = absurd (different e)
not_less Equal m n h e = omega arith
not_less Greater m n h e = omega arith

-- A result that has its place is there.
pub there : {X : Type 0} (number : X → ℕ) (o : Option X) (P : Type 0) (n : ℕ) → Exactly number o P n → P → IsSome o
there number None P n e p = absurd (e p)
there number (Some x) P n e p = search rules
