-- Digits that go into a sink, by what is still to do.
use Rattle.std.proofs.Common.{◌≡◌, ℕ, zero, suc, ◌+◌, ◌-◌, ◌*◌, ◌/◌, ◌%◌, ◌^◌, ◌<◌, min, [], ◌∷◌, sym, refl, ap, subst, ◌∙◌, arith}
use native.Mathlib.Nat.{zero-mod}
use Rattle.division.specs.Digits.{fed}
use Rattle.division.specs.Expansion.{digits, rest, coming, Went}
use Rattle.division.specs.Tally.{Tally, Same, Took}

-- k digits are still to do from (m, p) and the tally a on, and they come to the k₀ that there were to do from (m₀, p₀) and a₀ on.
pub record Due (step : ℕ → ℕ → ℕ) (d m₀ p₀ k₀ : ℕ) (a₀ : Tally) (m p k : ℕ) (a : Tally) : Type 0 where
  pub taken : a.taken + k ≡ a₀.taken + k₀
  pub left : a.left + k₀ ≡ a₀.left + k
  pub held : fed step a.held (digits d m p k) ≡ fed step a₀.held (digits d m₀ p₀ k₀)
  pub state : rest d m p k ≡ rest d m₀ p₀ k₀
  pub place : p - k ≡ p₀ - k₀

-- No remainder is left after 0, so that none before one that is not 0 is 0.
none_after : (d k : ℕ) → rest d 0 0 k ≡ 0
none_after d zero = refl
none_after d (suc k) = ap (λ r. rest d r 0 k) (zero-mod d) ∙ none_after d k

some_before : (d r k : ℕ) → 0 < rest d r 0 k → 0 < r
some_before d zero k pos = absurd (omega (arith, none_after d k))
some_before d (suc r) k pos = omega arith

module _ (step : ℕ → ℕ → ℕ) (d m₀ p₀ k₀ : ℕ) (a₀ : Tally) where
  -- a digit of the whole part
  pub due_whole : (m p : ℕ) (a : Tally) (q m' p' : ℕ) (b : Tally) → 0 < p → q ≡ m / (10 ^ (p - 1) * d) → m' ≡ m % (10 ^ (p - 1) * d) → p' ≡ p - 1
      → Took step a (q ∷ []) b → Due step d m₀ p₀ k₀ a₀ m p (min a.left p) a → Due step d m₀ p₀ k₀ a₀ m' p' (min b.left p') b
  due_whole m zero a q m' p' b pos eq em ep took g = absurd (omega arith)
  due_whole m (suc p) a q m' p' b pos eq em ep took g =
      let e : suc p - 1 ≡ p = omega arith in
      let e' : p' ≡ p = omega arith in
      let em' : m' ≡ m % (10 ^ p * d) = rw e at em in
      let eh : b.held ≡ step a.held (m / (10 ^ p * d)) = took.held ∙ ap (step a.held) (rw e at eq) in
      let k : min a.left (suc p) ≡ suc (min b.left p) = omega (arith, took.left) in
      rw (e', em')
      (record {
        taken = omega (arith, g.taken, took.taken);
        left = omega (arith, g.left, took.left);
        held = ap (λ h. fed step h (digits d (m % (10 ^ p * d)) p (min b.left p))) eh ∙ rw k at g.held;
        state = rw k at g.state;
        place = omega (arith, g.place);
      })

  -- a digit of the fraction
  due_more : (r : ℕ) (a b : Tally) → 0 < r → b.taken ≡ a.taken + 1 → b.left + 1 ≡ a.left → b.held ≡ step a.held (10 * r / d)
      → Due step d m₀ p₀ k₀ a₀ r 0 (coming d r a.left) a → Due step d m₀ p₀ k₀ a₀ (10 * r % d) 0 (coming d (10 * r % d) b.left) b
  due_more zero a b pos et el eh g = absurd (omega arith)
  due_more (suc r) a b pos et el eh g =
      let n : ℕ = coming d (10 * suc r % d) b.left in
      let some : a.left ≡ suc b.left = omega arith in
      let k : coming d (suc r) a.left ≡ suc n = ap (coming d (suc r)) some in
      record {
        taken = omega (arith, g.taken);
        left = omega (arith, g.left);
        held = ap (λ h. fed step h (digits d (10 * suc r % d) 0 n)) eh ∙ rw k at g.held;
        state = rw k at g.state;
        place = omega (arith, g.place);
      }

  pub due_fraction : (r : ℕ) (a : Tally) (q r' : ℕ) (b : Tally) → 0 < r → q ≡ 10 * r / d → r' ≡ 10 * r % d → Took step a (q ∷ []) b
      → Due step d m₀ p₀ k₀ a₀ r 0 (coming d r a.left) a → Due step d m₀ p₀ k₀ a₀ r' 0 (coming d r' b.left) b
  due_fraction r a q r' b pos eq er took g = rw er (due_more r a b pos took.taken took.left (took.held ∙ ap (step a.held) eq) g)

  pub due_same : (m p k : ℕ) (a b : Tally) → Same a b → Due step d m₀ p₀ k₀ a₀ m p k a → Due step d m₀ p₀ k₀ a₀ m p k b
  due_same m p k a b same g =
      record {
        taken = omega (arith, same.taken, g.taken);
        left = omega (arith, same.left, g.left);
        held = ap (λ h. fed step h (digits d m p k)) same.held ∙ g.held;
        state = g.state;
        place = g.place;
      }

  pub due_still : (r : ℕ) (a b : Tally) → Same a b → Due step d m₀ p₀ k₀ a₀ r 0 (coming d r a.left) a → Due step d m₀ p₀ k₀ a₀ r 0 (coming d r b.left) b
  due_still r a b same g = subst (λ l. Due step d m₀ p₀ k₀ a₀ r 0 (coming d r l) b) (sym same.left) (due_same r 0 (coming d r a.left) a b same g)

  -- k digits of the fraction with others after them
  pub due_block : (k r : ℕ) (a : Tally) (r' : ℕ) (b : Tally) → 0 < r' → Went step d r 0 k a b r' 0
      → Due step d m₀ p₀ k₀ a₀ r 0 (coming d r a.left) a → Due step d m₀ p₀ k₀ a₀ r' 0 (coming d r' b.left) b
  due_block zero r a r' b pos w g = rw w.state (due_still r a b (record { taken = omega (arith, w.taken); left = omega (arith, w.left); held = w.held }) g)
  due_block (suc k) r a r' b pos w g =
      let next : Tally = record { taken = a.taken + 1; left = b.left + k; held = step a.held (10 * r / d) } in
      due_block k (10 * r % d) next r' b pos
      (record { taken = omega (arith, w.taken); left = refl; held = w.held; state = w.state; place = omega arith })
      (due_more r a next (some_before d r (suc k) (rw w.state at pos)) refl (omega (arith, w.left)) refl g)

  pub due_none : (m p k : ℕ) (a : Tally) → k ≡ 0 → Due step d m₀ p₀ k₀ a₀ m p k a → Went step d m₀ p₀ k₀ a₀ a m p
  due_none m p k a e g =
      record {
        taken = omega (arith, g.taken);
        left = omega (arith, g.left);
        held = rw e at g.held;
        state = rw e at g.state;
        place = omega (arith, g.place);
      }

-- No digit of the fraction comes where no remainder is left.
pub coming_over : (d r l : ℕ) → r ≡ 0 → coming d r l ≡ 0
coming_over d r zero e = refl
coming_over d zero (suc l) e = refl
coming_over d (suc r) (suc l) e = absurd (omega arith)
