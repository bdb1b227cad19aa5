-- How a sink may go on, beyond its numbers.
use Rattle.std.specs.Prelude.{◌≡◌, ℕ, ◌<◌, ◌≤◌, List, length, slice_index, refl}
use Rattle.std.proofs.Common.{◌∙◌, inl, inr, arith}
use Rattle.std.proofs.lemmas.Bool.{cases_lt}

-- Each value goes on as itself, and what goes on goes on from that.
pub record Preorder {X : Type 0} (on : X → X → Type 0) : Type 0 where
  pub stays : (x : X) → on x x
  pub joins : (x y z : X) → on x y → on y z → on x z

-- The text in the bytes b, k of them, under the lender's name n, goes on to b', k' and n':
-- ASCII digits come in from k to k', nothing else changes, and the bytes are still the lender's.
pub record TextOn (n : ℕ) (b : List ℕ) (k n' : ℕ) (b' : List ℕ) (k' : ℕ) : Type 0 where
  pub lender : n' ≡ n
  pub longer : k ≤ k'
  pub within : k ≤ 65535 → k' ≤ 65535
  pub size : length b' ≡ length b
  pub before : (i : ℕ) → i < k → slice_index b' i ≡ slice_index b i
  pub behind : (i : ℕ) → k' ≤ i → slice_index b' i ≡ slice_index b i
  pub ascii : (i : ℕ) → k ≤ i → i < k' → (48 ≤ slice_index b' i) × (slice_index b' i < 58)

pub text_stays : (n : ℕ) (b : List ℕ) (k : ℕ) → TextOn n b k n b k
text_stays n b k =
    record { lender = refl; longer = omega arith; within = λ h. h; size = refl; before = λ i h. refl; behind = λ i h. refl; ascii = λ i h h'. absurd (omega arith) }

pub text_joins : (n : ℕ) (b : List ℕ) (k n' : ℕ) (b' : List ℕ) (k' n'' : ℕ) (b'' : List ℕ) (k'' : ℕ) → TextOn n b k n' b' k' → TextOn n' b' k' n'' b'' k'' → TextOn n b k n'' b'' k''
text_joins n b k n' b' k' n'' b'' k'' p q =
    record {
      lender = q.lender ∙ p.lender;
      longer = omega (arith, p.longer, q.longer);
      within = λ h. q.within (p.within h);
      size = q.size ∙ p.size;
      before = λ i h. q.before i (omega (arith, p.longer)) ∙ p.before i h;
      behind = λ i h. q.behind i h ∙ p.behind i (omega (arith, q.longer));
      ascii = λ i h h'. elim (cases_lt i k') [ inl lt ↦ rw (q.before i lt) (p.ascii i h lt) | inr ge ↦ q.ascii i ge h' ];
    }
