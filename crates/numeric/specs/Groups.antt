-- Groups in a list, and groups in bytes.
use Rattle.std.specs.Prelude.{ℕ, zero, suc, ◌+◌, ◌*◌, ◌<◌, List, [], ◌∷◌}
use Rattle.std.specs.Int.Digits.{AllBelowBase}

-- The first of the groups is not 0.
abbrev pub Starts : List ℕ → Type 0
Starts [] = Unit {0}
Starts (g ∷ gs) = 0 < g

-- Groups as a number is written in them: each below 10000, and the first not 0.
pub record Proper (gs : List ℕ) : Type 0 where
  pub under : AllBelowBase 10000 gs
  pub starts : Starts gs

-- The first k words of bytes, as many as there are.
abbrev pub words_in : ℕ → List ℕ → List ℕ
words_in zero bs = []
words_in (suc k) [] = []
words_in (suc k) (a ∷ []) = []
words_in (suc k) (a ∷ b ∷ bs) = (a * 256 + b) ∷ words_in k bs
