-- The numbers that digits form.
use Rattle.std.specs.Prelude.{ℕ, ◌+◌, ◌-◌, ◌*◌, List, [], ◌∷◌}

-- The digits ds taken in turn, from h on.
abbrev pub fed : (ℕ → ℕ → ℕ) → ℕ → List ℕ → ℕ
fed step h [] = h
fed step h (d ∷ ds) = fed step (step h d) ds

-- One more digit at the right end of a number.
abbrev pub shifted : ℕ → ℕ → ℕ
shifted h d = 10 * h + d

-- The number that ASCII digits form.
abbrev pub ascii_number : List ℕ → ℕ
ascii_number bs = fed (λ h b. shifted h (b - 48)) 0 bs
