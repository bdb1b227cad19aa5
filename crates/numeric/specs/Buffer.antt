-- A package in the caller's buffer, of which the first bytes are used.
use Rattle.std.specs.Prelude.{◌≡◌, ℕ, ◌+◌, ◌-◌, ◌*◌, ◌<◌, ◌≤◌, List, [], ◌∷◌, ◌++◌, length, take, drop, Ok, Err, Result}
use Rattle.generic.specs.Refusals.{refuses}
use Rattle.numeric.specs.Bytes.{package_bytes}
use Rattle.numeric.specs.Faults.{refusal}
use Rattle.numeric.specs.Package.{Package, ndigits}
use Rattle.numeric.specs.declared.fault.PackageFault.{PackageFault}

-- The bytes bs stand from the place `at` on, and nothing else changes.
abbrev pub placed : List ℕ → ℕ → List ℕ → List ℕ
placed before at bs = take at before ++ (bs ++ drop (at + length bs) before)

-- How many bytes a package has: four words and its groups.
abbrev pub bytes_needed : Package → ℕ
bytes_needed q = 8 + 2 * ndigits q

-- How many bytes are free. A used count beyond the buffer's length leaves none.
abbrev pub free : List ℕ → ℕ → ℕ
free before used = length before - used

-- The package stands behind the used bytes, and the used count covers it.
pub record Put (q : Package) (before : List ℕ) (used : ℕ) (after : List ℕ) (used' : ℕ) : Type 0 where
  pub room : bytes_needed q ≤ free before used
  pub bytes : after ≡ placed before used (package_bytes q)
  pub count : used' ≡ used + bytes_needed q

-- The package has no room; nothing changes, and the refusal tells how many bytes are needed.
pub record Refused (q : Package) (before : List ℕ) (used : ℕ) (after : List ℕ) (used' : ℕ) (f : PackageFault) : Type 0 where
  pub tight : free before used < bytes_needed q
  pub fault : refusal f ≡ refuses 9 (bytes_needed q ∷ [])
  pub bytes : after ≡ before
  pub count : used' ≡ used

-- What writing the package q comes to.
abbrev pub Outcome : {A : Type 0} → Package → List ℕ → ℕ → List ℕ → ℕ → Result A PackageFault → Type 0
Outcome q before used after used' (Ok x) = Put q before used after used'
Outcome q before used after used' (Err f) = Refused q before used after used' f
