-- Worked depths: what each is written as.
use Rattle.std.specs.Prelude.{◌≡◌, ℕ, List, [], ◌∷◌, replicate, ℤ, pos, negsuc}
use Rattle.generic.specs.declared.sign.Sign.TheVariants.{Plus, Minus}
use Rattle.fraction.specs.Meaning.{Meaning, rational, infinity, nan}
use Rattle.numeric.specs.Bytes.{package_bytes}
use Rattle.numeric.specs.Package.{Package, precision_in_force, written}

pub record Row : Type 0 where
  pub depth : Meaning
  pub precision : ℕ
  pub gives : Package

-- A depth, a precision, and the package: weight, sign word, scale and groups.
abbrev pub row : Meaning → ℕ → ℤ → ℕ → ℕ → List ℕ → Row
row depth precision weight sign scale groups =
    record { depth = depth; precision = precision; gives = record { weight = weight; sign = sign; scale = scale; groups = groups } }

abbrev pub Right : List Row → Type 0
Right [] = Unit {0}
Right (r ∷ rs) = (written r.depth r.precision ≡ r.gives) × Right rs

abbrev pub table : List Row
table =
    row (rational Plus 12345 1) 5 (pos 1) 0x0000 0 (1 ∷ 2345 ∷ [])
    ∷ row (rational Plus 250000000 1) 5 (pos 2) 0x0000 0 (2 ∷ 5000 ∷ [])
    ∷ row (rational Plus 1 3) 4 (negsuc 0) 0x0000 4 (3333 ∷ [])
    ∷ row (rational Plus 1 3) 0 (negsuc 0) 0x0000 1 (3000 ∷ [])
    ∷ row (rational Plus 1 100000) 5 (negsuc 1) 0x0000 5 (1000 ∷ [])
    ∷ row (rational Plus 1 100000) 4 (negsuc 1) 0x0000 4 []
    ∷ row (rational Plus 1 100000) 2 (negsuc 0) 0x0000 2 []
    ∷ row (rational Plus 100001 10) 16383 (pos 1) 0x0000 1 (1 ∷ 0 ∷ 1000 ∷ [])
    ∷ row (rational Minus 1 8) 16383 (negsuc 0) 0x4000 3 (1250 ∷ [])
    ∷ row (rational Minus 0 1) 4 (pos 0) 0x0000 0 []
    ∷ row (infinity Plus) 4 (pos 0) 0xD000 0 []
    ∷ row (infinity Minus) 4 (pos 0) 0xF000 0 []
    ∷ row nan 4 (pos 0) 0xC000 0 []
    ∷ []

-- The bytes of 1/3 at the precision 4.
abbrev pub third : List ℕ
third = 0x00 ∷ 0x01 ∷ 0xff ∷ 0xff ∷ 0x00 ∷ 0x00 ∷ 0x00 ∷ 0x04 ∷ 0x0d ∷ 0x05 ∷ []

-- The table, the bytes of a third and of a minus zero, and the greatest precision in force.
abbrev pub WorkedDepths : Type 0
WorkedDepths =
    Right table
    × (package_bytes (written (rational Plus 1 3) 4) ≡ third)
    × (package_bytes (written (rational Minus 0 1) 4) ≡ replicate 8 0)
    × (precision_in_force 16383 ≡ 16383) × (precision_in_force 16384 ≡ 16383)
