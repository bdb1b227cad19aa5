-- What a written package says of its fraction.
use Rattle.std.specs.Prelude.{◌≡◌, ℕ, ◌+◌, ◌*◌, ◌^◌, ◌<◌, ◌≤◌}
use Rattle.std.specs.Int.Digits.{AllBelowBase}
use Rattle.generic.specs.declared.sign.Sign.{Sign}
use Rattle.fraction.specs.Meaning.{rational}
use Rattle.numeric.specs.Cut.{cut, Scale}
use Rattle.numeric.specs.Package.{Package, amount, Enough, fours, sign_word, plus_word, bare, precision_in_force, written}

-- Of n over d with a sign, at the precision p: the amount is n over d cut after as many decimals as the scale says. So it does
-- not pass n over d, and is short of it by less than a last unit, 10^(-scale). An amount is a whole number over 10000^e, from
-- some e on, and a/b and c/f are compared as a × f and c × b.
pub record Faithful (sign : Sign) (n d p : ℕ) (q : Package) : Type 0 where
  pub sign_is : 0 < n → q.sign ≡ sign_word sign
  pub zero_is : n ≡ 0 → q ≡ bare plus_word
  pub scale_is : Scale n d (precision_in_force p) q.scale
  pub some_unit : Enough q (fours q.scale)
  pub exact : (e : ℕ) → Enough q e → amount q e * 10 ^ q.scale ≡ cut n d q.scale * 10000 ^ e
  pub not_above : (e : ℕ) → Enough q e → amount q e * d ≤ n * 10000 ^ e
  pub within_a_unit : (e : ℕ) → Enough q e → n * 10 ^ q.scale * 10000 ^ e < (amount q e * 10 ^ q.scale + 10000 ^ e) * d
  pub groups_below : AllBelowBase 10000 q.groups

abbrev pub WritingFaithful : Type 0
WritingFaithful = (sign : Sign) (n d p : ℕ) → 0 < d → Faithful sign n d p (written (rational sign n d) p)
