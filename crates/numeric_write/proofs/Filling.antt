-- A digit into a group sink.
use Rattle.std.proofs.Common.{◌≡◌, ℕ, ◌+◌, ◌-◌, ◌*◌, ◌/◌, ◌%◌, ◌^◌, ◌<◌, ◌≤◌, Bool, true, false, cond, ltb, List, [], ◌∷◌, ◌++◌, length, drop, sym, refl, ap, ◌∙◌, ⊎_elim, mul_assoc, add-mul, pow-suc, zero-add, zero-mul, mul-one, add-one, arith, length-append}
use Rattle.std.specs.Int.Digits.{number_from_digits}
use Rattle.std.specs.List.{flat_map}
use Rattle.std.proofs.lemmas.Int.Digits.{number_push}
use Rattle.std.proofs.lemmas.List.{nil_from_length}
use Rattle.std.proofs.lemmas.Bool.{cases_eq, cases_lt, cond-true, lt-ltb}
use Rattle.division.specs.Digits.{shifted}
use Rattle.numeric.specs.Buffer.{placed}
use Rattle.numeric.specs.Bytes.{word_bytes}
use Rattle.numeric.specs.Groups.{words_in}
use Rattle.numeric.specs.Package.{fours}
use Rattle.numeric.proofs.Bytes.{words_more, words_back, length_words, bytes_push, placed_append, placed_none}
use Rattle.numeric.proofs.Proper.{proper_push}
use Rattle.numeric_write.specs.Laid.{Laid, Finished, held, filler}
use Rattle.numeric_write.specs.States.{going, skips, fills}
use Rattle.numeric_write.specs.declared.group_state.GroupState.{GroupState}
use Rattle.numeric_write.specs.declared.group_state.GroupState.TheVariants.{Skipping, Filling, Spent}

-- THE STATE AFTER A DIGIT

pub going_after : (s : GroupState) (b : Bool) → going s ≡ true → going (cond b s Spent) ≡ b
going_after s true h = h
going_after s false h = refl

pub filling_skips : (b : Bool) → skips (cond b Filling Spent) ≡ true → ⊥
filling_skips true h = let z : ◌≡◌ {A = Bool} false true = h in let n : ◌≡◌ {A = ℕ} 0 1 = cc in omega arith
filling_skips false h = let z : ◌≡◌ {A = Bool} false true = h in let n : ◌≡◌ {A = ℕ} 0 1 = cc in omega arith

pub skipping_fills : (b : Bool) → fills (cond b Skipping Spent) ≡ true → ⊥
skipping_fills true h = let z : ◌≡◌ {A = Bool} false true = h in let n : ◌≡◌ {A = ℕ} 0 1 = cc in omega arith
skipping_fills false h = let z : ◌≡◌ {A = Bool} false true = h in let n : ◌≡◌ {A = ℕ} 0 1 = cc in omega arith

-- THE NUMBER HELD

pub power_more : (k : ℕ) → 10 ^ (k + 1) ≡ 10 ^ k * 10
power_more k = ap (λ x. 10 ^ x) (add-one k) ∙ pow-suc 10 k

-- the group stays open
pub held_more : (bytes : List ℕ) (k places group digit : ℕ) → held bytes k (places + 1) (group * 10 + digit) ≡ shifted (held bytes k places group) digit
held_more bytes k places group digit =
    let g : ℕ = number_from_digits 10000 (words_in k bytes) in
    omega (arith, ap (λ x. g * x) (power_more places), mul_assoc g (10 ^ places) 10)

-- nothing stands yet, and a zero comes
pub held_none : (bytes : List ℕ) (k places group : ℕ) → k ≡ 0 → group ≡ 0 → held bytes k places group ≡ 0
held_none bytes k places group z g =
    let n : number_from_digits 10000 (words_in k bytes) ≡ 0 = ap (λ x. number_from_digits 10000 (words_in x bytes)) z in
    omega (arith, ap (λ x. x * 10 ^ places) n, zero-mul (10 ^ places))

-- the group ends
pub held_close : (bytes : List ℕ) (k places group digit : ℕ) → places ≡ 3 → 2 * k + 2 ≤ length bytes
    → held (placed bytes (2 * k) (word_bytes (group * 10 + digit))) (k + 1) 0 0 ≡ shifted (held bytes k places group) digit
held_close bytes k places group digit three room =
    let g : ℕ = number_from_digits 10000 (words_in k bytes) in
    let w : ℕ = group * 10 + digit in
    let after : List ℕ = placed bytes (2 * k) (word_bytes w) in
    let e : number_from_digits 10000 (words_in (k + 1) after) ≡ g * 10000 + w =
    ap (λ j. number_from_digits 10000 (words_in j after)) (add-one k)
    ∙ ap (number_from_digits 10000) (words_more k bytes w room)
    ∙ number_push 10000 (words_in k bytes) w in
    omega (arith, ap (λ x. x * 10 ^ 0) e, mul-one (g * 10000 + w), ap (λ x. g * 10 ^ x) three)

-- THE GROUPS LAID

-- one more group behind those that are laid
pub laid_more : (before after : List ℕ) (k g : ℕ) → Laid before after k → 2 * k + 2 ≤ length after → g < 10000 → (k ≡ 0 → 0 < g)
    → Laid before (placed after (2 * k) (word_bytes g)) (k + 1)
laid_more before after k g l room small first =
    let gs : List ℕ = l.groups in
    let bs : List ℕ = flat_map word_bytes gs in
    let far : length bs ≡ 2 * k = length_words gs ∙ ap (λ x. 2 * x) l.long in
    record {
      groups = gs ++ (g ∷ []);
      proper = proper_push gs g l.proper small (λ z. first (sym l.long ∙ z));
      long = length-append gs (g ∷ []) ∙ ap (λ x. x + 1) l.long;
      bytes =
          ap (λ x. placed after x (word_bytes g)) (sym far)
          ∙ ap (λ x. placed x (length bs) (word_bytes g)) l.bytes
          ∙ ap (λ x. placed (placed before 0 bs) x (word_bytes g)) (sym (zero-add (length bs)))
          ∙ placed_append before 0 bs (word_bytes g) (omega arith)
          ∙ ap (placed before 0) (sym (bytes_push gs g));
    }

pub laid_none : (b : List ℕ) → Laid b b 0
laid_none b = record { groups = []; proper = record { under = tt; starts = tt }; long = refl; bytes = sym (placed_none b 0) }

-- the words in a buffer are the groups that are laid in it
pub laid_words : (before after : List ℕ) (k : ℕ) (l : Laid before after k) → words_in k after ≡ l.groups
laid_words before after k l =
    let gs : List ℕ = l.groups in
    ap (λ x. words_in k x) l.bytes
    ∙ ap (λ x. words_in x (placed before 0 (flat_map word_bytes gs))) (sym l.long)
    ∙ words_back gs (drop (0 + length (flat_map word_bytes gs)) before)

-- THE LAST GROUP

-- no place of a further group is taken
pub finished_none : (before after : List ℕ) (k places group : ℕ) → Laid before after k → places ≡ 0 → group < 10 ^ places → Finished before after (held after k places group * 10 ^ filler places)
finished_none before after k places group l z small =
    let n : ℕ = number_from_digits 10000 (words_in k after) in
    let one : 10 ^ places ≡ 1 = ap (λ x. 10 ^ x) z in
    let none : 10 ^ filler places ≡ 1 = ap (λ x. 10 ^ filler x) z in
    let e : held after k places group * 10 ^ filler places ≡ n =
    omega (arith, ap (λ x. held after k places group * x) none, mul-one (held after k places group), ap (λ x. n * x) one, mul-one n) in
    record { count = k; laid = l; value = sym (e ∙ ap (number_from_digits 10000) (laid_words before after k l)) }

-- the group is a zero before any other
pub finished_skip : (before after : List ℕ) (k group : ℕ) → Laid before after k → k ≡ 0 → group ≡ 0 → Finished before after (held after k 4 group)
finished_skip before after k group l z g =
    record { count = k; laid = l; value = ap (number_from_digits 10000) (nil_from_length l.groups (l.long ∙ z)) ∙ sym (held_none after k 4 group z g) }

-- the group is put
pub finished_put : (before after : List ℕ) (k group : ℕ) → Laid before after k → 2 * k + 2 ≤ length after → group < 10000 → (k ≡ 0 → 0 < group)
    → Finished before (placed after (2 * k) (word_bytes group)) (held after k 4 group)
unfolding laid_more
finished_put before after k group l room small first =
    record {
      count = k + 1;
      laid = laid_more before after k group l room small first;
      value = number_push 10000 l.groups group ∙ ap (λ x. number_from_digits 10000 x * 10000 + group) (sym (laid_words before after k l));
    }

four : (p : ℕ) → 0 < p → p < 4 → 10 ^ p * 10 ^ filler p ≡ 10000
four p some small = ⊎_elim
    (λ e. ap (λ x. 10 ^ x * 10 ^ filler x) e)
    (λ a. ⊎_elim
    (λ e. ap (λ x. 10 ^ x * 10 ^ filler x) e)
    (λ b. let e : p ≡ 3 = omega arith in ap (λ x. 10 ^ x * 10 ^ filler x) e)
    (cases_eq p 2))
    (cases_eq p 1)

-- zeros on the right fill the group
pub held_filled : (bytes : List ℕ) (k places group : ℕ) → 0 < places → places < 4 → held bytes k 4 (group * 10 ^ filler places) ≡ held bytes k places group * 10 ^ filler places
held_filled bytes k places group some small =
    let n : ℕ = number_from_digits 10000 (words_in k bytes) in
    let f : ℕ = 10 ^ filler places in
    omega (arith, add-mul (n * 10 ^ places) group f, mul_assoc n (10 ^ places) f, ap (λ x. n * x) (four places some small))

-- THE FIRST GROUP

pub first_some : (places left r : ℕ) → r ≡ cond (ltb 0 left) (places % 4) 0 → 0 < left → r ≡ places % 4
first_some places left r e some = e ∙ cond-true (ltb 0 left) (places % 4) 0 (lt-ltb 0 left some)

first_none : (places left r : ℕ) → r ≡ cond (ltb 0 left) (places % 4) 0 → left ≡ 0 → r ≡ 0
first_none places left r e z = e ∙ ap (λ x. cond (ltb 0 x) (places % 4) 0) z

pub first_open : (places left r : ℕ) → r ≡ cond (ltb 0 left) (places % 4) 0 → r < 4
first_open places left r e = ⊎_elim
    (λ some. omega (arith, first_some places left r e some))
    (λ none. omega (arith, first_none places left r e (omega arith)))
    (cases_lt 0 left)

pub first_room : (places left len r : ℕ) → r ≡ cond (ltb 0 left) (places % 4) 0 → left ≤ len / 2 * 4 - places % 4 → 2 * (0 + fours (r + left)) ≤ len
first_room places left len r e h = ⊎_elim
    (λ some. omega (arith, first_some places left r e some))
    (λ none. omega (arith, first_none places left r e (omega arith)))
    (cases_lt 0 left)
