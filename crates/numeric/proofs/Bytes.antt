-- What stands in a buffer after bytes were put into it, and the words in bytes.
use Rattle.std.proofs.Common.{◌≡◌, ℕ, zero, suc, ◌+◌, ◌-◌, ◌*◌, ◌≤◌, List, [], ◌∷◌, ◌++◌, length, take, drop, sym, refl, ap, ◌∙◌, add-zero, div-add-mod', zero-add, arith, length-append, length-drop}
use Rattle.std.specs.List.{flat_map}
use Rattle.std.proofs.lemmas.List.{append_assoc, append-nil, take_at, drop_at, drop-drop, length-take-le, flat_map_more, take-append-drop, take_rest, drop_all}
use borrow.Rule.Slice.PartMut.{put_mid, post_of}
use Rattle.numeric.specs.Buffer.{placed, bytes_needed}
use Rattle.numeric.specs.Bytes.{word_bytes, package_bytes}
use Rattle.numeric.specs.Groups.{words_in}
use Rattle.numeric.specs.Package.{Package}

pub length_words : (ws : List ℕ) → length (flat_map word_bytes ws) ≡ 2 * length ws
length_words [] = refl
length_words (w ∷ ws) = omega (arith, length_words ws)

pub length_package : (q : Package) → length (package_bytes q) ≡ bytes_needed q
length_package q = omega (arith, length_words q.groups)

pub bytes_push : (ws : List ℕ) (w : ℕ) → flat_map word_bytes (ws ++ (w ∷ [])) ≡ flat_map word_bytes ws ++ word_bytes w
bytes_push ws w = sym (flat_map_more word_bytes [] ws w)

-- bytes put behind bytes that were put
pub placed_append : (xs : List ℕ) (u : ℕ) (xa bs : List ℕ) → u ≤ length xs → placed (placed xs u xa) (u + length xa) bs ≡ placed xs u (xa ++ bs)
placed_append xs u xa bs h =
    let la : ℕ = length xa in
    let lb : ℕ = length bs in
    let front : List ℕ = take u xs ++ xa in
    let rest : List ℕ = drop (u + la) xs in
    let shape : placed xs u xa ≡ front ++ rest = sym (append_assoc (take u xs) xa rest) in
    let long : length front ≡ u + la = length-append (take u xs) xa ∙ ap (λ k. k + la) (length-take-le u xs h) in
    let sum : u + la + lb ≡ u + length (xa ++ bs) = omega (arith, length-append xa bs) in
    let back : drop (u + la + lb) (front ++ rest) ≡ drop (u + length (xa ++ bs)) xs =
    sym (drop-drop lb (u + la) (front ++ rest)) ∙ ap (drop lb) (drop_at front rest (u + la) long) ∙ drop-drop lb (u + la) xs ∙ ap (λ k. drop k xs) sum in
    ap (λ l. placed l (u + la) bs) shape
    ∙ ap (λ l. l ++ (bs ++ drop (u + la + lb) (front ++ rest))) (take_at front rest (u + la) long)
    ∙ ap (λ l. front ++ (bs ++ l)) back
    ∙ append_assoc (take u xs) xa (bs ++ drop (u + length (xa ++ bs)) xs)
    ∙ ap (λ l. take u xs ++ l) (sym (append_assoc xa bs (drop (u + length (xa ++ bs)) xs)))

pub placed_none : (xs : List ℕ) (u : ℕ) → placed xs u [] ≡ xs
placed_none xs u = ap (λ k. take u xs ++ drop k xs) (add-zero u) ∙ take-append-drop u xs

pub length_placed : (xs : List ℕ) (u : ℕ) (bs : List ℕ) → u + length bs ≤ length xs → length (placed xs u bs) ≡ length xs
length_placed xs u bs h =
    length-append (take u xs) (bs ++ drop (u + length bs) xs)
    ∙ omega (arith, length-take-le u xs (omega arith), length-append bs (drop (u + length bs) xs), length-drop (u + length bs) xs)

-- bytes put at the start of the part from u on
pub placed_part : (xs : List ℕ) (u : ℕ) (bs : List ℕ) → take u xs ++ placed (drop u xs) 0 bs ≡ placed xs u bs
placed_part xs u bs = ap (λ l. take u xs ++ (bs ++ l)) (ap (λ k. drop k (drop u xs)) (zero-add (length bs)) ∙ drop-drop (length bs) u xs)

-- the same where the part was lent as &mut bytes[u..]
pub placed_lent : (xs ys : List ℕ) (u : ℕ) (bs : List ℕ) → ys ≡ placed (take (length xs - u) (drop u xs)) 0 bs → put_mid u (length xs - u) xs ys ≡ placed xs u bs
placed_lent xs ys u bs e =
    let gone : post_of u (length xs - u) xs ≡ [] = drop_all (length xs - u) (drop u xs) (omega (arith, length-drop u xs)) in
    ap (λ l. take u xs ++ (ys ++ l)) gone
    ∙ ap (λ l. take u xs ++ l) (append-nil ys ∙ e ∙ ap (λ l. placed l 0 bs) (take_rest xs u))
    ∙ placed_part xs u bs

-- WORDS IN BYTES

-- a word put behind k words
pub words_more : (k : ℕ) (xs : List ℕ) (w : ℕ) → 2 * k + 2 ≤ length xs → words_in (suc k) (placed xs (2 * k) (word_bytes w)) ≡ words_in k xs ++ (w ∷ [])
words_more k [] w h = absurd (omega arith)
words_more k (x ∷ []) w h = absurd (omega arith)
words_more zero (x ∷ y ∷ r) w h = ap (λ v. v ∷ []) (div-add-mod' w 256)
words_more (suc k) (x ∷ y ∷ r) w h =
    let p : 2 * suc k ≡ suc (suc (2 * k)) = omega arith in
    let q : suc (suc (2 * k)) + 2 ≡ suc (suc (2 * k + 2)) = omega arith in
    ap (λ j. words_in (suc (suc k)) (placed (x ∷ y ∷ r) j (word_bytes w))) p
    ∙ ap (λ j. words_in (suc (suc k)) (take (suc (suc (2 * k))) (x ∷ y ∷ r) ++ (word_bytes w ++ drop j (x ∷ y ∷ r)))) q
    ∙ ap (λ l. (x * 256 + y) ∷ l) (words_more k r w (omega arith))

-- the words of bytes that words were written into
pub words_back : (ws rest : List ℕ) → words_in (length ws) (flat_map word_bytes ws ++ rest) ≡ ws
words_back [] rest = refl
words_back (w ∷ ws) rest =
    ap (λ x. x ∷ words_in (length ws) (flat_map word_bytes ws ++ rest)) (div-add-mod' w 256)
    ∙ ap (λ l. w ∷ l) (words_back ws rest)
