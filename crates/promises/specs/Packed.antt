-- The packed layout: no two equal blocks of a kind, not longer than the plain one, and it fits where that does.
use Rattle.std.specs.Prelude.{ℕ, ◌+◌, ◌*◌, ◌≤◌, ◌≡◌, refl, Bool, true, false, cond, List, [], ◌∷◌, ◌++◌, map, length, Option, None, Some}
use Rattle.std.proofs.Common.{sym, ap, ◌∙◌, subst, true≢false, append_assoc, arith, length-append, le-ltb, ltb-false}
use Rattle.std.proofs.lemmas.List.{length-map}
use Rattle.meaning.specs.Words.{eq_list, flat}
use Rattle.meaning.specs.Tables.{Table}
use Rattle.meaning.specs.Layout.{table_words, words_fit}
use Rattle.meaning.specs.Packed.{without, first_of_each, together, offset_in, BlockKind, set, coverage, class_table, HeaderWord, number, offset, header, blocks_of, packed_blocks, packed_start, packed_word, packed, packed_words}
use Rattle.meaning.specs.Subset.{limit, too_big, good_packing, words_in}
use Rattle.laws.specs.Stands.{All, all_append, all_front, all_back, Word, flat_length}
use Rattle.laws.specs.Repeats.{list_same, same_list}
use Rattle.laws.specs.Headers.{blocks_of_append, block_first, plain_start, plain_word, plain_from, plain, plain_from_length}
use Rattle.laws.specs.PlainReading.{plain_reading}
use Rattle.laws.specs.ReadsBack.{fit_words}
use Rattle.laws.specs.Fits.{words_fit_lem}
use Rattle.laws.specs.CallBack.{big_fit}
use Rattle.promises.specs.Refusals.{Call, answer, left?, words?, laid, refusals, kept_exactly, kept_length}

-- no two blocks are equal
abbrev pub Different : List (List ℕ) → Type 0
Different [] = Unit {0}
Different (b ∷ bs) = All (λ d. b ≡ d → ⊥) bs × Different bs

-- what holds of each block holds of those that are not equal to b
without_all : (P : List ℕ → Type 0) (b : List ℕ) (ds : List (List ℕ)) → All P ds → All P (without b ds)
unfolding without
without_all P b [] h = tt
without_all P b (d ∷ ds) h = step (eq_list b d) (without_all P b ds h.1)
  where
    step : (t : Bool) → All P (without b ds) → All P (cond t (without b ds) (d ∷ without b ds))
    step true r = r
    step false r = (h.0, r)

without_apart : (b : List ℕ) (ds : List (List ℕ)) → All (λ d. b ≡ d → ⊥) (without b ds)
unfolding without
without_apart b [] = tt
without_apart b (d ∷ ds) = step (eq_list b d) refl (without_apart b ds)
  where
    step : (t : Bool) → eq_list b d ≡ t → All (λ d. b ≡ d → ⊥) (without b ds) → All (λ d. b ≡ d → ⊥) (cond t (without b ds) (d ∷ without b ds))
    step true e r = r
    step false e r = ((λ same. true≢false (sym (same_list b) ∙ ap (eq_list b) same ∙ e)), r)

without_different : (b : List ℕ) (ds : List (List ℕ)) → Different ds → Different (without b ds)
unfolding without
without_different b [] h = tt
without_different b (d ∷ ds) h = step (eq_list b d) (without_different b ds h.1)
  where
    step : (t : Bool) → Different (without b ds) → Different (cond t (without b ds) (d ∷ without b ds))
    step true r = r
    step false r = (without_all (λ x. d ≡ x → ⊥) b ds h.0, r)

first_different : (bs : List (List ℕ)) → Different (first_of_each bs)
unfolding first_of_each
first_different [] = tt
first_different (b ∷ bs) = (without_apart b (first_of_each bs), without_different b (first_of_each bs) (first_different bs))

-- the blocks of a table that are written, of each of the three kinds
pub no_two_equal : (t : Table) (k : BlockKind) → Different (packed_blocks (header t) k)
unfolding packed_blocks
no_two_equal t k = first_different (blocks_of k (header t))

-- They are no more words than all blocks.

without_short : (b : List ℕ) (ds : List (List ℕ)) → length (together (without b ds)) ≤ length (together ds)
unfolding without together
without_short b [] = omega arith
without_short b (d ∷ ds) = step (eq_list b d) (without_short b ds)
  where
    step : (t : Bool) → length (together (without b ds)) ≤ length (together ds) → length (together (cond t (without b ds) (d ∷ without b ds))) ≤ length (d ++ together ds)
    step true r = omega (arith, length-append d (together ds))
    step false r = omega (arith, length-append d (together ds), length-append d (together (without b ds)))

first_short : (bs : List (List ℕ)) → length (together (first_of_each bs)) ≤ length (together bs)
unfolding first_of_each together
first_short [] = omega arith
first_short (b ∷ bs) = omega (arith, length-append b (together bs), length-append b (together (without b (first_of_each bs))), without_short b (first_of_each bs), first_short bs)

three_lengths : (h s c t : List ℕ) → length (h ++ (s ++ (c ++ t))) ≡ length h + length s + length c + length t
three_lengths h s c t = omega (arith, length-append h (s ++ (c ++ t)), length-append s (c ++ t), length-append c t)

packed_short : (h : List HeaderWord) → length (packed h) ≤ length (plain h)
unfolding packed packed_blocks plain
packed_short h =
    let p = map (packed_word h) h in
    let q = plain_from h [] h in
    let s = blocks_of set h in
    let c = blocks_of coverage h in
    let t = blocks_of class_table h in
    omega (
      arith,
      three_lengths p (together (first_of_each s)) (together (first_of_each c)) (together (first_of_each t)),
      three_lengths q (together s) (together c) (together t),
      length-map h (packed_word h),
      plain_from_length h [] h,
      first_short s,
      first_short c,
      first_short t,
    )

-- so the packed layout of a table is not longer than the plain one
pub not_longer : (t : Table) → length (flat (packed_words t)) ≤ length (flat (table_words t))
unfolding packed_words
not_longer t = omega (arith, flat_length (packed_words t), flat_length (table_words t), ap length (plain_reading t), packed_short (header t))

-- Its offsets are no higher.

offset_without : (x b : List ℕ) (ds : List (List ℕ)) (p q : ℕ) → eq_list x b ≡ false → p ≤ q → offset_in p (without x ds) b ≤ offset_in q ds b
unfolding without offset_in
offset_without x b [] p q n l = omega arith
offset_without x b (d ∷ ds) p q n l =
    step (eq_list x d) (eq_list d b) refl refl (offset_without x b ds p (q + 2 * length d) n (omega arith)) (offset_without x b ds (p + 2 * length d) (q + 2 * length d) n (omega arith))
  where
    step : (t u : Bool) → eq_list x d ≡ t → eq_list d b ≡ u → offset_in p (without x ds) b ≤ offset_in (q + 2 * length d) ds b → offset_in (p + 2 * length d) (without x ds) b ≤ offset_in (q + 2 * length d) ds b
        → offset_in p (cond t (without x ds) (d ∷ without x ds)) b ≤ cond u q (offset_in (q + 2 * length d) ds b)
    step true true e f i j = absurd (true≢false (sym f ∙ ap (λ (l : List ℕ). eq_list l b) (sym (list_same x d e)) ∙ n))
    step true false e f i j = i
    step false true e f i j = rw f l
    step false false e f i j = rw f j

offset_early : (b : List ℕ) (xs ys : List (List ℕ)) (p : ℕ) → offset_in p (first_of_each (xs ++ (b ∷ ys))) b ≤ p + 2 * length (together xs)
unfolding first_of_each offset_in together
offset_early b [] ys p = rw (same_list b) (omega arith)
offset_early b (x ∷ xs) ys p = step (eq_list x b) refl (offset_early b xs ys (p + 2 * length x))
  where
    all : List (List ℕ)
    all = first_of_each (xs ++ (b ∷ ys))

    step : (t : Bool) → eq_list x b ≡ t → offset_in (p + 2 * length x) all b ≤ p + 2 * length x + 2 * length (together xs)
        → cond t p (offset_in (p + 2 * length x) (without x all) b) ≤ p + 2 * length (x ++ together xs)
    step true e i = omega arith
    step false e i = omega (arith, i, length-append x (together xs), offset_without x b all (p + 2 * length x) (p + 2 * length x) e (omega arith))

start_early : (h : List HeaderWord) (k : BlockKind) → packed_start h k ≤ plain_start h k
unfolding packed_start plain_start packed_blocks
start_early h set = omega arith
start_early h coverage = omega (arith, first_short (blocks_of set h))
start_early h class_table = omega (arith, first_short (blocks_of set h), first_short (blocks_of coverage h))

-- the offset of a block of a header, in the two readings
word_early : (h before g : List HeaderWord) (k : BlockKind) (b : List ℕ) → h ≡ before ++ (offset k (Some b) ∷ g) → packed_word h (offset k (Some b)) ≤ plain_word h before (offset k (Some b))
unfolding packed_word plain_word packed_blocks
word_early h before g k b e =
    let bs = ap (blocks_of k) e ∙ blocks_of_append k before (offset k (Some b) ∷ g) ∙ ap (λ (l : List (List ℕ)). blocks_of k before ++ l) (block_first k b g) in
    let early = subst (λ (l : List (List ℕ)). offset_in (packed_start h k) (first_of_each l) b ≤ packed_start h k + 2 * length (together (blocks_of k before))) (sym bs) (offset_early b (blocks_of k before) (blocks_of k g) (packed_start h k)) in
    omega (arith, early, start_early h k)

header_fits : (h before g : List HeaderWord) → h ≡ before ++ g → All Word (plain_from h before g) → All Word (map (packed_word h) g)
unfolding plain_from plain_word packed_word
header_fits h before [] e w = tt
header_fits h before (number n ∷ g) e w = (w.0, header_fits h (before ++ (number n ∷ [])) g (e ∙ sym (append_assoc before (number n ∷ []) g)) w.1)
header_fits h before (offset k None ∷ g) e w = (w.0, header_fits h (before ++ (offset k None ∷ [])) g (e ∙ sym (append_assoc before (offset k None ∷ []) g)) w.1)
header_fits h before (offset k (Some b) ∷ g) e w =
    (omega (arith, w.0, word_early h before g k b e), header_fits h (before ++ (offset k (Some b) ∷ [])) g (e ∙ sym (append_assoc before (offset k (Some b) ∷ []) g)) w.1)

-- the words of blocks
together_all : (bs : List (List ℕ)) → All Word (together bs) → All (All Word) bs
unfolding together
together_all [] h = tt
together_all (b ∷ bs) h = (all_front Word b (together bs) h, together_all bs (all_back Word b (together bs) h))

all_together : (bs : List (List ℕ)) → All (All Word) bs → All Word (together bs)
unfolding together
all_together [] h = tt
all_together (b ∷ bs) h = all_append Word b (together bs) h.0 (all_together bs h.1)

first_all : (bs : List (List ℕ)) → All (All Word) bs → All (All Word) (first_of_each bs)
unfolding first_of_each
first_all [] h = tt
first_all (b ∷ bs) h = (h.0, without_all (All Word) b (first_of_each bs) (first_all bs h.1))

blocks_fit : (bs : List (List ℕ)) → All Word (together bs) → All Word (together (first_of_each bs))
blocks_fit bs h = all_together (first_of_each bs) (first_all bs (together_all bs h))

packed_words_lem : (h : List HeaderWord) → All Word (plain h) → All Word (packed h)
unfolding plain packed packed_blocks
packed_words_lem h w =
    let s = together (blocks_of set h) in
    let c = together (blocks_of coverage h) in
    let t = together (blocks_of class_table h) in
    let after = all_back Word (plain_from h [] h) (s ++ (c ++ t)) w in
    let later = all_back Word s (c ++ t) after in
    all_append Word (map (packed_word h) h) _ (header_fits h [] h refl (all_front Word (plain_from h [] h) (s ++ (c ++ t)) w))
    (all_append Word (together (first_of_each (blocks_of set h))) _ (blocks_fit (blocks_of set h) (all_front Word s (c ++ t) after))
    (all_append Word (together (first_of_each (blocks_of coverage h))) (together (first_of_each (blocks_of class_table h))) (blocks_fit (blocks_of coverage h) (all_front Word c t later)) (blocks_fit (blocks_of class_table h) (all_back Word c t later))))

-- so the packed layout fits where the plain one does
pub packed_fits : (t : Table) → words_fit (table_words t) ≡ true → words_fit (packed_words t) ≡ true
unfolding packed_words
packed_fits t f = words_fit_lem (packed (header t)) (packed_words_lem (header t) (subst (All Word) (plain_reading t) (fit_words (table_words t) f)))

-- Calls for the two layouts.

-- the call for the layout with this mark, on this buffer
abbrev pub in_layout : ℕ → List ℕ → Call → Call
in_layout packing buffer c = record { kind = c.kind; form = c.form; packing = packing; source = c.source; glyphs = c.glyphs; lookups = c.lookups; buffer = buffer }

-- what is left of a call's table is not too big packed if it is not too big plain
smaller : (o : Option Table) → too_big (words? 0 o) ≡ false → (too_big (words? 1 o) ≡ false) × (length (flat (words? 1 o)) ≤ length (flat (words? 0 o)))
unfolding words? words_in too_big
smaller None h = (h, omega arith)
smaller (Some t) h =
    let plain-small = big_fit (table_words t) h in
    let short = not_longer t in
    (rw (le-ltb limit (length (flat (packed_words t))) (omega (arith, plain-small.1)), packed_fits t plain-small.0), short)

-- where the plain layout is kept, so is the packed one, and it is not longer
pub kept_packed : (c : Call) (buffer : List ℕ) → (answer (in_layout 0 buffer c)).number ≡ 0
    → ((answer (in_layout 1 buffer c)).number ≡ 0) × ((answer (in_layout 1 buffer c)).len ≤ (answer (in_layout 0 buffer c)).len)
unfolding refusals good_packing
kept_packed c buffer h =
    let (n1, (n13, (n14, (n2, (n3, (n4, (n5, (n6, (n7, (n12, (n8, (n9, (n10, u))))))))))))) = (kept_exactly (in_layout 0 buffer c)).0 h in
    let small = smaller (left? c) n9 in
    let room = ltb-false (length buffer) (length (laid (in_layout 0 buffer c))) n10 in
    let ten = le-ltb (length buffer) (length (laid (in_layout 1 buffer c))) (omega (arith, small.1)) in
    let kept = (kept_exactly (in_layout 1 buffer c)).1 (n1, (n13, (refl, (n2, (n3, (n4, (n5, (n6, (n7, (n12, (n8, (small.0, (ten, tt))))))))))))) in
    (kept, omega (arith, small.1, (kept_length (in_layout 1 buffer c) kept).0, (kept_length (in_layout 0 buffer c) h).0))
