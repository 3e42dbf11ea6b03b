-- Blocks that came from a place of the source: where the one of the book stands that came from there.
use Prim.Native.Nat.{ℕ, zero, suc, ◌+◌, ◌*◌, ◌/◌, ◌%◌, ◌<◌}
use mathlib.Core.Path.{◌≡◌, refl, sym, ap, ◌∙◌}
use mathlib.Core.Bool.{Bool, true, false, cond, ◌||◌, true≢false}
use Rattle.std.specs.Prelude.{Option, Some}
use mathlib.Core.List.{List, [], ◌∷◌, ◌++◌, append-nil}
use native.Mathlib.Omega.{arith}
use lib.ListN.{length, get_or}
use Rattle.meaning.specs.Words.{eq_list}
use Rattle.meaning.specs.Tables.{drop_null}
use Rattle.meaning.specs.Packed.{without, first_of_each, offset_in}
use Rattle.laws.specs.Repeats.{list_same, same_list, has}
use Rattle.known_blocks.specs.Shared.{known, place_in, firsts_next}
use Rattle.known_blocks.specs.Book.{packs, in_book, Listed, words_before, Leads, Booked, Repeated, Again}

-- no block is equal to a later one
abbrev pub Different : List (List ℕ) → Type 0
Different [] = Unit {0}
Different (d ∷ ds) = (has d ds ≡ false) × Different ds

other : (a b : List ℕ) → eq_list a b ≡ false → eq_list b a ≡ false
other a b n = step (eq_list b a) refl
  where
    step : (t : Bool) → eq_list b a ≡ t → t ≡ false
    step true e = absurd (true≢false (sym (same_list a) ∙ ap (eq_list a) (sym (list_same b a e)) ∙ n))
    step false e = refl

-- where the blocks that are equal to b are left out, others stay, and none of them is equal to b
without_has : (b x : List ℕ) (ds : List (List ℕ)) → has x ds ≡ false → has x (without b ds) ≡ false
unfolding has without
without_has b x [] h = refl
without_has b x (d ∷ ds) h = step (eq_list b d) (eq_list d x) refl h (without_has b x ds)
  where
    step : (t u : Bool) → eq_list d x ≡ u → u || has x ds ≡ false → (has x ds ≡ false → has x (without b ds) ≡ false) → has x (cond t (without b ds) (d ∷ without b ds)) ≡ false
    step t true f e i = absurd (true≢false e)
    step true false f e i = i e
    step false false f e i = rw f (i e)

without_none : (b : List ℕ) (ds : List (List ℕ)) → has b (without b ds) ≡ false
unfolding has without
without_none b [] = refl
without_none b (d ∷ ds) = step (eq_list b d) refl (without_none b ds)
  where
    step : (t : Bool) → eq_list b d ≡ t → has b (without b ds) ≡ false → has b (cond t (without b ds) (d ∷ without b ds)) ≡ false
    step true e i = i
    step false e i = rw (other b d e) i

without_different : (b : List ℕ) (ds : List (List ℕ)) → Different ds → Different (without b ds)
unfolding without
without_different b [] h = tt
without_different b (d ∷ ds) h = step (eq_list b d) (without_different b ds h.1)
  where
    step : (t : Bool) → Different (without b ds) → Different (cond t (without b ds) (d ∷ without b ds))
    step true i = i
    step false i = (without_has b d ds h.0, i)

firsts_different : (bs : List (List ℕ)) → Different (first_of_each bs)
unfolding first_of_each
firsts_different [] = tt
firsts_different (b ∷ bs) = (without_none b (first_of_each bs), without_different b (first_of_each bs) (firsts_different bs))

book_different : (packed : Bool) (bs : List (Option (List ℕ))) → Different (in_book packed bs)
book_different false bs = tt
book_different true bs = firsts_different (drop_null bs)

-- what is left of a place is one of the blocks of the book, and r is where that stands: it is not written again
pub repeated_in : {left : ℕ → Option (List ℕ)} (bs : List (Option (List ℕ))) (d : List ℕ) {book : List ℕ} {first source r : ℕ} → Booked left (in_book (packs book) bs) book → has d (in_book (packs book) bs) ≡ true
    → r ≡ offset_in first (in_book (packs book) bs) d → left source ≡ Some d → Repeated left bs book first source r
unfolding has place_in
repeated_in {left} bs d {book} {first} {source} {r} k h o f =
    let g = step (packs book) k h o in
    record { words = d; is = f; at = g.0; again = g.1; booked = g.2 }
  where
    step : (packed : Bool) → Booked left (in_book packed bs) book → has d (in_book packed bs) ≡ true → r ≡ offset_in first (in_book packed bs) d
        → (r ≡ place_in packed first bs d) × (known packed bs d ≡ true) × Booked left (in_book packed (bs ++ (Some d ∷ []))) book
    step false k h o = absurd (true≢false (sym h))
    step true k h o =
        let same : in_book true (bs ++ (Some d ∷ [])) ≡ in_book true bs = firsts_next true 0 bs d ∙ rw h (append-nil (first_of_each (drop_null bs))) in
        (rw h o, h, rw (sym same) at k)

-- the offset of a block, by the words before it
pub offset_words : (p : ℕ) (ds : List (List ℕ)) (b : List ℕ) → has b ds ≡ true → offset_in p ds b ≡ p + 2 * words_before ds b
unfolding has offset_in words_before
offset_words p [] b h = absurd (true≢false (sym h))
offset_words p (d ∷ ds) b h = step (eq_list d b) h (offset_words (p + 2 * length d) ds b)
  where
    step : (t : Bool) → t || has b ds ≡ true → (has b ds ≡ true → offset_in (p + 2 * length d) ds b ≡ p + 2 * length d + 2 * words_before ds b)
        → cond t p (offset_in (p + 2 * length d) ds b) ≡ p + 2 * cond t 0 (length d + words_before ds b)
    step true e i = omega arith
    step false e i = omega (arith, i e)

-- a cell that leads to one of the blocks of the book, from this place
pub found_leading : {book : List ℕ} {first source c : ℕ} → ((left : ℕ → Option (List ℕ)) (ds : List (List ℕ)) → Booked left ds book → Different ds → Leads left ds c) → c % 65536 ≡ source → Again book first source (first + 2 * (c / 65536))
found_leading {book} {first} {source} {c} h e = record { found = λ {left} bs k z. there left bs k (h left (in_book (packs book) bs) k (book_different (packs book) bs)) }
  where
    there : (left : ℕ → Option (List ℕ)) (bs : List (Option (List ℕ))) → Booked left (in_book (packs book) bs) book → Leads left (in_book (packs book) bs) c → Repeated left bs book first source (first + 2 * (c / 65536))
    there left bs k g = repeated_in bs g.words k g.among (ap (λ (n : ℕ). first + 2 * n) g.before ∙ sym (offset_words first (in_book (packs book) bs) g.words g.among)) (ap left (sym e) ∙ g.is)

-- nothing is said where none does
pub found_none : {book : List ℕ} {first source : ℕ} → Again book first source 0
found_none = record { found = λ {left} bs k z. absurd (z refl) }

-- the j-th of blocks that stand behind `before` words, by its cell
record Listing (left : ℕ → Option (List ℕ)) (ds : List (List ℕ)) (before c : ℕ) : Type 0 where
  pub words : List ℕ
  pub is : left (c % 65536) ≡ Some words
  pub among : has words ds ≡ true
  pub behind : c / 65536 ≡ before + words_before ds words

apart : (b x : List ℕ) (ds : List (List ℕ)) → has b ds ≡ false → has x ds ≡ true → eq_list b x ≡ false
apart b x ds n h = ask (eq_list b x) refl
  where
    ask : (t : Bool) → eq_list b x ≡ t → t ≡ false
    ask true e = absurd (true≢false (sym h ∙ ap (λ (y : List ℕ). has y ds) (sym (list_same b x e)) ∙ n))
    ask false e = refl

listing : (left : ℕ → Option (List ℕ)) (book : List ℕ) (i before : ℕ) (ds : List (List ℕ)) → Listed left book i before ds → Different ds → (j : ℕ) → j < length ds → Listing left ds before (get_or book (i + j) 0)
unfolding has words_before
listing left book i before [] l d j h = absurd (omega arith)
listing left book i before (b ∷ ds) l d zero h =
    let here : i + 0 ≡ i = omega arith in
    rw here (record { words = b; is = l.1; among = rw (same_list b) refl; behind = l.0 ∙ rw (same_list b) (omega arith) })
listing left book i before (b ∷ ds) l d (suc j) h =
    let g = listing left book (i + 1) (before + length b) ds l.2 d.1 j (omega arith) in
    let here : i + suc j ≡ i + 1 + j = omega arith in
    let e = apart b g.words ds d.0 g.among in
    rw here (record { words = g.words; is = g.is; among = rw e g.among; behind = g.behind ∙ rw e (omega arith) })

-- the i-th block came from there
pub found_among : {book : List ℕ} {first source c : ℕ} (i : ℕ) → i < get_or book 0 0 → c ≡ get_or book (1 + i) 0 → c % 65536 ≡ source → Again book first source (first + 2 * (c / 65536))
found_among {book} {c = c} i l e = found_leading (λ left ds k d. leads (listing left book 1 0 ds k.listed d i (omega (arith, k.count))))
  where
    leads : {left : ℕ → Option (List ℕ)} {ds : List (List ℕ)} → Listing left ds 0 (get_or book (1 + i) 0) → Leads left ds c
    leads g = rw e (record { words = g.words; is = g.is; among = g.among; before = g.behind ∙ omega arith })
