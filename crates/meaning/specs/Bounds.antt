-- The bounds that request 13 sets, each by what is short to compute or as a fact over all sources or tables. The crate `limits` has layouts, sources and jobs of the full sizes.
use Rattle.std.specs.Prelude.{ℕ, ◌+◌, ◌*◌, ◌≡◌, refl, true, false, List, [], ◌∷◌, length, take, leb, ltb, Some}
use Rattle.meaning.specs.Layout.{runs, spread, class_words}
use Rattle.meaning.specs.Words.{word, inside}
use Rattle.meaning.specs.Tables.{Table}
use Rattle.meaning.specs.Subset.{limit, refused, too_big, laid_into, words_in, written_in, subset}

-- the most bytes of a source and of a layout
pub limit_is : limit ≡ 262144
unfolding limit
limit_is = refl

-- an offset or a count of 65,535 fits, one of 65,536 doesn't, however short the layout is
pub word_fits : (too_big (1 ∷ 65535 ∷ []) ≡ false) × (too_big (1 ∷ 65536 ∷ []) ≡ true)
unfolding subset
word_fits = (refl, refl)

-- 9 has length 0 and leaves the buffer, and comes before 10
pub too_big_first : laid_into (7 ∷ []) (1 ∷ 65536 ∷ []) ≡ refused (7 ∷ []) 9
unfolding subset
too_big_first = refl

-- a source that is not over the limit is refused for its format 0, and not as 4; `limits` has one of 262,144 bytes
pub source_within : (s : List ℕ) → ltb limit (length s) ≡ false → inside s 0 2 ≡ true → word s 0 ≡ 0 → (subset 1 4 0 s [] [] []).number ≡ 5
unfolding subset
source_within s within two zeros = rw (within, two, zeros)

-- a class table takes the smaller form, whether its count fits or not; then 9 measures it
pub smaller_form_first : (g c : ℕ) (r : List (ℕ × ℕ)) → leb (6 + 2 * length (spread g ((g, c) ∷ r))) (4 + 6 * length (runs ((g, c) ∷ r))) ≡ true
    → take 3 (class_words ((g, c) ∷ r)) ≡ 1 ∷ g ∷ length (spread g ((g, c) ∷ r)) ∷ []
unfolding class_words
smaller_form_first g c r h = rw h

-- 9 and 10 measure the layout that is asked for; `packed_is_measured` in `limits` has a table that is too big in the plain layout and small in the packed one
pub measured : (packing : ℕ) (out : List ℕ) (t : Table) → written_in packing out (Some t) ≡ laid_into out (words_in packing t)
unfolding written_in
measured packing out t = refl
