-- What the definitions leave of a pair table by class is what its parts make.
use Prim.Native.Nat.{ℕ, suc, ◌+◌, ◌-◌, ◌*◌, ◌≤◌, ◌<◌}
use mathlib.Core.Path.{◌≡◌, refl, sym, ap, ap₂, ◌∙◌, subst}
use mathlib.Core.Bool.{Bool, true, false, cond, ◌&&◌, and-false, true≢false}
use Rattle.std.specs.Prelude.{Some}
use mathlib.Core.List.{List, [], ◌∷◌, ◌++◌, append-nil}
use native.Mathlib.Decide.{dec_lt}
use native.Mathlib.Omega.{arith}
use lib.ListN.{length}
use lib.Dec.{leb, ltb, eqb}
use borrow.Author.Tests.{leb-true, leb-false, le-leb, lt-leb, lt-ltb, le-ltb, ltb-true, eqb-true, ne_eqb}
use Rattle.meaning.specs.Words.{word, every, eq_list, twos, flat, keys, values}
use Rattle.meaning.specs.Parts.{coverage, classes, class_of}
use Rattle.meaning.specs.Tables.{Pair, Table, field_count, drop_null, cell_rows, pair_table}
use Rattle.meaning.specs.Cut.{held_by, class_map, classes_under, new_classes, new_coverage, new_format, new_second, thin, covered_map, second_map, rows_of, kept_class_pairs, cut}
use Rattle.meaning.specs.Layout.{offsets, blocks, block, coverage_words, class_words, row_words, cells_layout, table_words, words_fit}
use Rattle.meaning.specs.Packed.{without, first_of_each, together, offset_in, header, packed, packed_words}
use Rattle.meaning.specs.Subset.{Outcome, refused, laid_into, words_in, written_in}
use Rattle.laws.specs.Stands.{all_map, stands_all, said}
use Rattle.laws.specs.Runs.{Up, both}
use Rattle.laws.specs.PartsBack.{Classes}
use Rattle.laws.specs.Through.{Opt}
use Rattle.laws.specs.SetsBack.{class_back}
use Rattle.laws.specs.Repeats.{list_same, same_list}
use Rattle.laws.specs.PackedReading.{shared_offset, shared_offsets, shared_blocks, packed_cells}
use Rattle.laws.specs.ReadsBack.{Good, kind_of}
use Rattle.laws.specs.CutGood.{GoodMap, GoodOf}
use Rattle.laws.specs.CutCells.{all_every, held_up, held_all, numbered_length, kept_rows_length, rows_many, covered_all, covered_values}
use Rattle.laws.specs.CutTables.{cut_good}
use Rattle.laws.specs.Fits.{classes_fit}
use Rattle.laws.specs.FitsExactly.{short_tables, last_offset, class_pairs_exactly}
use Rattle.laws.specs.FitsPacked.{packed_class_pairs_exactly}
use Rattle.room.specs.Laid.{laid_as, laid_words_lem, laid_unfit}
use Rattle.class_formats.specs.Kept.{kept_of}
use Rattle.pair_layouts.specs.Kerning.{shared, fits_at, cover_at, first_at, second_at, last, end_at, kern_words, parts_into, kern_into}
use Rattle.pair_classes.specs.Cutting.{kern_table, Kerning}

-- whether the words fit, by the places of the parts and by their lengths
same_fit : (p q r e a b : ℕ) → p ≤ r → r ≡ q + 2 * a → e ≡ r + 2 * b → ltb p 65536 && (ltb r 65536 && (leb a 65538 && (leb b 65538 && true))) ≡ fits_at q r e
same_fit p q r e a b l f g = step (leb r 65535) refl (leb (r - q) 131076) refl (leb (e - r) 131076) refl
  where
    step : (x : Bool) → leb r 65535 ≡ x → (y : Bool) → leb (r - q) 131076 ≡ y → (z : Bool) → leb (e - r) 131076 ≡ z → ltb p 65536 && (ltb r 65536 && (leb a 65538 && (leb b 65538 && true))) ≡ x && (y && z)
    step false h y i z j = ap (λ (t : Bool). ltb p 65536 && (t && (leb a 65538 && (leb b 65538 && true)))) (le-ltb r 65536 (omega (arith, leb-false r 65535 h))) ∙ and-false (ltb p 65536)
    step true h false i z j = rw (lt-ltb p 65536 (omega (arith, leb-true r 65535 h)), lt-ltb r 65536 (omega (arith, leb-true r 65535 h)), lt-leb a 65538 (omega (arith, leb-false (r - q) 131076 i)))
    step true h true i false j =
        rw (lt-ltb p 65536 (omega (arith, leb-true r 65535 h)), lt-ltb r 65536 (omega (arith, leb-true r 65535 h)), le-leb a 65538 (omega (arith, leb-true (r - q) 131076 i)), lt-leb b 65538 (omega (arith, leb-false (e - r) 131076 j)))
    step true h true i true j =
        rw (lt-ltb p 65536 (omega (arith, leb-true r 65535 h)), lt-ltb r 65536 (omega (arith, leb-true r 65535 h)), le-leb a 65538 (omega (arith, leb-true (r - q) 131076 i)), le-leb b 65538 (omega (arith, leb-true (e - r) 131076 j)))

-- the same where both class tables are one
one_fit : (p q a : ℕ) → p ≤ q → words_fit (p ∷ []) && (words_fit (q ∷ q ∷ []) && (leb a 65538 && (leb a 65538 && true))) ≡ fits_at q q (q + 2 * a + 2 * 0)
unfolding words_fit every
one_fit p q a l = rw (le-leb (q - q) 131076 (omega arith)) (step (leb q 65535) refl (leb (q + 2 * a + 2 * 0 - q) 131076) refl)
  where
    step : (x : Bool) → leb q 65535 ≡ x → (z : Bool) → leb (q + 2 * a + 2 * 0 - q) 131076 ≡ z → (ltb p 65536 && true) && ((ltb q 65536 && (ltb q 65536 && true)) && (leb a 65538 && (leb a 65538 && true))) ≡ x && z
    step false h z j = rw (le-ltb q 65536 (omega (arith, leb-false q 65535 h))) (and-false (ltb p 65536 && true))
    step true h false j = rw (lt-ltb p 65536 (omega (arith, leb-true q 65535 h)), lt-ltb q 65536 (omega (arith, leb-true q 65535 h)), lt-leb a 65538 (omega (arith, leb-false (q + 2 * a + 2 * 0 - q) 131076 j)))
    step true h true j = rw (lt-ltb p 65536 (omega (arith, leb-true q 65535 h)), lt-ltb q 65536 (omega (arith, leb-true q 65535 h)), le-leb a 65538 (omega (arith, leb-true (q + 2 * a + 2 * 0 - q) 131076 j)))

-- where the first class table is too long, nothing fits, whether both are one or not
long_unfit : (one : Bool) (q a b : ℕ) → 65538 < a → fits_at q (cond one q (q + 2 * a)) (q + 2 * a + 2 * b) ≡ false
long_unfit true q a b h = rw (lt-leb (q + 2 * a + 2 * b - q) 131076 (omega arith), and-false (leb (q - q) 131076)) (and-false (leb q 65535))
long_unfit false q a b h = rw (lt-leb (q + 2 * a - q) 131076 (omega arith)) (and-false (leb (q + 2 * a) 65535))

-- Class tables that are the same: by their entries, and by their words.

entries_same : (es ds : List (ℕ × ℕ)) → eq_list (twos es) (twos ds) ≡ true → es ≡ ds
unfolding eq_list twos
entries_same [] [] h = refl
entries_same [] ((c, d) ∷ ds) h = absurd (true≢false (sym h))
entries_same ((a, b) ∷ es) [] h = absurd (true≢false (sym h))
entries_same ((a, b) ∷ es) ((c, d) ∷ ds) h =
    let q = both (eqb a c) (eqb b d && eq_list (twos es) (twos ds)) h in
    let r = both (eqb b d) (eq_list (twos es) (twos ds)) q.1 in
    ap₂ ◌∷◌ (λ i. (eqb-true a c q.0 i, eqb-true b d r.0 i)) (entries_same es ds r.1)

-- the words of a table that is not too long tell its entries
words_tell : (es ds : List (ℕ × ℕ)) → Classes es → Classes ds → length (class_words es) ≤ 65538 → class_words es ≡ class_words ds → es ≡ ds
words_tell es ds k m l e =
    let h = stands_all (class_words es) ((classes_fit es k).0 l) in
    sym ((class_back (flat (class_words es)) es k).same 0 h) ∙ (class_back (flat (class_words es)) ds m).same 0 (said h e)

-- two class tables in the packed layout
two_offsets : (q : ℕ) (e d : List ℕ) → shared_offsets q (Some e ∷ Some d ∷ []) ≡ q ∷ cond (eq_list e d) q (q + 2 * length e) ∷ []
unfolding shared_offsets shared_offset drop_null first_of_each without offset_in
two_offsets q e d = rw (same_list e) (step (eq_list e d))
  where
    step : (t : Bool) → q ∷ cond t q (offset_in (q + 2 * length e) (cond t [] (d ∷ [])) d) ∷ [] ≡ q ∷ cond t q (q + 2 * length e) ∷ []
    step true = refl
    step false = rw (same_list d) refl

two_blocks : (e d : List ℕ) → shared_blocks (Some e ∷ Some d ∷ []) ≡ e ++ cond (eq_list e d) [] d
unfolding shared_blocks drop_null first_of_each without together
two_blocks e d = step (eq_list e d)
  where
    step : (t : Bool) → e ++ together (cond t [] (d ∷ [])) ≡ e ++ cond t [] d
    step true = refl
    step false = ap (λ (l : List ℕ). e ++ l) (append-nil d)

-- A table with a coverage and both class tables.
module _ (cov : List ℕ) (es ds : List (ℕ × ℕ)) (n1 n2 n : ℕ) (rows : List (List Pair)) where
  abbrev made : Table
  made = Table.class_pairs (Some cov) (Some es) (Some ds) n1 n2 n rows

  abbrev cells : List ℕ
  cells = row_words rows

  abbrev cover : List ℕ
  cover = coverage_words cov

  abbrev first : List ℕ
  first = class_words es

  abbrev second : List ℕ
  second = class_words ds

  abbrev into : Bool → List ℕ → Outcome
  into one out = parts_into one cells cover first second out n1 n2 (length rows) n

  abbrev fit : Bool → Bool
  fit one = fits_at (first_at one cells cover first second) (second_at one cells cover first second) (end_at one cells cover first second)

  words_are : table_words made ≡ kern_words false cells cover first second n1 n2 (length rows) n
  unfolding table_words cells_layout offsets blocks block kern_words
  words_are =
      let e : 4 + 2 * 2 + 2 * 2 + 2 * suc (suc (length cells)) ≡ 16 + 2 * length cells = omega arith in
      rw (e, append-nil cover, append-nil second) refl

  fits_are : Good made → words_fit (table_words made) ≡ fit false
  unfolding short_tables last_offset blocks block
  fits_are g =
      let p = cover_at false cells cover first second in
      let q = first_at false cells cover first second in
      let r = second_at false cells cover first second in
      let e : 2 + 2 * 1 + 2 * 2 + 2 * 2 + 2 * suc (suc (length cells)) ≡ p = omega arith in
      class_pairs_exactly (Some cov) (Some es) (Some ds) n1 n2 n rows g ∙ rw (e, append-nil cover, ne_eqb r 0 (omega arith)) (same_fit p q r _ (length first) (length second) (omega arith) refl refl)

  plain_laid : (out : List ℕ) → Good made → laid_into out (table_words made) ≡ into false out
  unfolding parts_into
  plain_laid out g = sym (laid_words_lem out (table_words made) (fits_are g)) ∙ ap (λ (l : List ℕ). laid_as (fit false) out (flat l)) words_are

  packed_is : packed_words made ≡ packed (header made)
  unfolding packed_words
  packed_is = refl

  packed_are : packed_words made ≡ kern_words (eq_list first second) cells cover first second n1 n2 (length rows) n
  unfolding header offsets blocks block kern_words
  packed_are =
      let p = 4 + 2 * 2 + 2 * 2 + 2 * suc (suc (length cells)) in
      let e : p ≡ 16 + 2 * length cells = omega arith in
      packed_is
      ∙ packed_cells (Some cover) (n1 ∷ n2 ∷ []) (Some first ∷ Some second ∷ []) (length rows ∷ n ∷ cells)
      ∙ rw (two_offsets (p + 2 * length (cover ++ [])) first second, two_blocks first second, e, append-nil cover) refl

  -- both class tables are one
  one_fits : Good made → eq_list first second ≡ true → words_fit (packed_words made) ≡ fit true
  unfolding short_tables offsets blocks block
  one_fits g e =
      let p = 4 + 2 * 2 + 2 * 2 + 2 * suc (suc (length cells)) in
      let d : p ≡ cover_at true cells cover first second = omega arith in
      let f : second ≡ first = sym (list_same first second e) in
      packed_class_pairs_exactly (Some cov) (Some es) (Some ds) n1 n2 n rows g
      ∙ rw (two_offsets (p + 2 * length (cover ++ [])) first second, e, d, append-nil cover, f) (one_fit (cover_at true cells cover first second) (first_at true cells cover first second) (length first) (omega arith))

  one_laid : (out : List ℕ) → Good made → eq_list first second ≡ true → laid_into out (packed_words made) ≡ into true out
  unfolding parts_into
  one_laid out g e =
      sym (laid_words_lem out (packed_words made) (one_fits g e))
      ∙ ap (λ (l : List ℕ). laid_as (fit true) out (flat l)) (packed_are ∙ ap (λ (t : Bool). kern_words t cells cover first second n1 n2 (length rows) n) e)

  -- or they have the same words and not the same entries, since they are too long: nothing fits
  too_long : Good made → eq_list first second ≡ true → (es ≡ ds → ⊥) → 65538 < length first
  too_long g e n = step (dec_lt 65538 (length first))
    where
      step : Dec (65538 < length first) → 65538 < length first
      step (yes h) = h
      step (no h) = absurd (n (words_tell es ds g.1 g.2 (omega arith) (list_same first second e)))

  unfit : (one : Bool) (out : List ℕ) → 65538 < length first → into one out ≡ refused out 9
  unfolding parts_into
  unfit one out h =
      ap (λ (t : Bool). laid_as t out (flat (kern_words one cells cover first second n1 n2 (length rows) n))) (long_unfit one (first_at one cells cover first second) (length first) (length (last one cells cover first second)) h)
      ∙ laid_unfit out (flat (kern_words one cells cover first second n1 n2 (length rows) n))

  packed_laid : (out : List ℕ) → Good made → (one : Bool) → eq_list (twos es) (twos ds) ≡ one → laid_into out (packed_words made) ≡ into one out
  packed_laid out g true h = one_laid out g (ap (λ (z : List (ℕ × ℕ)). eq_list first (class_words z)) (sym (entries_same es ds h)) ∙ same_list first)
  packed_laid out g false h = step (eq_list first second) refl
    where
      differ : es ≡ ds → ⊥
      differ e = true≢false (sym (same_list (twos es)) ∙ ap (λ (z : List (ℕ × ℕ)). eq_list (twos es) (twos z)) e ∙ h)

      step : (t : Bool) → eq_list first second ≡ t → laid_into out (packed_words made) ≡ into false out
      step true e = one_laid out g e ∙ unfit true out (too_long g e differ) ∙ sym (unfit false out (too_long g e differ))
      step false e = ap (laid_into out) (packed_are ∙ ap (λ (t : Bool). kern_words t cells cover first second n1 n2 (length rows) n) e ∙ sym words_are) ∙ plain_laid out g

  made_laid : (packing : ℕ) (out : List ℕ) → Good made → written_in packing out (Some made) ≡ into (shared packing es ds) out
  unfolding written_in words_in shared
  made_laid packing out g = step (eqb packing 1)
    where
      step : (t : Bool) → laid_into out (cond t (packed_words made) (table_words made)) ≡ into (t && eq_list (twos es) (twos ds)) out
      step true = packed_laid out g (eq_list (twos es) (twos ds)) refl
      step false = plain_laid out g

-- What is kept, where a covered glyph is retained.
module _ (g cs ds : List (ℕ × ℕ)) (s : List ℕ) where
  abbrev rows_in : List (List Pair)
  rows_in = cell_rows s (field_count (word s 4)) (field_count (word s 6)) (word s 14) 16 (word s 12)

  kept_into : (h : List (ℕ × ℕ)) → 0 < length h → Opt (GoodOf 4) (kept_class_pairs g h cs ds (word s 4) (word s 6) rows_in) → length (kept_of (class_map h cs) (second_map g ds) s) ≡ length (class_map h cs) → (packing : ℕ) (out : List ℕ)
      → written_in packing out (kept_class_pairs g h cs ds (word s 4) (word s 6) rows_in)
      ≡ kern_into packing out s (kept_of (class_map h cs) (second_map g ds) s) (length (class_map h cs)) (length (second_map g ds)) (values h) (new_classes h cs) (classes_under (second_map g ds) g ds)
  unfolding kept_class_pairs kern_into
  kept_into [] z k many packing out = absurd (omega arith)
  kept_into (e ∷ r) z k many packing out =
      let h = e ∷ r in
      let kept = kept_of (class_map h cs) (second_map g ds) s in
      let n1 = new_format (λ p. p.first_values) (word s 4) kept in
      let n2 = new_second (word s 6) kept in
      let rows = rows_of (thin (word s 4) (word s 6) n1 n2 kept) in
      made_laid (values h) (new_classes h cs) (classes_under (second_map g ds) g ds) n1 n2 (length (second_map g ds)) rows packing out k.0
      ∙ ap (λ (c : ℕ). parts_into (shared packing (new_classes h cs) (classes_under (second_map g ds) g ds)) (row_words rows) (coverage_words (values h)) (class_words (new_classes h cs)) (class_words (classes_under (second_map g ds) g ds)) out n1 n2 c (length (second_map g ds))) (rows_many (word s 4) (word s 6) n1 n2 kept ∙ many)

  -- the glyphs of both class tables ascend
  tables_up : (h : List (ℕ × ℕ)) → 0 < length h → Opt (GoodOf 4) (kept_class_pairs g h cs ds (word s 4) (word s 6) rows_in) → Up 0 (keys (classes_under (class_map h cs) h cs)) × Up 0 (keys (classes_under (second_map g ds) g ds))
  unfolding kept_class_pairs new_classes
  tables_up [] z k = absurd (omega arith)
  tables_up (e ∷ r) z k = (k.0.1.0, k.0.2.0)

-- a table where nothing is null
cut_kern : (g : List (ℕ × ℕ)) (cov : List ℕ) (cs ds : List (ℕ × ℕ)) (f1 f2 n : ℕ) (rows : List (List Pair)) → cut g [] (Table.class_pairs (Some cov) (Some cs) (Some ds) f1 f2 n rows) ≡ kept_class_pairs g (covered_map g cov) cs ds f1 f2 rows
unfolding cut
cut_kern g cov cs ds f1 f2 n rows = refl

module _ {s : List ℕ} (k : Kerning s) {g : List (ℕ × ℕ)} (good : GoodMap g) where
  abbrev cov : List ℕ
  cov = coverage s (word s 2)

  abbrev cs : List (ℕ × ℕ)
  cs = classes s (word s 8)

  abbrev ds : List (ℕ × ℕ)
  ds = classes s (word s 10)

  abbrev covered : List (ℕ × ℕ)
  covered = covered_map g cov

  left_good : Opt (GoodOf 4) (kept_class_pairs g covered cs ds (word s 4) (word s 6) (rows_in g cs ds s))
  unfolding kind_of
  left_good = subst (Opt (GoodOf 4)) (cut_kern g cov cs ds (word s 4) (word s 6) (word s 14) (rows_in g cs ds s)) (cut_good g [] good tt (kern_table s) k.good)

  -- there is a row for each first class
  rows_kept : length (kept_of (class_map covered cs) (second_map g ds) s) ≡ length (class_map covered cs)
  unfolding class_map
  rows_kept =
      let m = length (rows_in g cs ds s) in
      let each = all_map (λ (x : ℕ). ltb (class_of cs x) m ≡ true) (λ x. class_of cs x < m) (λ x p. ltb-true (class_of cs x) m p) cov (all_every (λ x. ltb (class_of cs x) m) cov k.good.6.0) in
      let below = held_all (λ x. x < 0 + m) cs (keys covered) (covered_all (λ x. class_of cs x < 0 + m) g cov (all_map (λ x. class_of cs x < m) (λ x. class_of cs x < 0 + m) (λ x p. omega arith) cov each)) in
      kept_rows_length (second_map g ds) 0 0 (held_by cs (keys covered)) (rows_in g cs ds s) (held_up cs (keys covered)) below ∙ sym (numbered_length 0 (held_by cs (keys covered)))

  -- nothing is left where no covered glyph is retained
  pub none_kept : covered ≡ [] → (packing : ℕ) (out : List ℕ) → refused out 8 ≡ written_in packing out (cut g [] (pair_table s))
  unfolding written_in kept_class_pairs
  none_kept e packing out =
      sym (ap (λ (t : Table). written_in packing out (cut g [] t)) k.table
      ∙ ap (written_in packing out) (cut_kern g cov cs ds (word s 4) (word s 6) (word s 14) (rows_in g cs ds s) ∙ ap (λ (h : List (ℕ × ℕ)). kept_class_pairs g h cs ds (word s 4) (word s 6) (rows_in g cs ds s)) e))

  module _ (z : 0 < length covered) where
    pub kern_cut : (packing : ℕ) (out : List ℕ) → kern_into packing out s (kept_of (class_map covered cs) (second_map g ds) s) (length (class_map covered cs)) (length (second_map g ds)) (new_coverage g cov) (classes_under (class_map covered cs) covered cs) (classes_under (second_map g ds) g ds)
        ≡ written_in packing out (cut g [] (pair_table s))
    unfolding new_classes
    kern_cut packing out =
        sym (ap (λ (t : Table). written_in packing out (cut g [] t)) k.table
        ∙ ap (written_in packing out) (cut_kern g cov cs ds (word s 4) (word s 6) (word s 14) (rows_in g cs ds s))
        ∙ kept_into g cs ds s covered z left_good rows_kept packing out
        ∙ ap (λ (l : List ℕ). kern_into packing out s (kept_of (class_map covered cs) (second_map g ds) s) (length (class_map covered cs)) (length (second_map g ds)) l (new_classes covered cs) (classes_under (second_map g ds) g ds)) (covered_values g cov))

    pub kern_up : Up 0 (keys (classes_under (class_map covered cs) covered cs)) × Up 0 (keys (classes_under (second_map g ds) g ds))
    kern_up = tables_up g cs ds s covered z left_good
