-- What is left of a table by glyph fits its words exactly if the coverage's offset does.
use Prim.Native.Nat.{ℕ, ◌+◌, ◌*◌}
use mathlib.Core.Path.{◌≡◌, refl, sym, ap, ◌∙◌}
use mathlib.Core.Bool.{Bool, true, false, cond}
use Rattle.std.specs.Prelude.{Option, None, Some}
use mathlib.Core.List.{List, [], ◌∷◌, map}
use native.Mathlib.Omega.{arith}
use lib.ListN.{length, get_or, length-map}
use lib.Dec.{eqb, ltb}
use Rattle.meaning.specs.Words.{word, bind}
use Rattle.meaning.specs.Maps.{map_entries, glyph_entries}
use Rattle.meaning.specs.Tables.{Rule, Ligature, Pair, Table}
use Rattle.meaning.specs.Fault.{enough, header_fault}
use Rattle.meaning.specs.Cut.{cut_set, cut_ligatures, cut_pairs, kept_sets, kept_by_glyph, kept_ligatures, kept_pairs, cut}
use Rattle.meaning.specs.Layout.{offsets, blocks, block, rule_words, ligature_words, set_words, pair_set_words, coverage_words, sets_layout, table_words, words_fit}
use Rattle.meaning.specs.Packed.{HeaderWord, sets_header, header, packed, packed_words}
use Rattle.meaning.specs.Subset.{words_in}
use Rattle.laws.specs.Through.{Opt}
use Rattle.laws.specs.ReadsBack.{Good}
use Rattle.laws.specs.CutGood.{GoodOf}
use Rattle.laws.specs.CutTables.{cut_good}
use Rattle.laws.specs.SoundGood.{Bytes, format_1, ligature_format_1, pair_format_1}
use Rattle.laws.specs.CallBack.{map_values}
use Rattle.laws.specs.FitsExactly.{by_glyph_exactly, ligatures_exactly, pairs_exactly}
use Rattle.laws.specs.FitsPacked.{packed_by_glyph_exactly, packed_ligatures_exactly, packed_pairs_exactly}
use Rattle.laws.specs.PackedReading.{shared_blocks, packed_sets}
use Rattle.glyph_runs.specs.Runs.{GlyphMap, map_good}
use Rattle.placed_sets.specs.Sorts.{set_fault_of}
use Rattle.placed_sets.specs.declared.Sort.TheVariants.{Rules, Ligatures}
use Rattle.kept_header.specs.Answers.{ByCover}
use Rattle.cut_sets.specs.Whole.{glyph_context, ligature_table}
use Rattle.cut_sets.specs.PairTables.{pair_table, pair_fault}

-- the coverage's offset, as it is counted, in either layout
module _ {A : Type 0} (f : A → List ℕ) (more cov : List ℕ) (sets : List (Option A)) where
  counted : ltb (6 + 2 * length more + 2 * length sets + 2 * length (blocks (map (block f) sets))) 65536 ≡ ltb (get_or (sets_layout 1 (Some cov ∷ []) more (map (block f) sets)) 1 0) 65536
  unfolding sets_layout offsets
  counted =
      let e : 6 + 2 * length more + 2 * length sets + 2 * length (blocks (map (block f) sets)) ≡ get_or (sets_layout 1 (Some cov ∷ []) more (map (block f) sets)) 1 0 = omega (arith, length-map sets (block f)) in
      ap (λ (n : ℕ). ltb n 65536) e

  packed_counted : ltb (6 + 2 * length more + 2 * length sets + 2 * length (shared_blocks (map (block f) sets))) 65536 ≡ ltb (get_or (packed (sets_header 1 (Some cov) [] more (map (block f) sets))) 1 0) 65536
  unfolding offsets
  packed_counted =
      let q = 6 + 2 * length more + 2 * length (map (block f) sets) + 2 * length (shared_blocks (map (block f) sets)) in
      let second : get_or (packed (sets_header 1 (Some cov) [] more (map (block f) sets))) 1 0 ≡ q = ap (λ (l : List ℕ). get_or l 1 0) (packed_sets 1 (Some cov) [] more (map (block f) sets)) in
      let e : 6 + 2 * length more + 2 * length sets + 2 * length (shared_blocks (map (block f) sets)) ≡ q = omega (arith, length-map sets (block f)) in
      ap (λ (n : ℕ). ltb n 65536) (e ∙ sym second)

packed_is : (t : Table) → packed (header t) ≡ packed_words t
unfolding packed_words
packed_is t = refl

-- the words of a table fit by its coverage's offset, in either layout
by_cover : (packing : ℕ) (t : Table) (h : List HeaderWord) {plain shared : Bool} → h ≡ header t → words_fit (table_words t) ≡ plain → plain ≡ ltb (get_or (table_words t) 1 0) 65536
    → words_fit (packed_words t) ≡ shared → shared ≡ ltb (get_or (packed h) 1 0) 65536 → ByCover packing t
unfolding words_in
by_cover packing t h e a b c d = step (eqb packing 1)
  where
    step : (k : Bool) → words_fit (cond k (packed_words t) (table_words t)) ≡ ltb (get_or (cond k (packed_words t) (table_words t)) 1 0) 65536
    step false = a ∙ b
    step true = c ∙ d ∙ ap (λ (l : List ℕ). ltb (get_or l 1 0) 65536) (ap packed e ∙ packed_is t)

module _ (packing : ℕ) where
  rules_by_cover : (chained : Bool) (cov : List ℕ) (sets : List (Option (List Rule))) → Good (Table.by_glyph chained (Some cov) sets) → ByCover packing (Table.by_glyph chained (Some cov) sets)
  unfolding table_words header block
  rules_by_cover chained cov sets g =
      let f = set_words (rule_words chained) in
      by_cover packing (Table.by_glyph chained (Some cov) sets) (sets_header 1 (Some (coverage_words cov)) [] [] (map (block f) sets)) refl (by_glyph_exactly chained cov sets g) (counted f [] (coverage_words cov) sets) (packed_by_glyph_exactly chained cov sets g) (packed_counted f [] (coverage_words cov) sets)

  ligatures_by_cover : (cov : List ℕ) (sets : List (Option (List Ligature))) → Good (Table.ligatures (Some cov) sets) → ByCover packing (Table.ligatures (Some cov) sets)
  unfolding table_words header block
  ligatures_by_cover cov sets g =
      let f = set_words ligature_words in
      by_cover packing (Table.ligatures (Some cov) sets) (sets_header 1 (Some (coverage_words cov)) [] [] (map (block f) sets)) refl (ligatures_exactly cov sets g) (counted f [] (coverage_words cov) sets) (packed_ligatures_exactly cov sets g) (packed_counted f [] (coverage_words cov) sets)

  pairs_by_cover : (cov : List ℕ) (f1 f2 : ℕ) (sets : List (Option (List Pair))) → Good (Table.pairs_of (Some cov) f1 f2 sets) → ByCover packing (Table.pairs_of (Some cov) f1 f2 sets)
  unfolding table_words header block
  pairs_by_cover cov f1 f2 sets g =
      by_cover packing (Table.pairs_of (Some cov) f1 f2 sets) (sets_header 1 (Some (coverage_words cov)) [] (f1 ∷ f2 ∷ []) (map (block pair_set_words) sets)) refl (pairs_exactly cov f1 f2 sets g) (counted pair_set_words (f1 ∷ f2 ∷ []) (coverage_words cov) sets) (packed_pairs_exactly cov f1 f2 sets g) (packed_counted pair_set_words (f1 ∷ f2 ∷ []) (coverage_words cov) sets)

-- What is left has a coverage.
module _ (packing : ℕ) (g l : List (ℕ × ℕ)) (k : ℕ) where
  rules_left : (chained : Bool) (cover : Option (List ℕ)) (sets : List (Option (List Rule))) → Opt (GoodOf k) (cut g l (Table.by_glyph chained cover sets)) → Opt (ByCover packing) (cut g l (Table.by_glyph chained cover sets))
  unfolding cut kept_by_glyph bind
  rules_left chained None sets h = tt
  rules_left chained (Some cov) sets h = step (kept_sets (cut_set chained (record { back = g; input = g; ahead = g; lookups = l })) g cov sets) h
    where
      step : (ks : List (ℕ × List Rule)) → Opt (GoodOf k) (kept_by_glyph chained ks) → Opt (ByCover packing) (kept_by_glyph chained ks)
      step [] h = tt
      step (e ∷ r) h = rules_by_cover packing chained _ _ h.0

  ligatures_left : (cover : Option (List ℕ)) (sets : List (Option (List Ligature))) → Opt (GoodOf k) (cut g l (Table.ligatures cover sets)) → Opt (ByCover packing) (cut g l (Table.ligatures cover sets))
  unfolding cut kept_ligatures bind
  ligatures_left None sets h = tt
  ligatures_left (Some cov) sets h = step (kept_sets (cut_ligatures g) g cov sets) h
    where
      step : (ks : List (ℕ × List Ligature)) → Opt (GoodOf k) (kept_ligatures ks) → Opt (ByCover packing) (kept_ligatures ks)
      step [] h = tt
      step (e ∷ r) h = ligatures_by_cover packing _ _ h.0

  pairs_left_lem : (cover : Option (List ℕ)) (f1 f2 : ℕ) (sets : List (Option (List Pair))) → Opt (GoodOf k) (cut g l (Table.pairs_of cover f1 f2 sets)) → Opt (ByCover packing) (cut g l (Table.pairs_of cover f1 f2 sets))
  unfolding cut kept_pairs bind
  pairs_left_lem None f1 f2 sets h = tt
  pairs_left_lem (Some cov) f1 f2 sets h = step (kept_sets (cut_pairs g) g cov sets) h
    where
      step : (ks : List (ℕ × List Pair)) → Opt (GoodOf k) (kept_pairs f1 f2 ks) → Opt (ByCover packing) (kept_pairs f1 f2 ks)
      step [] h = tt
      step (e ∷ r) h = pairs_by_cover packing _ _ _ _ h.0

-- What is left of a sound source under a good glyph map.
module _ (s : List ℕ) (bs : Bytes s) {form : ℕ} {glyphs : List ℕ} (g : GlyphMap form glyphs) (packing : ℕ) where
  pub rules_fit : (chained : Bool) (lookups : List ℕ) → Bytes lookups → header_fault (enough s (word s 4)) 0 4 (set_fault_of (Rules chained) s) s ≡ None → Opt (ByCover packing) (cut (glyph_entries form glyphs) (map_entries lookups) (glyph_context chained s))
  unfolding set_fault_of
  rules_fit chained lookups bl h = rules_left packing _ _ _ chained _ _ (cut_good (glyph_entries form glyphs) (map_entries lookups) (map_good g) (map_values lookups bl) (glyph_context chained s) (format_1 s bs chained h))

  pub ligatures_fit : header_fault (enough s (word s 4)) 0 4 (set_fault_of Ligatures s) s ≡ None → Opt (ByCover packing) (cut (glyph_entries form glyphs) [] (ligature_table s))
  unfolding set_fault_of
  ligatures_fit h = ligatures_left packing _ _ _ _ _ (cut_good (glyph_entries form glyphs) [] (map_good g) tt (ligature_table s) (ligature_format_1 s bs h))

  pub pairs_fit : pair_fault s ≡ None → Opt (ByCover packing) (cut (glyph_entries form glyphs) [] (pair_table s))
  pairs_fit h = pairs_left_lem packing _ _ _ _ _ _ _ (cut_good (glyph_entries form glyphs) [] (map_good g) tt (pair_table s) (pair_format_1 s bs h))
