-- The words of format 2 in either layout, as the definitions say them, and when they fit.
use Rattle.std.specs.Prelude.{ℕ, ◌+◌, ◌*◌, ◌≡◌, refl, Bool, ◌&&◌, ltb, eqb, Option, None, Some}
use Rattle.std.proofs.Common.{sym, ◌∙◌, leb-true, leb-false, lt-ltb, le-ltb}
use Rattle.std.proofs.Math.Path.{ap, ap₂}
use Rattle.std.proofs.Math.Bool.{true, false, cond}
use mathlib.Core.List.{List, [], ◌∷◌, map, append-nil}
use native.Mathlib.Omega.{arith}
use Rattle.std.proofs.Math.ListN.{length}
use Rattle.std.proofs.Math.Dec.{leb}
use Rattle.meaning.specs.Words.{flat, every}
use Rattle.meaning.specs.Tables.{Table, Rule}
use Rattle.meaning.specs.Layout.{offsets, blocks, block, coverage_words, class_words, rule_words, set_words, sets_layout, table_words, words_fit}
use Rattle.meaning.specs.Packed.{sets_header, header, packed, packed_words}
use Rattle.meaning.specs.Subset.{laid_into, words_in}
use Rattle.laws.specs.ReadsBack.{Good, rule_set_kind}
use Rattle.laws.specs.PackedReading.{shared_offsets, packed_sets}
use Rattle.laws.specs.FitsExactly.{short_tables, cover_at, offsets_exactly, by_class_exactly}
use Rattle.laws.specs.FitsPacked.{packed_cover_at, packed_tables_at, packed_by_class_exactly}
use Rattle.room.specs.Laid.{laid_as, laid_words_lem}
use Rattle.remade_classes.specs.Tail.{short_blocks, tables_fit, tail_fit}
use Rattle.class_finish.specs.Table.{cover_place, class_table}

-- class tables that are short, as blocks
tables_short : (cs : List (Option (List (ℕ × ℕ)))) → short_tables cs ≡ short_blocks (map (block class_words) cs)
unfolding short_tables short_blocks block
tables_short [] = refl
tables_short (None ∷ cs) = tables_short cs
tables_short (Some es ∷ cs) = ap (λ (t : Bool). leb (length (class_words es)) 65538 && t) (tables_short cs)

-- a number that fits a word
below_is : (q : ℕ) → ltb q 65536 ≡ leb q 65535
below_is q = step (leb q 65535) refl
  where
    step : (t : Bool) → leb q 65535 ≡ t → ltb q 65536 ≡ t
    step true e = lt-ltb q 65536 (omega (arith, leb-true q 65535 e))
    step false e = le-ltb q 65536 (omega (arith, leb-false q 65535 e))

and_assoc : (x y z : Bool) → (x && y) && z ≡ x && (y && z)
and_assoc true y z = refl
and_assoc false y z = refl

-- the layouts of the coverage's block, and of blocks of class tables and of sets
module _ (cover : List ℕ) (tables sets : List (Option (List ℕ))) where
  abbrev first : ℕ
  first = 6 + 2 * length tables + 2 * length sets

  plain_words : sets_layout 2 (Some cover ∷ tables) [] sets ≡ class_table false cover tables sets
  unfolding sets_layout class_table offsets blocks
  plain_words =
      let e : 4 + 2 * length (Some cover ∷ tables) + 2 * length {A = ℕ} [] + 2 * length sets ≡ first = omega arith in
      rw e

  packed_words_lem : packed (sets_header 2 (Some cover) tables [] sets) ≡ class_table true cover tables sets
  unfolding class_table offsets blocks
  packed_words_lem =
      let e : 6 + 2 * length tables + 2 * length {A = ℕ} [] + 2 * length sets ≡ first = omega arith in
      packed_sets 2 (Some cover) tables [] sets ∙ rw (append-nil cover, e)

module _ (chained : Bool) (cov : List ℕ) (b i a : Option (List (ℕ × ℕ))) (sets : List (Option (List Rule))) where
  abbrev table : Table
  table = Table.by_class chained (Some cov) b i a sets

  -- the class tables, and the blocks of them and of the sets
  abbrev cs : List (Option (List (ℕ × ℕ)))
  cs = cond chained (b ∷ i ∷ a ∷ []) (i ∷ [])

  abbrev cb : List (Option (List ℕ))
  cb = map (block class_words) cs

  abbrev sb : List (Option (List ℕ))
  sb = map (block (set_words (rule_words chained))) sets

  shared_words : packed_words table ≡ class_table true (coverage_words cov) cb sb
  unfolding packed_words header block
  shared_words = packed_words_lem (coverage_words cov) cb sb

  words_class : (packing : ℕ) → words_in packing table ≡ class_table (eqb packing 1) (coverage_words cov) cb sb
  unfolding words_in table_words block
  words_class packing = step (eqb packing 1)
    where
      step : (t : Bool) → cond t (packed_words table) (sets_layout 2 (Some (coverage_words cov) ∷ cb) [] sb) ≡ class_table t (coverage_words cov) cb sb
      step true = shared_words
      step false = plain_words (coverage_words cov) cb sb

  -- the words of a good table fit exactly if what follows its sets does
  module _ (g : Good table) where
    plain_fit : words_fit (table_words table) ≡ tail_fit false (cover_place false cb sb) (coverage_words cov) cb
    unfolding tail_fit tables_fit rule_set_kind offsets words_fit every
    plain_fit =
        let q = cover_at (rule_set_kind chained) 2 cov cs [] sets in
        let e : q ≡ cover_place false cb sb = omega arith in
        let k = words_fit (offsets (q + 2 * length (coverage_words cov)) cb) in
        by_class_exactly chained cov b i a sets g
        ∙ ap (λ (t : Bool). t && short_tables cs) (sym (offsets_exactly q (Some (coverage_words cov) ∷ cb)))
        ∙ and_assoc (ltb q 65536) k (short_tables cs)
        ∙ ap₂ (λ (x y : Bool). x && (k && y)) (below_is q) (tables_short cs)
        ∙ ap (λ (n : ℕ). tail_fit false n (coverage_words cov) cb) e

    packed_fit : words_fit (packed_words table) ≡ tail_fit true (cover_place true cb sb) (coverage_words cov) cb
    unfolding tail_fit tables_fit rule_set_kind blocks
    packed_fit =
        let q = packed_cover_at (rule_set_kind chained) 2 cov cs [] sets in
        let p = packed_tables_at (rule_set_kind chained) 2 cov cs [] sets in
        let e : q ≡ cover_place true cb sb = omega arith in
        let f : p ≡ q + 2 * length (coverage_words cov) = omega (arith, ap length (append-nil (coverage_words cov))) in
        packed_by_class_exactly chained cov b i a sets g
        ∙ ap₂ (λ (x y : Bool). x && (words_fit (shared_offsets p cb) && y)) (below_is q) (tables_short cs)
        ∙ ap (λ (n : ℕ). leb q 65535 && (words_fit (shared_offsets n cb) && short_blocks cb)) f
        ∙ ap (λ (n : ℕ). tail_fit true n (coverage_words cov) cb) e

    class_fit : (packing : ℕ) → words_fit (words_in packing table) ≡ tail_fit (eqb packing 1) (cover_place (eqb packing 1) cb sb) (coverage_words cov) cb
    unfolding words_in
    class_fit packing = step (eqb packing 1)
      where
        step : (t : Bool) → words_fit (cond t (packed_words table) (table_words table)) ≡ tail_fit t (cover_place t cb sb) (coverage_words cov) cb
        step true = packed_fit
        step false = plain_fit

    -- so they are laid as those of the cut's own layout
    pub laid_class : (packing : ℕ) (out : List ℕ) → laid_into out (words_in packing table) ≡ laid_as (tail_fit (eqb packing 1) (cover_place (eqb packing 1) cb sb) (coverage_words cov) cb) out (flat (class_table (eqb packing 1) (coverage_words cov) cb sb))
    laid_class packing out =
        sym (laid_words_lem out (words_in packing table) (class_fit packing))
        ∙ ap (λ (ws : List ℕ). laid_as (tail_fit (eqb packing 1) (cover_place (eqb packing 1) cb sb) (coverage_words cov) cb) out (flat ws)) (words_class packing)
