-- What a source asks and says, by its kind and its format.
use Prim.Native.Nat.{ℕ, ◌≤◌, ◌<◌}
use mathlib.Core.Path.{◌≡◌, refl, sym, ap, ◌∙◌, subst}
use mathlib.Core.Bool.{Bool, true, false, cond, true≢false}
use Rattle.std.specs.Prelude.{Option, None, Result}
use mathlib.Core.List.{List, []}
use native.Mathlib.Omega.{arith}
use lib.ListN.{length}
use lib.Dec.{eqb}
use borrow.Author.Tests.{ne_eqb}
use Rattle.meaning.specs.Words.{word, inside, is_some, keys, ascends}
use Rattle.meaning.specs.Maps.{map_entries}
use Rattle.meaning.specs.Parts.{coverage, classes}
use Rattle.meaning.specs.Tables.{Table, field_count, reach, reaches, pair_set, cell_rows, pair_table, class_context, cover_context, context, single, table}
use Rattle.meaning.specs.Fault.{header_fault, enough, pair_fault, fault}
use Rattle.meaning.specs.Cut.{cut}
use Rattle.meaning.specs.Subset.{limit, written, written_in}
use Rattle.laws.specs.Ascends.{lookups_ascend}
use Rattle.room.specs.Laid.{enough_area}
use Rattle.glyph_runs.specs.Runs.{GlyphMap}
use Rattle.check_parts.proofs.Laws.{context_1, context_3, pairs_1, source_short, source_plain, source_chained, source_ligatures, source_pairs, source_singles}
use Rattle.placed_sets.specs.Sorts.{set_fault_of}
use Rattle.placed_sets.specs.declared.Sort.TheVariants.{Rules, Ligatures}
use Rattle.tried.specs.Tries.{Tries, tries_less}
use Rattle.tried.specs.declared.NotCut.{NotCut}
use Rattle.cut_sets.specs.Whole.{glyph_context, ligature_table}
use Rattle.cut_sets.specs.PairTables as glyphPairs
use Rattle.pair_classes.specs.Cutting as classPairs
use Rattle.cover_layouts.specs.Cutting as covers
use Rattle.single_subst.specs.Whole as singles
use Rattle.context_classes.specs.Cutting as classes
use Rattle.cut_kinds.proofs.Single.{singles_written}
use Rattle.cut_sizes.specs.Cutting.{Sound, SoundContext, SoundPairs, class_pair_cells, other_cells, pairs_by_class, cells_for, bytes_for}

-- scratch that is too short for a source that is no pair table by classes
module _ (kind : ℕ) (s : List ℕ) where
  source_few : (n : ℕ) → n < other_cells → n < cells_for kind s
  unfolding cells_for
  source_few n h = step (pairs_by_class kind s)
    where
      step : (b : Bool) → n < cond b class_pair_cells other_cells
      step true = omega arith
      step false = h

  source_short_area : pairs_by_class kind s ≡ false → (b : ℕ) → b < enough_area → b < bytes_for kind s
  unfolding bytes_for
  source_short_area e b h = rw e h

  no_pairs : (kind ≡ 4 → ⊥) → pairs_by_class kind s ≡ false
  unfolding pairs_by_class
  no_pairs z = rw (ne_eqb kind 4 z)

-- A context by its format.
module _ (chained : Bool) (s : List ℕ) {format : ℕ} (e : format ≡ word s 0) where
  module _ {form : ℕ} {g l : List ℕ} (a : SoundContext chained form s g l) where
    pub asks_1 : format ≡ 1 → (header_fault (enough s (word s 4)) 0 4 (set_fault_of (Rules chained) s) s ≡ None) × (length s ≤ limit) × GlyphMap form g × (ascends (keys (map_entries l)) ≡ true)
    unfolding set_fault_of
    asks_1 f = (sym (context_1 chained s e f) ∙ a.sound, a.source, a.map, lookups_ascend l a.lookups_good)

    pub asks_2 : format ≡ 2 → classes.Sound chained s form g l
    asks_2 f = record { sound = a.sound; format = sym e ∙ f; source = a.source; form_good = a.map.form_good; glyphs_good = a.map.good; lookups_ascend = lookups_ascend l a.lookups_good }

    pub asks_3 : (format ≡ 1 → ⊥) → (format ≡ 2 → ⊥) → covers.Sound chained form s g l
    asks_3 f h = record { sound = sym (context_3 chained s e f h) ∙ a.sound; source = a.source; map = a.map; lookups_ascend = lookups_ascend l a.lookups_good }

  says_1 : format ≡ 1 → glyph_context chained s ≡ context chained s
  unfolding context
  says_1 f = rw (← e, f)

  says_2 : format ≡ 2 → class_context chained s ≡ context chained s
  unfolding context
  says_2 f = rw (← e, f)

  says_3 : (format ≡ 1 → ⊥) → (format ≡ 2 → ⊥) → cover_context chained s ≡ context chained s
  unfolding context
  says_3 f h = rw (← e, ne_eqb format 1 f, ne_eqb format 2 h)

  -- what each format's cut answers is what a context's cut answers
  module _ (packing : ℕ) (g l : List (ℕ × ℕ)) (n b : ℕ) (r : Result ℕ NotCut) (out after : List ℕ) where
    pub tries_1 : format ≡ 1 → Tries (n < other_cells) (b < enough_area) r out after (written_in packing out (cut g l (glyph_context chained s))) → Tries (n < other_cells) (b < enough_area) r out after (written_in packing out (cut g l (context chained s)))
    tries_1 f h = (rw (says_1 f) at h)

    pub tries_2 : format ≡ 2 → Tries (n < classes.enough_cells) (b < enough_area) r out after (written_in packing out (cut g l (class_context chained s))) → Tries (n < other_cells) (b < enough_area) r out after (written_in packing out (cut g l (context chained s)))
    tries_2 f h = tries_less (n < classes.enough_cells) (b < enough_area) (n < other_cells) (b < enough_area) r out after (written_in packing out (cut g l (context chained s))) (λ x. omega arith) (λ x. x) (rw (says_2 f) at h)

    pub tries_3 : (format ≡ 1 → ⊥) → (format ≡ 2 → ⊥) → Tries (n < other_cells) (b < enough_area) r out after (written_in packing out (cut g l (cover_context chained s))) → Tries (n < other_cells) (b < enough_area) r out after (written_in packing out (cut g l (context chained s)))
    tries_3 f k h = (rw (says_3 f k) at h)

-- a source without a fault has its first two bytes
sound_inside : (kind : ℕ) (s : List ℕ) → fault kind s ≡ None → inside s 0 2 ≡ true
unfolding is_some
sound_inside kind s h = step (inside s 0 2) refl
  where
    step : (b : Bool) → inside s 0 2 ≡ b → inside s 0 2 ≡ true
    step true e = e
    step false e = absurd (true≢false (ap is_some (sym (source_short kind s e) ∙ h)))

-- A pair table by its format.
module _ (s : List ℕ) {format : ℕ} (e : format ≡ word s 0) where
  module _ {form : ℕ} {g : List ℕ} (a : SoundPairs form s g) where
    pub asks_glyph_pairs : format ≡ 1 → (glyphPairs.pair_fault s ≡ None) × (length s ≤ limit) × GlyphMap form g
    asks_glyph_pairs f = (sym (pairs_1 s e f) ∙ sym (source_pairs 4 s (sound_inside 4 s a.sound) refl) ∙ a.sound, a.source, a.map)

    pub asks_class_pairs : (format ≡ 1 → ⊥) → classPairs.Sound s form g
    asks_class_pairs f = record { sound = a.sound; format = λ z. f (e ∙ z); form_good = a.map.form_good; glyphs_good = a.map.good }

  says_glyph_pairs : format ≡ 1 → glyphPairs.pair_table s ≡ pair_table s
  unfolding pair_table
  says_glyph_pairs f = rw (← e, f)

  by_glyph : format ≡ 1 → pairs_by_class 4 s ≡ false
  unfolding pairs_by_class
  by_glyph f = rw (← e, f)

  by_class : (format ≡ 1 → ⊥) → pairs_by_class 4 s ≡ true
  unfolding pairs_by_class
  by_class f = rw (← e, ne_eqb format 1 f)

  class_pairs_few : (format ≡ 1 → ⊥) → (n : ℕ) → n < class_pair_cells → n < cells_for 4 s
  unfolding cells_for
  class_pairs_few f n h = rw (by_class f) h

  class_pairs_short : (format ≡ 1 → ⊥) → (b : ℕ) → b < limit → b < bytes_for 4 s
  unfolding bytes_for limit
  class_pairs_short f b h = rw (by_class f) h

  -- what each format's cut answers is what a pair table's cut answers
  module _ (packing : ℕ) (g : List (ℕ × ℕ)) (n b : ℕ) (r : Result ℕ NotCut) (out after : List ℕ) where
    pub tries_glyph_pairs : format ≡ 1 → Tries (n < other_cells) (b < enough_area) r out after (written_in packing out (cut g [] (glyphPairs.pair_table s))) → Tries (n < cells_for 4 s) (b < bytes_for 4 s) r out after (written_in packing out (cut g [] (pair_table s)))
    tries_glyph_pairs f h = tries_less (n < other_cells) (b < enough_area) (n < cells_for 4 s) (b < bytes_for 4 s) r out after (written_in packing out (cut g [] (pair_table s))) (source_few 4 s n) (source_short_area 4 s (by_glyph f) b) (rw (says_glyph_pairs f) at h)

    pub tries_class_pairs : (format ≡ 1 → ⊥) → Tries (n < class_pair_cells) (b < limit) r out after (written_in packing out (cut g [] (pair_table s))) → Tries (n < cells_for 4 s) (b < bytes_for 4 s) r out after (written_in packing out (cut g [] (pair_table s)))
    tries_class_pairs f h = tries_less (n < class_pair_cells) (b < limit) (n < cells_for 4 s) (b < bytes_for 4 s) r out after (written_in packing out (cut g [] (pair_table s))) (class_pairs_few f n) (class_pairs_short f b) h

-- lookups have no say in what is left of a pair table
pair_lookups : (g l : List (ℕ × ℕ)) (s : List ℕ) → cut g l (pair_table s) ≡ cut g [] (pair_table s)
unfolding cut pair_table
pair_lookups g l s = step (eqb (word s 0) 1)
  where
    glyph_table : Table
    glyph_table = Table.pairs_of (reach (coverage s) s 0 2) (word s 4) (word s 6) (reaches (pair_set (field_count (word s 4)) (field_count (word s 6)) s) s 0 10 (word s 8))

    class_table : Table
    class_table = Table.class_pairs (reach (coverage s) s 0 2) (reach (classes s) s 0 8) (reach (classes s) s 0 10) (word s 4) (word s 6) (word s 14) (cell_rows s (field_count (word s 4)) (field_count (word s 6)) (word s 14) 16 (word s 12))

    step : (t : Bool) → cut g l (cond t glyph_table class_table) ≡ cut g [] (cond t glyph_table class_table)
    step true = refl
    step false = refl

-- A source by its kind.
module _ (kind : ℕ) (s : List ℕ) where
  module _ {form : ℕ} {g l : List ℕ} (a : Sound kind form s g l) where
    starts : inside s 0 2 ≡ true
    starts = sound_inside kind s a.sound

    pub asks_plain : kind ≡ 1 → SoundContext false form s g l
    asks_plain e = record { sound = sym (source_plain kind s starts e) ∙ a.sound; source = a.source; map = a.map; lookups_good = a.lookups_good }

    pub asks_chained : kind ≡ 2 → SoundContext true form s g l
    asks_chained e = record { sound = sym (source_chained kind s starts e) ∙ a.sound; source = a.source; map = a.map; lookups_good = a.lookups_good }

    pub asks_ligatures : kind ≡ 3 → (header_fault (enough s (word s 4)) 0 4 (set_fault_of Ligatures s) s ≡ None) × (length s ≤ limit) × GlyphMap form g
    unfolding set_fault_of
    asks_ligatures e = (sym (source_ligatures kind s starts e) ∙ a.sound, a.source, a.map)

    pub asks_pairs : kind ≡ 4 → SoundPairs form s g
    asks_pairs e = record { sound = subst (λ (k : ℕ). fault k s ≡ None) e a.sound; source = a.source; map = a.map }

    pub asks_singles : (kind ≡ 1 → ⊥) → (kind ≡ 2 → ⊥) → (kind ≡ 3 → ⊥) → (kind ≡ 4 → ⊥) → singles.Sound form s g
    asks_singles x y z w = record { sound = sym (source_singles kind s starts x y z w) ∙ a.sound; source = a.source; map = a.map }

  says_plain : kind ≡ 1 → context false s ≡ table kind s
  unfolding table
  says_plain e = rw e

  says_chained : kind ≡ 2 → context true s ≡ table kind s
  unfolding table
  says_chained e = rw e

  -- no lookup is named by ligatures, pairs and single substitutions
  says_ligatures : (g l : List (ℕ × ℕ)) → kind ≡ 3 → cut g [] (ligature_table s) ≡ cut g l (table kind s)
  unfolding table cut
  says_ligatures g l e = rw e

  pair_is : kind ≡ 4 → pair_table s ≡ table kind s
  unfolding table
  pair_is e = rw e

  says_pairs : (g l : List (ℕ × ℕ)) → kind ≡ 4 → cut g [] (pair_table s) ≡ cut g l (table kind s)
  says_pairs g l e = sym (pair_lookups g l s) ∙ ap (cut g l) (pair_is e)

  single_is : (kind ≡ 1 → ⊥) → (kind ≡ 2 → ⊥) → (kind ≡ 3 → ⊥) → (kind ≡ 4 → ⊥) → single s ≡ table kind s
  unfolding table
  single_is x y z w = rw (ne_eqb kind 1 x, ne_eqb kind 2 y, ne_eqb kind 3 z, ne_eqb kind 4 w)

  says_singles : (g l : List (ℕ × ℕ)) → (kind ≡ 1 → ⊥) → (kind ≡ 2 → ⊥) → (kind ≡ 3 → ⊥) → (kind ≡ 4 → ⊥) → cut g [] (single s) ≡ cut g l (table kind s)
  says_singles g l x y z w = sym (singles.any_lookups g l s) ∙ ap (cut g l) (single_is x y z w)

  -- what each kind's cut answers is what a source's cut answers
  module _ (packing : ℕ) (g l : List (ℕ × ℕ)) (n b : ℕ) (r : Result ℕ NotCut) (out after : List ℕ) where
    abbrev Cut : Type 0
    Cut = Tries (n < cells_for kind s) (b < bytes_for kind s) r out after (written_in packing out (cut g l (table kind s)))

    tries_other : {made : Option Table} → (kind ≡ 4 → ⊥) → made ≡ cut g l (table kind s) → Tries (n < other_cells) (b < enough_area) r out after (written_in packing out made) → Cut
    tries_other z m h = tries_less (n < other_cells) (b < enough_area) (n < cells_for kind s) (b < bytes_for kind s) r out after (written_in packing out (cut g l (table kind s))) (source_few kind s n) (source_short_area kind s (no_pairs kind s z) b) (rw m at h)

    pub tries_plain : kind ≡ 1 → Tries (n < other_cells) (b < enough_area) r out after (written_in packing out (cut g l (context false s))) → Cut
    tries_plain e h = tries_other (λ z. omega arith) (ap (cut g l) (says_plain e)) h

    pub tries_chained : kind ≡ 2 → Tries (n < other_cells) (b < enough_area) r out after (written_in packing out (cut g l (context true s))) → Cut
    tries_chained e h = tries_other (λ z. omega arith) (ap (cut g l) (says_chained e)) h

    pub tries_ligatures : kind ≡ 3 → Tries (n < other_cells) (b < enough_area) r out after (written_in packing out (cut g [] (ligature_table s))) → Cut
    tries_ligatures e h = tries_other (λ z. omega arith) (says_ligatures g l e) h

    pub tries_pairs : kind ≡ 4 → Tries (n < cells_for 4 s) (b < bytes_for 4 s) r out after (written_in packing out (cut g [] (pair_table s))) → Cut
    tries_pairs e h = subst (λ (k : ℕ). Tries (n < cells_for k s) (b < bytes_for k s) r out after (written_in packing out (cut g l (table kind s)))) (sym e) (rw (says_pairs g l e) at h)

    pub tries_singles : (kind ≡ 1 → ⊥) → (kind ≡ 2 → ⊥) → (kind ≡ 3 → ⊥) → (kind ≡ 4 → ⊥) → Tries (n < singles.enough_cells) (b < limit) r out after (written out (cut g [] (single s))) → Cut
    unfolding limit
    tries_singles x y z w h =
        tries_other w (says_singles g l x y z w)
        (tries_less (n < singles.enough_cells) (b < limit) (n < other_cells) (b < enough_area) r out after (written_in packing out (cut g [] (single s))) (λ x. x) (λ x. omega arith) (rw (singles_written packing out g [] s) at h))
