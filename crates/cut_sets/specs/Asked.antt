-- What is asked of a source and of maps in cells, and which sets are kept then.
use Rattle.std.specs.Prelude.{ℕ, ◌+◌, ◌-◌, ◌*◌, ◌≤◌, ◌<◌, ◌≡◌, Bool, true, List, [], length, eqb, None}
use Rattle.std.proofs.Common.{sym, ◌∙◌, zero-add, ne_eqb, eq-eqb}
use Rattle.std.proofs.Math.Path.{ap}
use Rattle.meaning.specs.Words.{word, find, bind}
use Rattle.meaning.specs.Maps.{glyph_entries}
use Rattle.meaning.specs.Parts.{coverage, coverage_sound}
use Rattle.meaning.specs.Tables.{reach, reaches, rule_set, ligature_set}
use Rattle.meaning.specs.Cut.{RuleMaps, cut, cut_set, cut_ligatures, kept_sets, kept_by_glyph, kept_ligatures}
use Rattle.meaning.specs.Layout.{block, rule_words, ligature_words, set_words}
use Rattle.meaning.specs.Subset.{limit, words_in}
use Rattle.glyph_runs.specs.Runs.{GlyphMap}
use Rattle.cell_maps.specs.Cells.{Holds}
use Rattle.numbers.specs.Alike.{holds_alike, set_alike, ligatures_alike}
use Rattle.kept_rules.specs.Left.{AllInside}
use Rattle.kept_rules.specs.declared.Maps.{Maps}
use Rattle.range_meets.specs.Met.{met}
use Rattle.placed_sets.specs.Sorts.{header_size, set_fault_of, set_left, left_in, AllBefore}
use Rattle.placed_sets.specs.Kept.{kept_of}
use Rattle.placed_sets.specs.declared.Sort.{Sort}
use Rattle.placed_sets.specs.declared.Sort.TheVariants.{Rules, Ligatures}
use Rattle.kept_header.specs.Table.{table_of}
use Rattle.cut_sets.specs.KeptIs.{kept_met, rules_as, ligatures_as}
use Rattle.cut_sets.specs.Whole.{glyph_context, ligature_table}

-- the count of the sets, which stands before their offsets
abbrev pub count_of : Sort → List ℕ → ℕ
count_of sort s = word s (header_size sort - 2)

-- A source that the check let through: it is not over the limit, its count is a word, its offsets lie inside, its coverage is sound and has a set for each glyph, and the sets are sound.
pub record SoundSets (sort : Sort) (s : List ℕ) : Type 0 where
  pub short : length s ≤ limit
  pub counted : count_of sort s < 65536
  pub header : header_size sort + 2 * count_of sort s ≤ length s
  pub cover : (word s 2 ≡ 0 → ⊥) → coverage_sound s (word s 2) ≡ true
  pub enough : (word s 2 ≡ 0 → ⊥) → length (coverage s (word s 2)) ≤ count_of sort s
  pub sets : (i : ℕ) → i < count_of sort s → (word s (header_size sort + 2 * i) ≡ 0 → ⊥) → set_fault_of sort s (word s (header_size sort + 2 * i)) ≡ None

-- the cell behind the maps, which are laid into cells one after the other
abbrev pub behind : Maps → ℕ
behind maps = maps.lookups.at + maps.lookups.mask + 1

-- The maps are laid into cells: that of the input holds the good glyph map.
pub record MapsLaid (form : ℕ) (glyphs t : List ℕ) (maps : Maps) : Type 0 where
  pub map : GlyphMap form glyphs
  pub holds : Holds t maps.input (glyph_entries form glyphs)
  pub inside : AllInside t maps
  pub before : AllBefore maps (behind maps)
  pub small : behind maps ≤ 0x1_0000_0000

-- the kept sets of the glyphs that the coverage and the glyph map have in common
abbrev pub kept_from : Sort → List ℕ → List (ℕ × ℕ) → List ℕ → Maps → List (ℕ × List ℕ)
kept_from sort s g t maps = kept_of (left_in sort t maps s) s (header_size sort) (met (find g) 0 (coverage s (word s 2)))

-- what is left of a null coverage's table
module _ (g l : List (ℕ × ℕ)) (s : List ℕ) where
  pub rules_null : (chained : Bool) → word s 2 ≡ 0 → cut g l (glyph_context chained s) ≡ None
  unfolding cut reach bind
  rules_null chained z = rw (eq-eqb (word s 2) 0 z)

  pub ligatures_null : word s 2 ≡ 0 → cut g l (ligature_table s) ≡ None
  unfolding cut reach bind
  ligatures_null z = rw (eq-eqb (word s 2) 0 z)

-- the three maps of a rule in format 1 are the glyph map
abbrev pub glyph_maps : List (ℕ × ℕ) → List (ℕ × ℕ) → RuleMaps
glyph_maps g l = record { back = g; input = g; ahead = g; lookups = l }

-- and one that is not null
module _ (g l : List (ℕ × ℕ)) (s : List ℕ) (z : word s 2 ≡ 0 → ⊥) where
  rules_there : (chained : Bool) → cut g l (glyph_context chained s) ≡ kept_by_glyph chained (kept_sets (cut_set chained (glyph_maps g l)) g (coverage s (word s 2)) (reaches (rule_set chained s) s 0 6 (word s 4)))
  unfolding cut reach bind
  rules_there chained = rw (ne_eqb (word s 2) 0 z, zero-add)

  ligatures_there : cut g l (ligature_table s) ≡ kept_ligatures (kept_sets (cut_ligatures g) g (coverage s (word s 2)) (reaches (ligature_set s) s 0 6 (word s 4)))
  unfolding cut reach bind
  ligatures_there = rw (ne_eqb (word s 2) 0 z, zero-add)

-- What is left of a table, as the words of its kept sets say it.
module _ (g : List (ℕ × ℕ)) (s : List ℕ) {t : List ℕ} (maps : Maps) (i : Holds t maps.input g) where
  ligatures_left : (p : ℕ) → left_in Ligatures t maps s p ≡ block (set_words ligature_words) (cut_ligatures g (ligature_set s p))
  unfolding set_left
  ligatures_left p = ap (block (set_words ligature_words)) (ligatures_alike (holds_alike i) (ligature_set s p))

  module _ (z : word s 2 ≡ 0 → ⊥) where
    pub ligatures_cut : (packing : ℕ) → SoundSets Ligatures s → table_of (eqb packing 1) Ligatures (kept_from Ligatures s g t maps) ≡ block (words_in packing) (cut g [] (ligature_table s))
    ligatures_cut packing a =
        ap (table_of (eqb packing 1) Ligatures) (kept_met (ligature_set s) (cut_ligatures g) (set_words ligature_words) (left_in Ligatures t maps s) ligatures_left s 6 g 0 (coverage s (word s 2)) (word s 4) (a.enough z))
        ∙ ligatures_as packing (kept_sets (cut_ligatures g) g (coverage s (word s 2)) (reaches (ligature_set s) s 0 6 (word s 4)))
        ∙ ap (block (words_in packing)) (sym (ligatures_there g [] s z))

  module _ (l : List (ℕ × ℕ)) (b : Holds t maps.back g) (h : Holds t maps.ahead g) (k : Holds t maps.lookups l) (chained : Bool) where
    rules_left : (p : ℕ) → left_in (Rules chained) t maps s p ≡ block (set_words (rule_words chained)) (cut_set chained (glyph_maps g l) (rule_set chained s p))
    unfolding set_left
    rules_left p = ap (block (set_words (rule_words chained))) (set_alike (holds_alike b) (holds_alike i) (holds_alike h) (holds_alike k) chained (rule_set chained s p))

    pub rules_cut : (packing : ℕ) → (word s 2 ≡ 0 → ⊥) → SoundSets (Rules chained) s → table_of (eqb packing 1) (Rules chained) (kept_from (Rules chained) s g t maps) ≡ block (words_in packing) (cut g l (glyph_context chained s))
    rules_cut packing z a =
        ap (table_of (eqb packing 1) (Rules chained)) (kept_met (rule_set chained s) (cut_set chained (glyph_maps g l)) (set_words (rule_words chained)) (left_in (Rules chained) t maps s) rules_left s 6 g 0 (coverage s (word s 2)) (word s 4) (a.enough z))
        ∙ rules_as packing chained (kept_sets (cut_set chained (glyph_maps g l)) g (coverage s (word s 2)) (reaches (rule_set chained s) s 0 6 (word s 4)))
        ∙ ap (block (words_in packing)) (sym (rules_there g l s z chained))
