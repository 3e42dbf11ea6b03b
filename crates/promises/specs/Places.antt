-- Malformed, said apart from how `fault` walks: the parts of a source, when a part is sound by its own bytes, and what the lowest start among the faulty parts is.
-- All parts are listed, those that a faulty part's offsets reach too: an offset that is not null is positive, so they start later than that part and are not the lowest.
use Rattle.std.specs.Prelude.{ℕ, zero, suc, ◌+◌, ◌-◌, ◌*◌, ◌/◌, ◌<◌, ◌≡◌, refl, Bool, true, false, cond, ◌&&◌, ◌||◌, not, List, [], ◌∷◌, ◌++◌, map, ◌⊎◌, length, leb, ltb, eqb, None, Some}
use Rattle.meaning.specs.Words.{word, words, flat, ascends, values, push, map_some}
use Rattle.meaning.specs.Parts.{coverage, coverage_sound, classes, classes_sound, class_of}
use Rattle.meaning.specs.Tables.{field_count, pair_set}
use Rattle.meaning.specs.Subset.{subset}
use Rattle.promises.specs.Strings.{All}
use Rattle.promises.specs.Survives.{some_of}

-- The sorts of part. Those of contexts are plain (false) or chained (true), and a context's header goes by its format: by glyph (1), by class (2), by cover (3).
-- So does that of a pair table: by glyph (1), by class (2); and that of a single substitution: by a delta (1), by a list (2).
-- A pair set's records have so many values of the first glyph and so many of the second.
pub data Sort : Type 0 where
  glyph_header : Bool → Sort
  class_header : Bool → Sort
  cover_header : Bool → Sort
  ligature_header : Sort
  pair_header_sort : Sort
  class_pair_header : Sort
  delta_header : Sort
  list_header : Sort
  rule_set : Bool → Sort
  rule : Bool → Sort
  ligature_set : Sort
  ligature : Sort
  pair_set_sort : ℕ → ℕ → Sort
  coverage_table : Sort
  class_table : Sort

-- a part: its sort and where it starts; a header starts at 0
pub record Part : Type 0 where
  pub sort : Sort
  pub start : ℕ

-- Which parts there are.

-- a context's header, by its format (one that contexts haven't is refused as 5 before)
unfoldable pub context_header : Bool → List ℕ → Sort
context_header chained s = cond (eqb (word s 0) 1) (glyph_header chained) (cond (eqb (word s 0) 2) (class_header chained) (cover_header chained))

-- a pair table's header, by its format
unfoldable pub pair_header : List ℕ → Sort
pair_header s = cond (eqb (word s 0) 1) pair_header_sort class_pair_header

-- a single substitution's header, by its format
unfoldable pub single_header : List ℕ → Sort
single_header s = cond (eqb (word s 0) 1) delta_header list_header

-- the header of a source of this kind: 1 context, 2 chained, 3 ligature, 4 pair, 5 single substitution
unfoldable pub header_of : ℕ → List ℕ → Sort
header_of kind s =
    cond (eqb kind 1) (context_header false s) (cond (eqb kind 2) (context_header true s) (cond (eqb kind 3) ligature_header (cond (eqb kind 4) (pair_header s) (single_header s))))

-- the offsets that a part has, row by row: the sort of part that a row reaches, where the row stands, and how many offsets it has;
-- rules, ligatures, pair sets, coverages and class tables have none
unfoldable pub offsets_of : List ℕ → Sort → ℕ → List (Sort × ℕ × ℕ)
offsets_of s (glyph_header chained) at = (coverage_table, 2, 1) ∷ (rule_set chained, 6, word s 4) ∷ []
offsets_of s (class_header false) at = (coverage_table, 2, 1) ∷ (class_table, 4, 1) ∷ (rule_set false, 8, word s 6) ∷ []
offsets_of s (class_header true) at = (coverage_table, 2, 1) ∷ (class_table, 4, 3) ∷ (rule_set true, 12, word s 10) ∷ []
offsets_of s (cover_header false) at = (coverage_table, 6, word s 2) ∷ []
offsets_of s (cover_header true) at =
    let i = 4 + 2 * word s 2 in
    let a = i + 2 + 2 * word s i in
    (coverage_table, 4, word s 2) ∷ (coverage_table, i + 2, word s i) ∷ (coverage_table, a + 2, word s a) ∷ []
offsets_of s ligature_header at = (coverage_table, 2, 1) ∷ (ligature_set, 6, word s 4) ∷ []
offsets_of s pair_header_sort at = (coverage_table, 2, 1) ∷ (pair_set_sort (field_count (word s 4)) (field_count (word s 6)), 10, word s 8) ∷ []
offsets_of s class_pair_header at = (coverage_table, 2, 1) ∷ (class_table, 8, 2) ∷ []
offsets_of s delta_header at = (coverage_table, 2, 1) ∷ []
offsets_of s list_header at = (coverage_table, 2, 1) ∷ []
offsets_of s (rule_set chained) at = (rule chained, at + 2, word s at) ∷ []
offsets_of s ligature_set at = (ligature, at + 2, word s at) ∷ []
offsets_of s (rule chained) at = []
offsets_of s ligature at = []
offsets_of s (pair_set_sort a b) at = []
offsets_of s coverage_table at = []
offsets_of s class_table at = []

-- the parts that offsets of a part at `at` reach: they count from its start, and a null one reaches none
unfoldable pub targets : Sort → ℕ → List ℕ → List Part
targets to at offsets = map_some (λ w. cond (eqb w 0) None (Some (record { sort = to; start = at + w }))) offsets

-- the same for rows of offsets
unfoldable pub reached_by : List ℕ → ℕ → List (Sort × ℕ × ℕ) → List Part
reached_by s at [] = []
reached_by s at (row ∷ rows) = targets row.0 at (words s row.1 row.2) ++ reached_by s at rows

-- the parts that a part reaches
unfoldable pub reached_from : List ℕ → Part → List Part
reached_from s p = reached_by s p.start (offsets_of s p.sort p.start)

-- lists of parts, one for each part of a list, one after the other
unfoldable pub each_of : (Part → List Part) → List Part → List Part
each_of f [] = []
each_of f (p ∷ ps) = f p ++ each_of f ps

-- a part with the parts that it reaches through at most so many offsets
unfoldable pub with_reached : ℕ → List ℕ → Part → List Part
with_reached zero s p = p ∷ []
with_reached (suc n) s p = p ∷ each_of (with_reached n s) (reached_from s p)

-- the parts of a source: a header reaches sets, coverage and class tables, and a set reaches rules or ligatures, which have no offsets
unfoldable pub parts : ℕ → List ℕ → List Part
unfolding context_header pair_header single_header header_of offsets_of targets reached_by reached_from each_of with_reached
parts kind s = with_reached 2 s (record { sort = header_of kind s; start = 0 })

-- When a part is sound by its own bytes.

-- a part whose last byte stands before this place lies inside the source. Its end goes by its own counts, each of which stands before that end
unfoldable pub ends_by : List ℕ → ℕ → Bool
ends_by s end = leb end (length s)

-- the end of a rule: a plain one has its two counts first, a chained one has each count before its array
unfoldable pub rule_end : Bool → List ℕ → ℕ → ℕ
rule_end false s at = at + 4 + (2 * (word s at - 1) + 4 * word s (at + 2))
rule_end true s at =
    let i = at + 2 + 2 * word s at in
    let a = i + 2 + 2 * (word s i - 1) in
    let r = a + 2 + 2 * word s a in
    r + 2 + 4 * word s r

-- the end of a header of format 3
unfoldable pub cover_end : Bool → List ℕ → ℕ
cover_end false s = 6 + (2 * word s 2 + 4 * word s 4)
cover_end true s =
    let i = 4 + 2 * word s 2 in
    let a = i + 2 + 2 * word s i in
    let r = a + 2 + 2 * word s a in
    r + 2 + 4 * word s r

-- n sets are at odds with a sound coverage: it has more glyphs
unfoldable pub at_odds : List ℕ → ℕ → Bool
at_odds s n = not (eqb (word s 2) 0) && (coverage_sound s (word s 2) && ltb n (length (coverage s (word s 2))))

-- n substitutes are at odds with a sound coverage: it has another number of glyphs
unfoldable pub other_count : List ℕ → ℕ → Bool
other_count s n = not (eqb (word s 2) 0) && (coverage_sound s (word s 2) && not (eqb (length (coverage s (word s 2))) n))

-- pairs by class: the first class of a covered glyph is not below the first count, where coverage and first class table are sound
unfoldable pub first_past : List ℕ → Bool
first_past s =
    not (eqb (word s 2) 0) && (coverage_sound s (word s 2) && (classes_sound s (word s 8) && some_of (λ g. leb (word s 12) (class_of (classes s (word s 8)) g)) (coverage s (word s 2))))

-- the second class of some glyph, 0 or one that is listed, is not below the second count, where the second class table is sound
unfoldable pub second_past : List ℕ → Bool
second_past s = classes_sound s (word s 10) && some_of (λ c. leb (word s 14) c) (0 ∷ values (classes s (word s 10)))

-- a class is not below its count, where neither class table is null
unfoldable pub class_past : List ℕ → Bool
class_past s = not (eqb (word s 8) 0) && (not (eqb (word s 10) 0) && (first_past s || second_past s))

-- a value format has no bit of 0xFF00
unfoldable pub low_bits : ℕ → Bool
low_bits f = eqb (f / 256) 0

-- each part lies inside; besides, a header's set count or substitute count is not at odds with a sound coverage, no class is past its count, value formats have low bits only, a pair set's second glyphs ascend,
-- and a coverage or a class table is sound as Parts.antt says
unfoldable pub sound : List ℕ → Sort → ℕ → Bool
unfolding ends_by rule_end cover_end at_odds other_count first_past second_past class_past low_bits
sound s (glyph_header chained) at = ends_by s (6 + 2 * word s 4) && not (at_odds s (word s 4))
sound s (class_header false) at = ends_by s (8 + 2 * word s 6)
sound s (class_header true) at = ends_by s (12 + 2 * word s 10)
sound s (cover_header chained) at = ends_by s (cover_end chained s)
sound s ligature_header at = ends_by s (6 + 2 * word s 4) && not (at_odds s (word s 4))
sound s pair_header_sort at = ends_by s (10 + 2 * word s 8) && (low_bits (word s 4) && (low_bits (word s 6) && not (at_odds s (word s 8))))
sound s class_pair_header at =
    ends_by s (16 + (2 * field_count (word s 4) + 2 * field_count (word s 6)) * (word s 12 * word s 14)) && (low_bits (word s 4) && (low_bits (word s 6) && not (class_past s)))
sound s delta_header at = ends_by s 6
sound s list_header at = ends_by s (6 + 2 * word s 4) && not (other_count s (word s 4))
sound s (rule_set chained) at = ends_by s (at + 2 + 2 * word s at)
sound s (rule chained) at = ends_by s (rule_end chained s at)
sound s ligature_set at = ends_by s (at + 2 + 2 * word s at)
sound s ligature at = ends_by s (at + 4 + 2 * (word s (at + 2) - 1))
sound s (pair_set_sort a b) at = ends_by s (at + 2 + (2 + 2 * a + 2 * b) * word s at) && ascends (map (λ p. p.second) (pair_set a b s at))
sound s coverage_table at = coverage_sound s at
sound s class_table at = classes_sound s at

-- The lowest start among the faulty parts.

-- a part is sound, or faulty, by its own bytes
abbrev pub Sound : List ℕ → Part → Type 0
Sound s p = sound s p.sort p.start ≡ true

abbrev pub Faulty : List ℕ → Part → Type 0
Faulty s p = sound s p.sort p.start ≡ false

-- something holds of some element
abbrev pub Any : {A : Type 0} → (A → Type 0) → List A → Type 0
Any P [] = ⊥
Any P (a ∷ r) = P a ⊎ Any P r

-- `place` is the start of a faulty part, and no part that starts lower is faulty
pub record Lowest (s : List ℕ) (ps : List Part) (place : ℕ) : Type 0 where
  pub there : Any (λ p. (p.start ≡ place) × Faulty s p) ps
  pub none_lower : All (λ p. p.start < place → Sound s p) ps

-- Worked cases.

-- the parts of a source of kind 1, each with its start and whether it is sound, and the number and the length of the answer
abbrev judged : List ℕ → List (ℕ × Bool) × ℕ × ℕ
judged s = let r = subset 1 4 0 s [] [] [] in (map (λ p. (p.start, sound s p.sort p.start)) (parts 1 s), r.number, r.len)

-- format 3 with two coverages, the first past the end of the source and the second cut short before it: the lower place is given, not the first
abbrev two_faulty : List ℕ
two_faulty = flat (3 ∷ 2 ∷ 0 ∷ 12 ∷ 10 ∷ 1 ∷ [])

-- format 1 with a set that is cut short, of which one offset stands and reaches a rule past the end: the set's place is given
abbrev set_cut_short : List ℕ
set_cut_short = flat (1 ∷ 0 ∷ 1 ∷ 8 ∷ 2 ∷ 20 ∷ [])

pub lower_wins : map judged (two_faulty ∷ set_cut_short ∷ []) ≡ ((0, true) ∷ (12, false) ∷ (10, false) ∷ [], 6, 10) ∷ ((0, true) ∷ (8, false) ∷ (28, false) ∷ [], 6, 8) ∷ []
unfolding push parts sound subset
lower_wins = refl
