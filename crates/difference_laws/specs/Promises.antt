-- Every promise of request 1 in one place, each with its words above it. They hold of every call: any kind, any two tables, any buffer.
-- A reader who believes Content.antt, Entries.antt, Compare.antt and the definitions of `meaning` needs of the rest of this crate what stands here,
-- Differs.antt, and `Call`, `answer`, `list`, `refusals`, `first` and `Meets` of Answers.antt.
use Rattle.std.specs.Prelude.{ℕ, ◌*◌, ◌<◌, ◌≡◌, refl, true, length, drop, Option, None}
use Rattle.std.proofs.Math.Path.{sym, ap}
use Rattle.std.proofs.Common.{◌∙◌, arith}
use mathlib.Core.List.{List, [], ◌∷◌, ◌++◌, map, append-nil}
use Rattle.meaning.specs.Words.{words, flat}
use Rattle.meaning.specs.Tables.{table}
use Rattle.meaning.specs.Fault.{fault}
use Rattle.meaning.specs.Subset.{Outcome}
use Rattle.meaning.specs.Matching.{covers?, in_class, match, ligate, signed, adjust}
use Rattle.laws.specs.Stands.{Word, stands_in, words_back}
use Rattle.laws.specs.Through.{Opt}
use Rattle.laws.specs.PartsBack.{Glyphs, Classes}
use Rattle.laws.specs.SoundGood.{Bytes}
use Rattle.differences.specs.Content.{class_runs?, cover_runs, Content, content}
use Rattle.differences.specs.Entries.{Entry, differences}
use Rattle.differences.specs.Compare.{entry_words, compared_kind, compared_format, list_bytes}
use Rattle.difference_laws.specs.Small.{list_small}
use Rattle.difference_laws.specs.SoundSmall.{sound_small}
use Rattle.differences.specs.Differs.{In, Lists}
use Rattle.difference_laws.specs.Empty.{empty_equal, itself_empty}
use Rattle.difference_laws.specs.Sound.{sound_sorted}
use Rattle.difference_laws.specs.Lists.{differences_lists, lists_once}
use Rattle.difference_laws.specs.Swap.{mirrored, swapped, swapped_twice}
use Rattle.difference_laws.specs.Classes as Classes
use Rattle.difference_laws.specs.Answers.{Call, answer, list, refusals, NoneOf, Meets, answer_meets, meets_once, kept_exactly, refused_untouched, refused_length, no_room, kept_length, kept_bytes, list_length, left_sound, right_sound, kept_kind, left_format, right_format}
use Rattle.difference_laws.specs.Alike.{Ids, match_content, ligate_content, adjust_content}
use Rattle.difference_laws.specs.InUse.{kind_good, signed_tells, source_matches, source_ligates, source_adjusts}
use Rattle.differences.specs.Points as Points

-- `points`: the open points of request 1 as we read them, each with its whole answer: number, length and buffer.
pub points : map Points.call Points.points ≡ map Points.stated Points.points
points = Points.each_point

-- How answers are fixed.

-- `unique`: two outcomes that meet the public statement for one call are equal: number, length and buffer, refusals included.
pub unique : (c : Call) (r q : Outcome) → Meets c r → Meets c q → r ≡ q
unique = meets_once

-- The call meets it.
pub meets : (c : Call) → Meets c (answer c)
meets = answer_meets

-- `exact`: the list holds the exact differences of the two contents, all of them and nothing else, in order: third word, fourth, second. No other list does:
-- each entry is fixed, and with it which rules are paired.
pub exact : (l r : Content) → Lists l r (differences l r)
exact = differences_lists

pub exact_once : (l r : Content) (es fs : List Entry) → Lists l r es → Lists l r fs → es ≡ fs
exact_once = lists_once

-- `sides`: where left and right change places, each entry changes sides, and no two become one.
pub sides : (l r : Content) (e : Entry) → In e (differences l r) → In (mirrored e) (differences r l)
sides = swapped

pub sides_twice : (l r : Content) (e : Entry) → In e (differences l r) → mirrored (mirrored e) ≡ e
sides_twice = swapped_twice

-- `class_is_its_glyphs`: two classes of two class tables are one content exactly if the same of all 65,536 ids hold them.
pub class_is_its_glyphs : (t u : Option (List (ℕ × ℕ))) → Opt Classes t → Opt Classes u → (c d : ℕ)
    → (class_runs? t c ≡ class_runs? u d → (g : ℕ) → g < 65536 → in_class t c g ≡ in_class u d g) × (((g : ℕ) → g < 65536 → in_class t c g ≡ in_class u d g) → class_runs? t c ≡ class_runs? u d)
class_is_its_glyphs = Classes.same_class_lem

-- The same of two coverages of format 3.
pub cover_is_its_glyphs : (t u : Option (List ℕ)) → Opt Glyphs t → Opt Glyphs u
    → (cover_runs t ≡ cover_runs u → (g : ℕ) → covers? t g ≡ covers? u g) × (((g : ℕ) → g < 65536 → covers? t g ≡ covers? u g) → cover_runs t ≡ cover_runs u)
cover_is_its_glyphs = Classes.same_cover

-- `value_is_signed`: two values, which are words, differ exactly if they differ as signed 16-bit numbers.
pub value_is_signed : (a b : ℕ) → Word a → Word b → (signed a ≡ signed b → a ≡ b) × (a ≡ b → signed a ≡ signed b)
value_is_signed a b p q = (signed_tells a b p q, ap signed)

module _ (c : Call) where
  -- the decoded contents of the two tables
  abbrev on_left : Content
  on_left = content (table c.kind c.left)

  abbrev on_right : Content
  on_right = content (table c.kind c.right)

  -- `empty_exactly`: where neither table is refused, the list is empty exactly if the decoded contents are equal.
  pub empty_exactly : fault c.kind c.left ≡ None → fault c.kind c.right ≡ None → (length (list c) ≡ 0 → on_left ≡ on_right) × (on_left ≡ on_right → length (list c) ≡ 0)
  empty_exactly p q = (
    (λ e. empty_equal on_left on_right (sound_sorted c.kind c.left p) (sound_sorted c.kind c.right q) (none_long (differences on_left on_right) (sym (list_length c) ∙ e))),
    λ e. list_length c ∙ ap (λ (r : Content). 12 * length (differences on_left r)) (sym e) ∙ ap (λ (es : List Entry). 12 * length es) (itself_empty on_left),
  )
    where
      none_long : (es : List Entry) → 12 * length es ≡ 0 → es ≡ []
      none_long [] h = refl
      none_long (e ∷ es) h = absurd (omega arith)

  -- So a call that is kept has length 0 exactly if the contents are equal.
  pub kept_empty_exactly : (answer c).number ≡ 0 → ((answer c).len ≡ 0 → on_left ≡ on_right) × (on_left ≡ on_right → (answer c).len ≡ 0)
  kept_empty_exactly h =
      let k = empty_exactly (left_sound c h) (right_sound c h) in
      (λ e. k.0 (sym (kept_length c h) ∙ e), λ e. kept_length c h ∙ k.1 e)

  -- `same_use`: where the list is kept and empty, the two tables do the same. A slice's contents are bytes, and strings are of ids.
  module _ (left-bytes : Bytes c.left) (right-bytes : Bytes c.right) (kept : (answer c).number ≡ 0) (empty : (answer c).len ≡ 0) where
    -- Contexts match at the same places, with the same input length and records.
    pub same_matches : c.kind < 3 → (before : List ℕ) (g : ℕ) (after : List ℕ) → Ids before → g < 65536 → Ids after
        → match (table c.kind c.left) before g after ≡ match (table c.kind c.right) before g after
    same_matches k before g after bs h fs =
        source_matches c.left left-bytes c.kind (kept_kind c kept) k (left_sound c kept) before g after bs h fs
        ∙ ap (λ (t : Content). match_content t before g after) ((kept_empty_exactly kept).0 empty)
        ∙ sym (source_matches c.right right-bytes c.kind (kept_kind c kept) k (right_sound c kept) before g after bs h fs)

    -- The same ligatures are formed.
    pub same_ligatures : c.kind ≡ 3 → (g : ℕ) (after : List ℕ) → Ids after → ligate (table 3 c.left) g after ≡ ligate (table 3 c.right) g after
    same_ligatures k g after fs =
        source_ligates c.left left-bytes (rw k at (left_sound c kept)) g after fs
        ∙ ap (λ (t : Content). ligate_content t g after) (rw k at ((kept_empty_exactly kept).0 empty))
        ∙ sym (source_ligates c.right right-bytes (rw k at (right_sound c kept)) g after fs)

    -- The same pairs are found, with equal adjustments, signed.
    pub same_moves : c.kind ≡ 4 → (g h : ℕ) → adjust (table 4 c.left) g h ≡ adjust (table 4 c.right) g h
    unfolding compared_format
    same_moves k g h =
        source_adjusts c.left (rw k at (left_format c kept)) g h
        ∙ ap (λ (t : Content). adjust_content t g h) (rw k at ((kept_empty_exactly kept).0 empty))
        ∙ sym (source_adjusts c.right (rw k at (right_format c kept)) g h)

  -- A table compared with itself gives the empty list.
  pub itself : c.left ≡ c.right → length (list c) ≡ 0
  itself e = list_length c ∙ rw (← e) (ap (λ (es : List Entry). 12 * length es) (itself_empty on_left))

  -- `kept_exactly_if`: it is kept exactly if no refusal applies: the kind, the left table's, the right one's, room.
  pub kept_exactly_if : ((answer c).number ≡ 0 → NoneOf (refusals c)) × (NoneOf (refusals c) → (answer c).number ≡ 0)
  kept_exactly_if = kept_exactly c

  -- `refusal_writes_nothing`: a refusal leaves the buffer as it was. Its length is 0, save with 6, where it is a place, and with 10, where it is the length needed and the buffer is shorter.
  pub refusal_writes_nothing : ((answer c).number ≡ 0 → ⊥) → (answer c).out ≡ c.buffer
  refusal_writes_nothing = refused_untouched c

  pub refusal_length : ((answer c).number ≡ 0 → ⊥) → ((answer c).number ≡ 6 → ⊥) → ((answer c).number ≡ 10 → ⊥) → (answer c).len ≡ 0
  refusal_length = refused_length c

  pub length_needed : (answer c).number ≡ 10 → ((answer c).len ≡ length (list c)) × (length c.buffer < length (list c))
  length_needed = no_room c

  -- `kept_is_the_list`: what is kept is the list, twelve bytes an entry, and the bytes past it keep their old content.
  pub kept_is_the_list : (answer c).number ≡ 0 → ((answer c).len ≡ length (list c)) × ((answer c).out ≡ list c ++ drop (length (list c)) c.buffer)
  kept_is_the_list h = (kept_length c h, kept_bytes c h)

  -- Its bytes read back as the words of the entries: no number of an entry is past 65,535.
  pub reads_back : Bytes c.left → Bytes c.right → compared_kind c.kind ≡ true → fault c.kind c.left ≡ None → fault c.kind c.right ≡ None
      → words (list c) 0 (length (entry_words (differences on_left on_right))) ≡ entry_words (differences on_left on_right)
  unfolding list_bytes
  reads_back a b k p q =
      let ws = entry_words (differences on_left on_right) in
      let small = list_small on_left on_right (sound_small c.left a c.kind (kind_good c.kind k) p) (sound_small c.right b c.kind (kind_good c.kind k) q) in
      ap (λ (s : List ℕ). words s 0 (length ws)) (sym (append-nil (flat ws))) ∙ words_back ws (stands_in [] ws [] small)

  pub twelve_bytes : length (list c) ≡ 12 * length (differences on_left on_right)
  twelve_bytes = list_length c
