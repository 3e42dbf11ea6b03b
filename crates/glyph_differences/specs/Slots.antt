-- Subtables whose rules are reached by coverage index: slots from 6 on, after their count.
use Rattle.std.specs.Prelude.{ℕ, ◌+◌, ◌*◌, ◌≤◌, ◌<◌, ◌≡◌, true, List, length, None, Some}
use Rattle.std.proofs.Common.{ap, ◌∙◌}
use Rattle.meaning.specs.Words.{word, bind}
use Rattle.meaning.specs.Tables.{reaches}
use Rattle.meaning.specs.Fault.{fault}
use Rattle.coverage_index.specs.Index.{index_of}
use Rattle.differences.specs.Content.{by_index}
use Rattle.differences.specs.Entries.{beside}
use Rattle.first_glyphs.specs.First.{cover_of, sound_cover, bind_same, by_slot}
use Rattle.set_numbers.specs.Sets.{codes_of}
use Rattle.gathered.specs.Gathered.{number_in, numbers_at}
use Rattle.set_differences.specs.Said.{set_numbers_lem}

-- a sound subtable of this kind, a context or a ligature, of format 1
pub record ByGlyph (kind : ℕ) (s : List ℕ) : Type 0 where
  pub low : 1 ≤ kind
  pub high : kind ≤ 3
  pub format : word s 0 ≡ 1
  pub sound : fault kind s ≡ None

-- each covered glyph with the numbers of its rules
unfoldable pub numbers_by : List ℕ → List ℕ → ℕ → List (ℕ × List ℕ)
numbers_by num s side = by_index (number_in num) (cover_of s) (reaches (codes_of s side) s 0 6 (word s 4))

-- What is known of a sound subtable: its coverage is sound, and there is a slot for each covered glyph.
pub record SlotTable (s : List ℕ) : Type 0 where
  pub cover : sound_cover s ≡ true
  pub enough : length (cover_of s) ≤ word s 4
  pub few : word s 4 < 65536

-- the numbers of a covered glyph are those of the set in its slot
pub in_slots : (num s : List ℕ) (side : ℕ) → SlotTable s → (g : ℕ) → beside (numbers_by num s side) g ≡ bind (index_of (cover_of s) g) (λ i. Some (numbers_at num s side (word s (6 + 2 * i))))
unfolding numbers_by
in_slots num s side a g =
    by_slot (number_in num) (codes_of s side) s 6 (word s 4) a.enough g
    ∙ bind_same (index_of (cover_of s) g) (λ i. ap Some (set_numbers_lem num s side (6 + 2 * i)))
