-- The table that the sets of surviving classes make, and how it stands in the area.
use Rattle.std.specs.Prelude.{ℕ, ◌+◌, ◌-◌, ◌*◌, ◌≤◌, ◌<◌, ◌≡◌, Bool, true, List, [], ◌∷◌, ◌++◌, length, take, Option}
use Rattle.meaning.specs.Words.{flat}
use Rattle.meaning.specs.Subset.{Outcome, refused}
use Rattle.room.specs.Laid.{laid_as}
use Rattle.area.specs.Part.{part}
use Rattle.known_blocks.specs.Shared.{offsets_in, blocks_in}
use Rattle.class_places.specs.Places.{slots_at}
use Rattle.class_spots.specs.Slots.{Noted}
use Rattle.class_spots.specs.declared.Slots.{Slots}
use Rattle.remade_classes.specs.Tail.{tail_offsets, tail_words, tail_fit, tail_most, TailIn}
use Rattle.remade_classes.specs.declared.Tail.{Tail}

-- where the coverage stands, behind the header and the sets
abbrev pub cover_place : Bool → List (Option (List ℕ)) → List (Option (List ℕ)) → ℕ
cover_place packed tables bs = 6 + 2 * length tables + 2 * length bs + 2 * length (blocks_in packed bs)

-- the words of a table by class: the format, the offsets of the coverage and of the class tables, the count and the offsets of the sets, the sets, and what follows them
unfoldable pub class_table : Bool → List ℕ → List (Option (List ℕ)) → List (Option (List ℕ)) → List ℕ
class_table packed cover tables bs =
    2 ∷ (tail_offsets packed (cover_place packed tables bs) cover tables ++ (length bs ∷ (offsets_in packed (6 + 2 * length tables + 2 * length bs) bs ++ (blocks_in packed bs ++ tail_words packed cover tables))))

-- the table of these slots, with what follows them, laid into the buffer if there is one and it is not too big
unfoldable pub table_into : Bool → List ℕ → List ℕ → List (Option (List ℕ)) → List (Option (List ℕ)) → Outcome
table_into packed out cover tables [] = refused out 8
table_into packed out cover tables (b ∷ bs) = laid_as (tail_fit packed (cover_place packed tables (b ∷ bs)) cover tables) out (flat (class_table packed cover tables (b ∷ bs)))

-- what is asked to put the table together: there are slots, of which `count` are left, and what follows them can be written
pub record Finishes (s glyphs t : List ℕ) (tail : Tail) (r : Slots) (classes : ℕ) (area : List ℕ) : Type 0 where
  pub tail_in : TailIn s glyphs t tail
  pub some_slot : 0 < r.count
  pub few : r.count ≤ classes
  pub low : classes ≤ 65536
  pub start : slots_at tail.chained + 2 * classes ≤ r.end
  pub room : r.end ≤ length area

-- Whatever slots are noted there: the head of their table stands at the front and the rest from the first set up to r, if it isn't too long by far; or the area is too short for what follows the sets, or an offset or a count of that doesn't fit a word.
pub record Finished (packed chained : Bool) (cover : List ℕ) (tables : List (Option (List ℕ))) (s : Slots) (classes : ℕ) (before after : List ℕ) (r : ℕ) : Type 0 where
  pub same : length after ≡ length before
  pub place : r ≤ length before → r ≡ s.end + 2 * length (tail_words packed cover tables)
  pub table : (bs : List (Option (List ℕ))) → length bs ≡ classes → Noted packed (slots_at chained) (slots_at chained + 2 * classes) bs before s.end → length (blocks_in packed bs) < 65535 → blocks_in packed (take s.count bs) ≡ blocks_in packed bs → r ≤ length before
      → part after 0 (slots_at chained + 2 * s.count) ++ part after (slots_at chained + 2 * classes) (r - (slots_at chained + 2 * classes)) ≡ flat (class_table packed cover tables (take s.count bs))
  pub near : r ≤ length before → tail_fit packed (s.end - 2 * (classes - s.count)) cover tables ≡ true
  pub full : length before < r → tail_fit packed (s.end - 2 * (classes - s.count)) cover tables ≡ true → length before < 2 * (classes - s.count) + tail_most
