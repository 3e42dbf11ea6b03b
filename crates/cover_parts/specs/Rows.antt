-- Rows of offsets that reach coverages: what is left of the coverages, and how it is laid into the area, in the layout that the book is for.
use Rattle.std.specs.Prelude.{ℕ, ◌+◌, ◌*◌, ◌≤◌, ◌<◌, ◌≡◌, Bool, true, List, [], ◌∷◌, ◌++◌, length, get_or, Option, None, Some}
use Rattle.std.proofs.lemmas.List.Edits.{sets}
use Rattle.meaning.specs.Words.{word, bytes2, flat, bind, map_all}
use Rattle.meaning.specs.Maps.{glyph_entries}
use Rattle.meaning.specs.Parts.{coverage, coverage_sound}
use Rattle.meaning.specs.Tables.{reaches}
use Rattle.meaning.specs.Fault.{fault_through, coverage_fault}
use Rattle.meaning.specs.Cut.{unless_empty, new_coverage}
use Rattle.meaning.specs.Layout.{coverage_words, words_fit}
use Rattle.laws.specs.Stands.{All, Word}
use Rattle.laws.specs.SoundGood.{Bytes}
use Rattle.room.specs.Laid.{enough_area}
use Rattle.glyph_runs.specs.Runs.{GlyphMap}
use Rattle.cell_maps.specs.Cells.{Holds, Kept}
use Rattle.cell_maps.specs.declared.Map.{Map}
use Rattle.area.specs.Extends.{Extends}
use Rattle.meets.specs.Either.{most_notes}
use Rattle.known_blocks.specs.Shared.{offsets_in, blocks_in, place_in}
use Rattle.known_blocks.specs.Book.{book_cells, packs, in_book, Booked, Behind}
use Rattle.cover_parts.specs.Behind.{offsets_behind, blocks_behind}
use Rattle.cover_parts.specs.declared.Row.{Row}
use Rattle.cover_parts.specs.declared.Places.{Places}
use Rattle.cover_parts.specs.declared.Slot.{Slot}
use Rattle.cover_parts.specs.declared.Held.{Held}

-- the words of what is left of a coverage, if it keeps a glyph
unfoldable pub words_left : List (ℕ × ℕ) → List ℕ → Option (List ℕ)
words_left g cov = bind (unless_empty (new_coverage g cov)) (λ k. Some (coverage_words k))

-- of the coverage at a place
abbrev pub left_at : List (ℕ × ℕ) → List ℕ → ℕ → Option (List ℕ)
left_at g s p = words_left g (coverage s p)

-- the block of a coverage that is not null and keeps a glyph
unfoldable pub block_left : List (ℕ × ℕ) → Option (List ℕ) → Option (Option (List ℕ))
block_left g c = bind c (λ cov. bind (words_left g cov) (λ b. Some (Some b)))

-- the blocks of coverages, if none is null or left with no glyph
unfoldable pub blocks_left : List (ℕ × ℕ) → List (Option (List ℕ)) → Option (List (Option (List ℕ)))
blocks_left g cs = map_all (block_left g) cs

-- of the coverage at a place
abbrev pub slot_left : List (ℕ × ℕ) → List ℕ → ℕ → Option (List (Option (List ℕ)))
slot_left g s p = blocks_left g (Some (coverage s p) ∷ [])

-- of those that a row reaches
abbrev pub row_left : List (ℕ × ℕ) → List ℕ → Row → Option (List (Option (List ℕ)))
row_left g s r = blocks_left g (reaches (coverage s) s 0 r.at r.len)

-- Coverages start below 65,536 where they are kept, and have at most 131,076 bytes: so the place after them is at most `highest_end`, and one more is written if the area has `enough_area`.
abbrev pub highest_end : ℕ
highest_end = 262144

-- The blocks `pre` stand from `first` on, up to p; their words and their offsets fit, and they are in the book, `left` being what is left of the source at a place.
pub record Stood (packed : Bool) (left : ℕ → Option (List ℕ)) (first : ℕ) (pre : List (Option (List ℕ))) (area : List ℕ) (p : ℕ) (book : List ℕ) : Type 0 where
  pub from : List ℕ
  pub laid : Extends from first (blocks_in packed pre) area p
  pub small : All Word (blocks_in packed pre)
  pub near : All Word (offsets_in packed first pre)
  pub low : p ≤ highest_end
  pub booked : Booked left (in_book packed pre) book

-- Blocks were laid down behind the blocks `pre`: their offsets from `slot` on, counted from the area's start, and what they add from p on; r is the place after them, or past the area: then the area has not enough bytes, or not all their offsets fit words.
pub record Lays (packed : Bool) (left : ℕ → Option (List ℕ)) (first : ℕ) (pre : List (Option (List ℕ))) (before : List ℕ) (slot p : ℕ) (bs : List (Option (List ℕ))) (after : List ℕ) (r : ℕ) (book : List ℕ) : Type 0 where
  pub fits : r ≤ length before → Extends (sets before slot (flat (offsets_behind packed first pre bs))) p (blocks_behind packed pre bs) after r
  pub small : r ≤ length before → All Word (blocks_behind packed pre bs)
  pub near : r ≤ length before → words_fit (offsets_behind packed first pre bs) ≡ true
  pub low : r ≤ length before → r ≤ highest_end
  pub booked : r ≤ length before → Booked left (in_book packed (pre ++ bs)) book
  pub full : length before < r → p ≤ length before → words_fit (offsets_behind packed first pre bs) ≡ true → length before < enough_area

-- whatever blocks stand, the blocks that are left were laid down behind them, or r is 0, and none are left; the cells up to the glyph map's last are as before
pub record LaysLeft (source : ℕ → Option (List ℕ)) (left : Option (List (Option (List ℕ)))) (m : Map) (t₀ t before : List ℕ) (slot : ℕ) (at : Places) (after : List ℕ) (r : ℕ) (book₀ book : List ℕ) : Type 0 where
  pub cells : Kept (m.at + m.mask + 1) t₀ t
  pub same : length after ≡ length before
  pub pages : length book ≡ length book₀
  pub gone : left ≡ None → r ≡ 0
  pub stays : {bs : List (Option (List ℕ))} → left ≡ Some bs → (pre : List (Option (List ℕ))) → (at.pos ≤ length before → Stood (packs book₀) source at.first pre before at.pos book₀)
      → Lays (packs book₀) source at.first pre before slot at.pos bs after r book

-- the block b, which was written behind the blocks `pre`, has its place, and the offset at `slot` says it, unless it fits no word
pub record Pointed (packed : Bool) (left : ℕ → Option (List ℕ)) (first : ℕ) (pre : List (Option (List ℕ))) (b area : List ℕ) (slot : ℕ) (after : List ℕ) (r : ℕ) (book : List ℕ) : Type 0 where
  pub far : length area < r → 65535 < place_in packed first pre b
  pub near : r ≤ length area → place_in packed first pre b ≤ 65535
  pub put : r ≤ length area → after ≡ sets area slot (bytes2 (place_in packed first pre b))
  pub end : r ≤ length area → r ≡ first + 2 * length (blocks_in packed (pre ++ (Some b ∷ [])))
  pub booked : r ≤ length area → Booked left (in_book packed (pre ++ (Some b ∷ []))) book

-- what is asked of it: it lies in the area, behind the first, its offset's place lies there too, and the blocks of the book are few
pub record Placing (area : List ℕ) (slot : Slot) (at : Places) (q : ℕ) (book : List ℕ) : Type 0 where
  pub start : 0 < at.first
  pub behind : at.first ≤ at.pos
  pub order : at.pos ≤ q
  pub low : q < 0x1_0000_0000
  pub lies : q ≤ length area
  pub inside : slot.at + 2 ≤ length area
  pub word : slot.cover < 65536
  pub few : get_or book 0 0 < 65536

pub record Points (area : List ℕ) (slot : Slot) (at : Places) (q : ℕ) (after : List ℕ) (r : ℕ) (book₀ book : List ℕ) : Type 0 where
  pub same : length after ≡ length area
  pub pages : length book ≡ length book₀
  pub points : {left : ℕ → Option (List ℕ)} (pre : List (Option (List ℕ))) (b : List ℕ) → Behind left pre b area at.first at.pos q slot.cover book₀ → Pointed (packs book₀) left at.first pre b area slot.at after r book

-- r is the place p if blocks are left, and 0 if none are
pub record Passes (left : Option (List (Option (List ℕ)))) (p r : ℕ) : Type 0 where
  pub gone : left ≡ None → r ≡ 0
  pub stays : {bs : List (Option (List ℕ))} → left ≡ Some bs → r ≡ p

-- what the cutting of a coverage asks of the scratch: the map holds the good glyph map
pub record Ready (glyphs : List ℕ) (h : Held) (t : List ℕ) : Type 0 where
  pub map : GlyphMap h.form glyphs
  pub holds : Holds t h.map (glyph_entries h.form glyphs)

-- blocks stand from the first place up to the next one, unless that is past the area; a book for packed blocks has room for as many as can be kept
pub record Standing (left : ℕ → Option (List ℕ)) (at : Places) (area book : List ℕ) : Type 0 where
  pub pre : List (Option (List ℕ))
  pub stood : at.pos ≤ length area → Stood (packs book) left at.first pre area at.pos book
  pub room : packs book ≡ true → book_cells ≤ length book

-- what is asked where a coverage is written: it is sound, behind the map's cells there is one cell more than glyphs that can be noted, its offset's place lies in the area, before the blocks, and no scratch is over 4 GB
pub record WritesSlot (s : List ℕ) (slot : Slot) (glyphs : List ℕ) (h : Held) (t area : List ℕ) (at : Places) (book : List ℕ) : Type 0 where
  pub bytes : Bytes s
  pub sound : coverage_sound s slot.cover ≡ true
  pub word : slot.cover < 65536
  pub ready : Ready glyphs h t
  pub room : h.map.at + h.map.mask + 1 + most_notes h.form glyphs s slot.cover < length t
  pub inside : slot.at + 2 ≤ length area
  pub before : slot.at + 2 ≤ at.first
  pub standing : Standing (left_at (glyph_entries h.form glyphs) s) at area book
  pub short : length area ≤ 0x1_0000_0000
  pub cells : length t ≤ 0x1_0000_0000

-- a row lies inside, and each coverage that it reaches is sound
pub record SoundRow (s : List ℕ) (r : Row) : Type 0 where
  pub inside : r.at + 2 * r.len ≤ length s
  pub sound : fault_through (coverage_fault s) s 0 r.at r.len ≡ None

-- n is a bound for the glyphs that can be noted of any coverage that the row reaches
abbrev pub Bounds : ℕ → List ℕ → List ℕ → Row → ℕ → Type 0
Bounds form glyphs s row n = (i : ℕ) → i < row.len → (word s (row.at + 2 * i) ≡ 0 → ⊥) → most_notes form glyphs s (word s (row.at + 2 * i)) ≤ n

-- r is no less than `least`, nor than what can be noted of the coverage at `cover` if it is not null; at most 65,536 if `least` is
pub record MoreNotes (form : ℕ) (glyphs s : List ℕ) (cover least r : ℕ) : Type 0 where
  pub above : least ≤ r
  pub enough : (cover ≡ 0 → ⊥) → most_notes form glyphs s cover ≤ r
  pub small : least ≤ 65536 → r ≤ 65536

-- the same of the coverages that a row reaches
pub record MostRow (form : ℕ) (glyphs s : List ℕ) (row : Row) (least r : ℕ) : Type 0 where
  pub above : least ≤ r
  pub bounds : Bounds form glyphs s row r
  pub small : least ≤ 65536 → r ≤ 65536

-- what is asked where a row is written: the places of its offsets end before the blocks
pub record WritesRow (s : List ℕ) (r : Row) (glyphs : List ℕ) (h : Held) (t area : List ℕ) (at : Places) (book : List ℕ) : Type 0 where
  pub bytes : Bytes s
  pub row : SoundRow s r
  pub ready : Ready glyphs h t
  pub most : ℕ
  pub bounds : Bounds h.form glyphs s r most
  pub room : h.map.at + h.map.mask + 1 + most < length t
  pub inside : r.at + 2 * r.len ≤ length area
  pub before : r.at + 2 * r.len ≤ at.first
  pub start : 0 < at.pos
  pub standing : Standing (left_at (glyph_entries h.form glyphs) s) at area book
  pub short : length area ≤ 0x1_0000_0000
  pub cells : length t ≤ 0x1_0000_0000
