-- What is left of a context by class, written into the area and handed over.
use Rattle.std.specs.Prelude.{ℕ, ◌≤◌, ◌≡◌, true, List, length, eqb}
use Rattle.meaning.specs.Cut.{trim}
use Rattle.meaning.specs.Subset.{Outcome}
use Rattle.known_blocks.specs.Book.{book_cells, packs}
use Rattle.class_spots.specs.Slots.{Ready, slot_blocks}
use Rattle.remade_classes.specs.Tail.{cover_of, table_blocks, TailIn}
use Rattle.class_finish.specs.Table.{table_into}
use Rattle.class_finish.specs.declared.Prepared.{Prepared}

-- the most surviving classes
abbrev pub most_classes : ℕ
most_classes = 65536

-- a book for the layout that is asked for: of one cell, or of enough for packed blocks
pub record BookFor (packing : ℕ) (book : List ℕ) : Type 0 where
  pub mode : packs book ≡ eqb packing 1
  pub enough : packs book ≡ true → book_cells ≤ length book

-- what the writer asks: the cells have all that is needed for the sets and for what follows them, and there are not too many classes
pub record Writes (s glyphs t : List ℕ) (p : Prepared) (area : List ℕ) : Type 0 where
  pub ready : Ready p.tail.chained s t p.maps (record { marks = p.marks; count = p.classes })
  pub few : p.classes ≤ most_classes
  pub tail_in : TailIn s glyphs t p.tail
  pub short : length area ≤ 0x1_0000_0000

-- what is left, as the cells and the source say it, laid into the buffer
abbrev pub left_into : List ℕ → List ℕ → List ℕ → List ℕ → Prepared → Outcome
left_into out s glyphs t p = table_into (eqb p.packing 1) out (cover_of t p.tail) (table_blocks p.tail.chained s glyphs p.tail) (trim (slot_blocks p.tail.chained s t p.maps p.marks))
