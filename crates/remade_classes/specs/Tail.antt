-- What follows the sets: the coverage and the class tables, with their offsets in the header.
use Rattle.std.specs.Prelude.{ℕ, ◌+◌, ◌-◌, ◌*◌, ◌≤◌, ◌<◌, ◌≡◌, refl, Bool, true, false, cond, ◌&&◌, List, [], ◌∷◌, ◌++◌, map, length, leb, Option, None, Some}
use Rattle.std.proofs.Common.{arith, leb-false}
use Rattle.std.proofs.lemmas.List.Edits.{sets}
use Rattle.meaning.specs.Words.{flat, threes}
use Rattle.meaning.specs.Maps.{glyph_entries}
use Rattle.meaning.specs.Layout.{runs, indexed, coverage_words, words_fit}
use Rattle.laws.specs.Stands.{threes_length}
use Rattle.known_blocks.specs.Shared.{offsets_in, blocks_in}
use Rattle.known_blocks.specs.Book.{book_cells, packs}
use Rattle.class_places.specs.Places.{slots_at}
use Rattle.class_spots.specs.Slots.{Noted}
use Rattle.class_spots.specs.Placing.{Gathered, TurnIn}
use Rattle.class_spots.specs.declared.Turn.{Turn}
use Rattle.laws.specs.Runs.{indexed_length}
use Rattle.area.specs.Extends.{Keeps, Extends}
use Rattle.area.specs.Part.{news}
use Rattle.glyph_runs.specs.Runs.{GlyphMap}
use Rattle.remade_classes.specs.Made.{new_table, OldIn}
use Rattle.remade_classes.specs.declared.Tail.{Tail}

-- the blocks of the new class tables: those of backtrack, input and lookahead, or of the input alone
abbrev pub table_blocks : Bool → List ℕ → List ℕ → Tail → List (Option (List ℕ))
table_blocks false s glyphs r = new_table (glyph_entries r.form glyphs) s r.input.at ∷ []
table_blocks true s glyphs r =
    new_table (glyph_entries r.form glyphs) s r.back.at ∷ new_table (glyph_entries r.form glyphs) s r.input.at ∷ new_table (glyph_entries r.form glyphs) s r.ahead.at ∷ []

-- the words of the coverage
abbrev pub cover_of : List ℕ → Tail → List ℕ
cover_of t r = coverage_words (news t r.cover.at r.cover.len)

-- the offsets of a coverage that stands at q and of the class tables behind it, and their words
abbrev pub tail_offsets : Bool → ℕ → List ℕ → List (Option (List ℕ)) → List ℕ
tail_offsets packed q cover tables = q ∷ offsets_in packed (q + 2 * length cover) tables

abbrev pub tail_words : Bool → List ℕ → List (Option (List ℕ)) → List ℕ
tail_words packed cover tables = cover ++ blocks_in packed tables

-- the glyphs of the coverage, of which there is one, stand in cells, behind those that are free; and each class table can be made again there
pub record TailIn (s glyphs t : List ℕ) (r : Tail) : Type 0 where
  pub cover : r.cover.at + r.cover.len ≤ length t
  pub covered : 0 < r.cover.len
  pub few : r.cover.len ≤ 65536
  pub map : GlyphMap r.form glyphs
  pub back : OldIn (glyph_entries r.form glyphs) s t r.cover.at r.back
  pub input : OldIn (glyph_entries r.form glyphs) s t r.cover.at r.input
  pub ahead : OldIn (glyph_entries r.form glyphs) s t r.cover.at r.ahead

-- a coverage of at most 65,536 glyphs is short
pub cover_short : (gs : List ℕ) → length gs ≤ 65536 → length (coverage_words gs) ≤ 65538
unfolding coverage_words
cover_short gs h = step (leb (4 + 2 * length gs) (4 + 6 * length rs)) refl
  where
    rs : List (ℕ × ℕ × ℕ)
    rs = runs (map (λ g. (g, 0)) gs)

    step : (t : Bool) → leb (4 + 2 * length gs) (4 + 6 * length rs) ≡ t → length (cond t (1 ∷ length gs ∷ gs) (2 ∷ length rs ∷ threes (indexed 0 rs))) ≤ 65538
    step true e = omega arith
    step false e = omega (arith, leb-false (4 + 2 * length gs) (4 + 6 * length rs) e, threes_length (indexed 0 rs), indexed_length 0 rs)

-- where offsets and counts fit, what is written ends no further behind the gap than this: the first class table starts at 65,535 at the latest, they take 196,611 bytes at most, and one more is written before it is found to be among them
abbrev pub tail_most : ℕ
tail_most = 393222

-- no block is over 131,076 bytes: the count of a longer class table doesn't fit a word
unfoldable pub short_blocks : List (Option (List ℕ)) → Bool
short_blocks [] = true
short_blocks (None ∷ bs) = short_blocks bs
short_blocks (Some b ∷ bs) = leb (length b) 65538 && short_blocks bs

-- the offsets of class tables that stand from q on fit words, and so do their counts
unfoldable pub tables_fit : Bool → ℕ → List (Option (List ℕ)) → Bool
tables_fit packed q tables = words_fit (offsets_in packed q tables) && short_blocks tables

-- and so does the offset of a coverage before them, that stands at q
unfoldable pub tail_fit : Bool → ℕ → List ℕ → List (Option (List ℕ)) → Bool
tail_fit packed q cover tables = leb q 65535 && tables_fit packed (q + 2 * length cover) tables

-- the front up to p is as before, but for n words at `slot`
pub record Touches (before : List ℕ) (slot n p : ℕ) (after : List ℕ) : Type 0 where
  pub words : List ℕ
  pub many : length words ≡ n
  pub keeps : Keeps (sets before slot (flat words)) p after

-- what is asked to write a class table, whose block is o: those so far are gathered
pub record BlockAsked (o : Option (List ℕ)) (turn : Turn) (gap : ℕ) (area book : List ℕ) : Type 0 where
  pub turn_in : TurnIn turn area book
  pub near : gap ≤ turn.first
  pub packed : Bool
  pub left : ℕ → Option (List ℕ)
  pub slots : ℕ
  pub done : List (Option (List ℕ))
  pub gathered : Gathered packed left slots turn.first done area turn.pos book
  pub from : left turn.at ≡ o

-- Whatever class tables there are so far: this one is gathered with them, and if their offsets and counts fit then they do with it; or the area is short, or they don't.
pub record PlacedTable (o : Option (List ℕ)) (turn : Turn) (gap : ℕ) (area₀ book₀ area book : List ℕ) (r : ℕ) : Type 0 where
  pub same : length area ≡ length area₀
  pub touched : r ≤ length area₀ → Touches area₀ turn.slot 1 turn.pos area
  pub there : {packed : Bool} {left : ℕ → Option (List ℕ)} {slots : ℕ} {bs : List (Option (List ℕ))} → Gathered packed left slots turn.first bs area₀ turn.pos book₀ → left turn.at ≡ o → turn.slot ≡ slots + 2 * length bs → r ≤ length area₀
      → Gathered packed left slots turn.first (bs ++ (o ∷ [])) area r book
  pub near : {packed : Bool} {left : ℕ → Option (List ℕ)} {slots : ℕ} {bs : List (Option (List ℕ))} → Gathered packed left slots turn.first bs area₀ turn.pos book₀ → left turn.at ≡ o → turn.slot ≡ slots + 2 * length bs
      → tables_fit packed (turn.first - gap) bs ≡ true → r ≤ length area₀ → tables_fit packed (turn.first - gap) (bs ++ (o ∷ [])) ≡ true
  pub full : {packed : Bool} {left : ℕ → Option (List ℕ)} {slots : ℕ} {bs : List (Option (List ℕ))} → Gathered packed left slots turn.first bs area₀ turn.pos book₀ → left turn.at ≡ o → turn.slot ≡ slots + 2 * length bs
      → length area₀ < r → tables_fit packed (turn.first - gap) (bs ++ (o ∷ [])) ≡ true → length area₀ < gap + tail_most

-- The class tables stand from p on, and their slots are noted from 4 on.
pub record NotedTables (packed : Bool) (gap p : ℕ) (tables : List (Option (List ℕ))) (before after : List ℕ) (r : ℕ) : Type 0 where
  pub same : length after ≡ length before
  pub noted : r ≤ length before → Noted packed 4 p tables after r
  pub touched : r ≤ length before → Touches before 4 (length tables) p after
  pub near : r ≤ length before → tables_fit packed (p - gap) tables ≡ true
  pub full : length before < r → tables_fit packed (p - gap) tables ≡ true → length before < gap + tail_most

-- They stand from p on, with their offsets, less by the gap, from 4 on; r is the place after them, or past the area: then it is short, or an offset or a count doesn't fit a word.
pub record LaidTables (packed : Bool) (gap p : ℕ) (tables : List (Option (List ℕ))) (before after : List ℕ) (r : ℕ) : Type 0 where
  pub same : length after ≡ length before
  pub fits : r ≤ length before → Extends (sets before 4 (flat (offsets_in packed (p - gap) tables))) p (blocks_in packed tables) after r
  pub near : r ≤ length before → tables_fit packed (p - gap) tables ≡ true
  pub full : length before < r → tables_fit packed (p - gap) tables ≡ true → length before < gap + tail_most

-- The same with the coverage, from p on, and its offset at 2.
pub record Lays (packed : Bool) (gap p : ℕ) (cover : List ℕ) (tables : List (Option (List ℕ))) (before after : List ℕ) (r : ℕ) : Type 0 where
  pub same : length after ≡ length before
  pub fits : r ≤ length before → Extends (sets before 2 (flat (tail_offsets packed (p - gap) cover tables))) p (tail_words packed cover tables) after r
  pub near : r ≤ length before → tail_fit packed (p - gap) cover tables ≡ true
  pub full : length before < r → tail_fit packed (p - gap) cover tables ≡ true → length before < gap + tail_most

-- what is asked where they are laid down: the places of the offsets end before the blocks
pub record Places (area : List ℕ) (slot n gap p : ℕ) : Type 0 where
  pub before : slot + 2 * n ≤ p
  pub room : p ≤ length area
  pub near : gap ≤ p
  pub narrow : gap ≤ 131072

-- and that they are not too far for a book
pub record TablesAsked (area : List ℕ) (gap p : ℕ) (book : List ℕ) : Type 0 where
  pub places : Places area 4 3 gap p
  pub low : p ≤ 0x1000_0000
  pub enough : packs book ≡ true → book_cells ≤ length book

-- the slots follow the format, what the header says of the coverage and the class tables, and the count
pub tail_many : (chained : Bool) (s glyphs : List ℕ) (tail : Tail) → slots_at chained ≡ 6 + 2 * length (table_blocks chained s glyphs tail)
tail_many true s glyphs tail = refl
tail_many false s glyphs tail = refl
