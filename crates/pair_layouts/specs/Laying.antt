-- What writing the parts asks and answers.
use Rattle.std.specs.Prelude.{ℕ, ◌+◌, ◌*◌, ◌≤◌, ◌<◌, ◌≡◌, Bool, true, cond, List, [], ◌++◌, length}
use Rattle.meaning.specs.Words.{keys, ascends}
use Rattle.meaning.specs.Subset.{limit}
use Rattle.area.specs.Extends.{Extends}
use Rattle.area.specs.Part.{notes}
use Rattle.class_formats.specs.Kept.{AsksCells}
use Rattle.pair_layouts.specs.declared.Noted.{Noted}
use Rattle.pair_layouts.specs.declared.Classed.{Classed}
use Rattle.pair_layouts.specs.declared.Ends.{Ends}

-- the entries of a new class table stand in cells, and its glyphs ascend
pub record EntriesIn (t : List ℕ) (n : Noted) : Type 0 where
  pub inside : n.at + n.len ≤ length t
  pub few : n.len ≤ 65536
  pub ascend : ascends (keys (notes t n.at n.len)) ≡ true

-- the glyphs of the coverage, of which there is one, and the entries of both class tables stand in cells
pub record TailIn (t : List ℕ) (glyphs firsts seconds : Noted) : Type 0 where
  pub cover : glyphs.at + glyphs.len ≤ length t
  pub covered : 0 < glyphs.len
  pub few : glyphs.len ≤ 65536
  pub first : EntriesIn t firsts
  pub second : EntriesIn t seconds

-- a coverage and one class table behind it, which is that of the first classes and of the second
abbrev pub one_table : ℕ → ℕ → ℕ → Ends
one_table cover first end = record { cover = cover; first = first; second = first; end = end }

-- The three parts stand from p on, where `e` says, both class tables in one place if they are one; or its end is past the area, which is too short for them.
pub record Ended (one : Bool) (before : List ℕ) (p : ℕ) (cover first second after : List ℕ) (e : Ends) : Type 0 where
  pub same : length after ≡ length before
  pub cover_at_lem : e.cover ≡ p
  pub first_at_lem : e.end ≤ length before → e.first ≡ p + 2 * length cover
  pub second_at_lem : e.end ≤ length before → e.second ≡ cond one (p + 2 * length cover) (p + 2 * length cover + 2 * length first)
  pub fits : e.end ≤ length before → Extends before p (cover ++ (first ++ cond one [] second)) after e.end
  pub full : length before < e.end → length before < p + 2 * length (cover ++ (first ++ cond one [] second))

-- no part stands before the one that it follows
pub record Ordered (e : Ends) : Type 0 where
  pub first : e.first ≤ e.second
  pub second : e.second ≤ e.end

-- r bytes of an area of n bytes are used: all, but not more than the limit
pub record Front (n r : ℕ) : Type 0 where
  pub within : r ≤ n
  pub most : r ≤ limit
  pub all : r < limit → r ≡ n

-- the source's cells and the maps of both classes lie inside, and what follows the cells is noted
pub record Ready (s t : List ℕ) (cover : Noted) (first second : Classed) : Type 0 where
  pub cells : AsksCells s t first.map second.map
  pub tail : TailIn t cover first.entries second.entries
