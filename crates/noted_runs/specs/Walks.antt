-- What the walks over ranges and runs ask and answer.
use Rattle.std.specs.Prelude.{ℕ, ◌+◌, ◌-◌, ◌*◌, ◌/◌, ◌≤◌, ◌<◌, ◌≡◌, true, List, ◌++◌, length, Option}
use Rattle.meaning.specs.Words.{triples, find, up_from}
use Rattle.meaning.specs.Maps.{steps, glyph_entries}
use Rattle.meaning.specs.Parts.{range_glyphs, ranges_ascend, ranges_count}
use Rattle.glyph_runs.specs.Runs.{GlyphMap, old_of, new_of, size_of}
use Rattle.cell_maps.specs.Cells.{Kept}
use Rattle.area.specs.Part.{notes}
use Rattle.range_meets.specs.Met.{met}
use Rattle.noted_runs.specs.declared.Noted.{Noted}

-- where a run of a map starts, and where it ends: one past its last glyph
abbrev pub start : List ℕ → ℕ → ℕ
start m e = old_of 6 m e

abbrev pub end : List ℕ → ℕ → ℕ
end m e = old_of 6 m e + size_of 6 m e

-- what a map of runs answers
abbrev pub in_runs : List ℕ → ℕ → Option ℕ
in_runs m = find (glyph_entries 6 m)

-- n notes in step from `to` on
pub record NotedSteps (t₀ t : List ℕ) (to index new n : ℕ) : Type 0 where
  pub kept : Kept to t₀ t
  pub noted : notes t to n ≡ steps index new n

-- what a walk over one run asks: it starts at `last` or before and ends after `first`, and there are cells for the glyphs up to `last`
pub record MeetsRun (m : List ℕ) (e first last index : ℕ) (t : List ℕ) (to : ℕ) : Type 0 where
  pub map : GlyphMap 6 m
  pub inside : e < length m / 6
  pub starts : start m e ≤ last
  pub ends : first < end m e
  pub order : first ≤ last
  pub small : index + (last + 1 - first) ≤ 65536
  pub room : to + (last + 1 - first) ≤ length t

-- the glyphs from `from` on, up to the next, are those of the run, and are noted from `to` on
pub record InRun (m : List ℕ) (e first last index : ℕ) (t₀ : List ℕ) (to : ℕ) (t : List ℕ) (r : Noted) : Type 0 where
  pub from : ℕ
  pub low : first ≤ from
  pub starts : start m e ≤ from
  pub tight : first < from → from ≡ start m e
  pub more : from < r.next
  pub count : from + r.count ≡ r.next
  pub within : r.next ≤ last + 1
  pub ends : r.next ≤ end m e
  pub whole : r.next < last + 1 → r.next ≡ end m e
  pub kept : Kept to t₀ t
  pub noted : notes t to r.count ≡ steps (index + (from - first)) (new_of 6 m e + (from - start m e)) r.count

-- what a walk over the runs of a range asks: those before `from` end before `first`, that one does not, and there are cells for the range's glyphs
pub record MeetsSpan (m : List ℕ) (from first last index : ℕ) (t : List ℕ) (to : ℕ) : Type 0 where
  pub map : GlyphMap 6 m
  pub reached : from ≤ length m / 6
  pub below : (k : ℕ) → k < from → end m k ≤ first
  pub above : from < length m / 6 → first < end m from
  pub order : first ≤ last
  pub small : index + (last + 1 - first) ≤ 65536
  pub room : to + (last + 1 - first) ≤ length t

-- r notes from `to` on are what the map meets in the range; what comes behind it is met as before
pub record InSpan (m : List ℕ) (first last index : ℕ) (t₀ : List ℕ) (to : ℕ) (t : List ℕ) (r : ℕ) : Type 0 where
  pub kept : Kept to t₀ t
  pub few : r ≤ last + 1 - first
  pub noted : (cov : List ℕ) → notes t to r ++ met (in_runs m) (index + (last + 1 - first)) cov ≡ met (in_runs m) index (up_from first (last + 1 - first) ++ cov)

-- what a walk over ranges asks: they lie inside, ascend, and have their indices, the runs are good, and there are cells for the ranges' glyphs
pub record MeetsRanges (s : List ℕ) (at n : ℕ) (m t : List ℕ) (to : ℕ) : Type 0 where
  pub inside : at + 6 * n ≤ length s
  pub ranges : ranges_ascend 0 (triples s at n) ≡ true
  pub indices : ranges_count 0 (triples s at n) ≡ true
  pub map : GlyphMap 6 m
  pub room : to + length (range_glyphs (triples s at n)) ≤ length t

-- what a search through ranges asks: they lie inside and ascend, and the map is good
pub record SeeksRanges (s : List ℕ) (at n form : ℕ) (m : List ℕ) : Type 0 where
  pub inside : at + 6 * n ≤ length s
  pub ranges : ranges_ascend 0 (triples s at n) ≡ true
  pub map : GlyphMap form m
