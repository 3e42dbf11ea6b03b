-- What the walks over a coverage and a map ask and answer.
use Rattle.std.specs.Prelude.{ℕ, ◌+◌, ◌-◌, ◌*◌, ◌/◌, ◌≤◌, ◌<◌, ◌≡◌, true, cond, List, [], ◌∷◌, length, ltb}
use Rattle.meaning.specs.Words.{word, words, entries, triples, keys, ascends}
use Rattle.meaning.specs.Maps.{map_entries}
use Rattle.meaning.specs.Parts.{ranges_ascend, ranges_count, coverage_sound}
use Rattle.cell_maps.specs.Cells.{folded, Inside, Kept}
use Rattle.cell_maps.specs.declared.Map.{Map}
use Rattle.area.specs.Part.{notes}
use Rattle.range_meets.specs.Met.{met}

-- the entries of a map from the e-th on
abbrev pub rest : List ℕ → ℕ → List (ℕ × ℕ)
rest m e = entries m (0 + 4 * e) (length m / 4 - e)

-- r is the first entry from `from` on whose old number is v or more
pub record Reached (m : List ℕ) (from v r : ℕ) : Type 0 where
  pub least : from ≤ r
  pub most : r ≤ length m / 4
  pub below : (k : ℕ) → from ≤ k → k < r → word m (4 * k) < v
  pub above : r < length m / 4 → v ≤ word m (4 * r)

-- of entries that ascend, those up to z: each as its index in a coverage, where the glyph a has the index x, and its new number
unfoldable pub up_to : ℕ → ℕ → ℕ → List (ℕ × ℕ) → List (ℕ × ℕ)
up_to a z x [] = []
up_to a z x ((o, n) ∷ es) = cond (ltb z o) [] ((x + (o - a), n) ∷ up_to a z x es)

-- and the others
unfoldable pub past : ℕ → List (ℕ × ℕ) → List (ℕ × ℕ)
past z [] = []
past z ((o, n) ∷ es) = cond (ltb z o) ((o, n) ∷ es) (past z es)

-- what a walk over the entries in a range asks: they ascend from the range's first glyph on, and there are cells for them
pub record MeetsRange (m : List ℕ) (from first index : ℕ) (t : List ℕ) (to : ℕ) : Type 0 where
  pub start : from ≤ length m / 4
  pub ascend : ascends (keys (map_entries m)) ≡ true
  pub low : from < length m / 4 → first ≤ word m (4 * from)
  pub small : index ≤ first
  pub room : to + (length m / 4 - from) ≤ length t

-- r entries from `from` on lie in the range, and are noted from `to` on
pub record InRange (m : List ℕ) (from first last index : ℕ) (t₀ : List ℕ) (to : ℕ) (t : List ℕ) (r : ℕ) : Type 0 where
  pub kept : Kept to t₀ t
  pub within : from + r ≤ length m / 4
  pub noted : notes t to r ≡ up_to first last index (rest m from)
  pub after : rest m (from + r) ≡ past last (rest m from)

-- what a walk over ranges asks: they lie inside, ascend, and have their indices, the old numbers of the map ascend, and there are cells for them
pub record MeetsRanges (s : List ℕ) (at n : ℕ) (m t : List ℕ) (to : ℕ) : Type 0 where
  pub inside : at + 6 * n ≤ length s
  pub ranges : ranges_ascend 0 (triples s at n) ≡ true
  pub indices : ranges_count 0 (triples s at n) ≡ true
  pub ascend : ascends (keys (map_entries m)) ≡ true
  pub room : to + length m / 4 ≤ length t

-- what a walk over listed glyphs asks: they lie inside, the map's cells lie before `to`, and from there on is one cell more than glyphs that are met
pub record MeetsList (s : List ℕ) (at n : ℕ) (m : Map) (t : List ℕ) (to : ℕ) : Type 0 where
  pub inside : at + 2 * n ≤ length s
  pub count : n ≤ 65536
  pub cells : Inside t m
  pub behind : m.at + m.mask < to
  pub room : to + length (met (folded t m) 0 (words s at n)) < length t

-- what a walk over the entries asks: the coverage is sound, the old numbers of the map ascend, and there are cells for them
pub record MeetsEntries (s : List ℕ) (at : ℕ) (m t : List ℕ) (to : ℕ) : Type 0 where
  pub sound : coverage_sound s at ≡ true
  pub ascend : ascends (keys (map_entries m)) ≡ true
  pub room : to + length m / 4 ≤ length t
