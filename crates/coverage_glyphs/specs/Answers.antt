-- What the readers of a coverage ask and answer.
use Rattle.std.specs.Prelude.{ℕ, ◌+◌, ◌*◌, ◌≤◌, ◌<◌, ◌≡◌, true, List, length, get_or}
use Rattle.meaning.specs.Words.{triples}
use Rattle.meaning.specs.Parts.{ranges_ascend, ranges_count}

-- r is the number of these glyphs; there are at most 65,536
pub record Counts (gs : List ℕ) (r : ℕ) : Type 0 where
  pub number : r ≡ length gs
  pub small : r ≤ 65536

-- r is the i-th of these glyphs, and a word
pub record Gives (gs : List ℕ) (i r : ℕ) : Type 0 where
  pub glyph : r ≡ get_or gs i 0
  pub small : r < 65536

-- n ranges from `at` on are sound: they lie inside, ascend without overlap, and each index is the number of glyphs before its range
pub record SoundRanges (s : List ℕ) (at n : ℕ) : Type 0 where
  pub fits : at + 6 * n ≤ length s
  pub ascend : ranges_ascend 0 (triples s at n) ≡ true
  pub count : ranges_count 0 (triples s at n) ≡ true
