-- Where the parts of a context by coverages stand.
use Rattle.std.specs.Prelude.{ℕ, ◌+◌, ◌*◌, ◌≤◌, ◌<◌, ◌≡◌, Bool, true, false, List, length, Option}
use Rattle.meaning.specs.Words.{entries}
use Rattle.meaning.specs.Parts.{coverage}
use Rattle.meaning.specs.Tables.{Table, reaches, cover_context}
use Rattle.cover_parts.specs.Rows.{SoundRow}
use Rattle.cover_parts.specs.declared.Row.{Row}
use Rattle.cover_parts.specs.declared.CoverParts.{CoverParts}

-- the coverages that a row of offsets reaches
abbrev pub covers_at : List ℕ → Row → List (Option (List ℕ))
covers_at s r = reaches (coverage s) s 0 r.at r.len

-- the records of a row
abbrev pub records_at : List ℕ → Row → List (ℕ × ℕ)
records_at s r = entries s r.at r.len

-- where a plain context has its input and its records, and where a chained one has each part after the one before it, with its count
pub record Plain (r : CoverParts) : Type 0 where
  pub back : r.back.len ≡ 0
  pub input : r.input.at ≡ 6
  pub ahead : r.ahead.len ≡ 0
  pub records : r.records.at ≡ 6 + 2 * r.input.len

pub record Chained (r : CoverParts) : Type 0 where
  pub back : r.back.at ≡ 4
  pub input : r.input.at ≡ 6 + 2 * r.back.len
  pub ahead : r.ahead.at ≡ r.input.at + 2 * r.input.len + 2
  pub records : r.records.at ≡ r.ahead.at + 2 * r.ahead.len + 2

-- its counts are words
pub record Few (r : CoverParts) : Type 0 where
  pub back : r.back.len < 65536
  pub input : r.input.len < 65536
  pub ahead : r.ahead.len < 65536
  pub records : r.records.len < 65536

-- r says where the parts of the context stand, and they are sound
pub record IsContext (chained : Bool) (s : List ℕ) (r : CoverParts) : Type 0 where
  pub table : cover_context chained s ≡ Table.by_cover chained (covers_at s r.back) (covers_at s r.input) (covers_at s r.ahead) (records_at s r.records)
  pub back : SoundRow s r.back
  pub input : SoundRow s r.input
  pub ahead : SoundRow s r.ahead
  pub records : r.records.at + 4 * r.records.len ≤ length s
  pub few : Few r
  pub plain : chained ≡ false → Plain r
  pub chain : chained ≡ true → Chained r
