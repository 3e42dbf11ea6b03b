-- Where the coverages of a context of format 3 stand.
use Rattle.std.specs.Prelude.{ℕ, ◌+◌, ◌*◌, ◌<◌, ◌≡◌, Bool, true, List, Option, None}
use Rattle.meaning.specs.Words.{word, entries}
use Rattle.meaning.specs.Parts.{coverage, coverage_sound}
use Rattle.meaning.specs.Tables.{Table, reaches, cover_context}
use Rattle.meaning.specs.Fault.{covers_fault}
use Rattle.rules.specs.Parts.{Near}
use Rattle.rules.specs.declared.Row.{Row}
use Rattle.rules.specs.declared.RuleParts.{RuleParts}

-- the coverages that a row of offsets reaches
abbrev pub covers_of : List ℕ → Row → List (Option (List ℕ))
covers_of s row = reaches (coverage s) s 0 row.at row.len

-- each is sound, where it is not null
abbrev pub SoundRow : List ℕ → Row → Type 0
SoundRow s row = (i : ℕ) → i < row.len → (word s (row.at + 2 * i) ≡ 0 → ⊥) → coverage_sound s (word s (row.at + 2 * i)) ≡ true

-- r says where they and the records stand
pub record IsCovers (chained : Bool) (s : List ℕ) (r : RuleParts) : Type 0 where
  pub is : cover_context chained s ≡ Table.by_cover chained (covers_of s r.back) (covers_of s r.input) (covers_of s r.ahead) (entries s r.records.at r.records.len)
  pub count : r.count ≡ r.input.len
  pub sound : covers_fault chained s ≡ None → SoundRow s r.back × SoundRow s r.input × SoundRow s r.ahead
  pub near_back : Near 0 r.back
  pub near_input : Near 0 r.input
  pub near_ahead : Near 0 r.ahead
  pub near_records : Near 0 r.records
