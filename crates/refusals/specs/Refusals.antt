-- What the tests before the cut say.
use Rattle.std.specs.Prelude.{ℕ, ◌≡◌, List, Err}
use Rattle.meaning.specs.Maps.{map_entries, glyph_entries}
use Rattle.meaning.specs.Tables.{table}
use Rattle.meaning.specs.Cut.{cut}
use Rattle.meaning.specs.Subset.{written_in, subset}
use Rattle.cut_sizes.specs.Cutting as cutting
use Rattle.refusals.specs.Answers.{outcome}
use Rattle.refusals.specs.declared.Refusal.{Refusal}

-- no test refuses: the source can be cut, and what comes of that is the call's outcome
pub record Passes (kind form layout : ℕ) (s g l : List ℕ) : Type 0 where
  pub sound : cutting.Sound kind form s g l
  pub outcomes : (out : List ℕ) → written_in layout out (cut (glyph_entries form g) (map_entries l) (table kind s)) ≡ subset kind form layout s g l out

-- the refusal is the call's answer, whatever the buffer
abbrev pub Refuses : (kind form layout : ℕ) (s g l : List ℕ) → Refusal → Type 0
Refuses kind form layout s g l r = (out : List ℕ) → outcome (Err r) out ≡ subset kind form layout s g l out
