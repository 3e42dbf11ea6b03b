-- The answer that a number and a length stand for.
use Rattle.std.specs.Prelude.{ℕ, [], ◌∷◌, get_or, Result, Ok, Err}
use Rattle.refusals.specs.declared.Refusal.{Refusal}
use Rattle.refusals.specs.declared.Refusal.TheVariants.{BadKind, BadForm, BadLayout, BadGlyphs, BadLookups, LongSource, BadFormat, Malformed, Device, PastRule, Nothing, TooBig, NoRoom, BadJob}

-- the answer of a number and a length, by a list in the order of the numbers; past its end any will do
unfoldable pub answer_by : ℕ → ℕ → Result ℕ Refusal
answer_by number len = get_or (Ok len ∷ Err BadKind ∷ Err BadGlyphs ∷ Err BadLookups ∷ Err LongSource ∷ Err BadFormat ∷ Err (Malformed len) ∷ Err Device ∷ Err Nothing ∷ Err TooBig ∷ Err (NoRoom len) ∷ Err BadJob ∷ Err PastRule ∷ Err BadForm ∷ Err BadLayout ∷ []) number (Err BadJob)
