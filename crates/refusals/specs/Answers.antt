-- The answers, as the documents' number, length and buffer.
use Rattle.std.specs.Prelude.{ℕ, ◌/◌, ◌%◌, ◌≡◌, refl, List, Result, Ok, Err}
use Rattle.meaning.specs.Subset.{Outcome}
use Rattle.room.specs.Laid.{outcome_of}
use Rattle.room.specs.declared.NotLaid.{NotLaid}
use Rattle.room.specs.declared.NotLaid.TheVariants as laid
use Rattle.refusals.specs.declared.Refusal.{Refusal}
use Rattle.refusals.specs.declared.Refusal.TheVariants.{BadKind, BadForm, BadLayout, BadGlyphs, BadLookups, LongSource, BadFormat, Malformed, Device, PastRule, Nothing, TooBig, NoRoom, BadJob}

-- the documents' number for each answer
abbrev pub number_of : Result ℕ Refusal → ℕ
number_of (Ok n) = 0
number_of (Err BadKind) = 1
number_of (Err BadForm) = 13
number_of (Err BadLayout) = 14
number_of (Err BadGlyphs) = 2
number_of (Err BadLookups) = 3
number_of (Err LongSource) = 4
number_of (Err BadFormat) = 5
number_of (Err (Malformed p)) = 6
number_of (Err Device) = 7
number_of (Err PastRule) = 12
number_of (Err Nothing) = 8
number_of (Err TooBig) = 9
number_of (Err (NoRoom n)) = 10
number_of (Err BadJob) = 11

-- and its length: bytes written, a place, the length needed, or 0
abbrev pub length_of : Result ℕ Refusal → ℕ
length_of (Ok n) = n
length_of (Err BadKind) = 0
length_of (Err BadForm) = 0
length_of (Err BadLayout) = 0
length_of (Err BadGlyphs) = 0
length_of (Err BadLookups) = 0
length_of (Err LongSource) = 0
length_of (Err BadFormat) = 0
length_of (Err (Malformed p)) = p
length_of (Err Device) = 0
length_of (Err PastRule) = 0
length_of (Err Nothing) = 0
length_of (Err TooBig) = 0
length_of (Err (NoRoom n)) = n
length_of (Err BadJob) = 0

-- an answer, with the buffer as it is left
abbrev pub outcome : Result ℕ Refusal → List ℕ → Outcome
outcome a out = record { number = number_of a; len = length_of a; out = out }

-- an answer that is one number, the number times 2^56 plus the length, with the buffer as it is left
abbrev pub decoded : ℕ → List ℕ → Outcome
decoded n out = record { number = n / 0x100_0000_0000_0000; len = n % 0x100_0000_0000_0000; out = out }

-- why a call is refused where nothing was laid
abbrev pub refusal_of : NotLaid → Refusal
refusal_of laid.Nothing = Nothing
refusal_of laid.TooBig = TooBig
refusal_of (laid.NoRoom n) = NoRoom n

-- the answer for what was laid
abbrev pub answer_of : Result ℕ NotLaid → Result ℕ Refusal
answer_of (Err e) = Err (refusal_of e)
answer_of (Ok n) = Ok n

-- it says the same
pub same_outcome : (l : Result ℕ NotLaid) (out : List ℕ) → outcome (answer_of l) out ≡ outcome_of l out
same_outcome (Err laid.Nothing) out = refl
same_outcome (Err laid.TooBig) out = refl
same_outcome (Err (laid.NoRoom n)) out = refl
same_outcome (Ok n) out = refl
