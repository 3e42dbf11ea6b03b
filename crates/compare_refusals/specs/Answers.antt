-- The answers, as the documents' number, length and buffer.
use Rattle.std.specs.Prelude.{ℕ, ◌/◌, ◌%◌, List, Option, None, Some, Result, Ok, Err}
use Rattle.meaning.specs.Subset.{Outcome}
use Rattle.differences.specs.Compare.{Refusal as RefusalOf}
use Rattle.compare_refusals.specs.declared.Refusal.{Refusal}
use Rattle.compare_refusals.specs.declared.Refusal.TheVariants.{BadKind, LongSource, BadFormat, Malformed, Device, NoRoom}

-- the documents' number for each answer
abbrev pub number_of : Result ℕ Refusal → ℕ
number_of (Ok n) = 0
number_of (Err BadKind) = 1
number_of (Err LongSource) = 4
number_of (Err BadFormat) = 5
number_of (Err (Malformed p)) = 6
number_of (Err Device) = 7
number_of (Err (NoRoom n)) = 10

-- and its length: bytes written, a place, the length needed, or 0
abbrev pub length_of : Result ℕ Refusal → ℕ
length_of (Ok n) = n
length_of (Err BadKind) = 0
length_of (Err LongSource) = 0
length_of (Err BadFormat) = 0
length_of (Err (Malformed p)) = p
length_of (Err Device) = 0
length_of (Err (NoRoom n)) = n

-- an answer, with the buffer as it is left
abbrev pub compared_of : Result ℕ Refusal → List ℕ → Outcome
compared_of a out = record { number = number_of a; len = length_of a; out = out }

-- an answer that is one number, the number times 2^56 plus the length, with the buffer as it is left
abbrev pub decoded : ℕ → List ℕ → Outcome
decoded n out = record { number = n / 0x100_0000_0000_0000; len = n % 0x100_0000_0000_0000; out = out }

-- the refusal that the tests give, if they give one
abbrev pub refusal_of : Result (Unit {0}) Refusal → Option RefusalOf
refusal_of (Err r) = Some (record { number = number_of (Err r); len = length_of (Err r) })
refusal_of (Ok _) = None
