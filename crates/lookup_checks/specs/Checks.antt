-- What the checks of lookups say.
use Rattle.std.specs.Prelude.{ℕ, Option, None, Some, Result, Ok, Err}
use Rattle.lookup_checks.specs.declared.LookupRefusal.{LookupRefusal}
use Rattle.lookup_checks.specs.declared.LookupRefusal.TheVariants.{LongSource, BadFormat, Malformed, PastRule}

-- the documents' number for each refusal
abbrev pub number_of : LookupRefusal → ℕ
number_of LongSource = 4
number_of BadFormat = 5
number_of (Malformed p) = 6
number_of PastRule = 12

-- and its place
abbrev pub place_of : LookupRefusal → ℕ
place_of LongSource = 0
place_of BadFormat = 0
place_of (Malformed p) = p
place_of PastRule = 0

-- the number and the place of the refusal that an answer gives, if it gives one
abbrev pub refusal_by : Result (Unit {0}) LookupRefusal → Option (ℕ × ℕ)
refusal_by (Err r) = Some (number_of r, place_of r)
refusal_by (Ok x) = None
