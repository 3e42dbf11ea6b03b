-- Calls with their whole answers, for tables of rows that are decided by computation.
use Rattle.std.specs.Prelude.{ℕ, ◌+◌, ◌*◌, List, [], ◌++◌, length, replicate}
use Rattle.meaning.specs.Words.{flat}
use Rattle.meaning.specs.Subset.{subset, Outcome}

-- a call on a buffer of `room` sevens, and what it gives: its number, its length, the words that it writes, and how many sevens stay
pub record Row : Type 0 where
  pub kind : ℕ
  pub source : List ℕ
  pub glyphs : List ℕ
  pub lookups : List ℕ
  pub room : ℕ
  pub number : ℕ
  pub len : ℕ
  pub written : List ℕ
  pub left : ℕ

-- the call of a row with these two marks: of its glyph map's form, and of the layout
abbrev pub call_in : ℕ → ℕ → Row → Outcome
call_in form packing r = subset r.kind form packing r.source (flat r.glyphs) (flat r.lookups) (replicate r.room 7)

-- the call of a row with a glyph map of pairs, for the plain layout
abbrev pub call : Row → Outcome
call r = call_in 4 0 r

-- the outcome that a row states
abbrev pub stated : Row → Outcome
stated r = record { number = r.number; len = r.len; out = flat r.written ++ replicate r.left 7 }

-- a row whose answer is `kept`, with these words, in a buffer that has three bytes to spare
abbrev pub kept : ℕ → List ℕ → List ℕ → List ℕ → List ℕ → Row
kept kind source glyphs lookups words =
    record { kind = kind; source = source; glyphs = glyphs; lookups = lookups; room = 2 * length words + 3; number = 0; len = 2 * length words; written = words; left = 3 }

-- a row whose answer is a refusal with this number: length 0, and a buffer of sixteen bytes untouched
abbrev pub refuses : ℕ → List ℕ → List ℕ → List ℕ → ℕ → Row
refuses kind source glyphs lookups number =
    record { kind = kind; source = source; glyphs = glyphs; lookups = lookups; room = 16; number = number; len = 0; written = []; left = 16 }

-- a row whose answer is 6, malformed, with the place of the lowest faulty part
abbrev pub faulty : ℕ → List ℕ → List ℕ → List ℕ → ℕ → Row
faulty kind source glyphs lookups place =
    record { kind = kind; source = source; glyphs = glyphs; lookups = lookups; room = 16; number = 6; len = place; written = []; left = 16 }
