-- The label job: a file with a trailer that points back to table, glyph map and lookup map, and what the program prints for it.
use Rattle.std.specs.Prelude.{ℕ, zero, suc, ◌+◌, ◌-◌, ◌*◌, ◌/◌, ◌%◌, Bool, cond, ◌&&◌, ◌||◌, not, List, [], ◌∷◌, ◌++◌, length, take, drop, replicate, leb, ltb, eqb}
use Prim.Native.Char.{code}
use Prim.Native.String.{String, [] as end, ◌∷◌ as ◌then◌}
use Rattle.meaning.specs.Words.{word}
unfoldable pub use Rattle.meaning.specs.Words.{eq_list}
use Rattle.meaning.specs.Subset.{Outcome, left, refused, limit, subset}

-- the most bytes of a job file
unfoldable pub job_limit : ℕ
job_limit = 65536

-- the number of four bytes whose first stands at `at`
unfoldable pub long : List ℕ → ℕ → ℕ
long f at = word f at * 65536 + word f (at + 2)

-- where the trailer, the last 30 bytes, starts: first the kind, in two bytes, then start and length of each part, in four bytes each, then the tag
unfoldable pub trailer : List ℕ → ℕ
trailer f = length f - 30

-- a part of the file: where it starts and how long it is
pub record Part : Type 0 where
  pub start : ℕ
  pub len : ℕ

-- what the trailer says of the part whose start stands at `at`
unfoldable pub part_at : List ℕ → ℕ → Part
part_at f at = record { start = long f at; len = long f (at + 4) }

-- table, glyph map and lookup map
unfoldable pub table_part : List ℕ → Part
table_part f = part_at f (trailer f + 2)

unfoldable pub glyph_part : List ℕ → Part
glyph_part f = part_at f (trailer f + 10)

unfoldable pub lookup_part : List ℕ → Part
lookup_part f = part_at f (trailer f + 18)

-- a text as its bytes, one for each character, as is so of the plain ones that are used here
unfoldable pub ascii : String → List ℕ
ascii end = []
ascii (c then t) = code c ∷ ascii t

-- the four bytes `LSJ1`, for a glyph map of pairs
unfoldable pub tag : List ℕ
tag = ascii "LSJ1"

-- the four bytes `LSJ2`, for a glyph map of runs
unfoldable pub runs_tag : List ℕ
runs_tag = ascii "LSJ2"

-- a part lies wholly before the trailer; an empty one may start at it
unfoldable pub before : List ℕ → Part → Bool
before f p = leb (p.start + p.len) (trailer f)

-- the file ends in this tag
unfoldable pub ends_in : List ℕ → List ℕ → Bool
ends_in t f = eq_list (drop (length f - 4) f) t

-- the file ends in one of the tags
unfoldable pub tagged : List ℕ → Bool
tagged f = ends_in tag f || ends_in runs_tag f

-- the mark of its glyph map's form
unfoldable pub form_of : List ℕ → ℕ
form_of f = cond (ends_in runs_tag f) 6 4

-- a file of 30 bytes to the limit, which ends in a tag and whose three parts lie wholly before the trailer
unfoldable pub good_job : List ℕ → Bool
good_job f =
    leb 30 (length f) && (leb (length f) job_limit && (tagged f && (before f (table_part f) && (before f (glyph_part f) && before f (lookup_part f)))))

-- the bytes of a part
unfoldable pub bytes_of : List ℕ → Part → List ℕ
bytes_of f p = take p.len (drop p.start f)

-- the job of a file, on a lent buffer: 11 for a faulty file, before anything else, and otherwise the call on the file's kind and parts, for the plain layout
unfoldable pub job : List ℕ → List ℕ → Outcome
unfolding job_limit long trailer ascii part_at table_part glyph_part lookup_part eq_list tag runs_tag before ends_in tagged form_of good_job bytes_of word subset
job f out =
    cond (not (good_job f)) (refused out 11)
    (subset (word f (trailer f)) (form_of f) 0 (bytes_of f (table_part f)) (bytes_of f (glyph_part f)) (bytes_of f (lookup_part f)) out)

-- What the program prints, as bytes.

-- the decimal digits of a number before others, `places` of them at most
unfoldable pub digits : ℕ → ℕ → List ℕ → List ℕ
digits zero n more = more
digits (suc places) n more = cond (ltb n 10) ((48 + n) ∷ more) (digits places (n / 10) ((48 + n % 10) ∷ more))

-- a number in decimal; those that are printed have far fewer than twenty digits
unfoldable pub decimal : ℕ → List ℕ
decimal n = digits 20 n []

-- a number below 16 as a digit, 0 to 9 and a to f
unfoldable pub hex_digit : ℕ → ℕ
hex_digit d = cond (ltb d 10) (48 + d) (87 + d)

abbrev pub newline : ℕ
newline = 10

-- bytes in lower-case hex, 16 a line, where the line that is begun takes `room` more; each line ends in a newline, the last one too
unfoldable pub hex_lines : ℕ → List ℕ → List ℕ
hex_lines room [] = newline ∷ []
hex_lines zero (b ∷ bs) = newline ∷ hex_digit (b / 16) ∷ hex_digit (b % 16) ∷ hex_lines 15 bs
hex_lines (suc room) (b ∷ bs) = hex_digit (b / 16) ∷ hex_digit (b % 16) ∷ hex_lines room bs

-- `kept N` and the N bytes, or `refused` and the number
unfoldable pub printed : Outcome → List ℕ
unfolding ascii digits decimal hex_digit hex_lines
printed r =
    cond (eqb r.number 0) (ascii "kept " ++ (decimal r.len ++ (newline ∷ hex_lines 16 (left r))))
    (ascii "refused " ++ (decimal r.number ++ (newline ∷ [])))

-- how many bytes the program lends for the result
unfoldable pub room : ℕ
room = limit

-- what the program prints for a file; what the lent bytes held before does not matter
unfoldable pub program : List ℕ → List ℕ
unfolding job printed room limit
program f = printed (job f (replicate room 0))
