-- The compare file: two subtables anywhere, and a trailer that says their kind and points back to them; and what is printed of an answer.
use Rattle.std.specs.Prelude.{ℕ, ◌+◌, ◌-◌, ◌≡◌, refl, Bool, cond, ◌&&◌, List, ◌++◌, length, leb, eqb}
use Rattle.meaning.specs.Words.{word}
use Rattle.meaning.specs.Job.{Part, long, part_at, ascii, hex_lines}
use Rattle.file_parts.specs.Parts.{ends_by}
use Rattle.report_lines.specs.Text.{line_text}

-- the most bytes of a compare file
unfoldable pub file_limit : ℕ
file_limit = 600000

-- where the trailer, the last 22 bytes, starts: the kind in two bytes, start and length of both subtables in four bytes each, then the tag
unfoldable pub trailer : List ℕ → ℕ
trailer f = length f - 22

-- the kind and the two subtables
unfoldable pub kind_in : List ℕ → ℕ
kind_in f = word f (trailer f)

unfoldable pub left_part : List ℕ → Part
left_part f = part_at f (trailer f + 2)

unfoldable pub right_part : List ℕ → Part
right_part f = part_at f (trailer f + 10)

-- the four bytes `LSC1`, as one number
unfoldable pub tag : ℕ
tag = 0x4C53_4331

tag_is : long (ascii "LSC1") 0 ≡ tag
unfolding tag long ascii word
tag_is = refl

-- a part lies wholly before the trailer; an empty one may start at it
unfoldable pub before : List ℕ → Part → Bool
before f p = ends_by p (trailer f)

-- a file of 22 bytes to the limit, which ends in the tag and whose two subtables lie wholly before the trailer
unfoldable pub good_file : List ℕ → Bool
good_file f = leb 22 (length f) && (leb (length f) file_limit && (eqb (long f (trailer f + 18)) tag && (before f (left_part f) && before f (right_part f))))

-- what is printed of an answer: its number, its length, and with 0 the list
unfoldable pub printed : ℕ → ℕ → List ℕ → List ℕ
printed number len list =
    cond (eqb number 0) (line_text (ascii "answer ") number ++ (line_text (ascii "length ") len ++ hex_lines 16 list))
    (line_text (ascii "answer ") number ++ line_text (ascii "length ") len)
