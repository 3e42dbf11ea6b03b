-- The replay file: parts anywhere, and a trailer that points back to the list, the buffer and the trace; and what the program prints for it.
use Rattle.std.specs.Prelude.{ℕ, ◌+◌, ◌-◌, ◌*◌, ◌≡◌, refl, Bool, cond, ◌&&◌, List, [], ◌∷◌, ◌++◌, length, leb, eqb}
use Rattle.meaning.specs.Words.{word}
use Rattle.meaning.specs.Job.{Part, long, part_at, bytes_of, ascii}
use Rattle.replaying.specs.Replay.{Replayed, refusing, replay}
use Rattle.replaying.specs.Cost.{replay_cost}
use Rattle.file_parts.specs.Parts.{ends_by}
use Rattle.report_lines.specs.Text.{line_text}

-- the most bytes of a replay file
unfoldable pub file_limit : ℕ
file_limit = 500000

-- where the trailer, the last 28 bytes, starts: start and length of list, buffer and trace, in four bytes each, then the tag
unfoldable pub trailer : List ℕ → ℕ
trailer f = length f - 28

-- list, buffer and trace
unfoldable pub list_part : List ℕ → Part
list_part f = part_at f (trailer f)

unfoldable pub buffer_part : List ℕ → Part
buffer_part f = part_at f (trailer f + 8)

unfoldable pub trace_part : List ℕ → Part
trace_part f = part_at f (trailer f + 16)

-- the four bytes `LSR1`, as one number
unfoldable pub tag : ℕ
tag = 0x4C53_5231

tag_is : long (ascii "LSR1") 0 ≡ tag
unfolding tag long ascii word
tag_is = refl

-- a part lies wholly before the trailer; an empty one may start at it
unfoldable pub before : List ℕ → Part → Bool
before f p = ends_by p (trailer f)

-- a file of 28 bytes to the limit, which ends in the tag and whose three parts lie wholly before the trailer
unfoldable pub good_file : List ℕ → Bool
good_file f =
    leb 28 (length f) && (leb (length f) file_limit && (eqb (long f (trailer f + 24)) tag && (before f (list_part f) && (before f (buffer_part f) && before f (trace_part f)))))

-- the replay of a file: 11 for a faulty one, before anything else
unfoldable pub replay_file : List ℕ → Replayed
replay_file f = cond (good_file f) (replay (bytes_of f (list_part f)) (bytes_of f (buffer_part f)) (bytes_of f (trace_part f))) (refusing (11, 0))

-- the lines that are printed: the answer's number and place, and the tally, which counts with 18 too
unfoldable pub printed : Replayed → List ℕ
printed r =
    line_text (ascii "answer ") r.number
    ++ (line_text (ascii "place ") r.place
    ++ (line_text (ascii "runs ") r.tally.runs
    ++ (line_text (ascii "agreed ") r.tally.agreements
    ++ line_text (ascii "first ") r.tally.first)))

-- a file whose trace is empty asks what its list may cost
unfoldable pub asks_cost : List ℕ → Bool
asks_cost f = good_file f && eqb (trace_part f).len 0

-- the steps of a file's list
unfoldable pub file_steps : List ℕ → ℕ
file_steps f = (replay_cost (bytes_of f (list_part f)) (bytes_of f (buffer_part f))).steps

-- the line that is printed for such a file besides
unfoldable pub cost_text : List ℕ → List ℕ
cost_text f = cond (asks_cost f) (line_text (ascii "steps ") (file_steps f)) []

-- what the program prints for a file
unfoldable pub program : List ℕ → List ℕ
program f = printed (replay_file f) ++ cost_text f
