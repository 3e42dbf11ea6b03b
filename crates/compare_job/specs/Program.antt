-- What the program prints for a compare file.
use Rattle.std.specs.Prelude.{ℕ, cond, List, replicate}
use Rattle.meaning.specs.Subset.{Outcome, left}
use Rattle.meaning.specs.Job.{bytes_of}
use Rattle.differences.specs.Compare.{compare}
use Rattle.compare_file.specs.CompareFile.{kind_in, left_part, right_part, good_file, printed}
use Rattle.compare_job.specs.declared.Answered.{Answered}

-- the comparison of a file, with the lent buffer: 11 for a faulty one, before anything else
unfoldable pub compare_file : List ℕ → List ℕ → Outcome
compare_file f out = cond (good_file f) (compare (kind_in f) (bytes_of f (left_part f)) (bytes_of f (right_part f)) out) (record { number = 11; len = 0; out = out })

-- what is printed of an outcome
unfoldable pub said : Outcome → List ℕ
said r = printed r.number r.len (left r)

-- how many bytes the program lends for the list; a longer list answers 10, with the length needed
unfoldable pub room : ℕ
room = 262144

-- what the program prints for a file; what the lent bytes held before does not matter
unfoldable pub program : List ℕ → List ℕ
program f = said (compare_file f (replicate room 0))

-- an answer, with the buffer as it is left
abbrev pub outcome_of : Answered → List ℕ → Outcome
outcome_of a out = record { number = a.number; len = a.len; out = out }

-- the room that is enough for the text of a list of that many bytes
unfoldable pub text_room : ℕ
text_room = 540800
