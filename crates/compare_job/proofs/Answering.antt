-- From the comparison of a file to what is printed of it.
use Prim.Native.Nat.{ℕ, ◌≤◌, ◌<◌}
use mathlib.Core.Path.{◌≡◌, refl, ap, ◌∙◌}
use mathlib.Core.Bool.{Bool, true, false, cond}
use mathlib.Core.List.{List, [], ◌++◌}
use Rattle.std.specs.Prelude.{Result}
use native.Mathlib.Omega.{arith}
use lib.ListN.{length, take, drop, replicate, length-append, length-take}
use lib.Seq.{length-take-le}
use lib.Dec.{eqb}
use borrow.Author.Tests.{ne_eqb}
use Rattle.meaning.specs.Subset.{Outcome, left}
use Rattle.meaning.specs.Job.{ascii, bytes_of, hex_lines}
use Rattle.differences.specs.Compare.{compare}
use Rattle.difference_laws.specs.Answers.{Call, answer, list}
use Rattle.difference_laws.specs.Promises.{kept_is_the_list}
use Rattle.report_lines.specs.Text.{Put, Printable, line_text}
use Rattle.report_lines.specs.Lengths.{line_length, lines_length}
use Rattle.report_lines.proofs.Writing.{put_length}
use Rattle.compare_refusals.specs.Answers.{number_of, length_of, compared_of}
use Rattle.compare_refusals.specs.declared.Refusal.{Refusal}
use Rattle.compare_file.specs.CompareFile.{kind_in, left_part, right_part, good_file, printed}
use Rattle.compare_job.specs.Program.{compare_file, said, room, program, outcome_of, text_room}
use Rattle.compare_job.specs.declared.Answered.{Answered}

module _ (f out : List ℕ) where
  -- the call of a file
  call_of : Call
  call_of = record { kind = kind_in f; left = bytes_of f (left_part f); right = bytes_of f (right_part f); buffer = out }

  -- The comparison of a file that is faulty, and of one that is not.
  pub faulty : good_file f ≡ false → record { number = 11; len = 0; out = out } ≡ compare_file f out
  unfolding compare_file
  faulty h = rw h

  pub compared : good_file f ≡ true → {kind number len : ℕ} {l r after : List ℕ} (a : Result ℕ Refusal) → (kind ≡ kind_in f) × (kind < 65536) → l ≡ bytes_of f (left_part f) → r ≡ bytes_of f (right_part f)
      → (compared_of a after ≡ compare kind l r out) × (length_of a < 0x100_0000_0000_0000) → number ≡ number_of a → len ≡ length_of a → record { number = number; len = len; out = after } ≡ compare_file f out
  unfolding compare_file
  compared h a k l r e n m = rw (n, m, h, ← k.0, ← l, ← r) e.0

  -- a list that is kept lies in the buffer
  kept_within : (c : Call) → (answer c).number ≡ 0 → (answer c).len ≤ length (answer c).out
  kept_within c z =
      let k = kept_is_the_list c z in
      omega (arith, k.0, ap length k.1, length-append (list c) (drop (length (list c)) c.buffer))

  within : (b : Bool) → good_file f ≡ b → (compare_file f out).number ≡ 0 → (compare_file f out).len ≤ length (compare_file f out).out
  unfolding compare_file call_of
  within true h = rw h (kept_within call_of)
  within false h = rw h (λ z. absurd (omega arith))

-- What is printed of a refusal does not depend on the buffer, and that of a list is its bytes.
module _ (number len : ℕ) (out : List ℕ) where
  pub said_refused : (number ≡ 0 → ⊥) → {text after : List ℕ} {r : ℕ} → Put text 0 (printed number len []) after r → Put text 0 (said (record { number = number; len = len; out = out })) after r
  unfolding said printed
  said_refused z k = rw (ne_eqb number 0 z) (rw (ne_eqb number 0 z) at k)

  pub said_listed : {text after : List ℕ} {r : ℕ} → Put text 0 (printed number len (take len out)) after r → Put text 0 (said (record { number = number; len = len; out = out })) after r
  unfolding said
  said_listed k = k

-- how long the text is
said_length : (r : Outcome) → length r.out ≤ 262144 → length (said r) ≤ text_room
unfolding said printed ascii text_room
said_length r h = step (eqb r.number 0)
  where
    step : (b : Bool) → length (cond b (line_text (ascii "answer ") r.number ++ (line_text (ascii "length ") r.len ++ hex_lines 16 (left r))) (line_text (ascii "answer ") r.number ++ line_text (ascii "length ") r.len)) ≤ text_room
    step true =
        simp length-append (omega (arith, line_length (ascii "answer ") r.number, line_length (ascii "length ") r.len, lines_length 16 (left r) (omega arith), length-take r.len r.out))
    step false = simp length-append (omega (arith, line_length (ascii "answer ") r.number, line_length (ascii "length ") r.len))

-- what is printed of the comparison on zeros is what the program prints
program_is : (f lent : List ℕ) → lent ≡ replicate room 0 → said (compare_file f lent) ≡ program f
unfolding program
program_is f lent e = rw e

module _ (f : List ℕ) (a : Answered) {lent result : List ℕ} (zeros : lent ≡ replicate room 0) (ran : outcome_of a result ≡ compare_file f lent) (full : length result ≡ 262144) where
  -- the answer can be printed
  pub printable : Printable a.number a.len result
  printable = record {
    small = omega arith;
    within = λ z. (rw (← ran) at (within f lent (good_file f) refl)) z;
  }

  -- and what is printed of it is what the program prints, for which there is room
  pub answered : {text after : List ℕ} {r : ℕ} → text_room ≤ length text → Put text 0 (said (outcome_of a result)) after r → Put text 0 (program f) after r × (r ≤ length after)
  answered roomy k =
      let p : said (outcome_of a result) ≡ program f = ap said ran ∙ program_is f lent zeros in
      (rw p at k, omega (arith, k.place, put_length k, said_length (outcome_of a result) (omega arith)))

-- a text of that length has room
pub text_roomy : (text : List ℕ) → length text ≡ text_room → text_room ≤ length text
text_roomy text e = omega arith

-- what is printed is a part of the text
pub answered_part : {n : ℕ} (text : List ℕ) → n ≤ length text → n ≡ length (take n text)
answered_part {n} text h = rw (length-take-le n text h)
