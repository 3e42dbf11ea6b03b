-- The text of an answer, line by line.
use Prim.Native.Nat.{ℕ, ◌+◌, ◌≤◌, ◌<◌}
use mathlib.Core.Path.{◌≡◌, refl}
use mathlib.Core.Bool.{Bool, true, false, cond}
use mathlib.Core.List.{List, [], ◌++◌}
use native.Mathlib.Omega.{arith}
use lib.ListN.{length, take, length-append}
use lib.Seq.{length-take-le}
use Rattle.meaning.specs.Job.{ascii}
use Rattle.replaying.specs.Replay.{Replayed}
use Rattle.report_lines.specs.Text.{Put, line_text}
use Rattle.report_lines.specs.Lengths.{line_length}
use Rattle.report_lines.proofs.Writing.{left_all, left_put, left_end, put_length}
use Rattle.replay_job.specs.ReplayFile.{replay_file, printed, asks_cost, file_steps, cost_text, program}

-- the five lines of an answer
pub lines_whole : (a : Replayed) {text one two three four five : List ℕ} {p q r s k : ℕ} → Put text 0 (line_text (ascii "answer ") a.number) one p
    → Put one p (line_text (ascii "place ") a.place) two q
    → Put two q (line_text (ascii "runs ") a.tally.runs) three r
    → Put three r (line_text (ascii "agreed ") a.tally.agreements) four s
    → Put four s (line_text (ascii "first ") a.tally.first) five k
    → Put text 0 (printed a) five k
unfolding printed
lines_whole a e f g h i =
    let x4 = line_text (ascii "first ") a.tally.first in
    let x3 = line_text (ascii "agreed ") a.tally.agreements ++ x4 in
    let x2 = line_text (ascii "runs ") a.tally.runs ++ x3 in
    let x1 = line_text (ascii "place ") a.place ++ x2 in
    let l1 = left_put {xs = line_text (ascii "answer ") a.number} {rest = x1} left_all e in
    let l2 = left_put {xs = line_text (ascii "place ") a.place} {rest = x2} l1 f in
    let l3 = left_put {xs = line_text (ascii "runs ") a.tally.runs} {rest = x3} l2 g in
    left_end (left_put {xs = line_text (ascii "agreed ") a.tally.agreements} {rest = x4} l3 h) i

printed_length : (a : Replayed) → length (printed a) ≤ 160
unfolding printed ascii
printed_length a =
    simp length-append
    (omega (arith, line_length (ascii "answer ") a.number, line_length (ascii "place ") a.place, line_length (ascii "runs ") a.tally.runs, line_length (ascii "agreed ") a.tally.agreements, line_length (ascii "first ") a.tally.first))

-- the five lines end near their start
pub printed_near : (a : Replayed) {text next : List ℕ} {r : ℕ} → Put text 0 (printed a) next r → r < 0x1_0000
printed_near a k = omega (arith, k.place, printed_length a)

-- the line with the cost
module _ (f : List ℕ) where
  pub cost_none : asks_cost f ≡ false → {text : List ℕ} {at : ℕ} → Put text at (cost_text f) text at
  unfolding cost_text
  cost_none h {at = at} = rw h (record { place = omega arith; stand = refl })

  pub cost_put : asks_cost f ≡ true → {text next : List ℕ} {at n r : ℕ} → n ≡ file_steps f → Put text at (line_text (ascii "steps ") n) next r → Put text at (cost_text f) next r
  unfolding cost_text
  cost_put h e k = rw (h, ← e) k

cost_length : (f : List ℕ) → length (cost_text f) ≤ 27
unfolding cost_text ascii
cost_length f = step (asks_cost f)
  where
    step : (b : Bool) → length (cond b (line_text (ascii "steps ") (file_steps f)) []) ≤ 27
    step true = omega (arith, line_length (ascii "steps ") (file_steps f))
    step false = omega arith

-- what is printed for a file, and that there is room for it
pub answered : (f : List ℕ) {a : Replayed} {text one after : List ℕ} {p r : ℕ} → 192 ≤ length text → a ≡ replay_file f → Put text 0 (printed a) one p → Put one p (cost_text f) after r
    → Put text 0 (program f) after r × (r ≤ length after)
unfolding program
answered f {a} roomy e k h =
    let whole = left_end (left_put {xs = printed a} {rest = cost_text f} left_all k) h in
    (rw (← e) whole, omega (arith, roomy, k.place, h.place, printed_length a, cost_length f, put_length k, put_length h))

-- what is printed is a part of the text
pub answered_part : {n : ℕ} (text : List ℕ) → n ≤ length text → n ≡ length (take n text)
answered_part {n} text h = rw (length-take-le n text h)
