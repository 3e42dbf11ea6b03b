-- The whole text of an answer, from its pieces.
use Prim.Native.Nat.{ℕ, ◌-◌}
use mathlib.Core.Path.{◌≡◌, ◌∙◌}
use mathlib.Core.List.{List, [], ◌∷◌, ◌++◌}
use native.Mathlib.Omega.{arith}
use lib.ListN.{length, take, drop, length-drop}
use lib.Seq.{take_all, length-take-le}
use borrow.Author.Tests.{eq-eqb, ne_eqb}
use Rattle.meaning.specs.Job.{ascii, digits, decimal, newline, hex_lines, printed}
use Rattle.report_lines.specs.Text.{Put, Spelled, Printable, line_text, kept_text}
use Rattle.report_lines.proofs.Writing.{left_all, left_put, left_end}

-- the part of the twenty bytes that holds the digits
pub spelled_part : {n : ℕ} {small : List ℕ} {first : ℕ} → Spelled n small first → take (20 - first) (drop first small) ≡ decimal n
spelled_part {small = small} {first} k = take_all (20 - first) (drop first small) (omega (arith, length-drop first small, k.long)) ∙ k.digits

module _ {text one two three : List ℕ} {p q r : ℕ} where
  -- the four pieces of what is kept
  pub kept_whole : (bs : List ℕ) {four : List ℕ} {s : ℕ} → Put text 0 (ascii "kept ") one p → Put one p (decimal (length bs)) two q → Put two q (newline ∷ []) three r
      → Put three r (hex_lines 16 bs) four s → Put text 0 (kept_text bs) four s
  unfolding kept_text
  kept_whole bs a b c d =
      let x = left_put {xs = ascii "kept "} {rest = decimal (length bs) ++ (newline ∷ hex_lines 16 bs)} left_all a in
      let y = left_put {xs = decimal (length bs)} {rest = newline ∷ hex_lines 16 bs} x b in
      left_end (left_put {xs = newline ∷ []} y c) d

  -- the three pieces of a line
  pub line_whole : (at : ℕ) (word : List ℕ) (n : ℕ) → Put text at word one p → Put one p (decimal n) two q → Put two q (newline ∷ []) three r → Put text at (line_text word n) three r
  unfolding line_text
  line_whole at word n a b c =
      let x = left_put {xs = word} {rest = decimal n ++ (newline ∷ [])} left_all a in
      left_end (left_put {xs = decimal n} x b) c

module _ {number len : ℕ} {out : List ℕ} (h : Printable number len out) where
  -- the bytes that are kept are as many as the length says
  pub kept_length : number ≡ 0 → length (take len out) ≡ len
  kept_length z = length-take-le len out (h.within z)

  -- the text of what is kept, and of a refusal, is what is printed
  pub printed_kept : {text after : List ℕ} {r : ℕ} → number ≡ 0 → Put text 0 (kept_text (take len out)) after r → Put text 0 (printed (record { number = number; len = len; out = out })) after r
  unfolding kept_text printed
  printed_kept z k = rw (eq-eqb number 0 z) (rw (kept_length z) at k)

  pub printed_refused : {text after : List ℕ} {r : ℕ} → (number ≡ 0 → ⊥) → Put text 0 (line_text (ascii "refused ") number) after r → Put text 0 (printed (record { number = number; len = len; out = out })) after r
  unfolding line_text printed
  printed_refused z k = rw (ne_eqb number 0 z) k
