-- The text of an answer, line by line.
use Prim.Native.Nat.{ℕ}
use mathlib.Core.Path.{◌≡◌}
use mathlib.Core.List.{List, ◌++◌}
use borrow.Author.Tests.{eq-eqb, ne_eqb}
use Rattle.meaning.specs.Job.{ascii, hex_lines}
use Rattle.report_lines.specs.Text.{Put, line_text}
use Rattle.report_lines.proofs.Writing.{left_all, left_put, left_end}
use Rattle.compare_file.specs.CompareFile.{printed}

-- a refusal, and a list
module _ (number len : ℕ) (list : List ℕ) {text one two : List ℕ} {p q : ℕ} (e : Put text 0 (line_text (ascii "answer ") number) one p) (f : Put one p (line_text (ascii "length ") len) two q) where
  pub text_refused : (number ≡ 0 → ⊥) → Put text 0 (printed number len list) two q
  unfolding printed
  text_refused z = rw (ne_eqb number 0 z) (left_end (left_put {xs = line_text (ascii "answer ") number} {rest = line_text (ascii "length ") len} left_all e) f)

  pub text_listed : number ≡ 0 → {three : List ℕ} {r : ℕ} → Put two q (hex_lines 16 list) three r → Put text 0 (printed number len list) three r
  unfolding printed
  text_listed z g =
      let first = left_put {xs = line_text (ascii "answer ") number} {rest = line_text (ascii "length ") len ++ hex_lines 16 list} left_all e in
      rw (eq-eqb number 0 z) (left_end (left_put {xs = line_text (ascii "length ") len} {rest = hex_lines 16 list} first f) g)
