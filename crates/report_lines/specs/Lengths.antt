-- How long a text can be.
use Rattle.std.specs.Prelude.{ℕ, zero, suc, min, ◌+◌, ◌*◌, ◌/◌, ◌%◌, ◌≤◌, ◌≡◌, Bool, true, false, cond, List, [], ◌∷◌, ◌++◌, length, take, ltb, eqb}
use Rattle.std.proofs.Common.{arith, length-append, length-take}
use Rattle.meaning.specs.Subset.{Outcome, left}
use Rattle.meaning.specs.Job.{ascii, digits, decimal, newline, hex_lines, printed}
use Rattle.report_lines.specs.Text.{Put, line_text}

-- digits are as many as the places at most
places : (k n : ℕ) (more : List ℕ) → length (digits k n more) ≤ k + length more
unfolding digits
places zero n more = omega arith
places (suc k) n more = step (ltb n 10) (places k (n / 10) ((48 + n % 10) ∷ more))
  where
    step : (b : Bool) → length (digits k (n / 10) ((48 + n % 10) ∷ more)) ≤ k + suc (length more) → length (cond b ((48 + n) ∷ more) (digits k (n / 10) ((48 + n % 10) ∷ more))) ≤ suc k + length more
    step true h = omega arith
    step false h = omega arith

-- a number in decimal has twenty digits at most
pub decimal_length : (n : ℕ) → length (decimal n) ≤ 20
unfolding decimal
decimal_length n = omega (arith, places 20 n [])

-- how long a line is
pub line_length : (word : List ℕ) (n : ℕ) → length (line_text word n) ≤ length word + 21
unfolding line_text
line_length word n = simp length-append (omega (arith, decimal_length n))

-- a line ends near its start
pub line_near : {text next : List ℕ} {at r : ℕ} (word : List ℕ) (n : ℕ) → Put text at (line_text word n) next r → r ≤ at + length word + 21
line_near word n k = omega (arith, k.place, line_length word n)

-- how long the lines are: two digits a byte, and a newline for each 16 of them
pub lines_length : (room : ℕ) (bs : List ℕ) → room ≤ 16 → 16 * length (hex_lines room bs) + room ≤ 33 * length bs + 32
unfolding hex_lines
lines_length room [] h = omega arith
lines_length zero (b ∷ bs) h = omega (arith, lines_length 15 bs (omega arith))
lines_length (suc room) (b ∷ bs) h = omega (arith, lines_length room bs (omega arith))

-- the room that is enough for the text of a buffer of 262,144 bytes
unfoldable pub text_room : ℕ
text_room = 540700

pub printed_length : (r : Outcome) → length r.out ≤ 262144 → length (printed r) ≤ text_room
unfolding printed ascii text_room
printed_length r h = step (eqb r.number 0)
  where
    step : (b : Bool) → length (cond b (ascii "kept " ++ (decimal r.len ++ (newline ∷ hex_lines 16 (left r)))) (ascii "refused " ++ (decimal r.number ++ (newline ∷ [])))) ≤ text_room
    step true =
        simp length-append (omega (arith, decimal_length r.len, lines_length 16 (left r) (omega arith), length-take r.len r.out))
    step false = simp length-append (omega (arith, decimal_length r.number))
