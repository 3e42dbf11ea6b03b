-- Bytes in hex, 16 a line.
use Prim.Native.Nat.{ℕ, zero, suc, ◌+◌, ◌-◌, ◌*◌, ◌/◌, ◌%◌, ◌≤◌, ◌<◌}
use mathlib.Core.Path.{◌≡◌, refl, ap}
use mathlib.Core.List.{List, [], ◌∷◌, ◌++◌}
use native.Mathlib.Numerals.{add-one}
use native.Mathlib.Omega.{arith}
use lib.ListN.{length, get_or, drop, drop_of_length-le}
use lib.Seq.{drop-cons}
use Rattle.meaning.specs.Job.{hex_digit, hex_lines, newline}
use Rattle.report_lines.specs.Text.{Put}
use Rattle.report_lines.specs.Lengths.{lines_length}
use Rattle.report_lines.proofs.Writing.{Left, left_all, left_put, left_said, left_end}

-- a full line ends, and the next one takes 16
line_full : (b : ℕ) (bs : List ℕ) → hex_lines 0 (b ∷ bs) ≡ newline ∷ hex_lines 16 (b ∷ bs)
unfolding hex_lines
line_full b bs = refl

-- a line with room takes a byte
line_takes : (room b : ℕ) (bs : List ℕ) → 0 < room → hex_lines room (b ∷ bs) ≡ hex_digit (b / 16) ∷ hex_digit (b % 16) ∷ hex_lines (room - 1) bs
unfolding hex_lines
line_takes zero b bs h = absurd (omega arith)
line_takes (suc room) b bs h =
    let e : suc room - 1 ≡ room = omega arith in
    rw e

-- What the loop of `put_lines` keeps.
pub record Lining (bs text₀ : List ℕ) (at : ℕ) (text : List ℕ) (p room i : ℕ) : Type 0 where
  pub within : i ≤ length bs
  pub narrow : room ≤ 16
  pub left : Left text₀ at (hex_lines 16 bs) text p (hex_lines room (drop i bs))

module _ {bs text₀ : List ℕ} {at : ℕ} where
  pub lining_all : Lining bs text₀ at text₀ at 16 0
  lining_all = record { within = omega arith; narrow = omega arith; left = left_all }

  module _ {text next : List ℕ} {p q room i : ℕ} where
    -- a line is full
    pub lining_line : Lining bs text₀ at text p room i → i < length bs → room ≡ 0 → Put text p (newline ∷ []) next q → Lining bs text₀ at next q 16 i
    lining_line k h z f =
        let e : hex_lines room (drop i bs) ≡ (newline ∷ []) ++ hex_lines 16 (drop i bs) =
        rw (z, drop-cons bs i 0 h) (line_full (get_or bs i 0) (drop (suc i) bs))
        in
        record { within = k.within; narrow = omega arith; left = left_put {xs = newline ∷ []} (left_said k.left e) f }

    -- one byte more
    pub lining_byte : {b : ℕ} → Lining bs text₀ at text p room i → i < length bs → (room ≡ 0 → ⊥) → b ≡ get_or bs i 0 → Put text p (hex_digit (b / 16) ∷ hex_digit (b % 16) ∷ []) next q
        → Lining bs text₀ at next q (room - 1) (i + 1)
    lining_byte {b} k h z e f =
        let t : hex_lines room (drop i bs) ≡ (hex_digit (b / 16) ∷ hex_digit (b % 16) ∷ []) ++ hex_lines (room - 1) (drop (i + 1) bs) =
        rw (add-one, e, drop-cons bs i 0 h) (line_takes room (get_or bs i 0) (drop (suc i) bs) (omega arith))
        in
        record { within = omega arith; narrow = omega (arith, k.narrow); left = left_put {xs = hex_digit (b / 16) ∷ hex_digit (b % 16) ∷ []} (left_said k.left t) f }

  -- the last line ends
  pub lining_end : {text next : List ℕ} {p q room i : ℕ} → Lining bs text₀ at text p room i → length bs ≤ i → Put text p (newline ∷ []) next q → Put text₀ at (hex_lines 16 bs) next q
  unfolding hex_lines
  lining_end {room = room} k h f = left_end (left_said k.left (ap (hex_lines room) (drop_of_length-le bs h))) f

  -- a place that is reached lies near
  pub lining_near : {text : List ℕ} {p room i : ℕ} → Lining bs text₀ at text p room i → p ≤ at + 3 * length bs + 2
  lining_near k = omega (arith, k.left.place, lines_length 16 bs (omega arith))
