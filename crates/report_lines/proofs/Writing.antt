-- Text that is written piece by piece.
use Prim.Native.Nat.{ℕ, ◌+◌, ◌≤◌, ◌<◌}
use mathlib.Core.Path.{◌≡◌, refl, ap, ◌∙◌}
use mathlib.Core.List.{List, [], ◌∷◌, ◌++◌}
use native.Mathlib.Numerals.{add-one}
use native.Mathlib.Omega.{arith}
use lib.ListN.{length, get_or, drop, length-append, drop_of_length-le}
use lib.Seq.{sets, length-sets, drop-cons}
use Rattle.laws.specs.Written.{sets_sets}
use Rattle.report_lines.specs.Text.{Put}

-- What is left to write gives, with what stands so far and the place after it, all that is to be written from `at` on.
pub record Left (text₀ : List ℕ) (at : ℕ) (all text : List ℕ) (p : ℕ) (rest : List ℕ) : Type 0 where
  pub place : p + length rest ≡ at + length all
  pub stand : sets text p rest ≡ sets text₀ at all

module _ {text₀ : List ℕ} {at : ℕ} {all : List ℕ} where
  -- before the first piece
  pub left_all : Left text₀ at all text₀ at all
  left_all = record { place = refl; stand = refl }

  -- one piece more
  pub left_put : {text next xs rest : List ℕ} {p q : ℕ} → Left text₀ at all text p (xs ++ rest) → Put text p xs next q → Left text₀ at all next q rest
  left_put {text} {next} {xs} {rest} {p} k h = record {
    place = omega (arith, k.place, h.place, length-append xs rest);
    stand = rw (h.stand, h.place) (sets_sets text p xs rest ∙ k.stand);
  }

  -- the last piece
  pub left_end : {text next xs : List ℕ} {p q : ℕ} → Left text₀ at all text p xs → Put text p xs next q → Put text₀ at all next q
  left_end k h = record { place = omega (arith, k.place, h.place); stand = h.stand ∙ k.stand }

  -- the same, said otherwise
  pub left_said : {text rest other : List ℕ} {p : ℕ} → Left text₀ at all text p rest → rest ≡ other → Left text₀ at all text p other
  left_said k e = rw e at k

  -- nothing is left
  pub left_none : {text : List ℕ} {p : ℕ} → Left text₀ at all text p [] → Put text₀ at all text p
  left_none {p = p} k = record { place = omega (arith, k.place); stand = k.stand }

-- writing leaves the length alone
pub put_length : {before bytes after : List ℕ} {at r : ℕ} → Put before at bytes after r → length after ≡ length before
put_length {before} {bytes} {at = at} k = ap length k.stand ∙ length-sets before at bytes

-- What the loop of `put_text` keeps.
pub record Copying (s text₀ : List ℕ) (at : ℕ) (text : List ℕ) (p i : ℕ) : Type 0 where
  pub within : i ≤ length s
  pub left : Left text₀ at s text p (drop i s)

module _ {s text₀ : List ℕ} {at : ℕ} where
  pub copying_all : Copying s text₀ at text₀ at 0
  copying_all = record { within = omega arith; left = left_all }

  pub copying_turn : {text next : List ℕ} {p q i b : ℕ} → Copying s text₀ at text p i → i < length s → b ≡ get_or s i 0 → Put text p (b ∷ []) next q → Copying s text₀ at next q (i + 1)
  copying_turn {i = i} {b} k h e f = record {
    within = omega arith;
    left = left_put {xs = b ∷ []} (left_said k.left (rw (add-one, e) (drop-cons s i 0 h))) f;
  }

  pub copying_end : {text : List ℕ} {p i : ℕ} → Copying s text₀ at text p i → length s ≤ i → Put text₀ at s text p
  copying_end k h = left_none (left_said k.left (drop_of_length-le s h))

  -- a place that is reached lies within what is written
  pub copying_near : {text : List ℕ} {p i : ℕ} → Copying s text₀ at text p i → p ≤ at + length s
  copying_near k = omega (arith, k.left.place)
