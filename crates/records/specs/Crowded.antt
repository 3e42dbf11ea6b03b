-- How many members the sets of a table have together. A member that is not shared and has a number after the first, or a record, takes eight bytes or more with its offset.
use Rattle.std.specs.Prelude.{ℕ, ◌+◌, ◌-◌, ◌*◌, ◌≤◌, ◌<◌, ◌≡◌, refl, Bool, true, false, ◌&&◌, List, [], ◌∷◌, length, leb, ltb}
use native.Mathlib.Omega.{arith}
use Rattle.std.proofs.Common.{leb-true, le-leb}
use Rattle.std.proofs.lemmas.Bool.{lt-leb}
use Rattle.meaning.specs.Words.{word, words}
use Rattle.laws.specs.Left.{words_left_lem, words_all, words_none}
use Rattle.laws.specs.Runs.{both}

-- how many members the sets at these places have: each place has their number
unfoldable pub members_at : List ℕ → List ℕ → ℕ
members_at s [] = 0
members_at s (p ∷ ps) = word s p + members_at s ps

-- the n sets whose offsets stand from `slot` on have more than one member for each eight bytes of a source of 1,024 to 262,144 bytes
abbrev pub crowds : List ℕ → ℕ → ℕ → Bool
crowds s slot n = leb 1024 (length s) && (leb (length s) 262144 && ltb (length s) (8 * members_at s (words s slot n)))

-- What counting them keeps: those counted so far and those of the sets that are left are all.
pub record Counting (s : List ℕ) (slot n total i : ℕ) : Type 0 where
  pub within : i ≤ n
  pub few : total ≤ 65536 * i
  pub left : total + members_at s (words s (slot + 2 * i) (n - i)) ≡ members_at s (words s slot n)

module _ {s : List ℕ} {slot n : ℕ} where
  pub counting_all : Counting s slot n 0 0
  counting_all = record { within = omega arith; few = omega arith; left = rw (words_all s slot n) (omega arith) }

  pub counting_next : {total i p k : ℕ} → Counting s slot n total i → i < n → p ≡ word s (slot + 2 * i) → (k ≡ word s p) × (k < 65536) → Counting s slot n (total + k) (i + 1)
  unfolding members_at
  counting_next {total} {i} {p} {k} c h e f =
      let l = rw (words_left_lem s slot n i h, ← e, ← f.0) at c.left in
      record { within = omega arith; few = omega (arith, c.few, f.1); left = omega arith }

  pub counting_end : {total i : ℕ} → Counting s slot n total i → n ≤ i → n < 65536 → (total ≡ members_at s (words s slot n)) × (total ≤ 0x1_0000_0000)
  unfolding members_at
  counting_end {total} {i} c h l =
      let e = rw (words_none s (slot + 2 * i) n i h) at c.left in
      (omega arith, omega (arith, c.few, c.within))

-- The ways through `crowded`, and what its answer says of the source's length.
module _ (s : List ℕ) (slot n : ℕ) where
  pub crowds_short : length s < 1024 → false ≡ crowds s slot n
  crowds_short h = rw (lt-leb 1024 (length s) h) refl

  pub crowds_long : 1024 ≤ length s → 262144 < length s → false ≡ crowds s slot n
  crowds_long g h = rw (le-leb 1024 (length s) g, lt-leb (length s) 262144 h) refl

  pub crowds_by : 1024 ≤ length s → length s ≤ 262144 → {total : ℕ} → total ≡ members_at s (words s slot n) → ltb (length s) (8 * total) ≡ crowds s slot n
  crowds_by g h e = rw (le-leb 1024 (length s) g, le-leb (length s) 262144 h, ← e) refl

  pub crowds_small : crowds s slot n ≡ true → length s ≤ 262144
  crowds_small e = leb-true (length s) 262144 (both (leb (length s) 262144) _ (both (leb 1024 (length s)) _ e).1).0
