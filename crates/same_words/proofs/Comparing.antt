-- The ways through comparing words.
use Prim.Native.Nat.{ℕ, ◌+◌, ◌-◌, ◌*◌, ◌≤◌, ◌<◌}
use mathlib.Core.Path.{◌≡◌}
use mathlib.Core.Bool.{true, false}
use mathlib.Core.List.{List}
use native.Mathlib.Omega.{arith}
use borrow.Author.Tests.{eq-eqb, ne_eqb}
use Rattle.meaning.specs.Words.{word, words, eq_list}
use Rattle.laws.specs.Left.{words_left_lem, words_all, words_none}

-- What the loop of `same_words` keeps: the answer for what is left is the whole answer.
pub record Alike (a : List ℕ) (at : ℕ) (b : List ℕ) (from n i : ℕ) : Type 0 where
  pub within : i ≤ n
  pub left : eq_list (words a (at + 2 * i) (n - i)) (words b (from + 2 * i) (n - i)) ≡ eq_list (words a at n) (words b from n)

module _ {a : List ℕ} {at : ℕ} {b : List ℕ} {from n : ℕ} where
  pub alike_all : Alike a at b from n 0
  alike_all = record { within = omega arith; left = rw (words_all a at n, words_all b from n) }

  module _ {i x y : ℕ} (k : Alike a at b from n i) (h : i < n) (e : x ≡ word a (at + 2 * i)) (f : y ≡ word b (from + 2 * i)) where
    pub alike_not : (x ≡ y → ⊥) → false ≡ eq_list (words a at n) (words b from n)
    unfolding eq_list
    alike_not z = rw (words_left_lem a at n i h, words_left_lem b from n i h, ← e, ← f, ne_eqb x y z) at k.left

    pub alike_turn : x ≡ y → Alike a at b from n (i + 1)
    unfolding eq_list
    alike_turn z = record { within = omega arith; left = rw (words_left_lem a at n i h, words_left_lem b from n i h, ← e, ← f, eq-eqb x y z) at k.left }

  pub alike_end : {i : ℕ} → Alike a at b from n i → n ≤ i → true ≡ eq_list (words a at n) (words b from n)
  unfolding eq_list
  alike_end {i} k h = rw (words_none a (at + 2 * i) n i h, words_none b (from + 2 * i) n i h) at k.left
