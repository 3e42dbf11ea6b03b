-- What the walks over rows keep: the answer for what is left is the whole answer.
use Prim.Native.Nat.{ℕ, ◌+◌, ◌-◌, ◌*◌, ◌≤◌, ◌<◌}
use mathlib.Core.Path.{◌≡◌, sym, ◌∙◌}
use mathlib.Core.Bool.{true, false, ◌&&◌}
use mathlib.Core.List.{List, [], ◌∷◌, map}
use native.Mathlib.Omega.{arith}
use lib.ListN.{get_or}
use lib.Dec.{eqb}
use borrow.Author.Tests.{eq-eqb, ne_eqb}
use Rattle.meaning.specs.Words.{word, words}
use Rattle.laws.specs.Left.{words_left_lem, words_all, words_none}
use Rattle.differences.specs.Entries.{same_list}
use Rattle.rule_rows.specs.declared.Run.{Run}
use Rattle.rule_rows.specs.Rows.{side_of, number_by, numbers_of, mix, print_numbers}

-- the two ways through `word_of` and through `number_at`
pub side_left : (side : ℕ) (l r : List ℕ) → side ≡ 0 → side_of side l r ≡ l
unfolding side_of
side_left side l r h = rw (eq-eqb side 0 h)

pub side_right : (side : ℕ) (l r : List ℕ) → (side ≡ 0 → ⊥) → side_of side l r ≡ r
unfolding side_of
side_right side l r h = rw (ne_eqb side 0 h)

pub stands_itself : (t : List ℕ) (base w : ℕ) → base ≡ 0 → w ≡ number_by t base w
unfolding number_by
stands_itself t base w h = rw (eq-eqb base 0 h)

pub stands_for : (t : List ℕ) (base w : ℕ) → (base ≡ 0 → ⊥) → get_or t (base + w) 0 ≡ number_by t base w
unfolding number_by
stands_for t base w h = rw (ne_eqb base 0 h)

module _ (l r t : List ℕ) (x : Run) where
  -- the i-th number, and those from it on
  abbrev pub number_of : ℕ → ℕ
  number_of i = number_by t x.base (word (side_of x.side l r) (x.at + 2 * i))

  abbrev pub rest_of : ℕ → ℕ → List ℕ
  rest_of n i = map (number_by t x.base) (words (side_of x.side l r) (x.at + 2 * i) (n - i))

  rest_turn : (n i : ℕ) → i < n → rest_of n i ≡ number_of i ∷ rest_of n (i + 1)
  rest_turn n i h = rw (words_left_lem (side_of x.side l r) x.at n i h)

  rest_all : (n : ℕ) → rest_of n 0 ≡ numbers_of l r t x n
  unfolding numbers_of
  rest_all n = rw (words_all (side_of x.side l r) x.at n)

  rest_none : (n i : ℕ) → n ≤ i → rest_of n i ≡ []
  rest_none n i h = rw (words_none (side_of x.side l r) (x.at + 2 * i) n i h)

  -- what the loop of `print_row` keeps
  pub record Printing (n h print i : ℕ) : Type 0 where
    pub within : i ≤ n
    pub small : print < 65536
    pub left : print_numbers print (rest_of n i) ≡ print_numbers h (numbers_of l r t x n)

module _ {l r t : List ℕ} {x : Run} {n h : ℕ} where
  pub printing_all : h < 65536 → Printing l r t x n h h 0
  printing_all b = record { within = omega arith; small = b; left = rw (rest_all l r t x n) }

  pub printing_turn : {print i w p : ℕ} → Printing l r t x n h print i → i < n → w ≡ number_of l r t x i → (p ≡ mix print w) × (p < 65536) → Printing l r t x n h p (i + 1)
  unfolding print_numbers
  printing_turn {i = i} k a e f = record { within = omega arith; small = f.1; left = rw (f.0, e) (rw (rest_turn l r t x n i a) at k.left) }

  pub printing_end : {print i : ℕ} → Printing l r t x n h print i → n ≤ i → (print ≡ print_numbers h (numbers_of l r t x n)) × (print < 65536)
  unfolding print_numbers
  printing_end {i = i} k a = (rw (rest_none l r t x n i a) at k.left, k.small)

-- what the loop of `same_row` keeps
pub record Comparing (l r t : List ℕ) (x y : Run) (n i : ℕ) : Type 0 where
  pub within : i ≤ n
  pub left : same_list eqb (rest_of l r t x n i) (rest_of l r t y n i) ≡ same_list eqb (numbers_of l r t x n) (numbers_of l r t y n)

module _ {l r t : List ℕ} {x y : Run} {n : ℕ} where
  pub comparing_all : Comparing l r t x y n 0
  comparing_all = record { within = omega arith; left = rw (rest_all l r t x n, rest_all l r t y n) }

  turn : {i : ℕ} → Comparing l r t x y n i → i < n → eqb (number_of l r t x i) (number_of l r t y i) && same_list eqb (rest_of l r t x n (i + 1)) (rest_of l r t y n (i + 1)) ≡ same_list eqb (numbers_of l r t x n) (numbers_of l r t y n)
  unfolding same_list
  turn {i} k a = rw (rest_turn l r t x n i a, rest_turn l r t y n i a) at k.left

  pub comparing_same : {i a b : ℕ} → Comparing l r t x y n i → i < n → a ≡ number_of l r t x i → b ≡ number_of l r t y i → a ≡ b → Comparing l r t x y n (i + 1)
  comparing_same {i} k h e f g = record { within = omega arith; left = rw (eq-eqb (number_of l r t x i) (number_of l r t y i) (sym e ∙ g ∙ f)) at (turn k h) }

  pub comparing_differ : {i a b : ℕ} → Comparing l r t x y n i → i < n → a ≡ number_of l r t x i → b ≡ number_of l r t y i → (a ≡ b → ⊥) → false ≡ same_list eqb (numbers_of l r t x n) (numbers_of l r t y n)
  comparing_differ {i} k h e f g = rw (ne_eqb (number_of l r t x i) (number_of l r t y i) (λ q. g (e ∙ q ∙ sym f))) at (turn k h)

  pub comparing_end : {i : ℕ} → Comparing l r t x y n i → n ≤ i → true ≡ same_list eqb (numbers_of l r t x n) (numbers_of l r t y n)
  unfolding same_list
  comparing_end {i} k h = rw (rest_none l r t x n i h, rest_none l r t y n i h) at k.left
