-- Words in a row: whether they are those of another row, and of a block of the book.
use Prim.Native.Nat.{ℕ, suc, ◌+◌, ◌-◌, ◌*◌, ◌/◌, ◌≤◌, ◌<◌}
use mathlib.Core.Path.{◌≡◌, refl, sym, ap, ◌∙◌}
use mathlib.Core.Bool.{Bool, true, false, ◌&&◌}
use mathlib.Core.List.{List, [], ◌∷◌}
use native.Mathlib.Omega.{arith}
use lib.ListN.{get_or}
use lib.Dec.{eqb}
use borrow.Author.Tests.{eq-eqb, ne_eqb, lt-ltb, le-ltb}
use Rattle.meaning.specs.Words.{word, words, eq_list}
use Rattle.known_blocks.specs.Book.{start_of, alike}

-- the words from the i-th one on
module _ (s : List ℕ) (at n : ℕ) where
  pub words_left_lem : (i : ℕ) → i < n → words s (at + 2 * i) (n - i) ≡ word s (at + 2 * i) ∷ words s (at + 2 * (i + 1)) (n - (i + 1))
  unfolding words
  words_left_lem i h =
      let e : n - i ≡ suc (n - (i + 1)) = omega arith in
      let f : at + 2 * (i + 1) ≡ at + 2 * i + 2 = omega arith in
      rw (e, f)

  pub words_all : words s (at + 2 * 0) (n - 0) ≡ words s at n
  words_all =
      let e : at + 2 * 0 ≡ at = omega arith in
      let f : n - 0 ≡ n = omega arith in
      rw (e, f)

  pub words_none : (i : ℕ) → n ≤ i → words s (at + 2 * i) (n - i) ≡ []
  unfolding words
  words_none i h =
      let e : n - i ≡ 0 = omega arith in
      rw e

-- those from the i-th on are the same exactly if all are
abbrev pub Matching : List ℕ → ℕ → ℕ → ℕ → ℕ → Type 0
Matching s a b n i = eq_list (words s (a + 2 * i) (n - i)) (words s (b + 2 * i) (n - i)) ≡ eq_list (words s a n) (words s b n)

module _ (s : List ℕ) (a b n : ℕ) where
  pub matching_all : Matching s a b n 0
  matching_all = rw (words_all s a n, words_all s b n)

  module _ (i : ℕ) (c : Matching s a b n i) where
    both_left : i < n → eqb (word s (a + 2 * i)) (word s (b + 2 * i)) && eq_list (words s (a + 2 * (i + 1)) (n - (i + 1))) (words s (b + 2 * (i + 1)) (n - (i + 1))) ≡ eq_list (words s a n) (words s b n)
    unfolding eq_list
    both_left h = sym (rw (words_left_lem s a n i h, words_left_lem s b n i h) refl) ∙ c

    pub matching_other : {x y : ℕ} → i < n → x ≡ word s (a + 2 * i) → y ≡ word s (b + 2 * i) → (x ≡ y → ⊥) → false ≡ eq_list (words s a n) (words s b n)
    matching_other h e f z = sym (rw (ne_eqb (word s (a + 2 * i)) (word s (b + 2 * i)) (λ q. z (e ∙ q ∙ sym f))) refl) ∙ both_left h

    pub matching_turn : {x y : ℕ} → i < n → x ≡ word s (a + 2 * i) → y ≡ word s (b + 2 * i) → x ≡ y → Matching s a b n (i + 1)
    matching_turn h e f z = sym (rw (eq-eqb (word s (a + 2 * i)) (word s (b + 2 * i)) (sym e ∙ z ∙ f)) refl) ∙ both_left h

    pub matching_end : n ≤ i → true ≡ eq_list (words s a n) (words s b n)
    unfolding eq_list
    matching_end h = sym (rw (words_none s a n i h, words_none s b n i h) refl) ∙ c

-- where a block of the book starts, or where all of them end
module _ (book : List ℕ) (first p i : ℕ) where
  pub start_near : i < get_or book 0 0 → start_of book first p i ≡ first + 2 * (get_or book (1 + i) 0 / 65536)
  unfolding start_of
  start_near l = rw (lt-ltb i (get_or book 0 0) l) refl

  pub start_by : {c : ℕ} → c ≡ get_or book (1 + i) 0 → i < get_or book 0 0 → first + 2 * (c / 65536) ≡ start_of book first p i
  start_by e l = ap (λ (x : ℕ). first + 2 * (x / 65536)) e ∙ sym (start_near l)

  pub start_past : get_or book 0 0 ≤ i → start_of book first p i ≡ p
  unfolding start_of
  start_past l = rw (le-ltb i (get_or book 0 0) l) refl

-- a block of the book, by where it starts and ends, and by its words
module _ (area book : List ℕ) (first p n i : ℕ) {at end : ℕ} (e : at ≡ start_of book first p i) (f : end ≡ start_of book first p (i + 1)) where
  pub unlike_length : (end ≡ at + 2 * n → ⊥) → false ≡ alike area book first p n i
  unfolding alike
  unlike_length z = rw (ne_eqb (start_of book first p (i + 1)) (start_of book first p i + 2 * n) (λ q. z (f ∙ q ∙ ap (λ (x : ℕ). x + 2 * n) (sym e)))) refl

  pub alike_words : {r : Bool} → end ≡ at + 2 * n → r ≡ eq_list (words area at n) (words area p n) → r ≡ alike area book first p n i
  unfolding alike
  alike_words z v =
      v
      ∙ ap (λ (x : ℕ). eq_list (words area x n) (words area p n)) e
      ∙ rw (eq-eqb (start_of book first p (i + 1)) (start_of book first p i + 2 * n) (sym f ∙ z ∙ ap (λ (x : ℕ). x + 2 * n) e)) refl
