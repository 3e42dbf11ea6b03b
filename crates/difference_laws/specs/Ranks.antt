-- How code can pair rules: over numbers that are equal exactly if the contents are, by the ranks that each number has left on the right.
use Prim.Native.Nat.{ℕ, zero, suc, ◌+◌}
use Rattle.std.specs.Prelude.{◌≡◌, Bool, true, false, cond, length, take, drop, eqb, Option, None, Some}
use Rattle.std.proofs.Math.Path.{refl, ap, ap₂}
use Rattle.std.proofs.Common.{sym, ◌∙◌, arith, eq-eqb, ne_eqb}
use Rattle.std.proofs.lemmas.Option.{same_Some, none-some}
use mathlib.Core.List.{List, [], ◌∷◌, ◌++◌, map}
use Rattle.std.proofs.Math.ListN.{length-map}
use Rattle.meaning.specs.Words.{up_from}
use Rattle.laws.specs.Stands.{All}
use Rattle.differences.specs.Entries.{Entry, each, count_same, one_on, rank_same, ranked, partner, left_rule, right_rule, if_there, at_rank, longer, rule_entries}

-- Numbers for contents.

-- what lists the same of each number lists the same of all
pub each_ranks : (f e : ℕ → List Entry) → ((i : ℕ) → f i ≡ e i) → (ks : List ℕ) → each f ks ≡ each e ks
unfolding each
each_ranks f e q [] = refl
each_ranks f e q (i ∷ ks) = ap₂ (λ (a b : List Entry). a ++ b) (q i) (each_ranks f e q ks)

module _ {A B : Type 0} (same : A → A → Bool) (other : B → B → Bool) (P : A → Type 0) (num : A → B) (tells : (x y : A) → P x → P y → same x y ≡ other (num x) (num y)) where
  count_numbers : (x : A) → P x → (l : List A) → All P l → count_same same x l ≡ count_same other (num x) (map num l)
  unfolding count_same
  count_numbers x p [] h = refl
  count_numbers x p (a ∷ l) h = rw (tells x a p h.0, count_numbers x p l h.1)

  rank_numbers : (x : A) → P x → (k : ℕ) (l : List A) → All P l → rank_same same x k l ≡ rank_same other (num x) k (map num l)
  unfolding rank_same
  rank_numbers x p zero [] h = refl
  rank_numbers x p (suc k) [] h = refl
  rank_numbers x p zero (a ∷ l) h = rw (tells x a p h.0, rank_numbers x p zero l h.1)
  rank_numbers x p (suc k) (a ∷ l) h = rw (tells x a p h.0) (go (other (num x) (num a)) (λ n. rank_numbers x p n l h.1))
    where
      go : (b : Bool) → ((n : ℕ) → rank_same same x n l ≡ rank_same other (num x) n (map num l)) → one_on (rank_same same x (cond b k (suc k)) l) ≡ one_on (rank_same other (num x) (cond b k (suc k)) (map num l))
      go b f = ap one_on (f (cond b k (suc k)))

  take_all : (i : ℕ) (l : List A) → All P l → All P (take i l)
  take_all zero l h = tt
  take_all (suc i) [] h = tt
  take_all (suc i) (a ∷ l) h = (h.0, take_all i l h.1)

  take_map : (i : ℕ) (l : List A) → take i (map num l) ≡ map num (take i l)
  take_map zero l = refl
  take_map (suc i) [] = refl
  take_map (suc i) (a ∷ l) = ap (λ (r : List B). num a ∷ r) (take_map i l)

  partner_numbers : (l r : List A) → All P l → All P r → (i : ℕ) (x : A) → P x → partner same l r i x ≡ partner other (map num l) (map num r) i (num x)
  unfolding partner
  partner_numbers l r h k i x p =
      rank_numbers x p (count_same same x (take i l)) r k
      ∙ ap (λ (n : ℕ). rank_same other (num x) n (map num r)) (count_numbers x p (take i l) (take_all i l h) ∙ ap (count_same other (num x)) (sym (take_map i l)))

  -- a member by its number
  part_numbers : (f : Option ℕ → List Entry) (l r : List A) → All P l → All P r → (i : ℕ) (own : List A) → All P own → (j : ℕ)
      → if_there (λ x. f (partner same l r i x)) (ranked own j) ≡ if_there (λ n. f (partner other (map num l) (map num r) i n)) (ranked (map num own) j)
  unfolding if_there ranked
  part_numbers f l r h k i [] w j = refl
  part_numbers f l r h k i (a ∷ own) w zero = ap f (partner_numbers l r h k i a w.0)
  part_numbers f l r h k i (a ∷ own) w (suc j) = part_numbers f l r h k i own w.1 j

  -- `number_entries`: rules may be paired by their numbers, or by others of which a test tells the same
  pub number_entries : (g : ℕ) (l r : List A) → All P l → All P r → rule_entries same g l r ≡ rule_entries other g (map num l) (map num r)
  unfolding rule_entries at_rank
  number_entries g l r h k =
      rw (length-map l num, length-map r num)
      (each_ranks (at_rank same g l r) (at_rank other g (map num l) (map num r)) (λ i. ap₂ (λ (a b : List Entry). a ++ b) (part_numbers (left_rule g i) l r h k i l h i) (part_numbers (right_rule g i) r l k h i r k i)) (up_from 0 (longer (length l) (length r))))

-- The ranks of a number, and what is left of them.

-- the ranks from j on at which the number x stands, ascending
unfoldable pub ranks_of : ℕ → ℕ → List ℕ → List ℕ
ranks_of x j [] = []
ranks_of x j (a ∷ r) = cond (eqb x a) (j ∷ ranks_of x (j + 1) r) (ranks_of x (j + 1) r)

-- the first of a list
unfoldable pub first : List ℕ → Option ℕ
first [] = None
first (j ∷ js) = Some j

-- the right ranks of x that are left once the left numbers before rank i have taken theirs
unfoldable pub left_over : List ℕ → List ℕ → ℕ → ℕ → List ℕ
left_over l r i x = drop (count_same eqb x (take i l)) (ranks_of x 0 r)

-- the rank k of x among the ranks from j on
from : ℕ → Option ℕ → Option ℕ
from j None = None
from j (Some i) = Some (i + j)

from_on : (j : ℕ) (o : Option ℕ) → from j (one_on o) ≡ from (j + 1) o
unfolding from one_on
from_on j None = refl
from_on j (Some i) = let e : suc i + j ≡ i + (j + 1) = omega arith in ap {B = Option ℕ} Some e

rank_first : (x k j : ℕ) (r : List ℕ) → first (drop k (ranks_of x j r)) ≡ from j (rank_same eqb x k r)
unfolding ranks_of first from rank_same
rank_first x zero j [] = refl
rank_first x (suc k) j [] = refl
rank_first x zero j (a ∷ r) = go (eqb x a) (rank_first x zero (j + 1) r)
  where
    go : (b : Bool) → first (ranks_of x (j + 1) r) ≡ from (j + 1) (rank_same eqb x zero r) → first (cond b (j ∷ ranks_of x (j + 1) r) (ranks_of x (j + 1) r)) ≡ from j (cond b (Some 0) (one_on (rank_same eqb x zero r)))
    go true e = let z : j ≡ 0 + j = omega arith in ap {B = Option ℕ} Some z
    go false e = e ∙ sym (from_on j (rank_same eqb x zero r))
rank_first x (suc k) j (a ∷ r) = go (eqb x a) (λ n. rank_first x n (j + 1) r)
  where
    go : (b : Bool) → ((n : ℕ) → first (drop n (ranks_of x (j + 1) r)) ≡ from (j + 1) (rank_same eqb x n r))
        → first (drop (suc k) (cond b (j ∷ ranks_of x (j + 1) r) (ranks_of x (j + 1) r))) ≡ from j (one_on (rank_same eqb x (cond b k (suc k)) r))
    go true e = e k ∙ sym (from_on j (rank_same eqb x k r))
    go false e = e (suc k) ∙ sym (from_on j (rank_same eqb x (suc k) r))

from_zero : (o : Option ℕ) → from 0 o ≡ o
unfolding from
from_zero None = refl
from_zero (Some i) = let z : i + 0 ≡ i = omega arith in ap {B = Option ℕ} Some z

-- `partner_is`: the partner is the first rank that is left
pub partner_is : (l r : List ℕ) (i x : ℕ) → partner eqb l r i x ≡ first (left_over l r i x)
unfolding partner left_over
partner_is l r i x = sym (rank_first x (count_same eqb x (take i l)) 0 r ∙ from_zero (rank_same eqb x (count_same eqb x (take i l)) r))

-- one more left number: it takes the first that is left of its own, and leaves the others
count_one : (l : List ℕ) (i x y : ℕ) → ranked l i ≡ Some y → count_same eqb x (take (suc i) l) ≡ cond (eqb x y) (suc (count_same eqb x (take i l))) (count_same eqb x (take i l))
unfolding ranked count_same
count_one [] i x y h = absurd (none-some _ h)
count_one (a ∷ l) zero x y h = rw (same_Some a y h)
count_one (a ∷ l) (suc i) x y h = rw (count_one l i x y h) (go (eqb x a) (eqb x y) (count_same eqb x (take i l)))
  where
    go : (s t : Bool) (n : ℕ) → cond s (suc (cond t (suc n) n)) (cond t (suc n) n) ≡ cond t (suc (cond s (suc n) n)) (cond s (suc n) n)
    go true true n = refl
    go true false n = refl
    go false true n = refl
    go false false n = refl

drop_one : (k : ℕ) (js : List ℕ) → drop (suc k) js ≡ drop 1 (drop k js)
drop_one zero js = refl
drop_one (suc k) [] = refl
drop_one (suc k) (j ∷ js) = drop_one k js

pub left_none : (l r : List ℕ) (x : ℕ) → left_over l r 0 x ≡ ranks_of x 0 r
unfolding left_over count_same
left_none l r x = refl

pub left_takes : (l r : List ℕ) (i x : ℕ) → ranked l i ≡ Some x → left_over l r (suc i) x ≡ drop 1 (left_over l r i x)
unfolding left_over
left_takes l r i x h = rw (count_one l i x x h, eq-eqb x x refl) (drop_one (count_same eqb x (take i l)) (ranks_of x 0 r))

pub left_leaves : (l r : List ℕ) (i x y : ℕ) → ranked l i ≡ Some y → (x ≡ y → ⊥) → left_over l r (suc i) x ≡ left_over l r i x
unfolding left_over
left_leaves l r i x y h d = rw (count_one l i x y h, ne_eqb x y d)
