-- Rules rank by rank, where each rule's partner is known.
use Rattle.std.specs.Prelude.{ℕ, zero, suc, ◌≤◌, ◌<◌, ◌≡◌, refl, Bool, true, false, cond, List, [], ◌∷◌, ◌++◌, length, get_or, ltb, Option, None, Some}
use Rattle.std.proofs.Common.{ap₂, arith, ltb-true, ltb-false}
use Rattle.meaning.specs.Words.{up_from}
use Rattle.differences.specs.Entries.{Entry, each, ranked, partner, left_rule, right_rule, if_there, at_rank, longer, rule_entries}
use Rattle.difference_laws.specs.Ranks.{each_ranks}

-- the rank that a cell stands for: 0 for none
abbrev pub rank_of : ℕ → Option ℕ
rank_of zero = None
rank_of (suc j) = Some j

-- what is listed of the left rule of rank i, where there are m, and of the right one, where there are n
abbrev pub left_at : List ℕ → ℕ → ℕ → ℕ → List Entry
left_at partners m g i = cond (ltb i m) (left_rule g i (rank_of (get_or partners i 0))) []

abbrev pub right_at : List ℕ → ℕ → ℕ → ℕ → List Entry
right_at partners n g i = cond (ltb i n) (right_rule g i (rank_of (get_or partners i 0))) []

-- of both
abbrev pub both_at : List ℕ → ℕ → List ℕ → ℕ → ℕ → ℕ → List Entry
both_at lefts m rights n g i = left_at lefts m g i ++ right_at rights n g i

module _ {A : Type 0} (same : A → A → Bool) where
  -- The partners of `own` among `others` stand in these cells.
  pub record Partners (own others : List A) (cells : List ℕ) : Type 0 where
    pub stand : (i : ℕ) (x : A) → ranked own i ≡ Some x → rank_of (get_or cells i 0) ≡ partner same own others i x

-- a rank below the length has a member, and no other has
ranked_there : {A : Type 0} (l : List A) (i : ℕ) → i < length l → (x : A) × (ranked l i ≡ Some x)
unfolding ranked
ranked_there [] i h = absurd (omega arith)
ranked_there (a ∷ l) zero h = (a, refl)
ranked_there (a ∷ l) (suc i) h = ranked_there l i (omega arith)

ranked_none : {A : Type 0} (l : List A) (i : ℕ) → length l ≤ i → ranked l i ≡ None
unfolding ranked
ranked_none [] i h = refl
ranked_none (a ∷ l) zero h = absurd (omega arith)
ranked_none (a ∷ l) (suc i) h = ranked_none l i (omega arith)

-- The entries of two sets of rules, where the partners stand in scratch.
pub ranks_are : {A : Type 0} (same : A → A → Bool) (g : ℕ) (l r : List A) (lefts rights : List ℕ) → Partners same l r lefts → Partners same r l rights
    → each (both_at lefts (length l) rights (length r) g) (up_from 0 (longer (length l) (length r))) ≡ rule_entries same g l r
unfolding rule_entries at_rank if_there
ranks_are {A} same g l r lefts rights a b =
    each_ranks (both_at lefts (length l) rights (length r) g) (at_rank same g l r) (λ i. ap₂ (λ (x y : List Entry). x ++ y) (left i (ltb i (length l)) refl) (right i (ltb i (length r)) refl)) (up_from 0 (longer (length l) (length r)))
  where
    left : (i : ℕ) (t : Bool) → ltb i (length l) ≡ t → cond t (left_rule g i (rank_of (get_or lefts i 0))) [] ≡ if_there (λ x. left_rule g i (partner same l r i x)) (ranked l i)
    left i true e =
        let x = ranked_there l i (ltb-true i (length l) e) in
        rw (x.1, a.stand i x.0 x.1)
    left i false e = rw (ranked_none l i (ltb-false i (length l) e))

    right : (i : ℕ) (t : Bool) → ltb i (length r) ≡ t → cond t (right_rule g i (rank_of (get_or rights i 0))) [] ≡ if_there (λ x. right_rule g i (partner same r l i x)) (ranked r i)
    right i true e =
        let x = ranked_there r i (ltb-true i (length r) e) in
        rw (x.1, b.stand i x.0 x.1)
    right i false e = rw (ranked_none r i (ltb-false i (length r) e))
