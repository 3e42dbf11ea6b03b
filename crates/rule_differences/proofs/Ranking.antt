-- The ways through the list of one rank, and the walk over all ranks.
use Prim.Native.Nat.{ℕ, suc, ◌+◌, ◌-◌, ◌≤◌, ◌<◌}
use mathlib.Core.Path.{◌≡◌, refl, sym, ap, ◌∙◌}
use mathlib.Core.Bool.{Bool, true, false, cond}
use Rattle.std.specs.Prelude.{Some}
use mathlib.Core.List.{List, [], ◌∷◌}
use native.Mathlib.Omega.{arith}
use lib.ListN.{get_or}
use lib.Dec.{leb}
use borrow.Author.Tests.{eq-eqb, ne_eqb, lt-ltb, le-ltb, le-leb, lt-leb}
use Rattle.meaning.specs.Words.{up_from}
use Rattle.differences.specs.Entries.{each, left_rule, right_rule, longer}
use Rattle.listing.specs.Listed.{entry_of, Listed, listed_none, listed_on, listed_said, Through, through_turn, through_end}
use Rattle.rule_differences.specs.Ranked.{rank_of, left_at, right_at, both_at}

module _ (g i p : ℕ) where
  -- the ways through `put_left` and `put_right`
  pub left_alone : {out next : List ℕ} {pos q : ℕ} → p ≡ 0 → Listed (entry_of 3 0 g i 0 0 ∷ []) out pos next q → Listed (left_rule g i (rank_of p)) out pos next q × (q ≤ pos + 12)
  unfolding left_rule
  left_alone h l = (listed_said l (rw h), omega (arith, l.place))

  pub left_stays : {out : List ℕ} {pos : ℕ} → (p ≡ 0 → ⊥) → i ≡ p - 1 → Listed (left_rule g i (rank_of p)) out pos out pos × (pos ≤ pos + 12)
  unfolding left_rule
  left_stays h e =
      let s : p ≡ suc (p - 1) = omega arith in
      let t : left_rule g i (Some (p - 1)) ≡ [] = rw (eq-eqb i (p - 1) e) in
      (listed_said listed_none (sym (ap (λ (x : ℕ). left_rule g i (rank_of x)) s ∙ t)), omega arith)

  pub left_moved : {out next : List ℕ} {pos q : ℕ} → (p ≡ 0 → ⊥) → (i ≡ p - 1 → ⊥) → Listed (entry_of 4 0 g i i (p - 1) ∷ []) out pos next q → Listed (left_rule g i (rank_of p)) out pos next q × (q ≤ pos + 12)
  unfolding left_rule
  left_moved h e l =
      let s : p ≡ suc (p - 1) = omega arith in
      let t : left_rule g i (Some (p - 1)) ≡ entry_of 4 0 g i i (p - 1) ∷ [] = rw (ne_eqb i (p - 1) e) in
      (listed_said l (sym (ap (λ (x : ℕ). left_rule g i (rank_of x)) s ∙ t)), omega (arith, l.place))

  pub right_alone : {out next : List ℕ} {pos q : ℕ} → p ≡ 0 → Listed (entry_of 3 1 g i 0 0 ∷ []) out pos next q → Listed (right_rule g i (rank_of p)) out pos next q × (q ≤ pos + 12)
  unfolding right_rule
  right_alone h l = (listed_said l (rw h), omega (arith, l.place))

  pub right_paired : {out : List ℕ} {pos : ℕ} → (p ≡ 0 → ⊥) → Listed (right_rule g i (rank_of p)) out pos out pos × (pos ≤ pos + 12)
  unfolding right_rule
  right_paired h =
      let s : p ≡ suc (p - 1) = omega arith in
      let t : right_rule g i (Some (p - 1)) ≡ [] = refl in
      (listed_said listed_none (sym (ap (λ (x : ℕ). right_rule g i (rank_of x)) s ∙ t)), omega arith)

module _ (s : List ℕ) (m g i : ℕ) where
  -- what `list_ranks` lists on one side: there is no rule of this rank, or one
  pub no_left : {out : List ℕ} {pos : ℕ} → m ≤ i → Listed (left_at s m g i) out pos out pos × (pos ≤ pos + 12)
  no_left h = (listed_said listed_none (rw (le-ltb i m h)), omega arith)

  pub some_left : {out next : List ℕ} {pos q : ℕ} → i < m → {w : ℕ} → w ≡ get_or s i 0 → Listed (left_rule g i (rank_of w)) out pos next q × (q ≤ pos + 12) → Listed (left_at s m g i) out pos next q × (q ≤ pos + 12)
  some_left h e l = (listed_said l.0 (rw (lt-ltb i m h, e)), l.1)

  pub no_right : {out : List ℕ} {pos : ℕ} → m ≤ i → Listed (right_at s m g i) out pos out pos × (pos ≤ pos + 12)
  no_right h = (listed_said listed_none (rw (le-ltb i m h)), omega arith)

  pub some_right : {out next : List ℕ} {pos q : ℕ} → i < m → {w : ℕ} → w ≡ get_or s i 0 → Listed (right_rule g i (rank_of w)) out pos next q × (q ≤ pos + 12) → Listed (right_at s m g i) out pos next q × (q ≤ pos + 12)
  some_right h e l = (listed_said l.0 (rw (lt-ltb i m h, e)), l.1)

-- the greater of two counts
pub longer_right : (m n : ℕ) → m ≤ n → n ≡ longer m n
unfolding longer
longer_right m n h = rw (le-leb m n h)

pub longer_left : (m n : ℕ) → n < m → m ≡ longer m n
unfolding longer
longer_left m n h = rw (lt-leb m n h)

pub longer_small : (m n : ℕ) → m < 65536 → n < 65536 → longer m n < 65536
unfolding longer
longer_small m n a b = step (leb m n)
  where
    step : (t : Bool) → cond t n m < 65536
    step true = b
    step false = a

-- one turn of `list_ranks`, and its end
module _ (s t : List ℕ) (m n g : ℕ) {end : ℕ} {out₀ : List ℕ} {pos : ℕ} {out : List ℕ} {at i : ℕ} (k : Through (both_at s m t n g) end 24 out₀ pos out at i) where
  pub ranks_turn : i < end → {one next : List ℕ} {p q : ℕ} → Listed (left_at s m g i) out at one p × (p ≤ at + 12) → Listed (right_at t n g i) one p next q × (q ≤ p + 12)
      → Through (both_at s m t n g) end 24 out₀ pos next q (i + 1)
  ranks_turn h a b = through_turn k h (listed_on a.0 b.0) (omega (arith, a.1, b.1))

  pub ranks_end : end ≤ i → end ≡ longer m n → m < 65536 → n < 65536 → Listed (each (both_at s m t n g) (up_from 0 (longer m n))) out₀ pos out at × (at ≤ pos + 0x18_0000)
  ranks_end h e a b =
      let l = rw e at (through_end k h) in
      (l.0, omega (arith, l.1, longer_small m n a b))
