-- The fields that are used: whether some surviving pair of the sets that notes name has a value at a place that is not 0.
use Prim.Native.Nat.{ℕ, zero, suc, ◌+◌, ◌*◌, ◌≤◌, ◌<◌}
use Rattle.std.specs.Prelude.{◌≡◌, Bool, ◌||◌, length, eqb, Option, None, Some}
use Rattle.std.proofs.Math.Path.{refl, sym}
use Rattle.std.proofs.Common.{ap, ◌∙◌}
use Rattle.std.proofs.Math.Bool.{true, false, cond}
use mathlib.Core.List.{List, [], ◌∷◌}
use Rattle.std.proofs.Math.Nat.{zero-add}
use native.Mathlib.Omega.{arith}
use Rattle.meaning.specs.Words.{word, find, bind, push, map_some}
use Rattle.meaning.specs.Tables.{Pair, reach, reaches, pair_set}
use Rattle.meaning.specs.Cut.{unless_empty, cut_pair, cut_pairs, used, kept_sets}
use Rattle.area.specs.Part.{old_at}
use Rattle.numbers.specs.Alike.{Alike}
use Rattle.range_meets.specs.Met.{met}
use Rattle.pair_fields.specs.Pairs.{value_at, field_used}

module _ (g : List (ℕ × ℕ)) (s : List ℕ) (size place : ℕ) where
  -- of the pair set at a place, whose records have this size; a null offset reaches none
  unfoldable pub set_uses : ℕ → Bool
  set_uses at = cond (eqb at 0) false (field_used g s size place (at + 2) (word s at))

  -- of those that notes name, a coverage index each
  unfoldable pub used_in : List (ℕ × ℕ) → Bool
  used_in [] = false
  used_in (e ∷ es) = set_uses (word s (10 + 2 * e.0)) || used_in es

-- Each of n notes from `at` on names an offset that lies inside, and if that is not null, a pair set that lies inside.
pub record NamesSets (s t : List ℕ) (at n size : ℕ) : Type 0 where
  pub fits : at + n ≤ length t
  pub offset : (i : ℕ) → i < n → 10 + 2 * old_at t (at + i) + 2 ≤ length s
  pub inside : (i : ℕ) → i < n → (word s (10 + 2 * old_at t (at + i)) ≡ 0 → ⊥) → word s (10 + 2 * old_at t (at + i)) + 2 + size * word s (word s (10 + 2 * old_at t (at + i))) ≤ length s

-- a field that the records do not have is used by none
module _ (g : List (ℕ × ℕ)) (s : List ℕ) (size : ℕ) where
  absent : (n p : ℕ) → field_used g s size 0 p n ≡ false
  unfolding field_used value_at
  absent zero p = refl
  absent (suc n) p = absent n (p + size)

  absent_set : (at : ℕ) → set_uses g s size 0 at ≡ false
  unfolding set_uses
  absent_set at = rw (absent (word s at) (at + 2)) (step (eqb at 0))
    where
      step : (b : Bool) → cond b false false ≡ false
      step true = refl
      step false = refl

  pub absent_unused : (ns : List (ℕ × ℕ)) → used_in g s size 0 ns ≡ false
  unfolding used_in
  absent_unused [] = refl
  absent_unused (e ∷ es) = rw (absent_set (word s (10 + 2 * e.0)), absent_unused es)

-- maps that answer alike
module _ {g h : List (ℕ × ℕ)} (e : Alike g h) (s : List ℕ) (size place : ℕ) where
  field_alike : (n p : ℕ) → field_used g s size place p n ≡ field_used h s size place p n
  unfolding field_used
  field_alike zero p = refl
  field_alike (suc n) p = rw (e.same (word s p), field_alike n (p + size))

  pub used_alike : (ns : List (ℕ × ℕ)) → used_in g s size place ns ≡ used_in h s size place ns
  unfolding used_in set_uses
  used_alike [] = refl
  used_alike (n ∷ ns) = rw (field_alike (word s (word s (10 + 2 * n.0))) (word s (10 + 2 * n.0) + 2), used_alike ns)

-- What the sets use that notes name is what the kept sets use.
module _ (g : List (ℕ × ℕ)) (s : List ℕ) (size place a b : ℕ) (get : Pair → List ℕ) (f k : ℕ)
    (one : (m : ℕ) (r : List (ℕ × List Pair)) (at : ℕ) → used get f k ((m, map_some (cut_pair g) (pair_set a b s at)) ∷ r) ≡ field_used g s size place (at + 2) (word s at) || used get f k r) where
  -- a set of which nothing is left uses nothing
  used_push : (x : ℕ) (ps : List Pair) (r : List (ℕ × List Pair)) → used get f k (push (bind (unless_empty ps) (λ y. Some (x, y))) r) ≡ used get f k ((x, ps) ∷ r)
  unfolding used push bind unless_empty
  used_push x [] r = refl
  used_push x (p ∷ ps) r = refl

  -- one set, and the kept ones behind it
  used_one : (at x : ℕ) (u : Bool) (r : List (ℕ × List Pair)) → u ≡ used get f k r
      → set_uses g s size place at || u ≡ used get f k (push (bind (cond (eqb at 0) None (Some (pair_set a b s (0 + at)))) (λ ps. bind (cut_pairs g ps) (λ y. Some (x, y)))) r)
  unfolding set_uses cut_pairs bind push
  used_one at x u r e = step (eqb at 0)
    where
      step : (z : Bool) → cond z false (field_used g s size place (at + 2) (word s at)) || u
          ≡ used get f k (push (bind (cond z None (Some (pair_set a b s (0 + at)))) (λ ps. bind (unless_empty (map_some (cut_pair g) ps)) (λ y. Some (x, y)))) r)
      step true = e
      step false =
          rw zero-add (ap (λ (v : Bool). field_used g s size place (at + 2) (word s at) || v) e ∙ sym (one x r at) ∙ sym (used_push x (map_some (cut_pair g) (pair_set a b s at)) r))

  pub used_met : (i : ℕ) (cov : List ℕ) (n : ℕ) → length cov ≤ n
      → used_in g s size place (met (find g) i cov) ≡ used get f k (kept_sets (cut_pairs g) g cov (reaches (pair_set a b s) s 0 (10 + 2 * i) n))
  unfolding used_in met kept_sets reaches reach used bind push
  used_met i [] n h = refl
  used_met i (c ∷ cov) zero h = absurd (omega arith)
  used_met i (c ∷ cov) (suc n) h =
      let e : 10 + 2 * (i + 1) ≡ 10 + 2 * i + 2 = omega arith in
      step (find g c) (rw e at (used_met (i + 1) cov n (omega arith)))
    where
      step : (o : Option ℕ) → used_in g s size place (met (find g) (i + 1) cov) ≡ used get f k (kept_sets (cut_pairs g) g cov (reaches (pair_set a b s) s 0 (10 + 2 * i + 2) n))
          → used_in g s size place (push (bind o (λ x. Some (i, x))) (met (find g) (i + 1) cov))
          ≡ used get f k (push (bind o (λ x. bind (reach (pair_set a b s) s 0 (10 + 2 * i)) (λ ps. bind (cut_pairs g ps) (λ y. Some (x, y))))) (kept_sets (cut_pairs g) g cov (reaches (pair_set a b s) s 0 (10 + 2 * i + 2) n)))
      step None r = r
      step (Some x) r = used_one (word s (10 + 2 * i)) x _ _ r
