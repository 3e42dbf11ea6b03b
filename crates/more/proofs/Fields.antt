-- Value fields of pair tables: which stay, said without `cut`, and that `cut` keeps just these.
use Rattle.std.specs.Prelude.{ℕ, ◌≡◌, Bool, ◌&&◌, not, eqb, Option, None, Some}
use Rattle.std.proofs.Math.Path.{refl, sym, ap, ap₂}
use Rattle.std.proofs.Common.{◌∙◌}
use Rattle.std.proofs.Math.Bool.{true, false, ◌||◌, or_assoc}
use mathlib.Core.List.{List, [], ◌∷◌}
use Rattle.meaning.specs.Words.{find, is_some, bind, push, map_some}
use Rattle.meaning.specs.Tables.{Pair, field}
use Rattle.meaning.specs.Cut.{unless_empty, kept_sets, cut_pair, cut_pairs, used}
use Rattle.promises.specs.Covers.{keys_same}
use Rattle.promises.specs.Survives.{some_of, not_null_and, is_retained, set_kept, some_set_kept, pair_survives}
use Rattle.promises.specs.CutSurvives.{some_same}
use Rattle.more.specs.Wider.{Also, Wider}
use Rattle.more.proofs.Wider.{and_then, pair_also, some_set_also}
use Rattle.more.specs.Fields.{nonzero, field_survives}

-- a field that stays under a map stays under a wider one
pub field_also : (g h : List (ℕ × ℕ)) → Wider g h → (get : Pair → List ℕ) (f k : ℕ) (cov : List ℕ) → Also (field_survives get f k g cov) (field_survives get f k h cov)
unfolding field_survives
field_also g h w get f k cov =
    some_set_also g h w (λ c p. pair_survives g c p && nonzero get f k p) (λ c p. pair_survives h c p && nonzero get f k p)
    (λ c p. and_then (pair_survives g c p) (nonzero get f k p) (pair_survives h c p) (nonzero get f k p) (pair_also g h w c p) (λ e. e)) cov

-- What `cut` keeps.

module _ (get : Pair → List ℕ) (f k : ℕ) where
  -- some pair of a set has it
  abbrev in_set : ℕ × List Pair → Bool
  in_set e = some_of (nonzero get f k) e.1

  pub used_some : (ks : List (ℕ × List Pair)) → used get f k ks ≡ some_of in_set ks
  unfolding used some_of nonzero
  used_some [] = refl
  used_some ((n, []) ∷ ks) = used_some ks
  used_some ((n, p ∷ ps) ∷ ks) = ap (◌||◌ (not (eqb (field f (get p) k) 0))) (used_some ((n, ps) ∷ ks)) ∙ sym (or_assoc (not (eqb (field f (get p) k) 0)) (some_of (nonzero get f k) ps) (some_of in_set ks))

  pub push_some : (o : Option (ℕ × List Pair)) (r : List (ℕ × List Pair)) → some_of in_set (push o r) ≡ not_null_and in_set o || some_of in_set r
  unfolding some_of push not_null_and
  push_some None r = refl
  push_some (Some e) r = refl

  module _ (g : List (ℕ × ℕ)) (same : (p : Pair) (n : ℕ) → get (record { second = n; first_values = p.first_values; second_values = p.second_values }) ≡ get p) where
    -- cut pairs keep their values
    pub cut_some : (ps : List Pair) → some_of (nonzero get f k) (map_some (cut_pair g) ps) ≡ some_of (λ p. is_retained g p.second && nonzero get f k p) ps
    unfolding some_of map_some cut_pair push bind is_some nonzero is_retained
    cut_some [] = refl
    cut_some (p ∷ ps) = rw (keys_same g p.second) (go (find g p.second) (cut_some ps))
      where
        rest : List Pair
        rest = map_some (cut_pair g) ps

        go : (o : Option ℕ) → some_of (nonzero get f k) rest ≡ some_of (λ p. is_retained g p.second && nonzero get f k p) ps
            → some_of (nonzero get f k) (push (bind o (λ n. Some (record { second = n; first_values = p.first_values; second_values = p.second_values }))) rest)
            ≡ is_some o && nonzero get f k p || some_of (λ p. is_retained g p.second && nonzero get f k p) ps
        go None i = i
        go (Some n) i = ap₂ ◌||◌ (ap (λ (vs : List ℕ). not (eqb (field f vs k) 0)) (same p n)) i

    -- a set that is kept, or not
    kept_some : (n : ℕ) (ys : List Pair) → not_null_and in_set (bind (unless_empty ys) (λ y. Some (n, y))) ≡ some_of (nonzero get f k) ys
    unfolding not_null_and bind unless_empty some_of
    kept_some n [] = refl
    kept_some n (y ∷ ys) = refl

    set_some : (o : Option ℕ) (s : Option (List Pair))
        → not_null_and in_set (bind o (λ n. bind s (λ x. bind (cut_pairs g x) (λ y. Some (n, y))))) ≡ is_some o && not_null_and (λ ps. some_of (nonzero get f k) (map_some (cut_pair g) ps)) s
    unfolding not_null_and bind cut_pairs is_some
    set_some None s = refl
    set_some (Some n) None = refl
    set_some (Some n) (Some ps) = kept_some n (map_some (cut_pair g) ps)

    set_used : (c : ℕ) (s : Option (List Pair))
        → not_null_and in_set (bind (find g c) (λ n. bind s (λ x. bind (cut_pairs g x) (λ y. Some (n, y))))) ≡ set_kept (λ c p. pair_survives g c p && nonzero get f k p) g c s
    unfolding not_null_and set_kept is_retained pair_survives
    set_used c s =
        set_some (find g c) s ∙ ap (λ (t : Bool). t && not_null_and (λ ps. some_of (nonzero get f k) (map_some (cut_pair g) ps)) s) (sym (keys_same g c)) ∙ go (is_retained g c) refl s
      where
        go : (t : Bool) → is_retained g c ≡ t → (s : Option (List Pair))
            → t && not_null_and (λ ps. some_of (nonzero get f k) (map_some (cut_pair g) ps)) s ≡ t && not_null_and (some_of (λ p. pair_survives g c p && nonzero get f k p)) s
        go true e None = refl
        go true e (Some ps) = cut_some ps ∙ some_same _ _ (λ p. rw e) ps
        go false e s = refl

    sets_used : (cov : List ℕ) (sets : List (Option (List Pair))) → some_of in_set (kept_sets (cut_pairs g) g cov sets) ≡ field_survives get f k g cov sets
    unfolding kept_sets field_survives some_set_kept some_of
    sets_used [] sets = refl
    sets_used (c ∷ cov) [] = refl
    sets_used (c ∷ cov) (s ∷ sets) =
        push_some (bind (find g c) (λ n. bind s (λ x. bind (cut_pairs g x) (λ y. Some (n, y))))) (kept_sets (cut_pairs g) g cov sets)
        ∙ ap₂ ◌||◌ (set_used c s) (sets_used cov sets)

    pub used_exactly : (cov : List ℕ) (sets : List (Option (List Pair))) → used get f k (kept_sets (cut_pairs g) g cov sets) ≡ field_survives get f k g cov sets
    used_exactly cov sets = used_some (kept_sets (cut_pairs g) g cov sets) ∙ sets_used cov sets
