-- Single substitutions, cut twice.
use Prim.Native.Nat.{ℕ}
use Rattle.std.specs.Prelude.{◌≡◌, refl, Bool, true, false, cond, eqb, Option, None, Some}
use Rattle.std.proofs.Common.{sym, ap, ◌∙◌, eqb-true}
use mathlib.Core.List.{List, [], ◌∷◌}
use Rattle.meaning.specs.Words.{keys, values, every, find, bind, push, map_some}
use Rattle.meaning.specs.Tables.{Table, delta_pairs, list_pairs}
use Rattle.meaning.specs.Cut.{kept_substitutes, delta_of, agree, kept_singles, cut}
use Rattle.laws.specs.Stands.{All, all_map, Word}
use Rattle.laws.specs.Through.{Opt}
use Rattle.laws.specs.SetsBack.{Words2}
use Rattle.laws.specs.CutCells.{all_every}
use Rattle.promises.specs.Singles.{delta_is, list_is}
use Rattle.twice.specs.Answers.{Then, bind_none, some_twice}

-- what is kept holds new ids only
kept_words : (g es : List (ℕ × ℕ)) → ((x : ℕ) → Opt Word (find g x)) → All Words2 (kept_substitutes g es)
unfolding kept_substitutes map_some push bind
kept_words g [] w = tt
kept_words g (e ∷ es) w = go (find g e.0) (find g e.1) (w e.0) (w e.1) (kept_words g es w)
  where
    go : (o p : Option ℕ) → Opt Word o → Opt Word p → All Words2 (kept_substitutes g es)
        → All Words2 (push (bind o (λ n. bind p (λ m. Some (n, m)))) (kept_substitutes g es))
    go None p a b i = i
    go (Some n) None a b i = i
    go (Some n) (Some m) a b i = ((a, b), i)

-- how a table by a delta, or by a list, is cut
cut_delta : (g l : List (ℕ × ℕ)) (cov : List ℕ) (d : ℕ) → cut g l (Table.single_delta (Some cov) d) ≡ kept_singles (kept_substitutes g (delta_pairs cov d))
unfolding cut
cut_delta g l cov d = refl

cut_list : (g l : List (ℕ × ℕ)) (cov subs : List ℕ) → cut g l (Table.single_list (Some cov) subs) ≡ kept_singles (kept_substitutes g (list_pairs cov subs))
unfolding cut
cut_list g l cov subs = refl

-- what is kept, as a table, says the pairs that were kept
kept_says : (g l ks : List (ℕ × ℕ)) → All Words2 ks → bind (kept_singles ks) (cut g l) ≡ kept_singles (kept_substitutes g ks)
unfolding bind agree kept_singles kept_substitutes map_some
kept_says g l [] w = refl
kept_says g l (e ∷ r) w = go (every (λ x. eqb (delta_of x) (delta_of e)) r) refl
  where
    ks : List (ℕ × ℕ)
    ks = e ∷ r

    alike : every (λ x. eqb (delta_of x) (delta_of e)) r ≡ true → All (λ x. delta_of x ≡ delta_of e) ks
    alike h = (refl, all_map (λ (x : ℕ × ℕ). eqb (delta_of x) (delta_of e) ≡ true) (λ x. delta_of x ≡ delta_of e) (λ x p. eqb-true (delta_of x) (delta_of e) p) r (all_every (λ x. eqb (delta_of x) (delta_of e)) r h))

    go : (b : Bool) → every (λ x. eqb (delta_of x) (delta_of e)) r ≡ b
        → cut g l (cond b (Table.single_delta (Some (keys ks)) (delta_of e)) (Table.single_list (Some (keys ks)) (values ks))) ≡ kept_singles (kept_substitutes g ks)
    go true h = cut_delta g l (keys ks) (delta_of e) ∙ ap (λ (es : List (ℕ × ℕ)). kept_singles (kept_substitutes g es)) (delta_is (delta_of e) ks w (alike h))
    go false h = cut_list g l (keys ks) (values ks) ∙ ap (λ (es : List (ℕ × ℕ)). kept_singles (kept_substitutes g es)) (list_is ks)

module _ (g₁ g₂ g : List (ℕ × ℕ)) (e : Then (find g₁) (find g₂) (find g)) where
  substitutes_twice : (es : List (ℕ × ℕ)) → kept_substitutes g₂ (kept_substitutes g₁ es) ≡ kept_substitutes g es
  unfolding kept_substitutes bind
  substitutes_twice es = some_twice (one g₁) (one g₂) (one g) twice es
    where
      one : List (ℕ × ℕ) → ℕ × ℕ → Option (ℕ × ℕ)
      one g e = bind (find g e.0) (λ n. bind (find g e.1) (λ m. Some (n, m)))

      go : (o p : Option ℕ) → bind {A = ℕ × ℕ} (bind o (λ n. bind p (λ m. Some (n, m)))) (one g₂) ≡ bind (bind o (find g₂)) (λ n. bind (bind p (find g₂)) (λ m. Some (n, m)))
      go None p = refl
      go (Some n) None = sym (bind_none (find g₂ n))
      go (Some n) (Some m) = refl

      twice : Then (one g₁) (one g₂) (one g)
      twice x = go (find g₁ x.0) (find g₁ x.1) ∙ rw (e x.0, e x.1)

  pub singles_twice : (l₂ : List (ℕ × ℕ)) → ((x : ℕ) → Opt Word (find g₁ x)) → (es : List (ℕ × ℕ)) → bind (kept_singles (kept_substitutes g₁ es)) (cut g₂ l₂) ≡ kept_singles (kept_substitutes g es)
  singles_twice l₂ w es = kept_says g₂ l₂ (kept_substitutes g₁ es) (kept_words g₁ es w) ∙ ap kept_singles (substitutes_twice es)
