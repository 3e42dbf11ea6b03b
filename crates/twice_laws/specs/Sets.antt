-- Sets by coverage index, cut twice.
use Rattle.std.specs.Prelude.{ℕ, ◌≡◌, Option, None, Some}
use Rattle.std.proofs.Math.Path.{refl}
use Rattle.std.proofs.Common.{ap, ◌∙◌}
use mathlib.Core.List.{List, [], ◌∷◌}
use Rattle.meaning.specs.Words.{find, bind, push}
use Rattle.meaning.specs.Cut.{kept_sets, glyphs_of, sets_of}
use Rattle.twice.specs.Answers.{Then}

module _ {A : Type 0} (g₁ g₂ g : List (ℕ × ℕ)) (e : Then (find g₁) (find g₂) (find g)) (f₁ f₂ f : A → Option A) (k : Then f₁ f₂ f) where
  pub kept_twice : (cov : List ℕ) (sets : List (Option A)) → let ks = kept_sets f₁ g₁ cov sets in kept_sets f₂ g₂ (glyphs_of ks) (sets_of ks) ≡ kept_sets f g cov sets
  unfolding kept_sets glyphs_of sets_of bind push
  kept_twice [] sets = refl
  kept_twice (c ∷ cov) [] = refl
  kept_twice (c ∷ cov) (s ∷ sets) = go (find g₁ c) s ∙ rw (e c) (ap (push (bind (find g c) (λ n. bind s (λ x. bind (f x) (λ y. Some (n, y)))))) (kept_twice cov sets))
    where
      ks : List (ℕ × A)
      ks = kept_sets f₁ g₁ cov sets

      rest : List (ℕ × A)
      rest = kept_sets f₂ g₂ (glyphs_of ks) (sets_of ks)

      one : (n : ℕ) (o : Option A) → let j = push (bind o (λ y. Some (n, y))) ks in kept_sets f₂ g₂ (glyphs_of j) (sets_of j) ≡ push (bind (find g₂ n) (λ n. bind (bind o f₂) (λ y. Some (n, y)))) rest
      one n None = inner (find g₂ n)
        where
          inner : (o : Option ℕ) → rest ≡ push (bind {B = ℕ × A} o (λ n. None)) rest
          inner None = refl
          inner (Some n) = refl
      one n (Some y) = refl

      go : (o : Option ℕ) (s : Option A) → let j = push (bind o (λ n. bind s (λ x. bind (f₁ x) (λ y. Some (n, y))))) ks in
          kept_sets f₂ g₂ (glyphs_of j) (sets_of j) ≡ push (bind (bind o (find g₂)) (λ n. bind s (λ x. bind (f x) (λ y. Some (n, y))))) rest
      go None s = refl
      go (Some n) None = inner (find g₂ n)
        where
          inner : (o : Option ℕ) → rest ≡ push (bind {B = ℕ × A} o (λ n. None)) rest
          inner None = refl
          inner (Some n) = refl
      go (Some n) (Some x) = one n (f₁ x) ∙ rw (k x)
