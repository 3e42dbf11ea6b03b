-- Coverages, cut twice.
use Rattle.std.specs.Prelude.{ℕ, ◌≡◌, refl, Option, None, Some}
use Rattle.std.proofs.Common.{ap, ◌∙◌}
use mathlib.Core.List.{List}
use Rattle.meaning.specs.Words.{find, bind}
use Rattle.meaning.specs.Cut.{unless_empty, new_coverage, covers_left}
use Rattle.twice.specs.Answers.{Then, all_twice, some_twice, left_twice}

module _ (g₁ g₂ g : List (ℕ × ℕ)) (e : Then (find g₁) (find g₂) (find g)) where
  pub coverage_twice : (cov : List ℕ) → new_coverage g₂ (new_coverage g₁ cov) ≡ new_coverage g cov
  unfolding new_coverage
  coverage_twice cov = some_twice (find g₁) (find g₂) (find g) e cov

  pub covers_twice : Then (covers_left g₁) (covers_left g₂) (covers_left g)
  unfolding covers_left bind new_coverage
  covers_twice cs = all_twice (left g₁) (left g₂) (left g) one cs
    where
      left : List (ℕ × ℕ) → Option (List ℕ) → Option (Option (List ℕ))
      left g c = bind c (λ cov. bind (unless_empty (new_coverage g cov)) (λ k. Some (Some k)))

      one : Then (left g₁) (left g₂) (left g)
      one None = refl
      one (Some cov) = go (unless_empty (new_coverage g₁ cov)) ∙ ap (λ (o : Option (List ℕ)). bind o (λ k. Some (Some k))) (left_twice (find g₁) (find g₂) (find g) e cov)
        where
          go : (o : Option (List ℕ)) → bind (bind o (λ k. Some (Some k))) (left g₂) ≡ bind (bind o (λ l. unless_empty (new_coverage g₂ l))) (λ k. Some (Some k))
          go None = refl
          go (Some k) = refl
