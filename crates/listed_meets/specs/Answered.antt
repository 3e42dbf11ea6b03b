-- Whether a map has a glyph of a coverage.
use Rattle.std.specs.Prelude.{ℕ, ◌≡◌, refl, Bool, true, false, ◌||◌, List, [], ◌∷◌, Option, None, Some}
use Rattle.meaning.specs.Words.{find, is_some, push, map_some}
use Rattle.meaning.specs.Cut.{unless_empty, new_coverage}

-- the map f answers one of the glyphs
unfoldable pub answered : (ℕ → Option ℕ) → List ℕ → Bool
answered f [] = false
answered f (c ∷ cov) = is_some (f c) || answered f cov

-- maps that answer the same have the same glyphs
pub answered_same : (f h : ℕ → Option ℕ) → ((x : ℕ) → f x ≡ h x) → (cov : List ℕ) → answered f cov ≡ answered h cov
unfolding answered
answered_same f h e [] = refl
answered_same f h e (c ∷ cov) = rw (e c, answered_same f h e cov)

-- a glyph has an answer if and only if the new coverage has a glyph
pub answered_left : (g : List (ℕ × ℕ)) (cov : List ℕ) → answered (find g) cov ≡ is_some (unless_empty (new_coverage g cov))
unfolding answered new_coverage map_some push is_some unless_empty
answered_left g [] = refl
answered_left g (c ∷ cov) = step (find g c) (answered_left g cov)
  where
    step : (o : Option ℕ) → answered (find g) cov ≡ is_some (unless_empty (new_coverage g cov)) → is_some o || answered (find g) cov ≡ is_some (unless_empty (push o (new_coverage g cov)))
    step None e = e
    step (Some n) e = refl
