-- Ligatures, cut twice.
use Rattle.std.specs.Prelude.{ℕ, ◌≡◌, List, Option, None, Some}
use Rattle.std.proofs.Math.Path.{refl, sym}
use Rattle.std.proofs.Common.{◌∙◌}
use Rattle.meaning.specs.Words.{find, bind, map_all}
use Rattle.meaning.specs.Cut.{cut_ligature, cut_ligatures}
use Rattle.twice.specs.Answers.{Then, bind_none, all_twice, left_twice}

module _ (g₁ g₂ g : List (ℕ × ℕ)) (e : Then (find g₁) (find g₂) (find g)) where
  ligature_twice : Then (cut_ligature g₁) (cut_ligature g₂) (cut_ligature g)
  unfolding cut_ligature bind
  ligature_twice x = go (find g₁ x.glyph) (map_all (find g₁) x.parts) ∙ rw (e x.glyph, all_twice (find g₁) (find g₂) (find g) e x.parts)
    where
      go : (o : Option ℕ) (p : Option (List ℕ))
          → bind (bind o (λ n. bind p (λ ps. Some (record { glyph = n; count = x.count; parts = ps })))) (cut_ligature g₂)
          ≡ bind (bind o (find g₂)) (λ n. bind (bind p (map_all (find g₂))) (λ ps. Some (record { glyph = n; count = x.count; parts = ps })))
      go None p = refl
      go (Some n) None = sym (bind_none (find g₂ n))
      go (Some n) (Some ps) = refl

  pub ligatures_twice : Then (cut_ligatures g₁) (cut_ligatures g₂) (cut_ligatures g)
  unfolding cut_ligatures
  ligatures_twice xs = left_twice (cut_ligature g₁) (cut_ligature g₂) (cut_ligature g) ligature_twice xs
