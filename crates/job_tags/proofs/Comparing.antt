-- The comparison of a file's end with a tag.
use Prim.Native.Nat.{ℕ, ◌-◌, ◌≤◌}
use mathlib.Core.Path.{◌≡◌, refl, sym, ap, ◌∙◌}
use mathlib.Core.Bool.{Bool, true, false, cond, ◌&&◌}
use mathlib.Core.List.{List, [], ◌∷◌}
use native.Mathlib.Omega.{arith}
use lib.ListN.{length, drop, take, length-drop}
use lib.Seq.{take_all}
use lib.Pointwise.{pointwise}
use lib.Dec.{eqb}
use Rattle.meaning.specs.Job.{eq_list, ascii, tag, runs_tag, ends_in, tagged, form_of}

-- `==` compares as the meaning says
compared : (a b : List ℕ) → pointwise eqb a b ≡ eq_list a b
unfolding eq_list
compared [] [] = refl
compared [] (y ∷ b) = refl
compared (x ∷ a) [] = refl
compared (x ∷ a) (y ∷ b) = ap (λ (t : Bool). eqb x y && t) (compared a b)

-- the last four bytes, compared with a tag
pub tag_says : (f tag : List ℕ) {r : Bool} → 30 ≤ length f → r ≡ pointwise eqb (take (length f - (length f - 4)) (drop (length f - 4) f)) tag → r ≡ ends_in tag f
unfolding ends_in
tag_says f tag h e = rw (take_all (length f - (length f - 4)) (drop (length f - 4) f) (omega (arith, length-drop (length f - 4) f)), compared (drop (length f - 4) f) tag) at e

-- Each of the two tags, by its bytes.
module _ (f : List ℕ) {r : Bool} where
  pub runs_tag_lem : r ≡ ends_in (76 ∷ 83 ∷ 74 ∷ 50 ∷ []) f → r ≡ ends_in runs_tag f
  unfolding runs_tag ascii
  runs_tag_lem e = e

  pub pairs_tagged : r ≡ ends_in (76 ∷ 83 ∷ 74 ∷ 49 ∷ []) f → r ≡ true → true ≡ tagged f
  unfolding tagged tag ascii
  pairs_tagged e h =
      let d : ends_in tag f ≡ true = sym e ∙ h in
      rw d

  pub runs_tagged : r ≡ ends_in (76 ∷ 83 ∷ 74 ∷ 49 ∷ []) f → r ≡ false → {q : Bool} → q ≡ ends_in runs_tag f → q ≡ tagged f
  unfolding tagged tag ascii
  runs_tagged e h g =
      let d : ends_in tag f ≡ false = sym e ∙ h in
      rw d g

  pub form_says : r ≡ ends_in runs_tag f → {b : Bool} → r ≡ b → cond b 6 4 ≡ form_of f
  unfolding form_of
  form_says e h = rw (← e, h)
