-- How code can number contents: by the list of those that came first, each with another content. A content's number is the rank of its equal there.
use Rattle.std.specs.Prelude.{ℕ, suc, ◌≡◌, Bool, length, eqb, Option, None, Some, unwrap_or}
use Rattle.std.proofs.Math.Path.{refl, ap}
use Rattle.std.proofs.Common.{sym, ◌∙◌, eqb-true, eq-eqb}
use Rattle.std.proofs.Math.Bool.{true, false, cond}
use Rattle.std.proofs.lemmas.Option.{same_Some, none-some}
use mathlib.Core.List.{List, [], ◌∷◌, ◌++◌}
use Rattle.differences.specs.Entries.{one_on, rank_same, ranked}
use Rattle.difference_laws.specs.Equal.{Tells}
use Rattle.difference_laws.specs.Pairing.{one_on_lem, found}

module _ {A : Type 0} (same : A → A → Bool) where
  -- the rank of a content's equal among those that came first, if there is one
  unfoldable pub number_in : List A → A → Option ℕ
  number_in came x = rank_same same x 0 came

  -- it, where there is one
  unfoldable pub number : List A → A → ℕ
  number came x = unwrap_or (number_in came x) 0

  -- a content has a number
  abbrev pub Numbered : List A → A → Type 0
  Numbered came x = (k : ℕ) × (number_in came x ≡ Some k)

  -- `numbers_stay`: a number stays when more come
  pub numbers_stay : (came more : List A) (x : A) (k : ℕ) → number_in came x ≡ Some k → number_in (came ++ more) x ≡ Some k
  unfolding number_in rank_same one_on
  numbers_stay [] more x k h = absurd (none-some _ h)
  numbers_stay (a ∷ came) more x k h = go (same x a) h (numbers_stay came more x)
    where
      go : (b : Bool) → cond b (Some 0) (one_on (rank_same same x 0 came)) ≡ Some k → ((j : ℕ) → rank_same same x 0 came ≡ Some j → rank_same same x 0 (came ++ more) ≡ Some j)
          → cond b (Some 0) (one_on (rank_same same x 0 (came ++ more))) ≡ Some k
      go true q f = q
      go false q f = let p = one_on_lem (rank_same same x 0 came) k q in ap one_on (f p.0 p.1) ∙ ap {B = Option ℕ} Some (sym p.2)

  module _ (t : Tells same) where
    -- `numbers_new`: one that has none yet gets the next
    pub numbers_new : (came : List A) (x : A) → number_in came x ≡ None → number_in (came ++ (x ∷ [])) x ≡ Some (length came)
    unfolding number_in rank_same one_on
    numbers_new [] x h = rw (t.itself x)
    numbers_new (a ∷ came) x h = go (same x a) h (numbers_new came x)
      where
        go : (b : Bool) → cond b (Some 0) (one_on (rank_same same x 0 came)) ≡ None → (rank_same same x 0 came ≡ None → rank_same same x 0 (came ++ (x ∷ [])) ≡ Some (length came))
            → cond b (Some 0) (one_on (rank_same same x 0 (came ++ (x ∷ [])))) ≡ Some (suc (length came))
        go true q f = absurd (none-some _ (sym q))
        go false q f = ap one_on (f (not_on (rank_same same x 0 came) q))
          where
            not_on : (o : Option ℕ) → one_on o ≡ None → o ≡ None
            not_on None z = refl
            not_on (Some j) z = absurd (none-some _ (sym z))

    -- `numbers_tell`: of contents that have numbers the numbers are equal exactly if the contents are
    pub numbers_tell : (came : List A) (x y : A) → Numbered came x → Numbered came y → same x y ≡ eqb (number came x) (number came y)
    unfolding number_in number
    numbers_tell came x y p q = go (same x y) (eqb (number came x) (number came y)) refl refl
      where
        is : (z : A) (w : Numbered came z) → number came z ≡ w.0
        is z w = ap (λ (o : Option ℕ). unwrap_or o 0) w.1

        go : (s b : Bool) → same x y ≡ s → eqb (number came x) (number came y) ≡ b → s ≡ b
        go true true e f = refl
        go false false e f = refl
        go true false e f = sym (eq-eqb (number came x) (number came y) (ap (number came) (t.equal x y e))) ∙ f
        go false true e f =
            let k = sym (is x p) ∙ eqb-true (number came x) (number came y) f ∙ is y q in
            let a = (found t x 0 came p.0 p.1).0 in
            let b = (found t y 0 came q.0 q.1).0 in
            let z = same_Some x y (sym a ∙ ap (ranked came) k ∙ b) in
            sym e ∙ ap (same x) (sym z) ∙ t.itself x
