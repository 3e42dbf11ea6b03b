-- Ascending lists that have each number once: their members say which list it is.
use Rattle.std.specs.Prelude.{ℕ, ◌+◌, ◌≤◌, ◌<◌, ◌≡◌, refl, Bool, true, false, cond, ◌||◌, List, [], ◌∷◌, ltb, eqb}
use Rattle.std.proofs.Common.{sym, ap₂, ◌∙◌, true≢false, arith, eq-eqb, eqb-true}
use Rattle.std.proofs.Math.Decide.{dec_lt}
use Rattle.meaning.specs.Words.{member}
use Rattle.meaning.specs.Cut.{insert_up}
use Rattle.laws.specs.Runs.{Up}
use Rattle.laws.specs.CutCells.{insert_up_lem}
use Rattle.ranks.specs.Listed.{low_none}

-- the numbers of a list, ascending, each once
unfoldable pub each_once : List ℕ → List ℕ
each_once [] = []
each_once (c ∷ r) = insert_up c (each_once r)

pub once_up : (l : List ℕ) → Up 0 (each_once l)
unfolding each_once
once_up [] = tt
once_up (c ∷ r) = insert_up_lem 0 c (each_once r) (omega arith) (once_up r)

-- from a lower number on
pub up_less : {low high : ℕ} (l : List ℕ) → low ≤ high → Up high l → Up low l
up_less [] h u = tt
up_less (c ∷ l) h u = (omega arith, u.1)

-- the first is a member
first_in : (c : ℕ) (l : List ℕ) → member c (c ∷ l) ≡ true
unfolding member
first_in c l = rw (eq-eqb c c refl)

-- a number that is not the first is a member if it is one of the others
rest_in : (c x : ℕ) (l : List ℕ) → eqb c x ≡ false → member x (c ∷ l) ≡ member x l
unfolding member
rest_in c x l h = rw h

pub same_members : (a b : ℕ) (l r : List ℕ) → Up a l → Up b r → ((x : ℕ) → member x l ≡ member x r) → l ≡ r
same_members a b [] [] u v h = refl
same_members a b [] (d ∷ r) u v h = absurd (true≢false (sym (first_in d r) ∙ sym (h d) ∙ low_none (d + 1) d [] tt (omega arith)))
same_members a b (c ∷ l) [] u v h = absurd (true≢false (sym (first_in c l) ∙ h c ∙ low_none (c + 1) c [] tt (omega arith)))
same_members a b (c ∷ l) (d ∷ r) u v h = step (dec_lt c d) (dec_lt d c) (λ e. same_members (c + 1) (d + 1) l r u.1 v.1 (λ x. rest e x (eqb c x) refl))
  where
    rest : c ≡ d → (x : ℕ) (t : Bool) → eqb c x ≡ t → member x l ≡ member x r
    rest e x true f =
        let g : c ≡ x = eqb-true c x f in
        low_none (c + 1) x l u.1 (omega arith) ∙ sym (low_none (d + 1) x r v.1 (omega arith))
    rest e x false f = sym (rest_in c x l f) ∙ h x ∙ rest_in d x r (rw (← e) f)

    step : Dec (c < d) → Dec (d < c) → (c ≡ d → l ≡ r) → c ∷ l ≡ d ∷ r
    step (yes p) q k = absurd (true≢false (sym (first_in c l) ∙ h c ∙ low_none d c (d ∷ r) (omega arith, v.1) p))
    step (no p) (yes q) k = absurd (true≢false (sym (first_in d r) ∙ sym (h d) ∙ low_none c d (c ∷ l) (omega arith, u.1) q))
    step (no p) (no q) k =
        let e : c ≡ d = omega arith in
        ap₂ (λ (x : ℕ) (y : List ℕ). x ∷ y) e (k e)

-- a number put into an ascending list is one more member
pub or_twice : (a b : Bool) → a || b ≡ a || (a || b)
or_twice true b = refl
or_twice false b = refl

pub or_swap : (a b c : Bool) → a || (b || c) ≡ b || (a || c)
or_swap true true c = refl
or_swap true false c = refl
or_swap false true c = refl
or_swap false false c = refl

pub insert_member : (x c : ℕ) (l : List ℕ) → member x (insert_up c l) ≡ eqb c x || member x l
unfolding member insert_up
insert_member x c [] = refl
insert_member x c (d ∷ r) = step (ltb c d) (eqb c d) refl (insert_member x c r)
  where
    step : (s t : Bool) → eqb c d ≡ t → member x (insert_up c r) ≡ eqb c x || member x r
        → member x (cond s (c ∷ d ∷ r) (cond t (d ∷ r) (d ∷ insert_up c r))) ≡ eqb c x || (eqb d x || member x r)
    step true t e k = refl
    step false true e k = rw (eqb-true c d e) (or_twice (eqb d x) (member x r))
    step false false e k = rw k (or_swap (eqb d x) (eqb c x) (member x r))
