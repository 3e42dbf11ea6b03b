-- The entries of a map from an old number on: what a walk over old numbers has left.
use Rattle.std.specs.Prelude.{ℕ, zero, suc, ◌+◌, ◌≤◌, ◌<◌, ◌≡◌, refl, Bool, true, false, cond, List, [], ◌∷◌, ◌++◌, length, ltb, None, Some}
use Rattle.std.proofs.Common.{sym, ap, ◌∙◌, true≢false, arith, lt-ltb, le-ltb, eq-eqb, ne_eqb}
use Rattle.std.proofs.Math.Decide.{dec_lt}
use Rattle.meaning.specs.Words.{keys, find, is_some}
use Rattle.meaning.specs.Maps.{steps}
use Rattle.laws.specs.Runs.{Up}

-- the entries from the old number z on
unfoldable pub from_old : ℕ → List (ℕ × ℕ) → List (ℕ × ℕ)
from_old z [] = []
from_old z (e ∷ g) = cond (ltb e.0 z) (from_old z g) (e ∷ g)

-- all of them
pub from_first : (g : List (ℕ × ℕ)) → from_old 0 g ≡ g
unfolding from_old
from_first [] = refl
from_first (e ∷ g) = rw (le-ltb e.0 0 (omega arith))

pub from_low : (z low : ℕ) (g : List (ℕ × ℕ)) → Up low (keys g) → z ≤ low → from_old z g ≡ g
unfolding from_old keys
from_low z low [] u h = refl
from_low z low (e ∷ g) u h = rw (le-ltb e.0 z (omega (arith, u.0)))

-- there are no more than all
pub from_few : (z : ℕ) (g : List (ℕ × ℕ)) → length (from_old z g) ≤ length g
unfolding from_old
from_few z [] = omega arith
from_few z (e ∷ g) = step (ltb e.0 z) (from_few z g)
  where
    step : (b : Bool) → length (from_old z g) ≤ length g → length (cond b (from_old z g) (e ∷ g)) ≤ suc (length g)
    step true h = omega arith
    step false h = omega arith

no_some : {x : ℕ} → Some x ≡ None → ⊥
unfolding is_some
no_some e = true≢false (ap is_some e)

first_found : (e : ℕ × ℕ) (g : List (ℕ × ℕ)) (x : ℕ) → e.0 ≡ x → find (e ∷ g) x ≡ Some e.1
unfolding find
first_found e g x h = rw (eq-eqb e.0 x h)

later_found : (e : ℕ × ℕ) (g : List (ℕ × ℕ)) (x : ℕ) → e.0 < x → find (e ∷ g) x ≡ find g x
unfolding find
later_found e g x h = rw (ne_eqb e.0 x (λ q. omega arith))

low_found : (low x : ℕ) (g : List (ℕ × ℕ)) → Up low (keys g) → x < low → find g x ≡ None
unfolding find keys
low_found low x [] u h = refl
low_found low x (e ∷ g) u h = rw (ne_eqb e.0 x (λ q. omega (arith, u.0))) (low_found (e.0 + 1) x g u.1 (omega (arith, u.0)))

-- numbers without an entry are passed
pub from_gap : (z x low : ℕ) (g : List (ℕ × ℕ)) → Up low (keys g) → z ≤ x → ((y : ℕ) → z ≤ y → y < x → find g y ≡ None) → from_old z g ≡ from_old x g
unfolding from_old keys
from_gap z x low [] u h f = refl
from_gap z x low (e ∷ g) u h f = step (dec_lt e.0 z) (dec_lt e.0 x) (λ k. from_gap z x (e.0 + 1) g u.1 h k)
  where
    step : Dec (e.0 < z) → Dec (e.0 < x) → (((y : ℕ) → z ≤ y → y < x → find g y ≡ None) → from_old z g ≡ from_old x g) → cond (ltb e.0 z) (from_old z g) (e ∷ g) ≡ cond (ltb e.0 x) (from_old x g) (e ∷ g)
    step (yes a) b r = rw (lt-ltb e.0 z a, lt-ltb e.0 x (omega arith)) (r (λ y p q. sym (later_found e g y (omega arith)) ∙ f y p q))
    step (no a) (yes b) r = absurd (no_some (sym (first_found e g e.0 refl) ∙ f e.0 (omega arith) b))
    step (no a) (no b) r = rw (le-ltb e.0 z (omega arith), le-ltb e.0 x (omega arith))

pub from_end : (z low : ℕ) (g : List (ℕ × ℕ)) → Up low (keys g) → ((y : ℕ) → z ≤ y → find g y ≡ None) → from_old z g ≡ []
unfolding from_old keys
from_end z low [] u f = refl
from_end z low (e ∷ g) u f = step (dec_lt e.0 z) (λ k. from_end z (e.0 + 1) g u.1 k)
  where
    step : Dec (e.0 < z) → (((y : ℕ) → z ≤ y → find g y ≡ None) → from_old z g ≡ []) → cond (ltb e.0 z) (from_old z g) (e ∷ g) ≡ []
    step (yes a) r = rw (lt-ltb e.0 z a) (r (λ y p. sym (later_found e g y (omega arith)) ∙ f y p))
    step (no a) r = absurd (no_some (sym (first_found e g e.0 refl) ∙ f e.0 (omega arith)))

-- a number with an entry
same_some : {x y : ℕ} → Some x ≡ Some y → x ≡ y
same_some e = cc

pub from_one : (z y low : ℕ) (g : List (ℕ × ℕ)) → Up low (keys g) → find g z ≡ Some y → from_old z g ≡ (z, y) ∷ from_old (z + 1) g
unfolding from_old keys find
from_one z y low [] u f = absurd (no_some (sym f))
from_one z y low (e ∷ g) u f = step (dec_lt e.0 z) (dec_lt z e.0) (λ k. from_one z y (e.0 + 1) g u.1 k)
  where
    step : Dec (e.0 < z) → Dec (z < e.0) → (find g z ≡ Some y → from_old z g ≡ (z, y) ∷ from_old (z + 1) g) → cond (ltb e.0 z) (from_old z g) (e ∷ g) ≡ (z, y) ∷ cond (ltb e.0 (z + 1)) (from_old (z + 1) g) (e ∷ g)
    step (yes a) b r = rw (lt-ltb e.0 z a, lt-ltb e.0 (z + 1) (omega arith)) (r (sym (later_found e g z a) ∙ f))
    step (no a) (yes b) r = absurd (no_some (sym f ∙ low_found e.0 z (e ∷ g) (omega arith, u.1) b))
    step (no a) (no b) r =
        let k : e.0 ≡ z = omega arith in
        let v : e.1 ≡ y = same_some (sym (first_found e g z k) ∙ f) in
        rw (le-ltb e.0 z (omega arith), lt-ltb e.0 (z + 1) (omega arith), from_low (z + 1) (e.0 + 1) g u.1 (omega arith), ← k, ← v)

-- numbers in step
pub from_steps : (z y n low : ℕ) (g : List (ℕ × ℕ)) → Up low (keys g) → ((j : ℕ) → j < n → find g (z + j) ≡ Some (y + j)) → from_old z g ≡ steps z y n ++ from_old (z + n) g
unfolding steps
from_steps z y zero low g u f =
    let e : z + 0 ≡ z = omega arith in
    rw e
from_steps z y (suc n) low g u f =
    let e : z + suc n ≡ z + 1 + n = omega arith in
    let a : z + 0 ≡ z = omega arith in
    let b : y + 0 ≡ y = omega arith in
    let h : find g z ≡ Some y = rw (a, b) at (f 0 (omega arith)) in
    rw (e, from_one z y low g u h) (ap (λ (l : List (ℕ × ℕ)). (z, y) ∷ l) (from_steps (z + 1) (y + 1) n low g u (λ j l. next j l)))
  where
    next : (j : ℕ) → j < n → find g (z + 1 + j) ≡ Some (y + 1 + j)
    next j l =
        let p : z + suc j ≡ z + 1 + j = omega arith in
        let q : y + suc j ≡ y + 1 + j = omega arith in
        rw (p, q) at (f (suc j) (omega arith))
