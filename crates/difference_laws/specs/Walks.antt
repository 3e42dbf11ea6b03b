-- The walks: which keys are gone through, what an empty list says of each, and lists that are told by what stands beside each key or rank.
use Prim.Native.Nat.{ℕ, zero, suc, ◌+◌, ◌≤◌, ◌<◌}
use Rattle.std.specs.Prelude.{◌≡◌, Bool, ◌||◌, length, leb, ltb, eqb, None, Some}
use Rattle.std.proofs.Math.Path.{refl, sym, ap₂}
use Rattle.std.proofs.Common.{ap, ◌∙◌, true≢false, eqb-true, eq-eqb, ne_eqb, leb-true, leb-false, ltb-true, ltb-false}
use Rattle.std.proofs.Math.Bool.{true, false, cond}
use Rattle.std.proofs.lemmas.Option.{same_Some, none-some}
use mathlib.Core.List.{List, [], ◌∷◌, ◌++◌}
use native.Mathlib.Omega.{arith}
use Rattle.std.proofs.lemmas.Bool.{eqb-false}
use Rattle.meaning.specs.Words.{member, up_from}
use Rattle.meaning.specs.Cut.{insert_up, glyphs_of}
use Rattle.laws.specs.Runs.{Up}
use Rattle.differences.specs.Entries.{Entry, each, beside, keys_of, ranked, longer}

-- Members.

pub or_right : (a b : Bool) → b ≡ true → a || b ≡ true
or_right true b h = refl
or_right false b h = h

pub or_cases : {P : Type 0} (a b : Bool) → a || b ≡ true → (a ≡ true → P) → (b ≡ true → P) → P
or_cases true b h f k = f refl
or_cases false b h f k = k h

-- what is put into an ascending list is there, with what was there
pub insert_member : (c : ℕ) (l : List ℕ) (k : ℕ) → member k (insert_up c l) ≡ eqb c k || member k l
unfolding insert_up member
insert_member c [] k = refl
insert_member c (d ∷ r) k = step (ltb c d) (eqb c d) refl (insert_member c r k)
  where
    twice : (a b : Bool) → a || b ≡ a || (a || b)
    twice true b = refl
    twice false b = refl

    swap : (a b m : Bool) → a || (b || m) ≡ b || (a || m)
    swap true true m = refl
    swap true false m = refl
    swap false b m = refl

    step : (s t : Bool) → eqb c d ≡ t → member k (insert_up c r) ≡ eqb c k || member k r
        → member k (cond s (c ∷ d ∷ r) (cond t (d ∷ r) (d ∷ insert_up c r))) ≡ eqb c k || (eqb d k || member k r)
    step true t e h = refl
    step false true e h = rw (eqb-true c d e) (twice (eqb d k) (member k r))
    step false false e h = rw h (swap (eqb d k) (eqb c k) (member k r))

-- a number put into an ascending list leaves it ascending
pub insert_up_lem : (low c : ℕ) (l : List ℕ) → low ≤ c → Up low l → Up low (insert_up c l)
unfolding insert_up
insert_up_lem low c [] h u = (h, tt)
insert_up_lem low c (d ∷ r) h u = step (ltb c d) (eqb c d) refl refl (λ g. insert_up_lem (d + 1) c r g u.1)
  where
    step : (s t : Bool) → ltb c d ≡ s → eqb c d ≡ t → (d + 1 ≤ c → Up (d + 1) (insert_up c r)) → Up low (cond s (c ∷ d ∷ r) (cond t (d ∷ r) (d ∷ insert_up c r)))
    step true t e f k = (h, (omega (arith, ltb-true c d e), u.1))
    step false true e f k = u
    step false false e f k = (u.0, k (omega (arith, ltb-false c d e, eqb-false c d f)))

module _ {A : Type 0} where
  -- the keys of both lists ascend
  pub keys_up : (l r : List (ℕ × A)) → Up 0 (keys_of l r)
  unfolding keys_of
  keys_up [] [] = tt
  keys_up [] (e ∷ r) = insert_up_lem 0 e.0 (keys_of [] r) (omega arith) (keys_up [] r)
  keys_up (e ∷ l) r = insert_up_lem 0 e.0 (keys_of l r) (omega arith) (keys_up l r)

  -- a key of either list is one of them
  pub keys_right : (l r : List (ℕ × A)) (k : ℕ) (a : A) → beside r k ≡ Some a → member k (keys_of l r) ≡ true
  unfolding keys_of beside
  keys_right [] [] k a h = absurd (none-some _ h)
  keys_right [] (e ∷ r) k a h = insert_member e.0 (keys_of [] r) k ∙ step (eqb e.0 k) h (keys_right [] r k a)
    where
      step : (b : Bool) → cond b (Some e.1) (beside r k) ≡ Some a → (beside r k ≡ Some a → member k (keys_of [] r) ≡ true) → b || member k (keys_of [] r) ≡ true
      step true q f = refl
      step false q f = f q
  keys_right (e ∷ l) r k a h = insert_member e.0 (keys_of l r) k ∙ or_right (eqb e.0 k) _ (keys_right l r k a h)

  pub keys_left : (l r : List (ℕ × A)) (k : ℕ) (a : A) → beside l k ≡ Some a → member k (keys_of l r) ≡ true
  unfolding keys_of beside
  keys_left [] r k a h = absurd (none-some _ h)
  keys_left (e ∷ l) r k a h = insert_member e.0 (keys_of l r) k ∙ step (eqb e.0 k) h (keys_left l r k a)
    where
      step : (b : Bool) → cond b (Some e.1) (beside l k) ≡ Some a → (beside l k ≡ Some a → member k (keys_of l r) ≡ true) → b || member k (keys_of l r) ≡ true
      step true q f = refl
      step false q f = f q

  -- below the first key nothing stands
  pub beside_low : (low : ℕ) (l : List (ℕ × A)) (k : ℕ) → Up low (glyphs_of l) → k < low → beside l k ≡ None
  unfolding beside glyphs_of
  beside_low low [] k u h = refl
  beside_low low (e ∷ l) k u h = rw (ne_eqb e.0 k (λ q. omega (arith, u.0))) (beside_low (e.0 + 1) l k u.1 (omega (arith, u.0)))

  -- ascending lists with the same beside each key are equal
  pub beside_tells : (low : ℕ) (l r : List (ℕ × A)) → Up low (glyphs_of l) → Up low (glyphs_of r) → ((k : ℕ) → beside l k ≡ beside r k) → l ≡ r
  unfolding beside glyphs_of
  beside_tells low [] [] u v h = refl
  beside_tells low [] (e ∷ r) u v h = absurd (none-some e.1 (h e.0 ∙ rw (eq-eqb e.0 e.0 refl)))
  beside_tells low (e ∷ l) [] u v h = absurd (none-some e.1 (sym (h e.0) ∙ rw (eq-eqb e.0 e.0 refl)))
  beside_tells low (e ∷ l) (f ∷ r) u v h = step (ltb e.0 f.0) (ltb f.0 e.0) refl refl (λ q. beside_tells (e.0 + 1) l r u.1 (rw (← q) at v.1))
    where
      at_e : Some e.1 ≡ beside (f ∷ r) e.0
      at_e = sym (rw (eq-eqb e.0 e.0 refl)) ∙ h e.0

      at_f : beside (e ∷ l) f.0 ≡ Some f.1
      at_f = h f.0 ∙ rw (eq-eqb f.0 f.0 refl)

      step : (s t : Bool) → ltb e.0 f.0 ≡ s → ltb f.0 e.0 ≡ t → (e.0 ≡ f.0 → ((k : ℕ) → beside l k ≡ beside r k) → l ≡ r) → e ∷ l ≡ f ∷ r
      step true t a b k = absurd (none-some e.1 (sym (beside_low (e.0 + 1) (f ∷ r) e.0 (omega (arith, ltb-true e.0 f.0 a), v.1) (omega arith)) ∙ sym at_e))
      step false true a b k = absurd (none-some f.1 (sym (beside_low (f.0 + 1) (e ∷ l) f.0 (omega (arith, ltb-true f.0 e.0 b), u.1) (omega arith)) ∙ at_f))
      step false false a b k =
          let q : e.0 ≡ f.0 = omega (arith, ltb-false e.0 f.0 a, ltb-false f.0 e.0 b) in
          let value : e.1 ≡ f.1 = same_Some e.1 f.1 (at_e ∙ rw (eq-eqb f.0 e.0 (sym q))) in
          ap₂ (λ (x : ℕ × A) (y : List (ℕ × A)). x ∷ y) (ap₂ (λ (x : ℕ) (y : A). (x, y)) q value) (k q (λ j. rest q j (eqb e.0 j) refl))
        where
          rest : e.0 ≡ f.0 → (j : ℕ) (b : Bool) → eqb e.0 j ≡ b → beside l j ≡ beside r j
          rest q j true g =
              let w = eqb-true e.0 j g in
              beside_low (e.0 + 1) l j u.1 (omega arith) ∙ sym (beside_low (f.0 + 1) r j v.1 (omega arith))
          rest q j false g = rw (g, rw q at g) at (h j)

pub cons_nil : {A : Type 0} {x : A} {l : List A} → x ∷ l ≡ [] → ⊥
cons_nil h = omega (arith, ap length h)

-- what is listed for all is empty exactly if it is for each
pub append_nil : {A : Type 0} (a b : List A) → a ++ b ≡ [] → (a ≡ []) × (b ≡ [])
append_nil [] b h = (refl, h)
append_nil (x ∷ a) b h = absurd (cons_nil h)

pub each_nil : (f : ℕ → List Entry) (l : List ℕ) → each f l ≡ [] → (k : ℕ) → member k l ≡ true → f k ≡ []
unfolding each member
each_nil f [] h k m = absurd (true≢false (sym m))
each_nil f (a ∷ l) h k m =
    let p = append_nil (f a) (each f l) h in
    or_cases (eqb a k) (member k l) m (λ e. rw (← eqb-true a k e) p.0) (each_nil f l p.1 k)

pub nil_each : (f : ℕ → List Entry) (l : List ℕ) → ((k : ℕ) → f k ≡ []) → each f l ≡ []
unfolding each
nil_each f [] h = refl
nil_each f (a ∷ l) h = rw (h a) (nil_each f l h)

-- the numbers from a on
pub member_up : (a n k : ℕ) → a ≤ k → k < a + n → member k (up_from a n) ≡ true
unfolding up_from member
member_up a zero k h g = absurd (omega arith)
member_up a (suc n) k h g = step (eqb a k) refl (member_up (a + 1) n k)
  where
    step : (b : Bool) → eqb a k ≡ b → (a + 1 ≤ k → k < a + 1 + n → member k (up_from (a + 1) n) ≡ true) → b || member k (up_from (a + 1) n) ≡ true
    step true e f = refl
    step false e f = let d = eqb-false a k e in f (omega (arith, d)) (omega arith)

pub up_member : (a n k : ℕ) → member k (up_from a n) ≡ true → k < a + n
unfolding up_from member
up_member a zero k m = absurd (true≢false (sym m))
up_member a (suc n) k m = or_cases (eqb a k) (member k (up_from (a + 1) n)) m (λ e. let q = eqb-true a k e in omega arith) (λ e. omega (arith, up_member (a + 1) n k e))

pub up_from_lem : (a n : ℕ) → Up a (up_from a n)
unfolding up_from
up_from_lem a zero = tt
up_from_lem a (suc n) = (omega arith, up_from_lem (a + 1) n)

-- Ranks.

pub longer_left : (m n i : ℕ) → i < m → i < longer m n
unfolding longer
longer_left m n i h = go (leb m n) refl
  where
    go : (b : Bool) → leb m n ≡ b → i < cond b n m
    go true e = omega (arith, leb-true m n e)
    go false e = h

pub longer_right : (m n i : ℕ) → i < n → i < longer m n
unfolding longer
longer_right m n i h = go (leb m n) refl
  where
    go : (b : Bool) → leb m n ≡ b → i < cond b n m
    go true e = h
    go false e = omega (arith, leb-false m n e)

module _ {A : Type 0} where
  -- a rank that is held is below the length
  pub ranked_in : (l : List A) (i : ℕ) (x : A) → ranked l i ≡ Some x → i < length l
  unfolding ranked
  ranked_in [] i x h = absurd (none-some _ h)
  ranked_in (a ∷ l) zero x h = omega arith
  ranked_in (a ∷ l) (suc i) x h = omega (arith, ranked_in l i x h)

  -- lists with the same at each rank are equal
  pub ranked_tells : (l r : List A) → ((i : ℕ) → ranked l i ≡ ranked r i) → l ≡ r
  unfolding ranked
  ranked_tells [] [] h = refl
  ranked_tells [] (b ∷ r) h = absurd (none-some b (h 0))
  ranked_tells (a ∷ l) [] h = absurd (none-some a (sym (h 0)))
  ranked_tells (a ∷ l) (b ∷ r) h = ap₂ (λ (x : A) (y : List A). x ∷ y) (same_Some a b (h 0)) (ranked_tells l r (λ i. h (suc i)))
