-- How code can walk the keys of two lists: both lists from the front, the lower key first; or all ids from 0 on, each asked in both.
use Rattle.std.specs.Prelude.{ℕ, zero, suc, ◌+◌, ◌≤◌, ◌<◌, ◌≡◌, Bool, cond, ◌||◌, ltb, eqb, Option, None, Some}
use Rattle.std.proofs.Math.Path.{refl, sym, ap}
use Rattle.std.proofs.Common.{ap₂, ◌∙◌, true≢false, eqb-true, eq-eqb, ne_eqb, ltb-true, ltb-false, lt-ltb}
use Rattle.std.proofs.Math.Bool.{true, false}
use mathlib.Core.List.{List, [], ◌∷◌, ◌++◌}
use native.Mathlib.Omega.{arith}
use Rattle.std.proofs.lemmas.Bool.{eqb-false}
use Rattle.meaning.specs.Words.{member, is_some, up_from}
use Rattle.meaning.specs.Cut.{insert_up, glyphs_of}
use Rattle.laws.specs.Runs.{Up}
use Rattle.laws.specs.Stands.{All}
use Rattle.differences.specs.Entries.{Entry, each, beside, keys_of, at_key, by_key}
use Rattle.difference_laws.specs.Walks.{insert_member, insert_up_lem, keys_up, beside_low}

-- Ascending numbers.

-- none below the first is a member
up_low : (low : ℕ) (l : List ℕ) (k : ℕ) → Up low l → k < low → member k l ≡ false
unfolding member
up_low low [] k u h = refl
up_low low (a ∷ l) k u h = rw (ne_eqb a k (λ q. omega (arith, u.0))) (up_low (a + 1) l k u.1 (omega (arith, u.0)))

-- ascending numbers with the same members are equal
up_tells : (low : ℕ) (l r : List ℕ) → Up low l → Up low r → ((k : ℕ) → member k l ≡ member k r) → l ≡ r
unfolding member
up_tells low [] [] u v h = refl
up_tells low [] (b ∷ r) u v h = absurd (true≢false (sym (h b ∙ rw (eq-eqb b b refl))))
up_tells low (a ∷ l) [] u v h = absurd (true≢false (sym (rw (eq-eqb a a refl)) ∙ h a))
up_tells low (a ∷ l) (b ∷ r) u v h = step (ltb a b) (ltb b a) refl refl (λ q. up_tells (a + 1) l r u.1 (rw (← q) at v.1))
  where
    at_a : true ≡ member a (b ∷ r)
    at_a = sym (rw (eq-eqb a a refl)) ∙ h a

    at_b : member b (a ∷ l) ≡ true
    at_b = h b ∙ rw (eq-eqb b b refl)

    rest : a ≡ b → (k : ℕ) (t : Bool) → eqb a k ≡ t → member k l ≡ member k r
    rest q k true e =
        let w = eqb-true a k e in
        up_low (a + 1) l k u.1 (omega arith) ∙ sym (up_low (b + 1) r k v.1 (omega arith))
    rest q k false e = rw (e, rw q at e) at (h k)

    step : (s t : Bool) → ltb a b ≡ s → ltb b a ≡ t → (a ≡ b → ((k : ℕ) → member k l ≡ member k r) → l ≡ r) → a ∷ l ≡ b ∷ r
    step true t x y k = absurd (true≢false (at_a ∙ up_low (a + 1) (b ∷ r) a (omega (arith, ltb-true a b x), v.1) (omega arith)))
    step false true x y k = absurd (true≢false (sym at_b ∙ up_low (b + 1) (a ∷ l) b (omega (arith, ltb-true b a y), u.1) (omega arith)))
    step false false x y k =
        let q : a ≡ b = omega (arith, ltb-false a b x, ltb-false b a y) in
        ap₂ (λ (x : ℕ) (y : List ℕ). x ∷ y) q (k q (λ j. rest q j (eqb a j) refl))

lower : (low k : ℕ) (l : List ℕ) → low ≤ k → Up (k + 1) l → Up low l
lower low k [] h u = tt
lower low k (x ∷ l) h u = (omega (arith, u.0), u.1)

-- a number below all others is put before them
insert_low : (k : ℕ) (l : List ℕ) → Up (k + 1) l → insert_up k l ≡ k ∷ l
unfolding insert_up
insert_low k [] u = refl
insert_low k (d ∷ l) u = rw (lt-ltb k d (omega (arith, u.0)))

-- the same is listed for numbers that ask the same
each_same : (f h : ℕ → List Entry) (low : ℕ) (ks : List ℕ) → Up low ks → ((k : ℕ) → low ≤ k → f k ≡ h k) → each f ks ≡ each h ks
unfolding each
each_same f h low [] u e = refl
each_same f h low (k ∷ ks) u e = rw (e k u.0, each_same f h (k + 1) ks u.1 (λ j q. e j (omega (arith, u.0))))

-- nothing is listed for the ids that are no key
each_ids : (f : ℕ → List Entry) (a n : ℕ) (ks : List ℕ) → Up a ks → All (λ k. k < a + n) ks → ((j : ℕ) → a ≤ j → member j ks ≡ false → f j ≡ []) → each f (up_from a n) ≡ each f ks
unfolding each up_from member
each_ids f a zero [] u w e = refl
each_ids f a zero (k ∷ ks) u w e = absurd (omega (arith, u.0, w.0))
each_ids f a (suc n) [] u w e = rw (e a (omega arith) refl) (each_ids f (a + 1) n [] tt tt (λ j h m. e j (omega arith) m))
each_ids f a (suc n) (k ∷ ks) u w e =
    step (eqb k a) refl (λ q. each_ids f (a + 1) n ks (rw q at u.1) (further ks w.1) (λ j h m. e j (omega arith) (rw (ne_eqb k j (λ z. omega arith)) m)))
    (λ q. each_ids f (a + 1) n (k ∷ ks) (omega (arith, u.0, q), u.1) (omega (arith, w.0), further ks w.1) (λ j h m. e j (omega arith) m))
  where
    further : (l : List ℕ) → All (λ k. k < a + suc n) l → All (λ k. k < a + 1 + n) l
    further [] h = tt
    further (x ∷ l) h = (omega (arith, h.0), further l h.1)

    step : (b : Bool) → eqb k a ≡ b → (k ≡ a → each f (up_from (a + 1) n) ≡ each f ks) → ((k ≡ a → ⊥) → each f (up_from (a + 1) n) ≡ each f (k ∷ ks))
        → f a ++ each f (up_from (a + 1) n) ≡ f k ++ each f ks
    step true q x y = let w = eqb-true k a q in rw (x w, w)
    step false q x y =
        let d = eqb-false k a q in
        rw (e a (omega arith) (up_low k (k ∷ ks) a (omega arith, u.1) (omega (arith, u.0, d)))) (y d)

-- Two lists by key.

module _ {A : Type 0} where
  -- a key of the two lists is a key of one
  pub keys_are : (l r : List (ℕ × A)) (k : ℕ) → member k (keys_of l r) ≡ is_some (beside l k) || is_some (beside r k)
  unfolding keys_of beside is_some member
  keys_are [] [] k = refl
  keys_are [] (e ∷ r) k = insert_member e.0 (keys_of [] r) k ∙ rw (keys_are [] r k) (step (eqb e.0 k))
    where
      step : (b : Bool) → b || is_some (beside r k) ≡ is_some (cond b (Some e.1) (beside r k))
      step true = refl
      step false = refl
  keys_are (e ∷ l) r k = insert_member e.0 (keys_of l r) k ∙ rw (keys_are l r k) (step (eqb e.0 k))
    where
      step : (b : Bool) → b || (is_some (beside l k) || is_some (beside r k)) ≡ is_some (cond b (Some e.1) (beside l k)) || is_some (beside r k)
      step true = refl
      step false = refl

  -- the keys are no lower than those of the lists
  keys_above : (low : ℕ) (l r : List (ℕ × A)) → Up low (glyphs_of l) → Up low (glyphs_of r) → Up low (keys_of l r)
  unfolding keys_of glyphs_of
  keys_above low [] [] u v = tt
  keys_above low [] (e ∷ r) u v = insert_up_lem low e.0 (keys_of [] r) v.0 (keys_above low [] r tt (lower low e.0 (glyphs_of r) v.0 v.1))
  keys_above low (e ∷ l) r u v = insert_up_lem low e.0 (keys_of l r) u.0 (keys_above low l r (lower low e.0 (glyphs_of l) u.0 u.1) v)

  -- the lowest key comes first
  keys_left_first : (k : ℕ) (a : A) (l r : List (ℕ × A)) → Up (k + 1) (glyphs_of l) → Up (k + 1) (glyphs_of r) → keys_of ((k, a) ∷ l) r ≡ k ∷ keys_of l r
  unfolding keys_of
  keys_left_first k a l r u v = insert_low k (keys_of l r) (keys_above (k + 1) l r u v)

  keys_right_first : (k : ℕ) (b : A) (l r : List (ℕ × A)) → Up (k + 1) (glyphs_of l) → Up (k + 1) (glyphs_of r) → keys_of l ((k, b) ∷ r) ≡ k ∷ keys_of l r
  unfolding beside is_some member
  keys_right_first k b l r u v =
      up_tells 0 (keys_of l ((k, b) ∷ r)) (k ∷ keys_of l r) (keys_up l ((k, b) ∷ r)) (omega arith, keys_above (k + 1) l r u v) (λ j. keys_are l ((k, b) ∷ r) j ∙ rw (keys_are l r j) (step (eqb k j) (is_some (beside l j)) (beside r j)))
    where
      step : (t x : Bool) (o : Option A) → x || is_some (cond t (Some b) o) ≡ t || (x || is_some o)
      step true true o = refl
      step true false o = refl
      step false x o = refl

  keys_both_first : (k : ℕ) (a b : A) (l r : List (ℕ × A)) → Up (k + 1) (glyphs_of l) → Up (k + 1) (glyphs_of r) → keys_of ((k, a) ∷ l) ((k, b) ∷ r) ≡ k ∷ keys_of l r
  unfolding beside is_some member
  keys_both_first k a b l r u v =
      up_tells 0 (keys_of ((k, a) ∷ l) ((k, b) ∷ r)) (k ∷ keys_of l r) (keys_up ((k, a) ∷ l) ((k, b) ∷ r)) (omega arith, keys_above (k + 1) l r u v)
      (λ j. keys_are ((k, a) ∷ l) ((k, b) ∷ r) j ∙ rw (keys_are l r j) (step (eqb k j) (beside l j) (beside r j)))
    where
      step : (t : Bool) (x y : Option A) → is_some (cond t (Some a) x) || is_some (cond t (Some b) y) ≡ t || (is_some x || is_some y)
      step true x y = refl
      step false x y = refl

module _ {A : Type 0} (only : ℕ → ℕ → Entry) (both : ℕ → A → A → List Entry) where
  asks : List (ℕ × A) → List (ℕ × A) → ℕ → List Entry
  asks l r k = at_key (only k) (both k) (beside l k) (beside r k)

  -- `all_ids`: all ids from 0 on are asked in both lists, where no key is past them
  pub all_ids : (l r : List (ℕ × A)) (n : ℕ) → All (λ k. k < 0 + n) (keys_of l r) → by_key only both l r ≡ each (λ k. at_key (only k) (both k) (beside l k) (beside r k)) (up_from 0 n)
  unfolding by_key asks is_some at_key
  all_ids l r n w = sym (each_ids (asks l r) 0 n (keys_of l r) (keys_up l r) w (λ j h m. step j (beside l j) (beside r j) (sym (keys_are l r j) ∙ m)))
    where
      step : (j : ℕ) (x y : Option A) → is_some x || is_some y ≡ false → at_key (only j) (both j) x y ≡ []
      step j None None h = refl
      step j (Some a) y h = absurd (true≢false h)
      step j None (Some b) h = absurd (true≢false h)

  -- past the first key of a list the others are asked
  beside_past : (k : ℕ) (a : A) (l : List (ℕ × A)) (j : ℕ) → k + 1 ≤ j → beside ((k, a) ∷ l) j ≡ beside l j
  unfolding beside
  beside_past k a l j h = rw (ne_eqb k j (λ q. omega arith))

  beside_first : (k : ℕ) (a : A) (l : List (ℕ × A)) → beside ((k, a) ∷ l) k ≡ Some a
  unfolding beside
  beside_first k a l = rw (eq-eqb k k refl)

  -- `merge_none`, `merge_left`, `merge_right`, `merge_both`: both lists from the front, the lower key first
  pub merge_none : by_key only both [] [] ≡ []
  unfolding by_key keys_of each
  merge_none = refl

  pub merge_left : (k : ℕ) (a : A) (l r : List (ℕ × A)) → Up (k + 1) (glyphs_of l) → Up (k + 1) (glyphs_of r) → by_key only both ((k, a) ∷ l) r ≡ only k 0 ∷ by_key only both l r
  unfolding by_key each at_key asks
  merge_left k a l r u v =
      ap (each (asks ((k, a) ∷ l) r)) (keys_left_first k a l r u v)
      ∙ rw (beside_first k a l, beside_low (k + 1) r k v (omega arith))
      (ap (λ (es : List Entry). only k 0 ∷ es) (each_same (asks ((k, a) ∷ l) r) (asks l r) (k + 1) (keys_of l r) (keys_above (k + 1) l r u v) (λ j h. rw (beside_past k a l j h))))

  pub merge_right : (k : ℕ) (b : A) (l r : List (ℕ × A)) → Up (k + 1) (glyphs_of l) → Up (k + 1) (glyphs_of r) → by_key only both l ((k, b) ∷ r) ≡ only k 1 ∷ by_key only both l r
  unfolding by_key each at_key asks
  merge_right k b l r u v =
      ap (each (asks l ((k, b) ∷ r))) (keys_right_first k b l r u v)
      ∙ rw (beside_first k b r, beside_low (k + 1) l k u (omega arith))
      (ap (λ (es : List Entry). only k 1 ∷ es) (each_same (asks l ((k, b) ∷ r)) (asks l r) (k + 1) (keys_of l r) (keys_above (k + 1) l r u v) (λ j h. rw (beside_past k b r j h))))

  pub merge_both : (k : ℕ) (a b : A) (l r : List (ℕ × A)) → Up (k + 1) (glyphs_of l) → Up (k + 1) (glyphs_of r) → by_key only both ((k, a) ∷ l) ((k, b) ∷ r) ≡ both k a b ++ by_key only both l r
  unfolding by_key each at_key asks
  merge_both k a b l r u v =
      ap (each (asks ((k, a) ∷ l) ((k, b) ∷ r))) (keys_both_first k a b l r u v)
      ∙ rw (beside_first k a l, beside_first k b r)
      (ap (λ (es : List Entry). both k a b ++ es) (each_same (asks ((k, a) ∷ l) ((k, b) ∷ r)) (asks l r) (k + 1) (keys_of l r) (keys_above (k + 1) l r u v) (λ j h. rw (beside_past k a l j h, beside_past k b r j h))))
