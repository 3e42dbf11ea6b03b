-- How code can compare classes of two tables in one step: a number for each class of either side, equal exactly if the same of the first n ids hold the classes.
-- `of` gives the class of an id on one side, `other` on the other.
use Prim.Native.Nat.{ℕ, zero, suc, ◌+◌, ◌≤◌, ◌<◌}
use Rattle.std.specs.Prelude.{◌≡◌, Bool, ◌&&◌, ◌||◌, not, List, eqb, Option}
use Rattle.std.proofs.Math.Path.{refl, sym, ap}
use Rattle.std.proofs.Common.{◌∙◌, true≢false, arith}
use Rattle.std.proofs.Math.Bool.{true, false, cond}
use borrow.Author.Tests.{eqb-true, eqb-false, eq-eqb, ne_eqb}
use Rattle.meaning.specs.Parts.{class_in}
use Rattle.meaning.specs.Matching.{in_class}
use Rattle.laws.specs.Through.{Opt}
use Rattle.laws.specs.PartsBack.{Classes}
use Rattle.differences.specs.Content.{class_runs?}
use Rattle.difference_laws.specs.Classes.{same_class_lem}

-- the lowest of the first n ids that holds the class c, plus 1; 0 if none does
unfoldable pub lowest : (ℕ → ℕ) → ℕ → ℕ → ℕ
lowest of c zero = 0
lowest of c (suc n) = cond (eqb (lowest of c n) 0) (cond (eqb (of n) c) (suc n) 0) (lowest of c n)

-- one of the first m ids holds the class c, and its class on the other side has another lowest id
unfoldable pub strays : (ℕ → ℕ) → (ℕ → ℕ) → ℕ → ℕ → ℕ → Bool
strays of other n c zero = false
strays of other n c (suc m) = (eqb (of m) c && not (eqb (lowest of c n) (lowest other (other m) n))) || strays of other n c m

-- the number of a class: 0 if none of the n ids holds it; its lowest id plus 1 if it doesn't stray; else `more` on top of that
unfoldable pub class_number : ℕ → (ℕ → ℕ) → (ℕ → ℕ) → ℕ → ℕ → ℕ
class_number more of other n c = cond (eqb (lowest of c n) 0) 0 (cond (strays of other n c n) (lowest of c n + more) (lowest of c n))

-- the same of the first n ids hold c on one side and d on the other
abbrev pub Alike : (ℕ → ℕ) → (ℕ → ℕ) → ℕ → ℕ → ℕ → Type 0
Alike of other n c d = (g : ℕ) → g < n → eqb (of g) c ≡ eqb (other g) d

-- The lowest id.

pub lowest_within : (of : ℕ → ℕ) (c n : ℕ) → lowest of c n ≤ n
unfolding lowest
lowest_within of c zero = omega arith
lowest_within of c (suc n) = go (eqb (lowest of c n) 0) (eqb (of n) c) (lowest_within of c n)
  where
    go : (s t : Bool) → lowest of c n ≤ n → cond s (cond t (suc n) 0) (lowest of c n) ≤ suc n
    go true true h = omega arith
    go true false h = omega arith
    go false t h = omega arith

lowest_holds : (of : ℕ → ℕ) (c n f : ℕ) → lowest of c n ≡ suc f → of f ≡ c
unfolding lowest
lowest_holds of c zero f h = absurd (omega arith)
lowest_holds of c (suc n) f h = go (eqb (lowest of c n) 0) (eqb (of n) c) refl h (lowest_holds of c n f)
  where
    go : (s t : Bool) → eqb (of n) c ≡ t → cond s (cond t (suc n) 0) (lowest of c n) ≡ suc f → (lowest of c n ≡ suc f → of f ≡ c) → of f ≡ c
    go true true e q k = let z : n ≡ f = omega arith in ap of (sym z) ∙ eqb-true (of n) c e
    go true false e q k = absurd (omega arith)
    go false t e q k = k q

-- a held class has a lowest id
pub lowest_held : (of : ℕ → ℕ) (c n g : ℕ) → g < n → of g ≡ c → lowest of c n ≡ 0 → ⊥
unfolding lowest
lowest_held of c zero g h e z = omega arith
lowest_held of c (suc n) g h e z = go (eqb (lowest of c n) 0) (eqb (of n) c) refl refl z (lowest_held of c n g)
  where
    go : (s t : Bool) → eqb (lowest of c n) 0 ≡ s → eqb (of n) c ≡ t → cond s (cond t (suc n) 0) (lowest of c n) ≡ 0 → (g < n → of g ≡ c → lowest of c n ≡ 0 → ⊥) → ⊥
    go true true p q w k = omega arith
    go true false p q w k = k (omega (arith, other)) e (eqb-true (lowest of c n) 0 p)
      where
        other : g ≡ n → ⊥
        other y = eqb-false (of n) c q (ap of (sym y) ∙ e)
    go false t p q w k = eqb-false (lowest of c n) 0 p w

lowest_alike : (of other : ℕ → ℕ) (n c d : ℕ) → Alike of other n c d → lowest of c n ≡ lowest other d n
unfolding lowest
lowest_alike of other zero c d h = refl
lowest_alike of other (suc n) c d h = rw (h n (omega arith), lowest_alike of other n c d (λ g k. h g (omega arith)))

-- Straying.

stray_not : (of other : ℕ → ℕ) (n c m : ℕ) → ((g : ℕ) → g < m → of g ≡ c → lowest of c n ≡ lowest other (other g) n) → strays of other n c m ≡ false
unfolding strays
stray_not of other n c zero h = refl
stray_not of other n c (suc m) h = rw (stray_not of other n c m (λ g k. h g (omega arith))) (go (eqb (of m) c) refl)
  where
    go : (t : Bool) → eqb (of m) c ≡ t → (t && not (eqb (lowest of c n) (lowest other (other m) n))) || false ≡ false
    go true e = rw (eq-eqb (lowest of c n) (lowest other (other m) n) (h m (omega arith) (eqb-true (of m) c e)))
    go false e = refl

not_stray : (of other : ℕ → ℕ) (n c m g : ℕ) → strays of other n c m ≡ false → g < m → of g ≡ c → lowest of c n ≡ lowest other (other g) n
unfolding strays
not_stray of other n c zero g s h e = absurd (omega arith)
not_stray of other n c (suc m) g s h e = go (eqb g m) refl (either (eqb (of m) c && not (eqb (lowest of c n) (lowest other (other m) n))) (strays of other n c m) s) (not_stray of other n c m g)
  where
    either : (a b : Bool) → a || b ≡ false → (a ≡ false) × (b ≡ false)
    either true b q = absurd (true≢false q)
    either false b q = (refl, q)

    last : eqb (of m) c && not (eqb (lowest of c n) (lowest other (other m) n)) ≡ false → of m ≡ c → lowest of c n ≡ lowest other (other m) n
    last q w = same (eqb (lowest of c n) (lowest other (other m) n)) refl (rw (eq-eqb (of m) c w) at q)
      where
        same : (t : Bool) → eqb (lowest of c n) (lowest other (other m) n) ≡ t → true && not t ≡ false → lowest of c n ≡ lowest other (other m) n
        same true p y = eqb-true (lowest of c n) (lowest other (other m) n) p
        same false p y = absurd (true≢false y)

    go : (t : Bool) → eqb g m ≡ t → (eqb (of m) c && not (eqb (lowest of c n) (lowest other (other m) n)) ≡ false) × (strays of other n c m ≡ false)
        → (strays of other n c m ≡ false → g < m → of g ≡ c → lowest of c n ≡ lowest other (other g) n) → lowest of c n ≡ lowest other (other g) n
    go true p q k = let w = eqb-true g m p in last q.0 (ap of (sym w) ∙ e) ∙ ap (λ (x : ℕ). lowest other (other x) n) (sym w)
    go false p q k = k q.1 (omega (arith, eqb-false g m p)) e

-- classes of two sides with one lowest id, neither of which strays, are alike
tests_agree : (a b c d : ℕ) → (a ≡ c → b ≡ d) → (b ≡ d → a ≡ c) → eqb a c ≡ eqb b d
tests_agree a b c d f k = go (eqb a c) (eqb b d) refl refl
  where
    go : (s t : Bool) → eqb a c ≡ s → eqb b d ≡ t → s ≡ t
    go true true p q = refl
    go true false p q = absurd (eqb-false b d q (f (eqb-true a c p)))
    go false true p q = absurd (eqb-false a c p (k (eqb-true b d q)))
    go false false p q = refl

met : (of other : ℕ → ℕ) (n c d f : ℕ) → lowest of c n ≡ suc f → lowest other d n ≡ suc f → strays of other n c n ≡ false → strays other of n d n ≡ false → Alike of other n c d
met of other n c d f p q s t g h =
    tests_agree (of g) (other g) c d
    (λ e. sym (lowest_holds other (other g) n f (sym (not_stray of other n c n g s h e) ∙ p)) ∙ lowest_holds other d n f q)
    (λ e. sym (lowest_holds of (of g) n f (sym (not_stray other of n d n g t h e) ∙ q)) ∙ lowest_holds of c n f p)

none_held : (of other : ℕ → ℕ) (n c d : ℕ) → lowest of c n ≡ 0 → lowest other d n ≡ 0 → Alike of other n c d
none_held of other n c d p q g h = tests_agree (of g) (other g) c d (λ e. absurd (lowest_held of c n g h e p)) (λ e. absurd (lowest_held other d n g h e q))

not_zero : (a : ℕ) → eqb (suc a) 0 ≡ false
not_zero a = ne_eqb (suc a) 0 (λ q. omega arith)

-- a class that no id holds does not stray
pub unheld_stays : (of other : ℕ → ℕ) (n c : ℕ) → lowest of c n ≡ 0 → strays of other n c n ≡ false
unheld_stays of other n c z = stray_not of other n c n (λ g h e. absurd (lowest_held of c n g h e z))

-- numbers are small
pub number_within : (more : ℕ) (of other : ℕ → ℕ) (n c : ℕ) → class_number more of other n c ≤ n + more
unfolding class_number
number_within more of other n c = go (eqb (lowest of c n) 0) (strays of other n c n) (lowest_within of c n)
  where
    go : (s t : Bool) → lowest of c n ≤ n → cond s 0 (cond t (lowest of c n + more) (lowest of c n)) ≤ n + more
    go true t h = omega arith
    go false true h = omega arith
    go false false h = omega arith

-- `class_numbers`: two classes of the two sides have one number exactly if they are alike, where the left adds n to the number of a class that strays and the right 2 * n.
module _ (of other : ℕ → ℕ) (n c d : ℕ) where
  numbers_alike : class_number n of other n c ≡ class_number (n + n) other of n d → Alike of other n c d
  unfolding class_number
  numbers_alike h = go (lowest of c n) (lowest other d n) (strays of other n c n) (strays other of n d n) refl refl refl refl h
    where
      go : (a b : ℕ) (s t : Bool) → lowest of c n ≡ a → lowest other d n ≡ b → strays of other n c n ≡ s → strays other of n d n ≡ t
          → cond (eqb a 0) 0 (cond s (a + n) a) ≡ cond (eqb b 0) 0 (cond t (b + (n + n)) b) → Alike of other n c d
      go zero zero s t p q x y e = none_held of other n c d p q
      go zero (suc b) s true p q x y e = let k = rw (not_zero b) at e in absurd (omega arith)
      go zero (suc b) s false p q x y e = let k = rw (not_zero b) at e in absurd (omega arith)
      go (suc a) zero true t p q x y e = let k = rw (not_zero a) at e in absurd (omega arith)
      go (suc a) zero false t p q x y e = let k = rw (not_zero a) at e in absurd (omega arith)
      go (suc a) (suc b) true true p q x y e = let k = rw (not_zero a, not_zero b) at e in absurd (omega (arith, lowest_within of c n, lowest_within other d n))
      go (suc a) (suc b) true false p q x y e = let k = rw (not_zero a, not_zero b) at e in absurd (omega (arith, lowest_within of c n, lowest_within other d n))
      go (suc a) (suc b) false true p q x y e = let k = rw (not_zero a, not_zero b) at e in absurd (omega (arith, lowest_within of c n, lowest_within other d n))
      go (suc a) (suc b) false false p q x y e = let k = rw (not_zero a, not_zero b) at e in met of other n c d a p (q ∙ sym k) x y

  alike_numbers : Alike of other n c d → class_number n of other n c ≡ class_number (n + n) other of n d
  unfolding class_number
  alike_numbers h =
      rw (
        stray_not of other n c n (λ g k e. lowest_alike of other n c d h ∙ ap (λ (x : ℕ). lowest other x n) (sym (eqb-true (other g) d (sym (h g k) ∙ eq-eqb (of g) c e)))),
        stray_not other of n d n (λ g k e. sym (lowest_alike of other n c d h) ∙ ap (λ (x : ℕ). lowest of x n) (sym (eqb-true (of g) c (h g k ∙ eq-eqb (other g) d e)))),
        lowest_alike of other n c d h,
      )

  pub class_numbers : (class_number n of other n c ≡ class_number (n + n) other of n d → Alike of other n c d) × (Alike of other n c d → class_number n of other n c ≡ class_number (n + n) other of n d)
  class_numbers = (numbers_alike, alike_numbers)

-- `own_numbers`: the same of two classes of one side.
module _ (of other : ℕ → ℕ) (n more : ℕ) (large : n ≤ more) (c d : ℕ) where
  own_alike : class_number more of other n c ≡ class_number more of other n d → Alike of of n c d
  unfolding class_number
  own_alike h = go (lowest of c n) (lowest of d n) (strays of other n c n) (strays of other n d n) refl refl h
    where
      equal : (a : ℕ) → lowest of c n ≡ suc a → lowest of d n ≡ suc a → Alike of of n c d
      equal a p q g k = ap (eqb (of g)) (sym (lowest_holds of c n a p) ∙ lowest_holds of d n a q)

      go : (a b : ℕ) (s t : Bool) → lowest of c n ≡ a → lowest of d n ≡ b → cond (eqb a 0) 0 (cond s (a + more) a) ≡ cond (eqb b 0) 0 (cond t (b + more) b) → Alike of of n c d
      go zero zero s t p q e = none_held of of n c d p q
      go zero (suc b) s true p q e = let k = rw (not_zero b) at e in absurd (omega arith)
      go zero (suc b) s false p q e = let k = rw (not_zero b) at e in absurd (omega arith)
      go (suc a) zero true t p q e = let k = rw (not_zero a) at e in absurd (omega arith)
      go (suc a) zero false t p q e = let k = rw (not_zero a) at e in absurd (omega arith)
      go (suc a) (suc b) true true p q e = let k = rw (not_zero a, not_zero b) at e in equal a p (let z : b ≡ a = omega arith in q ∙ ap suc z)
      go (suc a) (suc b) true false p q e = let k = rw (not_zero a, not_zero b) at e in absurd (omega (arith, lowest_within of c n, lowest_within of d n, large))
      go (suc a) (suc b) false true p q e = let k = rw (not_zero a, not_zero b) at e in absurd (omega (arith, lowest_within of c n, lowest_within of d n, large))
      go (suc a) (suc b) false false p q e = let k = rw (not_zero a, not_zero b) at e in equal a p (q ∙ sym k)

  alike_own : Alike of of n c d → class_number more of other n c ≡ class_number more of other n d
  unfolding class_number
  alike_own h = go (lowest of c n) refl
    where
      go : (a : ℕ) → lowest of c n ≡ a → cond (eqb (lowest of c n) 0) 0 (cond (strays of other n c n) (lowest of c n + more) (lowest of c n)) ≡ cond (eqb (lowest of d n) 0) 0 (cond (strays of other n d n) (lowest of d n + more) (lowest of d n))
      go zero p = rw (p, sym (lowest_alike of of n c d h) ∙ p)
      go (suc a) p =
          let z = sym (lowest_holds of c n a p) ∙ lowest_holds of d n a (sym (lowest_alike of of n c d h) ∙ p) in
          ap (λ (x : ℕ). cond (eqb (lowest of x n) 0) 0 (cond (strays of other n x n) (lowest of x n + more) (lowest of x n))) z

  pub own_numbers : (class_number more of other n c ≡ class_number more of other n d → Alike of of n c d) × (Alike of of n c d → class_number more of other n c ≡ class_number more of other n d)
  own_numbers = (own_alike, alike_own)

-- Of two class tables, which may be null: the numbers are equal exactly if the contents of the classes are.
pub class_content : (t u : Option (List (ℕ × ℕ))) → Opt Classes t → Opt Classes u → (c d : ℕ)
    → (class_number 65536 (class_in t) (class_in u) 65536 c ≡ class_number 131072 (class_in u) (class_in t) 65536 d → class_runs? t c ≡ class_runs? u d)
    × (class_runs? t c ≡ class_runs? u d → class_number 65536 (class_in t) (class_in u) 65536 c ≡ class_number 131072 (class_in u) (class_in t) 65536 d)
unfolding in_class
class_content t u k l c d =
    let n = class_numbers (class_in t) (class_in u) 65536 c d in
    let s = same_class_lem t u k l c d in
    ((λ e. s.1 (n.0 e)), λ e. n.1 (s.0 e))
