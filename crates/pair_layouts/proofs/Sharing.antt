-- Whether the second classes are not written again: cells that are compared are entries.
use Prim.Native.Nat.{ℕ, ◌+◌, ◌-◌, ◌/◌, ◌%◌, ◌≤◌}
use mathlib.Core.Path.{◌≡◌, refl, sym, ◌∙◌}
use mathlib.Core.Bool.{Bool, true, false, ◌&&◌}
use mathlib.Core.List.{List, [], ◌∷◌, map}
use native.Mathlib.Omega.{arith}
use lib.ListN.{length, take, drop}
use lib.Pointwise.{pointwise}
use lib.Dec.{eqb}
use borrow.Author.Tests.{eq-eqb, ne_eqb, eqb-true, eqb-false}
use Rattle.meaning.specs.Words.{eq_list, twos}
use Rattle.area.specs.Part.{part_take, notes}
use Rattle.pair_layouts.specs.Kerning.{shared}
use Rattle.pair_layouts.specs.declared.Noted.{Noted}

-- entries of a cell before others, compared: those of two cells that are the same, and of two that are not
same_first : (x y : ℕ) (xs ys : List (ℕ × ℕ)) → x ≡ y → eq_list (twos ((x / 65536, x % 65536) ∷ xs)) (twos ((y / 65536, y % 65536) ∷ ys)) ≡ eq_list (twos xs) (twos ys)
unfolding eq_list twos
same_first x y xs ys e = rw (e, eq-eqb (y / 65536) (y / 65536) refl, eq-eqb (y % 65536) (y % 65536) refl)

other_first : (x y : ℕ) (xs ys : List (ℕ × ℕ)) → (x ≡ y → ⊥) → eq_list (twos ((x / 65536, x % 65536) ∷ xs)) (twos ((y / 65536, y % 65536) ∷ ys)) ≡ false
unfolding eq_list twos
other_first x y xs ys n = step (eqb (x / 65536) (y / 65536)) refl (eqb (x % 65536) (y % 65536)) refl
  where
    step : (a : Bool) → eqb (x / 65536) (y / 65536) ≡ a → (b : Bool) → eqb (x % 65536) (y % 65536) ≡ b → a && (b && eq_list (twos xs) (twos ys)) ≡ false
    step false e b f = refl
    step true e false f = refl
    step true e true f = absurd (n (omega (arith, eqb-true (x / 65536) (y / 65536) e, eqb-true (x % 65536) (y % 65536) f)))

-- cells are the same exactly if their entries are
same_entries : (xs ys : List ℕ) → pointwise eqb xs ys ≡ eq_list (twos (map (λ c. (c / 65536, c % 65536)) xs)) (twos (map (λ c. (c / 65536, c % 65536)) ys))
unfolding eq_list twos
same_entries [] [] = refl
same_entries [] (y ∷ ys) = refl
same_entries (x ∷ xs) [] = refl
same_entries (x ∷ xs) (y ∷ ys) = step (eqb x y) refl (same_entries xs ys)
  where
    step : (b : Bool) → eqb x y ≡ b → pointwise eqb xs ys ≡ eq_list (twos (map (λ c. (c / 65536, c % 65536)) xs)) (twos (map (λ c. (c / 65536, c % 65536)) ys))
        → b && pointwise eqb xs ys ≡ eq_list (twos (map (λ c. (c / 65536, c % 65536)) (x ∷ xs))) (twos (map (λ c. (c / 65536, c % 65536)) (y ∷ ys)))
    step true e k = k ∙ sym (same_first x y (map (λ c. (c / 65536, c % 65536)) xs) (map (λ c. (c / 65536, c % 65536)) ys) (eqb-true x y e))
    step false e k = sym (other_first x y (map (λ c. (c / 65536, c % 65536)) xs) (map (λ c. (c / 65536, c % 65536)) ys) (eqb-false x y e))

module _ (packing : ℕ) (t : List ℕ) (first second : Noted) where
  abbrev answer : Bool
  answer = shared packing (notes t first.at first.len) (notes t second.at second.len)

  -- the plain layout
  pub plain_shares : (packing ≡ 1 → ⊥) → false ≡ answer
  unfolding shared
  plain_shares n = rw (ne_eqb packing 1 n)

  pub cells_say : packing ≡ 1 → first.at + first.len ≤ length t → second.at + second.len ≤ length t → {r : Bool}
      → r ≡ pointwise eqb (take (first.at + first.len - first.at) (drop first.at t)) (take (second.at + second.len - second.at) (drop second.at t)) → r ≡ answer
  unfolding shared
  cells_say p h k e =
      let a : first.at + first.len - first.at ≡ first.len = omega arith in
      let b : second.at + second.len - second.at ≡ second.len = omega arith in
      rw (eq-eqb packing 1 p, part_take t first.at first.len h, part_take t second.at second.len k) (rw (a, b) at e ∙ same_entries (take first.len (drop first.at t)) (take second.len (drop second.at t)))
