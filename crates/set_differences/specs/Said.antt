-- What sets say, by the codes of their rules, and first glyphs listed by numbers.
use Prim.Native.Nat.{ℕ, zero, suc, ◌+◌, ◌*◌}
use Rattle.std.specs.Prelude.{◌≡◌, Bool, cond, length, get_or, Option, None, Some}
use Rattle.std.proofs.Math.Path.{refl, ap₂}
use Rattle.std.proofs.Common.{sym, ◌∙◌, zero-add, arith}
use Rattle.std.proofs.Math.Bool.{true, false}
use mathlib.Core.List.{List, [], ◌∷◌, map}
use Rattle.std.proofs.Math.Dec.{eqb}
use Rattle.meaning.specs.Words.{word, bind}
use Rattle.meaning.specs.Tables.{reach, reaches, drop_null}
use Rattle.laws.specs.Stands.{All}
use Rattle.differences.specs.Content.{Says, set_holds}
use Rattle.differences.specs.Entries.{same_says, beside, at_key, rule_entries}
use Rattle.difference_laws.specs.Ranks.{number_entries}
use Rattle.first_glyphs.specs.First.{only_at, at_glyph}
use Rattle.set_numbers.specs.Sets.{codes_from, codes_of, AllNumbered, Cells, Told}
use Rattle.gathered.specs.Gathered.{number_in, numbers_at, Scratch, Fit}

module _ {A B : Type 0} (read : ℕ → A) (say : A → B) (says : ℕ → B) (s : List ℕ) (side : ℕ) (e : (p : ℕ) → says (2 * p + side) ≡ say (read p)) where
  codes_say : (base slot n : ℕ) → map say (drop_null (reaches read s base slot n)) ≡ map says (codes_from s side base slot n)
  unfolding drop_null reaches reach codes_from
  codes_say base slot zero = refl
  codes_say base slot (suc n) = step (eqb (word s slot) 0) (codes_say base (slot + 2) n)
    where
      step : (b : Bool) → map say (drop_null (reaches read s base (slot + 2) n)) ≡ map says (codes_from s side base (slot + 2) n)
          → map say (drop_null (cond b None (Some (read (base + word s slot))) ∷ reaches read s base (slot + 2) n))
          ≡ map says (cond b (codes_from s side base (slot + 2) n) ((2 * (base + word s slot) + side) ∷ codes_from s side base (slot + 2) n))
      step true h = h
      step false h = ap₂ (λ (x : B) (l : List B). x ∷ l) (sym (e (base + word s slot))) h

  module _ (set : ℕ → List A) (q : (at : ℕ) → set at ≡ drop_null (reaches read s at (at + 2) (word s at))) where
    -- what the set at a place says is what its codes say; a null one, at 0, says nothing
    pub place_says : (at : ℕ) → map say (cond (eqb at 0) [] (set at)) ≡ map says (codes_of s side at)
    unfolding codes_of
    place_says at = rw (q at) (step (eqb at 0) (codes_say at (at + 2) (word s at)))
      where
        step : (b : Bool) → map say (drop_null (reaches read s at (at + 2) (word s at))) ≡ map says (codes_from s side at (at + 2) (word s at))
            → map say (cond b [] (drop_null (reaches read s at (at + 2) (word s at)))) ≡ map says (cond b [] (codes_from s side at (at + 2) (word s at)))
        step true h = refl
        step false h = h

    -- the same of the set in a slot
    pub set_says : (slot : ℕ) → map say (set_holds (reach set s 0 slot)) ≡ map says (codes_of s side (word s slot))
    unfolding reach set_holds
    set_says slot =
        let h : map say (set_holds (reach set s 0 slot)) ≡ map say (cond (eqb (word s slot) 0) [] (set (word s slot))) = rw (zero-add (word s slot)) (holds (eqb (word s slot) 0)) in
        h ∙ place_says (word s slot)
      where
        holds : (b : Bool) → map say (set_holds (cond b None (Some (set (word s slot))))) ≡ map say (cond b [] (set (word s slot)))
        holds true = refl
        holds false = refl

-- the numbers of the set in a slot
pub set_numbers_lem : (num s : List ℕ) (side slot : ℕ) → map (number_in num) (set_holds (reach (codes_of s side) s 0 slot)) ≡ numbers_at num s side (word s slot)
unfolding reach set_holds numbers_at codes_of
set_numbers_lem num s side slot = rw (zero-add (word s slot)) (step (eqb (word s slot) 0) (codes_from s side (word s slot) (word s slot + 2) (word s (word s slot))))
  where
    step : (b : Bool) (codes : List ℕ) → map (number_in num) (set_holds (cond b None (Some (cond b [] codes)))) ≡ map (number_in num) (cond b [] codes)
    step true codes = refl
    step false codes = refl

-- Numbers that are equal exactly if the rules say the same list what the rules list.
module _ (num : List ℕ) (says : ℕ → Says) (tells : (c d : ℕ) → (get_or num c 0 ≡ 0 → ⊥) → (get_or num d 0 ≡ 0 → ⊥) → same_says (says c) (says d) ≡ eqb (get_or num c 0) (get_or num d 0)) where
  numbered_entries : (g : ℕ) (l r : List ℕ) → AllNumbered num l → AllNumbered num r → rule_entries eqb g (map (number_in num) l) (map (number_in num) r) ≡ rule_entries same_says g (map says l) (map says r)
  numbered_entries g l r h k =
      sym (number_entries (λ c d. same_says (says c) (says d)) eqb (λ c. get_or num c 0 ≡ 0 → ⊥) (number_in num) tells g l r h k)
      ∙ number_entries (λ c d. same_says (says c) (says d)) same_says (λ c. Unit {0}) says (λ c d p q. refl) g l r (any l) (any r)
    where
      any : (codes : List ℕ) → All (λ c. Unit {0}) codes
      any [] = tt
      any (c ∷ codes) = (tt, any codes)

  -- at one glyph, where the codes of its rules are l i on the left and r j on the right, by its indices i and j
  pub glyph_told : (ns ms : List (ℕ × List ℕ)) (xs ys : List (ℕ × List Says)) (g : ℕ) (o p : Option ℕ) (l r : ℕ → List ℕ)
      → beside ns g ≡ bind o (λ i. Some (map (number_in num) (l i))) → beside ms g ≡ bind p (λ j. Some (map (number_in num) (r j)))
      → beside xs g ≡ bind o (λ i. Some (map says (l i))) → beside ys g ≡ bind p (λ j. Some (map says (r j)))
      → ((i : ℕ) → o ≡ Some i → AllNumbered num (l i)) → ((j : ℕ) → p ≡ Some j → AllNumbered num (r j))
      → at_glyph (rule_entries eqb) ns ms g ≡ at_glyph (rule_entries same_says) xs ys g
  unfolding at_glyph at_key bind
  glyph_told ns ms xs ys g o p l r a b c d h k = rw (a, b, c, d) (step o p h k)
    where
      step : (o p : Option ℕ) → ((i : ℕ) → o ≡ Some i → AllNumbered num (l i)) → ((j : ℕ) → p ≡ Some j → AllNumbered num (r j))
          → at_key (only_at g) (rule_entries eqb g) (bind o (λ i. Some (map (number_in num) (l i)))) (bind p (λ j. Some (map (number_in num) (r j))))
          ≡ at_key (only_at g) (rule_entries same_says g) (bind o (λ i. Some (map says (l i)))) (bind p (λ j. Some (map says (r j))))
      step None None h k = refl
      step None (Some j) h k = refl
      step (Some i) None h k = refl
      step (Some i) (Some j) h k = numbered_entries g (l i) (r j) (h i refl) (k j refl)

-- Cells that are enough are so for numbers of rules, and for pairing by these.
pub scratch_cells : {num nums heads links : ℕ} → Scratch num nums heads links → Cells num heads
scratch_cells k = record { codes = k.codes; comes = k.comes }

pub scratch_fit : {says : ℕ → Says} {l r num : List ℕ} {first nums heads links : ℕ} → Scratch (length num) nums heads links → Told says l r first num → Fit num nums heads links
scratch_fit k t = record { below = λ c. omega (arith, t.few c, k.codes, k.comes); rows = k.rows; linked = omega (arith, k.linked) }
