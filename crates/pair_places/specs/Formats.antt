-- Value formats: where the fields that stay stand in a pair record, and what is left of a pair set under new formats.
use Prim.Native.Nat.{ℕ, zero, suc, ◌+◌, ◌*◌, ◌/◌, ◌%◌, ◌≤◌, ◌<◌}
use Rattle.std.specs.Prelude.{◌≡◌, Bool, cond, ◌&&◌, ◌||◌, length, get_or, eqb, Option, None, Some}
use Rattle.std.proofs.Math.Path.{refl, ap, ap₂}
use Rattle.std.proofs.Common.{sym, ◌∙◌, length-append, eq-eqb, ne_eqb, eqb-true}
use Rattle.std.proofs.Math.Bool.{true, false, not}
use mathlib.Core.List.{List, [], ◌∷◌, ◌++◌, map, append_assoc}
use Rattle.std.proofs.Math.Nat.{div-eq_of_lt}
use native.Mathlib.Omega.{arith}
use Rattle.std.proofs.lemmas.List.{length-map}
use Rattle.meaning.specs.Words.{word, words, find, is_some, bind, push, map_some}
use Rattle.meaning.specs.Tables.{Pair, bit, field_count, fields_below, field, pair_records, pair_set}
use Rattle.meaning.specs.Cut.{unless_empty, cut_pair, cut_pairs, used, pick_fields, thin_pair}
use Rattle.meaning.specs.Layout.{block, pair_words, pair_set_words}
use Rattle.laws.specs.Stands.{All, all_append}
use Rattle.laws.specs.Left.{words_at}
use Rattle.pair_fields.specs.Pairs.{value_at, field_used, Places, pairs_in, rows, pair_set_of, pairs_left}

-- the fields that can be kept: placement and advance, each in x and in y
abbrev pub fields : List ℕ
fields = 1 ∷ 2 ∷ 4 ∷ 8 ∷ []

-- where the field k stands in a pair record, if the value record of the format f starts there at `start`; 0 where the format has no such field
unfoldable pub field_place : ℕ → ℕ → ℕ → ℕ
field_place start f k = cond (eqb (bit f k) 1) (start + 2 * fields_below f k) 0

-- the places of those of the fields ks that the new format has
unfoldable pub kept_places : ℕ → ℕ → ℕ → List ℕ → List ℕ
kept_places start f new ks = map_some (λ k. cond (eqb (bit new k) 1) (Some (field_place start f k)) None) ks

-- how long a pair record with these formats is, and where the fields of the new formats stand in it
abbrev pub pair_size : ℕ → ℕ → ℕ
pair_size f1 f2 = 2 + 2 * field_count f1 + 2 * field_count f2

unfoldable pub places_of : ℕ → ℕ → ℕ → ℕ → List ℕ
places_of f1 f2 n1 n2 = kept_places 2 f1 n1 fields ++ kept_places (2 + 2 * field_count f1) f2 n2 fields

-- A field that a format has stands among its fields.

bit_above : (f k : ℕ) → f < k → bit f k ≡ 0
unfolding bit
bit_above f k h = rw (div-eq_of_lt h)

count_low : (f : ℕ) → f < 16 → field_count f ≡ bit f 1 + bit f 2 + bit f 4 + bit f 8
unfolding field_count
count_low f h = rw (bit_above f 16 h, bit_above f 32 (omega arith), bit_above f 64 (omega arith), bit_above f 128 (omega arith)) (omega arith)

bits_1 : (f : ℕ) → (bit (f % 1) 1 ≡ 0) × (bit (f % 1) 2 ≡ 0) × (bit (f % 1) 4 ≡ 0) × (bit (f % 1) 8 ≡ 0)
unfolding bit
bits_1 f = (omega arith, omega arith, omega arith, omega arith)

bits_2 : (f : ℕ) → (bit (f % 2) 1 ≡ bit f 1) × (bit (f % 2) 2 ≡ 0) × (bit (f % 2) 4 ≡ 0) × (bit (f % 2) 8 ≡ 0)
unfolding bit
bits_2 f = (omega arith, omega arith, omega arith, omega arith)

bits_4 : (f : ℕ) → (bit (f % 4) 1 ≡ bit f 1) × (bit (f % 4) 2 ≡ bit f 2) × (bit (f % 4) 4 ≡ 0) × (bit (f % 4) 8 ≡ 0)
unfolding bit
bits_4 f = (omega arith, omega arith, omega arith, omega arith)

bits_8 : (f : ℕ) → (bit (f % 8) 1 ≡ bit f 1) × (bit (f % 8) 2 ≡ bit f 2) × (bit (f % 8) 4 ≡ bit f 4) × (bit (f % 8) 8 ≡ 0)
unfolding bit
bits_8 f = (omega arith, omega arith, omega arith, omega arith)

-- the place of the field k among the fields of the format f
abbrev pub Below : ℕ → ℕ → Type 0
Below f k = bit f k ≡ 1 → fields_below f k < field_count f

pub below : (f : ℕ) → All (Below f) fields
unfolding fields_below field_count
below f = (
  λ b. omega (arith, count_low (f % 1) (omega arith), bits_1 f),
  (
    λ b. omega (arith, count_low (f % 2) (omega arith), bits_2 f),
    (λ b. omega (arith, count_low (f % 4) (omega arith), bits_4 f), (λ b. omega (arith, count_low (f % 8) (omega arith), bits_8 f), tt)),
  ),
)

-- a field is the value at its place
pub value_is : (start f k : ℕ) → 0 < start → Below f k → (s : List ℕ) (p : ℕ) → field f (words s (p + start) (field_count f)) k ≡ value_at s p (field_place start f k)
unfolding field_place field value_at
value_is start f k z h s p = step (eqb (bit f k) 1) refl
  where
    step : (b : Bool) → eqb (bit f k) 1 ≡ b
        → cond b (get_or (words s (p + start) (field_count f)) (fields_below f k) 0) 0 ≡ cond (eqb (cond b (start + 2 * fields_below f k) 0) 0) 0 (word s (p + cond b (start + 2 * fields_below f k) 0))
    step true g =
        let q : p + (start + 2 * fields_below f k) ≡ p + start + 2 * fields_below f k = omega arith in
        let n : start + 2 * fields_below f k ≡ 0 → ⊥ = λ e. omega arith in
        rw (ne_eqb (start + 2 * fields_below f k) 0 n, q) (words_at s (p + start) (field_count f) (fields_below f k) (h (eqb-true (bit f k) 1 g)))
    step false g = refl

-- the fields that are picked are the values at the places that are kept
pub pick_is : (start f new : ℕ) → 0 < start → (s : List ℕ) (p : ℕ) (ks : List ℕ) → All (Below f) ks
    → map (value_at s p) (kept_places start f new ks) ≡ pick_fields f new (words s (p + start) (field_count f)) ks
unfolding kept_places pick_fields map_some push
pick_is start f new z s p [] h = refl
pick_is start f new z s p (k ∷ ks) h = step (eqb (bit new k) 1) (map_some (λ k. cond (eqb (bit new k) 1) (Some (field_place start f k)) None) ks) (pick_is start f new z s p ks h.1)
  where
    picked : List ℕ
    picked = map_some (λ k. cond (eqb (bit new k) 1) (Some (field f (words s (p + start) (field_count f)) k)) None) ks

    step : (b : Bool) (r : List ℕ) → map (value_at s p) r ≡ picked
        → map (value_at s p) (push (cond b (Some (field_place start f k)) None) r) ≡ push (cond b (Some (field f (words s (p + start) (field_count f)) k)) None) picked
    step true r e = ap₂ (λ (x : ℕ) (l : List ℕ). x ∷ l) (sym (value_is start f k z h.0 s p)) e
    step false r e = e

-- a pair's words
unfoldable pub words_of : Pair → List ℕ
words_of q = q.second ∷ (q.first_values ++ q.second_values)

pub map_append : (f : ℕ → ℕ) (xs ys : List ℕ) → map f (xs ++ ys) ≡ map f xs ++ map f ys
map_append f [] ys = refl
map_append f (x ∷ xs) ys = ap (λ (l : List ℕ). f x ∷ l) (map_append f xs ys)

module _ (f1 f2 n1 n2 : ℕ) (s : List ℕ) where
  -- one pair, by the places
  one_pair : (p y : ℕ) → y ∷ map (value_at s p) (places_of f1 f2 n1 n2)
      ≡ words_of (thin_pair f1 f2 n1 n2 (record { second = y; first_values = words s (p + 2) (field_count f1); second_values = words s (p + 2 + 2 * field_count f1) (field_count f2) }))
  unfolding places_of words_of thin_pair
  one_pair p y =
      let q : p + (2 + 2 * field_count f1) ≡ p + 2 + 2 * field_count f1 = omega arith in
      let second = pick_is (2 + 2 * field_count f1) f2 n2 (omega arith) s p fields (below f2) ∙ ap (λ (i : ℕ). pick_fields f2 n2 (words s i (field_count f2)) fields) q in
      ap (λ (l : List ℕ). y ∷ l) (map_append (value_at s p) (kept_places 2 f1 n1 fields) (kept_places (2 + 2 * field_count f1) f2 n2 fields)
      ∙ ap₂ (λ (a b : List ℕ). a ++ b) (pick_is 2 f1 n1 (omega arith) s p fields (below f1)) second)

  -- all of them
  pairs_are : (g : List (ℕ × ℕ)) (n p : ℕ)
      → pairs_in g s (pair_size f1 f2) (places_of f1 f2 n1 n2) p n ≡ map words_of (map (thin_pair f1 f2 n1 n2) (map_some (cut_pair g) (pair_records s (field_count f1) (field_count f2) p n)))
  unfolding pairs_in pair_records map_some cut_pair bind push
  pairs_are g zero p = refl
  pairs_are g (suc n) p =
      let q : p + pair_size f1 f2 ≡ p + 2 + 2 * field_count f1 + 2 * field_count f2 = omega arith in
      step (find g (word s p)) _ _ (ap (λ (i : ℕ). pairs_in g s (pair_size f1 f2) (places_of f1 f2 n1 n2) i n) q ∙ pairs_are g n (p + 2 + 2 * field_count f1 + 2 * field_count f2))
    where
      record_at : ℕ → Pair
      record_at y = record { second = y; first_values = words s (p + 2) (field_count f1); second_values = words s (p + 2 + 2 * field_count f1) (field_count f2) }

      step : (o : Option ℕ) (r : List (List ℕ)) (ps : List Pair) → r ≡ map words_of (map (thin_pair f1 f2 n1 n2) ps)
          → push (bind o (λ y. Some (y ∷ map (value_at s p) (places_of f1 f2 n1 n2)))) r ≡ map words_of (map (thin_pair f1 f2 n1 n2) (push (bind o (λ y. Some (record_at y))) ps))
      step None r ps e = e
      step (Some y) r ps e = ap₂ (λ (a : List ℕ) (b : List (List ℕ)). a ∷ b) (one_pair p y) e

-- rows of pairs' words are the words of the pairs
rows_words : (ps : List Pair) → rows (map words_of ps) ≡ pair_words ps
unfolding rows words_of pair_words
rows_words [] = refl
rows_words (p ∷ ps) = ap (λ (l : List ℕ). p.second ∷ l) (append_assoc p.first_values p.second_values (rows (map words_of ps)) ∙ ap (λ (l : List ℕ). p.first_values ++ (p.second_values ++ l)) (rows_words ps))

set_words_lem : (h : Pair → Pair) (ps : List Pair) → block pair_set_of (unless_empty (map words_of (map h ps))) ≡ block (λ qs. pair_set_words (map h qs)) (unless_empty ps)
unfolding block unless_empty pair_set_of pair_set_words
set_words_lem h [] = refl
set_words_lem h (p ∷ ps) = ap Some (ap₂ (λ (a : ℕ) (b : List ℕ). a ∷ b) (length-map (map h (p ∷ ps)) words_of) (rows_words (map h (p ∷ ps))))

-- what is left of a pair set is what the definitions leave, with the fields of the new formats
pub pairs_left_lem : (g : List (ℕ × ℕ)) (f1 f2 n1 n2 : ℕ) (s : List ℕ) (at : ℕ)
    → pairs_left g s (pair_size f1 f2) (places_of f1 f2 n1 n2) at ≡ block (λ ps. pair_set_words (map (thin_pair f1 f2 n1 n2) ps)) (cut_pairs g (pair_set (field_count f1) (field_count f2) s at))
unfolding pairs_left cut_pairs pair_set
pairs_left_lem g f1 f2 n1 n2 s at =
    ap (λ (l : List (List ℕ)). block pair_set_of (unless_empty l)) (pairs_are f1 f2 n1 n2 s g (word s at) (at + 2))
    ∙ set_words_lem (thin_pair f1 f2 n1 n2) (map_some (cut_pair g) (pair_records s (field_count f1) (field_count f2) (at + 2) (word s at)))

-- The places lie inside a record.

pub place_inside : (start f k size : ℕ) → Below f k → 2 ≤ size → start + 2 * field_count f ≤ size → field_place start f k + 2 ≤ size
unfolding field_place
place_inside start f k size h t l = step (eqb (bit f k) 1) refl
  where
    step : (b : Bool) → eqb (bit f k) 1 ≡ b → cond b (start + 2 * fields_below f k) 0 + 2 ≤ size
    step true g = omega (arith, h (eqb-true (bit f k) 1 g))
    step false g = omega arith

kept_inside : (start f new size : ℕ) → 2 ≤ size → start + 2 * field_count f ≤ size → (ks : List ℕ) → All (Below f) ks
    → All (λ x. x + 2 ≤ size) (kept_places start f new ks) × (length (kept_places start f new ks) ≤ length ks)
unfolding kept_places map_some push
kept_inside start f new size t l [] h = (tt, omega arith)
kept_inside start f new size t l (k ∷ ks) h = step (eqb (bit new k) 1) _ (kept_inside start f new size t l ks h.1)
  where
    step : (b : Bool) (r : List ℕ) → All (λ x. x + 2 ≤ size) r × (length r ≤ length ks)
        → All (λ x. x + 2 ≤ size) (push (cond b (Some (field_place start f k)) None) r) × (length (push (cond b (Some (field_place start f k)) None) r) ≤ length (k ∷ ks))
    step true r e = ((place_inside start f k size h.0 t l, e.0), omega (arith, e.1))
    step false r e = (e.0, omega (arith, e.1))

each_inside : (size : ℕ) → 2 ≤ size → (l : List ℕ) → All (λ x. x + 2 ≤ size) l → (i : ℕ) → get_or l i 0 + 2 ≤ size
each_inside size t [] h i = omega arith
each_inside size t (x ∷ l) h zero = h.0
each_inside size t (x ∷ l) h (suc i) = each_inside size t l h.1 i

pub places_inside : (f1 f2 n1 n2 : ℕ) → Places (places_of f1 f2 n1 n2) (pair_size f1 f2)
unfolding places_of
places_inside f1 f2 n1 n2 =
    let a = kept_inside 2 f1 n1 (pair_size f1 f2) (omega arith) (omega arith) fields (below f1) in
    let b = kept_inside (2 + 2 * field_count f1) f2 n2 (pair_size f1 f2) (omega arith) (omega arith) fields (below f2) in
    let xs = kept_places 2 f1 n1 fields in
    let ys = kept_places (2 + 2 * field_count f1) f2 n2 fields in
    record {
      few = omega (arith, length-append xs ys, a.1, b.1);
      within = each_inside (pair_size f1 f2) (omega arith) (xs ++ ys) (all_append (λ x. x + 2 ≤ pair_size f1 f2) xs ys a.0 b.0);
    }

-- The fields that are used: one of the first pair's values, or of the others'.
module _ (f1 f2 : ℕ) (g : List (ℕ × ℕ)) (s : List ℕ) where
  -- the pair at p with the second glyph y
  abbrev pair_at : ℕ → ℕ → Pair
  pair_at p y = record { second = y; first_values = words s (p + 2) (field_count f1); second_values = words s (p + 2 + 2 * field_count f1) (field_count f2) }

  module _ (get : Pair → List ℕ) (f start k : ℕ) (z : 0 < start) (b : Below f k) (there : (p y : ℕ) → get (pair_at p y) ≡ words s (p + start) (field_count f)) (m : ℕ) (r : List (ℕ × List Pair)) where
    used_left : (n p : ℕ) → used get f k ((m, map_some (cut_pair g) (pair_records s (field_count f1) (field_count f2) p n)) ∷ r)
        ≡ field_used g s (pair_size f1 f2) (field_place start f k) p n || used get f k r
    unfolding used field_used pair_records map_some cut_pair push bind is_some
    used_left zero p = refl
    used_left (suc n) p =
        let q : p + 2 + 2 * field_count f1 + 2 * field_count f2 ≡ p + pair_size f1 f2 = omega arith in
        step (find g (word s p)) (not (eqb (value_at s p (field_place start f k)) 0)) (λ y. ap (λ (x : ℕ). not (eqb x 0)) (ap (λ (vs : List ℕ). field f vs k) (there p y) ∙ value_is start f k z b s p))
        _ _ (rw (← q) (used_left n (p + 2 + 2 * field_count f1 + 2 * field_count f2)))
      where
        step : (o : Option ℕ) (u : Bool) → ((y : ℕ) → not (eqb (field f (get (pair_at p y)) k) 0) ≡ u) → (ps : List Pair) (v : Bool) → used get f k ((m, ps) ∷ r) ≡ v || used get f k r
            → used get f k ((m, push (bind o (λ y. Some (pair_at p y))) ps) ∷ r) ≡ ((u && is_some o) || v) || used get f k r
        step None true h ps v e = e
        step None false h ps v e = e
        step (Some y) true h ps v e = rw (h y)
        step (Some y) false h ps v e = rw (h y) e

  module _ (k m : ℕ) (r : List (ℕ × List Pair)) (at : ℕ) where
    -- a field of the first glyph's values is used if this set uses it, or another one does
    pub used_first : Below f1 k → used (λ p. p.first_values) f1 k ((m, map_some (cut_pair g) (pair_set (field_count f1) (field_count f2) s at)) ∷ r)
        ≡ field_used g s (pair_size f1 f2) (field_place 2 f1 k) (at + 2) (word s at) || used (λ p. p.first_values) f1 k r
    unfolding pair_set
    used_first b = used_left (λ p. p.first_values) f1 2 k (omega arith) b (λ p y. refl) m r (word s at) (at + 2)

    -- and one of the second's
    pub used_second : Below f2 k → used (λ p. p.second_values) f2 k ((m, map_some (cut_pair g) (pair_set (field_count f1) (field_count f2) s at)) ∷ r)
        ≡ field_used g s (pair_size f1 f2) (field_place (2 + 2 * field_count f1) f2 k) (at + 2) (word s at) || used (λ p. p.second_values) f2 k r
    unfolding pair_set
    used_second b = used_left (λ p. p.second_values) f2 (2 + 2 * field_count f1) k (omega arith) b (λ p y. ap (λ (i : ℕ). words s i (field_count f2)) (omega arith)) m r (word s at) (at + 2)
