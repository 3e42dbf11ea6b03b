-- What the loop over the notes keeps, and the sum of the fields.
use Prim.Native.Nat.{ℕ, ◌+◌, ◌-◌, ◌*◌, ◌/◌, ◌%◌, ◌≤◌, ◌<◌}
use mathlib.Core.Path.{◌≡◌, refl, sym, ap, ap₂, ◌∙◌}
use mathlib.Core.Bool.{Bool, true, false, ◌||◌}
use mathlib.Core.List.{List, map}
use native.Mathlib.Omega.{arith}
use lib.ListN.{length, get_or}
use Rattle.meaning.specs.Words.{word}
use Rattle.meaning.specs.Tables.{field_count}
use Rattle.meaning.specs.Cut.{keep_if, stand_in}
use Rattle.area.specs.Part.{part_left, part_all, part_none, notes, old_at}
use Rattle.pair_places.specs.Formats.{field_place, pair_size, Below, place_inside}
use Rattle.field_uses.specs.New.{format_in, NewFormats}
use Rattle.field_uses.specs.Used.{set_uses, used_in, NamesSets, absent_unused}

-- none of the sets that the first i notes name uses the field
pub record Using (g : List (ℕ × ℕ)) (s : List ℕ) (size place : ℕ) (t : List ℕ) (at n i : ℕ) : Type 0 where
  pub within : i ≤ n
  pub left : used_in g s size place (notes t (at + i) (n - i)) ≡ used_in g s size place (notes t at n)

module _ {g : List (ℕ × ℕ)} {s : List ℕ} {size place : ℕ} {t : List ℕ} {at n : ℕ} where
  pub using_all : Using g s size place t at n 0
  using_all = record { within = omega arith; left = ap (λ (l : List ℕ). used_in g s size place (map (λ c. (c / 65536, c % 65536)) l)) (part_all t at n) }

  module _ {i : ℕ} (u : Using g s size place t at n i) where
    module _ (h : i < n) {note off : ℕ} (v : note ≡ get_or t (at + i) 0) (e : off ≡ word s (10 + 2 * (note / 65536))) {b : Bool} (f : b ≡ set_uses g s size place off) where
      first_is : used_in g s size place (notes t at n) ≡ b || used_in g s size place (notes t (at + (i + 1)) (n - (i + 1)))
      unfolding used_in
      first_is = sym u.left ∙ rw (part_left t at n i h, f, e, v) refl

      -- the next one does, or not
      pub using_found : b ≡ true → true ≡ used_in g s size place (notes t at n)
      using_found w = sym (first_is ∙ rw w refl)

      pub using_next : b ≡ false → Using g s size place t at n (i + 1)
      using_next w = record { within = omega arith; left = sym (first_is ∙ rw w refl) }

    -- none does
    pub using_end : n ≤ i → false ≡ used_in g s size place (notes t at n)
    unfolding used_in
    using_end h = rw (part_none t at n i h) at u.left

-- a field's bit
pub bit_kept : {b u : Bool} (k : ℕ) → b ≡ u → b ≡ true → (k ≡ keep_if u k) × (k ≤ k)
unfolding keep_if
bit_kept k e w = (rw (sym e ∙ w) refl, omega arith)

pub bit_gone : {b u : Bool} (k : ℕ) → b ≡ u → b ≡ false → (0 ≡ keep_if u k) × (0 ≤ k)
unfolding keep_if
bit_gone k e w = (rw (sym e ∙ w) refl, omega arith)

-- at the place 0 there is no field
pub unused : (g : List (ℕ × ℕ)) (s : List ℕ) (size : ℕ) (ns : List (ℕ × ℕ)) {place : ℕ} → place ≡ 0 → false ≡ used_in g s size place ns
unused g s size ns e = rw e (sym (absent_unused g s size ns))

-- the set that a note names lies inside
pub names_inside : {s t : List ℕ} {at n size i off : ℕ} → NamesSets s t at n size → i < n → off ≡ word s (10 + 2 * old_at t (at + i)) → (off ≡ 0 → ⊥) → off + 2 + size * word s off ≤ length s
names_inside {i = i} m h e z = rw e (m.inside i h (λ w. z (e ∙ w)))

-- a field stands in a pair record
pub place_fits : (start f k size : ℕ) {place : ℕ} → place ≡ field_place start f k → Below f k → 2 ≤ size → start + 2 * field_count f ≤ size → place + 2 ≤ size
place_fits start f k size e b t l = rw e (place_inside start f k size b t l)

-- the sum of the fields that stay
pub format_sum : (g : List (ℕ × ℕ)) (s : List ℕ) (size start f : ℕ) (ns : List (ℕ × ℕ)) {p q u v a b c d : ℕ}
    → p ≡ field_place start f 1 → q ≡ field_place start f 2 → u ≡ field_place start f 4 → v ≡ field_place start f 8
    → a ≡ keep_if (used_in g s size p ns) 1 → b ≡ keep_if (used_in g s size q ns) 2 → c ≡ keep_if (used_in g s size u ns) 4 → d ≡ keep_if (used_in g s size v ns) 8
    → a + b + c + d ≡ format_in g s size start f ns
unfolding format_in
format_sum g s size start f ns e i j k w x y z = rw (w, x, y, z, e, i, j, k)

-- the formats of a table, put together
module _ (s : List ℕ) {f1 f2 a b : ℕ} (e : f1 ≡ word s 4) (f : f2 ≡ word s 6) (x : a ≡ field_count f1) (y : b ≡ field_count f2) where
  pub size_is : 2 + 2 * a + 2 * b ≡ pair_size (word s 4) (word s 6)
  size_is = rw (x, y, e, f)

  pub names_sized : {t : List ℕ} {at n : ℕ} → NamesSets s t at n (pair_size (word s 4) (word s 6)) → NamesSets s t at n (2 + 2 * a + 2 * b)
  names_sized h = rw size_is h

  pub formats_new : (g ns : List (ℕ × ℕ)) {n1 m n2 : ℕ} → n1 ≡ format_in g s (2 + 2 * a + 2 * b) 2 f1 ns → m ≡ format_in g s (2 + 2 * a + 2 * b) (2 + 2 * a) f2 ns → n2 ≡ stand_in f2 m
      → NewFormats g s ns (record { f1 = f1; f2 = f2; n1 = n1; n2 = n2; size = 2 + 2 * a + 2 * b })
  formats_new g ns h k l =
      let size = pair_size (word s 4) (word s 6) in
      let start : 2 + 2 * a ≡ 2 + 2 * field_count (word s 4) = ap (λ (n : ℕ). 2 + 2 * n) (x ∙ ap field_count e) in
      record {
        f1 = e;
        f2 = f;
        size = size_is;
        n1 = h ∙ ap₂ (λ (n i : ℕ). format_in g s n 2 i ns) size_is e;
        n2 = l ∙ ap₂ stand_in f (k ∙ ap₂ (λ (n i : ℕ). format_in g s n i f2 ns) size_is start ∙ ap (λ (i : ℕ). format_in g s size (2 + 2 * field_count (word s 4)) i ns) f);
      }
