-- The ways through the list of one first glyph by numbers, and the walk over all glyphs.
use Prim.Native.Nat.{ℕ, ◌+◌, ◌≤◌, ◌<◌}
use mathlib.Core.Path.{◌≡◌, refl, sym, ◌∙◌}
use Rattle.std.specs.Prelude.{None, Some}
use mathlib.Core.List.{List, [], ◌∷◌}
use native.Mathlib.Omega.{arith}
use lib.ListN.{length, get_or}
use lib.Dec.{eqb}
use Rattle.meaning.specs.Words.{bind, up_from}
use Rattle.coverage_index.specs.Index.{index_of}
use Rattle.differences.specs.Entries.{Entry, each, beside, longer, rule_entries}
use Rattle.listing.specs.Listed.{entry_of, Listed, listed_said, Through, through_all, through_turn, through_end}
use Rattle.first_glyphs.specs.First.{right_only, at_glyph, at_right, at_left, at_both}
use Rattle.set_numbers.specs.Sets.{codes_of}
use Rattle.gathered.specs.Gathered.{numbers_at, Fit, Remembered}

-- One first glyph. The numbers of its rules are h i on the left and k j on the right, by its indices i and j.
module _ (ns ms : List (ℕ × List ℕ)) (c d : List ℕ) (h k : ℕ → List ℕ) (g : ℕ) (e : beside ns g ≡ bind (index_of c g) (λ i. Some (h i))) (f : beside ms g ≡ bind (index_of d g) (λ j. Some (k j)))
    {out next : List ℕ} {pos q : ℕ} where
  -- the left does not cover it
  pub glyph_right : None ≡ index_of c g → Listed (right_only g (index_of d g)) out pos next q × (q ≤ pos + 12) → Listed (at_glyph (rule_entries eqb) ns ms g) out pos next q × (q ≤ pos + 0x18_0000)
  glyph_right x l = (listed_said l.0 (at_right (rule_entries eqb) ns ms c d h k g e f (sym x)), omega (arith, l.1))

  module _ {i : ℕ} (x : Some i ≡ index_of c g) where
    -- only the left covers it
    pub glyph_left : None ≡ index_of d g → Listed (entry_of 2 0 g 0 0 0 ∷ []) out pos next q → Listed (at_glyph (rule_entries eqb) ns ms g) out pos next q × (q ≤ pos + 0x18_0000)
    glyph_left y l = (listed_said l (at_left (rule_entries eqb) ns ms c d h k g e f (sym x) (sym y)), omega (arith, l.place))

    -- both cover it
    pub glyph_both : {j : ℕ} → Some j ≡ index_of d g → Listed (rule_entries eqb g (h i) (k j)) out pos next q → Listed (at_glyph (rule_entries eqb) ns ms g) out pos next q
    glyph_both y l = listed_said l (at_both (rule_entries eqb) ns ms c d h k g e f (sym x) (sym y))

-- two null sets list nothing
remembered_null : (num l r : List ℕ) {nums : List ℕ} → (get_or nums 131072 0 ≡ 0) × (get_or nums 131073 0 ≡ 0) × (get_or nums 131074 0 ≡ 0) → Remembered num l r nums
unfolding numbers_at codes_of rule_entries longer each up_from
remembered_null num l r z = record { few = omega (arith, z.2); bytes = rw (z.2, z.0, z.1) }

-- what the walk over all glyphs keeps, where f is listed of each
pub record Going (f : ℕ → List Entry) (num left right out₀ nums₀ heads₀ links₀ out nums heads links : List ℕ) (at g : ℕ) : Type 0 where
  pub through : Through f 65536 0x18_0000 out₀ 0 out at g
  pub remembered : Remembered num left right nums
  pub nums_size : length nums ≡ length nums₀
  pub heads_size : length heads ≡ length heads₀
  pub links_size : length links ≡ length links₀

module _ {f : ℕ → List Entry} {num left right out₀ nums₀ heads₀ links₀ : List ℕ} where
  pub going_none : (get_or nums₀ 131072 0 ≡ 0) × (get_or nums₀ 131073 0 ≡ 0) × (get_or nums₀ 131074 0 ≡ 0) → Going f num left right out₀ nums₀ heads₀ links₀ out₀ nums₀ heads₀ links₀ 0 0
  going_none z = record { through = through_all; remembered = remembered_null num left right z; nums_size = refl; heads_size = refl; links_size = refl }

  module _ {out nums heads links : List ℕ} {at g : ℕ} (k : Going f num left right out₀ nums₀ heads₀ links₀ out nums heads links at g) where
    pub going_fit : {n : ℕ} → Fit num n (length heads₀) (length links₀) → length nums₀ ≡ n → Fit num (length nums) (length heads) (length links)
    going_fit w e = record { below = λ c. omega (arith, w.below c, k.heads_size); rows = omega (arith, w.rows, k.nums_size); linked = omega (arith, w.linked, k.links_size) }

    pub going_turn : g < 65536 → {next ns hs ls : List ℕ} {q : ℕ} → Listed (f g) out at next q × (q ≤ at + 0x18_0000) × Remembered num left right ns
        → length ns ≡ length nums → length hs ≡ length heads → length ls ≡ length links → Going f num left right out₀ nums₀ heads₀ links₀ next ns hs ls q (g + 1)
    going_turn h l a b c = record {
      through = through_turn k.through h l.0 l.1;
      remembered = l.2;
      nums_size = a ∙ k.nums_size;
      heads_size = b ∙ k.heads_size;
      links_size = c ∙ k.links_size;
    }

    pub going_end : 65536 ≤ g → Listed (each f (up_from 0 65536)) out₀ 0 out at × (at ≤ 0x18_0000_0000)
    going_end h =
        let e = through_end k.through h in
        (e.0, omega (arith, e.1))
