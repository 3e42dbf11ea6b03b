-- What is left of ligatures, part by part, and what the check says of one.
use Rattle.std.specs.Prelude.{ℕ, ◌+◌, ◌-◌, ◌*◌, ◌≤◌, ◌≡◌, List, [], ◌∷◌, length, Option, None, Some}
use Rattle.std.proofs.Math.Path.{refl}
use Rattle.std.proofs.Common.{sym, ap, ◌∙◌, arith}
use Rattle.meaning.specs.Words.{word, words, inside, find, bind, map_all}
use Rattle.meaning.specs.Tables.{Ligature, ligature, ligature_set}
use Rattle.meaning.specs.Fault.{part_fault, ligature_fault}
use Rattle.meaning.specs.Cut.{unless_empty, cut_ligature, cut_ligatures}
use Rattle.meaning.specs.Layout.{block, ligature_words, set_words}
use Rattle.laws.specs.Runs.{both}
use Rattle.laws.specs.SoundGood.{part_sound}
use Rattle.laws.specs.Members.{members}
use Rattle.numbers.specs.Leaves.{Leaves, joined, leaves_said}
use Rattle.member_sets.specs.Sets.{set_most}
use Rattle.member_sets.specs.Sound.{inside_is}

-- the words of what is left of the ligature at a place
abbrev pub ligature_left : List (ℕ × ℕ) → List ℕ → ℕ → Option (List ℕ)
ligature_left g s at = block ligature_words (cut_ligature g (ligature s at))

-- how many bytes the ligature at `at` takes in the source: its glyph, its count, its components after the first
unfoldable pub ligature_size : List ℕ → ℕ → ℕ
ligature_size s at = 4 + 2 * (word s (at + 2) - 1)

-- a ligature that is sound lies inside
pub ligature_inside : (s : List ℕ) (at : ℕ) → ligature_fault s at ≡ None → at + ligature_size s at ≤ length s
unfolding ligature_fault ligature_size
ligature_inside s at h = omega (arith, inside_is s (at + 4) (2 * (word s (at + 2) - 1)) (both (inside s at 4) _ (part_sound at _ _ h).0).1)

module _ (g : List (ℕ × ℕ)) (s : List ℕ) (at : ℕ) where
  -- one whose glyph has no new number goes
  pub ligature_gone : find g (word s at) ≡ None → block ligature_words (cut_ligature g (ligature s at)) ≡ None
  unfolding block cut_ligature ligature bind
  ligature_gone e = rw e

  -- another one is its new glyph, its count, and its components if all have new numbers
  pub ligature_is : {y : ℕ} → find g (word s at) ≡ Some y
      → block ligature_words (cut_ligature g (ligature s at)) ≡ joined (Some (y ∷ word s (at + 2) ∷ [])) (map_all (find g) (words s (at + 4) (word s (at + 2) - 1)))
  unfolding block cut_ligature ligature ligature_words bind joined
  ligature_is {y} e = rw e (step (map_all (find g) (words s (at + 4) (word s (at + 2) - 1))))
    where
      step : (o : Option (List ℕ)) → block ligature_words (bind o (λ ps. Some (record { glyph = y; count = word s (at + 2); parts = ps }))) ≡ joined (Some (y ∷ word s (at + 2) ∷ [])) o
      step None = refl
      step (Some ps) = refl

  -- as its parts are written
  pub ligature_left_lem : {a b : List ℕ} {p r x y v n : ℕ} → x ≡ word s at → find g x ≡ Some y → v ≡ word s (at + 2) → n ≡ v - 1
      → Leaves a p (joined (Some (y ∷ v ∷ [])) (map_all (find g) (words s (at + 4) n))) (4 + 2 * n) b r
      → Leaves a p (block ligature_words (cut_ligature g (ligature s at))) (ligature_size s at) b r
  unfolding ligature_size
  ligature_left_lem e f c h l = leaves_said l (rw (h, c) (sym (ligature_is (rw e at f)))) (omega (arith, c, h))

  -- what is left of a set, as its members
  pub ligatures_said : {a b : List ℕ} {p n r : ℕ} → n ≡ word s at
      → Leaves a p (block (set_words ligature_words) (unless_empty (members (ligature s) (cut_ligature g) s at (at + 2) n))) (set_most ligature_words (unless_empty (members (ligature s) (cut_ligature g) s at (at + 2) n)) s) b r
      → Leaves a p (block (set_words ligature_words) (cut_ligatures g (ligature_set s at))) (set_most ligature_words (cut_ligatures g (ligature_set s at)) s) b r
  unfolding members cut_ligatures ligature_set
  ligatures_said e l = rw e at l
