-- Contexts by class: each covered glyph reaches the set of its class.
use Rattle.std.specs.Prelude.{ℕ, suc, ◌+◌, ◌≡◌, refl, Bool, true, false, cond, List, [], ◌∷◌, map, eqb, Option, None, Some}
use Rattle.std.proofs.Common.{ap, eqb-true}
use Rattle.meaning.specs.Words.{word, bind}
use Rattle.meaning.specs.Fault.{fault}
use Rattle.coverage_index.specs.Index.{index_of}
use Rattle.differences.specs.Entries.{beside}
use Rattle.first_glyphs.specs.First.{cover_of, sound_cover}
use Rattle.rule_says.specs.declared.Shape.{Shape}
use Rattle.gathered.specs.Gathered.{numbers_at}
use Rattle.class_stretches.specs.Tables.{NullOrSound}
use Rattle.class_places.specs.Places.{input_at, count_at}
use Rattle.class_tables.specs.Contexts.{set_place}

-- a sound context by class, plain or chained
pub record ByClass (chained : Bool) (s : List ℕ) : Type 0 where
  pub format : word s 0 ≡ 2
  pub sound : fault (cond chained 2 1) s ≡ None

-- what its codes stand for
abbrev pub shape_of : Bool → Shape
shape_of chained = record { kind = cond chained 2 1; classes = 1 }

-- each covered glyph with the numbers of the rules that it reaches
unfoldable pub numbers_by : Bool → List ℕ → List ℕ → ℕ → List (ℕ × List ℕ)
numbers_by chained num s side = map (λ g. (g, numbers_at num s side (set_place chained s g))) (cover_of s)

-- What is known of a sound context by class: its coverage and its input's class table are sound.
pub record ClassTable (chained : Bool) (s : List ℕ) : Type 0 where
  pub cover : sound_cover s ≡ true
  pub input : NullOrSound s (input_at chained s)

-- what stands beside a covered glyph, where f says it of each
pub by_glyph : {B : Type 0} (f : ℕ → B) (cov : List ℕ) (g : ℕ) → beside (map (λ c. (c, f c)) cov) g ≡ bind (index_of cov g) (λ i. Some (f g))
unfolding beside index_of bind
by_glyph f [] g = refl
by_glyph {B} f (c ∷ cov) g = step (eqb c g) refl (index_of cov g) (by_glyph f cov g)
  where
    step : (b : Bool) → eqb c g ≡ b → (o : Option ℕ) → beside (map (λ c. (c, f c)) cov) g ≡ bind o (λ i. Some (f g))
        → cond b (Some (f c)) (beside (map (λ c. (c, f c)) cov) g) ≡ bind (cond b (Some 0) (bind o (λ i. Some (suc i)))) (λ i. Some (f g))
    step true e o h = ap (λ (x : ℕ). Some (f x)) (eqb-true c g e)
    step false e None h = h
    step false e (Some i) h = h

-- the numbers of a covered glyph are those of the set of its class
pub in_classes : (chained : Bool) (num s : List ℕ) (side g : ℕ) → beside (numbers_by chained num s side) g ≡ bind (index_of (cover_of s) g) (λ i. Some (numbers_at num s side (set_place chained s g)))
unfolding numbers_by
in_classes chained num s side g = by_glyph (λ c. numbers_at num s side (set_place chained s c)) (cover_of s) g
