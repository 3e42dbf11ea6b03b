-- Two answers that say the same of one source, each under its own maps.
use Rattle.std.specs.Prelude.{ℕ, ◌≡◌, refl, List, Option, None, Some, option_map}
use Rattle.std.proofs.Common.{sym, ◌∙◌, ap}
use Rattle.meaning.specs.Words.{find}
use Rattle.promises.specs.Strings.{Retained}
use Rattle.promises.specs.Rules.{with_lookup, renumbered}
use Rattle.promises.specs.Covers.{keys_same}
use Rattle.promises.specs.Survives.{is_retained}
use Rattle.more.specs.Wider.{Wider}

-- what a wider map retains
pub retained_more : (g h : List (ℕ × ℕ)) → Wider g h → (x : ℕ) → Retained g x → Retained h x
unfolding is_retained
retained_more g h w x r = sym (keys_same h x) ∙ w x (keys_same g x ∙ r)

-- two answers are alike: there is none, or there is one each, and they are related
abbrev pub Alike : {A B : Type 0} → (A → B → Type 0) → Option A → Option B → Type 0
Alike R None None = Unit {0}
Alike R None (Some b) = ⊥
Alike R (Some a) None = ⊥
Alike R (Some a) (Some b) = R a b

-- two answers made of one
pub alike_map : {A B C : Type 0} (R : A → B → Type 0) (s : Option C) (f : C → A) (k : C → B) → ((x : C) → s ≡ Some x → R (f x) (k x)) → Alike R (option_map f s) (option_map k s)
alike_map R None f k r = tt
alike_map R (Some x) f k r = r x refl

-- alike answers have equal images under what the relation makes equal
pub alike_same : {A B C : Type 0} (R : A → B → Type 0) (f : A → C) (k : B → C) → ((a : A) (b : B) → R a b → f a ≡ k b) → (o : Option A) (p : Option B) → Alike R o p → option_map f o ≡ option_map k p
alike_same R f k e None None r = refl
alike_same R f k e None (Some b) r = absurd r
alike_same R f k e (Some a) None r = absurd r
alike_same R f k e (Some a) (Some b) r = ap Some (e a b r)

-- one match of the source, under both lookup maps: its input length; its records in order, less those whose lookup the map has not, renumbered;
-- and the source records that the first keeps are those that the second keeps, in order, less those whose lookup only the second map has
pub record SameMatch (l m : List (ℕ × ℕ)) (source : Option (ℕ × List (ℕ × ℕ))) (a b : ℕ × List (ℕ × ℕ)) : Type 0 where
  pub input : a.0 ≡ b.0
  pub records : List (ℕ × ℕ)
  pub of_source : source ≡ Some (a.0, records)
  pub of_first : a.1 ≡ renumbered l records
  pub of_second : b.1 ≡ renumbered m records
  pub less : with_lookup l (with_lookup m records) ≡ with_lookup l records

-- one ligature of the source, under both glyph maps: its glyph's two new numbers, and its count of components
pub record SameLigature (g h : List (ℕ × ℕ)) (source : Option (ℕ × ℕ)) (a b : ℕ × ℕ) : Type 0 where
  pub count : a.1 ≡ b.1
  pub glyph : ℕ
  pub of_source : source ≡ Some (glyph, a.1)
  pub of_first : find g glyph ≡ Some a.0
  pub of_second : find h glyph ≡ Some b.0

-- one substitute of the source, under both glyph maps: its two new numbers
pub record SameSubstitute (g h : List (ℕ × ℕ)) (source : Option ℕ) (a b : ℕ) : Type 0 where
  pub glyph : ℕ
  pub of_source : source ≡ Some glyph
  pub of_first : find g glyph ≡ Some a
  pub of_second : find h glyph ≡ Some b
