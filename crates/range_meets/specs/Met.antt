-- The covered glyphs that a map has.
use Rattle.std.specs.Prelude.{ℕ, suc, ◌+◌, ◌/◌, ◌%◌, ◌≤◌, ◌<◌, ◌≡◌, Bool, false, cond, length, Option, None, Some}
use Rattle.std.proofs.Math.Path.{refl}
use Rattle.std.proofs.Common.{sym, ap, ◌∙◌}
use Rattle.std.proofs.Math.Bool.{true}
use mathlib.Core.List.{List, [], ◌∷◌, map}
use native.Mathlib.Omega.{arith}
use Rattle.std.proofs.lemmas.List.{length-map}
use Rattle.std.proofs.Math.Dec.{eqb}
use borrow.Author.Tests.{ne_eqb, eqb-true}
use Rattle.meaning.specs.Words.{find, bind, push, map_some, values, keys, ascends}
use Rattle.meaning.specs.Maps.{map_entries}
use Rattle.meaning.specs.Parts.{coverage, coverage_sound}
use Rattle.meaning.specs.Cut.{new_coverage}
use Rattle.laws.specs.Stands.{All}
use Rattle.laws.specs.Runs.{Up}
use Rattle.cell_maps.specs.Cells.{Kept, Holds}
use Rattle.cell_maps.specs.declared.Map.{Map}
use Rattle.area.specs.Part.{part, part_length, news, notes}

-- the glyphs that the map f answers, in order, each as its coverage index and its new number; the first has the index i
unfoldable pub met : (ℕ → Option ℕ) → ℕ → List ℕ → List (ℕ × ℕ)
met f i [] = []
met f i (c ∷ cov) = push (bind (f c) (λ n. Some (i, n))) (met f (i + 1) cov)

-- r cells from `to` on note the glyphs of cov that the map f answers, each as its coverage index times 65,536, plus its new number; the cells before `to` are as before
pub record Met (f : ℕ → Option ℕ) (cov t₀ : List ℕ) (to : ℕ) (t : List ℕ) (r : ℕ) : Type 0 where
  pub kept : Kept to t₀ t
  pub fits : to + r ≤ length t₀
  pub noted : notes t to r ≡ met f 0 cov

-- what `meet` asks: the coverage is sound, m holds the glyph map, whose old numbers ascend, and behind its cells there is one cell more than the map has entries
pub record Meets (s : List ℕ) (at : ℕ) (glyphs : List ℕ) (m : Map) (t : List ℕ) (to : ℕ) : Type 0 where
  pub sound : coverage_sound s at ≡ true
  pub ascend : ascends (keys (map_entries glyphs)) ≡ true
  pub holds : Holds t m (map_entries glyphs)
  pub behind : m.at + m.mask < to
  pub room : to + length glyphs / 4 < length t

-- maps that answer the same meet the same
pub met_same : (f h : ℕ → Option ℕ) → ((x : ℕ) → f x ≡ h x) → (i : ℕ) (cov : List ℕ) → met f i cov ≡ met h i cov
unfolding met
met_same f h e i [] = refl
met_same f h e i (c ∷ cov) = rw (e c) (ap (push (bind (h c) (λ n. Some (i, n)))) (met_same f h e (i + 1) cov))

-- their new numbers are the new coverage
pub met_values : (g : List (ℕ × ℕ)) (i : ℕ) (cov : List ℕ) → values (met (find g) i cov) ≡ new_coverage g cov
unfolding met values new_coverage map_some push bind
met_values g i [] = refl
met_values g i (c ∷ cov) = step (find g c) (met_values g (i + 1) cov)
  where
    step : (o : Option ℕ) → values (met (find g) (i + 1) cov) ≡ new_coverage g cov → values (push (bind o (λ n. Some (i, n))) (met (find g) (i + 1) cov)) ≡ push o (new_coverage g cov)
    step None e = e
    step (Some n) e = ap (λ (l : List ℕ). n ∷ l) e

values_notes : (l : List ℕ) → values (map (λ c. (c / 65536, c % 65536)) l) ≡ map (λ c. c % 65536) l
unfolding values
values_notes [] = refl
values_notes (c ∷ l) = ap (λ (r : List ℕ). c % 65536 ∷ r) (values_notes l)

values_length : (es : List (ℕ × ℕ)) → length (values es) ≡ length es
unfolding values
values_length [] = refl
values_length (e ∷ es) = ap suc (values_length es)

module _ {cov t₀ : List ℕ} {to : ℕ} {t : List ℕ} {r : ℕ} where
  -- the new numbers that the cells hold
  pub met_news : (g : List (ℕ × ℕ)) → Met (find g) cov t₀ to t r → news t to r ≡ new_coverage g cov
  met_news g h = sym (values_notes (part t to r)) ∙ ap values h.noted ∙ met_values g 0 cov

  -- there are as many as are met
  pub met_count : {f : ℕ → Option ℕ} → Met f cov t₀ to t r → length (met f 0 cov) ≡ r
  met_count h = ap length (sym h.noted) ∙ length-map (part t to r) (λ c. (c / 65536, c % 65536)) ∙ part_length t to r

-- A map has no say in glyphs above its entries, so that a coverage that ascends has no more retained glyphs than the map has entries.
pub up_least : (low : ℕ) (cov : List ℕ) → Up low cov → All (λ c. low ≤ c) cov
up_least low [] u = tt
up_least low (c ∷ cov) u = (u.0, more cov (up_least (c + 1) cov u.1))
  where
    more : (l : List ℕ) → All (λ x. c + 1 ≤ x) l → All (λ x. low ≤ x) l
    more [] h = tt
    more (x ∷ l) h = (omega (arith, u.0, h.0), more l h.1)

pub met_none : (i : ℕ) (cov : List ℕ) → met (find []) i cov ≡ []
unfolding met find bind push
met_none i [] = refl
met_none i (c ∷ cov) = met_none (i + 1) cov

module _ (k v : ℕ) (g : List (ℕ × ℕ)) where
  pub entry_below : (i : ℕ) (cov : List ℕ) → All (λ c. k < c) cov → met (find ((k, v) ∷ g)) i cov ≡ met (find g) i cov
  unfolding met find
  entry_below i [] h = refl
  entry_below i (c ∷ cov) h = rw (ne_eqb k c (omega (arith, h.0))) (ap (push (bind (find g c) (λ n. Some (i, n)))) (entry_below (i + 1) cov h.1))

  entry_retains : (i low : ℕ) (cov : List ℕ) → Up low cov → length (met (find ((k, v) ∷ g)) i cov) ≤ suc (length (met (find g) i cov))
  unfolding met find push bind
  entry_retains i low [] u = omega arith
  entry_retains i low (c ∷ cov) u = step (eqb k c) refl (find g c) (entry_retains (i + 1) (c + 1) cov u.1)
    where
      above : eqb k c ≡ true → (l : List ℕ) → All (λ x. c + 1 ≤ x) l → All (λ x. k < x) l
      above e [] h = tt
      above e (x ∷ l) h = (omega (arith, eqb-true k c e, h.0), above e l h.1)

      step : (b : Bool) → eqb k c ≡ b → (o : Option ℕ) → length (met (find ((k, v) ∷ g)) (i + 1) cov) ≤ suc (length (met (find g) (i + 1) cov))
          → length (push (bind (cond b (Some v) o) (λ n. Some (i, n))) (met (find ((k, v) ∷ g)) (i + 1) cov)) ≤ suc (length (push (bind o (λ n. Some (i, n))) (met (find g) (i + 1) cov)))
      step true e None h = omega (arith, ap length (entry_below (i + 1) cov (above e cov (up_least (c + 1) cov u.1))))
      step true e (Some n) h = omega (arith, ap length (entry_below (i + 1) cov (above e cov (up_least (c + 1) cov u.1))))
      step false e None h = h
      step false e (Some n) h = omega arith

pub met_few : (g : List (ℕ × ℕ)) (cov : List ℕ) → Up 0 cov → length (met (find g) 0 cov) ≤ length g
met_few [] cov u = omega (arith, ap length (met_none 0 cov))
met_few ((k, v) ∷ g) cov u = omega (arith, entry_retains k v g 0 0 cov u, met_few g cov u)
