-- Good runs: what the loop over them keeps, and good maps by their form.
use Prim.Native.Nat.{ℕ, ◌+◌, ◌-◌, ◌*◌, ◌/◌, ◌%◌, ◌≤◌, ◌<◌}
use mathlib.Core.Path.{◌≡◌, refl, sym, ap, ◌∙◌}
use mathlib.Core.Bool.{Bool, true, false, ◌&&◌}
use mathlib.Core.List.{List, ◌∷◌}
use native.Mathlib.Nat.{zero-add}
use native.Mathlib.Omega.{arith}
use lib.ListN.{length}
use lib.Dec.{leb, ltb}
use borrow.Author.Tests.{eq-eqb, ne_eqb}
use Rattle.meaning.specs.Words.{word, triples}
use Rattle.meaning.specs.Maps.{map_runs, runs_rise, good_glyphs, good_runs, good_glyph_map}
use Rattle.laws.specs.Left.{triples_left, triples_all, triples_none}

-- a run may stand where old and new are the lowest numbers that are left
abbrev pub run_fits : ℕ → ℕ → ℕ → ℕ → ℕ → Bool
run_fits old new o w n = leb old o && (leb new w && (ltb 0 n && (leb (o + n) 65536 && leb (w + n) 65536)))

runs_first : (old new o w n : ℕ) (r : List (ℕ × ℕ × ℕ)) → runs_rise old new ((o, w, n) ∷ r) ≡ run_fits old new o w n && runs_rise (o + n) (w + n) r
unfolding runs_rise
runs_first old new o w n r = step (leb old o) (leb new w) (ltb 0 n) (leb (o + n) 65536)
  where
    step : (a b c d : Bool) → a && (b && (c && (d && (leb (w + n) 65536 && runs_rise (o + n) (w + n) r)))) ≡ (a && (b && (c && (d && leb (w + n) 65536)))) && runs_rise (o + n) (w + n) r
    step false b c d = refl
    step true false c d = refl
    step true true false d = refl
    step true true true false = refl
    step true true true true = refl

-- What the loop keeps: the answer for the runs that are left is the whole answer.
pub record Rising (m : List ℕ) (old new i : ℕ) : Type 0 where
  pub within : i ≤ length m / 6
  pub left : runs_rise old new (triples m (6 * i) (length m / 6 - i)) ≡ runs_rise 0 0 (map_runs m)

module _ {m : List ℕ} where
  pub rising_all : Rising m 0 0 0
  unfolding map_runs
  rising_all = record { within = omega arith; left = ap (runs_rise 0 0) (triples_all m 0 (length m / 6)) }

  module _ {old new i o w n : ℕ} {b : Bool} (k : Rising m old new i) (h : i < length m / 6)
      (eo : o ≡ word m (6 * i)) (ew : w ≡ word m (6 * i + 2)) (en : n ≡ word m (6 * i + 4)) (eb : b ≡ run_fits old new o w n) where
    -- the run's answer, and that for the others
    turn : b && runs_rise (o + n) (w + n) (triples m (6 * (i + 1)) (length m / 6 - (i + 1))) ≡ runs_rise 0 0 (map_runs m)
    turn =
        let e = rw (zero-add (6 * i), zero-add (6 * (i + 1))) at (triples_left m 0 (length m / 6) i h) in
        rw (eb, eo, ew, en) (sym (runs_first old new _ _ _ _) ∙ ap (runs_rise old new) (sym e) ∙ k.left)

    pub rising_turn : b ≡ true → Rising m (o + n) (w + n) (i + 1)
    rising_turn f = record { within = omega arith; left = rw f at turn }

    -- a run that does not fit settles it
    pub rising_faulty : length m % 6 ≡ 0 → b ≡ false → false ≡ good_runs m
    unfolding good_runs
    rising_faulty z f = rw (eq-eqb (length m % 6) 0 z) (rw f at turn)

  pub rising_end : {old new i : ℕ} → Rising m old new i → length m / 6 ≤ i → length m % 6 ≡ 0 → true ≡ good_runs m
  unfolding runs_rise good_runs
  rising_end {i = i} k h z = rw (eq-eqb (length m % 6) 0 z) (rw (triples_none m (6 * i) (length m / 6) i h) at k.left)

module _ (m : List ℕ) where
  pub runs_broken : (length m % 6 ≡ 0 → ⊥) → false ≡ good_runs m
  unfolding good_runs
  runs_broken h = rw (ne_eqb (length m % 6) 0 h)

  -- by the form
  pub form_runs : (form : ℕ) → form ≡ 6 → good_runs m ≡ good_glyph_map form m
  unfolding good_glyph_map
  form_runs form e = rw (eq-eqb form 6 e)

  pub form_pairs : (form : ℕ) → (form ≡ 6 → ⊥) → good_glyphs m ≡ good_glyph_map form m
  unfolding good_glyph_map
  form_pairs form e = rw (ne_eqb form 6 e)
