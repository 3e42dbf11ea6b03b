-- The ways through the readers.
use Prim.Native.Nat.{ℕ, ◌+◌, ◌-◌, ◌*◌, ◌/◌, ◌≤◌, ◌<◌}
use mathlib.Core.Path.{◌≡◌}
use mathlib.Core.List.{List}
use mathlib.Core.Logic.{◌⊎◌, inl, inr}
use native.Mathlib.Nat.{zero-add}
use native.Mathlib.Omega.{arith}
use lib.ListN.{length}
use borrow.Author.Tests.{eq-eqb, ne_eqb}
use Rattle.meaning.specs.Words.{word}
use Rattle.halving.specs.Rising as halving
use Rattle.glyph_runs.specs.Runs.{GlyphMap, run_count, old_of, new_of, size_at, size_of, IsRun, Past, Reached, form_is}
use Rattle.glyph_runs.specs.Found.{run_is, apart}
use Rattle.glyph_runs.specs.declared.Run.{Run}

-- how many runs there are
module _ {form : ℕ} {m : List ℕ} (g : GlyphMap form m) where
  pub count_pairs : (form ≡ 6 → ⊥) → length m / 4 ≡ length m / form
  count_pairs h = pick (form_is g.form_good)
    where
      pick : (form ≡ 4) ⊎ (form ≡ 6) → length m / 4 ≡ length m / form
      pick (inl e) = rw e
      pick (inr e) = absurd (h e)

  -- the i-th run, by its words
  pub is_run : {i old new count : ℕ} → i < run_count form m → old ≡ old_of form m i → new ≡ new_of form m i → count ≡ size_of form m i → IsRun form m i (record { old = old; new = new; count = count })
  is_run {i} h a b c =
      let r = run_is g i h in
      rw (a, b, c) r

  -- the search goes over first old ids: the run before the one that it finds may still end after the glyph
  module _ {from x after : ℕ} (p : Past form m x from) (w : halving.Reached m 0 form (run_count form m) from (x + 1) after) where
    start : (k : ℕ) → 0 + form * k ≡ form * k
    start k = zero-add (form * k)

    starts : after < run_count form m → x < old_of form m after
    starts l = omega (arith, rw (start after) at (w.above l))

    pub reach_none : after ≡ from → Reached form m x after
    reach_none e = record { within = w.most; passed = rw e p; ends = λ l. omega (arith, starts l) }

    module _ {r : Run} (n : after ≡ from → ⊥) (d : IsRun form m (after - 1) r) where
      pub reach_in : x < r.old + r.count → Reached form m x (after - 1)
      reach_in l = record {
        within = omega (arith, w.most);
        passed = λ k e. omega (arith, apart g k (after - 1) (omega arith) (omega (arith, w.most, w.least)), rw (start (after - 1)) at (w.below (after - 1) (omega (arith, w.least)) (omega (arith, w.least))));
        ends = λ h. omega (arith, d.old, d.count);
      }

      pub reach_past : r.old + r.count ≤ x → Reached form m x after
      reach_past l = record {
        within = w.most;
        passed = λ k e. let q : k ≡ after - 1 = omega arith in rw q (omega (arith, d.old, d.count));
        ends = λ h. omega (arith, starts h);
      }

-- the count of a run in either form
pub size_six : {form : ℕ} (m : List ℕ) (at : ℕ) → form ≡ 6 → size_at form m at ≡ word m (at + 4)
unfolding size_at
size_six {form} m at e = rw (eq-eqb form 6 e)

pub size_one : {form : ℕ} (m : List ℕ) (at : ℕ) → (form ≡ 6 → ⊥) → size_at form m at ≡ 1
unfolding size_at
size_one {form} m at e = rw (ne_eqb form 6 e)
