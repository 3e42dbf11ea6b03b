-- A good glyph map as runs, in either form: pairs are runs of one.
use Prim.Native.Nat.{ℕ, zero, suc, ◌+◌, ◌*◌, ◌/◌, ◌%◌, ◌≤◌, ◌<◌}
use Rattle.std.specs.Prelude.{◌≡◌, Bool, true, false, cond, ◌||◌, ◌⊎◌, length, eqb}
use Rattle.std.proofs.Math.Path.{refl, ap}
use Rattle.std.proofs.Common.{sym, inl, inr, arith}
use mathlib.Core.List.{List, [], ◌∷◌}
use borrow.Author.Tests.{le-leb, eqb-true}
use Rattle.meaning.specs.Words.{word, entries, triples, keys, values}
use Rattle.meaning.specs.Maps.{map_entries, map_runs, steps, run_pairs, runs_rise, good_runs, good_form, glyph_entries, good_glyph_map}
use Rattle.laws.specs.Runs.{Up, both}
use Rattle.laws.specs.Stands.{All}
use Rattle.laws.specs.SetsBack.{Words2}
use Rattle.laws.specs.SoundGood.{Bytes}
use Rattle.laws.specs.CutGood.{GoodMap}
use Rattle.laws.specs.CallBack.{good_glyph_map_lem}
use Rattle.glyph_runs.specs.declared.Run.{Run}

-- a good glyph map in this form, of bytes
pub record GlyphMap (form : ℕ) (m : List ℕ) : Type 0 where
  pub form_good : good_form form ≡ true
  pub good : good_glyph_map form m ≡ true
  pub bytes : Bytes m

-- how many runs it has, and the i-th: its first old id, its first new id, and its count
abbrev pub run_count : ℕ → List ℕ → ℕ
run_count form m = length m / form

abbrev pub old_of : ℕ → List ℕ → ℕ → ℕ
old_of form m i = word m (form * i)

abbrev pub new_of : ℕ → List ℕ → ℕ → ℕ
new_of form m i = word m (form * i + 2)

-- the count of the run at a place
unfoldable pub size_at : ℕ → List ℕ → ℕ → ℕ
size_at form m at = cond (eqb form 6) (word m (at + 4)) 1

abbrev pub size_of : ℕ → List ℕ → ℕ → ℕ
size_of form m i = size_at form m (form * i)

-- r is the i-th run: it has a pair, and does not go past 65,535 in a column
pub record IsRun (form : ℕ) (m : List ℕ) (i : ℕ) (r : Run) : Type 0 where
  pub old : r.old ≡ old_of form m i
  pub new : r.new ≡ new_of form m i
  pub count : r.count ≡ size_of form m i
  pub some : 0 < r.count
  pub old_end : r.old + r.count ≤ 65536
  pub new_end : r.new + r.count ≤ 65536

-- the run before the r-th, if there is one, ends before the glyph x
abbrev pub Past : ℕ → List ℕ → ℕ → ℕ → Type 0
Past form m x r = (k : ℕ) → k + 1 ≡ r → old_of form m k + size_of form m k ≤ x

-- the r-th run is the first that ends at the glyph x or later; r is the number of runs if none does
pub record Reached (form : ℕ) (m : List ℕ) (x r : ℕ) : Type 0 where
  pub within : r ≤ run_count form m
  pub passed : Past form m x r
  pub ends : r < run_count form m → x < old_of form m r + size_of form m r

-- n runs from `at` on
unfoldable pub runs_from : ℕ → List ℕ → ℕ → ℕ → List (ℕ × ℕ × ℕ)
runs_from form m at zero = []
runs_from form m at (suc n) = (word m at, word m (at + 2), size_at form m at) ∷ runs_from form m (at + form) n

-- the form is one of two
pub form_is : {form : ℕ} → good_form form ≡ true → (form ≡ 4) ⊎ (form ≡ 6)
unfolding good_form
form_is {form} h = step (eqb form 4) refl h
  where
    step : (b : Bool) → eqb form 4 ≡ b → b || eqb form 6 ≡ true → (form ≡ 4) ⊎ (form ≡ 6)
    step true e k = inl (eqb-true form 4 e)
    step false e k = inr (eqb-true form 6 k)

-- Runs of six bytes are records of three words.
runs_six : (m : List ℕ) (at n : ℕ) → runs_from 6 m at n ≡ triples m at n
unfolding runs_from triples size_at
runs_six m at zero = refl
runs_six m at (suc n) = ap (λ (l : List (ℕ × ℕ × ℕ)). (word m at, word m (at + 2), word m (at + 4)) ∷ l) (runs_six m (at + 6) n)

-- Runs of four are pairs, which rise where both columns ascend.
module _ (m : List ℕ) where
  runs_four : (at n : ℕ) → run_pairs (runs_from 4 m at n) ≡ entries m at n
  unfolding runs_from entries size_at run_pairs steps
  runs_four at zero = refl
  runs_four at (suc n) = ap (λ (l : List (ℕ × ℕ)). (word m at, word m (at + 2)) ∷ l) (runs_four (at + 4) n)

  rise_four : (at n old new : ℕ) → Up old (keys (entries m at n)) → Up new (values (entries m at n)) → All Words2 (entries m at n) → runs_rise old new (runs_from 4 m at n) ≡ true
  unfolding runs_from entries size_at runs_rise keys values
  rise_four at zero old new u v w = refl
  rise_four at (suc n) old new u v w =
      rw (le-leb old (word m at) u.0, le-leb new (word m (at + 2)) v.0, le-leb (word m at + 1) 65536 (omega (arith, w.0.0)), le-leb (word m (at + 2) + 1) 65536 (omega (arith, w.0.1)))
      (rise_four (at + 4) n (word m at + 1) (word m (at + 2) + 1) u.1 v.1 w.1)

-- A good glyph map says the pairs of its runs, and these rise.
pub record Rises (form : ℕ) (m : List ℕ) : Type 0 where
  pub entries_are : glyph_entries form m ≡ run_pairs (runs_from form m 0 (run_count form m))
  pub rise : runs_rise 0 0 (runs_from form m 0 (run_count form m)) ≡ true

pub map_good : {form : ℕ} {m : List ℕ} → GlyphMap form m → GoodMap (glyph_entries form m)
map_good {form} {m} g = good_glyph_map_lem form m g.bytes g.good

rises_four : (m : List ℕ) → GoodMap (glyph_entries 4 m) → Rises 4 m
unfolding glyph_entries map_entries
rises_four m k = record { entries_are = sym (runs_four m 0 (length m / 4)); rise = rise_four m 0 (length m / 4) 0 0 k.old k.new k.words }

rises_six : (m : List ℕ) → good_glyph_map 6 m ≡ true → Rises 6 m
unfolding glyph_entries good_glyph_map good_runs map_runs
rises_six m h = record { entries_are = rw (runs_six m 0 (length m / 6)); rise = rw (runs_six m 0 (length m / 6)) (both (eqb (length m % 6) 0) _ h).1 }

pub map_rises : {form : ℕ} {m : List ℕ} → GlyphMap form m → Rises form m
map_rises {form} {m} g = pick (form_is g.form_good)
  where
    pick : (form ≡ 4) ⊎ (form ≡ 6) → Rises form m
    pick (inl e) = rw e (rises_four m (rw e at (map_good g)))
    pick (inr e) = rw e (rises_six m (rw e at g.good))
