-- The class table of two ids of every three: its runs, and the ids that format 1 lists.
use Rattle.std.specs.Prelude.{ℕ, zero, suc, ◌+◌, ◌-◌, ◌*◌, ◌≤◌, ◌≡◌, refl, true, false, List, [], ◌∷◌, length, take, replicate, leb}
use Rattle.std.proofs.Common.{arith, length-append, eq-eqb, ne_eqb}
use Rattle.std.proofs.lemmas.List.{length-replicate}
use Rattle.meaning.specs.Layout.{runs, spread, class_words, join}
use Rattle.meaning.specs.Bounds.{smaller_form_first}
use Rattle.laws.specs.RunsLeft.{goes_on, runs_on_count, runs_end_count}

-- the glyphs 3k and 3k + 1 for the n numbers k from i on, and glyph 65,535, each in class 1
unfoldable pub pairs_from : ℕ → ℕ → List (ℕ × ℕ)
pairs_from i zero = (65535, 1) ∷ []
pairs_from i (suc n) = (3 * i, 1) ∷ (3 * i + 1, 1) ∷ pairs_from (i + 1) n

-- the run of the first of two goes on with the second
pair_goes_on : (i n : ℕ) → goes_on (3 * i) 1 ((3 * i + 1, 1) ∷ pairs_from (i + 1) n) ≡ true
unfolding goes_on
pair_goes_on i n = rw (eq-eqb (3 * i + 1) (3 * i + 1) refl)

-- that of the second does not go on with what follows
pair_ends : (i n : ℕ) → 3 * i + 3 + 3 * n ≤ 65535 → goes_on (3 * i + 1) 1 (pairs_from (i + 1) n) ≡ false
unfolding goes_on pairs_from
pair_ends i zero h = rw (ne_eqb (3 * i + 1 + 1) 65535 (λ e. omega arith))
pair_ends i (suc n) h = rw (ne_eqb (3 * i + 1 + 1) (3 * (i + 1)) (λ e. omega arith))

-- so n pairs and the last glyph have n + 1 runs
count_runs : (i n : ℕ) → 3 * i + 3 * n ≤ 65535 → length (runs (pairs_from i n)) ≡ n + 1
unfolding pairs_from runs join
count_runs i zero h = refl
count_runs i (suc n) h =
    let rest = pairs_from (i + 1) n in
    let a = runs_on_count (3 * i) 1 ((3 * i + 1, 1) ∷ rest) (pair_goes_on i n) in
    let b = runs_end_count (3 * i + 1) 1 rest (pair_ends i n (omega arith)) in
    omega (arith, a, b, count_runs (i + 1) n (omega arith))

-- an entry and what follows it: the ids from g to the entry, and the others
length_spread : (g h c : ℕ) (es : List (ℕ × ℕ)) → g ≤ h → g + length (spread g ((h, c) ∷ es)) ≡ h + 1 + length (spread (h + 1) es)
unfolding spread
length_spread g h c es l = omega (arith, length-append {A = ℕ} (replicate (h - g) 0) (c ∷ spread (h + 1) es), length-replicate {A = ℕ} (h - g) 0)

-- format 1 lists each id from g to 65,535
count_ids : (i n g : ℕ) → g ≤ 3 * i → 3 * i + 3 * n ≤ 65535 → g + length (spread g (pairs_from i n)) ≡ 65536
unfolding pairs_from spread
count_ids i zero g l h = length_spread g 65535 1 [] (omega arith)
count_ids i (suc n) g l h =
    let rest = pairs_from (i + 1) n in
    let a = length_spread g (3 * i) 1 ((3 * i + 1, 1) ∷ rest) l in
    let b = length_spread (3 * i + 1) (3 * i + 1) 1 rest (omega arith) in
    omega (arith, a, b, count_ids (i + 1) n (3 * i + 1 + 1) (omega arith) (omega arith))

-- where format 1 is the smaller by these two numbers, the class table begins with 1, the first glyph and the number of ids
pub class_start : (n : ℕ) → 3 * suc n ≤ 65535 → leb (6 + 2 * 65536) (4 + 6 * (suc n + 1)) ≡ true → take 3 (class_words (pairs_from 0 (suc n))) ≡ 1 ∷ 0 ∷ 65536 ∷ []
unfolding pairs_from
class_start n h f =
    let r : length (runs (pairs_from 0 (suc n))) ≡ suc n + 1 = count_runs 0 (suc n) (omega arith) in
    let s : length (spread 0 (pairs_from 0 (suc n))) ≡ 65536 = omega (arith, count_ids 0 (suc n) 0 (omega arith) (omega arith)) in
    rw s at (smaller_form_first 0 1 ((1, 1) ∷ pairs_from 1 n) (rw (s, r) f))
