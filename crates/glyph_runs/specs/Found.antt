-- What a good glyph map says of a number, by its runs: in one, or between two.
use Prim.Native.Nat.{ℕ, zero, suc, ◌+◌, ◌*◌, ◌/◌, ◌≤◌, ◌<◌}
use Rattle.std.specs.Prelude.{◌≡◌, true, List, [], ◌∷◌, ◌++◌, ◌⊎◌, length, leb, ltb, None, Some}
use Rattle.std.proofs.Math.Path.{refl}
use Rattle.std.proofs.Common.{◌∙◌, inl, inr, mul-suc, zero-add, arith}
use borrow.Author.Tests.{leb-true, ltb-true, ne_eqb, eq-eqb}
use Rattle.meaning.specs.Words.{word, find, keys}
use Rattle.meaning.specs.Maps.{steps, run_pairs, runs_rise, glyph_entries}
use Rattle.laws.specs.Runs.{Up, both}
use Rattle.laws.specs.Stands.{All}
use Rattle.laws.specs.SetsBack.{Words2}
use Rattle.halving.specs.Rising.{Rising}
use Rattle.glyph_runs.specs.Runs.{GlyphMap, run_count, old_of, new_of, size_at, size_of, IsRun, Past, runs_from, form_is, map_good, map_rises}

-- a number among n pairs in step, before others; and one that is not among them
steps_in : (old new n j : ℕ) (es : List (ℕ × ℕ)) → j < n → find (steps old new n ++ es) (old + j) ≡ Some (new + j)
unfolding find steps
steps_in old new zero j es h = absurd (omega arith)
steps_in old new (suc n) zero es h =
    let e : new + 0 ≡ new = omega arith in
    rw (eq-eqb old (old + 0) (omega arith), e)
steps_in old new (suc n) (suc j) es h =
    let e : old + suc j ≡ old + 1 + j = omega arith in
    let f : new + suc j ≡ new + 1 + j = omega arith in
    rw (ne_eqb old (old + suc j) (λ q. omega arith), e, f) (steps_in (old + 1) (new + 1) n j es (omega arith))

steps_past : (old new n x : ℕ) (es : List (ℕ × ℕ)) → old + n ≤ x → find (steps old new n ++ es) x ≡ find es x
unfolding find steps
steps_past old new zero x es h = refl
steps_past old new (suc n) x es h = rw (ne_eqb old x (λ q. omega arith)) (steps_past (old + 1) (new + 1) n x es (omega arith))

steps_before : (old new n x : ℕ) (es : List (ℕ × ℕ)) → x < old → find (steps old new n ++ es) x ≡ find es x
unfolding find steps
steps_before old new zero x es h = refl
steps_before old new (suc n) x es h = rw (ne_eqb old x (λ q. omega arith)) (steps_before (old + 1) (new + 1) n x es (omega arith))

-- the first of runs that rise, and the others
record FirstRun (form : ℕ) (m : List ℕ) (at n old new : ℕ) : Type 0 where
  start : old ≤ word m at
  begin : new ≤ word m (at + 2)
  some : 0 < size_at form m at
  old_end : word m at + size_at form m at ≤ 65536
  new_end : word m (at + 2) + size_at form m at ≤ 65536
  others : runs_rise (word m at + size_at form m at) (word m (at + 2) + size_at form m at) (runs_from form m (at + form) n) ≡ true

module _ (form : ℕ) (m : List ℕ) where
  first_run : (at n old new : ℕ) → runs_rise old new (runs_from form m at (suc n)) ≡ true → FirstRun form m at n old new
  unfolding runs_rise runs_from
  first_run at n old new h =
      let a = both (leb old (word m at)) _ h in
      let b = both (leb new (word m (at + 2))) _ a.1 in
      let c = both (ltb 0 (size_at form m at)) _ b.1 in
      let d = both (leb (word m at + size_at form m at) 65536) _ c.1 in
      let e = both (leb (word m (at + 2) + size_at form m at) 65536) _ d.1 in
      record {
        start = leb-true old (word m at) a.0;
        begin = leb-true new (word m (at + 2)) b.0;
        some = ltb-true 0 (size_at form m at) c.0;
        old_end = leb-true (word m at + size_at form m at) 65536 d.0;
        new_end = leb-true (word m (at + 2) + size_at form m at) 65536 e.0;
        others = e.1;
      }

  -- the place of a later run, from the second on
  later : (at i : ℕ) → at + form * suc i ≡ at + form + form * i
  later at i = rw mul-suc (omega arith)

  at_first : (at : ℕ) → at + form * 0 ≡ at
  at_first at = omega arith

  -- the i-th of runs that rise from `old` on
  record RunAt (at i old : ℕ) : Type 0 where
    start : old ≤ word m (at + form * i)
    some : 0 < size_at form m (at + form * i)
    old_end : word m (at + form * i) + size_at form m (at + form * i) ≤ 65536
    new_end : word m (at + form * i + 2) + size_at form m (at + form * i) ≤ 65536

  run_at : (i at n old new : ℕ) → i < n → runs_rise old new (runs_from form m at n) ≡ true → RunAt at i old
  run_at i at zero old new l h = absurd (omega arith)
  run_at zero at (suc n) old new l h =
      let f = first_run at n old new h in
      record {
        start = rw (at_first at) f.start;
        some = rw (at_first at) f.some;
        old_end = rw (at_first at) f.old_end;
        new_end = rw (at_first at) f.new_end;
      }
  run_at (suc i) at (suc n) old new l h =
      let f = first_run at n old new h in
      let r = run_at i (at + form) n (word m at + size_at form m at) (word m (at + 2) + size_at form m at) (omega arith) f.others in
      record {
        start = rw (later at i) (omega (arith, r.start, f.start));
        some = rw (later at i) r.some;
        old_end = rw (later at i) r.old_end;
        new_end = rw (later at i) r.new_end;
      }

  -- a later one begins after an earlier one ends
  runs_apart : (p q at n old new : ℕ) → p < q → q < n → runs_rise old new (runs_from form m at n) ≡ true → word m (at + form * p) + size_at form m (at + form * p) ≤ word m (at + form * q)
  runs_apart p zero at n old new l g h = absurd (omega arith)
  runs_apart p (suc q) at zero old new l g h = absurd (omega arith)
  runs_apart zero (suc q) at (suc n) old new l g h =
      let f = first_run at n old new h in
      rw (at_first at, later at q) (run_at q (at + form) n (word m at + size_at form m at) (word m (at + 2) + size_at form m at) (omega arith) f.others).start
  runs_apart (suc p) (suc q) at (suc n) old new l g h =
      let f = first_run at n old new h in
      rw (later at p, later at q) (runs_apart p q (at + form) n (word m at + size_at form m at) (word m (at + 2) + size_at form m at) (omega arith) (omega arith) f.others)

  -- a number below all runs has no pair
  runs_low : (n at old new x : ℕ) → runs_rise old new (runs_from form m at n) ≡ true → x < old → find (run_pairs (runs_from form m at n)) x ≡ None
  unfolding run_pairs runs_from find
  runs_low zero at old new x h l = refl
  runs_low (suc n) at old new x h l =
      let f = first_run at n old new h in
      steps_before (word m at) (word m (at + 2)) (size_at form m at) x (run_pairs (runs_from form m (at + form) n)) (omega (arith, f.start))
      ∙ runs_low n (at + form) (word m at + size_at form m at) (word m (at + 2) + size_at form m at) x f.others (omega (arith, f.start))

  -- one in the i-th run has the pair there
  found_at : (i at n old new j : ℕ) → i < n → j < size_at form m (at + form * i) → runs_rise old new (runs_from form m at n) ≡ true
      → find (run_pairs (runs_from form m at n)) (word m (at + form * i) + j) ≡ Some (word m (at + form * i + 2) + j)
  unfolding run_pairs runs_from
  found_at i at zero old new j l k h = absurd (omega arith)
  found_at zero at (suc n) old new j l k h =
      let k₁ : j < size_at form m at = rw (at_first at) at k in
      rw (at_first at) (steps_in (word m at) (word m (at + 2)) (size_at form m at) j (run_pairs (runs_from form m (at + form) n)) k₁)
  found_at (suc i) at (suc n) old new j l k h =
      let f = first_run at n old new h in
      let k₁ : j < size_at form m (at + form + form * i) = rw (later at i) at k in
      let r = run_at i (at + form) n (word m at + size_at form m at) (word m (at + 2) + size_at form m at) (omega arith) f.others in
      rw (later at i) (steps_past (word m at) (word m (at + 2)) (size_at form m at) (word m (at + form + form * i) + j) (run_pairs (runs_from form m (at + form) n)) (omega (arith, r.start))
      ∙ found_at i (at + form) n (word m at + size_at form m at) (word m (at + 2) + size_at form m at) j (omega arith) k₁ f.others)

  -- one between the run before the r-th and the r-th has none
  none_at : (r at n old new x : ℕ) → r ≤ n → ((k : ℕ) → k + 1 ≡ r → word m (at + form * k) + size_at form m (at + form * k) ≤ x) → (r < n → x < word m (at + form * r))
      → runs_rise old new (runs_from form m at n) ≡ true → find (run_pairs (runs_from form m at n)) x ≡ None
  unfolding run_pairs runs_from find
  none_at zero at zero old new x l p q h = refl
  none_at zero at (suc n) old new x l p q h =
      let f = first_run at n old new h in
      let b : x < word m at = rw (at_first at) at (q (omega arith)) in
      steps_before (word m at) (word m (at + 2)) (size_at form m at) x (run_pairs (runs_from form m (at + form) n)) b
      ∙ runs_low n (at + form) (word m at + size_at form m at) (word m (at + 2) + size_at form m at) x f.others (omega arith)
  none_at (suc r) at zero old new x l p q h = absurd (omega arith)
  none_at (suc r) at (suc n) old new x l p q h =
      let f = first_run at n old new h in
      steps_past (word m at) (word m (at + 2)) (size_at form m at) x (run_pairs (runs_from form m (at + form) n)) (passed r l p)
      ∙ none_at r (at + form) n (word m at + size_at form m at) (word m (at + 2) + size_at form m at) x (omega arith)
      (λ k e. rw (later at k) at (p (suc k) (omega arith))) (λ g. rw (later at r) at (q (omega arith))) f.others
    where
      passed : (r : ℕ) → suc r ≤ suc n → ((k : ℕ) → k + 1 ≡ suc r → word m (at + form * k) + size_at form m (at + form * k) ≤ x) → word m at + size_at form m at ≤ x
      passed zero l p = rw (at_first at) at (p 0 (omega arith))
      passed (suc r) l p =
          let a : word m at + size_at form m at ≤ word m (at + form * suc r) = rw (at_first at) at (runs_apart 0 (suc r) at (suc n) old new (omega arith) (omega arith) h) in
          omega (arith, a, p (suc r) (omega arith))

-- a list of words that ascend has at most 65,536
up_few : (low : ℕ) (es : List (ℕ × ℕ)) → low ≤ 65536 → Up low (keys es) → All Words2 es → low + length es ≤ 65536
unfolding keys
up_few low [] l u w = omega arith
up_few low (e ∷ es) l u w = omega (arith, u.0, up_few (e.0 + 1) es (omega (arith, w.0.0)) u.1 w.1)

-- A good glyph map.
module _ {form : ℕ} {m : List ℕ} (g : GlyphMap form m) where
  -- its runs lie inside
  pub run_inside : {i : ℕ} → i < run_count form m → (form * i + form ≤ length m) × (4 ≤ form) × (form ≤ 6)
  run_inside {i} h = pick (form_is g.form_good)
    where
      pick : (form ≡ 4) ⊎ (form ≡ 6) → (form * i + form ≤ length m) × (4 ≤ form) × (form ≤ 6)
      pick (inl e) =
          let l : i < length m / 4 = rw e at h in
          rw e (omega arith, omega arith, omega arith)
      pick (inr e) =
          let l : i < length m / 6 = rw e at h in
          rw e (omega arith, omega arith, omega arith)

  pub few_runs : run_count form m ≤ length m
  few_runs = pick (form_is g.form_good)
    where
      pick : (form ≡ 4) ⊎ (form ≡ 6) → run_count form m ≤ length m
      pick (inl e) = rw e (omega arith)
      pick (inr e) = rw e (omega arith)

  pub entries_few : length (glyph_entries form m) ≤ 65536
  entries_few =
      let k = map_good g in
      omega (arith, up_few 0 (glyph_entries form m) (omega arith) k.old k.words)

  front : (i : ℕ) → 0 + form * i ≡ form * i
  front i = zero-add (form * i)

  -- the i-th run
  pub run_is : (i : ℕ) → i < run_count form m → IsRun form m i (record { old = old_of form m i; new = new_of form m i; count = size_of form m i })
  run_is i h =
      let r = run_at form m i 0 (run_count form m) 0 0 h (map_rises g).rise in
      record {
        old = refl;
        new = refl;
        count = refl;
        some = rw (front i) at r.some;
        old_end = rw (front i) at r.old_end;
        new_end = rw (front i) at r.new_end;
      }

  -- a later run begins after an earlier one ends
  pub apart : (p q : ℕ) → p < q → q < run_count form m → old_of form m p + size_of form m p ≤ old_of form m q
  apart p q l h = rw (front p, front q) at (runs_apart form m p q 0 (run_count form m) 0 0 l h (map_rises g).rise)

  -- a number in the i-th run, and one between two
  pub run_found : (i j : ℕ) → i < run_count form m → j < size_of form m i → find (glyph_entries form m) (old_of form m i + j) ≡ Some (new_of form m i + j)
  run_found i j h l = rw (map_rises g).entries_are (rw (front i) at (found_at form m i 0 (run_count form m) 0 0 j h (rw (front i) l) (map_rises g).rise))

  pub none_found : {r : ℕ} (x : ℕ) → r ≤ run_count form m → Past form m x r → (r < run_count form m → x < old_of form m r) → find (glyph_entries form m) x ≡ None
  none_found {r} x l p q =
      rw (map_rises g).entries_are (none_at form m r 0 (run_count form m) 0 0 x l (λ k e. rw (front k) (p k e)) (λ h. rw (front r) (q h)) (map_rises g).rise)

  -- their first old ids rise
  pub olds_rising : Rising m 0 form (run_count form m)
  olds_rising = record {
    few = few_runs;
    inside = λ k l. omega (arith, (run_inside l).0, (run_inside l).1);
    rise = λ p q l h. rw (front p, front q) (omega (arith, apart p q l h, (run_is p (omega arith)).some));
  }
