-- Runs of pairs in step: what is found in them, and what cells hold in which they are laid.
use Prim.Native.Nat.{ℕ, zero, suc, ◌+◌, ◌-◌, ◌*◌, ◌/◌, ◌%◌, ◌≤◌, ◌<◌}
use Rattle.std.specs.Prelude.{◌≡◌, Bool, true, false, cond, ◌⊎◌, length, set, leb, ltb, eqb, None, Some}
use Rattle.std.proofs.Math.Path.{refl, sym}
use Rattle.std.proofs.Common.{ap, ◌∙◌, inl, inr, zero-add, add-zero}
use mathlib.Core.List.{List, [], ◌∷◌, ◌++◌, append-nil, append_assoc}
use Rattle.std.proofs.Math.Decide.{dec_lt}
use native.Mathlib.Omega.{arith}
use borrow.Author.Tests.{leb-true, leb-false, ltb-true, ltb-false, ne_eqb, eqb-true, eqb-false}
use Rattle.meaning.specs.Words.{word, find, triples}
use Rattle.meaning.specs.Maps.{steps, run_pairs, runs_rise, map_runs, glyph_entries}
use Rattle.laws.specs.Runs.{both}
use Rattle.cell_maps.specs.Cells.{answer_in, folded, run_start, run_end, last_run, no_entry, run_entry, Inside, Holds, Kept, entry_even, even_runs, last_below, answer_own, answer_none}
use Rattle.cell_maps.specs.declared.Map.{Map}

-- What is found in a run, and in what stands behind it.
pub steps_out : (old new n x : ℕ) → (old ≤ x → x < old + n → ⊥) → find (steps old new n) x ≡ None
unfolding steps find
steps_out old new zero x h = refl
steps_out old new (suc n) x h = rw (ne_eqb old x (λ e. h (omega arith) (omega arith))) (steps_out (old + 1) (new + 1) n x (λ l g. h (omega arith) (omega arith)))

pub steps_in : (old new n x : ℕ) → old ≤ x → x < old + n → find (steps old new n) x ≡ Some (new + (x - old))
unfolding steps find
steps_in old new zero x l g = absurd (omega arith)
steps_in old new (suc n) x l g = step (eqb old x) refl (λ a b. steps_in (old + 1) (new + 1) n x a b)
  where
    step : (b : Bool) → eqb old x ≡ b → (old + 1 ≤ x → x < old + 1 + n → find (steps (old + 1) (new + 1) n) x ≡ Some (new + 1 + (x - (old + 1)))) → cond b (Some new) (find (steps (old + 1) (new + 1) n) x) ≡ Some (new + (x - old))
    step true e r =
        let q : new ≡ new + (x - old) = omega (arith, eqb-true old x e) in
        ap Some q
    step false e r =
        let d : old ≡ x → ⊥ = eqb-false old x e in
        let q : new + 1 + (x - (old + 1)) ≡ new + (x - old) = omega arith in
        r (omega arith) (omega arith) ∙ ap Some q

pub find_behind : (a b : List (ℕ × ℕ)) (x : ℕ) → find a x ≡ None → find (a ++ b) x ≡ find b x
unfolding find
find_behind [] b x h = refl
find_behind (e ∷ a) b x h = step (eqb e.0 x) h (λ k. find_behind a b x k)
  where
    step : (c : Bool) → cond c (Some e.1) (find a x) ≡ None → (find a x ≡ None → find (a ++ b) x ≡ find b x) → cond c (Some e.1) (find (a ++ b) x) ≡ find b x
    step true k r = cc
    step false k r = r k

-- the last of pairs in step stands last
pub steps_last : (old new n : ℕ) → steps old new (n + 1) ≡ steps old new n ++ ((old + n, new + n) ∷ [])
unfolding steps
steps_last old new zero = rw (add-zero old, add-zero new)
steps_last old new (suc n) =
    let e : suc n + 1 ≡ suc (n + 1) = omega arith in
    let f : old + suc n ≡ old + 1 + n = omega arith in
    let g : new + suc n ≡ new + 1 + n = omega arith in
    rw (e, f, g) (ap (λ (l : List (ℕ × ℕ)). (old, new) ∷ l) (steps_last (old + 1) (new + 1) n))

find_front : (a b : List (ℕ × ℕ)) (x v : ℕ) → find a x ≡ Some v → find (a ++ b) x ≡ Some v
unfolding find
find_front [] b x v h = cc
find_front (e ∷ a) b x v h = step (eqb e.0 x) h (λ k. find_front a b x v k)
  where
    step : (c : Bool) → cond c (Some e.1) (find a x) ≡ Some v → (find a x ≡ Some v → find (a ++ b) x ≡ Some v) → cond c (Some e.1) (find (a ++ b) x) ≡ Some v
    step true k r = k
    step false k r = r k

-- the first of runs that rise, and the others
pub record FirstRun (m : List ℕ) (at n old new : ℕ) : Type 0 where
  pub after : old ≤ word m at
  pub new_after : new ≤ word m (at + 2)
  pub some : 0 < word m (at + 4)
  pub ends : word m at + word m (at + 4) ≤ 65536
  pub new_ends : word m (at + 2) + word m (at + 4) ≤ 65536
  pub others : runs_rise (word m at + word m (at + 4)) (word m (at + 2) + word m (at + 4)) (triples m (at + 6) n) ≡ true

module _ (m : List ℕ) where
  pub first_run : (at n old new : ℕ) → runs_rise old new (triples m at (suc n)) ≡ true → FirstRun m at n old new
  unfolding triples runs_rise
  first_run at n old new h =
      let a = both (leb old (word m at)) _ h in
      let b = both (leb new (word m (at + 2))) _ a.1 in
      let c = both (ltb 0 (word m (at + 4))) _ b.1 in
      let d = both (leb (word m at + word m (at + 4)) 65536) _ c.1 in
      let e = both (leb (word m (at + 2) + word m (at + 4)) 65536) _ d.1 in
      record {
        after = leb-true old (word m at) a.0;
        new_after = leb-true new (word m (at + 2)) b.0;
        some = ltb-true 0 (word m (at + 4)) c.0;
        ends = leb-true _ 65536 d.0;
        new_ends = leb-true _ 65536 e.0;
        others = e.1;
      }

  -- the run i, of n that rise from `old` and `new` on
  pub run_first : (i n at old new : ℕ) → i < n → runs_rise old new (triples m at n) ≡ true → FirstRun m (at + 6 * i) (n - (i + 1)) old new
  run_first i zero at old new l h = absurd (omega arith)
  run_first zero (suc n) at old new l h =
      let e : at + 6 * 0 ≡ at = omega arith in
      let f : suc n - (0 + 1) ≡ n = omega arith in
      rw (e, f) (first_run at n old new h)
  run_first (suc i) (suc n) at old new l h =
      let e : at + 6 * suc i ≡ at + 6 + 6 * i = omega arith in
      let f : suc n - (suc i + 1) ≡ n - (i + 1) = omega arith in
      let a = first_run at n old new h in
      let r = run_first i n (at + 6) _ _ (omega arith) a.others in
      rw (e, f) (record { after = omega (arith, a.after, r.after); new_after = omega (arith, a.new_after, r.new_after); some = r.some; ends = r.ends; new_ends = r.new_ends; others = r.others })

  -- a later one starts after an earlier one ends
  pub runs_apart : (p q n at old new : ℕ) → p < q → q < n → runs_rise old new (triples m at n) ≡ true → word m (at + 6 * p) + word m (at + 6 * p + 4) ≤ word m (at + 6 * q)
  runs_apart p zero n at old new l g h = absurd (omega arith)
  runs_apart p (suc q) zero at old new l g h = absurd (omega arith)
  runs_apart zero (suc q) (suc n) at old new l g h =
      let e : at + 6 * 0 ≡ at = omega arith in
      let d : at + 6 * suc q ≡ at + 6 + 6 * q = omega arith in
      rw (e, d) (run_first q n (at + 6) _ _ (omega arith) (first_run at n old new h).others).after
  runs_apart (suc p) (suc q) (suc n) at old new l g h =
      let e : at + 6 * suc p ≡ at + 6 + 6 * p = omega arith in
      let d : at + 6 * suc q ≡ at + 6 + 6 * q = omega arith in
      rw (e, d) (runs_apart p q n (at + 6) _ _ (omega arith) (omega arith) (first_run at n old new h).others)

  -- a number in no run is not found, and one in the run i is found there
  pub runs_out : (n at x : ℕ) → ((i : ℕ) → i < n → word m (at + 6 * i) ≤ x → x < word m (at + 6 * i) + word m (at + 6 * i + 4) → ⊥) → find (run_pairs (triples m at n)) x ≡ None
  unfolding triples run_pairs find
  runs_out zero at x h = refl
  runs_out (suc n) at x h =
      let e : at + 6 * 0 ≡ at = omega arith in
      find_behind (steps (word m at) (word m (at + 2)) (word m (at + 4))) _ x (steps_out _ (word m (at + 2)) _ x (rw e at (h 0 (omega arith))))
      ∙ runs_out n (at + 6) x (λ i l. let d : at + 6 * suc i ≡ at + 6 + 6 * i = omega arith in rw d at (h (suc i) (omega arith)))

  pub runs_in : (i n at old new x : ℕ) → i < n → runs_rise old new (triples m at n) ≡ true → word m (at + 6 * i) ≤ x → x < word m (at + 6 * i) + word m (at + 6 * i + 4)
      → find (run_pairs (triples m at n)) x ≡ Some (word m (at + 6 * i + 2) + (x - word m (at + 6 * i)))
  unfolding triples run_pairs
  runs_in i zero at old new x l h a b = absurd (omega arith)
  runs_in zero (suc n) at old new x l h a b =
      let e : at + 6 * 0 ≡ at = omega arith in
      rw e (find_front (steps (word m at) (word m (at + 2)) (word m (at + 4))) _ x _ (steps_in _ _ _ x (rw e at a) (rw e at b)))
  runs_in (suc i) (suc n) at old new x l h a b =
      let e : at + 6 * suc i ≡ at + 6 + 6 * i = omega arith in
      let f = first_run at n old new h in
      let g = run_first i n (at + 6) _ _ (omega arith) f.others in
      let c = rw e at a in
      rw e
      (find_behind (steps (word m at) (word m (at + 2)) (word m (at + 4))) _ x (steps_out _ (word m (at + 2)) _ x (λ p q. omega (arith, g.after, c)))
      ∙ runs_in i n (at + 6) _ _ x (omega arith) f.others c (rw e at b))

  -- nor is a number that a later run has, or one behind it, found in the runs before that one
  pub runs_before : (k n at old new x : ℕ) → k < n → runs_rise old new (triples m at n) ≡ true → word m (at + 6 * k) ≤ x → find (run_pairs (triples m at k)) x ≡ None
  runs_before k n at old new x l h a = runs_out k at x (λ i g b c. omega (arith, runs_apart i k n at old new g l h))

  -- the pairs of the last run stand last
  pub pairs_last : (k at : ℕ) → run_pairs (triples m at (k + 1)) ≡ run_pairs (triples m at k) ++ steps (word m (at + 6 * k)) (word m (at + 6 * k + 2)) (word m (at + 6 * k + 4))
  unfolding triples run_pairs
  pairs_last zero at =
      let e : at + 6 * 0 ≡ at = omega arith in
      rw e (append-nil (steps (word m at) (word m (at + 2)) (word m (at + 4))))
  pairs_last (suc k) at =
      let e : at + 6 * suc k ≡ at + 6 + 6 * k = omega arith in
      let f : suc k + 1 ≡ suc (k + 1) = omega arith in
      let first = steps (word m at) (word m (at + 2)) (word m (at + 4)) in
      rw (e, f) (ap (λ (l : List (ℕ × ℕ)). first ++ l) (pairs_last k (at + 6)) ∙ sym (append_assoc first (run_pairs (triples m (at + 6) k)) _))

-- What halving finds among runs whose starts rise: no run after it starts at x or before.
pub record Last (t : List ℕ) (at x top k : ℕ) : Type 0 where
  pub starts : (k ≡ 0 → ⊥) → run_start t at k / 65536 ≤ x
  pub others : (j : ℕ) → k < j → j < top → x < run_start t at j / 65536

module _ (t : List ℕ) (at x top : ℕ) (rise : (p q : ℕ) → 0 < p → p < q → q < top → run_start t at p / 65536 < run_start t at q / 65536) where
  pub last_run_lem : (n lo hi : ℕ) → hi ≤ lo + n + 1 → hi ≤ top → ((lo ≡ 0 → ⊥) → run_start t at lo / 65536 ≤ x) → ((j : ℕ) → lo < j → hi ≤ j → j < top → x < run_start t at j / 65536)
      → Last t at x top (last_run t at x n lo hi)
  unfolding last_run
  last_run_lem zero lo hi f b s o = record { starts = s; others = λ j l g. o j l (omega arith) g }
  last_run_lem (suc n) lo hi f b s o =
      step (ltb (lo + 1) hi) refl (leb (run_start t at mid / 65536) x) refl (λ p q r. last_run_lem n mid hi p b q r) (λ p q r. last_run_lem n lo mid p q s r)
    where
      mid : ℕ
      mid = lo + (hi - lo) / 2

      step : (c : Bool) → ltb (lo + 1) hi ≡ c → (d : Bool) → leb (run_start t at mid / 65536) x ≡ d
          → (hi ≤ mid + n + 1 → ((mid ≡ 0 → ⊥) → run_start t at mid / 65536 ≤ x) → ((j : ℕ) → mid < j → hi ≤ j → j < top → x < run_start t at j / 65536) → Last t at x top (last_run t at x n mid hi))
          → (mid ≤ lo + n + 1 → mid ≤ top → ((j : ℕ) → lo < j → mid ≤ j → j < top → x < run_start t at j / 65536) → Last t at x top (last_run t at x n lo mid))
          → Last t at x top (cond c (cond d (last_run t at x n mid hi) (last_run t at x n lo mid)) lo)
      step false e d q up down = let g : hi ≤ lo + 1 = ltb-false (lo + 1) hi e in record { starts = s; others = λ j l k. o j l (omega arith) k }
      step true e true q up down =
          let g : lo + 1 < hi = ltb-true (lo + 1) hi e in
          up (omega arith) (λ z. leb-true (run_start t at mid / 65536) x q) (λ j l k i. o j (omega arith) k i)
      step true e false q up down =
          let g : lo + 1 < hi = ltb-true (lo + 1) hi e in
          let v : x < run_start t at mid / 65536 = leb-false (run_start t at mid / 65536) x q in
          down (omega arith) (omega arith) (λ j l k i. above j k i v (dec_lt mid j))
        where
          above : (j : ℕ) → mid ≤ j → j < top → x < run_start t at mid / 65536 → Dec (mid < j) → x < run_start t at j / 65536
          above j k i v (yes w) = omega (arith, rise mid j (omega (arith, ltb-true (lo + 1) hi e)) w i)
          above j k i v (no w) =
              let r : j ≡ mid = omega arith in
              rw r v

-- the run k of a list, counted from 0, laid into the two cells from p on
pub record LaidRun (list : List ℕ) (k : ℕ) (t₀ t : List ℕ) (p : ℕ) : Type 0 where
  pub cells : t ≡ set (set t₀ p (word list (6 * k) * 65536 + word list (6 * k + 2))) (p + 1) (word list (6 * k) + word list (6 * k + 4) - 1)

-- the cells of m hold the runs of a list, n of them
pub record RunsIn (list t : List ℕ) (m : Map) (n : ℕ) : Type 0 where
  pub mask : m.mask ≡ 4 * n + 2
  pub inside : Inside t m
  pub starts : (i : ℕ) → i < n → run_start t m.at (i + 1) ≡ word list (6 * i) * 65536 + word list (6 * i + 2)
  pub ends : (i : ℕ) → i < n → run_end t m.at (i + 1) ≡ word list (6 * i) + word list (6 * i + 4) - 1

-- so they answer as the runs do
module _ {list t : List ℕ} {m : Map} (c : RunsIn list t m (length list / 6)) (up : runs_rise 0 0 (triples list 0 (length list / 6)) ≡ true) (x : ℕ) where
  abbrev n : ℕ
  n = length list / 6

  at_run : (i : ℕ) → i < n → FirstRun list (6 * i) (n - (i + 1)) 0 0
  at_run i l = rw (zero-add (6 * i)) at (run_first list i n 0 0 0 l up)

  start_of : (i : ℕ) → i < n → run_start t m.at (i + 1) / 65536 ≡ word list (6 * i)
  start_of i l = omega (arith, c.starts i l, (at_run i l).some, (at_run i l).new_ends)

  new_of : (i : ℕ) → i < n → run_start t m.at (i + 1) % 65536 ≡ word list (6 * i + 2)
  new_of i l = omega (arith, c.starts i l, (at_run i l).some, (at_run i l).new_ends)

  end_of : (i : ℕ) → i < n → run_end t m.at (i + 1) % 65536 ≡ word list (6 * i) + word list (6 * i + 4) - 1
  end_of i l = omega (arith, c.ends i l, (at_run i l).some, (at_run i l).ends)

  apart : (p q : ℕ) → p < q → q < n → word list (6 * p) + word list (6 * p + 4) ≤ word list (6 * q)
  apart p q l g = rw (zero-add (6 * p), zero-add (6 * q)) at (runs_apart list p q n 0 0 0 l g up)

  top : m.mask / 4 + 1 ≡ n + 1
  top = omega (arith, c.mask)

  rise : (p q : ℕ) → 0 < p → p < q → q < n + 1 → run_start t m.at p / 65536 < run_start t m.at q / 65536
  rise zero q z l g = absurd (omega arith)
  rise (suc p) zero z l g = absurd (omega arith)
  rise (suc p) (suc q) z l g =
      let a : p + 1 ≡ suc p = omega arith in
      let b : q + 1 ≡ suc q = omega arith in
      let d : p < n = omega arith in
      rw (← a, ← b, start_of p d, start_of q (omega arith)) (omega (arith, apart p q (omega arith) (omega arith), (at_run p d).some))

  abbrev k : ℕ
  k = last_run t m.at x (n + 1) 0 (n + 1)

  found : Last t m.at x (n + 1) k
  found = last_run_lem t m.at x (n + 1) rise (n + 1) 0 (n + 1) (omega arith) (omega arith) (λ z. absurd (z refl)) (λ j l g h. absurd (omega arith))

  -- no run has x
  none_has : ((i : ℕ) → i < n → word list (6 * i) ≤ x → x < word list (6 * i) + word list (6 * i + 4) → ⊥) → None ≡ find (run_pairs (triples list 0 n)) x
  none_has h = sym (runs_out list n 0 x (λ i l. rw (zero-add (6 * i)) (h i l)))

  -- a later run starts after x
  later : (i j : ℕ) → k ≡ i → i ≤ j → j < n → word list (6 * j) ≤ x → ⊥
  later i j e l g h = omega (arith, found.others (j + 1) (omega arith) (omega arith), start_of j g)

  by_run : (r : ℕ) → k ≡ r → (k ≡ 0) ⊎ (k < n + 1) → answer_in (run_entry t m.at r x) x ≡ find (run_pairs (triples list 0 n)) x
  unfolding run_entry
  by_run zero e b = answer_none x ∙ none_has (λ i l g h. later 0 i e (omega arith) l g)
  by_run (suc r) e (inl z) = absurd (omega arith)
  by_run (suc r) e (inr b) = rw (ne_eqb (suc r) 0 (λ z. omega arith)) (step (ltb (run_end t m.at (suc r) % 65536) x) refl)
    where
      a : r + 1 ≡ suc r
      a = omega arith

      l : r < n
      l = omega arith

      first : word list (6 * r) ≤ x
      first = let s : run_start t m.at (r + 1) / 65536 ≤ x = rw (e, ← a) at (found.starts (λ z. omega (arith, z, e))) in omega (arith, start_of r l)

      step : (d : Bool) → ltb (run_end t m.at (suc r) % 65536) x ≡ d
          → answer_in (cond d (no_entry x) (x * 65536 + (run_start t m.at (suc r) % 65536 + 65536 + x - run_start t m.at (suc r) / 65536) % 65536)) x ≡ find (run_pairs (triples list 0 n)) x
      step true q = answer_none x ∙ none_has (λ j g h w. other j g h w (dec_lt j r) (dec_lt r j))
        where
          past : word list (6 * r) + word list (6 * r + 4) ≤ x
          past = let s = rw (← a, end_of r l) at (ltb-true (run_end t m.at (suc r) % 65536) x q) in omega (arith, s, (at_run r l).some)

          other : (j : ℕ) → j < n → word list (6 * j) ≤ x → x < word list (6 * j) + word list (6 * j + 4) → Dec (j < r) → Dec (r < j) → ⊥
          other j g h w (yes i) d = omega (arith, apart j r i l, first)
          other j g h w (no i) (yes d) = later (suc r) j e (omega arith) g h
          other j g h w (no i) (no d) =
              let s : j ≡ r = omega arith in
              omega (arith, past, rw s at w)
      step false q =
          let s = rw (← a, end_of r l) at (ltb-false (run_end t m.at (suc r) % 65536) x q) in
          let near : x < word list (6 * r) + word list (6 * r + 4) = omega (arith, s, (at_run r l).some) in
          let v : (run_start t m.at (suc r) % 65536 + 65536 + x - run_start t m.at (suc r) / 65536) % 65536 ≡ word list (6 * r + 2) + (x - word list (6 * r)) =
          rw (← a, start_of r l, new_of r l) (omega (arith, first, near, (at_run r l).new_ends)) in
          let w : x * 65536 + (word list (6 * r + 2) + (x - word list (6 * r))) < x * 65536 + 65536 = omega (arith, near, first, (at_run r l).new_ends) in
          rw v
          (answer_own _ x (omega (arith, w)) ∙ ap Some (rest (word list (6 * r + 2) + (x - word list (6 * r))) (omega (arith, w)))
          ∙ sym (rw (zero-add (6 * r)) at (runs_in list r n 0 0 0 x l up (rw (zero-add (6 * r)) first) (rw (zero-add (6 * r)) near))))
        where
          rest : (y : ℕ) → y < 65536 → (x * 65536 + y) % 65536 ≡ y
          rest y h = omega arith

  pub runs_answer : folded t m x ≡ find (run_pairs (triples list 0 n)) x
  runs_answer =
      ap (λ (e : ℕ). answer_in e x) (entry_even t m (omega (arith, c.mask)) x ∙ even_runs t m (λ q. omega (arith, c.mask)) x ∙ ap (λ (h : ℕ). run_entry t m.at (last_run t m.at x h 0 h) x) top)
      ∙ by_run k refl (last_below t m.at x (n + 1) 0 (n + 1))

-- The cells of m, one for each number, hold the pairs of the first k runs of a list, and those before them are as before.
pub record Spread (list t₀ t : List ℕ) (m : Map) (k : ℕ) : Type 0 where
  pub every : m.mask ≡ 65535
  pub kept : Kept m.at t₀ t
  pub holds : Holds t m (run_pairs (triples list 0 k))

-- The map m of good runs that were laid into cells from `at` on: its mask is 0, or the cells hold the pairs of the runs. There is room if there are 65,536 cells.
pub record LaidRuns (list t₀ t : List ℕ) (at : ℕ) (m : Map) : Type 0 where
  pub place : m.at ≡ at
  pub kept : Kept at t₀ t
  pub holds : (m.mask ≡ 0 → ⊥) → Holds t m (run_pairs (map_runs list))
  pub few : m.mask < 65536
  pub room : at + 65536 ≤ length t₀ → m.mask ≡ 0 → ⊥

-- The map m of a good glyph map that was laid into cells from `at` on: its mask is 0, or the cells hold its entries. There is room if there are 65,536 cells.
pub record LaidGlyphs (form : ℕ) (list t₀ t : List ℕ) (at : ℕ) (m : Map) : Type 0 where
  pub place : m.at ≡ at
  pub kept : Kept at t₀ t
  pub holds : (m.mask ≡ 0 → ⊥) → Holds t m (glyph_entries form list)
  pub few : m.mask < 65536
  pub room : at + 65536 ≤ length t₀ → m.mask ≡ 0 → ⊥
