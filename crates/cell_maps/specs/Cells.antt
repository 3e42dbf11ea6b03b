-- Maps in cells: what the cells answer, and what they hold.
use Rattle.std.specs.Prelude.{ℕ, zero, suc, ◌+◌, ◌-◌, ◌*◌, ◌/◌, ◌%◌, ◌^◌, ◌≤◌, ◌<◌, ◌≡◌, refl, Bool, true, false, cond, ◌||◌, ◌&&◌, List, [], ◌⊎◌, length, get_or, set, leb, ltb, eqb, Option, None, Some}
use Rattle.std.proofs.Common.{sym, ap, ◌∙◌, inl, inr, ⊎_elim, arith, length-set, get_or-set_other, lt-ltb, le-ltb, ltb-true, eq-eqb, ne_eqb, eqb-true}
use Rattle.std.specs.Int.Bits.{bit_and, and_zero_l, and_step}
use Rattle.std.proofs.lemmas.Nat.{and_le_r}
use Rattle.std.specs.Int.Count.{ones}
use Rattle.std.proofs.lemmas.Bool.{eqb-false}
use Rattle.meaning.specs.Words.{find}
use Rattle.bits.specs.Bits.{marked}
use Rattle.bits.specs.Reading.{same_cell}
use Rattle.ranks.specs.Ranks.{mark_cells, rank_in}
use Rattle.cell_maps.specs.declared.Map.{Map}

-- A folded table.

-- the cell of a number
abbrev pub cell_of : Map → ℕ → ℕ
cell_of m x = m.at + bit_and x m.mask

-- what it holds
abbrev pub cell_at : List ℕ → Map → ℕ → ℕ
cell_at t m x = get_or t (cell_of m x) 0

-- Runs, counted from 1, two cells each.

-- the first old number of the run k, times 65,536, plus its first new one
abbrev pub run_start : List ℕ → ℕ → ℕ → ℕ
run_start t at k = get_or t (at + 2 * k) 0

-- its last old number
abbrev pub run_end : List ℕ → ℕ → ℕ → ℕ
run_end t at k = get_or t (at + 2 * k + 1) 0

-- by halving, in as many steps at most: the last run after lo and before hi that starts at x or before; lo if none does
unfoldable pub last_run : List ℕ → ℕ → ℕ → ℕ → ℕ → ℕ → ℕ
last_run t at x zero lo hi = lo
last_run t at x (suc n) lo hi =
    let mid = lo + (hi - lo) / 2 in
    cond (ltb (lo + 1) hi) (cond (leb (run_start t at mid / 65536) x) (last_run t at x n mid hi) (last_run t at x n lo mid)) lo

-- an entry of another number than x
unfoldable pub no_entry : ℕ → ℕ
no_entry x = cond (eqb x 0) 65536 0

-- what the run k says of x: an entry of another number if it ends before x, and if k is 0
unfoldable pub run_entry : List ℕ → ℕ → ℕ → ℕ → ℕ
run_entry t at k x =
    cond (eqb k 0 || ltb (run_end t at k % 65536) x) (no_entry x)
    (x * 65536 + (run_start t at k % 65536 + 65536 + x - run_start t at k / 65536) % 65536)

-- Ranks: marks of the numbers that have an entry, and their counts.

-- what they say of x: an entry of another number if it has no mark
unfoldable pub rank_entry : List ℕ → ℕ → ℕ → ℕ
rank_entry t at x = cond (ltb x 65536 && marked t at x) (x * 65536 + rank_in t at x % 65536) (no_entry x)

-- One of them, by the mask: a folded table if it is odd, ranks if it is theirs, else runs.

abbrev pub even_mask : Map → Bool
even_mask m = eqb (m.mask % 2) 0

abbrev pub ranked_mask : ℕ
ranked_mask = 2 * mark_cells

-- one more than the last run
abbrev pub runs_end : Map → ℕ
runs_end m = m.mask / 4 + 1

-- what the cells hold for a number: an old number times 65,536, plus its new one
unfoldable pub even_entry : List ℕ → Map → ℕ → ℕ
even_entry t m x = cond (eqb m.mask ranked_mask) (rank_entry t m.at x) (run_entry t m.at (last_run t m.at x (runs_end m) 0 (runs_end m)) x)

unfoldable pub cell_entry : List ℕ → Map → ℕ → ℕ
cell_entry t m x = cond (even_mask m) (even_entry t m x) (cell_at t m x)

-- what an entry e answers to x: its new number, if its old number is x
unfoldable pub answer_in : ℕ → ℕ → Option ℕ
answer_in e x = cond (eqb (e / 65536) x) (Some (e % 65536)) None

-- what the cells of m answer to x
abbrev pub folded : List ℕ → Map → ℕ → Option ℕ
folded t m x = answer_in (cell_entry t m x) x

-- the map's cells lie inside
pub record Inside (t : List ℕ) (m : Map) : Type 0 where
  pub within : m.at + m.mask < length t

-- the last run that starts at `old` or before is r, whose cells lie inside; 0 if there is none
pub record RunFound (t : List ℕ) (m : Map) (old r : ℕ) : Type 0 where
  pub is : r ≡ last_run t m.at old (runs_end m) 0 (runs_end m)
  pub inside : (r ≡ 0 → ⊥) → m.at + 2 * r + 1 < length t

-- the map is a folded table, with an even number of cells
pub record Odd (m : Map) : Type 0 where
  pub odd : m.mask % 2 ≡ 1

-- the cells of m hold these entries: they lie inside, and answer what the entries do
pub record Holds (t : List ℕ) (m : Map) (es : List (ℕ × ℕ)) : Type 0 where
  pub inside : Inside t m
  pub answers : (x : ℕ) → folded t m x ≡ find es x

-- the cells before `at` are as before, and so is how many there are
pub record Kept (at : ℕ) (t₀ t : List ℕ) : Type 0 where
  pub size : length t ≡ length t₀
  pub same : (i : ℕ) → i < at → get_or t i 0 ≡ get_or t₀ i 0

pub kept_all : (at : ℕ) (t : List ℕ) → Kept at t t
kept_all at t = record { size = refl; same = λ i h. refl }

pub kept_more : {at : ℕ} {a b c : List ℕ} → Kept at a b → Kept at b c → Kept at a c
kept_more k l = record { size = l.size ∙ k.size; same = λ i h. l.same i h ∙ k.same i h }

pub kept_set : (at : ℕ) (t : List ℕ) (i v : ℕ) → at ≤ i → Kept at t (set t i v)
kept_set at t i v h = record { size = length-set t i v; same = λ j l. get_or-set_other t i j v 0 (λ e. omega arith) }

-- what the cells hold for a number, of a folded table, of ranks and of runs
pub entry_folded : (t : List ℕ) (m : Map) → Odd m → (x : ℕ) → cell_entry t m x ≡ cell_at t m x
unfolding cell_entry
entry_folded t m o x = rw (ne_eqb (m.mask % 2) 0 (omega (arith, o.odd)))

pub entry_even : (t : List ℕ) (m : Map) → m.mask % 2 ≡ 0 → (x : ℕ) → cell_entry t m x ≡ even_entry t m x
unfolding cell_entry
entry_even t m e x = rw (eq-eqb (m.mask % 2) 0 e)

pub even_ranks : (t : List ℕ) (m : Map) → m.mask ≡ ranked_mask → (x : ℕ) → even_entry t m x ≡ rank_entry t m.at x
unfolding even_entry
even_ranks t m e x = rw (eq-eqb m.mask ranked_mask e)

pub even_runs : (t : List ℕ) (m : Map) → (m.mask ≡ ranked_mask → ⊥) → (x : ℕ) → even_entry t m x ≡ run_entry t m.at (last_run t m.at x (runs_end m) 0 (runs_end m)) x
unfolding even_entry
even_runs t m n x = rw (ne_eqb m.mask ranked_mask n)

-- a run that is found lies before hi, or it is lo
pub last_below : (t : List ℕ) (at x n lo hi : ℕ) → (last_run t at x n lo hi ≡ lo) ⊎ (last_run t at x n lo hi < hi)
unfolding last_run
last_below t at x zero lo hi = inl refl
last_below t at x (suc n) lo hi = step (ltb (lo + 1) hi) refl (leb (run_start t at mid / 65536) x) (last_below t at x n mid hi) (last_below t at x n lo mid)
  where
    mid : ℕ
    mid = lo + (hi - lo) / 2

    step : (b : Bool) → ltb (lo + 1) hi ≡ b → (c : Bool) → (last_run t at x n mid hi ≡ mid) ⊎ (last_run t at x n mid hi < hi) → (last_run t at x n lo mid ≡ lo) ⊎ (last_run t at x n lo mid < mid)
        → (cond b (cond c (last_run t at x n mid hi) (last_run t at x n lo mid)) lo ≡ lo) ⊎ (cond b (cond c (last_run t at x n mid hi) (last_run t at x n lo mid)) lo < hi)
    step false e c up down = inl refl
    step true e true up down = let l = ltb-true (lo + 1) hi e in ⊎_elim (λ q. inr (omega (arith, q, l))) (λ q. inr q) up
    step true e false up down = let l = ltb-true (lo + 1) hi e in ⊎_elim (λ q. inl q) (λ q. inr (omega (arith, q, l))) down

last_same : (t u : List ℕ) (at x hi : ℕ) → ((k : ℕ) → k < hi → run_start u at k ≡ run_start t at k) → (n lo h : ℕ) → h ≤ hi → last_run u at x n lo h ≡ last_run t at x n lo h
unfolding last_run
last_same t u at x hi s zero lo h l = refl
last_same t u at x hi s (suc n) lo h l = step (ltb (lo + 1) h) refl (last_same t u at x hi s n mid h l) (λ k. last_same t u at x hi s n lo mid k)
  where
    mid : ℕ
    mid = lo + (h - lo) / 2

    step : (b : Bool) → ltb (lo + 1) h ≡ b → last_run u at x n mid h ≡ last_run t at x n mid h → (mid ≤ hi → last_run u at x n lo mid ≡ last_run t at x n lo mid)
        → cond b (cond (leb (run_start u at mid / 65536) x) (last_run u at x n mid h) (last_run u at x n lo mid)) lo ≡ cond b (cond (leb (run_start t at mid / 65536) x) (last_run t at x n mid h) (last_run t at x n lo mid)) lo
    step false e up down = refl
    step true e up down =
        let g : mid < h = omega (arith, ltb-true (lo + 1) h e) in
        rw (s mid (omega arith), up, down (omega arith))

run_same : (t u : List ℕ) (at k x : ℕ) → ((k ≡ 0 → ⊥) → (run_start u at k ≡ run_start t at k) × (run_end u at k ≡ run_end t at k)) → run_entry u at k x ≡ run_entry t at k x
unfolding run_entry
run_same t u at k x s = step (eqb k 0) refl
  where
    step : (b : Bool) → eqb k 0 ≡ b
        → cond (b || ltb (run_end u at k % 65536) x) (no_entry x) (x * 65536 + (run_start u at k % 65536 + 65536 + x - run_start u at k / 65536) % 65536)
        ≡ cond (b || ltb (run_end t at k % 65536) x) (no_entry x) (x * 65536 + (run_start t at k % 65536 + 65536 + x - run_start t at k / 65536) % 65536)
    step true e = refl
    step false e = let q = s (eqb-false k 0 e) in rw (q.0, q.1)

rank_same_lem : (t u : List ℕ) (at x : ℕ) → ((i : ℕ) → at ≤ i → i < at + 2 * mark_cells → get_or u i 0 ≡ get_or t i 0) → rank_entry u at x ≡ rank_entry t at x
unfolding rank_entry rank_in
rank_same_lem t u at x s = step (ltb x 65536) refl
  where
    step : (b : Bool) → ltb x 65536 ≡ b
        → cond (b && marked u at x) (x * 65536 + (get_or u (at + x / 32 + mark_cells) 0 + ones (get_or u (at + x / 32) 0 % 2 ^ (x % 32))) % 65536) (no_entry x)
        ≡ cond (b && marked t at x) (x * 65536 + (get_or t (at + x / 32 + mark_cells) 0 + ones (get_or t (at + x / 32) 0 % 2 ^ (x % 32))) % 65536) (no_entry x)
    step false e = refl
    step true e =
        let l : x < 65536 = ltb-true x 65536 e in
        let m = s (at + x / 32) (omega arith) (omega arith) in
        rw (same_cell t u at x m, m, s (at + x / 32 + mark_cells) (omega arith) (omega arith))

-- where the cells of a map are the same they hold the same
pub entry_same : (t u : List ℕ) (m : Map) → ((i : ℕ) → m.at ≤ i → i ≤ m.at + m.mask → get_or u i 0 ≡ get_or t i 0) → (x : ℕ) → cell_entry u m x ≡ cell_entry t m x
unfolding cell_entry even_entry
entry_same t u m s x = step (even_mask m) (eqb m.mask ranked_mask) refl
  where
    top : ℕ
    top = runs_end m

    k : ℕ
    k = last_run t m.at x top 0 top

    runs : run_entry u m.at (last_run u m.at x top 0 top) x ≡ run_entry t m.at k x
    runs =
        ap (λ (r : ℕ). run_entry u m.at r x) (last_same t u m.at x top (λ i l. s (m.at + 2 * i) (omega arith) (omega arith)) top 0 top (omega arith))
        ∙ run_same t u m.at k x (λ z. within z (last_below t m.at x top 0 top))
      where
        within : (k ≡ 0 → ⊥) → (k ≡ 0) ⊎ (k < top) → (run_start u m.at k ≡ run_start t m.at k) × (run_end u m.at k ≡ run_end t m.at k)
        within z (inl e) = absurd (z e)
        within z (inr l) = (s (m.at + 2 * k) (omega arith) (omega arith), s (m.at + 2 * k + 1) (omega arith) (omega arith))

    step : (b c : Bool) → eqb m.mask ranked_mask ≡ c
        → cond b (cond c (rank_entry u m.at x) (run_entry u m.at (last_run u m.at x top 0 top) x)) (cell_at u m x)
        ≡ cond b (cond c (rank_entry t m.at x) (run_entry t m.at k x)) (cell_at t m x)
    step true true e =
        let l : m.mask ≡ ranked_mask = eqb-true m.mask ranked_mask e in
        rank_same_lem t u m.at x (λ i a b. s i a (omega arith))
    step true false e = runs
    step false c e = s (cell_of m x) (omega arith) (omega (arith, and_le_r x m.mask))

-- so where only cells behind them change
pub entry_kept : {at : ℕ} {t₀ t : List ℕ} → Kept at t₀ t → (m : Map) → m.at + m.mask < at → (x : ℕ) → cell_entry t m x ≡ cell_entry t₀ m x
entry_kept {at} {t₀} {t} k m h x = entry_same t₀ t m (λ i a b. k.same i (omega arith)) x

-- the cells of a number lie inside
pub cell_inside : {t : List ℕ} {m : Map} → Inside t m → (x : ℕ) → cell_of m x < length t
cell_inside {t} {m} k x = omega (arith, k.within, and_le_r x m.mask)

-- a map whose cells lie before `at` stands as it was
pub holds_kept : {at : ℕ} {t₀ t : List ℕ} {m : Map} {es : List (ℕ × ℕ)} → Kept at t₀ t → m.at + m.mask < at → Holds t₀ m es → Holds t m es
holds_kept {at} {t₀} {t} {m} k h o = record {
  inside = record { within = omega (arith, k.size, o.inside.within) };
  answers = λ x. ap (λ (e : ℕ). answer_in e x) (entry_kept k m h x) ∙ o.answers x;
}

-- what an entry answers to its own number, and to another
pub answer_own : (e x : ℕ) → e / 65536 ≡ x → answer_in e x ≡ Some (e % 65536)
unfolding answer_in
answer_own e x h = rw (eq-eqb (e / 65536) x h) refl

pub answer_other : (e x : ℕ) → (e / 65536 ≡ x → ⊥) → answer_in e x ≡ None
unfolding answer_in
answer_other e x h = rw (ne_eqb (e / 65536) x h) refl

pub answer_none : (x : ℕ) → answer_in (no_entry x) x ≡ None
unfolding no_entry
answer_none x = step (eqb x 0) refl
  where
    step : (b : Bool) → eqb x 0 ≡ b → answer_in (cond b 65536 0) x ≡ None
    step true e = answer_other 65536 x (λ q. omega (arith, eqb-true x 0 e))
    step false e = answer_other 0 x (λ q. eqb-false x 0 e (omega arith))

-- with an even mask they answer to words only
run_words : (t : List ℕ) (at k x : ℕ) → 65536 ≤ x → answer_in (run_entry t at k x) x ≡ None
unfolding run_entry
run_words t at k x h = rw (lt-ltb (run_end t at k % 65536) x (omega arith)) (step (eqb k 0))
  where
    step : (b : Bool) → answer_in (cond (b || true) (no_entry x) (x * 65536 + (run_start t at k % 65536 + 65536 + x - run_start t at k / 65536) % 65536)) x ≡ None
    step true = answer_none x
    step false = answer_none x

rank_words : (t : List ℕ) (at x : ℕ) → 65536 ≤ x → answer_in (rank_entry t at x) x ≡ None
unfolding rank_entry
rank_words t at x h = rw (le-ltb x 65536 h) (answer_none x)

pub even_words : (t : List ℕ) (m : Map) → m.mask % 2 ≡ 0 → (x : ℕ) → 65536 ≤ x → folded t m x ≡ None
unfolding even_entry
even_words t m e x h = ap (λ (v : ℕ). answer_in v x) (entry_even t m e x) ∙ step (eqb m.mask ranked_mask)
  where
    step : (b : Bool) → answer_in (cond b (rank_entry t m.at x) (run_entry t m.at (last_run t m.at x (runs_end m) 0 (runs_end m)) x)) x ≡ None
    step true = rank_words t m.at x h
    step false = run_words t m.at _ x h

none_found : (x : ℕ) → None ≡ find [] x
unfolding find
none_found x = refl

-- No entries: each cell holds 0, which names the number 0, but the first 65,536, which names 1.
one_and : (k : ℕ) → k % 2 ≡ 1 → bit_and 1 k ≡ 1
one_and k h = and_step 1 k ∙ rw h refl

pub holds_none : {t : List ℕ} {m : Map} → Inside t m → Odd m → get_or t m.at 0 ≡ 65536
    → ((i : ℕ) → m.at < i → i < m.at + m.mask + 1 → get_or t i 0 ≡ 0) → Holds t m []
holds_none {t} {m} k o f z = record { inside = k; answers = λ x. nothing x ∙ none_found x }
  where
    nothing : (x : ℕ) → folded t m x ≡ None
    nothing x = ap (λ (e : ℕ). answer_in e x) (entry_folded t m o x) ∙ step (eqb (bit_and x m.mask) 0) refl
      where
        step : (b : Bool) → eqb (bit_and x m.mask) 0 ≡ b → answer_in (cell_at t m x) x ≡ None
        step true e =
            let c : bit_and x m.mask ≡ 0 = eqb-true _ _ e in
            let d : cell_of m x ≡ m.at = omega arith in
            let v : cell_at t m x ≡ 65536 = ap (λ (i : ℕ). get_or t i 0) d ∙ f in
            answer_other (cell_at t m x) x (λ n. away (sym (ap (λ (v : ℕ). v / 65536) v) ∙ n) c)
          where
            away : 1 ≡ x → bit_and x m.mask ≡ 0 → ⊥
            away n c = let w : bit_and x m.mask ≡ 1 = rw (sym n) (one_and m.mask o.odd) in omega arith
        step false e =
            let c : bit_and x m.mask ≡ 0 → ⊥ = eqb-false _ _ e in
            let v : cell_at t m x ≡ 0 = z (cell_of m x) (omega arith) (omega (arith, and_le_r x m.mask)) in
            answer_other (cell_at t m x) x (λ n. c (ap (λ (y : ℕ). bit_and y m.mask) (sym n ∙ ap (λ (v : ℕ). v / 65536) v) ∙ and_zero_l m.mask))
