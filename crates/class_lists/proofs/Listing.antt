-- The ways through the listing of classes.
use Prim.Native.Nat.{ℕ, zero, suc, ◌+◌, ◌-◌, ◌*◌, ◌/◌, ◌%◌, ◌≤◌, ◌<◌, max}
use mathlib.Core.Path.{◌≡◌, refl, sym, ap, ap₂, ◌∙◌}
use mathlib.Core.Bool.{Bool, true, false, cond, ◌||◌}
use Rattle.std.specs.Prelude.{None, Some}
use mathlib.Core.List.{List, [], ◌∷◌, ◌++◌, map, append_assoc, append-nil}
use native.Mathlib.Decide.{dec_lt}
use native.Mathlib.Omega.{arith}
use lib.ListN.{length, set, length-append, length-map}
use lib.Dec.{ltb, eqb}
use borrow.Author.Tests.{lt-ltb, le-ltb, eq-eqb, ne_eqb, eqb-true, eqb-false}
use Rattle.meaning.specs.Words.{keys, find, push, map_some}
use Rattle.meaning.specs.Parts.{class_of}
use Rattle.meaning.specs.Maps.{steps, glyph_entries}
use Rattle.laws.specs.Runs.{Up}
use Rattle.laws.specs.Stands.{All, all_append}
use Rattle.cell_maps.specs.Cells.{Kept, kept_all, kept_more, kept_set}
use Rattle.area.specs.Part.{part, notes, part_append}
use Rattle.area.specs.Stored.{part_same, part_store}
use Rattle.glyph_runs.specs.Runs.{GlyphMap, run_count, old_of, new_of, IsRun, Past, Reached, map_good}
use Rattle.glyph_runs.specs.Found.{entries_few, run_is, apart, run_found, none_found}
use Rattle.glyph_runs.specs.declared.Run.{Run}
use Rattle.class_stretches.specs.Tables.{classes_at, NullOrSound}
use Rattle.class_stretches.specs.Stretches.{Hint, Found}
use Rattle.class_lists.specs.From.{from_old, from_first, from_low, from_few, from_gap, from_end, from_one, from_steps}
use Rattle.class_lists.specs.Listed.{classed, holds_zero, Listed, rising, PutRun, ToFill, Filled, Passes}
use Rattle.class_stretches.specs.declared.Stretch.{Stretch}
use Rattle.class_lists.specs.declared.Place.{Place}

-- Cells in a row.

-- a cell as an entry of two numbers
note_of : (a b : ℕ) → b < 65536 → ◌≡◌ {A = ℕ × ℕ} ((a * 65536 + b) / 65536, (a * 65536 + b) % 65536) (a, b)
note_of a b h =
    let p : (a * 65536 + b) / 65536 ≡ a = omega arith in
    let q : (a * 65536 + b) % 65536 ≡ b = omega arith in
    rw (p, q)

map_last : {A B : Type 0} (f : A → B) (l : List A) (v : A) (r : List B) → map f (l ++ (v ∷ [])) ++ r ≡ map f l ++ (f v ∷ r)
map_last f [] v r = refl
map_last f (a ∷ l) v r = ap (λ (k : List _). f a ∷ k) (map_last f l v r)

map_append : {A B : Type 0} (f : A → B) (l r : List A) → map f (l ++ r) ≡ map f l ++ map f r
map_append f [] r = refl
map_append f (a ∷ l) r = ap (λ (k : List _). f a ∷ k) (map_append f l r)

-- What the loop of `put_run` keeps: i cells stand, and the others are left.
pub record Putting (t₀ t : List ℕ) (cell new n c i : ℕ) : Type 0 where
  pub within : i ≤ n
  pub room : cell + n ≤ length t₀
  pub kept : Kept cell t₀ t
  pub left : notes t cell i ++ rising (new + i) c (n - i) ≡ rising new c n

module _ {t₀ : List ℕ} {cell new n c : ℕ} where
  pub put_none : length t₀ < cell + n → PutRun t₀ t₀ cell new n c (cell + n)
  put_none h = record { past = refl; kept = kept_all cell t₀; cells = λ l. absurd (omega arith) }

  pub putting_all : cell + n ≤ length t₀ → Putting t₀ t₀ cell new n c 0
  unfolding part
  putting_all h =
      let a : new + 0 ≡ new = omega arith in
      let b : n - 0 ≡ n = omega arith in
      record { within = omega arith; room = h; kept = kept_all cell t₀; left = rw (a, b) }

  module _ {t : List ℕ} {i : ℕ} (k : Putting t₀ t cell new n c i) where
    pub putting_inside : i < n → cell + i < length t
    putting_inside h = omega (arith, k.room, k.kept.size)

    pub putting_next : i < n → c < 65536 → Putting t₀ (set t (cell + i) ((new + i) * 65536 + c)) cell new n c (i + 1)
    unfolding rising
    putting_next h s = record {
      within = omega arith;
      room = k.room;
      kept = kept_more k.kept (kept_set cell t (cell + i) ((new + i) * 65536 + c) (omega arith));
      left = ap (λ (l : List ℕ). map (λ x. (x / 65536, x % 65536)) l ++ rising (new + (i + 1)) c (n - (i + 1))) (part_store t cell i ((new + i) * 65536 + c) (putting_inside h))
          ∙ map_last (λ x. (x / 65536, x % 65536)) (part t cell i) ((new + i) * 65536 + c) (rising (new + (i + 1)) c (n - (i + 1)))
          ∙ ap₂ (λ (e : ℕ × ℕ) (l : List (ℕ × ℕ)). notes t cell i ++ (e ∷ l)) (note_of (new + i) c s) (ap (λ (j : ℕ). rising j c (n - (i + 1))) a)
          ∙ ap (λ (l : List (ℕ × ℕ)). notes t cell i ++ l) b
          ∙ k.left;
    }
      where
        a : new + (i + 1) ≡ new + i + 1
        a = omega arith

        b : (new + i, c) ∷ rising (new + i + 1) c (n - (i + 1)) ≡ rising (new + i) c (n - i)
        b = let e : n - i ≡ suc (n - (i + 1)) = omega arith in rw e

    pub putting_end : n ≤ i → PutRun t₀ t cell new n c (cell + n)
    unfolding rising
    putting_end h =
        let e : i ≡ n = omega (arith, k.within) in
        let d : n - n ≡ 0 = omega arith in
        record { past = refl; kept = k.kept; cells = λ l. sym (append-nil (notes t cell n)) ∙ rw (e, d) at k.left }

-- Two stretches of cells, of which the second was written behind the first.
notes_more : (t u : List ℕ) (cell n m : ℕ) → Kept (cell + n) t u → notes u cell (n + m) ≡ notes t cell n ++ notes u (cell + n) m
notes_more t u cell n m k =
    ap (map (λ x. (x / 65536, x % 65536))) (part_append u cell n m)
    ∙ map_append (λ x. (x / 65536, x % 65536)) (part u cell n) (part u (cell + n) m)
    ∙ ap (λ (l : List ℕ). map (λ x. (x / 65536, x % 65536)) l ++ notes u (cell + n) m) (part_same u t cell n (λ j a b. k.same j (omega arith)))

-- pairs in step, each with the class c
steps_rising : (old new n c : ℕ) → map (λ e. (e.1, c)) (steps old new n) ≡ rising new c n
unfolding steps rising
steps_rising old new zero c = refl
steps_rising old new (suc n) c = ap (λ (l : List (ℕ × ℕ)). (new, c) ∷ l) (steps_rising (old + 1) (new + 1) n c)

steps_length : (old new n : ℕ) → length (steps old new n) ≡ n
unfolding steps
steps_length old new zero = refl
steps_length old new (suc n) = ap suc (steps_length (old + 1) (new + 1) n)

steps_within : (x last old new n : ℕ) → x ≤ old → old + n ≤ last + 1 → All (λ e. (x ≤ e.0) × (e.0 ≤ last)) (steps old new n)
unfolding steps
steps_within x last old new zero a b = tt
steps_within x last old new (suc n) a b = ((omega arith, omega arith), steps_within x last (old + 1) (new + 1) n (omega arith) (omega arith))

-- The glyphs between two runs.
module _ {form : ℕ} {m : List ℕ} (g : GlyphMap form m) {run from : ℕ} (w : run ≤ run_count form m) (p : Past form m from run) where
  -- those up to a number that is not after the run's first
  pub gap_to : (x : ℕ) → from ≤ x → ((y : ℕ) → from ≤ y → y < x → run < run_count form m → y < old_of form m run) → from_old from (glyph_entries form m) ≡ from_old x (glyph_entries form m)
  gap_to x l f = from_gap from x 0 (glyph_entries form m) (map_good g).old l (λ y a b. none_found g y w (λ k e. omega (arith, p k e)) (f y a b))

  -- behind the last run
  pub gap_end : run_count form m ≤ run → from_old from (glyph_entries form m) ≡ []
  gap_end h = from_end from 0 (glyph_entries form m) (map_good g).old (λ y a. none_found g y w (λ k e. omega (arith, p k e)) (λ l. absurd (omega arith)))

-- a stretch of a run: n glyphs from `first` on
module _ {form : ℕ} {m : List ℕ} (g : GlyphMap form m) {e : ℕ} {r : Run} (h : e < run_count form m) (d : IsRun form m e r) where
  run_steps : (first n : ℕ) → r.old ≤ first → first + n ≤ r.old + r.count → from_old first (glyph_entries form m) ≡ steps first (r.new + (first - r.old)) n ++ from_old (first + n) (glyph_entries form m)
  run_steps first n a b = from_steps first (r.new + (first - r.old)) n 0 (glyph_entries form m) (map_good g).old (λ j l. one j l)
    where
      one : (j : ℕ) → j < n → find (glyph_entries form m) (first + j) ≡ Some (r.new + (first - r.old) + j)
      one j l =
          let p : old_of form m e + (first - r.old + j) ≡ first + j = omega (arith, d.old) in
          let q : new_of form m e + (first - r.old + j) ≡ r.new + (first - r.old) + j = omega (arith, d.new) in
          rw (p, q) at (run_found g e (first - r.old + j) h (omega (arith, d.count)))

-- What the loop of `fill` keeps: the entries from x up to `from` are `mid`, and stand in cells.
pub record Filling (form : ℕ) (m : List ℕ) (x : ℕ) (found : Stretch) (t₀ t : List ℕ) (cell e from to : ℕ) : Type 0 where
  pub mid : List (ℕ × ℕ)
  pub good : GlyphMap form m
  pub reached : Reached form m from e
  pub order : x ≤ from
  pub near : from ≤ found.last + 1
  pub end : found.last < 65536
  pub small : found.class < 65536
  pub low : cell ≤ 0x1_0000_0001_0000
  pub split : from_old x (glyph_entries form m) ≡ mid ++ from_old from (glyph_entries form m)
  pub within : All (λ e. (x ≤ e.0) × (e.0 ≤ found.last)) mid
  pub reach : to ≡ cell + length mid
  pub cells : to ≤ length t₀ → notes t cell (length mid) ≡ map (λ e. (e.1, found.class)) mid
  pub kept : Kept cell t₀ t

module _ {form : ℕ} {m : List ℕ} {x : ℕ} {found : Stretch} {t₀ : List ℕ} {cell : ℕ} where
  pub filling_all : {run : ℕ} → ToFill form m run x found cell → Filling form m x found t₀ t₀ cell run x cell
  unfolding part
  filling_all {run} k = record {
    mid = [];
    good = k.good;
    reached = k.reached;
    order = omega arith;
    near = omega (arith, k.holds);
    end = k.end;
    small = k.small;
    low = k.near;
    split = refl;
    within = tt;
    reach = omega arith;
    cells = λ l. refl;
    kept = kept_all cell t₀;
  }

  module _ {t : List ℕ} {e from to : ℕ} (k : Filling form m x found t₀ t cell e from to) where
    abbrev g : List (ℕ × ℕ)
    g = glyph_entries form m

    -- there are no more cells than numbers
    pub filling_few : to ≤ cell + 65536
    filling_few =
        let a : length (from_old x g) ≡ length k.mid + length (from_old from g) = ap length k.split ∙ length-append k.mid (from_old from g) in
        omega (arith, a, k.reach, from_few x g, entries_few k.good)

    -- no run is left
    pub filling_end : run_count form m ≤ e → Filled form m x found t₀ t cell (record { run = e; cell = to })
    filling_end h = record {
      mid = k.mid;
      split = k.split ∙ ap (λ (l : List (ℕ × ℕ)). k.mid ++ l) (gap_end k.good k.reached.within k.reached.passed h ∙ sym (gap_end k.good k.reached.within (λ i q. omega (arith, k.reached.passed i q, k.near)) h));
      within = k.within;
      past = k.reach;
      cells = k.cells;
      kept = k.kept;
      reached = record { within = k.reached.within; passed = λ i q. omega (arith, k.reached.passed i q, k.near); ends = λ l. absurd (omega arith) };
    }

    module _ {r : Run} {first : ℕ} (h : e < run_count form m) (d : IsRun form m e r) (f : first ≡ max r.old from) where
      to_first : from_old from g ≡ from_old first g
      to_first = gap_to k.good k.reached.within k.reached.passed first (omega arith) (λ y a b l. omega (arith, d.old))

      -- the next glyph is in the run
      pub filling_in : first < r.old + r.count
      filling_in = omega (arith, d.some, k.reached.ends h, d.old, d.count)

      -- the next glyph is past the stretch
      pub filling_stops : found.last + 1 ≤ first → Filled form m x found t₀ t cell (record { run = e; cell = to })
      filling_stops l = record {
        mid = k.mid;
        split = k.split ∙ ap (λ (q : List (ℕ × ℕ)). k.mid ++ q) (gap_to k.good k.reached.within k.reached.passed (found.last + 1) k.near (λ y a b n. omega (arith, d.old)));
        within = k.within;
        past = k.reach;
        cells = k.cells;
        kept = k.kept;
        reached = record { within = k.reached.within; passed = λ i q. omega (arith, k.reached.passed i q, k.near); ends = λ n. omega (arith, d.old, d.count, filling_in) };
      }

      -- a stretch of the run may be put into cells
      pub filling_put : (n : ℕ) → first + n ≤ r.old + r.count → (to < 0x2_0000_0000_0000) × (r.new + (first - r.old) + n ≤ 65536) × (found.class < 65536)
      filling_put n b = (omega (arith, filling_few, k.low), omega (arith, d.new_end), k.small)

      module _ {n : ℕ} (b : first + n ≤ r.old + r.count) (c : first + n ≤ found.last + 1) {u : List ℕ} {q : ℕ}
          (w : PutRun t u to (r.new + (first - r.old)) n found.class q) where
        abbrev more : List (ℕ × ℕ)
        more = k.mid ++ steps first (r.new + (first - r.old)) n

        many : length more ≡ length k.mid + n
        many = length-append k.mid (steps first (r.new + (first - r.old)) n) ∙ ap (λ (j : ℕ). length k.mid + j) (steps_length first (r.new + (first - r.old)) n)

        split_more : from_old x g ≡ more ++ from_old (first + n) g
        split_more = k.split ∙ ap (λ (s : List (ℕ × ℕ)). k.mid ++ s) (to_first ∙ run_steps k.good h d first n (omega arith) b)
            ∙ sym (append_assoc k.mid (steps first (r.new + (first - r.old)) n) (from_old (first + n) g))

        within_more : All (λ e. (x ≤ e.0) × (e.0 ≤ found.last)) more
        within_more = all_append (λ e. (x ≤ e.0) × (e.0 ≤ found.last)) k.mid (steps first (r.new + (first - r.old)) n) k.within (steps_within x found.last first (r.new + (first - r.old)) n (omega (arith, k.order)) c)

        reach_more : q ≡ cell + length more
        reach_more = omega (arith, w.past, k.reach, many)

        kept_both : Kept cell t₀ u
        kept_both = kept_more k.kept (record { size = w.kept.size; same = λ i a. w.kept.same i (omega (arith, k.reach)) })

        cells_more : q ≤ length t₀ → notes u cell (length more) ≡ map (λ e. (e.1, found.class)) more
        cells_more a =
            ap (notes u cell) many
            ∙ notes_more t u cell (length k.mid) n (rw k.reach at w.kept)
            ∙ ap₂ (λ (s z : List (ℕ × ℕ)). s ++ z) (k.cells (omega (arith, w.past))) (ap (λ (i : ℕ). notes u i n) (sym k.reach) ∙ w.cells (omega (arith, k.kept.size)) ∙ sym (steps_rising first (r.new + (first - r.old)) n found.class))
            ∙ sym (map_append (λ e. (e.1, found.class)) k.mid (steps first (r.new + (first - r.old)) n))

        -- the stretch ends in the run
        at_end : first + n ≡ found.last + 1 → found.last + 1 < r.old + r.count → Filled form m x found t₀ u cell (record { run = e; cell = q })
        at_end a z = record {
          mid = more;
          split = rw a at split_more;
          within = within_more;
          past = reach_more;
          cells = cells_more;
          kept = kept_both;
          reached = record { within = k.reached.within; passed = λ i j. omega (arith, k.reached.passed i j, k.near); ends = λ j. omega (arith, d.old, d.count) };
        }

        -- it goes on behind it
        behind : first + n ≡ r.old + r.count → Filling form m x found t₀ u cell (e + 1) (r.old + r.count) q
        behind a = record {
          mid = more;
          good = k.good;
          reached = record {
            within = omega arith;
            passed = λ i j. let s : i ≡ e = omega arith in rw s (omega (arith, d.old, d.count));
            ends = λ j. omega (arith, d.old, d.count, apart k.good e (e + 1) (omega arith) j, (run_is k.good (e + 1) j).some);
          };
          order = omega (arith, k.order, d.some);
          near = omega arith;
          end = k.end;
          small = k.small;
          low = k.low;
          split = rw a at split_more;
          within = within_more;
          reach = reach_more;
          cells = cells_more;
          kept = kept_both;
        }

      module _ {u : List ℕ} {q : ℕ} where
        pub filling_last : first < found.last + 1 → found.last + 1 < r.old + r.count → PutRun t u to (r.new + (first - r.old)) (found.last + 1 - first) found.class q
            → Filled form m x found t₀ u cell (record { run = e; cell = q })
        filling_last l z w = at_end (omega arith) (omega arith) w (omega arith) z

        pub filling_next : r.old + r.count ≤ found.last + 1 → PutRun t u to (r.new + (first - r.old)) (r.old + r.count - first) found.class q
            → Filling form m x found t₀ u cell (e + 1) (r.old + r.count) q
        filling_next z w = behind (omega (arith, filling_in)) (omega (arith, filling_in)) w (omega (arith, filling_in))

-- The classes of entries: class 0 is passed, and another is listed.
classed_zero : (cs : List (ℕ × ℕ)) (x y : ℕ) (g : List (ℕ × ℕ)) → class_of cs x ≡ 0 → classed cs ((x, y) ∷ g) ≡ classed cs g
unfolding classed map_some push
classed_zero cs x y g e = rw (eq-eqb (class_of cs x) 0 e)

classed_one : (cs : List (ℕ × ℕ)) (x y c : ℕ) (g : List (ℕ × ℕ)) → c ≡ class_of cs x → (c ≡ 0 → ⊥) → classed cs ((x, y) ∷ g) ≡ (y, c) ∷ classed cs g
unfolding classed map_some push
classed_one cs x y c g e n = rw (ne_eqb (class_of cs x) 0 (λ q. n (e ∙ q)), ← e)

classed_none : (cs : List (ℕ × ℕ)) → classed cs [] ≡ []
unfolding classed map_some
classed_none cs = refl

zero_none : (cs : List (ℕ × ℕ)) → holds_zero cs [] ≡ false
unfolding holds_zero
zero_none cs = refl

-- there are no more than all
pub classed_few : (cs g : List (ℕ × ℕ)) → length (classed cs g) ≤ length g
unfolding classed map_some push
classed_few cs [] = omega arith
classed_few cs (e ∷ g) = step (eqb (class_of cs e.0) 0) (classed_few cs g)
  where
    step : (b : Bool) → length (classed cs g) ≤ length g → length (push (cond b None (Some (e.1, class_of cs e.0))) (classed cs g)) ≤ suc (length g)
    step true h = omega arith
    step false h = omega arith

-- entries of one class other than 0, before others
module _ (cs : List (ℕ × ℕ)) (x last c : ℕ) (same : (y : ℕ) → x ≤ y → y ≤ last → c ≡ class_of cs y) (n : c ≡ 0 → ⊥) where
  classed_all : (mid rest : List (ℕ × ℕ)) → All (λ e. (x ≤ e.0) × (e.0 ≤ last)) mid → classed cs (mid ++ rest) ≡ map (λ e. (e.1, c)) mid ++ classed cs rest
  classed_all [] rest w = refl
  classed_all (e ∷ mid) rest w = classed_one cs e.0 e.1 c (mid ++ rest) (same e.0 w.0.0 w.0.1) n ∙ ap (λ (l : List (ℕ × ℕ)). (e.1, c) ∷ l) (classed_all mid rest w.1)

  zero_others : (mid rest : List (ℕ × ℕ)) → All (λ e. (x ≤ e.0) × (e.0 ≤ last)) mid → holds_zero cs (mid ++ rest) ≡ holds_zero cs rest
  unfolding holds_zero
  zero_others [] rest w = refl
  zero_others (e ∷ mid) rest w = rw (ne_eqb (class_of cs e.0) 0 (λ q. n (same e.0 w.0.0 w.0.1 ∙ q))) (zero_others mid rest w.1)

-- entries of class 0 are passed
classed_skip : (cs : List (ℕ × ℕ)) (z x low : ℕ) (g : List (ℕ × ℕ)) → Up low (keys g) → z ≤ x → ((y : ℕ) → z ≤ y → y < x → class_of cs y ≡ 0) → classed cs (from_old z g) ≡ classed cs (from_old x g)
unfolding from_old keys
classed_skip cs z x low [] u h f = refl
classed_skip cs z x low (e ∷ g) u h f = step (dec_lt e.0 z) (dec_lt e.0 x) (classed_skip cs z x (e.0 + 1) g u.1 h f)
  where
    step : Dec (e.0 < z) → Dec (e.0 < x) → classed cs (from_old z g) ≡ classed cs (from_old x g) → classed cs (cond (ltb e.0 z) (from_old z g) (e ∷ g)) ≡ classed cs (cond (ltb e.0 x) (from_old x g) (e ∷ g))
    step (yes a) b k = rw (lt-ltb e.0 z a, lt-ltb e.0 x (omega arith)) k
    step (no a) (yes b) k =
        rw (le-ltb e.0 z (omega arith), lt-ltb e.0 x b)
        (classed_zero cs e.0 e.1 g (f e.0 (omega arith) b) ∙ ap (classed cs) (sym (from_low z (e.0 + 1) g u.1 (omega arith))) ∙ k)
    step (no a) (no b) k = rw (le-ltb e.0 z (omega arith), le-ltb e.0 x (omega arith))

-- an entry of class 0 is one that holds it
zero_first : (cs : List (ℕ × ℕ)) (x y : ℕ) (g : List (ℕ × ℕ)) → class_of cs x ≡ 0 → holds_zero cs ((x, y) ∷ g) ≡ true
unfolding holds_zero
zero_first cs x y g e = rw (eq-eqb (class_of cs x) 0 e)

or_true : (a : Bool) → a || true ≡ true
or_true true = refl
or_true false = refl

or_none : (a : Bool) → a || false ≡ a
or_none true = refl
or_none false = refl

class_all : (c b : ℕ) (mid : List (ℕ × ℕ)) → c ≤ b → All {A = ℕ × ℕ} (λ e. e.1 ≤ b) (map (λ e. (e.1, c)) mid)
class_all c b [] h = tt
class_all c b (e ∷ mid) h = (h, class_all c b mid h)

-- What the walk keeps: the classes of the entries up to the old number `from` are listed, and those from it on are left.
pub record Listing (s : List ℕ) (at form : ℕ) (m t₀ t : List ℕ) (list high : ℕ) (zero : Bool) (next from run cell : ℕ) : Type 0 where
  pub sound : NullOrSound s at
  pub good : GlyphMap form m
  pub near : list < 0x1_0000_0000_0000
  pub reached : Reached form m from run
  pub hint : (y : ℕ) → from ≤ y → Hint s at y next
  pub low : from ≤ 65536
  pub small : high < 65536
  pub kept : Kept list t₀ t
  pub order : list ≤ cell
  pub place : cell + length (classed (classes_at s at) (from_old from (glyph_entries form m))) ≡ list + length (classed (classes_at s at) (glyph_entries form m))
  pub cells : cell ≤ length t₀ → notes t list (cell - list) ++ classed (classes_at s at) (from_old from (glyph_entries form m)) ≡ classed (classes_at s at) (glyph_entries form m)
  pub most : (b : ℕ) → high ≤ b → All (λ e. e.1 ≤ b) (classed (classes_at s at) (from_old from (glyph_entries form m))) → All (λ e. e.1 ≤ b) (classed (classes_at s at) (glyph_entries form m))
  pub zeros : zero || holds_zero (classes_at s at) (from_old from (glyph_entries form m)) ≡ holds_zero (classes_at s at) (glyph_entries form m)

module _ {s : List ℕ} {at form : ℕ} {m t₀ : List ℕ} {list : ℕ} where
  pub listing_all : NullOrSound s at × GlyphMap form m × (list < 0x1_0000_0000_0000) → Listing s at form m t₀ t₀ list 0 false 0 0 0 list
  unfolding part
  listing_all k = record {
    sound = k.0;
    good = k.1;
    near = k.2;
    reached = record { within = omega arith; passed = λ i e. absurd (omega arith); ends = λ h. omega (arith, (run_is k.1 0 h).some) };
    hint = λ y l. record { ranges = λ a b. (omega arith, λ i e. absurd (omega arith)) };
    low = omega arith;
    small = omega arith;
    kept = kept_all list t₀;
    order = omega arith;
    place = ap (λ (l : List (ℕ × ℕ)). list + length (classed (classes_at s at) l)) (from_first (glyph_entries form m));
    cells = λ l. let d : list - list ≡ 0 = omega arith in rw (d, from_first (glyph_entries form m));
    most = λ b h a. rw (from_first (glyph_entries form m)) at a;
    zeros = rw (from_first (glyph_entries form m));
  }

  module _ {t : List ℕ} {high : ℕ} {zero : Bool} {next from run cell : ℕ} (k : Listing s at form m t₀ t list high zero next from run cell) where
    abbrev cs : List (ℕ × ℕ)
    cs = classes_at s at

    abbrev es : List (ℕ × ℕ)
    es = glyph_entries form m

    listing_few : cell ≤ list + 65536
    listing_few = omega (arith, k.place, classed_few cs es, entries_few k.good)

    -- no run is left
    pub listing_end : run_count form m ≤ run → Listed cs es t₀ t list (record { len = cell - list; high = high; zero = zero })
    listing_end h = record {
      kept = k.kept;
      long = omega (arith, k.place, k.order, none_long);
      few = omega (arith, listing_few);
      most = k.most high (omega arith) (rw (none_left, classed_none cs) tt);
      small = k.small;
      zero = sym (or_none zero) ∙ rw (none_left, zero_none cs) at k.zeros;
      cells = λ l. sym (append-nil (notes t list (cell - list))) ∙ rw (none_left, classed_none cs) at (k.cells (omega (arith, k.order)));
    }
      where
        none_left : from_old from es ≡ []
        none_left = gap_end k.good k.reached.within k.reached.passed h

        none_long : length (classed cs (from_old from es)) ≡ 0
        none_long = rw (none_left, classed_none cs)

    module _ {r : Run} {glyph : ℕ} (h : run < run_count form m) (d : IsRun form m run r) (f : glyph ≡ max r.old from) where
      glyph_in : glyph < r.old + r.count
      glyph_in = omega (arith, d.some, k.reached.ends h, d.old, d.count)

      -- the search may begin with `next`
      pub listing_hint : NullOrSound s at × Hint s at glyph next × (glyph < 65536)
      listing_hint = (k.sound, k.hint glyph (omega arith), omega (arith, glyph_in, d.old_end))

      to_glyph : from_old from es ≡ from_old glyph es
      to_glyph = gap_to k.good k.reached.within k.reached.passed glyph (omega arith) (λ y a b l. omega (arith, d.old))

      module _ {found : Stretch} (w : Found s at glyph found) where
        pub listing_fill : ToFill form m run glyph found cell
        listing_fill = record {
          good = k.good;
          reached = record { within = k.reached.within; passed = λ i e. omega (arith, k.reached.passed i e); ends = λ l. omega (arith, glyph_in, d.old, d.count) };
          holds = w.stretch.holds;
          end = w.stretch.end;
          small = w.stretch.small;
          near = omega (arith, listing_few, k.near);
        }

        module _ {u : List ℕ} {p : Place} (v : Passes form m glyph found t u cell p) {more : ℕ} {met : Bool} (o : more ≡ max found.class high) (z : met ≡ zero || eqb found.class 0) where
          abbrev left : List (ℕ × ℕ)
          left = from_old (found.last + 1) es

          turn : Kept list t₀ u → list ≤ p.cell
              → p.cell + length (classed cs left) ≡ list + length (classed cs es)
              → (p.cell ≤ length t₀ → notes u list (p.cell - list) ++ classed cs left ≡ classed cs es)
              → ((b : ℕ) → more ≤ b → All (λ e. e.1 ≤ b) (classed cs left) → All (λ e. e.1 ≤ b) (classed cs es))
              → met || holds_zero cs left ≡ holds_zero cs es
              → Listing s at form m t₀ u list more met found.next (found.last + 1) p.run p.cell
          turn a b c e g i = record {
            sound = k.sound;
            good = k.good;
            near = k.near;
            reached = v.reached;
            hint = λ y l. w.hint y (omega arith);
            low = omega (arith, w.stretch.end);
            small = omega (arith, k.small, w.stretch.small);
            kept = a;
            order = b;
            place = c;
            cells = e;
            most = g;
            zeros = i;
          }

          turn_zero : found.class ≡ 0 → Listing s at form m t₀ u list more met found.next (found.last + 1) p.run p.cell
          turn_zero n =
              let q = v.skipped n in
              turn
              (rw q.1 k.kept)
              (omega (arith, q.0, k.order))
              (omega (arith, q.0, k.place, ap length same))
              (λ l. rw (q.0, q.1, ← same) (k.cells (omega (arith, q.0))))
              (λ b l a. k.most b (omega arith) (rw same a))
              (rw (z, eq-eqb found.class 0 n, or_true zero) (sym (sym k.zeros ∙ ap (λ (y : Bool). zero || y) held ∙ or_true zero)))
            where
              same : classed cs (from_old from es) ≡ classed cs left
              same = ap (classed cs) to_glyph ∙ classed_skip cs glyph (found.last + 1) 0 es (map_good k.good).old (omega (arith, w.stretch.holds)) (λ y a b. sym (w.stretch.same y a (omega arith)) ∙ n)

              there : find es glyph ≡ Some (new_of form m run + (glyph - old_of form m run))
              there =
                  let e : old_of form m run + (glyph - old_of form m run) ≡ glyph = omega (arith, d.old) in
                  rw e at (run_found k.good run (glyph - old_of form m run) h (omega (arith, glyph_in, d.old, d.count)))

              held : holds_zero cs (from_old from es) ≡ true
              held = ap (holds_zero cs) (to_glyph ∙ from_one glyph (new_of form m run + (glyph - old_of form m run)) 0 es (map_good k.good).old there)
                  ∙ zero_first cs glyph (new_of form m run + (glyph - old_of form m run)) (from_old (glyph + 1) es) (sym (w.stretch.same glyph (omega arith) w.stretch.holds) ∙ n)

          turn_other : (found.class ≡ 0 → ⊥) → Listing s at form m t₀ u list more met found.next (found.last + 1) p.run p.cell
          turn_other n =
              let q = v.listed n in
              turn
              (kept_more k.kept (record { size = q.kept.size; same = λ i a. q.kept.same i (omega (arith, k.order)) }))
              (omega (arith, q.past, k.order))
              (omega (arith, q.past, k.place, ap length same, long))
              (λ l. cells l)
              (λ b l a. k.most b (omega arith) (rw same (all_append (λ e. e.1 ≤ b) (map (λ e. (e.1, found.class)) q.mid) (classed cs left) (class_all found.class b q.mid (omega arith)) a)))
              (rw (z, ne_eqb found.class 0 n, or_none zero) (ap (λ (y : Bool). zero || y) (sym others) ∙ k.zeros))
            where
              long : length (map {B = ℕ × ℕ} (λ e. (e.1, found.class)) (v.listed n).mid ++ classed cs left) ≡ length (v.listed n).mid + length (classed cs left)
              long = length-append (map (λ e. (e.1, found.class)) (v.listed n).mid) (classed cs left) ∙ ap (λ (i : ℕ). i + length (classed cs left)) (length-map (v.listed n).mid (λ e. (e.1, found.class)))

              same : classed cs (from_old from es) ≡ map (λ e. (e.1, found.class)) (v.listed n).mid ++ classed cs left
              same = ap (classed cs) (to_glyph ∙ (v.listed n).split) ∙ classed_all cs glyph found.last found.class w.stretch.same n (v.listed n).mid left (v.listed n).within

              others : holds_zero cs (from_old from es) ≡ holds_zero cs left
              others = ap (holds_zero cs) (to_glyph ∙ (v.listed n).split) ∙ zero_others cs glyph found.last found.class w.stretch.same n (v.listed n).mid left (v.listed n).within

              cells : p.cell ≤ length t₀ → notes u list (p.cell - list) ++ classed cs left ≡ classed cs es
              cells l =
                  let len : p.cell - list ≡ cell - list + length (v.listed n).mid = omega (arith, (v.listed n).past, k.order) in
                  let here : list + (cell - list) ≡ cell = omega (arith, k.order) in
                  let low : cell ≤ length t₀ = omega (arith, (v.listed n).past) in
                  let room : p.cell ≤ length t = omega (arith, k.kept.size) in
                  ap (λ (i : ℕ). notes u list i ++ classed cs left) len
                  ∙ ap (λ (i : List (ℕ × ℕ)). i ++ classed cs left) (notes_more t u list (cell - list) (length (v.listed n).mid) (rw here (v.listed n).kept))
                  ∙ ap (λ (i : ℕ). (notes t list (cell - list) ++ notes u i (length (v.listed n).mid)) ++ classed cs left) here
                  ∙ ap (λ (i : List (ℕ × ℕ)). (notes t list (cell - list) ++ i) ++ classed cs left) ((v.listed n).cells room)
                  ∙ append_assoc (notes t list (cell - list)) (map (λ e. (e.1, found.class)) (v.listed n).mid) (classed cs left)
                  ∙ ap (λ (i : List (ℕ × ℕ)). notes t list (cell - list) ++ i) (sym same)
                  ∙ k.cells low

          pub listing_next : Listing s at form m t₀ u list more met found.next (found.last + 1) p.run p.cell
          listing_next = step (eqb found.class 0) refl
            where
              step : (b : Bool) → eqb found.class 0 ≡ b → Listing s at form m t₀ u list more met found.next (found.last + 1) p.run p.cell
              step true e = turn_zero (eqb-true found.class 0 e)
              step false e = turn_other (eqb-false found.class 0 e)

-- a stretch of any class
module _ {form : ℕ} {m : List ℕ} {x : ℕ} {found : Stretch} {t : List ℕ} {cell : ℕ} where
  pub passes_zero : {run : ℕ} → found.class ≡ 0 → Reached form m (found.last + 1) run → Passes form m x found t t cell (record { run = run; cell = cell })
  passes_zero e w = record { reached = w; skipped = λ q. (refl, refl); listed = λ n. absurd (n e) }

  pub passes_other : {u : List ℕ} {p : Place} → (found.class ≡ 0 → ⊥) → Filled form m x found t u cell p → Passes form m x found t u cell p
  passes_other n w = record { reached = w.reached; skipped = λ q. absurd (n q); listed = λ o. w }

-- the walk may go on behind it
pub passes_ready : {form : ℕ} {m : List ℕ} {x : ℕ} {found : Stretch} {cell run : ℕ} → ToFill form m run x found cell → GlyphMap form m × (run ≤ run_count form m) × Past form m (found.last + 1) run × (found.last + 1 ≤ 65536)
passes_ready k = (k.good, k.reached.within, (λ i e. omega (arith, k.reached.passed i e, k.holds)), omega (arith, k.end))
