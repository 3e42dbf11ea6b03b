-- Where the runs of a map meet a range, and what the loops over runs and over ranges keep.
use Prim.Native.Nat.{ℕ, zero, suc, ◌+◌, ◌-◌, ◌*◌, ◌/◌, ◌≤◌, ◌<◌, min, max}
use mathlib.Core.Path.{◌≡◌, refl, sym, ap, ◌∙◌}
use mathlib.Core.Bool.{true, ◌&&◌}
use Rattle.std.specs.Prelude.{None, Some}
use mathlib.Core.List.{List, ◌∷◌, ◌++◌, map, append-nil, append_assoc, map-append}
use native.Mathlib.Decide.{dec_lt}
use native.Mathlib.Nat.{zero-add}
use native.Mathlib.Omega.{arith}
use lib.ListN.{length, length-append}
use lib.Dec.{leb, eqb}
use borrow.Author.Tests.{leb-true, eqb-true}
use Rattle.meaning.specs.Words.{word, triples, up_from}
use Rattle.meaning.specs.Maps.{steps}
use Rattle.meaning.specs.Parts.{span, range_glyphs, ranges_ascend, ranges_count}
use Rattle.laws.specs.Runs.{both}
use Rattle.laws.specs.Left.{triples_left, triples_all, triples_none}
use Rattle.cell_maps.specs.Cells.{Kept, kept_all, kept_more}
use Rattle.glyph_runs.specs.Runs.{GlyphMap, new_of, IsRun, Past, Reached}
use Rattle.glyph_runs.specs.declared.Run.{Run}
use Rattle.glyph_runs.specs.Found.{run_is, apart, run_found, none_found}
use Rattle.area.specs.Part.{part, part_append, notes}
use Rattle.range_meets.specs.Met.{met, Met}
use Rattle.range_meets.proofs.Lists.{note_of, notes_kept}
use Rattle.noted_runs.specs.Walks.{start, end, in_runs, NotedSteps, MeetsRun, InRun, MeetsSpan, InSpan, MeetsRanges}
use Rattle.noted_runs.specs.declared.Noted.{Noted}
use Rattle.noted_runs.proofs.Rows.{row_none, row_steps, up_split}

-- What the map answers, by its runs.
module _ {m : List ℕ} (g : GlyphMap 6 m) where
  -- a number in the run e
  has : (e x : ℕ) → e < length m / 6 → start m e ≤ x → x < end m e → in_runs m x ≡ Some (new_of 6 m e + (x - start m e))
  has e x l a b =
      let i : start m e + (x - start m e) ≡ x = omega arith in
      rw i at (run_found g e (x - start m e) l (omega arith))

  -- a number after the runs before e, and before that one
  has_not : (e x : ℕ) → e ≤ length m / 6 → ((k : ℕ) → k < e → end m k ≤ x) → (e < length m / 6 → x < start m e) → in_runs m x ≡ None
  has_not e x l a b = none_found g x l (λ k q. a k (omega arith)) b

-- notes, and notes behind them
notes_more : {t next : List ℕ} (to k d : ℕ) (es : List (ℕ × ℕ)) → Kept (to + k) t next → notes next (to + k) d ≡ es → notes next to (k + d) ≡ notes t to k ++ es
notes_more {t} {next} to k d es kept e =
    ap (map note_of) (part_append next to k d) ∙ map-append note_of (part next to k) (part next (to + k) d) ∙ ap (λ (l : List (ℕ × ℕ)). l ++ notes next (to + k) d) (notes_kept to k kept)
    ∙ ap (λ (l : List (ℕ × ℕ)). notes t to k ++ l) e

-- One run: the glyphs of the range that it has begin with the higher of both starts, and end with the lower of both ends.
module _ {m : List ℕ} {e first last index : ℕ} {t : List ℕ} {to from next : ℕ} {run : Run} (a : MeetsRun m e first last index t to) (u : IsRun 6 m e run)
    (h : from ≡ max first run.old) (l : next ≡ min (last + 1) (run.old + run.count)) where
  pub run_more : from < next
  run_more = omega (arith, u.some, u.old, u.count, a.starts, a.ends, a.order)

  pub run_asks : (to + (next - from) ≤ length t) × (index + (from - first) + (next - from) ≤ 65536) × (run.new + (from - run.old) + (next - from) ≤ 65536)
  run_asks = (
    omega (arith, a.room, run_more),
    omega (arith, a.small, run_more),
    omega (arith, run_more, u.new_end),
  )

  pub run_met : {after : List ℕ} → NotedSteps t after to (index + (from - first)) (run.new + (from - run.old)) (next - from) → InRun m e first last index t to after (record { count = next - from; next = next })
  run_met n = record {
    from = from;
    low = omega arith;
    starts = omega (arith, u.old);
    tight = λ p. omega (arith, u.old);
    more = run_more;
    count = omega (arith, run_more);
    within = omega arith;
    ends = omega (arith, u.old, u.count);
    whole = λ q. omega (arith, u.old, u.count);
    kept = n.kept;
    noted = rw (← u.new, ← u.old) n.noted;
  }

-- What the loop over runs keeps: k glyphs are noted, and x is the next one to look at.
pub record Spanning (m : List ℕ) (first last index : ℕ) (t₀ t : List ℕ) (to x k e : ℕ) : Type 0 where
  pub within : e ≤ length m / 6
  pub low : first ≤ x
  pub high : x ≤ last + 1
  pub few : k ≤ x - first
  pub kept : Kept to t₀ t
  pub below : x ≤ last → (i : ℕ) → i < e → end m i ≤ x
  pub near : e < length m / 6 → start m e ≤ last → (x < end m e) × (x ≤ last)
  pub noted : (cov : List ℕ) → notes t to k ++ met (in_runs m) (index + (x - first)) (up_from x (last + 1 - x) ++ cov) ≡ met (in_runs m) index (up_from first (last + 1 - first) ++ cov)

module _ {m : List ℕ} {from first last index : ℕ} {t₀ : List ℕ} {to : ℕ} (a : MeetsSpan m from first last index t₀ to) where
  pub spanning_all : Spanning m first last index t₀ t₀ to first 0 from
  unfolding part
  spanning_all =
      let z : index + (first - first) ≡ index = omega arith in
      record {
        within = a.reached;
        low = omega arith;
        high = omega (arith, a.order);
        few = omega arith;
        kept = kept_all to t₀;
        below = λ h i l. a.below i l;
        near = λ l s. (a.above l, a.order);
        noted = λ cov. rw z;
      }

  module _ {t : List ℕ} {x k e : ℕ} (c : Spanning m first last index t₀ t to x k e) where
    -- what the walk over one run asks
    pub spanning_asks : e < length m / 6 → start m e ≤ last → MeetsRun m e x last (index + (x - first)) t (to + k)
    spanning_asks l s =
        let n = c.near l s in
        record {
          map = a.map;
          inside = l;
          starts = s;
          ends = n.0;
          order = n.1;
          small = omega (arith, a.small, c.low, c.high);
          room = omega (arith, a.room, c.low, c.high, c.few, c.kept.size);
        }

    module _ {next : List ℕ} {r : Noted} (l : e < length m / 6) (g : InRun m e x last (index + (x - first)) t (to + k) next r) where
      -- what is met from x on: none before the run, then the run's pairs in step
      parts : up_from x (last + 1 - x) ≡ up_from x (g.from - x) ++ (up_from g.from r.count ++ up_from r.next (last + 1 - r.next))
      parts =
          let p : last + 1 - x ≡ g.from - x + (r.count + (last + 1 - r.next)) = omega (arith, g.low, g.count, g.within, g.more) in
          let q : x + (g.from - x) ≡ g.from = omega (arith, g.low) in
          ap (up_from x) p ∙ up_split x (g.from - x) (r.count + (last + 1 - r.next))
          ∙ ap (λ (b : ℕ). up_from x (g.from - x) ++ up_from b (r.count + (last + 1 - r.next))) q
          ∙ ap (λ (y : List ℕ). up_from x (g.from - x) ++ y) (up_split g.from r.count (last + 1 - r.next) ∙ ap (λ (b : ℕ). up_from g.from r.count ++ up_from b (last + 1 - r.next)) g.count)

      gap : (y : ℕ) → x ≤ y → y < x + (g.from - x) → in_runs m y ≡ None
      gap y h i = has_not a.map e y c.within (λ j v. omega (arith, c.below (omega (arith, g.more, g.within, g.low)) j v)) (λ v. omega (arith, g.tight (omega arith)))

      stretch : (y : ℕ) → g.from ≤ y → y < g.from + r.count → in_runs m y ≡ Some (new_of 6 m e + (g.from - start m e) + (y - g.from))
      stretch y h i =
          let p : new_of 6 m e + (y - start m e) ≡ new_of 6 m e + (g.from - start m e) + (y - g.from) = omega (arith, g.starts) in
          has a.map e y l (omega (arith, g.starts)) (omega (arith, g.count, g.ends)) ∙ ap Some p

      meets : (cov : List ℕ) → met (in_runs m) (index + (x - first)) (up_from x (last + 1 - x) ++ cov)
          ≡ steps (index + (x - first) + (g.from - x)) (new_of 6 m e + (g.from - start m e)) r.count ++ met (in_runs m) (index + (r.next - first)) (up_from r.next (last + 1 - r.next) ++ cov)
      meets cov =
          let j = index + (x - first) in
          let b = up_from r.next (last + 1 - r.next) in
          let q : j + (g.from - x) + r.count ≡ index + (r.next - first) = omega (arith, g.low, g.count, c.low) in
          ap (λ (y : List ℕ). met (in_runs m) j (y ++ cov)) parts
          ∙ ap (met (in_runs m) j) (append_assoc (up_from x (g.from - x)) (up_from g.from r.count ++ b) cov)
          ∙ row_none (in_runs m) j x (g.from - x) ((up_from g.from r.count ++ b) ++ cov) gap
          ∙ ap (met (in_runs m) (j + (g.from - x))) (append_assoc (up_from g.from r.count) b cov)
          ∙ row_steps (in_runs m) (j + (g.from - x)) g.from (new_of 6 m e + (g.from - start m e)) r.count (b ++ cov) stretch
          ∙ ap (λ (i : ℕ). steps (j + (g.from - x)) (new_of 6 m e + (g.from - start m e)) r.count ++ met (in_runs m) i (b ++ cov)) q

      pub spanning_turn : Spanning m first last index t₀ next to r.next (k + r.count) (e + 1)
      spanning_turn =
          let es = steps (index + (x - first) + (g.from - x)) (new_of 6 m e + (g.from - start m e)) r.count in
          record {
            within = omega arith;
            low = omega (arith, c.low, g.low, g.more);
            high = g.within;
            few = omega (arith, c.few, c.low, g.low, g.count);
            kept = kept_more c.kept (record { size = g.kept.size; same = λ i h. g.kept.same i (omega arith) });
            below = λ h i v. passed h i v (dec_lt i e);
            near = λ v s. let p = apart a.map e (e + 1) (omega arith) v in (omega (arith, p, g.ends, (run_is a.map (e + 1) v).some), omega (arith, p, g.ends));
            noted = λ cov. ap (λ (y : List (ℕ × ℕ)). y ++ met (in_runs m) (index + (r.next - first)) (up_from r.next (last + 1 - r.next) ++ cov)) (notes_more to k r.count es g.kept g.noted)
                ∙ append_assoc (notes t to k) es _
                ∙ ap (λ (y : List (ℕ × ℕ)). notes t to k ++ y) (sym (meets cov))
                ∙ c.noted cov;
          }
        where
          passed : r.next ≤ last → (i : ℕ) → i < e + 1 → Dec (i < e) → end m i ≤ r.next
          passed h i v (yes u) = omega (arith, c.below (omega (arith, g.low, g.more)) i u, g.low, g.more)
          passed h i v (no u) =
              let q : i ≡ e = omega arith in
              rw q (omega (arith, g.whole (omega arith)))

    -- no later run has glyphs of the range
    pub spanning_end : (e < length m / 6 → last < start m e) → InSpan m first last index t₀ to t k
    spanning_end h = record { kept = c.kept; few = omega (arith, c.few, c.high, c.low); noted = λ cov. ap (λ (y : List (ℕ × ℕ)). notes t to k ++ y) (rest cov) ∙ c.noted cov }
      where
        rest : (cov : List ℕ) → met (in_runs m) (index + (last + 1 - first)) cov ≡ met (in_runs m) (index + (x - first)) (up_from x (last + 1 - x) ++ cov)
        rest cov =
            let q : index + (x - first) + (last + 1 - x) ≡ index + (last + 1 - first) = omega (arith, c.low, c.high) in
            ap (λ (i : ℕ). met (in_runs m) i cov) (sym q)
            ∙ sym (row_none (in_runs m) (index + (x - first)) x (last + 1 - x) cov (λ y u v. has_not a.map e y c.within (λ j w. omega (arith, c.below (omega arith) j w)) (λ w. omega (arith, h w))))

-- What the loop over ranges keeps: k glyphs are noted; these notes, and what is met in the ranges that are left, are all. The runs before e end before the glyph `low`, from which on the ranges begin that are left.
pub record Ranging (s : List ℕ) (at n : ℕ) (m t₀ : List ℕ) (to : ℕ) (t : List ℕ) (e k i : ℕ) : Type 0 where
  pub within : i ≤ n
  pub reached : e ≤ length m / 6
  pub kept : Kept to t₀ t
  pub low : ℕ
  pub index : ℕ
  pub below : (j : ℕ) → j < e → end m j ≤ low
  pub ranges : ranges_ascend low (triples s (at + 6 * i) (n - i)) ≡ true
  pub indices : ranges_count index (triples s (at + 6 * i) (n - i)) ≡ true
  pub under : index ≤ low
  pub few : k ≤ index
  pub total : index + length (range_glyphs (triples s (at + 6 * i) (n - i))) ≡ length (range_glyphs (triples s at n))
  pub noted : notes t to k ++ met (in_runs m) index (range_glyphs (triples s (at + 6 * i) (n - i))) ≡ met (in_runs m) 0 (range_glyphs (triples s at n))

-- the first of ranges that ascend and have their indices
record First (low index first last x : ℕ) (rs : List (ℕ × ℕ × ℕ)) : Type 0 where
  start : low ≤ first
  order : first ≤ last
  number : x ≡ index
  ranges : ranges_ascend (last + 1) rs ≡ true
  indices : ranges_count (index + (last + 1 - first)) rs ≡ true

first_range : (low index first last x : ℕ) (rs : List (ℕ × ℕ × ℕ)) → ranges_ascend low ((first, last, x) ∷ rs) ≡ true → ranges_count index ((first, last, x) ∷ rs) ≡ true → First low index first last x rs
unfolding ranges_ascend ranges_count
first_range low index first last x rs h k =
    let p = both (leb low first) (leb first last && ranges_ascend (last + 1) rs) h in
    let q = both (leb first last) (ranges_ascend (last + 1) rs) p.1 in
    let r = both (eqb x index) (ranges_count (index + (last + 1 - first)) rs) k in
    record { start = leb-true low first p.0; order = leb-true first last q.0; number = eqb-true x index r.0; ranges = q.1; indices = r.1 }

row_length : (a n : ℕ) → length (up_from a n) ≡ n
unfolding up_from
row_length a zero = refl
row_length a (suc n) = omega (arith, row_length (a + 1) n)

-- the ranges after the i-th
abbrev later : List ℕ → ℕ → ℕ → ℕ → List (ℕ × ℕ × ℕ)
later s at n i = triples s (at + 6 * (i + 1)) (n - (i + 1))

module _ {s : List ℕ} {at n : ℕ} {m t₀ : List ℕ} {to : ℕ} (a : MeetsRanges s at n m t₀ to) where
  pub ranging_all : Ranging s at n m t₀ to t₀ 0 0 0
  unfolding part
  ranging_all = record {
    within = omega arith;
    reached = omega arith;
    kept = kept_all to t₀;
    low = 0;
    index = 0;
    below = λ j l. absurd (omega arith);
    ranges = rw (triples_all s at n) a.ranges;
    indices = rw (triples_all s at n) a.indices;
    under = omega arith;
    few = omega arith;
    total = rw (triples_all s at n) (zero-add _);
    noted = rw (triples_all s at n) refl;
  }

  module _ {t : List ℕ} {e k i first last x : ℕ} (c : Ranging s at n m t₀ to t e k i) (h : i < n) (ef : first ≡ word s (at + 6 * i)) (el : (last ≡ word s (at + 6 * i + 2)) × (last < 65536)) (ex : x ≡ word s (at + 6 * i + 4)) where
    left_is : triples s (at + 6 * i) (n - i) ≡ (first, last, x) ∷ later s at n i
    left_is = rw (ef, el.0, ex) (triples_left s at n i h)

    this : First c.low c.index first last x (later s at n i)
    this = first_range c.low c.index first last x (later s at n i) (rw left_is at c.ranges) (rw left_is at c.indices)

    glyphs_are : range_glyphs (triples s (at + 6 * i) (n - i)) ≡ up_from first (last + 1 - first) ++ range_glyphs (later s at n i)
    unfolding range_glyphs span
    glyphs_are = rw left_is

    long : length (range_glyphs (triples s (at + 6 * i) (n - i))) ≡ last + 1 - first + length (range_glyphs (later s at n i))
    long = omega (arith, ap length glyphs_are, length-append (up_from first (last + 1 - first)) (range_glyphs (later s at n i)), row_length first (last + 1 - first))

    -- what the search for the first run asks
    pub ranging_past : Past 6 m first e
    ranging_past k q = omega (arith, c.below k (omega arith), this.start)

    module _ {f : ℕ} (r : Reached 6 m first f) where
      ends_below : (j : ℕ) → j < f → end m j ≤ first
      ends_below j l = step (dec_lt (j + 1) f)
        where
          step : Dec (j + 1 < f) → end m j ≤ first
          step (yes g) = omega (arith, apart a.map j (f - 1) (omega arith) (omega (arith, r.within)), r.passed (f - 1) (omega arith))
          step (no g) = r.passed j (omega arith)

      -- what the walk over the runs of this range asks
      pub ranging_asks : MeetsSpan m f first last x t (to + k)
      ranging_asks = record {
        map = a.map;
        reached = r.within;
        below = ends_below;
        above = r.ends;
        order = this.order;
        small = omega (arith, this.number, this.order, this.start, c.under, el.1);
        room = omega (arith, a.room, c.kept.size, c.few, c.total, long);
      }

      module _ {next : List ℕ} {d : ℕ} (g : InSpan m first last x t (to + k) next d) where
        pub ranging_turn : Ranging s at n m t₀ to next f (k + d) (i + 1)
        ranging_turn =
            let index = c.index + (last + 1 - first) in
            let rs = range_glyphs (later s at n i) in
            let es = notes next (to + k) d in
            record {
              within = omega arith;
              reached = r.within;
              kept = kept_more c.kept (record { size = g.kept.size; same = λ j l. g.kept.same j (omega arith) });
              low = last + 1;
              index = index;
              below = λ j l. omega (arith, ends_below j l, this.order);
              ranges = this.ranges;
              indices = this.indices;
              under = omega (arith, this.order, this.start, c.under);
              few = omega (arith, c.few, g.few);
              total = omega (arith, c.total, long);
              noted = ap (λ (y : List (ℕ × ℕ)). y ++ met (in_runs m) index rs) (notes_more to k d es g.kept refl)
                  ∙ append_assoc (notes t to k) es (met (in_runs m) index rs)
                  ∙ ap (λ (y : List (ℕ × ℕ)). notes t to k ++ y) (ap (λ (y : ℕ). es ++ met (in_runs m) (y + (last + 1 - first)) rs) (sym this.number) ∙ g.noted rs ∙ ap (λ (y : ℕ). met (in_runs m) y (up_from first (last + 1 - first) ++ rs)) this.number ∙ ap (met (in_runs m) c.index) (sym glyphs_are))
                  ∙ c.noted;
            }

  pub ranging_end : {t : List ℕ} {e k i : ℕ} → Ranging s at n m t₀ to t e k i → n ≤ i → Met (in_runs m) (range_glyphs (triples s at n)) t₀ to t k
  unfolding range_glyphs met
  ranging_end {t} {e} {k} {i} c h = record {
    kept = c.kept;
    fits = omega (arith, a.room, c.few, c.total);
    noted = sym (append-nil (notes t to k)) ∙ rw (triples_none s (at + 6 * i) n i h) at c.noted;
  }
