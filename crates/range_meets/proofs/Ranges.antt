-- Where ranges of glyphs meet the entries of a map: what the loops keep, and each way through their turns.
use Prim.Native.Nat.{ℕ, zero, suc, ◌+◌, ◌-◌, ◌*◌, ◌/◌, ◌%◌, ◌≤◌, ◌<◌}
use mathlib.Core.Path.{◌≡◌, refl, sym, ap, ◌∙◌}
use mathlib.Core.Bool.{Bool, true, false, cond, ◌&&◌}
use mathlib.Core.List.{List, [], ◌∷◌, ◌++◌, map, append-nil, append_assoc, map-append}
use native.Mathlib.Nat.{add-zero, zero-add}
use native.Mathlib.Omega.{arith}
use lib.ListN.{length, set}
use lib.Dec.{leb, ltb, eqb}
use borrow.Author.Tests.{eq-eqb, eqb-true, leb-true, ltb-true, ltb-false, lt-ltb, le-ltb}
use Rattle.meaning.specs.Words.{word, triples, keys, find, bind, push, up_from, ascends}
use Rattle.meaning.specs.Maps.{map_entries}
use Rattle.meaning.specs.Parts.{span, range_glyphs, ranges_ascend, ranges_count}
use Rattle.laws.specs.Stands.{All, all_append}
use Rattle.laws.specs.Runs.{Up, both}
use Rattle.laws.specs.Left.{triples_left, triples_all, triples_none}
use Rattle.cell_maps.specs.Cells.{Kept, kept_all, kept_more, kept_set}
use Rattle.area.specs.Part.{part, part_append, notes}
use Rattle.range_meets.specs.Met.{met, Met, entry_below, met_none}
use Rattle.range_meets.specs.Walks.{rest, Reached, up_to, past, MeetsRange, InRange, MeetsRanges}
use Rattle.range_meets.proofs.Entries.{find_below, rest_cons, rest_end, rest_all, rest_up, skip_entries, map_rises}
use Rattle.range_meets.proofs.Lists.{note_of, notes_store, notes_kept}

-- glyphs below the entries are not met
met_skip : (es : List (ℕ × ℕ)) (j b n : ℕ) (cov : List ℕ) → Up (b + n) (keys es) → met (find es) j (up_from b n ++ cov) ≡ met (find es) (j + n) cov
unfolding met up_from push bind
met_skip es j b zero cov u = rw add-zero
met_skip es j b (suc n) cov u =
    let e : b + suc n ≡ b + 1 + n = omega arith in
    let f : j + suc n ≡ j + 1 + n = omega arith in
    rw (find_below b (b + suc n) es (omega arith) u, f) (met_skip es (j + 1) (b + 1) n cov (rw e at u))

-- numbers in a row, in two parts; none is below the first
up_split : (b m n : ℕ) → up_from b (m + n) ≡ up_from b m ++ up_from (b + m) n
unfolding up_from
up_split b zero n = rw (zero-add, add-zero)
up_split b (suc m) n =
    let e : suc m + n ≡ suc (m + n) = omega arith in
    let f : b + suc m ≡ b + 1 + m = omega arith in
    rw (e, f) (ap (λ (l : List ℕ). b ∷ l) (up_split (b + 1) m n))

up_least : (low a n : ℕ) → low ≤ a → All (λ c. low ≤ c) (up_from a n)
unfolding up_from
up_least low a zero h = tt
up_least low a (suc n) h = (h, up_least low (a + 1) n (omega arith))

least_lower : (low high : ℕ) (l : List ℕ) → low ≤ high → All (λ c. high ≤ c) l → All (λ c. low ≤ c) l
least_lower low high [] h a = tt
least_lower low high (c ∷ l) h a = (omega (arith, a.0), least_lower low high l h a.1)

least_above : (o : ℕ) (l : List ℕ) → All (λ c. o + 1 ≤ c) l → All (λ c. o < c) l
least_above o [] a = tt
least_above o (c ∷ l) a = (omega (arith, a.0), least_above o l a.1)

-- ranges that ascend have no glyph below the lowest
pub ranges_least : (low : ℕ) (rs : List (ℕ × ℕ × ℕ)) → ranges_ascend low rs ≡ true → All (λ c. low ≤ c) (range_glyphs rs)
unfolding ranges_ascend range_glyphs span
ranges_least low [] h = tt
ranges_least low ((a, z, x) ∷ r) h =
    let p = both (leb low a) (leb a z && ranges_ascend (z + 1) r) h in
    let q = both (leb a z) (ranges_ascend (z + 1) r) p.1 in
    let l : low ≤ a = leb-true low a p.0 in
    let k : a ≤ z = leb-true a z q.0 in
    all_append (λ c. low ≤ c) (up_from a (z + 1 - a)) (range_glyphs r) (up_least low a (z + 1 - a) l) (least_lower low (z + 1) (range_glyphs r) (omega arith) (ranges_least (z + 1) r q.1))

-- the glyph of the first entry is met
met_first : (o v : ℕ) (es : List (ℕ × ℕ)) (y : ℕ) (r : List ℕ) → met (find ((o, v) ∷ es)) y (o ∷ r) ≡ (y, v) ∷ met (find ((o, v) ∷ es)) (y + 1) r
unfolding met find push bind
met_first o v es y r = rw (eq-eqb o o refl)

-- numbers in a row round one of them
up_around : (b o z : ℕ) → b ≤ o → o ≤ z → up_from b (z + 1 - b) ≡ up_from b (o - b) ++ (o ∷ up_from (o + 1) (z + 1 - (o + 1)))
unfolding up_from
up_around b o z h k =
    let e : z + 1 - b ≡ (o - b) + suc (z + 1 - (o + 1)) = omega arith in
    let f : b + (o - b) ≡ o = omega arith in
    ap (up_from b) e ∙ up_split b (o - b) (suc (z + 1 - (o + 1))) ∙ ap (λ (k : ℕ). up_from b (o - b) ++ (k ∷ up_from (k + 1) (z + 1 - (o + 1)))) f

-- glyphs up to that of the first entry, and others above it
met_one : (o v : ℕ) (es : List (ℕ × ℕ)) (j b : ℕ) (r : List ℕ) → b ≤ o → Up (o + 1) (keys es) → All (λ c. o < c) r
    → met (find ((o, v) ∷ es)) j (up_from b (o - b) ++ (o ∷ r)) ≡ (j + (o - b), v) ∷ met (find es) (j + (o - b) + 1) r
unfolding keys
met_one o v es j b r h u a =
    met_skip ((o, v) ∷ es) j b (o - b) (o ∷ r) (omega arith, u) ∙ met_first o v es (j + (o - b)) r ∙ ap (λ (k : List (ℕ × ℕ)). (j + (o - b), v) ∷ k) (entry_below o v es (j + (o - b) + 1) r a)

-- the glyphs of a range after one of them, and others after the range, are above it
above_one : (o z : ℕ) (cov : List ℕ) → o ≤ z → All (λ c. z + 1 ≤ c) cov → All (λ c. o < c) (up_from (o + 1) (z + 1 - (o + 1)) ++ cov)
above_one o z cov k h =
    least_above o (up_from (o + 1) (z + 1 - (o + 1)) ++ cov)
    (all_append (λ c. o + 1 ≤ c) (up_from (o + 1) (z + 1 - (o + 1))) cov (up_least (o + 1) (o + 1) (z + 1 - (o + 1)) (omega arith)) (least_lower (o + 1) (z + 1) cov (omega arith) h))

-- an entry in a range, which is left from b on
met_within : (o v : ℕ) (es : List (ℕ × ℕ)) (a z x b : ℕ) (cov : List ℕ) → a ≤ b → b ≤ o → o ≤ z → Up (o + 1) (keys es) → All (λ c. z + 1 ≤ c) cov
    → met (find ((o, v) ∷ es)) (x + (b - a)) (up_from b (z + 1 - b) ++ cov) ≡ (x + (o - a), v) ∷ met (find es) (x + (o + 1 - a)) (up_from (o + 1) (z + 1 - (o + 1)) ++ cov)
met_within o v es a z x b cov l d g u h =
    let i : x + (b - a) + (o - b) ≡ x + (o - a) = omega arith in
    let j : x + (o - a) + 1 ≡ x + (o + 1 - a) = omega arith in
    rw (up_around b o z d g, append_assoc (up_from b (o - b)) (o ∷ up_from (o + 1) (z + 1 - (o + 1))) cov)
    (rw (i, j) at (met_one o v es (x + (b - a)) b (up_from (o + 1) (z + 1 - (o + 1)) ++ cov) d u (above_one o z cov g h)))

-- What a range meets, where its glyphs from b on are left: the entries up to its last glyph.
met_range : (es : List (ℕ × ℕ)) (a z x b : ℕ) (cov : List ℕ) → a ≤ b → b ≤ z + 1 → Up b (keys es) → All (λ c. z + 1 ≤ c) cov
    → met (find es) (x + (b - a)) (up_from b (z + 1 - b) ++ cov) ≡ up_to a z x es ++ met (find (past z es)) (x + (z + 1 - a)) cov
unfolding up_to past keys
met_range [] a z x b cov l k u h = met_none (x + (b - a)) (up_from b (z + 1 - b) ++ cov) ∙ sym (met_none (x + (z + 1 - a)) cov)
met_range ((o, v) ∷ es) a z x b cov l k u h = step (ltb z o) refl (λ i j. met_range es a z x (o + 1) cov i j u.1 h)
  where
    step : (t : Bool) → ltb z o ≡ t
        → (a ≤ o + 1 → o + 1 ≤ z + 1 → met (find es) (x + (o + 1 - a)) (up_from (o + 1) (z + 1 - (o + 1)) ++ cov) ≡ up_to a z x es ++ met (find (past z es)) (x + (z + 1 - a)) cov)
        → met (find ((o, v) ∷ es)) (x + (b - a)) (up_from b (z + 1 - b) ++ cov)
        ≡ cond t [] ((x + (o - a), v) ∷ up_to a z x es) ++ met (find (cond t ((o, v) ∷ es) (past z es))) (x + (z + 1 - a)) cov
    step true q r =
        let g : z < o = ltb-true z o q in
        let e : x + (b - a) + (z + 1 - b) ≡ x + (z + 1 - a) = omega arith in
        met_skip ((o, v) ∷ es) (x + (b - a)) b (z + 1 - b) cov (omega arith, u.1) ∙ ap (λ (j : ℕ). met (find ((o, v) ∷ es)) j cov) e
    step false q r =
        let g : o ≤ z = ltb-false z o q in
        met_within o v es a z x b cov l u.0 g u.1 h ∙ ap (λ (y : List (ℕ × ℕ)). (x + (o - a), v) ∷ y) (r (omega (arith, u.0)) (omega arith))

-- What the loop over the entries in a range keeps: k of them are noted so far; they and those that are left are all.
pub record Noting (m : List ℕ) (from first last index : ℕ) (t₀ : List ℕ) (to : ℕ) (t : List ℕ) (k : ℕ) : Type 0 where
  pub within : from + k ≤ length m / 4
  pub kept : Kept to t₀ t
  pub noted : notes t to k ++ up_to first last index (rest m (from + k)) ≡ up_to first last index (rest m from)
  pub after : past last (rest m (from + k)) ≡ past last (rest m from)

module _ {m : List ℕ} {from first last index : ℕ} {t₀ : List ℕ} {to : ℕ} (a : MeetsRange m from first index t₀ to) where
  pub noting_all : Noting m from first last index t₀ to t₀ 0
  unfolding part
  noting_all =
      let e : from + 0 ≡ from = omega arith in
      record { within = omega (arith, a.start); kept = kept_all to t₀; noted = rw e; after = rw e }

  module _ {t : List ℕ} {k old : ℕ} (c : Noting m from first last index t₀ to t k) (h : from + k < length m / 4) (w : old ≡ word m (4 * (from + k))) where
    -- an entry is not below the range
    pub noting_low : first ≤ old
    noting_low = step k h w
      where
        step : (k : ℕ) → from + k < length m / 4 → old ≡ word m (4 * (from + k)) → first ≤ old
        step zero h w =
            let e : from + 0 ≡ from = omega arith in
            omega (arith, a.low (omega arith), rw e at w)
        step (suc k) h w = omega (arith, a.low (omega arith), map_rises m a.ascend from (from + suc k) (omega arith) h)

    pub noting_one : {new : ℕ} → old ≤ last → new ≡ word m (4 * (from + k) + 2) → new < 65536
        → Noting m from first last index t₀ to (set t (to + k) ((index + (old - first)) * 65536 + new)) (k + 1)
    unfolding up_to past
    noting_one {new} l x y =
        let v = (index + (old - first)) * 65536 + new in
        let d : rest m (from + k) ≡ (old, new) ∷ rest m (from + k + 1) = rw (w, x) (rest_cons m (from + k) h) in
        let e : from + (k + 1) ≡ from + k + 1 = omega arith in
        let u : up_to first last index (rest m (from + k)) ≡ (index + (old - first), new) ∷ up_to first last index (rest m (from + (k + 1))) = rw (d, e, le-ltb last old l) in
        let z : past last (rest m (from + k)) ≡ past last (rest m (from + (k + 1))) = rw (d, e, le-ltb last old l) in
        let q : v / 65536 ≡ index + (old - first) = omega arith in
        let r : v % 65536 ≡ new = omega arith in
        let p : notes (set t (to + k) v) to (k + 1) ≡ notes t to k ++ ((index + (old - first), new) ∷ []) =
        notes_store t to k v (omega (arith, a.room, c.kept.size)) ∙ ap (λ (x : ℕ × ℕ). notes t to k ++ (x ∷ [])) (λ j. (q j, r j))
        in
        record {
          within = omega arith;
          kept = kept_more c.kept (kept_set to t (to + k) v (omega arith));
          noted = ap (λ (l : List (ℕ × ℕ)). l ++ up_to first last index (rest m (from + (k + 1)))) p
              ∙ append_assoc (notes t to k) ((index + (old - first), new) ∷ []) (up_to first last index (rest m (from + (k + 1))))
              ∙ rw u at c.noted;
          after = rw z at c.after;
        }

    -- the first entry past the range
    pub noting_past : last < old → InRange m from first last index t₀ to t k
    unfolding up_to past
    noting_past l =
        let d : rest m (from + k) ≡ (old, word m (4 * (from + k) + 2)) ∷ rest m (from + k + 1) = rw w (rest_cons m (from + k) h) in
        let u : up_to first last index (rest m (from + k)) ≡ [] = rw (d, lt-ltb last old l) in
        let z : past last (rest m (from + k)) ≡ rest m (from + k) = rw (d, lt-ltb last old l) in
        record { kept = c.kept; within = c.within; noted = sym (append-nil (notes t to k)) ∙ rw u at c.noted; after = sym z ∙ c.after }

  pub noting_end : {t : List ℕ} {k : ℕ} → Noting m from first last index t₀ to t k → length m / 4 ≤ from + k → InRange m from first last index t₀ to t k
  unfolding up_to past
  noting_end {t} {k} c h =
      let d = rest_end m (from + k) h in
      record { kept = c.kept; within = c.within; noted = sym (append-nil (notes t to k)) ∙ rw d at c.noted; after = rw d (rw d at c.after) }

-- What the loop over ranges keeps: e entries are passed and k noted; these notes, and what the ranges that are left meet among the entries that are left, are all. The ranges that are left begin with the glyph `low` or later, and the first of their glyphs has the index `index`.
pub record Ranging (s : List ℕ) (at n : ℕ) (m t₀ : List ℕ) (to : ℕ) (t : List ℕ) (e k i : ℕ) : Type 0 where
  pub within : i ≤ n
  pub passed : e ≤ length m / 4
  pub few : k ≤ e
  pub kept : Kept to t₀ t
  pub low : ℕ
  pub index : ℕ
  pub ranges : ranges_ascend low (triples s (at + 6 * i) (n - i)) ≡ true
  pub indices : ranges_count index (triples s (at + 6 * i) (n - i)) ≡ true
  pub under : index ≤ low
  pub noted : notes t to k ++ met (find (rest m e)) index (range_glyphs (triples s (at + 6 * i) (n - i))) ≡ met (find (map_entries m)) 0 (range_glyphs (triples s at n))

-- the first of ranges that ascend and have their indices
record First (low index first last x : ℕ) (rs : List (ℕ × ℕ × ℕ)) : Type 0 where
  start : low ≤ first
  order : first ≤ last
  number : x ≡ index
  ranges : ranges_ascend (last + 1) rs ≡ true
  indices : ranges_count (index + (last + 1 - first)) rs ≡ true

first_range : (low index first last x : ℕ) (rs : List (ℕ × ℕ × ℕ)) → ranges_ascend low ((first, last, x) ∷ rs) ≡ true → ranges_count index ((first, last, x) ∷ rs) ≡ true → First low index first last x rs
unfolding ranges_ascend ranges_count
first_range low index first last x rs h k =
    let p = both (leb low first) (leb first last && ranges_ascend (last + 1) rs) h in
    let q = both (leb first last) (ranges_ascend (last + 1) rs) p.1 in
    let r = both (eqb x index) (ranges_count (index + (last + 1 - first)) rs) k in
    record { start = leb-true low first p.0; order = leb-true first last q.0; number = eqb-true x index r.0; ranges = q.1; indices = r.1 }

-- one range, and then others, among the entries that are left
one_range : (m : List ℕ) (e f d first last index : ℕ) (rs : List (ℕ × ℕ × ℕ)) → ascends (keys (map_entries m)) ≡ true → Reached m e first f → first ≤ last → ranges_ascend (last + 1) rs ≡ true → rest m (f + d) ≡ past last (rest m f)
    → met (find (rest m e)) index (span first last ++ range_glyphs rs) ≡ up_to first last index (rest m f) ++ met (find (rest m (f + d))) (index + (last + 1 - first)) (range_glyphs rs)
unfolding span
one_range m e f d first last index rs good r o u g =
    let cov = up_from first (last + 1 - first) ++ range_glyphs rs in
    let z : index ≡ index + (first - first) = omega arith in
    let above : All (λ c. last + 1 ≤ c) (range_glyphs rs) = ranges_least (last + 1) rs u in
    skip_entries m first (f - e) e f index cov (omega (arith, r.least)) r.most r.below
    (all_append (λ c. first ≤ c) (up_from first (last + 1 - first)) (range_glyphs rs) (up_least first first (last + 1 - first) (omega arith)) (least_lower first (last + 1) (range_glyphs rs) (omega arith) above))
    ∙ ap (λ (j : ℕ). met (find (rest m f)) j cov) z
    ∙ met_range (rest m f) first last index first (range_glyphs rs) (omega arith) (omega arith) (rest_up m good f first r.most r.above) above
    ∙ ap (λ (y : List (ℕ × ℕ)). up_to first last index (rest m f) ++ met (find y) (index + (last + 1 - first)) (range_glyphs rs)) (sym g)

-- the ranges after the i-th
abbrev later : List ℕ → ℕ → ℕ → ℕ → List (ℕ × ℕ × ℕ)
later s at n i = triples s (at + 6 * (i + 1)) (n - (i + 1))

module _ {s : List ℕ} {at n : ℕ} {m t₀ : List ℕ} {to : ℕ} (a : MeetsRanges s at n m t₀ to) where
  pub ranging_all : Ranging s at n m t₀ to t₀ 0 0 0
  unfolding part
  ranging_all = record {
    within = omega arith;
    passed = omega arith;
    few = omega arith;
    kept = kept_all to t₀;
    low = 0;
    index = 0;
    ranges = rw (triples_all s at n) a.ranges;
    indices = rw (triples_all s at n) a.indices;
    under = omega arith;
    noted = rw (triples_all s at n, rest_all m);
  }

  module _ {t : List ℕ} {e k i first last x : ℕ} (c : Ranging s at n m t₀ to t e k i) (h : i < n) (ef : first ≡ word s (at + 6 * i)) (el : last ≡ word s (at + 6 * i + 2)) (ex : x ≡ word s (at + 6 * i + 4)) where
    left_is : triples s (at + 6 * i) (n - i) ≡ (first, last, x) ∷ later s at n i
    left_is = rw (ef, el, ex) (triples_left s at n i h)

    this : First c.low c.index first last x (later s at n i)
    this = first_range c.low c.index first last x (later s at n i) (rw left_is at c.ranges) (rw left_is at c.indices)

    module _ {f : ℕ} (r : Reached m e first f) where
      -- what the walk over its entries asks
      pub ranging_asks : MeetsRange m f first x t (to + k)
      ranging_asks = record {
        start = r.most;
        ascend = a.ascend;
        low = r.above;
        small = omega (arith, this.number, this.start, c.under);
        room = omega (arith, a.room, c.kept.size, c.few, r.least, r.most);
      }

      module _ {next : List ℕ} {d : ℕ} (g : InRange m f first last x t (to + k) next d) where
        whole : met (find (rest m e)) c.index (range_glyphs (triples s (at + 6 * i) (n - i))) ≡ up_to first last c.index (rest m f) ++ met (find (rest m (f + d))) (c.index + (last + 1 - first)) (range_glyphs (later s at n i))
        unfolding range_glyphs
        whole = rw left_is (one_range m e f d first last c.index (later s at n i) a.ascend r this.order this.ranges g.after)

        apart : notes next to (k + d) ≡ notes t to k ++ up_to first last c.index (rest m f)
        apart =
            ap (map note_of) (part_append next to k d)
            ∙ map-append note_of (part next to k) (part next (to + k) d)
            ∙ ap (λ (l : List (ℕ × ℕ)). l ++ notes next (to + k) d) (notes_kept to k g.kept)
            ∙ ap (λ (l : List (ℕ × ℕ)). notes t to k ++ l) g.noted
            ∙ ap (λ (y : ℕ). notes t to k ++ up_to first last y (rest m f)) this.number

        pub ranging_turn : Ranging s at n m t₀ to next (f + d) (k + d) (i + 1)
        ranging_turn =
            let left = met (find (rest m (f + d))) (c.index + (last + 1 - first)) (range_glyphs (later s at n i)) in
            record {
              within = omega arith;
              passed = g.within;
              few = omega (arith, c.few, r.least);
              kept = kept_more c.kept (record { size = g.kept.size; same = λ j l. g.kept.same j (omega arith) });
              low = last + 1;
              index = c.index + (last + 1 - first);
              ranges = this.ranges;
              indices = this.indices;
              under = omega (arith, this.order, this.start, c.under);
              noted = ap (λ (l : List (ℕ × ℕ)). l ++ left) apart
                  ∙ append_assoc (notes t to k) (up_to first last c.index (rest m f)) left
                  ∙ ap (λ (l : List (ℕ × ℕ)). notes t to k ++ l) (sym whole)
                  ∙ c.noted;
            }

  -- no entry is left, or no range
  module _ {t : List ℕ} {e k i : ℕ} (c : Ranging s at n m t₀ to t e k i) where
    ranging_done : met (find (rest m e)) c.index (range_glyphs (triples s (at + 6 * i) (n - i))) ≡ [] → Met (find (map_entries m)) (range_glyphs (triples s at n)) t₀ to t k
    ranging_done z = record { kept = c.kept; fits = omega (arith, a.room, c.few, c.passed); noted = sym (append-nil (notes t to k)) ∙ rw z at c.noted }

    pub ranging_out : length m / 4 ≤ e → Met (find (map_entries m)) (range_glyphs (triples s at n)) t₀ to t k
    ranging_out h = ranging_done (rw (rest_end m e h) (met_none c.index (range_glyphs (triples s (at + 6 * i) (n - i)))))

    pub ranging_end : n ≤ i → Met (find (map_entries m)) (range_glyphs (triples s at n)) t₀ to t k
    unfolding range_glyphs met
    ranging_end h = ranging_done (rw (triples_none s (at + 6 * i) n i h))
