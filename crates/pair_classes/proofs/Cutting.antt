-- What a sound source says, and what the cells hold of it, step by step.
use Prim.Native.Nat.{ℕ, suc, ◌+◌, ◌*◌, ◌/◌, ◌%◌, ◌≤◌, ◌<◌}
use native.Mathlib.Nat.{zero-add, mul_assoc, mul_comm}
use mathlib.Core.Path.{◌≡◌, refl, sym, ap, ◌∙◌, subst}
use mathlib.Core.Bool.{Bool, true, false, cond, ◌&&◌, ◌||◌, true≢false}
use Rattle.std.specs.Prelude.{Option, None, Some, Result}
use mathlib.Core.List.{List, [], ◌∷◌, append-nil, map}
use native.Mathlib.Decide.{dec_lt}
use native.Mathlib.Omega.{arith}
use lib.ListN.{length, take, length-map}
use lib.Dec.{leb, eqb}
use lib.Seq.{length-take-le}
use borrow.Author.Tests.{leb-true, eq-eqb, ne_eqb, eqb-false}
use Rattle.meaning.specs.Words.{word, inside, entries, keys, values, find, twos, bytes2, flat}
use Rattle.meaning.specs.Maps.{map_entries, good_glyphs, good_form, glyph_entries, good_glyph_map}
use Rattle.meaning.specs.Parts.{coverage, coverage_sound, classes, classes_sound}
use Rattle.meaning.specs.Tables.{Pair, Table, field_count, reach, cell_rows, pair_table}
use Rattle.meaning.specs.Fault.{part_fault, lowest, fault_through, coverage_fault, classes_fault, good_formats, classes_below, pair_fault, fault}
use Rattle.meaning.specs.Cut.{class_map, second_map, classes_under, new_coverage, cut}
use Rattle.meaning.specs.Subset.{Outcome, refused, limit, good_kind, written_in}
use Rattle.laws.specs.Stands.{Stands, flat_length, twos_length, entries_back}
use Rattle.laws.specs.Runs.{both, up_ascends}
use Rattle.laws.specs.Written.{Wrote, wrote_length}
use Rattle.laws.specs.SetsBack.{twos_small}
use Rattle.laws.specs.ReadsBack.{Good, fault_pairs, table_pairs}
use Rattle.laws.specs.SoundGood.{Bytes, part_sound, lowest_none, coverage_up, sound_good}
use Rattle.laws.specs.CutGood.{GoodMap}
use Rattle.laws.specs.CutCells.{covered_map_lem, covered_values}
use Rattle.cell_maps.specs.Cells.{Holds, Kept}
use Rattle.cell_maps.specs.Runs.{LaidGlyphs}
use Rattle.cell_maps.specs.declared.Map.{Map}
use Rattle.area.specs.Part.{part, part_length, news, notes}
use Rattle.area.specs.Extends.{wrote_extends}
use Rattle.numbers.specs.Alike.{holds_alike}
use Rattle.range_meets.specs.Met.{met, Met, met_few, met_count, met_news}
use Rattle.meets.specs.Either.{Most, MeetsGlyphs}
use Rattle.glyph_runs.specs.Runs.{GlyphMap, map_good}
use Rattle.glyph_runs.specs.Found.{entries_few}
use Rattle.class_stretches.specs.Tables.{classes_at, lists_there}
use Rattle.class_ranks.specs.Same.{Same, kept_same, part_alike, holds_same}
use Rattle.class_formats.specs.Kept.{cell_size, has_cells, kept_alike}
use Rattle.covered_map.specs.Named.{named, Names, named_met, noted_indexes, named_length}
use Rattle.tried.specs.Tries.{Tries, tries_less}
use Rattle.tried.specs.declared.NotCut.{NotCut}
use Rattle.pair_layouts.specs.Kerning.{left_into}
use Rattle.pair_classes.specs.Sides.{table_cells, Asks, Side, Sided}
use Rattle.pair_layouts.specs.Laying.{Front, Ready}
use Rattle.pair_classes.specs.Cutting.{enough_cells, Sound, has_null, kern_table, Kerning, Begins, Noting, covered_of, FirstIn}
use Rattle.pair_layouts.specs.declared.Noted.{Noted}
use Rattle.pair_layouts.specs.declared.Classed.{Classed}
use Rattle.pair_classes.proofs.Kept.{none_kept, kern_cut, kern_up}

-- What the check says.
module _ (s : List ℕ) (format : word s 0 ≡ 1 → ⊥) where
  abbrev good_head : Bool
  good_head = inside s 0 16 && (inside s 16 ((2 * field_count (word s 4) + 2 * field_count (word s 6)) * (word s 12 * word s 14)) && (good_formats s && classes_below s))

  fault_is : pair_fault s ≡ part_fault 0 good_head (lowest (fault_through (coverage_fault s) s 0 2 1) (fault_through (classes_fault s) s 0 8 2))
  unfolding pair_fault
  fault_is = rw (ne_eqb (word s 0) 1 format)

  table_is : pair_table s ≡ Table.class_pairs (reach (coverage s) s 0 2) (reach (classes s) s 0 8) (reach (classes s) s 0 10) (word s 4) (word s 6) (word s 14) (cell_rows s (field_count (word s 4)) (field_count (word s 6)) (word s 14) 16 (word s 12))
  unfolding pair_table
  table_is = rw (ne_eqb (word s 0) 1 format)

  -- a part that an offset reaches, and the others
  reached : (fault_at : ℕ → Option ℕ) (slot n : ℕ) → fault_through fault_at s 0 slot (suc n) ≡ None → (word s slot ≡ 0 → ⊥) → (fault_at (word s slot) ≡ None) × (fault_through fault_at s 0 (slot + 2) n ≡ None)
  unfolding fault_through
  reached fault_at slot n h z =
      let q = lowest_none (cond (eqb (word s slot) 0) None (fault_at (0 + word s slot))) (fault_through fault_at s 0 (slot + 2) n) h in
      (rw (ne_eqb (word s slot) 0 z, zero-add) at q.0, q.1)

  cover_sound : (at : ℕ) → coverage_fault s at ≡ None → coverage_sound s at ≡ true
  unfolding coverage_fault
  cover_sound at h = (part_sound at (coverage_sound s at) None h).0

  class_sound : (at : ℕ) → classes_fault s at ≡ None → classes_sound s at ≡ true
  unfolding classes_fault
  class_sound at h = (part_sound at (classes_sound s at) None h).0

  there : {A : Type 0} (read : ℕ → A) (slot : ℕ) → (word s slot ≡ 0 → ⊥) → reach read s 0 slot ≡ Some (read (word s slot))
  unfolding reach
  there read slot z = rw (ne_eqb (word s slot) 0 z, zero-add) refl

  module _ (sound : fault 4 s ≡ None) where
    parts : (good_head ≡ true) × (lowest (fault_through (coverage_fault s) s 0 2 1) (fault_through (classes_fault s) s 0 8 2) ≡ None)
    parts = part_sound 0 good_head _ (sym fault_is ∙ (part_sound 0 (inside s 0 2) (pair_fault s) (sym (fault_pairs s) ∙ sound)).1)

    head_inside : 16 ≤ length s
    unfolding inside
    head_inside = leb-true 16 (length s) (both (leb 16 (length s)) _ parts.0).0

    cells_inside : 16 + cell_size (word s 4) (word s 6) * word s 14 * word s 12 ≤ length s
    unfolding inside
    cells_inside =
        let c = cell_size (word s 4) (word s 6) in
        let h = leb-true (16 + c * (word s 12 * word s 14)) (length s) (both (leb (16 + c * (word s 12 * word s 14)) (length s)) _ (both (leb 16 (length s)) _ parts.0).1).0 in
        let e : c * (word s 12 * word s 14) ≡ c * word s 14 * word s 12 = ap (λ (n : ℕ). c * n) (mul_comm (word s 12) (word s 14)) ∙ sym (mul_assoc c (word s 14) (word s 12)) in
        rw e at h

    faults : (fault_through (coverage_fault s) s 0 2 1 ≡ None) × (fault_through (classes_fault s) s 0 8 2 ≡ None)
    faults = lowest_none (fault_through (coverage_fault s) s 0 2 1) (fault_through (classes_fault s) s 0 8 2) parts.1

    module _ (x : word s 2 ≡ 0 → ⊥) (y : word s 8 ≡ 0 → ⊥) (z : word s 10 ≡ 0 → ⊥) where
      kern_table_lem : pair_table s ≡ kern_table s
      kern_table_lem = table_is ∙ rw (there (coverage s) 2 x, there (classes s) 8 y, there (classes s) 10 z) refl

      kern_sound : Bytes s → Kerning s
      unfolding good_kind
      kern_sound bytes =
          let k = sound_good s bytes 4 refl sound in
          let f = reached (classes_fault s) 8 1 faults.1 y in
          record {
            header = head_inside;
            has = has_cells s (word s 4) (word s 6) head_inside cells_inside;
            cover = cover_sound (word s 2) (reached (coverage_fault s) 2 0 faults.0 x).0;
            first = class_sound (word s 8) f.0;
            first_there = y;
            second = class_sound (word s 10) (reached (classes_fault s) 10 0 f.1 z).0;
            second_there = z;
            table = kern_table_lem;
            good = subst Good (table_pairs s ∙ kern_table_lem) k.0;
          }

-- a null part leaves nothing
null_none : (g : List (ℕ × ℕ)) (cov : List ℕ) (cs ds : List (ℕ × ℕ)) (f1 f2 n : ℕ) (rows : List (List Pair)) (a b c : Bool) → a || (b || c) ≡ true
    → cut g [] (Table.class_pairs (cond a None (Some cov)) (cond b None (Some cs)) (cond c None (Some ds)) f1 f2 n rows) ≡ None
unfolding cut
null_none g cov cs ds f1 f2 n rows true b c h = refl
null_none g cov cs ds f1 f2 n rows false true c h = refl
null_none g cov cs ds f1 f2 n rows false false true h = refl
null_none g cov cs ds f1 f2 n rows false false false h = absurd (true≢false (sym h))

pub null_left : (s : List ℕ) → (word s 0 ≡ 1 → ⊥) → (g : List (ℕ × ℕ)) (packing : ℕ) (out : List ℕ) → has_null s ≡ true → refused out 8 ≡ written_in packing out (cut g [] (pair_table s))
unfolding reach written_in
null_left s f g packing out h =
    sym (ap (written_in packing out) (ap (cut g []) (table_is s f) ∙ null_none g _ _ _ (word s 4) (word s 6) (word s 14) (cell_rows s (field_count (word s 4)) (field_count (word s 6)) (word s 14) 16 (word s 12)) (eqb (word s 2) 0) (eqb (word s 8) 0) (eqb (word s 10) 0) h))

or_none : (a b c : Bool) → a || (b || c) ≡ false → (a ≡ false) × (b ≡ false) × (c ≡ false)
or_none true b c h = absurd (true≢false h)
or_none false true c h = absurd (true≢false h)
or_none false false true h = absurd (true≢false h)
or_none false false false h = (refl, refl, refl)

-- The three tests.
module _ (s : List ℕ) {x : ℕ} (e : x ≡ word s 2) where
  pub null_cover : x ≡ 0 → true ≡ has_null s
  null_cover z = rw (eq-eqb (word s 2) 0 (sym e ∙ z))

  module _ (n : x ≡ 0 → ⊥) {y : ℕ} (f : y ≡ word s 8) where
    pub null_first : y ≡ 0 → true ≡ has_null s
    null_first z = rw (ne_eqb (word s 2) 0 (λ w. n (e ∙ w)), eq-eqb (word s 8) 0 (sym f ∙ z))

    pub null_second : (y ≡ 0 → ⊥) → {z : ℕ} → z ≡ word s 10 → eqb z 0 ≡ has_null s
    null_second m g = rw (ne_eqb (word s 2) 0 (λ w. n (e ∙ w)), ne_eqb (word s 8) 0 (λ w. m (f ∙ w)), g)

-- The glyph map in cells.
values_length : (es : List (ℕ × ℕ)) → length (values es) ≡ length es
unfolding values
values_length [] = refl
values_length (e ∷ es) = ap suc (values_length es)

module _ {s : List ℕ} {form : ℕ} {glyphs : List ℕ} (o : Sound s form glyphs) where
  pub has_header : 16 ≤ length s
  has_header = head_inside s o.format o.sound

  pub begins : {t₀ t : List ℕ} {m : Map} → LaidGlyphs form glyphs t₀ t 0 m → (m.mask ≡ 0 → ⊥) → has_null s ≡ false → Bytes s → Bytes glyphs → Begins s form glyphs m t
  begins a z h bs bg =
      let q = or_none (eqb (word s 2) 0) (eqb (word s 8) 0) (eqb (word s 10) 0) h in
      record {
        kern = kern_sound s o.format o.sound (eqb-false (word s 2) 0 q.0) (eqb-false (word s 8) 0 q.1) (eqb-false (word s 10) 0 q.2) bs;
        map = record { form_good = o.form_good; good = o.glyphs_good; bytes = bg };
        front = a.place;
        mask = a.few;
        holds = a.holds z;
      }

  -- too few cells for it
  pub few_cells : {t₀ t : List ℕ} {m : Map} → LaidGlyphs form glyphs t₀ t 0 m → m.mask ≡ 0 → length t₀ < enough_cells
  few_cells {t₀} a z = step (dec_lt (length t₀) 65536)
    where
      step : Dec (length t₀ < 65536) → length t₀ < enough_cells
      step (yes h) = omega arith
      step (no h) = absurd (a.room (omega arith) z)

-- The covered glyphs, noted.
module _ {s : List ℕ} {form : ℕ} {glyphs : List ℕ} {m : Map} {t : List ℕ} (b : Begins s form glyphs m t) {at : ℕ} (e : at ≡ m.mask + 1) where
  module _ {cover : ℕ} (w : cover ≡ word s 2) where
    pub may_bound : (coverage_sound s cover ≡ true) × GlyphMap form glyphs
    may_bound = (rw w b.kern.cover, b.map)

    module _ {n : ℕ} (k : Most form glyphs s cover n) where
      -- too few cells for the notes
      pub few_notes : length t ≤ at + n → length t < enough_cells
      few_notes h = omega (arith, b.mask, k.small)

      pub may_meet : at + n < length t → MeetsGlyphs form s cover glyphs m t at
      may_meet h = record { sound = may_bound.0; map = b.map; holds = b.holds; behind = omega (arith, b.front); room = omega (arith, k.number) }

  module _ {cover len : ℕ} {next : List ℕ} (w : cover ≡ word s 2) (k : Met (find (glyph_entries form glyphs)) (coverage s cover) t at next len) where
    met_here : Met (find (glyph_entries form glyphs)) (coverage s (word s 2)) t at next len
    met_here = rw w at k

    pub notings : (len ≡ 0 → ⊥) → Noting s form glyphs (record { at = at; len = len }) next
    notings z = record {
      kern = b.kern;
      map = b.map;
      noted = met_here.noted;
      inside = omega (arith, k.fits, k.kept.size);
      some = omega arith;
      few = omega (arith, met_count met_here, met_few (glyph_entries form glyphs) (coverage s (word s 2)) (coverage_up s (word s 2) b.kern.cover), entries_few b.map);
      near = omega (arith, b.mask);
    }

    -- none is retained
    pub none_met : (packing : ℕ) (out : List ℕ) → len ≡ 0 → refused out 8 ≡ written_in packing out (cut (glyph_entries form glyphs) [] (pair_table s))
    unfolding part named
    none_met packing out z =
        let e : met (find (glyph_entries form glyphs)) 0 (coverage s (word s 2)) ≡ [] = sym met_here.noted ∙ ap (notes next at) z in
        none_kept b.kern (map_good b.map) (sym (named_met (glyph_entries form glyphs) (coverage s (word s 2))) ∙ ap (named (coverage s (word s 2))) e) packing out

-- Cells and bytes as many as before.
module _ (r : Result ℕ NotCut) (out after : List ℕ) (made : Outcome) {at : ℕ} {t u : List ℕ} (k : Kept at t u) where
  pub cells_same : (area : List ℕ) → Tries (length u < enough_cells) (length area < limit) r out after made → Tries (length t < enough_cells) (length area < limit) r out after made
  cells_same area h = tries_less (length u < enough_cells) (length area < limit) (length t < enough_cells) (length area < limit) r out after made (λ x. omega (arith, k.size)) (λ x. x) h

  pub scratch_same : {area next ws : List ℕ} {p : ℕ} → Wrote area 0 ws next p → Tries (length u < enough_cells) (length next < limit) r out after made → Tries (length t < enough_cells) (length area < limit) r out after made
  scratch_same {area} {next} w h =
      tries_less (length u < enough_cells) (length next < limit) (length t < enough_cells) (length area < limit) r out after made (λ x. omega (arith, k.size)) (λ x. omega (arith, wrote_length w)) h

-- words are written as bytes
flat_bytes : (ws : List ℕ) → Bytes (flat ws)
unfolding flat bytes2
flat_bytes [] = tt
flat_bytes (w ∷ ws) = (omega arith, (omega arith, flat_bytes ws))

-- The first classes, by the entries of the covered glyphs in the area.
module _ {s : List ℕ} {form : ℕ} {glyphs : List ℕ} {cover : Noted} {t : List ℕ} (b : Noting s form glyphs cover t) where
  abbrev cov : List ℕ
  cov = coverage s (word s 2)

  abbrev g : List (ℕ × ℕ)
  g = glyph_entries form glyphs

  abbrev es : List (ℕ × ℕ)
  es = named cov (notes t cover.at cover.len)

  covered_is : es ≡ covered_of s form glyphs
  covered_is = ap (named cov) b.noted ∙ named_met g cov

  many : length (covered_of s form glyphs) ≡ cover.len
  many = ap length (sym covered_is) ∙ named_length cov (notes t cover.at cover.len) ∙ length-map {B = ℕ × ℕ} (part t cover.at cover.len) (λ c. (c / 65536, c % 65536)) ∙ part_length t cover.at cover.len

  pub names : {at : ℕ} {area : List ℕ} {n : ℕ} → at ≡ word s 2 → n ≡ 4 * cover.len → n ≤ length area → Names s at t cover.at cover.len area
  names w e h = record {
    sound = rw w b.kern.cover;
    indexes = rw w (noted_indexes (find g) cov t cover.at cover.len b.noted);
    cells = b.inside;
    room = omega arith;
  }

  -- an area that is too short for the entries of the covered glyphs
  pub short_covered : {n : ℕ} (area : List ℕ) → n ≡ 4 * cover.len → length area < n → length area < limit
  unfolding limit
  short_covered area e h = omega (arith, b.few)

  good_covered : GoodMap (covered_of s form glyphs)
  good_covered = covered_map_lem g (map_good b.map) cov b.kern.good.0

  module _ {at : ℕ} {area next : List ℕ} {p n : ℕ} (w : at ≡ word s 2) (e : n ≡ 4 * cover.len) (h : n ≤ length area) (k : Wrote area 0 (twos (named (coverage s at) (notes t cover.at cover.len))) next p) where
    put : Wrote area 0 (twos (covered_of s form glyphs)) next p
    put = subst (λ (l : List (ℕ × ℕ)). Wrote area 0 (twos l) next p) covered_is (rw w at k)

    -- the bytes that were written
    bytes_are : take n next ≡ flat (twos (covered_of s form glyphs))
    bytes_are =
        let q : p ≡ n = omega (arith, put.place, twos_length (covered_of s form glyphs), many) in
        rw q at (wrote_extends put (omega arith)).front

    front_many : length (take n next) / 4 ≡ length (covered_of s form glyphs)
    front_many = omega (arith, ap length bytes_are, flat_length (twos (covered_of s form glyphs)), twos_length (covered_of s form glyphs))

    covered_entries : glyph_entries 4 (take n next) ≡ covered_of s form glyphs
    unfolding glyph_entries map_entries
    covered_entries =
        let stands : Stands (take n next) 0 (twos (covered_of s form glyphs)) = record { before = []; after = []; split = bytes_are ∙ sym (append-nil (flat (twos (covered_of s form glyphs)))); place = refl; small = twos_small (covered_of s form glyphs) good_covered.words } in
        ap (entries (take n next) 0) front_many ∙ entries_back (covered_of s form glyphs) stands

    -- they are a glyph map of pairs
    covered_good : GlyphMap 4 (take n next)
    unfolding good_form good_glyph_map good_glyphs glyph_entries
    covered_good = record {
      form_good = refl;
      good = rw (eq-eqb (length (take n next) % 4) 0 (omega (arith, ap length bytes_are, flat_length (twos (covered_of s form glyphs)), twos_length (covered_of s form glyphs))), covered_entries, up_ascends 0 (keys (covered_of s form glyphs)) good_covered.old, up_ascends 0 (values (covered_of s form glyphs)) good_covered.new);
      bytes = rw bytes_are (flat_bytes (twos (covered_of s form glyphs)));
    }

    pub front_inside : n ≡ length (take n next)
    front_inside = sym (length-take-le n next (omega (arith, wrote_length k)))

    pub first_asks : {c list : ℕ} → c ≡ word s 8 → list ≡ cover.at + cover.len → Asks s c 4 (take n next) list
    first_asks c l = record {
      sound = rw c (record { sound = λ z. b.kern.first });
      map = covered_good;
      near = omega (arith, b.few, b.near);
    }

    module _ {c list : ℕ} {u : List ℕ} {first : Classed} (v : c ≡ word s 8) (l : list ≡ cover.at + cover.len)
        (d : Sided (class_map (glyph_entries 4 (take n next)) (classes_at s c)) (classes_at s c) (glyph_entries 4 (take n next)) t u list first) where
      sided_is : Sided (class_map (covered_of s form glyphs) (classes s (word s 8))) (classes s (word s 8)) (covered_of s form glyphs) t u (cover.at + cover.len) first
      sided_is = rw (covered_entries, v, lists_there s b.kern.first_there, l) at d

      pub first_cells : first.map.mask ≡ 0 → length t < enough_cells
      first_cells z = step (dec_lt (length t) (cover.at + cover.len + table_cells))
        where
          step : Dec (length t < cover.at + cover.len + table_cells) → length t < enough_cells
          step (yes x) = omega (arith, b.few, b.near)
          step (no x) = absurd (sided_is.room (omega arith) z)

      pub first_in : (first.map.mask ≡ 0 → ⊥) → FirstIn s form glyphs cover first u
      first_in z = record {
        kern = b.kern;
        map = b.map;
        glyphs_noted = ap (map (λ c. c % 65536)) (part_alike (kept_same sided_is.kept) cover.at cover.len (omega arith) (omega arith))
            ∙ met_news {t₀ = t} g (record { kept = record { size = refl; same = λ i j. refl }; fits = b.inside; noted = b.noted });
        inside = omega (arith, b.inside, sided_is.kept.size);
        some = b.some;
        few = b.few;
        near = b.near;
        mask = sided_is.few;
        side = sided_is.side z;
      }

-- The second classes, and all that the cells hold then.
module _ {s : List ℕ} {form : ℕ} {glyphs : List ℕ} {cover : Noted} {first : Classed} {t : List ℕ} (b : FirstIn s form glyphs cover first t) {list : ℕ} (l : list ≡ first.map.at + first.map.mask + 1) where
  abbrev ds : List (ℕ × ℕ)
  ds = classes s (word s 10)

  pub second_asks : {c : ℕ} → c ≡ word s 10 → Asks s c form glyphs list
  second_asks c = record { sound = rw c (record { sound = λ z. b.kern.second }); map = b.map; near = omega (arith, b.few, b.near, b.mask, b.side.near) }

  module _ {c : ℕ} {u : List ℕ} {second : Classed} (v : c ≡ word s 10) (d : Sided (second_map (glyph_entries form glyphs) (classes_at s c)) (classes_at s c) (glyph_entries form glyphs) t u list second) where
    second_is : Sided (second_map (glyph_entries form glyphs) ds) ds (glyph_entries form glyphs) t u list second
    second_is = rw (v, lists_there s b.kern.second_there) at d

    pub second_cells : second.map.mask ≡ 0 → length t < enough_cells
    second_cells z = step (dec_lt (length t) (list + table_cells))
      where
        step : Dec (length t < list + table_cells) → length t < enough_cells
        step (yes x) = omega (arith, b.few, b.near, b.mask, b.side.near)
        step (no x) = absurd (second_is.room (omega arith) z)

    module _ (z : second.map.mask ≡ 0 → ⊥) where
      stay : Same 0 list t u
      stay = kept_same second_is.kept

      seconds : Side (second_map (glyph_entries form glyphs) ds) ds (glyph_entries form glyphs) u list second
      seconds = second_is.side z

      first_holds : Holds u first.map (class_map (covered_of s form glyphs) (classes s (word s 8)))
      first_holds = holds_same stay first.map (omega arith) (omega arith) b.side.holds

      first_entries : notes u first.entries.at first.entries.len ≡ classes_under (class_map (covered_of s form glyphs) (classes s (word s 8))) (covered_of s form glyphs) (classes s (word s 8))
      first_entries = ap (map (λ x. (x / 65536, x % 65536))) (part_alike stay first.entries.at first.entries.len (omega arith) (omega (arith, b.side.listed, b.side.few))) ∙ b.side.entries

      glyphs_here : news u cover.at cover.len ≡ new_coverage (glyph_entries form glyphs) (coverage s (word s 2))
      glyphs_here = ap (map (λ x. x % 65536)) (part_alike stay cover.at cover.len (omega arith) (omega (arith, b.side.few))) ∙ b.glyphs_noted

      covered_some : 0 < length (covered_of s form glyphs)
      covered_some =
          omega (arith, b.some, values_length (covered_of s form glyphs), ap length (covered_values (glyph_entries form glyphs) (coverage s (word s 2))), ap length (sym b.glyphs_noted), length-map (part t cover.at cover.len) (λ x. x % 65536), part_length t cover.at cover.len)

      pub ready : Ready s u cover first second
      ready =
          let up = kern_up b.kern (map_good b.map) covered_some in
          record {
            cells = record { has = b.kern.has; first_map = first_holds.inside; second_map_lem = seconds.holds.inside };
            tail = record {
              cover = omega (arith, b.inside, second_is.kept.size);
              covered = b.some;
              few = b.few;
              first = record {
                inside = omega (arith, b.side.listed, b.side.few, first_holds.inside.within);
                few = omega (arith, b.side.few, b.side.near);
                ascend = rw first_entries (up_ascends 0 _ up.0);
              };
              second = record {
                inside = omega (arith, seconds.listed, seconds.few, seconds.holds.inside.within);
                few = omega (arith, seconds.few, seconds.near);
                ascend = rw seconds.entries (up_ascends 0 _ up.1);
              };
            };
          }

      pub left_is : (packing : ℕ) (out : List ℕ) → left_into packing out s u cover first second ≡ written_in packing out (cut (glyph_entries form glyphs) [] (pair_table s))
      left_is packing out =
          let kept = kept_alike (holds_alike first_holds) (holds_alike seconds.holds) 0 (cell_rows s (field_count (word s 4)) (field_count (word s 6)) (word s 14) 16 (word s 12)) in
          rw (kept, b.side.count, seconds.count, glyphs_here, first_entries, seconds.entries) (kern_cut b.kern (map_good b.map) covered_some packing out)

      pub all_left : (packing : ℕ) (area : List ℕ) (r : Result ℕ NotCut) (out after : List ℕ) → Tries (⊥) (length area < limit) r out after (left_into packing out s u cover first second)
          → Tries (length t < enough_cells) (length area < limit) r out after (written_in packing out (cut (glyph_entries form glyphs) [] (pair_table s)))
      all_left packing area r out after h =
          tries_less ⊥ (length area < limit) (length t < enough_cells) (length area < limit) r out after _ (λ x. absurd x) (λ x. x)
          (subst (λ (o : Outcome). Tries (⊥) (length area < limit) r out after o) (left_is packing out) h)

-- The area that is used.
pub front_long : {n : ℕ} → 262144 < n → Front n 262144
unfolding limit
front_long h = record { within = omega arith; most = omega arith; all = λ x. absurd (omega arith) }

pub front_all : {n : ℕ} → n ≤ 262144 → Front n n
unfolding limit
front_all h = record { within = omega arith; most = h; all = λ x. refl }

module _ {n : ℕ} (area : List ℕ) (f : Front (length area) n) where
  pub front_length : n ≡ length (take n area)
  front_length = sym (length-take-le n area f.within)

  pub front_near : length (take n area) ≤ limit
  front_near = omega (arith, front_length, f.most)

  pub front_tries : (t : List ℕ) (r : Result ℕ NotCut) (out after : List ℕ) (made : Outcome) → Tries (length t < enough_cells) (length (take n area) < limit) r out after made → Tries (length t < enough_cells) (length area < limit) r out after made
  front_tries t r out after made k =
      tries_less (length t < enough_cells) (length (take n area) < limit) (length t < enough_cells) (length area < limit) r out after made (λ x. x) (λ x. omega (arith, front_length, f.all (omega (arith, front_length)))) k
