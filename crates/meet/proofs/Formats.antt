-- A sound coverage, by its format, meets a map.
use Prim.Native.Nat.{ℕ, ◌+◌, ◌*◌, ◌/◌, ◌≤◌, ◌<◌}
use mathlib.Core.Path.{◌≡◌, sym, ap, ◌∙◌}
use mathlib.Core.Bool.{true}
use mathlib.Core.List.{List}
use native.Mathlib.Omega.{arith}
use lib.ListN.{length}
use lib.Dec.{eqb}
use borrow.Author.Tests.{eq-eqb, ne_eqb, leb-true}
use Rattle.meaning.specs.Words.{word, words, triples, inside, ascends, find}
use Rattle.meaning.specs.Maps.{map_entries}
use Rattle.meaning.specs.Parts.{range_glyphs, ranges_ascend, ranges_count, coverage, coverage_sound}
use Rattle.laws.specs.Runs.{both}
use Rattle.laws.specs.Left.{entries_length}
use Rattle.laws.specs.SoundGood.{coverage_up}
use Rattle.cell_maps.specs.Cells.{folded}
use Rattle.cell_maps.specs.declared.Map.{Map}
use Rattle.range_meets.specs.Met.{met, Met, Meets, met_same, met_few}
use Rattle.range_meets.specs.Walks.{MeetsList, MeetsRanges, MeetsEntries}

-- what lies inside
pub inside_fits : (s : List ℕ) (at n : ℕ) → inside s at n ≡ true → at + n ≤ length s
unfolding inside
inside_fits s at n h = leb-true (at + n) (length s) h

module _ {s : List ℕ} {at : ℕ} {glyphs : List ℕ} {m : Map} {t : List ℕ} {to : ℕ} (a : Meets s at glyphs m t to) where
  -- the head lies inside
  pub head_inside : at + 4 ≤ length s
  unfolding coverage_sound
  head_inside = inside_fits s at 4 (both (inside s at 4) _ a.sound).0

  -- the glyphs of a coverage that lists them, and of one that has ranges
  listed : word s at ≡ 1 → words s (at + 4) (word s (at + 2)) ≡ coverage s at
  unfolding coverage
  listed e = rw (eq-eqb (word s at) 1 e)

  ranged : (word s at ≡ 1 → ⊥) → range_glyphs (triples s (at + 4) (word s (at + 2))) ≡ coverage s at
  unfolding coverage
  ranged e = rw (ne_eqb (word s at) 1 e)

  entries_count : length (map_entries glyphs) ≡ length glyphs / 4
  unfolding map_entries
  entries_count = entries_length glyphs 0 (length glyphs / 4)

  pub entries_ask : MeetsEntries s at glyphs t to
  entries_ask = record { sound = a.sound; ascend = a.ascend; room = omega (arith, a.room) }

  module _ {f n : ℕ} (ef : f ≡ word s at) (en : n ≡ word s (at + 2)) where
    pub list_asks : f ≡ 1 → n < 65536 → MeetsList s (at + 4) n m t to
    unfolding coverage_sound
    list_asks h l =
        let w : word s at ≡ 1 = sym ef ∙ h in
        let p = (both (inside s at 4) _ a.sound).1 in
        let q = both (inside s (at + 4) (2 * word s (at + 2))) (ascends (words s (at + 4) (word s (at + 2)))) (rw (eq-eqb (word s at) 1 w) at p) in
        let all : met (folded t m) 0 (words s (at + 4) n) ≡ met (find (map_entries glyphs)) 0 (coverage s at) =
        met_same (folded t m) (find (map_entries glyphs)) a.holds.answers 0 (words s (at + 4) n) ∙ ap (met (find (map_entries glyphs)) 0) (rw en (listed w))
        in
        record {
          inside = omega (arith, en, inside_fits s (at + 4) (2 * word s (at + 2)) q.0);
          count = omega arith;
          cells = a.holds.inside;
          behind = a.behind;
          room = omega (arith, a.room, ap length all, met_few (map_entries glyphs) (coverage s at) (coverage_up s at a.sound), entries_count);
        }

    pub list_met : {after : List ℕ} {r : ℕ} → f ≡ 1 → Met (folded t m) (words s (at + 4) n) t to after r → Met (find (map_entries glyphs)) (coverage s at) t to after r
    list_met h k = record {
      kept = k.kept;
      fits = k.fits;
      noted = k.noted ∙ met_same (folded t m) (find (map_entries glyphs)) a.holds.answers 0 (words s (at + 4) n) ∙ ap (met (find (map_entries glyphs)) 0) (rw en (listed (sym ef ∙ h)));
    }

    pub ranges_ask : (f ≡ 1 → ⊥) → MeetsRanges s (at + 4) n glyphs t to
    unfolding coverage_sound
    ranges_ask h =
        let p = (both (inside s at 4) _ a.sound).1 in
        let q = (both (eqb (word s at) 2) _ (rw (ne_eqb (word s at) 1 (λ e. h (ef ∙ e))) at p)).1 in
        let r = both (inside s (at + 4) (6 * word s (at + 2))) _ q in
        let u = both (ranges_ascend 0 (triples s (at + 4) (word s (at + 2)))) (ranges_count 0 (triples s (at + 4) (word s (at + 2)))) r.1 in
        record {
          inside = omega (arith, en, inside_fits s (at + 4) (6 * word s (at + 2)) r.0);
          ranges = rw en u.0;
          indices = rw en u.1;
          ascend = a.ascend;
          room = omega (arith, a.room);
        }

    pub ranges_met : {after : List ℕ} {r : ℕ} → (f ≡ 1 → ⊥) → Met (find (map_entries glyphs)) (range_glyphs (triples s (at + 4) n)) t to after r → Met (find (map_entries glyphs)) (coverage s at) t to after r
    ranges_met h k = rw (ranged (λ e. h (ef ∙ e))) at (rw en at k)
