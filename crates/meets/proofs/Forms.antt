-- A sound coverage, by its format, and a glyph map, by its form.
use Prim.Native.Nat.{ℕ, ◌+◌, ◌*◌, ◌/◌, ◌≤◌, ◌<◌}
use mathlib.Core.Path.{◌≡◌, sym, ap, ◌∙◌}
use mathlib.Core.Bool.{Bool, true}
use Rattle.std.specs.Prelude.{Option, None, Some}
use mathlib.Core.List.{List, [], ◌∷◌}
use mathlib.Core.Logic.{◌⊎◌, inl, inr}
use native.Mathlib.Omega.{arith}
use lib.ListN.{length}
use borrow.Author.Tests.{eq-eqb}
use Rattle.meaning.specs.Words.{word, words, triples, find, keys, ascends, is_some, bind, push}
use Rattle.meaning.specs.Maps.{map_entries, glyph_entries}
use Rattle.meaning.specs.Parts.{range_glyphs, coverage}
use Rattle.meaning.specs.Cut.{unless_empty, new_coverage}
use Rattle.laws.specs.Runs.{up_ascends}
use Rattle.laws.specs.Left.{entries_length}
use Rattle.coverage_glyphs.specs.Answers.{Counts}
use Rattle.coverage_glyphs.proofs.Reading.{covers_list, covers_ranges, header_fits, list_fits, ranges_sound}
use Rattle.glyph_runs.specs.Runs.{GlyphMap, form_is, map_good}
use Rattle.glyph_runs.specs.Found.{entries_few}
use Rattle.cell_maps.specs.Cells.{folded, Inside}
use Rattle.cell_maps.specs.declared.Map.{Map}
use Rattle.range_meets.specs.Met.{met, Met, Meets, met_same}
use Rattle.range_meets.specs.Walks.{MeetsList}
use Rattle.listed_meets.specs.Answered.{answered, answered_same, answered_left}
use Rattle.noted_runs.specs.Walks.{MeetsRanges, SeeksRanges}
use Rattle.meets.specs.Either.{most_notes, Most, MeetsGlyphs, SeeksGlyphs}

-- What a form that is not one of the two says.
not_four : {form : ℕ} {m : List ℕ} → GlyphMap form m → (form ≡ 4 → ⊥) → form ≡ 6
not_four {form} g h = pick (form_is g.form_good)
  where
    pick : (form ≡ 4) ⊎ (form ≡ 6) → form ≡ 6
    pick (inl e) = absurd (h e)
    pick (inr e) = e

not_six : {form : ℕ} {m : List ℕ} → GlyphMap form m → (form ≡ 6 → ⊥) → form ≡ 4
not_six {form} g h = pick (form_is g.form_good)
  where
    pick : (form ≡ 4) ⊎ (form ≡ 6) → form ≡ 4
    pick (inl e) = e
    pick (inr e) = absurd (h e)

entries_four : {form : ℕ} (m : List ℕ) → form ≡ 4 → glyph_entries form m ≡ map_entries m
unfolding glyph_entries
entries_four m e = rw e

-- the entries ascend
keys_ascend : {form : ℕ} {m : List ℕ} → GlyphMap form m → ascends (keys (glyph_entries form m)) ≡ true
keys_ascend {form} {m} g = up_ascends 0 (keys (glyph_entries form m)) (map_good g).old

-- The bound.
most_six : {form : ℕ} (glyphs s : List ℕ) (at : ℕ) → form ≡ 6 → most_notes form glyphs s at ≡ length (coverage s at)
unfolding most_notes
most_six {form} glyphs s at e = rw (eq-eqb form 6 e)

most_four : {form : ℕ} (glyphs s : List ℕ) (at : ℕ) → form ≡ 4 → most_notes form glyphs s at ≡ length glyphs / 4
unfolding most_notes
most_four glyphs s at e = rw e

entry_count : (m : List ℕ) → length (map_entries m) ≡ length m / 4
unfolding map_entries
entry_count m = entries_length m 0 (length m / 4)

module _ {form : ℕ} {glyphs s : List ℕ} {at : ℕ} where
  pub most_runs : {r : ℕ} → form ≡ 6 → Counts (coverage s at) r → Most form glyphs s at r
  most_runs e c = record { number = c.number ∙ sym (most_six glyphs s at e); small = c.small }

  pub most_pairs : GlyphMap form glyphs → (form ≡ 6 → ⊥) → Most form glyphs s at (length glyphs / 4)
  most_pairs g h =
      let e = not_six g h in
      record { number = sym (most_four glyphs s at e); small = omega (arith, entries_few g, ap length (entries_four glyphs e), entry_count glyphs) }

-- no more are met than there are
pub met_most : (f : ℕ → Option ℕ) (i : ℕ) (cov : List ℕ) → length (met f i cov) ≤ length cov
unfolding met push bind
met_most f i [] = omega arith
met_most f i (c ∷ cov) = step (f c) (met_most f (i + 1) cov)
  where
    step : (o : Option ℕ) → length (met f (i + 1) cov) ≤ length cov → length (push (bind o (λ n. Some (i, n))) (met f (i + 1) cov)) ≤ length (c ∷ cov)
    step None h = omega arith
    step (Some n) h = omega arith

-- `meet`: a listed map, and runs by the format of the coverage.
module _ {form : ℕ} {s : List ℕ} {at : ℕ} {glyphs : List ℕ} {m : Map} {t : List ℕ} {to : ℕ} (a : MeetsGlyphs form s at glyphs m t to) where
  pub meets_head : at + 4 ≤ length s
  meets_head = header_fits s at a.sound

  module _ (e : form ≡ 4) where
    pub pairs_ask : Meets s at glyphs m t to
    pairs_ask = record {
      sound = a.sound;
      ascend = rw (entries_four glyphs e) at (keys_ascend a.map);
      holds = rw (entries_four glyphs e) at a.holds;
      behind = a.behind;
      room = omega (arith, a.room, most_four glyphs s at e);
    }

    pub pairs_met : {after : List ℕ} {r : ℕ} → Met (find (map_entries glyphs)) (coverage s at) t to after r → Met (find (glyph_entries form glyphs)) (coverage s at) t to after r
    pairs_met k = rw (entries_four glyphs e) k

  module _ (z : form ≡ 4 → ⊥) {f n : ℕ} (ef : f ≡ word s at) (en : (n ≡ word s (at + 2)) × (n < 65536)) where
    is_six : form ≡ 6
    is_six = not_four a.map z

    module _ (h : f ≡ 1) where
      listed : coverage s at ≡ words s (at + 4) n
      listed = rw en.0 (covers_list s at (sym ef ∙ h))

      pub list_asks : MeetsList s (at + 4) n m t to
      list_asks = record {
        inside = omega (arith, en.0, list_fits s at a.sound (sym ef ∙ h));
        count = omega (arith, en.1);
        cells = a.holds.inside;
        behind = a.behind;
        room = omega (arith, a.room, most_six glyphs s at is_six, ap length listed, met_most (folded t m) 0 (words s (at + 4) n));
      }

      pub list_met : {after : List ℕ} {r : ℕ} → Met (folded t m) (words s (at + 4) n) t to after r → Met (find (glyph_entries form glyphs)) (coverage s at) t to after r
      list_met k = record {
        kept = k.kept;
        fits = k.fits;
        noted = k.noted ∙ met_same (folded t m) (find (glyph_entries form glyphs)) a.holds.answers 0 (words s (at + 4) n) ∙ ap (met (find (glyph_entries form glyphs)) 0) (sym listed);
      }

    module _ (h : f ≡ 1 → ⊥) where
      ranged : coverage s at ≡ range_glyphs (triples s (at + 4) n)
      ranged = rw en.0 (covers_ranges s at (λ q. h (ef ∙ q)))

      pub ranges_ask : MeetsRanges s (at + 4) n glyphs t to
      ranges_ask =
          let r = ranges_sound s at a.sound (λ q. h (ef ∙ q)) in
          record {
            inside = omega (arith, en.0, r.fits);
            ranges = rw en.0 r.ascend;
            indices = rw en.0 r.count;
            map = rw is_six at a.map;
            room = omega (arith, a.room, most_six glyphs s at is_six, ap length ranged);
          }

      pub ranges_met : {after : List ℕ} {r : ℕ} → Met (find (glyph_entries 6 glyphs)) (range_glyphs (triples s (at + 4) n)) t to after r → Met (find (glyph_entries form glyphs)) (coverage s at) t to after r
      ranges_met k = rw (is_six, ranged) k

-- `meets`, by the format of the coverage.
module _ {form : ℕ} {s : List ℕ} {at : ℕ} {glyphs : List ℕ} {m : Map} {t : List ℕ} (a : SeeksGlyphs form s at glyphs m t) where
  pub seeks_head : at + 4 ≤ length s
  seeks_head = header_fits s at a.sound

  module _ {f n : ℕ} (ef : f ≡ word s at) (en : n ≡ word s (at + 2)) where
    pub list_seeks : f ≡ 1 → (at + 4 + 2 * n ≤ length s) × Inside t m
    list_seeks h = (omega (arith, en, list_fits s at a.sound (sym ef ∙ h)), a.holds.inside)

    pub list_answers : {r : Bool} → f ≡ 1 → r ≡ answered (folded t m) (words s (at + 4) n) → r ≡ is_some (unless_empty (new_coverage (glyph_entries form glyphs) (coverage s at)))
    list_answers h e =
        e ∙ answered_same (folded t m) (find (glyph_entries form glyphs)) a.holds.answers (words s (at + 4) n) ∙ answered_left (glyph_entries form glyphs) (words s (at + 4) n)
        ∙ rw (en, covers_list s at (sym ef ∙ h))

    pub ranges_seek : (f ≡ 1 → ⊥) → SeeksRanges s (at + 4) n form glyphs
    ranges_seek h =
        let r = ranges_sound s at a.sound (λ q. h (ef ∙ q)) in
        record { inside = omega (arith, en, r.fits); ranges = rw en r.ascend; map = a.map }

    pub ranges_answer : {r : Bool} → (f ≡ 1 → ⊥) → r ≡ answered (find (glyph_entries form glyphs)) (range_glyphs (triples s (at + 4) n)) → r ≡ is_some (unless_empty (new_coverage (glyph_entries form glyphs) (coverage s at)))
    ranges_answer h e = e ∙ answered_left (glyph_entries form glyphs) (range_glyphs (triples s (at + 4) n)) ∙ rw (en, covers_ranges s at (λ q. h (ef ∙ q)))
