-- The tests before the cut: each refusal in the written order, and what is known past them all.
use Prim.Native.Nat.{ℕ}
use mathlib.Core.Path.{◌≡◌, ap, ◌∙◌}
use mathlib.Core.Bool.{true, false, ◌&&◌, ◌||◌, not}
use Rattle.std.specs.Prelude.{None, Some, Result}
use mathlib.Core.List.{List}
use lib.ListN.{length}
use lib.Dec.{ltb, eqb}
use borrow.Author.Tests.{ltb-false}
use Rattle.meaning.specs.Words.{word, inside, is_some}
use Rattle.meaning.specs.Maps.{map_entries, good_lookups, good_form, glyph_entries, good_glyph_map}
use Rattle.meaning.specs.Tables.{table}
use Rattle.meaning.specs.Fault.{fault}
use Rattle.meaning.specs.Records.{records_within}
use Rattle.meaning.specs.Cut.{cut}
use Rattle.meaning.specs.Subset.{refused, limit, good_kind, has_format, has_device, good_packing, written_in, subset}
use Rattle.laws.specs.CallBack.{subset_is}
use Rattle.glyph_runs.specs.Runs.{GlyphMap}
use Rattle.room.specs.Laid.{outcome_of}
use Rattle.room.specs.declared.NotLaid.{NotLaid}
use Rattle.refusals.specs.Answers.{answer_of, outcome, same_outcome}
use Rattle.refusals.specs.Refusals.{Passes}
use Rattle.refusals.specs.declared.Refusal.{Refusal}

-- none of the answers 1, 13, 14 and 2 to 5 applies; the glyph map is bytes
pub record Tested (kind form layout : ℕ) (s g l : List ℕ) : Type 0 where
  pub good_kind_lem : good_kind kind ≡ true
  pub good_form_lem : good_form form ≡ true
  pub good_layout : good_packing layout ≡ true
  pub good_glyphs_lem : GlyphMap form g
  pub good_lookups_lem : good_lookups l ≡ true
  pub short : ltb limit (length s) ≡ false
  pub format : inside s 0 2 && not (has_format kind (word s 0)) ≡ false

-- Each refusal, where none before it applies.
module _ (kind form layout : ℕ) (s g l : List ℕ) where
  pub at_kind : good_kind kind ≡ false → (out : List ℕ) → refused out 1 ≡ subset kind form layout s g l out
  at_kind a out = rw (subset_is kind form layout s g l out, a)

  module _ (a : good_kind kind ≡ true) where
    pub at_form : good_form form ≡ false → (out : List ℕ) → refused out 13 ≡ subset kind form layout s g l out
    at_form b out = rw (subset_is kind form layout s g l out, a, b)

    module _ (b : good_form form ≡ true) where
      pub at_layout : good_packing layout ≡ false → (out : List ℕ) → refused out 14 ≡ subset kind form layout s g l out
      at_layout c out = rw (subset_is kind form layout s g l out, a, b, c)

      module _ (c : good_packing layout ≡ true) where
        pub at_glyphs : good_glyph_map form g ≡ false → (out : List ℕ) → refused out 2 ≡ subset kind form layout s g l out
        at_glyphs d out = rw (subset_is kind form layout s g l out, a, b, c, d)

        module _ (d : good_glyph_map form g ≡ true) where
          pub at_lookups : good_lookups l ≡ false → (out : List ℕ) → refused out 3 ≡ subset kind form layout s g l out
          at_lookups e out = rw (subset_is kind form layout s g l out, a, b, c, d, e)

          module _ (e : good_lookups l ≡ true) where
            pub at_long : ltb limit (length s) ≡ true → (out : List ℕ) → refused out 4 ≡ subset kind form layout s g l out
            at_long f out = rw (subset_is kind form layout s g l out, a, b, c, d, e, f)

            pub at_format : ltb limit (length s) ≡ false → inside s 0 2 && not (has_format kind (word s 0)) ≡ true → (out : List ℕ) → refused out 5 ≡ subset kind form layout s g l out
            at_format f h out = rw (subset_is kind form layout s g l out, a, b, c, d, e, f, h)

  module _ (t : Tested kind form layout s g l) where
    pub at_malformed : {p : ℕ} → fault kind s ≡ Some p → (out : List ℕ) → record { number = 6; len = p; out = out } ≡ subset kind form layout s g l out
    unfolding is_some
    at_malformed f out = rw (subset_is kind form layout s g l out, t.good_kind_lem, t.good_form_lem, t.good_layout, t.good_glyphs_lem.good, t.good_lookups_lem, t.short, t.format, f)

    module _ (f : fault kind s ≡ None) where
      pub at_device : eqb kind 4 && (has_device (word s 4) || has_device (word s 6)) ≡ true → (out : List ℕ) → refused out 7 ≡ subset kind form layout s g l out
      unfolding is_some
      at_device h out = rw (subset_is kind form layout s g l out, t.good_kind_lem, t.good_form_lem, t.good_layout, t.good_glyphs_lem.good, t.good_lookups_lem, t.short, t.format, f, h)

      module _ (h : eqb kind 4 && (has_device (word s 4) || has_device (word s 6)) ≡ false) where
        pub at_past : records_within (table kind s) ≡ false → (out : List ℕ) → refused out 12 ≡ subset kind form layout s g l out
        unfolding is_some
        at_past w out = rw (subset_is kind form layout s g l out, t.good_kind_lem, t.good_form_lem, t.good_layout, t.good_glyphs_lem.good, t.good_lookups_lem, t.short, t.format, f, h, w)

        -- none applies
        pub at_end : records_within (table kind s) ≡ true → Passes kind form layout s g l
        unfolding is_some
        at_end w = record {
          sound = record { sound = f; source = ltb-false limit (length s) t.short; map = t.good_glyphs_lem; lookups_good = t.good_lookups_lem };
          outcomes = λ out. rw (subset_is kind form layout s g l out, t.good_kind_lem, t.good_form_lem, t.good_layout, t.good_glyphs_lem.good, t.good_lookups_lem, t.short, t.format, f, h, w);
        }

-- what was laid is the call's outcome
pub cut_outcome : {kind form layout : ℕ} {s g l : List ℕ} → Passes kind form layout s g l → (out : List ℕ) (r : Result ℕ NotLaid) {x : Result ℕ Refusal} {after : List ℕ}
    → outcome_of r after ≡ written_in layout out (cut (glyph_entries form g) (map_entries l) (table kind s)) → x ≡ answer_of r → outcome x after ≡ subset kind form layout s g l out
cut_outcome p out r {x} {after} i j = ap (λ (y : Result ℕ Refusal). outcome y after) j ∙ same_outcome r after ∙ i ∙ p.outcomes out
