-- What a call is tested for before anything is cut: its source, its two marks, and its maps. A call that passes answers what is written of its cut.
use Rattle.std.specs.Prelude.{ℕ, ◌≡◌, true, false, ◌&&◌, ◌||◌, List, length, take, ltb, eqb}
use Rattle.std.proofs.Common.{ap, ◌∙◌}
use Rattle.std.proofs.Math.Bool.{not}
use borrow.Author.Tests.{not-false}
use Rattle.meaning.specs.Words.{word, inside, is_some}
use Rattle.meaning.specs.Maps.{good_lookups, good_form, good_glyph_map}
use Rattle.meaning.specs.Tables.{table}
use Rattle.meaning.specs.Fault.{fault}
use Rattle.meaning.specs.Records.{records_within}
use Rattle.meaning.specs.Subset.{limit, good_kind, has_format, has_device, good_packing, written_in}
use Rattle.laws.specs.CallBack.{subset_is}
use Rattle.promises.specs.Refusals.{Call, answer, left?, refusals, NoneOf, kept_exactly}

-- a source of a kind is good: none of 1, 4 to 7 and 12 applies
pub record GoodSource (kind : ℕ) (s : List ℕ) : Type 0 where
  pub kind_good : not (good_kind kind) ≡ false
  pub not_long : ltb limit (length s) ≡ false
  pub has_format_lem : inside s 0 2 && not (has_format kind (word s 0)) ≡ false
  pub sound : is_some (fault kind s) ≡ false
  pub no_device : eqb kind 4 && (has_device (word s 4) || has_device (word s 6)) ≡ false
  pub within : not (records_within (table kind s)) ≡ false

-- a call's maps are good, and the marks of the form and of the layout: none of 13, 14, 2 and 3 applies
pub record GoodMaps (c : Call) : Type 0 where
  pub form : good_form c.form ≡ true
  pub packing : good_packing c.packing ≡ true
  pub glyphs : good_glyph_map c.form c.glyphs ≡ true
  pub lookups : good_lookups c.lookups ≡ true

module _ (c : Call) where
  -- none of the refusals before 8 applies exactly if source and maps are good
  pub tests : NoneOf (take 10 (refusals c)) → GoodSource c.kind c.source × GoodMaps c
  unfolding refusals
  tests (n1, (n13, (n14, (n2, (n3, (n4, (n5, (n6, (n7, (n12, u)))))))))) = (
    record { kind_good = n1; not_long = n4; has_format_lem = n5; sound = n6; no_device = n7; within = n12 },
    record {
      form = not-false (good_form c.form) n13;
      packing = not-false (good_packing c.packing) n14;
      glyphs = not-false (good_glyph_map c.form c.glyphs) n2;
      lookups = not-false (good_lookups c.lookups) n3;
    },
  )

  pub tested : GoodSource c.kind c.source → GoodMaps c → NoneOf (take 10 (refusals c))
  unfolding refusals
  tested s m =
      (s.kind_good, (ap not m.form, (ap not m.packing, (ap not m.glyphs, (ap not m.lookups, (s.not_long, (s.has_format_lem, (s.sound, (s.no_device, (s.within, tt))))))))))

  -- a call that is kept has passed
  pub kept_tested : (answer c).number ≡ 0 → NoneOf (take 10 (refusals c))
  unfolding refusals
  kept_tested k =
      let (n1, (n13, (n14, (n2, (n3, (n4, (n5, (n6, (n7, (n12, late)))))))))) = (kept_exactly c).0 k in
      (n1, (n13, (n14, (n2, (n3, (n4, (n5, (n6, (n7, (n12, tt))))))))))

  -- a call that passes answers what is written of its cut
  pub tested_gives : GoodSource c.kind c.source → GoodMaps c → answer c ≡ written_in c.packing c.buffer (left? c)
  tested_gives s m =
      subset_is c.kind c.form c.packing c.source c.glyphs c.lookups c.buffer
      ∙ rw (s.kind_good, m.form, m.packing, m.glyphs, m.lookups, s.not_long, s.has_format_lem, s.sound, s.no_device, s.within)
