-- Both maps in the cells of lent scratch, and how many cells are enough.
use Rattle.std.specs.Prelude.{Result}
use Prim.Native.Nat.{ℕ, ◌+◌, ◌≤◌, ◌<◌}
use mathlib.Core.Path.{◌≡◌}
use mathlib.Core.Bool.{Bool}
use mathlib.Core.List.{List}
use native.Mathlib.Decide.{dec_lt}
use native.Mathlib.Omega.{arith}
use lib.ListN.{length}
use Rattle.meaning.specs.Maps.{map_entries, glyph_entries}
use Rattle.meaning.specs.Tables.{cover_context}
use Rattle.meaning.specs.Cut.{cut}
use Rattle.meaning.specs.Subset.{written_in}
use Rattle.laws.specs.SoundGood.{Bytes}
use Rattle.laws.specs.CallBack.{map_values}
use Rattle.room.specs.Laid.{enough_area}
use Rattle.cell_maps.specs.Cells.{Holds, holds_kept}
use Rattle.cell_maps.specs.Laid.{Laid}
use Rattle.cell_maps.specs.Runs.{LaidGlyphs}
use Rattle.cell_maps.specs.declared.Map.{Map}
use Rattle.tried.specs.Tries.{Tries, tries_less}
use Rattle.tried.specs.declared.NotCut.{NotCut}
use Rattle.cover_layouts.specs.Cutting.{Cuts, CutsInto, Sound, enough_cells}

module _ {chained : Bool} {form : ℕ} {s glyphs lookups : List ℕ} (o : Sound chained form s glyphs lookups) {t₀ t₁ : List ℕ} {l : Map} (a : Laid lookups t₀ t₁ 0 l) where
  -- too few cells for the lookups
  pub few_lookups : l.mask ≡ 0 → length t₀ < enough_cells
  few_lookups z = step (dec_lt (length t₀) 65536)
    where
      step : Dec (length t₀ < 65536) → length t₀ < enough_cells
      step (yes h) = omega arith
      step (no h) = absurd (a.room (omega arith) o.lookups_ascend z)

  -- where the glyph map begins
  pub glyphs_near : l.mask + 1 ≤ 65536
  glyphs_near = omega (arith, a.few o.lookups_ascend)

  module _ {t₂ : List ℕ} {m : Map} (b : LaidGlyphs form glyphs t₁ t₂ (l.mask + 1) m) where
    -- too few for the glyphs
    pub few_glyphs : m.mask ≡ 0 → length t₀ < enough_cells
    few_glyphs z = step (dec_lt (length t₁) (l.mask + 1 + 65536))
      where
        step : Dec (length t₁ < l.mask + 1 + 65536) → length t₀ < enough_cells
        step (yes h) = omega (arith, glyphs_near, a.kept.size)
        step (no h) = absurd (b.room (omega arith) z)

    pub notes_near : m.at + m.mask + 1 ≤ 131072
    notes_near = omega (arith, glyphs_near, b.place, b.few)

    module _ (zl : l.mask ≡ 0 → ⊥) (zm : m.mask ≡ 0 → ⊥) where
      -- the lookups stand as they were laid
      lookups_held : Holds t₂ l (map_entries lookups)
      lookups_held = holds_kept b.kept (omega (arith, a.place)) (a.holds zl)

      pub maps_ask : {area : List ℕ} → Bytes s → length t₀ ≤ 0x1_0000_0000 → length area ≤ 0x1_0000_0000 → Cuts chained s glyphs (record { form = form; map = m }) l t₂ area
      maps_ask bs n k = record {
        sound = o.sound;
        bytes = bs;
        source = o.source;
        ready = record { map = o.map; holds = b.holds zm };
        lookups = lookups_held.inside;
        near = notes_near;
        short = k;
        cells = omega (arith, a.kept.size, b.kept.size);
      }

      pub maps_cut : {packing : ℕ} {area : List ℕ} {r : Result ℕ NotCut} {out after : List ℕ} → Bytes lookups → CutsInto packing chained s glyphs (record { form = form; map = m }) l t₂ area r out after
          → Tries (length t₀ < enough_cells) (length area < enough_area) r out after (written_in packing out (cut (glyph_entries form glyphs) (map_entries lookups) (cover_context chained s)))
      maps_cut {packing} {area} {r} {out} {after} bl c =
          tries_less (length t₂ ≤ m.at + m.mask + 1 + 65536) (length area < enough_area) (length t₀ < enough_cells) (length area < enough_area) r out after (written_in packing out (cut (glyph_entries form glyphs) (map_entries lookups) (cover_context chained s)))
          (λ f. omega (arith, f, notes_near, a.kept.size, b.kept.size)) (λ f. f) (c.cuts lookups_held (map_values lookups bl))
