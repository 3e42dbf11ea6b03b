-- From the check and the maps' lists to the notes of the covered glyphs, and how many cells are enough.
use Prim.Native.Nat.{ℕ, suc, ◌+◌, ◌*◌, ◌≤◌, ◌<◌}
use mathlib.Core.Path.{◌≡◌, refl, sym, ap, ◌∙◌, subst}
use mathlib.Core.Bool.{Bool, true, false, cond, ◌&&◌}
use Rattle.std.specs.Prelude.{Option, None, Some, Result}
use mathlib.Core.List.{List, [], ◌∷◌, map}
use native.Mathlib.Decide.{dec_lt}
use native.Mathlib.Nat.{zero-add}
use native.Mathlib.Numerals.{add-one}
use native.Mathlib.Omega.{arith}
use lib.ListN.{length}
use lib.Dec.{eqb}
use borrow.Author.Tests.{ne_eqb}
use Rattle.meaning.specs.Words.{word, inside, find, push, map_some, is_some, keys, member}
use Rattle.meaning.specs.Maps.{map_entries, glyph_entries}
use Rattle.meaning.specs.Parts.{coverage, coverage_sound, classes_sound}
use Rattle.meaning.specs.Tables.{Rule, reach, class_context}
use Rattle.meaning.specs.Fault.{fault_through, coverage_fault, classes_fault, rule_fault, set_fault, header_fault, context_fault}
use Rattle.meaning.specs.Cut.{cut, cut_set, held_by, new_coverage, retained, slots, keep_slot, trim}
use Rattle.meaning.specs.Layout.{block, coverage_words, rule_words, set_words}
use Rattle.meaning.specs.Subset.{Outcome, limit, written_in, refused}
use Rattle.laws.specs.Runs.{both}
use Rattle.laws.specs.Through.{Opt}
use Rattle.laws.specs.ReadsBack.{Good}
use Rattle.laws.specs.CallBack.{map_values}
use Rattle.laws.specs.SoundGood.{Bytes, part_sound, one_good, header_good, coverage_up, class_context_good}
use Rattle.room.specs.Laid.{enough_area}
use Rattle.cell_maps.specs.Runs.{LaidGlyphs}
use Rattle.cell_maps.specs.declared.Map.{Map}
use Rattle.area.specs.Part.{part, news}
use Rattle.member_sets.specs.Sound.{inside_is, through_sound}
use Rattle.range_meets.specs.Met.{Met, met_news, met_count, met_few}
use Rattle.meets.specs.Either.{Most, MeetsGlyphs}
use Rattle.glyph_runs.specs.Runs.{GlyphMap, map_good}
use Rattle.glyph_runs.specs.Found.{entries_few}
use Rattle.class_stretches.specs.Tables.{classes_at, NullOrSound}
use Rattle.class_spots.specs.SlotWalk.{trim_blocks}
use Rattle.tried.specs.Tries.{Tries}
use Rattle.tried.specs.declared.NotCut.{NotCut}
use Rattle.class_finish.specs.Table.{table_into}
use Rattle.class_places.specs.Places.{input_at}
use Rattle.context_classes.specs.Meaning.{sets_of, SoundContext, rules_maps, tables_of, cut_words}
use Rattle.context_classes.specs.Cutting.{enough_cells, Sound, Behind, Covers, NotesCovered, Cuts}
use Rattle.marks.specs.declared.Marks.{Marks}
use Rattle.remade_classes.specs.declared.Noted.{Noted}

-- the part that an offset leads to is sound, if the offset is not null
slot_sound : (P : ℕ → Type 0) (s : List ℕ) (slot : ℕ) → Opt P (reach (λ (at : ℕ). at) s 0 slot) → (word s slot ≡ 0 → ⊥) → P (word s slot)
unfolding reach
slot_sound P s slot o z = rw (zero-add) at (rw (ne_eqb (word s slot) 0 z) at o)

module _ (s : List ℕ) where
  -- the coverage, and the class tables that offsets from 4 on lead to
  cover_sound : fault_through (coverage_fault s) s 0 2 1 ≡ None → (word s 2 ≡ 0 → ⊥) → coverage_sound s (word s 2) ≡ true
  unfolding coverage_fault
  cover_sound h = slot_sound (λ at. coverage_sound s at ≡ true) s 2 (one_good s (λ at. coverage_sound s at ≡ true) (λ (at : ℕ). at) (coverage_fault s) (λ at f. (part_sound at (coverage_sound s at) None f).0) 2 0 h).0

  class_sound : (slot n : ℕ) → fault_through (classes_fault s) s 0 slot (n + 1) ≡ None → NullOrSound s (word s slot) × (fault_through (classes_fault s) s 0 (slot + 2) n ≡ None)
  unfolding classes_fault
  class_sound slot n h =
      let o = one_good s (λ at. classes_sound s at ≡ true) (λ (at : ℕ). at) (classes_fault s) (λ at f. (part_sound at (classes_sound s at) None f).0) slot n (rw add-one at h) in
      (record { sound = slot_sound (λ at. classes_sound s at ≡ true) s slot o.0 }, o.1)

  no_table : NullOrSound s 0
  no_table = record { sound = λ z. absurd (z refl) }

  -- the count and the offsets of a header lie inside
  header_inside : (k slot : ℕ) (fault_at : ℕ → Option ℕ) → header_fault true k slot fault_at s ≡ None → slot + 2 + 2 * word s slot ≤ length s
  unfolding header_fault
  header_inside k slot fault_at h = inside_is s (slot + 2) (2 * word s slot) (both (inside s (slot + 2) (2 * word s slot)) true (both (inside s 0 (slot + 2)) _ (part_sound 0 (inside s 0 (slot + 2) && (inside s (slot + 2) (2 * word s slot) && true)) _ h).0).1).0

-- a context of format 2 without a fault is sound
pub context_sound : (chained : Bool) (s : List ℕ) → context_fault chained s ≡ None → word s 0 ≡ 2 → length s ≤ limit → SoundContext chained s
unfolding context_fault
context_sound true s h e l =
    let q = rw e at h in
    let f = header_good s true 3 10 (set_fault (rule_fault true s) s) q in
    let b = class_sound s 4 2 f.2 in
    let i = class_sound s 6 1 b.1 in
    let a = class_sound s 8 0 i.1 in
    record {
      short = l;
      header = header_inside s 3 10 (set_fault (rule_fault true s) s) q;
      cover = cover_sound s f.1;
      back = b.0;
      input = i.0;
      ahead = a.0;
      sets = λ j m z. rw zero-add at (through_sound (set_fault (rule_fault true s) s) s 0 12 (word s 10) j f.3 m z);
    }
context_sound false s h e l =
    let q = rw e at h in
    let f = header_good s true 1 6 (set_fault (rule_fault false s) s) q in
    record {
      short = l;
      header = header_inside s 1 6 (set_fault (rule_fault false s) s) q;
      cover = cover_sound s f.1;
      back = no_table s;
      input = (class_sound s 4 0 f.2).0;
      ahead = no_table s;
      sets = λ j m z. rw zero-add at (through_sound (set_fault (rule_fault false s) s) s 0 8 (word s 6) j f.3 m z);
    }

-- a context of format 2 without a fault is a good table
context_good : (chained : Bool) (s : List ℕ) → Bytes s → context_fault chained s ≡ None → word s 0 ≡ 2 → Good (class_context chained s)
unfolding context_fault
context_good true s b h e = class_context_good s b true (rw e at h)
context_good false s b h e = class_context_good s b false (rw e at h)

-- No covered glyph is retained: then no set is left.
retained_none : (g : List (ℕ × ℕ)) (cov : List ℕ) → new_coverage g cov ≡ [] → retained g cov ≡ []
unfolding new_coverage retained map_some push is_some
retained_none g [] e = refl
retained_none g (c ∷ cov) e = step (find g c) e (λ h. retained_none g cov h)
  where
    step : (o : Option ℕ) → push o (map_some (find g) cov) ≡ [] → (map_some (find g) cov ≡ [] → map_some (λ x. cond (is_some (find g x)) (Some x) None) cov ≡ [])
        → push (cond (is_some o) (Some c) None) (map_some (λ x. cond (is_some (find g x)) (Some x) None) cov) ≡ []
    step None e r = r e
    step (Some n) e r = absurd (let z : ◌≡◌ {A = ℕ} (suc (length (map_some (find g) cov))) 0 = ap length e in omega arith)

no_slots : (f : List Rule → Option (List Rule)) (sets : List (Option (List Rule))) (cs : List ℕ) → trim (slots f [] sets cs) ≡ []
unfolding slots trim keep_slot member
no_slots f sets [] = refl
no_slots f sets (c ∷ cs) = rw (no_slots f sets cs) refl

-- The notes of the covered glyphs, behind the cells of the glyph map.
module _ {s : List ℕ} {form : ℕ} {glyphs : List ℕ} (a : Covers s form glyphs) {t₀ t₁ : List ℕ} {m : Map} (b : LaidGlyphs form glyphs t₀ t₁ 0 m) where
  abbrev g : List (ℕ × ℕ)
  g = glyph_entries form glyphs

  -- too few cells
  no_notes : length t₀ < enough_cells → NotesCovered s g t₀ t₁ (record { at = 0; len = 0 })
  no_notes h = record { size = b.kept.size; room = λ z. h; covered = λ z. absurd (z refl) }

  pub few_glyphs : m.mask ≡ 0 → NotesCovered s g t₀ t₁ (record { at = 0; len = 0 })
  few_glyphs z = no_notes (step (dec_lt (length t₀) 65536))
    where
      step : Dec (length t₀ < 65536) → length t₀ < enough_cells
      step (yes h) = omega arith
      step (no h) = absurd (b.room (omega arith) z)

  module _ {at cover : ℕ} (e : Behind m.mask (length t₁) at) (f : cover ≡ word s 2) where
    pub may_bound : (coverage_sound s cover ≡ true) × GlyphMap form glyphs
    may_bound = (rw f a.sound, a.map)

    module _ {n : ℕ} (k : Most form glyphs s cover n) where
      pub notes_few : length t₁ ≤ at + n → NotesCovered s g t₀ t₁ (record { at = 0; len = 0 })
      notes_few h = no_notes (step (dec_lt (length t₀) enough_cells))
        where
          step : Dec (length t₀ < enough_cells) → length t₀ < enough_cells
          step (yes d) = d
          step (no d) = absurd (omega (arith, e.enough (omega (arith, b.kept.size)), k.small, b.kept.size))

      pub may_meet : (m.mask ≡ 0 → ⊥) → at + n < length t₁ → MeetsGlyphs form s cover glyphs m t₁ at
      may_meet z h = record { sound = may_bound.0; map = a.map; holds = b.holds z; behind = omega (arith, b.place, e.behind); room = omega (arith, k.number) }

    pub notes_covered : {t₂ : List ℕ} {k : ℕ} → Met (find g) (coverage s cover) t₁ at t₂ k → NotesCovered s g t₀ t₂ (record { at = at; len = k })
    notes_covered {t₂} {k} h = record {
      size = h.kept.size ∙ b.kept.size;
      room = λ z. absurd (omega (arith, e.behind));
      covered = λ z. record {
        enough = λ l. e.enough (omega (arith, h.kept.size));
        inside = omega (arith, h.fits, h.kept.size);
        few = omega (arith, met_count h, met_few g (coverage s cover) (rw f (coverage_up s (word s 2) a.sound)), entries_few a.map);
        noted = met_news g h ∙ ap (λ (c : ℕ). new_coverage g (coverage s c)) f;
      };
    }

module _ {chained : Bool} {s : List ℕ} {form : ℕ} {glyphs lookups : List ℕ} (o : Sound chained s form glyphs lookups) where
  good_map : Bytes glyphs → GlyphMap form glyphs
  good_map b = record { form_good = o.form_good; good = o.glyphs_good; bytes = b }

  sound : SoundContext chained s
  sound = context_sound chained s o.sound o.format o.source

  pub may_note : {cover : ℕ} → Bytes glyphs → cover ≡ word s 2 → (cover ≡ 0 → ⊥) → Covers s form glyphs
  may_note b e z = record { sound = sound.cover (λ w. z (e ∙ w)); map = good_map b }

  module _ {t₀ t₁ : List ℕ} {cover : Noted} (n : NotesCovered s (glyph_entries form glyphs) t₀ t₁ cover) where
    -- no covered glyph is retained
    pub none_noted : {w ia : ℕ} (packing : ℕ) (out : List ℕ) → Bytes s → Bytes glyphs → Bytes lookups → w ≡ word s 2 → (w ≡ 0 → ⊥) → ia ≡ input_at chained s → (ia ≡ 0 → ⊥) → (cover.at ≡ 0 → ⊥) → cover.len ≡ 0
        → refused out 8 ≡ written_in packing out (cut (glyph_entries form glyphs) (map_entries lookups) (class_context chained s))
    unfolding part table_into held_by
    none_noted packing out bs bg bl e z f y u v =
        sym (cut_words chained s g es (context_good chained s bs o.sound o.format) (map_good (good_map bg)) (map_values lookups bl) (λ w. z (e ∙ w)) (λ w. y (f ∙ w)) packing out ∙ gone)
      where
        g : List (ℕ × ℕ)
        g = glyph_entries form glyphs

        es : List (ℕ × ℕ)
        es = map_entries lookups

        empty : new_coverage g (coverage s (word s 2)) ≡ []
        empty = sym (n.covered u).noted ∙ ap (λ (n : ℕ). news t₁ cover.at n) v

        gone : table_into (eqb packing 1) out (coverage_words (new_coverage g (coverage s (word s 2)))) (tables_of chained s g) (trim (map (block (set_words (rule_words chained))) (slots (cut_set chained (rules_maps chained s g es)) (held_by (classes_at s (input_at chained s)) (retained g (coverage s (word s 2)))) (sets_of chained s) (held_by (classes_at s (input_at chained s)) (keys g))))) ≡ refused out 8
        gone = rw (retained_none g (coverage s (word s 2)) empty, ← (trim_blocks (set_words (rule_words chained)) (slots (cut_set chained (rules_maps chained s g es)) [] (sets_of chained s) (held_by (classes_at s (input_at chained s)) (keys g)))), no_slots (cut_set chained (rules_maps chained s g es)) (sets_of chained s) (held_by (classes_at s (input_at chained s)) (keys g))) refl

    -- they are noted
    pub may_cut : {marks : Marks} {area : List ℕ} {x ia : ℕ} → marks.form ≡ form → Bytes s → Bytes glyphs → Bytes lookups → x ≡ word s 2 → (x ≡ 0 → ⊥) → ia ≡ input_at chained s → (ia ≡ 0 → ⊥) → (cover.at ≡ 0 → ⊥) → (cover.len ≡ 0 → ⊥) → length t₀ ≤ 0x1_0000_0000 → length area ≤ 0x1_0000_0000
        → Cuts s glyphs lookups (record { chained = chained; marks = marks; cover = cover }) t₁ area
    may_cut m bs bg bl e y f v z c k h =
        let q = n.covered z in
        record {
          begins = record {
            sound = sound;
            map = rw m (good_map bg);
            covers = λ w. y (e ∙ w);
            enough = q.enough;
            inside = q.inside;
            few = q.few;
            noted = rw m q.noted;
            cells = omega (arith, n.size);
          };
          bytes = bs;
          good = context_good chained s bs o.sound o.format;
          covered = omega arith;
          classed = λ w. v (f ∙ w);
          ascend = o.lookups_ascend;
          values = map_values lookups bl;
          short = h;
        }

    -- the cells are as many
    pub noted_cut : (area : List ℕ) (r : Result ℕ NotCut) (out after : List ℕ) (made : Outcome) → Tries (length t₁ < enough_cells) (length area < enough_area) r out after made → Tries (length t₀ < enough_cells) (length area < enough_area) r out after made
    noted_cut area r out after made h = subst (λ (i : ℕ). Tries (i < enough_cells) (length area < enough_area) r out after made) n.size h
