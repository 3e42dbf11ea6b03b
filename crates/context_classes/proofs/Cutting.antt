-- From the cells of the maps to what is left of the context.
use Prim.Native.Nat.{ℕ, ◌+◌, ◌/◌, ◌%◌, ◌≤◌, ◌<◌}
use mathlib.Core.Path.{◌≡◌, refl, sym, ap, ◌∙◌, subst}
use mathlib.Core.Bool.{Bool, true, false, cond}
use Rattle.std.specs.Prelude.{Option, Result}
use mathlib.Core.List.{List, [], ◌∷◌, ◌++◌, map}
use mathlib.Core.Logic.{◌⊎◌, inl, inr}
use native.Mathlib.Decide.{dec_lt}
use native.Mathlib.Omega.{arith}
use lib.ListN.{length, take, drop}
use Rattle.meaning.specs.Words.{word}
use Rattle.meaning.specs.Maps.{map_entries, glyph_entries}
use Rattle.meaning.specs.Parts.{coverage}
use Rattle.meaning.specs.Tables.{class_context}
use Rattle.meaning.specs.Cut.{cut, cut_set, new_classes?, new_coverage}
use Rattle.meaning.specs.Layout.{block, coverage_words, class_words, rule_words, set_words}
use Rattle.meaning.specs.Subset.{Outcome, limit, written_in}
use Rattle.laws.specs.SoundGood.{coverage_up}
use Rattle.room.specs.Laid.{enough_area}
use Rattle.bits.specs.Reading.{same_cell}
use Rattle.cell_maps.specs.Cells.{Holds}
use Rattle.cell_maps.specs.Laid.{Laid}
use Rattle.cell_maps.specs.declared.Map.{Map}
use Rattle.area.specs.Part.{news}
use Rattle.numbers.specs.Alike.{holds_alike, set_alike}
use Rattle.kept_rules.specs.Left.{maps_in}
use Rattle.class_spots.specs.Slots.{slot_blocks, present_few, slots_marked}
use Rattle.tried.specs.Tries.{Tries, tries_less}
use Rattle.tried.specs.declared.NotCut.{NotCut}
use Rattle.remade_classes.specs.Front.{front_size, front_elsewhere, joined_holds}
use Rattle.remade_classes.specs.Made.{old_same, old_stays}
use Rattle.remade_classes.specs.Tail.{table_blocks, cover_of}
use Rattle.class_finish.specs.Written.{Writes, left_into}
use Rattle.glyph_runs.specs.Runs.{form_is, map_good}
use Rattle.class_stretches.specs.Tables.{table_at}
use Rattle.class_lists.specs.Elsewhere.{Elsewhere}
use Rattle.ranked_maps.specs.Present.{top_of, top_small}
use Rattle.ranked_maps.specs.Mapped.{holds_null}
use Rattle.class_ranks.specs.Same.{Same, after_same, part_alike, present_same}
use Rattle.class_sides.specs.Sides.{mark_cells, Asks, SideIn, Sided, InputAsks, InputIn, InputLaid}
use Rattle.class_places.specs.Places.{back_at, input_at, ahead_at}
use Rattle.context_classes.specs.Meaning.{rules_maps, tables_of, blocks_of, cut_words, slots_alike}
use Rattle.context_classes.specs.Cutting.{enough_cells, prepared_of, Begins, ClassesIn, ClassesLaid, Cuts}
use Rattle.context_classes.proofs.Smallness.{left_fits}
use Rattle.remade_classes.specs.declared.Noted.{Noted}
use Rattle.context_classes.specs.declared.Begun.{Begun}
use Rattle.class_sides.specs.declared.Side.{Side}
use Rattle.class_sides.specs.declared.Input.{Input}
use Rattle.context_classes.specs.declared.Classed.{Classed}
use Rattle.class_finish.specs.declared.Prepared.{Prepared}

-- What stands in cells stays where they are as before.
input_stays : {g : List (ℕ × ℕ)} {s : List ℕ} {at : ℕ} {cov t u : List ℕ} {noted : Noted} {r : Input} {end : ℕ} → Same noted.at end t u → r.marks + mark_cells r.map ≤ end → InputIn g s at cov t noted r → InputIn g s at cov u noted r
input_stays {t = t} {u} {r = r} k h a = record {
  table = old_same k (omega (arith, a.behind)) a.table;
  place = a.place;
  behind = a.behind;
  inside = omega (arith, a.inside, k.size);
  held = present_same k r.map a.table.behind (omega (arith, a.behind)) ∙ a.held;
  count = a.count;
  covered = λ c b. same_cell t u r.marks c (k.each (r.marks + c / 32) (omega (arith, a.behind, a.table.behind)) (omega arith)) ∙ a.covered c b;
}

news_stay : {t u : List ℕ} {from end : ℕ} (at n : ℕ) → Same from end t u → from ≤ at → at + n ≤ end → news u at n ≡ news t at n
news_stay at n k a b = ap (map (λ c. c % 65536)) (part_alike k at n a b)

-- too few cells
too_few_lem : {n m : ℕ} → (m ≤ n → ⊥) → n < m
too_few_lem {n} {m} h = step (dec_lt n m)
  where
    step : Dec (n < m) → n < m
    step (yes d) = d
    step (no d) = absurd (h (omega arith))

-- The class tables, one after the other.
module _ {s glyphs : List ℕ} {b : Begun} {t₀ : List ℕ} (a : Begins s glyphs b t₀) where
  abbrev noted : Noted
  noted = b.cover

  abbrev g : List (ℕ × ℕ)
  g = glyph_entries b.marks.form glyphs

  abbrev cov : List ℕ
  cov = coverage s (word s 2)

  pub input_asks : {at : ℕ} → at ≡ input_at b.chained s → InputAsks s at b.marks.form glyphs noted t₀
  input_asks e = record { sound = rw e a.sound.input; map = a.map; inside = a.inside; near = a.cells }

  module _ {ia : ℕ} (ei : ia ≡ input_at b.chained s) {t₁ : List ℕ} {i : Input} (u : InputLaid s ia g noted t₀ t₁ i) where
    -- too few cells for the input
    pub input_short : (r : Classed) → i.map.mask ≡ 0 → r.input.map.mask ≡ 0 → ClassesLaid s glyphs b t₀ t₁ r
    input_short r z y = record {
      size = u.same.size;
      room = λ x. too_few_lem (λ h. u.room (omega (arith, a.enough h)) (omega (arith, a.enough h, a.few)) z);
      laid = λ n. absurd (n y);
    }

    module _ (zi : i.map.mask ≡ 0 → ⊥) {cells : ℕ} (em : cells ≡ mark_cells i.map) where
      input_in : InputIn g s ia cov t₁ noted i
      input_in = u.side zi cov (coverage_up s (word s 2) (a.sound.cover a.covers)) a.noted

      few_marks : cells ≤ 2048
      few_marks = omega (arith, em, top_small i.map (omega (arith, u.few)))

      -- the marks end inside
      pub marks_inside : i.marks + cells ≤ length t₁
      marks_inside = omega (arith, input_in.inside)

      first_end : i.marks + cells ≤ noted.at + noted.len + i.map.mask + 1 + 2048
      first_end = omega (arith, input_in.behind, input_in.place, few_marks)

      pub back_asks : {at : ℕ} → at ≡ back_at b.chained s → Asks s at b.marks.form glyphs t₁ noted.at (i.marks + cells)
      back_asks e = record {
        sound = rw e a.sound.back;
        map = a.map;
        before = omega (arith, input_in.behind, input_in.place);
        inside = marks_inside;
        near = omega (arith, a.cells, u.same.size);
      }

      module _ {ba : ℕ} (eb : ba ≡ back_at b.chained s) {t₂ : List ℕ} {c : Side} (v : Sided s ba g t₁ t₂ noted.at (i.marks + cells) c) where
        -- for the backtrack
        pub back_short : (r : Classed) → c.classes.map.mask ≡ 0 → r.input.map.mask ≡ 0 → ClassesLaid s glyphs b t₀ t₂ r
        back_short r z y = record {
          size = v.same.size ∙ u.same.size;
          room = λ x. too_few_lem (λ h. v.room (omega (arith, a.enough h)) (omega (arith, a.enough h, a.few, first_end, u.few, u.same.size)) z);
          laid = λ n. absurd (n y);
        }

        module _ (zb : c.classes.map.mask ≡ 0 → ⊥) where
          back_in : SideIn g s ba t₂ noted.at (i.marks + cells) c
          back_in = v.side zb

          -- the class map ends inside
          pub back_inside : c.classes.map.at + c.classes.map.mask + 1 ≤ length t₂
          back_inside = omega (arith, back_in.classes.holds.inside.within)

          pub ahead_asks : {at : ℕ} → at ≡ ahead_at b.chained s → Asks s at b.marks.form glyphs t₂ noted.at (c.classes.map.at + c.classes.map.mask + 1)
          ahead_asks e = record {
            sound = rw e a.sound.ahead;
            map = a.map;
            before = omega (arith, back_in.table.behind);
            inside = back_inside;
            near = omega (arith, a.cells, u.same.size, v.same.size);
          }

          module _ {aa : ℕ} (ea : aa ≡ ahead_at b.chained s) {t₃ : List ℕ} {d : Side} (w : Sided s aa g t₂ t₃ noted.at (c.classes.map.at + c.classes.map.mask + 1) d) where
            -- for the lookahead
            pub ahead_short : (r : Classed) → d.classes.map.mask ≡ 0 → r.input.map.mask ≡ 0 → ClassesLaid s glyphs b t₀ t₃ r
            ahead_short r z y = record {
              size = w.same.size ∙ v.same.size ∙ u.same.size;
              room = λ x. too_few_lem (λ h. w.room (omega (arith, a.enough h)) (omega (arith, a.enough h, a.few, first_end, back_in.place, u.few, v.few, u.same.size, v.same.size)) z);
              laid = λ n. absurd (n y);
            }

            pub classes_laid : (d.classes.map.mask ≡ 0 → ⊥) → ClassesLaid s glyphs b t₀ t₃ (record { input = i; back = c.classes.map; ahead = d.classes.map })
            classes_laid zd = record {
              size = w.same.size ∙ v.same.size ∙ u.same.size;
              room = λ x. absurd (zi x);
              laid = λ n. record {
                input = rw ei at (input_stays w.same (omega (arith, back_in.place)) (input_stays v.same (omega arith) input_in));
                few = u.few;
                back = rw eb at (old_same w.same (omega arith) back_in.table);
                ahead = rw ea at (w.side zd).table;
                noted = news_stay noted.at noted.len w.same (omega arith) (omega (arith, back_in.place, input_in.behind, input_in.place))
                    ∙ news_stay noted.at noted.len v.same (omega arith) (omega (arith, input_in.behind, input_in.place))
                    ∙ news_stay noted.at noted.len u.same (omega arith) (omega arith) ∙ a.noted;
              };
            }

-- all of them stay where only cells before the notes change
classes_stay : {s glyphs : List ℕ} {b : Begun} {t u : List ℕ} {c : Classed} → Elsewhere 0 b.cover.at t u → ClassesIn s glyphs b t c → ClassesIn s glyphs b u c
classes_stay {b = b} {c = c} k a = record {
  input = input_stays (after_same (c.input.marks + mark_cells c.input.map) k) (omega arith) a.input;
  few = a.few;
  back = old_stays k a.back;
  ahead = old_stays k a.ahead;
  noted = news_stay b.cover.at b.cover.len (after_same (b.cover.at + b.cover.len) k) (omega arith) (omega arith) ∙ a.noted;
}

-- The lookup map, in the cells before the notes, and the cut.
module _ {s glyphs lookups : List ℕ} {b : Begun} {t₀ area : List ℕ} (a : Cuts s glyphs lookups b t₀ area) where
  abbrev x : ℕ
  x = b.cover.at

  pub form_there : 0 < b.marks.form
  form_there = pick (form_is a.begins.map.form_good)
    where
      pick : (b.marks.form ≡ 4) ⊎ (b.marks.form ≡ 6) → 0 < b.marks.form
      pick (inl e) = omega arith
      pick (inr e) = omega arith

  module _ {t₁ : List ℕ} {c : Classed} (u : ClassesLaid s glyphs b t₀ t₁ c) where
    pub front_inside : x ≤ length t₁
    front_inside = omega (arith, a.begins.inside, u.size)

    module _ {front : List ℕ} {l : Map} (h : Laid lookups (take x t₁) front 0 l) where
      -- too few cells for the lookups
      pub few_lookups : l.mask ≡ 0 → length t₀ < enough_cells
      few_lookups z = too_few_lem (λ e. h.room (omega (arith, front_size x t₁ front front_inside h.kept.size, h.kept.size, a.begins.enough e)) a.ascend z)

      abbrev t₂ : List ℕ
      t₂ = front ++ drop x t₁

      moved : Elsewhere 0 x t₁ t₂
      moved = front_elsewhere x t₁ front front_inside h.kept.size

      pub cells_same : length t₂ ≡ length t₀
      cells_same = moved.size ∙ u.size

      module _ (zc : c.input.map.mask ≡ 0 → ⊥) (zl : l.mask ≡ 0 → ⊥) where
        abbrev prepared : Prepared
        prepared = prepared_of b s c l

        abbrev chained : Bool
        chained = b.chained

        held : ClassesIn s glyphs b t₂ c
        held = classes_stay moved (u.laid zc)

        found : Holds t₂ l (map_entries lookups)
        found = joined_holds front (drop x t₁) (h.holds zl)

        writes : Writes s glyphs t₂ prepared area
        unfolding limit
        writes = record {
          ready = record {
            short = a.begins.sound.short;
            header = a.begins.sound.header;
            sets = a.begins.sound.sets;
            inside = record { back = held.back.holds.inside; input = held.input.table.holds.inside; ahead = held.ahead.holds.inside; lookups = found.inside };
            near = omega (arith, held.input.inside, cells_same, a.begins.cells);
            few = omega (arith, held.few);
            number = held.input.count ∙ sym (ap length held.input.held);
            words = λ at k {ws} e m. left_fits chained s a.bytes t₂ prepared.maps at e m;
          };
          few = omega (arith, held.input.count, ap length held.input.held, present_few t₂ c.input.map 0 (top_of c.input.map + 1), top_small c.input.map (omega (arith, held.few)));
          tail_in = record {
            cover = omega (arith, a.begins.inside, cells_same);
            covered = a.covered;
            few = a.begins.few;
            map = a.begins.map;
            back = held.back;
            input = held.input.table;
            ahead = held.ahead;
          };
          short = a.short;
        }

        pub may_write : {p : Prepared} → p ≡ prepared_of b s c l → Writes s glyphs t₂ p area
        may_write e = rw e writes

        abbrev es : List (ℕ × ℕ)
        es = map_entries lookups

        abbrev gm : List (ℕ × ℕ)
        gm = glyph_entries b.marks.form glyphs

        -- the blocks of the slots, and what follows the sets
        blocks_are : slot_blocks chained s t₂ prepared.maps c.input.marks ≡ blocks_of chained s gm es
        blocks_are =
            let m = rules_maps chained s gm es in
            let F = block (set_words (rule_words chained)) in
            let same = set_alike {m = maps_in t₂ prepared.maps} {n = m} (holds_alike (holds_null gm s (back_at chained s) held.back.holds)) (holds_alike held.input.table.holds) (holds_alike (holds_null gm s (ahead_at chained s) held.ahead.holds)) (holds_alike found) chained in
            rw (slots_marked (cut_set chained (maps_in t₂ prepared.maps)) t₂ c.input.marks c.input.map _ _ held.input.covered, held.input.held) (ap (map F) (slots_alike (cut_set chained (maps_in t₂ prepared.maps)) (cut_set chained m) same _ _ _))

        cover_is : cover_of t₂ prepared.tail ≡ coverage_words (new_coverage gm (coverage s (word s 2)))
        cover_is = ap coverage_words held.noted

        tables_are : table_blocks chained s glyphs prepared.tail ≡ tables_of chained s gm
        tables_are = step chained
          where
            i : Option (List (ℕ × ℕ))
            i = new_classes? gm (table_at s (input_at chained s))

            step : (k : Bool) → table_blocks k s glyphs prepared.tail ≡ map (block class_words) (cond k (new_classes? gm (table_at s (back_at chained s)) ∷ i ∷ new_classes? gm (table_at s (ahead_at chained s)) ∷ []) (i ∷ []))
            step true = refl
            step false = refl

        pub cut_into : {p : Prepared} (r : Result ℕ NotCut) (out after : List ℕ) → p ≡ prepared_of b s c l → Tries ⊥ (length area < enough_area) r out after (left_into out s glyphs t₂ p)
            → Tries (length t₀ < enough_cells) (length area < enough_area) r out after (written_in b.marks.layout out (cut gm es (class_context chained s)))
        cut_into r out after e k =
            tries_less ⊥ (length area < enough_area) (length t₀ < enough_cells) (length area < enough_area) r out after (written_in b.marks.layout out (cut gm es (class_context chained s))) (λ f. absurd f) (λ f. f)
            (subst (λ (y : Outcome). Tries ⊥ (length area < enough_area) r out after y) (ap (λ (q : Prepared). left_into out s glyphs t₂ q) e ∙ said) k)
          where
            said : left_into out s glyphs t₂ prepared ≡ written_in b.marks.layout out (cut gm es (class_context chained s))
            said = rw (cover_is, tables_are, blocks_are) (sym (cut_words chained s gm es a.good (map_good a.begins.map) a.values a.begins.covers a.classed b.marks.layout out))
