-- What is handed over is what is left; and where there is no room for it, an offset or a count doesn't fit a word.
use Prim.Native.Nat.{ℕ, ◌+◌, ◌-◌, ◌*◌, ◌≤◌, ◌<◌}
use mathlib.Core.Path.{◌≡◌, refl, sym, ap, ◌∙◌, subst}
use mathlib.Core.Bool.{Bool, true, false, true≢false}
use Rattle.std.specs.Prelude.{Option, None, Some}
use mathlib.Core.List.{List, [], ◌∷◌, ◌++◌}
use native.Mathlib.Omega.{arith}
use lib.ListN.{length, replicate, length-replicate}
use lib.Dec.{eqb, ltb}
use borrow.Author.Tests.{lt-ltb, eq-eqb, ne_eqb}
use lib.Seq.{length-take-le}
use Rattle.meaning.specs.Words.{flat}
use Rattle.meaning.specs.Cut.{keep_slot, trim}
use Rattle.meaning.specs.Tables.{drop_null}
use Rattle.meaning.specs.Layout.{blocks}
use Rattle.meaning.specs.Packed.{first_of_each, together}
use Rattle.laws.specs.PackedReading.{shared_blocks}
use Rattle.known_blocks.specs.Book.{book_cells}
use Rattle.known_blocks.specs.Shared.{blocks_in}
use Rattle.meaning.specs.Subset.{Outcome, refused}
use Rattle.room.specs.Laid.{enough_area, laid_as, laid_unfit}
use Rattle.area.specs.Part.{part}
use Rattle.class_spots.specs.SlotWalk.{trim_words}
use Rattle.class_places.specs.Places.{slots_at, slots_near}
use Rattle.class_spots.specs.Slots.{slot_blocks, blocks_many, Noted, Filled, WroteSlots}
use Rattle.class_spots.specs.declared.Slots.{Slots}
use Rattle.remade_classes.specs.Tail.{tail_many, cover_of, table_blocks, tail_words, tail_fit}
use Rattle.class_finish.specs.Table.{cover_place, class_table, table_into, Finishes, Finished}
use Rattle.class_finish.specs.Written.{BookFor, Writes, left_into}
use Rattle.class_finish.specs.declared.Prepared.{Prepared}
use Rattle.new_class_tables.proofs.Fitting.{tail_fit_lem}

-- Books.

-- one of enough cells is for packed blocks, and one of one cell for plain ones
pub book_packed : {packing : ℕ} (n : ℕ) → book_cells ≤ n → packing ≡ 1 → BookFor packing (replicate n 0)
book_packed {packing} n h e =
    let zeros : List ℕ = replicate n 0 in
    let l : length zeros ≡ n = length-replicate {A = ℕ} n 0 in
    record { mode = lt-ltb 1 (length zeros) (omega (arith, l)) ∙ sym (eq-eqb packing 1 e); enough = λ m. omega (arith, l) }

pub book_plain : {packing : ℕ} → (packing ≡ 1 → ⊥) → BookFor packing (0 ∷ [])
book_plain {packing} n = record { mode = sym (ne_eqb packing 1 n); enough = λ m. absurd (true≢false (sym m)) }

-- one of as many cells is for the same layout
pub mode_kept : {n m : ℕ} {packed : Bool} → m ≡ n → ltb 1 n ≡ packed → ltb 1 m ≡ packed
mode_kept e h = ap (ltb 1) e ∙ h

pub enough_kept : {n m : ℕ} → m ≡ n → (ltb 1 n ≡ true → book_cells ≤ n) → ltb 1 m ≡ true → book_cells ≤ m
enough_kept e h k = omega (arith, h (sym (ap (ltb 1) e) ∙ k), e)

-- the same layout, said otherwise
pub finished_said : {packed other chained : Bool} {cover : List ℕ} {tables : List (Option (List ℕ))} {s : Slots} {classes : ℕ} {before after : List ℕ} {r : ℕ} → packed ≡ other → Finished packed chained cover tables s classes before after r → Finished other chained cover tables s classes before after r
finished_said e f = rw e at f

-- nulls at the end have no block
keep_dropped : (x : Option (List ℕ)) (l : List (Option (List ℕ))) → drop_null (keep_slot x l) ≡ drop_null (x ∷ l)
unfolding keep_slot drop_null
keep_dropped None [] = refl
keep_dropped None (y ∷ l) = refl
keep_dropped (Some b) l = refl

cons_dropped : (x : Option (List ℕ)) (l r : List (Option (List ℕ))) → drop_null l ≡ drop_null r → drop_null (x ∷ l) ≡ drop_null (x ∷ r)
unfolding drop_null
cons_dropped None l r e = e
cons_dropped (Some b) l r e = ap (λ (k : List (List ℕ)). b ∷ k) e

trim_dropped : (l : List (Option (List ℕ))) → drop_null (trim l) ≡ drop_null l
unfolding trim
trim_dropped [] = refl
trim_dropped (x ∷ l) = keep_dropped x (trim l) ∙ cons_dropped x (trim l) l (trim_dropped l)

trim_blocks : (packed : Bool) (l : List (Option (List ℕ))) → blocks_in packed (trim l) ≡ blocks_in packed l
unfolding shared_blocks
trim_blocks false l = trim_words l
trim_blocks true l = ap (λ (ds : List (List ℕ)). together (first_of_each ds)) (trim_dropped l)

-- What is left of slots.
module _ (packed : Bool) (cover : List ℕ) (tables bs : List (Option (List ℕ))) where
  -- blocks are left if they have words
  trim_some : 0 < length (blocks_in packed bs) → 0 < length (trim bs)
  unfolding blocks shared_blocks drop_null first_of_each together
  trim_some h = step packed (trim bs) (ap length (trim_blocks packed bs))
    where
      step : (u : Bool) (l : List (Option (List ℕ))) → length (blocks_in u l) ≡ length (blocks_in packed bs) → 0 < length l
      step false [] e = omega (arith, e)
      step true [] e = omega (arith, e)
      step u (b ∷ l) e = omega arith

  abbrev place : ℕ
  place = cover_place packed tables (trim bs)

  left_none : (out : List ℕ) → length (trim bs) ≡ 0 → table_into packed out cover tables (trim bs) ≡ refused out 8
  unfolding table_into
  left_none out z = step (trim bs) z
    where
      step : (l : List (Option (List ℕ))) → length l ≡ 0 → table_into packed out cover tables l ≡ refused out 8
      step [] z = refl
      step (b ∷ l) z = absurd (omega arith)

  left_some : (out : List ℕ) → 0 < length (trim bs) → table_into packed out cover tables (trim bs) ≡ laid_as (tail_fit packed place cover tables) out (flat (class_table packed cover tables (trim bs)))
  unfolding table_into
  left_some out z = step (trim bs) z
    where
      step : (l : List (Option (List ℕ))) → 0 < length l → table_into packed out cover tables l ≡ laid_as (tail_fit packed (cover_place packed tables l) cover tables) out (flat (class_table packed cover tables l))
      step [] z = absurd (omega arith)
      step (b ∷ l) z = refl

  -- what follows the sets doesn't fit words
  left_unfit : (out : List ℕ) → 0 < length (trim bs) → (tail_fit packed place cover tables ≡ true → ⊥) → refused out 9 ≡ table_into packed out cover tables (trim bs)
  left_unfit out z h = sym (left_some out z ∙ step (tail_fit packed place cover tables) h)
    where
      step : (t : Bool) → (t ≡ true → ⊥) → laid_as t out (flat (class_table packed cover tables (trim bs))) ≡ refused out 9
      step true h = absurd (h refl)
      step false h = laid_unfit out (flat (class_table packed cover tables (trim bs)))

module _ {s glyphs t : List ℕ} {p : Prepared} {area₀ : List ℕ} (a : Writes s glyphs t p area₀) {area : List ℕ} {r : Slots} (w : WroteSlots (eqb p.packing 1) p.tail.chained s t p.maps p.marks area₀ area r) (out : List ℕ) where
  abbrev chained : Bool
  chained = p.tail.chained

  abbrev packed : Bool
  packed = eqb p.packing 1

  abbrev bs : List (Option (List ℕ))
  bs = slot_blocks chained s t p.maps p.marks

  abbrev cover : List ℕ
  cover = cover_of t p.tail

  abbrev tables : List (Option (List ℕ))
  tables = table_blocks chained s glyphs p.tail

  many : length bs ≡ p.classes
  many = blocks_many chained s t p.maps p.marks ∙ sym a.ready.number

  -- there is no room for the sets
  pub short_slots : length area < r.end → enough_area ≤ length area → refused out 9 ≡ left_into out s glyphs t p
  short_slots l b =
      let u : 65526 ≤ 2 * length (blocks_in packed bs) = w.full (omega (arith, w.same)) (omega (arith, w.same)) in
      let some_left = trim_some packed cover tables bs (omega (arith, u)) in
      left_unfit packed cover tables bs out some_left (λ q. omega (arith, u, some_left, (tail_fit_lem packed (cover_place packed tables (trim bs)) cover tables q).0, ap length (trim_blocks packed bs), tail_many chained s glyphs p.tail, slots_near chained))

  module _ (l : r.end ≤ length area) where
    filled : Filled chained s t p.maps p.marks packed area r
    filled = w.done (omega (arith, w.same))

    long : length (trim bs) ≡ r.count
    long = ap length filled.head ∙ length-take-le r.count bs filled.few

    -- no slot is left
    pub none_left : r.count ≡ 0 → refused out 8 ≡ left_into out s glyphs t p
    none_left z = sym (left_none packed cover tables bs out (long ∙ z))

    module _ (z : r.count ≡ 0 → ⊥) where
      ends : r.end ≡ slots_at chained + 2 * p.classes + 2 * length (blocks_in packed bs)
      ends = omega (arith, filled.noted.place, many)

      -- the table can be put together
      pub may_finish : Finishes s glyphs t p.tail r p.classes area
      may_finish = record {
        tail_in = a.tail_in;
        some_slot = omega arith;
        few = omega (arith, filled.few, many);
        low = omega (arith, a.few);
        start = omega (arith, ends);
        room = l;
      }

      module _ {after : List ℕ} {end : ℕ} (f : Finished packed chained cover tables r p.classes area after end) where
        -- where the coverage stands
        cover_is : cover_place packed tables (trim bs) ≡ r.end - 2 * (p.classes - r.count)
        cover_is = omega (arith, ends, long, filled.few, many, ap length (trim_blocks packed bs), tail_many chained s glyphs p.tail)

        -- there is no room for what follows the sets
        pub short_table : length after < end → enough_area ≤ length after → refused out 9 ≡ left_into out s glyphs t p
        short_table k b =
            left_unfit packed cover tables bs out (omega (arith, long)) (λ q. omega (arith, f.full (omega (arith, f.same)) (rw cover_is at q), a.few, f.same))

        module _ (k : end ≤ length after) where
          -- where the table ends
          pub ends_at : end ≡ r.end + 2 * length (tail_words packed cover tables)
          ends_at = f.place (omega (arith, f.same))

          pub first_near : slots_at chained + 2 * p.classes ≤ end
          first_near = omega (arith, ends_at, ends)

          -- what is handed over is the table
          pub table_laid : {at : ℕ} → at ≡ slots_at chained → {o : Outcome} → o ≡ laid_as true out (part after 0 (at + 2 * r.count) ++ part after (at + 2 * p.classes) (end - (at + 2 * p.classes))) → o ≡ left_into out s glyphs t p
          table_laid {at} e h =
              let fits = f.near (omega (arith, f.same, k)) in
              let low = (tail_fit_lem packed (r.end - 2 * (p.classes - r.count)) cover tables fits).0 in
              let same = f.table bs many (subst (λ (n : ℕ). Noted packed (slots_at chained) (slots_at chained + 2 * n) bs area r.end) many filled.noted) (omega (arith, low, ends, filled.few, many))
              (ap (blocks_in packed) (sym filled.head) ∙ trim_blocks packed bs) (omega (arith, f.same, k)) ∙ ap (λ (l : List (Option (List ℕ))). flat (class_table packed cover tables l)) (sym filled.head) in
              let test : true ≡ tail_fit packed (cover_place packed tables (trim bs)) cover tables = sym (ap (λ (n : ℕ). tail_fit packed n cover tables) cover_is ∙ fits) in
              h ∙ ap (λ (i : ℕ). laid_as true out (part after 0 (i + 2 * r.count) ++ part after (i + 2 * p.classes) (end - (i + 2 * p.classes)))) e
              ∙ ap (laid_as true out) same ∙ ap (λ (t : Bool). laid_as t out (flat (class_table packed cover tables (trim bs)))) test ∙ sym (left_some packed cover tables bs out (omega (arith, long)))
