-- The slots are settled, and what follows the sets and the header are written: then the table stands in two parts.
use Prim.Native.Nat.{ℕ, ◌+◌, ◌-◌, ◌*◌, ◌≤◌, ◌<◌}
use mathlib.Core.Path.{◌≡◌, refl, sym, ap, ap₂, ◌∙◌, subst}
use mathlib.Core.Bool.{Bool}
use Rattle.std.specs.Prelude.{Option}
use mathlib.Core.List.{List, [], ◌∷◌, ◌++◌, append_assoc, map}
use native.Mathlib.Omega.{arith}
use lib.ListN.{length, length-append, take}
use lib.Seq.{sets, length-sets, length-take-le}
use Rattle.meaning.specs.Words.{bytes2, words, flat}
use Rattle.laws.specs.Stands.{flat_length, flat_append}
use Rattle.laws.specs.Written.{Wrote, sets_flat, flat_one}
use Rattle.area.specs.Extends.{Extends, extends_keeps, wrote_extends}
use Rattle.area.specs.Part.{part, part_append}
use Rattle.area.specs.Stored.{extends_store}
use Rattle.handing.proofs.Moved.{part_behind}
use Rattle.numbers.proofs.Fronts.{part_keeps, extends_part}
use Rattle.known_blocks.specs.Shared.{offsets_in, blocks_in}
use Rattle.class_places.specs.Places.{slots_at, slots_near}
use Rattle.class_spots.specs.Slots.{settled, Noted}
use Rattle.class_spots.proofs.Halves.{offsets_many, halves_small}
use Rattle.class_spots.specs.declared.Slots.{Slots}
use Rattle.class_slots.proofs.Offsets.{Placed, noted_settled}
use Rattle.remade_classes.specs.Tail.{tail_many, cover_of, table_blocks, tail_offsets, tail_words, Lays, Places}
use Rattle.class_finish.specs.Table.{class_table, Finishes, Finished}
use Rattle.remade_classes.specs.declared.Tail.{Tail}

-- the words of a table by classes, in order; the blocks of the slots may be said of more slots, of which the last are null
table_is : (packed : Bool) (cover : List ℕ) (tables bs : List (Option (List ℕ))) (more : List ℕ) {n q f : ℕ} → n ≡ length bs → f ≡ 6 + 2 * length tables + 2 * n → q ≡ f + 2 * length more → blocks_in packed bs ≡ more
    → class_table packed cover tables bs ≡ ((2 ∷ (tail_offsets packed q cover tables ++ (n ∷ []))) ++ offsets_in packed f bs) ++ (more ++ tail_words packed cover tables)
unfolding class_table
table_is packed cover tables bs more {n} {q} {f} e g h k =
    let start : 6 + 2 * length tables + 2 * length bs ≡ f = omega (arith, e, g) in
    let ot = tail_offsets packed q cover tables in
    rw (start, k, ← h, ← e)
    (sym (ap (λ (l : List ℕ). 2 ∷ l) (append_assoc (ot ++ (n ∷ [])) (offsets_in packed f bs) (more ++ tail_words packed cover tables) ∙ append_assoc ot (n ∷ []) (offsets_in packed f bs ++ (more ++ tail_words packed cover tables)))))

module _ (packed : Bool) {src glyphs t : List ℕ} {tail : Tail} {r : Slots} {classes : ℕ} {a₀ : List ℕ} (a : Finishes src glyphs t tail r classes a₀) {slots : ℕ} (s : slots ≡ slots_at tail.chained) where
  abbrev chained : Bool
  chained = tail.chained

  abbrev cover : List ℕ
  cover = cover_of t tail

  abbrev tables : List (Option (List ℕ))
  tables = table_blocks chained src glyphs tail

  -- the words that follow the sets
  abbrev tw : List ℕ
  tw = tail_words packed cover tables

  abbrev count : ℕ
  count = r.count

  abbrev first : ℕ
  first = slots + 2 * classes

  abbrev gap : ℕ
  gap = 2 * (classes - count)

  near : (8 ≤ slots) × (slots ≤ 12) × (slots ≡ 6 + 2 * length tables)
  near = (omega (arith, s, (slots_near chained).0), omega (arith, s, (slots_near chained).1), s ∙ tail_many chained src glyphs tail)

  module _ {a₁ : List ℕ} (settle : a₁ ≡ sets a₀ slots (flat (map (settled (slots + 2 * count)) (words a₀ slots count)))) where
    same₁ : length a₁ ≡ length a₀
    same₁ = ap length settle ∙ length-sets a₀ slots (flat (map (settled (slots + 2 * count)) (words a₀ slots count)))

    module _ {a₂ : List ℕ} (format : a₂ ≡ sets a₁ 0 (bytes2 2)) where
      same₂ : length a₂ ≡ length a₀
      same₂ = ap length format ∙ length-sets a₁ 0 (bytes2 2) ∙ same₁

      -- what follows the sets may be written
      pub tail_places : Places a₂ 2 4 gap r.end
      tail_places = record {
        before = omega (arith, a.start, near, s, a.some_slot, a.few);
        room = omega (arith, a.room, same₂);
        near = omega (arith, a.start);
        narrow = omega (arith, a.low);
      }

      module _ {a₃ a₄ : List ℕ} {end : ℕ} (laid : Lays packed gap r.end cover tables a₂ a₃ end) (counted : a₄ ≡ sets a₃ (slots - 2) (bytes2 count)) where
        same₄ : length a₄ ≡ length a₀
        same₄ = ap length counted ∙ length-sets a₃ (slots - 2) (bytes2 count) ∙ laid.same ∙ same₂

        -- the words before the offsets of the sets
        abbrev ot : List ℕ
        ot = tail_offsets packed (r.end - gap) cover tables

        abbrev head : List ℕ
        head = 2 ∷ (ot ++ (count ∷ []))

        head_length : 2 * length head ≡ slots
        head_length = omega (arith, length-append ot (count ∷ []), offsets_many packed (r.end - gap + 2 * length cover) tables, near.2)

        -- they are written in a row
        row : sets (sets a₂ 2 (flat ot)) (slots - 2) (bytes2 count) ≡ sets a₁ 0 (flat head)
        row =
            let two : a₂ ≡ sets a₁ 0 (flat (2 ∷ [])) = format ∙ ap (sets a₁ 0) (sym (flat_one 2)) in
            let at : slots - 2 ≡ 0 + 2 * length (2 ∷ ot) = omega (arith, offsets_many packed (r.end - gap + 2 * length cover) tables, near.2) in
            ap (λ (b : List ℕ). sets (sets b 2 (flat ot)) (slots - 2) (bytes2 count)) two
            ∙ ap (λ (b : List ℕ). sets b (slots - 2) (bytes2 count)) (sets_flat a₁ 0 (2 ∷ []) ot)
            ∙ ap (λ (i : ℕ). sets (sets a₁ 0 (flat (2 ∷ ot))) i (bytes2 count)) at
            ∙ ap (sets (sets a₁ 0 (flat (2 ∷ ot))) (0 + 2 * length (2 ∷ ot))) (sym (flat_one count))
            ∙ sets_flat a₁ 0 (2 ∷ ot) (count ∷ [])

        module _ (room : end ≤ length a₀) where
          -- and what follows the sets stands behind them
          behind : Extends (sets a₁ 0 (flat head)) r.end tw a₄ end
          behind =
              let x = extends_store (slots - 2) (bytes2 count) (laid.fits (omega (arith, same₂))) (omega (arith, a.start, near, ap length (sym (flat_one count)) ∙ flat_length (count ∷ []))) in
              subst (λ (b : List ℕ). Extends b r.end tw a₄ end) row
              (subst (λ (b : List ℕ). Extends (sets (sets a₂ 2 (flat ot)) (slots - 2) (bytes2 count)) r.end tw b end) (sym counted) x)

          header_part : part a₄ 0 slots ≡ flat head
          header_part =
              let w : Wrote a₁ 0 head (sets a₁ 0 (flat head)) slots = record { place = omega (arith, head_length); bytes = refl } in
              part_keeps (extends_keeps behind) 0 slots (omega (arith, a.start)) ∙ ap (part (sets a₁ 0 (flat head)) 0) (sym head_length)
              ∙ extends_part (wrote_extends w (omega (arith, a.start, a.room, same₁)))

          module _ (bs : List (Option (List ℕ))) (many : length bs ≡ classes) (u : Noted packed (slots_at chained) (slots_at chained + 2 * classes) bs a₀ r.end) (small : length (blocks_in packed bs) < 65535) where
            abbrev left : List (Option (List ℕ))
            left = take count bs

            abbrev os : List ℕ
            os = offsets_in packed (slots + 2 * count) left

            placed : Placed packed slots first (slots + 2 * count) count bs a₁ r.end
            placed =
                let v = rw (← s) at u in
                noted_settled v (halves_small packed bs small) (omega (arith, many)) (omega (arith, many, a.few)) settle

            long : length left ≡ count
            long = length-take-le count bs (omega (arith, many, a.few))

            between : (i n : ℕ) → slots ≤ i → i + n ≤ r.end → part a₄ i n ≡ part a₁ i n
            between i n l m = part_keeps (extends_keeps behind) i n m ∙ part_behind (flat head) a₁ 0 i n (omega (arith, flat_length head, head_length))

            offsets_part : part a₄ slots (2 * count) ≡ flat os
            offsets_part = between slots (2 * count) (omega arith) (omega (arith, a.start, a.few, s)) ∙ placed.reached

            sets_part : part a₄ first (2 * length (blocks_in packed bs)) ≡ flat (blocks_in packed bs)
            sets_part = between first (2 * length (blocks_in packed bs)) (omega arith) (omega (arith, placed.place)) ∙ placed.laid

            head_is : part a₄ 0 (slots + 2 * count) ≡ flat (head ++ os)
            head_is =
                let z : 0 + slots ≡ slots = omega arith in
                part_append a₄ 0 slots (2 * count) ∙ ap₂ (λ (x y : List ℕ). x ++ y) header_part (ap (λ (i : ℕ). part a₄ i (2 * count)) z ∙ offsets_part) ∙ sym (flat_append head os)

            rest_is : part a₄ first (end - first) ≡ flat (blocks_in packed bs ++ tw)
            rest_is =
                let n : end - first ≡ 2 * length (blocks_in packed bs) + 2 * length tw = omega (arith, behind.place, placed.place) in
                ap (part a₄ first) n ∙ part_append a₄ first (2 * length (blocks_in packed bs)) (2 * length tw)
                ∙ ap₂ (λ (x y : List ℕ). x ++ y) sets_part (ap (λ (i : ℕ). part a₄ i (2 * length tw)) (sym placed.place) ∙ extends_part behind) ∙ sym (flat_append (blocks_in packed bs) tw)

            whole : blocks_in packed left ≡ blocks_in packed bs → part a₄ 0 (slots + 2 * count) ++ part a₄ first (end - first) ≡ flat (class_table packed cover tables left)
            whole e =
                ap₂ (λ (x y : List ℕ). x ++ y) head_is rest_is ∙ sym (flat_append (head ++ os) (blocks_in packed bs ++ tw))
                ∙ ap flat (sym (table_is packed cover tables left (blocks_in packed bs) (sym long) (omega (arith, near.2)) (omega (arith, placed.place, a.few)) e))

        pub finish_table : Finished packed chained cover tables r classes a₀ a₄ end
        finish_table = record {
          same = same₄;
          place = λ l. (behind l).place;
          table = λ bs many u small left l. rw s at (whole l bs many u small left);
          near = λ l. laid.near (omega (arith, same₂));
          full = λ l f. omega (arith, laid.full (omega (arith, same₂)) f, same₂);
        }
