-- The turns of the loop over the classes.
use Prim.Native.Nat.{ℕ, ◌+◌, ◌*◌, ◌≤◌, ◌<◌}
use mathlib.Core.Path.{◌≡◌, refl, sym, ap, ◌∙◌}
use mathlib.Core.Bool.{Bool, true, false, cond}
use Rattle.std.specs.Prelude.{Option, None, Some}
use mathlib.Core.List.{List, ◌∷◌, map}
use native.Mathlib.Omega.{arith}
use lib.ListN.{length}
use lib.Dec.{leb, ltb}
use borrow.Author.Tests.{leb-false}
use Rattle.meaning.specs.Words.{word, is_some, member}
use Rattle.meaning.specs.Fault.{rule_fault, set_fault}
use Rattle.meaning.specs.Cut.{cut_set}
use Rattle.meaning.specs.Layout.{block, rule_words, set_words}
use Rattle.room.specs.Laid.{enough_area}
use Rattle.known_blocks.specs.Shared.{blocks_in}
use Rattle.known_blocks.specs.Book.{book_cells, packs, Begun}
use Rattle.bits.specs.Bits.{marked}
use Rattle.cell_maps.specs.Cells.{folded}
use Rattle.cell_maps.specs.declared.Map.{Map}
use Rattle.kept_rules.specs.Left.{maps_in}
use Rattle.kept_rules.specs.declared.Maps.{Maps}
use Rattle.ranked_maps.specs.Present.{top_of, top_small, present, present_in}
use Rattle.class_spots.specs.SlotWalk.{slots_from, walk_all, walk_one, walk_none, walk_end}
use Rattle.class_places.specs.Places.{slots_at, slots_near}
use Rattle.class_spots.specs.Sets.{count_at, set_place, set_left, SetSound, Asked, place_slot}
use Rattle.class_spots.specs.Slots.{sets_full, marked_of, sets_in, slot_blocks, Ready, WroteSlots, blocks_many, present_few, marked_member}
use Rattle.class_spots.specs.Placing.{SetAsked}
use Rattle.class_spots.specs.declared.Classes.{Classes}
use Rattle.class_spots.specs.declared.Slots.{Slots}
use Rattle.class_spots.proofs.Noting.{noted_moved}
use Rattle.class_spots.proofs.Gathering.{gathered_count}
use Rattle.class_slots.proofs.Filling.{Filling, filling_all, filling_said, filling_few, filling_end}

-- a class has an entry just if it is found
pub is_found : {o : Option ℕ} {n : ℕ} → Some n ≡ o → is_some o ≡ true
unfolding is_some
is_found e = rw (← e)

pub not_found : {o : Option ℕ} → None ≡ o → is_some o ≡ false
unfolding is_some
not_found e = rw (← e)

-- the blocks of the slots of the classes from c on
abbrev pub blocks_from : Bool → List ℕ → List ℕ → Maps → ℕ → ℕ → List (Option (List ℕ))
blocks_from chained s t maps marks c = map (block (set_words (rule_words chained))) (slots_from (cut_set chained (maps_in t maps)) (marked_of t marks (present t maps.input)) (sets_in chained s t maps marks) t maps.input c)

-- what the loop keeps
pub record Turning (packed chained : Bool) (s t : List ℕ) (maps : Maps) (marks slots first : ℕ) (area₀ area : List ℕ) (h k p c : ℕ) (book : List ℕ) : Type 0 where
  pub within : c ≤ top_of maps.input + 1
  pub few : k ≤ 65536
  pub filling : Filling packed chained s t maps (slot_blocks chained s t maps marks) slots first (blocks_from chained s t maps marks c) area₀ area h k p book

module _ {chained : Bool} {s t : List ℕ} {maps : Maps} {classes : Classes} (a : Ready chained s t maps classes) {slots first : ℕ} (e : slots ≡ slots_at chained) (f : first ≡ slots + 2 * classes.count) where
  abbrev marks : ℕ
  marks = classes.marks

  abbrev all : List (Option (List ℕ))
  all = slot_blocks chained s t maps marks

  -- there is a slot for each class
  pub as_many : length all ≡ classes.count
  as_many = blocks_many chained s t maps marks ∙ sym a.number

  pub few_classes : classes.count ≤ 65536
  few_classes = omega (arith, a.number, top_small maps.input a.few, present_few t maps.input 0 (top_of maps.input + 1))

  -- what is asked to find the set of a class, and that the set is sound
  pub asked : {c : ℕ} → c ≤ top_of maps.input → Asked s slots marks c
  asked h = record {
    header = rw e a.header;
    count = omega (arith, e, slots_near chained);
    low = omega (arith, e, slots_near chained);
    near = a.near;
    small = omega (arith, top_small maps.input a.few);
  }

  set_sound : (c : ℕ) {at : ℕ} → at ≡ set_place s slots t marks c → SetSound chained s at
  unfolding set_place
  set_sound c {at} g = record { sound = λ z. step (leb (count_at s slots) c) refl (marked t marks c) g z }
    where
      step : (b : Bool) → leb (count_at s slots) c ≡ b → (d : Bool) → at ≡ cond b 0 (cond d (word s (slots + 2 * c)) 0) → (at ≡ 0 → ⊥) → set_fault (rule_fault chained s) s at ≡ None
      step true l d g z = absurd (z g)
      step false l false g z = absurd (z g)
      step false l true g z =
          let w : at ≡ word s (slots_at chained + 2 * c) = rw e at g in
          let n : c < count_at s (slots_at chained) = rw e at (leb-false (count_at s slots) c l) in
          rw w (a.sets c n (λ q. z (w ∙ q)))

  module _ {packed : Bool} where
    done_few : {left : List (Option (List ℕ))} {area₀ area : List ℕ} {h k p : ℕ} {book : List ℕ} → Filling packed chained s t maps all slots first left area₀ area h k p book → k ≤ 65536
    done_few c = omega (arith, filling_few packed chained s t maps all slots first c, as_many, few_classes)

    pub turning_all : {area before book : List ℕ} → first ≤ length area → packs before ≡ packed → Begun before book → (packed ≡ true → book_cells ≤ length before) → Turning packed chained s t maps marks slots first area area 0 0 first 0 book
    turning_all {book = book} l m b n =
        let same : packs book ≡ packed = ap (ltb 1) b.same ∙ m in
        record {
          within = omega arith;
          few = omega arith;
          filling = filling_all packed chained s t maps all slots first begins (omega (arith, e, f, slots_near chained)) (omega (arith, f, as_many)) l same (rw same at (b.empty (set_left chained (maps_in t maps) s))) (λ p. omega (arith, n p, b.same));
        }
      where
        begins : blocks_from chained s t maps marks 0 ≡ all
        begins = ap (map (block (set_words (rule_words chained)))) (walk_all (cut_set chained (maps_in t maps)) (marked_of t marks (present t maps.input)) (sets_in chained s t maps marks) t maps.input)

    -- there is no room for the slots
    pub wrote_short : {area₀ : List ℕ} {end : ℕ} → length area₀ < first → length area₀ < end → WroteSlots packed chained s t maps marks area₀ area₀ (record { count = 0; end = end })
    wrote_short h l = record { same = refl; done = λ k. absurd (omega arith); full = λ k m. absurd (omega (arith, few_classes, e, f, slots_near chained)) }

    module _ {area₀ area : List ℕ} {h k p c : ℕ} {book : List ℕ} (i : Turning packed chained s t maps marks slots first area₀ area h k p c book) where
      -- a class that has no entry
      pub turning_skip : c ≤ top_of maps.input → is_some (folded t maps.input c) ≡ false → Turning packed chained s t maps marks slots first area₀ area h k p (c + 1) book
      turning_skip l n = record {
        within = omega arith;
        few = i.few;
        filling = filling_said packed chained s t maps all slots first i.filling
            (ap (map (block (set_words (rule_words chained)))) (walk_none (cut_set chained (maps_in t maps)) (marked_of t marks (present t maps.input)) (sets_in chained s t maps marks) t maps.input c l n));
      }

      module _ (l : c ≤ top_of maps.input) (n : is_some (folded t maps.input c) ≡ true) {at : ℕ} (g : (at ≡ set_place s slots t marks c) × (at < 65536)) where
        -- one that has: its slot comes next
        pub turning_here : Filling packed chained s t maps all slots first (set_left chained (maps_in t maps) s at ∷ blocks_from chained s t maps marks (c + 1)) area₀ area h k p book
        turning_here =
            let w : at ≡ set_place s (slots_at chained) t marks c = rw e at g.0 in
            let has : member c (present t maps.input) ≡ true = present_in t maps.input 0 (top_of maps.input + 1) c (omega arith) (omega arith) ∙ n in
            filling_said packed chained s t maps all slots first i.filling
            (ap (map (block (set_words (rule_words chained)))) (walk_one (cut_set chained (maps_in t maps)) (marked_of t marks (present t maps.input)) (sets_in chained s t maps marks) t maps.input c l n)
            ∙ ap (λ (o : Option (List ℕ)). o ∷ blocks_from chained s t maps marks (c + 1)) (sym (ap (set_left chained (maps_in t maps) s) w ∙ place_slot chained (maps_in t maps) s (slots_at chained) t marks c (marked_of t marks (present t maps.input)) (marked_member t marks c (present t maps.input) has))))

        -- what is asked to place its set
        pub turn_asked : SetAsked chained s t maps (record { at = at; slot = slots + 2 * k; first = first; pos = p }) area book
        turn_asked =
            let j = turning_here in
            let u = i.filling.gathered in
            record {
              turn_in = record {
                source = g.1;
                slot = omega (arith, filling_few packed chained s t maps all slots first j, i.filling.places);
                start = omega (arith, u.noted.place);
                near = u.near;
                low = omega (arith, e, f, few_classes, slots_near chained);
                room = u.noted.room;
                count = gathered_count u;
              };
              low = omega (arith, e, f, few_classes, slots_near chained);
              packed = packed;
              slots = slots;
              sets = i.filling.done;
              gathered = u;
              sound = set_sound c g.0;
              short = a.short;
              inside = a.inside;
              words = a.words at (set_sound c g.0);
            }

      pub turned : {next after : List ℕ} {g q : ℕ} → c ≤ top_of maps.input → Filling packed chained s t maps all slots first (blocks_from chained s t maps marks (c + 1)) area₀ next g (k + 1) q after
          → Turning packed chained s t maps marks slots first area₀ next g (k + 1) q (c + 1) after
      turned l j = record { within = omega arith; few = done_few j; filling = j }

      -- there is no room for a set
      pub wrote_full : {one : List ℕ} {q : ℕ} → length one ≡ length area → length one < q → (enough_area ≤ length area₀ → sets_full ≤ 2 * length (blocks_in packed all))
          → WroteSlots packed chained s t maps marks area₀ one (record { count = 0; end = q })
      wrote_full w l g = record { same = w ∙ i.filling.same; done = λ k. absurd (omega (arith, w, i.filling.same)); full = λ k m. g m }

      -- all are written
      pub wrote_all : top_of maps.input < c → WroteSlots packed chained s t maps marks area₀ area (record { count = h; end = p })
      wrote_all l =
          let none_left = ap (map (block (set_words (rule_words chained)))) (walk_end (cut_set chained (maps_in t maps)) (marked_of t marks (present t maps.input)) (sets_in chained s t maps marks) t maps.input c l) in
          let w = filling_end packed chained s t maps all slots first i.filling none_left in
          let g : first ≡ slots_at chained + 2 * length all = omega (arith, as_many, e, f) in
          record {
            same = i.filling.same;
            done = λ k. record { noted = noted_moved e g w.0; few = w.1; head = w.2 };
            full = λ k m. absurd (omega (arith, w.0.room, i.filling.same));
          }

-- the same layout, said otherwise
pub wrote_said : {packed other chained : Bool} {s t : List ℕ} {maps : Maps} {marks : ℕ} {area₀ area : List ℕ} {r : Slots} → packed ≡ other → WroteSlots packed chained s t maps marks area₀ area r → WroteSlots other chained s t maps marks area₀ area r
wrote_said e w = rw e at w
