-- The ways through the placing of a set.
use Prim.Native.Nat.{ℕ, ◌+◌, ◌-◌, ◌*◌, ◌/◌, ◌≤◌, ◌<◌}
use mathlib.Core.Path.{◌≡◌, refl, ap, ◌∙◌}
use mathlib.Core.Bool.{Bool, true, false, cond}
use Rattle.std.specs.Prelude.{Option, None, Some}
use mathlib.Core.List.{List, [], ◌∷◌, ◌++◌}
use native.Mathlib.Omega.{arith}
use lib.ListN.{length, length-append}
use lib.Seq.{sets, length-sets}
use lib.Dec.{eqb, ltb}
use Rattle.meaning.specs.Words.{bytes2, map_some}
use Rattle.meaning.specs.Tables.{Rule, rule_set}
use Rattle.meaning.specs.Cut.{RuleMaps, unless_empty, cut_rule, cut_set}
use Rattle.meaning.specs.Subset.{limit}
use Rattle.meaning.specs.Layout.{offsets, blocks, block, rule_words, set_words}
use Rattle.numbers.specs.Leaves.{Leaves, none_some, leaves_gone, leaves_stays}
use Rattle.kept_rules.specs.Left.{maps_in}
use Rattle.kept_rules.specs.declared.Maps.{Maps}
use Rattle.known_blocks.specs.Shared.{blocks_in, known, blocks_next}
use Rattle.known_blocks.specs.Book.{packs, Again, Settled}
use Rattle.known_blocks.specs.declared.Spot.{Spot}
use Rattle.class_spots.specs.Sets.{set_left, words_in, set_most}
use Rattle.class_spots.specs.Placing.{TurnIn, SpotAsked, PlacedSpot, SetAsked, PlacedSet}
use Rattle.class_spots.specs.declared.Turn.{Turn}
use Rattle.class_spots.proofs.Halves.{place_least}
use Rattle.class_spots.proofs.Gathering.{gathered_null, gathered_again, set_behind, gathered_set}

-- what is left of a set has a count and an offset
set_two : (chained : Bool) (m : RuleMaps) (s : List ℕ) (at : ℕ) {ws : List ℕ} → set_left chained m s at ≡ Some ws → 2 ≤ length ws
unfolding set_left cut_set unless_empty block set_words offsets blocks words_in
set_two chained m s at {ws} e = step (eqb at 0) (map_some (cut_rule chained m) (rule_set chained s at)) e
  where
    step : (t : Bool) (rs : List Rule) → cond t None (block (set_words (rule_words chained)) (unless_empty rs)) ≡ Some ws → 2 ≤ length ws
    step true rs f = absurd (none_some refl f)
    step false [] f = absurd (none_some refl f)
    step false (r ∷ rs) f = omega (arith, ap (λ (o : Option (List ℕ)). length (words_in o)) f)

module _ {turn : Turn} {q : ℕ} {area book : List ℕ} (a : SpotAsked turn q area book) {after : List ℕ} {spot : Spot} (s : Settled area turn.first turn.pos q turn.at book after spot) where
  -- a spot is not before the first
  pub spot_least : (spot.at ≡ 0 → ⊥) → turn.first ≤ spot.at
  spot_least n = omega (arith, (s.near a.done a.block a.behind n).0, place_least (packs after) a.done a.block turn.first)

  -- the set starts too far behind the first
  pub spot_far : {r : ℕ} → spot.at ≡ 0 → length area < r → PlacedSpot turn q area book area after r
  spot_far z l = record {
    same = refl;
    alike = s.same;
    near = λ m. absurd (omega arith);
    far = λ bs b h m n.
        let mode : packs after ≡ packs book = ap (ltb 1) s.same in
        let low : 0 < turn.first = omega (arith, a.turn_in.slot) in
        (s.far z low, rw mode at (s.unknown bs b h z low));
  }

  -- it stands at the spot
  pub spot_near : {two : List ℕ} {r : ℕ} → (spot.at ≡ 0 → ⊥) → (r ≡ turn.slot + 2) × (two ≡ sets area turn.slot (bytes2 ((spot.at - turn.first) / 2 + 1))) → PlacedSpot turn q area book two after spot.end
  spot_near n p = record {
    same = ap length p.1 ∙ length-sets area turn.slot (bytes2 ((spot.at - turn.first) / 2 + 1));
    alike = s.same;
    near = λ m. record { spot = spot; there = n; settled = s; put = p.1; end = refl };
    far = λ bs b h l m.
        let mode : packs after ≡ packs book = ap (ltb 1) s.same in
        let ends : spot.end ≡ turn.first + 2 * length (blocks_in (packs book) (bs ++ (Some b ∷ []))) = rw mode at (s.near bs b h n).1 in
        absurd (omega (arith, ends, h.place, h.end, ap length (blocks_next (packs book) 0 bs b), length-append (blocks_in (packs book) bs) (cond (known (packs book) bs b) [] b), most (known (packs book) bs b) b));
  }
    where
      most : (t : Bool) (b : List ℕ) → length (cond t [] b) ≤ length b
      most true b = omega arith
      most false b = omega arith

module _ {chained : Bool} {s t : List ℕ} {maps : Maps} {turn : Turn} {area book : List ℕ} (a : SetAsked chained s t maps turn area book) where
  abbrev left : ℕ → Option (List ℕ)
  left = set_left chained (maps_in t maps) s

  abbrev i : TurnIn turn area book
  i = a.turn_in

  -- an earlier set is not before the first
  pub again_least : {at : ℕ} → Again book turn.first turn.at at → (at ≡ 0 → ⊥) → turn.first ≤ at
  again_least h n =
      let g = a.gathered in
      let x = h.found {left = left} a.sets (rw g.mode g.booked) n in
      omega (arith, x.at, place_least (packs book) a.sets x.words turn.first)

  -- the book has a set from its place of the source
  pub placed_again : {at r : ℕ} {two : List ℕ} → Again book turn.first turn.at at → (at ≡ 0 → ⊥) → (r ≡ turn.slot + 2) × (two ≡ sets area turn.slot (bytes2 ((at - turn.first) / 2 + 1))) → PlacedSet chained s t maps turn area book two book turn.pos
  placed_again {at} h n p = record {
    same = ap length p.1 ∙ length-sets area turn.slot (bytes2 ((at - turn.first) / 2 + 1));
    alike = refl;
    null = λ g e z. absurd (omega (arith, i.slot, i.start));
    there = λ {packed} {slots} {bs} g e m l.
        let x = h.found {left = left} bs (rw g.mode g.booked) n in
        record { words = x.words; is = x.is; gathered = gathered_again g e i.slot x p };
    full = λ g l. absurd (omega (arith, i.room));
  }

  module _ {q : ℕ} {one : List ℕ} (w : Leaves area turn.pos (left turn.at) (set_most (left turn.at) s) one q) where
    -- nothing is left of it
    pub placed_null : {r : ℕ} {two : List ℕ} → q ≡ 0 → (r ≡ turn.slot + 2) × (two ≡ sets one turn.slot (bytes2 0)) → PlacedSet chained s t maps turn area book two book 0
    placed_null z p =
        let g = leaves_gone w (omega (arith, i.slot, i.start)) z in
        record {
          same = ap length p.1 ∙ length-sets one turn.slot (bytes2 0) ∙ w.same;
          alike = refl;
          null = λ u e y. (g.0, gathered_null u e i.slot g.1 p);
          there = λ u e n l. absurd (n refl);
          full = λ u l. absurd (omega arith);
        }

    -- there is no room for it
    pub placed_full : length one < q → PlacedSet chained s t maps turn area book one book q
    unfolding set_most limit
    placed_full l = record {
      same = w.same;
      alike = refl;
      null = λ u e z. absurd (omega arith);
      there = λ u e n m. absurd (omega (arith, w.same));
      full = λ u m k most h j. omega (arith, w.full m, a.low, a.short);
    }

    module _ (n : q ≡ 0 → ⊥) (l : q ≤ length one) where
      -- it ends behind where it starts
      pub set_after : turn.pos ≤ q
      set_after = omega (arith, (leaves_stays w n (omega (arith, w.same))).extends.place)

      -- it is too long
      pub placed_long : {r : ℕ} → 65535 < q - turn.pos → length one < r → PlacedSet chained s t maps turn area book one book r
      unfolding words_in
      placed_long h m =
          let x = leaves_stays w n (omega (arith, w.same)) in
          record {
            same = w.same;
            alike = refl;
            null = λ u e z. absurd (omega arith);
            there = λ u e y k. absurd (omega (arith, w.same));
            full = λ u y k most d j. omega (arith, x.extends.place, ap (λ (o : Option (List ℕ)). length (words_in o)) x.is);
          }

      pub spot_asked : q - turn.pos ≤ 65535 → SpotAsked turn q one book
      spot_asked h =
          let x = leaves_stays w n (omega (arith, w.same)) in
          let near : q ≤ turn.pos + 131076 = omega arith in
          record {
            turn_in = record { source = i.source; slot = i.slot; start = i.start; near = i.near; low = i.low; room = omega (arith, i.room, w.same); count = i.count };
            near = near;
            left = left;
            done = a.sets;
            block = x.words;
            behind = set_behind a.gathered x.extends x.is (set_two chained (maps_in t maps) s turn.at x.is) near (a.words x.is (omega (arith, x.extends.place)));
          }

      -- it was written, and has its spot
      pub placed_spot : {r : ℕ} {two after : List ℕ} → q - turn.pos ≤ 65535 → PlacedSpot turn q one book two after r → PlacedSet chained s t maps turn area book two after r
      placed_spot h p =
          let x = leaves_stays w n (omega (arith, w.same)) in
          let near : q ≤ turn.pos + 131076 = omega arith in
          let long : 2 ≤ length x.words = set_two chained (maps_in t maps) s turn.at x.is in
          let small = a.words x.is (omega (arith, x.extends.place)) in
          record {
            same = p.same ∙ w.same;
            alike = p.alike;
            null = λ u e z.
                let y = p.near (omega arith) in
                absurd (omega (arith, y.end, (gathered_set u x.extends x.is long near small e i.slot y.settled y.there (refl, y.put)).noted.place, i.slot));
            there = λ u e m k.
                let y = p.near (omega (arith, w.same)) in
                record { words = x.words; is = x.is; gathered = rw y.end (gathered_set u x.extends x.is long near small e i.slot y.settled y.there (refl, y.put)) };
            full = λ {packed} {slots} {bs} u m k most d j. omega (arith, p.far bs x.words (set_behind u x.extends x.is long near small) l (omega (arith, w.same)));
          }
