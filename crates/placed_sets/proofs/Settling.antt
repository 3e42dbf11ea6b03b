-- One set more: what is asked of the book where it was written, and what became of it.
use Prim.Native.Nat.{ℕ, ◌+◌, ◌-◌, ◌*◌, ◌≤◌, ◌<◌}
use mathlib.Core.Path.{◌≡◌, refl, sym, ap, ◌∙◌}
use mathlib.Core.Bool.{Bool, true, false, cond, true≢false}
use Rattle.std.specs.Prelude.{Option, None, Some}
use mathlib.Core.List.{List, [], ◌∷◌, ◌++◌, append-nil}
use native.Mathlib.Omega.{arith}
use lib.ListN.{length, length-append}
use lib.Seq.{sets, length-sets}
use lib.Dec.{ltb}
use Rattle.meaning.specs.Words.{bytes2, push}
use Rattle.meaning.specs.Tables.{drop_null}
use Rattle.meaning.specs.Packed.{first_of_each, together}
use Rattle.meaning.specs.Subset.{limit}
use Rattle.laws.specs.Stands.{All, Word, Stands, all_append}
use Rattle.laws.specs.Repeats.{has}
use Rattle.laws.specs.PackedReading.{shared_blocks}
use Rattle.room.specs.Laid.{enough_area}
use Rattle.area.specs.Extends.{Keeps, Extends, extends_keeps, extends_stands}
use Rattle.handing.specs.Closed.{members}
use Rattle.numbers.specs.Leaves.{Leaves, leaves_gone, leaves_stays}
use Rattle.numbers.proofs.Fronts.{part_extends, extends_part}
use Rattle.member_sets.proofs.Closing.{members_append}
use Rattle.known_blocks.specs.Shared.{blocks_in, known, firsts_next}
use Rattle.known_blocks.specs.Book.{packs, in_book, Begun, Repeated, Again, Behind, Settled}
use Rattle.known_blocks.specs.declared.Spot.{Spot}
use Rattle.placed_sets.specs.Sorts.{left_words, most_of}
use Rattle.placed_sets.specs.Kept.{Placed, Roomy, Standing, TurnInside, Next, KeptSet, Stood, PlacedSet}
use Rattle.placed_sets.specs.declared.Turn.{Turn}
use Rattle.placed_sets.proofs.Placing.{blocks_more, blocks_same, taken_more, taken_last, placed_all, placed_kept, placed_known, placed_one}

-- a book of the same length is for the same layout, and has as much room
pub packs_same : (before after : List ℕ) → length after ≡ length before → packs before ≡ packs after
packs_same before after e = ap (ltb 1) (sym e)

roomy_same : (before after : List ℕ) → length after ≡ length before → Roomy before → Roomy after
roomy_same before after e r = λ h. omega (arith, r (packs_same before after e ∙ h))

-- the sets of the book, with one more
module _ (bs : List (List ℕ)) (ws : List ℕ) where
  abbrev firsts : List (List ℕ)
  firsts = first_of_each (drop_null (members bs))

  firsts_more : in_book true (members (bs ++ (ws ∷ []))) ≡ firsts ++ cond (has ws firsts) [] (ws ∷ [])
  firsts_more = ap (λ (l : List (Option (List ℕ))). first_of_each (drop_null l)) (members_append bs (ws ∷ [])) ∙ firsts_next true 0 (members bs) ws

  -- their words fit
  small_more : All Word (blocks_in true (members bs)) → (known true (members bs) ws ≡ false → All Word ws) → All Word (blocks_in true (members (bs ++ (ws ∷ []))))
  small_more h k = rw (blocks_more true bs ws) (all_append Word (blocks_in true (members bs)) (cond (known true (members bs) ws) [] ws) h (step (known true (members bs) ws) refl))
    where
      step : (t : Bool) → known true (members bs) ws ≡ t → All Word (cond t [] ws)
      step true e = tt
      step false e = k e

  -- none has less than two
  two_more : 2 * length (in_book true (members bs)) ≤ length (blocks_in true (members bs)) → 2 ≤ length ws → 2 * length (in_book true (members (bs ++ (ws ∷ [])))) ≤ length (blocks_in true (members (bs ++ (ws ∷ []))))
  two_more h k = omega (arith, ap length firsts_more, ap length (blocks_more true bs ws), length-append firsts (cond (has ws firsts) [] (ws ∷ [])), length-append (blocks_in true (members bs)) (cond (has ws firsts) [] ws), step (has ws firsts))
    where
      step : (t : Bool) → 2 * length (cond t [] (ws ∷ [])) ≤ length (cond t [] ws)
      step true = omega arith
      step false = omega arith

module _ {left : ℕ → Option (List ℕ)} {slots first : ℕ} where
  -- before the first set
  pub standing_all : {area before book : List ℕ} → Begun before book → Roomy before → first ≤ length area → Standing left slots first [] area book first
  unfolding shared_blocks drop_null first_of_each together
  standing_all {area} {before} {book} b r h = record { placed = placed_all h; booked = b.empty left; small = λ k. tt; two = λ k. omega arith; roomy = roomy_same before book b.same r }

  -- what was tried behind them and left nothing
  pub standing_kept : {bs : List (List ℕ)} {area book next : List ℕ} {end : ℕ} → Standing left slots first bs area book end → slots + 2 * length bs ≤ first → Keeps area end next → Standing left slots first bs next book end
  standing_kept s l k = record { placed = placed_kept s.placed l k; booked = s.booked; small = s.small; two = s.two; roomy = s.roomy }

-- the sets stand in an area where their words fit
placed_stands : {packed : Bool} {slots first : ℕ} {bs : List (List ℕ)} {area : List ℕ} {end : ℕ} → packed ≡ true → Placed packed slots first bs area end → All Word (blocks_in true (members bs)) → Stands area first (blocks_in true (members bs))
placed_stands {packed} {slots} {first} {bs} {area} {end} e u h =
    let v : Placed true slots first bs area end = rw e at u in
    extends_stands (part_extends (blocks_in true (members bs)) v.place v.room v.laid) h

module _ {left : ℕ → Option (List ℕ)} {slots : ℕ} {bs : List (List ℕ)} {area book : List ℕ} {turn : Turn} (n : Next left slots bs area book turn) where
  -- One that stands already is put there.
  stood_again : {w r : ℕ} {two : List ℕ} → Repeated left (members bs) book turn.first turn.at w → (r ≡ turn.slot + 2) × (two ≡ sets area turn.slot (bytes2 w)) → Stood left slots bs turn two book turn.pos
  stood_again {w} {r} {two} f p =
      let s = n.standing in
      let same = blocks_same (packs book) bs f.words f.again in
      record {
        words = f.words;
        is = f.is;
        standing = record {
          placed = placed_known s.placed (omega (arith, n.slot, n.apart)) f.words f.at (rw n.slot at p) f.again (omega (arith, ap length same, s.placed.place));
          booked = rw (members_append bs (f.words ∷ [])) f.booked;
          small = λ h. small_more bs f.words (s.small h) (λ e. absurd (true≢false (sym (rw h at f.again) ∙ e)));
          two = λ h. two_more bs f.words (s.two h) (n.small.two f.is);
          roomy = s.roomy;
        };
      }

  again_stood : {w r : ℕ} {two : List ℕ} → Again book turn.first turn.at w → (w ≡ 0 → ⊥) → (r ≡ turn.slot + 2) × (two ≡ sets area turn.slot (bytes2 w)) → Stood left slots bs turn two book turn.pos
  again_stood a z p = stood_again (a.found (members bs) n.standing.booked z) p

  -- One that went, with what was tried behind them.
  next_kept : {one : List ℕ} → Keeps area turn.pos one → Next left slots bs one book turn
  next_kept k = record { standing = standing_kept n.standing (omega (arith, n.slot, n.apart)) k; slot = n.slot; apart = n.apart; small = n.small }

  -- There is no room for it.
  too_much : (o : Option (List ℕ)) (s : List ℕ) → length s ≤ limit → turn.first ≤ 131080 → length area < turn.pos + most_of o s → enough_area ≤ length area → 65528 ≤ 2 * length (blocks_in (packs book) (members (bs ++ push o [])))
  unfolding most_of left_words push limit
  too_much None s l f h a = omega (arith, n.standing.placed.place, ap (λ (d : List (List ℕ)). length (blocks_in (packs book) (members d))) (append-nil bs))
  too_much (Some ws) s l f h a = omega (arith, n.standing.placed.place, taken_more (packs book) bs ws, taken_last (packs book) bs ws)

  -- One that was written behind them.
  module _ (b : List ℕ) (from : left turn.at ≡ Some b) {q : ℕ} (x : Extends area turn.pos b area q) where
    -- it is longer than any that is kept, or it starts too far behind the first
    too_long : 65535 < q - turn.pos → 65528 ≤ 2 * length (blocks_in (packs book) (members (bs ++ (b ∷ []))))
    too_long h = omega (arith, x.place, taken_last (packs book) bs b)

    too_far : turn.first + 65535 < turn.pos → 65528 ≤ 2 * length (blocks_in (packs book) (members (bs ++ (b ∷ []))))
    too_far h = omega (arith, n.standing.placed.place, taken_more (packs book) bs b)

    module _ (short : q - turn.pos ≤ 65535) where
      behind : Behind left (members bs) b area turn.first turn.pos q turn.at book
      behind =
          let s = n.standing in
          let two : 2 ≤ length b = n.small.two from in
          record {
            booked = s.booked;
            place = s.placed.place;
            end = x.place;
            some_word = omega arith;
            laid = λ h. placed_stands h s.placed (s.small h);
            last = λ h. extends_stands x (n.small.fit from (omega (arith, x.place)));
            from = from;
            room = λ h l. omega (arith, s.two h, s.roomy h, s.placed.place, ap (λ (t : Bool). length (blocks_in t (members bs))) h);
            few = λ h l. omega (arith, s.two h, s.placed.place, ap (λ (t : Bool). length (blocks_in t (members bs))) h);
          }

      standing_one : {after two : List ℕ} {spot : Spot} {r : ℕ} → Settled area turn.first turn.pos q turn.at book after spot → (spot.at ≡ 0 → ⊥) → (r ≡ turn.slot + 2) × (two ≡ sets area turn.slot (bytes2 spot.at))
          → Standing left slots turn.first (bs ++ (b ∷ [])) two after spot.end
      standing_one {after} {two} {spot} {r} e z p =
          let s = n.standing in
          let packs-is : packs book ≡ packs after = packs_same book after e.same in
          let near = e.near (members bs) b behind z in
          let more = members_append bs (b ∷ []) in
          record {
            placed = placed_one (rw packs-is at s.placed) (omega (arith, n.slot, n.apart)) b near.0 (rw n.slot at p) x (near.1 ∙ ap (λ (l : List (Option (List ℕ))). turn.first + 2 * length (blocks_in (packs after) l)) (sym more));
            booked = rw more near.2;
            small = λ h. small_more bs b (s.small (packs-is ∙ h)) (λ k. n.small.fit from (omega (arith, x.place)));
            two = λ h. two_more bs b (s.two (packs-is ∙ h)) (n.small.two from);
            roomy = roomy_same book after e.same s.roomy;
          }

-- What became of one that was written.
module _ {turn : Turn} {q : ℕ} {area book : List ℕ} where
  pub kept_long : {r : ℕ} → 65535 < q - turn.pos → length area < r → KeptSet turn q area book area book r
  kept_long h l = record { same = refl; size = refl; next = λ n b f x k. absurd (omega arith); full = λ n b f x k. too_long n b f x h }

  module _ {after : List ℕ} {spot : Spot} (e : Settled area turn.first turn.pos q turn.at book after spot) where
    pub kept_far : {r : ℕ} → turn.slot + 2 ≤ turn.first → spot.at ≡ 0 → length area < r → KeptSet turn q area book area after r
    kept_far g z l = record { same = refl; size = e.same; next = λ n b f x k. absurd (omega arith); full = λ n b f x k. too_far n b f x (e.far z (omega arith)) }

    pub kept_one : {two : List ℕ} {r : ℕ} → q - turn.pos ≤ 65535 → (spot.at ≡ 0 → ⊥) → (r ≡ turn.slot + 2) × (two ≡ sets area turn.slot (bytes2 spot.at)) → KeptSet turn q area book two after spot.end
    kept_one {two} {r} h z p =
        let long : length two ≡ length area = ap length p.1 ∙ (simp length-sets) in
        record {
          same = long;
          size = e.same;
          next = λ n b f x k. standing_one n b f x h e z p;
          full = λ n b f x k. absurd (omega (arith, (standing_one n b f x h e z p).placed.room));
        }

-- One of which something is left can be kept.
pub may_keep : {turn : Turn} {area book one : List ℕ} {o : Option (List ℕ)} {m q : ℕ} → TurnInside area book turn → Leaves area turn.pos o m one q → (q ≡ 0 → ⊥) → q ≤ length one → TurnInside one book turn × (turn.pos ≤ q) × (q ≤ length one)
may_keep i w z l =
    let g = leaves_stays w z (omega (arith, w.same)) in
    (record { counted = i.counted; from = i.from; slot = i.slot; behind = i.behind; room = omega (arith, i.room, w.same); short = omega (arith, i.short, w.same) }, omega (arith, g.extends.place), l)

-- What became of one turn's set.
module _ {left : ℕ → Option (List ℕ)} {turn : Turn} {area book : List ℕ} (i : TurnInside area book turn) where
  -- it stands already
  pub placed_again : {w r : ℕ} {two : List ℕ} → Again book turn.first turn.at w → (w ≡ 0 → ⊥) → (r ≡ turn.slot + 2) × (two ≡ sets area turn.slot (bytes2 w)) → PlacedSet left turn area book two book turn.pos
  placed_again a z p = record {
    same = ap length p.1 ∙ (simp length-sets);
    size = refl;
    gone = λ n y. absurd (omega (arith, i.slot, i.behind));
    next = λ n y l. again_stood n a z p;
    full = λ n f l g. absurd (omega (arith, i.room));
  }

  module _ (s : List ℕ) {one : List ℕ} {q : ℕ} (w : Leaves area turn.pos (left turn.at) (most_of (left turn.at) s) one q) where
    -- nothing is left of it
    pub placed_gone : q ≡ 0 → PlacedSet left turn area book one book 0
    placed_gone z =
        let g = leaves_gone w (omega (arith, i.slot, i.behind)) z in
        record {
          same = w.same;
          size = refl;
          gone = λ n y. (g.0, (next_kept n g.1).standing);
          next = λ n y l. absurd (y refl);
          full = λ n f l g. absurd (omega arith);
        }

    -- there is no room for it
    pub placed_full : length s ≤ limit → length one < q → PlacedSet left turn area book one book q
    placed_full h v = record {
      same = w.same;
      size = refl;
      gone = λ n y. absurd (omega arith);
      next = λ n y l. absurd (omega (arith, w.same));
      full = λ n f l g. too_much n (left turn.at) s h f (w.full (omega (arith, w.same))) g;
    }

    -- it is kept
    pub placed_kept_set : {two after : List ℕ} {r : ℕ} → (q ≡ 0 → ⊥) → q ≤ length one → KeptSet turn q one book two after r → PlacedSet left turn area book two after r
    unfolding push
    placed_kept_set {two} {after} {r} z l k =
        let g = leaves_stays w z (omega (arith, w.same)) in
        let keeps = extends_keeps g.extends in
        let x : Extends one turn.pos g.words one q = part_extends g.words g.extends.place l (extends_part g.extends) in
        record {
          same = k.same ∙ w.same;
          size = k.size;
          gone = λ n y. absurd (omega (arith, (k.next (next_kept n keeps) g.words g.is x (omega arith)).placed.place, i.slot));
          next = λ n y h. record { words = g.words; is = g.is; standing = k.next (next_kept n keeps) g.words g.is x (omega (arith, w.same)) };
          full = λ n f h a. rw g.is (k.full (next_kept n keeps) g.words g.is x (omega (arith, w.same)));
        }
