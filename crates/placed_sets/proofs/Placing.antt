-- Sets that are written one after the other, in either layout, with their places before them.
use Prim.Native.Nat.{ℕ, ◌+◌, ◌*◌, ◌≤◌}
use mathlib.Core.Path.{◌≡◌, refl, sym, ap, ap₂, ◌∙◌}
use mathlib.Core.Bool.{Bool, true, false, cond, ◌||◌, true≢false}
use mathlib.Core.List.{List, [], ◌∷◌, ◌++◌, append-nil, append_assoc}
use native.Mathlib.Omega.{arith}
use lib.ListN.{length, length-append}
use lib.Seq.{sets}
use Rattle.meaning.specs.Words.{bytes2, flat, eq_list}
use Rattle.meaning.specs.Tables.{drop_null}
use Rattle.meaning.specs.Layout.{offsets, blocks}
use Rattle.meaning.specs.Packed.{first_of_each, together}
use Rattle.laws.specs.Stands.{flat_length, flat_append}
use Rattle.laws.specs.Repeats.{has, list_same}
use Rattle.laws.specs.PackedReading.{shared_offsets, shared_blocks}
use Rattle.laws.specs.Written.{flat_one}
use Rattle.area.specs.Extends.{Keeps, Extends, extends_none, extends_keeps}
use Rattle.area.specs.Part.{part, part_append}
use Rattle.handing.specs.Closed.{members}
use Rattle.handing.proofs.Moved.{part_behind}
use Rattle.numbers.proofs.Fronts.{part_keeps, extends_part, extends_one}
use Rattle.member_sets.proofs.Closing.{members_append}
use Rattle.known_blocks.specs.Shared.{offsets_in, blocks_in, known, place_in, blocks_next, offsets_next}
use Rattle.placed_sets.specs.Kept.{Placed}

-- no sets
none_blocks : (packed : Bool) → blocks_in packed [] ≡ []
unfolding blocks shared_blocks drop_null first_of_each together
none_blocks false = refl
none_blocks true = refl

none_offsets : (packed : Bool) (p : ℕ) → offsets_in packed p [] ≡ []
unfolding offsets shared_offsets
none_offsets false p = refl
none_offsets true p = refl

-- one set more
module _ (packed : Bool) (bs : List (List ℕ)) (ws : List ℕ) where
  pub blocks_more : blocks_in packed (members (bs ++ (ws ∷ []))) ≡ blocks_in packed (members bs) ++ cond (known packed (members bs) ws) [] ws
  blocks_more = ap (blocks_in packed) (members_append bs (ws ∷ [])) ∙ blocks_next packed 0 (members bs) ws

  offsets_more : (p : ℕ) → offsets_in packed p (members (bs ++ (ws ∷ []))) ≡ offsets_in packed p (members bs) ++ (place_in packed p (members bs) ws ∷ [])
  offsets_more p = ap (offsets_in packed p) (members_append bs (ws ∷ [])) ∙ offsets_next packed p (members bs) ws

  -- one that stands already
  pub blocks_same : known packed (members bs) ws ≡ true → blocks_in packed (members (bs ++ (ws ∷ []))) ≡ blocks_in packed (members bs)
  blocks_same e = blocks_more ∙ ap (λ (t : Bool). blocks_in packed (members bs) ++ cond t [] ws) e ∙ append-nil (blocks_in packed (members bs))

  -- one that is new
  pub blocks_new : known packed (members bs) ws ≡ false → blocks_in packed (members (bs ++ (ws ∷ []))) ≡ blocks_in packed (members bs) ++ ws
  blocks_new e = blocks_more ∙ ap (λ (t : Bool). blocks_in packed (members bs) ++ cond t [] ws) e

  -- sets take no less with one more
  pub taken_more : length (blocks_in packed (members bs)) ≤ length (blocks_in packed (members (bs ++ (ws ∷ []))))
  taken_more = omega (arith, ap length blocks_more, length-append (blocks_in packed (members bs)) (cond (known packed (members bs) ws) [] ws))

-- a block that is among others is not longer than they are together
has_length : (b : List ℕ) (ds : List (List ℕ)) → has b ds ≡ true → length b ≤ length (together ds)
unfolding has together
has_length b [] h = absurd (true≢false (sym h))
has_length b (d ∷ ds) h = step (eq_list d b) refl h (has_length b ds)
  where
    step : (t : Bool) → eq_list d b ≡ t → t || has b ds ≡ true → (has b ds ≡ true → length b ≤ length (together ds)) → length b ≤ length (d ++ together ds)
    step true e k i = omega (arith, ap length (list_same d b e), length-append d (together ds))
    step false e k i = omega (arith, i k, length-append d (together ds))

-- a set is not longer than all that it is written with
pub taken_last : (packed : Bool) (bs : List (List ℕ)) (ws : List ℕ) → length ws ≤ length (blocks_in packed (members (bs ++ (ws ∷ []))))
unfolding shared_blocks
taken_last packed bs ws = step packed (known packed (members bs) ws) refl
  where
    step : (packed t : Bool) → known packed (members bs) ws ≡ t → length ws ≤ length (blocks_in packed (members (bs ++ (ws ∷ []))))
    step packed false e = omega (arith, ap length (blocks_new packed bs ws e), length-append (blocks_in packed (members bs)) ws)
    step false true e = absurd (true≢false (sym e))
    step true true e = omega (arith, ap length (blocks_same true bs ws e), has_length ws (first_of_each (drop_null (members bs))) e)

-- and sets take no less with others behind them
pub taken_most : (packed : Bool) (xs ys : List (List ℕ)) → length (blocks_in packed (members xs)) ≤ length (blocks_in packed (members (xs ++ ys)))
taken_most packed xs [] = omega (arith, ap (λ (l : List (List ℕ)). length (blocks_in packed (members l))) (append-nil xs))
taken_most packed xs (y ∷ ys) =
    omega (arith, taken_more packed xs y, taken_most packed (xs ++ (y ∷ [])) ys, ap (λ (l : List (List ℕ)). length (blocks_in packed (members l))) (append_assoc xs (y ∷ []) ys))

module _ {packed : Bool} {slots first : ℕ} where
  -- before the first set
  pub placed_all : {area : List ℕ} → first ≤ length area → Placed packed slots first [] area first
  unfolding flat part
  placed_all h = record {
    place = omega (arith, ap length (none_blocks packed));
    room = h;
    reached = rw (none_offsets packed first) refl;
    laid = rw (none_blocks packed) refl;
  }

  module _ {bs : List (List ℕ)} {one : List ℕ} {end : ℕ} (u : Placed packed slots first bs one end) where
    -- what was tried behind them and left nothing
    pub placed_kept : {next : List ℕ} → slots + 2 * length bs ≤ first → Keeps one end next → Placed packed slots first bs next end
    placed_kept {next} l k = record {
      place = u.place;
      room = omega (arith, u.room, k.same);
      reached = part_keeps k slots (2 * length bs) (omega (arith, u.place)) ∙ u.reached;
      laid = part_keeps k first (2 * length (blocks_in packed (members bs))) (omega (arith, u.place)) ∙ u.laid;
    }

    -- a set more, which stands at its place, and that is its offset
    module _ (g : slots + 2 * length bs + 2 ≤ first) (ws : List ℕ) {w r : ℕ} {two : List ℕ} (e : w ≡ place_in packed first (members bs) ws)
        (p : (r ≡ slots + 2 * length bs + 2) × (two ≡ sets one (slots + 2 * length bs) (bytes2 w))) where
      abbrev slot : ℕ
      slot = slots + 2 * length bs

      abbrev all : List ℕ
      all = blocks_in packed (members (bs ++ (ws ∷ [])))

      off : Extends one slot (w ∷ []) two r
      off = extends_one (extends_none (omega (arith, u.place, u.room))) w (omega (arith, u.place, u.room)) p

      behind : (n : ℕ) → part two first n ≡ part one first n
      behind n = ap (λ (s : List ℕ). part s first n) p.1 ∙ part_behind (bytes2 w) one slot first n (omega (arith, ap length (flat_one w), flat_length (w ∷ [])))

      reached_more : part two slots (2 * length (bs ++ (ws ∷ []))) ≡ flat (offsets_in packed first (members (bs ++ (ws ∷ []))))
      reached_more =
          let two-long : 2 * length (bs ++ (ws ∷ [])) ≡ 2 * length bs + 2 = omega (arith, length-append bs (ws ∷ [])) in
          ap (part two slots) two-long ∙ part_append two slots (2 * length bs) 2
          ∙ ap₂ (λ (a b : List ℕ). a ++ b) (part_keeps (extends_keeps off) slots (2 * length bs) (omega arith) ∙ u.reached) (extends_part off)
          ∙ sym (flat_append (offsets_in packed first (members bs)) (w ∷ []))
          ∙ ap flat (ap (λ (n : ℕ). offsets_in packed first (members bs) ++ (n ∷ [])) e ∙ sym (offsets_more packed bs ws first))

      -- it is equal to an earlier one
      pub placed_known : {to : ℕ} → known packed (members bs) ws ≡ true → to ≡ first + 2 * length all → Placed packed slots first (bs ++ (ws ∷ [])) two to
      placed_known k h =
          let same = blocks_same packed bs ws k in
          record {
            place = h;
            room = omega (arith, ap length same, u.place, u.room, off.same);
            reached = reached_more;
            laid = behind (2 * length all) ∙ rw same u.laid;
          }

      -- it stands behind them
      placed_new : {q to : ℕ} → known packed (members bs) ws ≡ false → Extends one end ws one q → to ≡ first + 2 * length all → Placed packed slots first (bs ++ (ws ∷ [])) two to
      placed_new k x h =
          let new = blocks_new packed bs ws k in
          let old = blocks_in packed (members bs) in
          let long : 2 * length all ≡ 2 * length old + 2 * length ws = omega (arith, ap length new, length-append old ws) in
          record {
            place = h;
            room = omega (arith, long, u.place, x.place, x.room, off.same);
            reached = reached_more;
            laid = behind (2 * length all) ∙ ap (part one first) long ∙ part_append one first (2 * length old) (2 * length ws)
                ∙ ap₂ (λ (a b : List ℕ). a ++ b) u.laid (ap (λ (i : ℕ). part one i (2 * length ws)) (sym u.place) ∙ extends_part x)
                ∙ sym (flat_append old ws) ∙ ap flat (sym new);
          }

      pub placed_one : {q to : ℕ} → Extends one end ws one q → to ≡ first + 2 * length all → Placed packed slots first (bs ++ (ws ∷ [])) two to
      placed_one {q} {to} x h = step (known packed (members bs) ws) refl
        where
          step : (t : Bool) → known packed (members bs) ws ≡ t → Placed packed slots first (bs ++ (ws ∷ [])) two to
          step true k = placed_known k h
          step false k = placed_new k x h
