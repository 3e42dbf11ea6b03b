-- Slots that are written one after the other, with their blocks behind them.
use Prim.Native.Nat.{ℕ, ◌+◌, ◌-◌, ◌*◌, ◌/◌, ◌≤◌}
use mathlib.Core.Path.{◌≡◌, refl, sym, ap, ap₂, ◌∙◌}
use mathlib.Core.Bool.{Bool, true, false, cond}
use Rattle.std.specs.Prelude.{Option, None, Some}
use mathlib.Core.List.{List, [], ◌∷◌, ◌++◌, append-nil}
use native.Mathlib.Omega.{arith}
use lib.ListN.{length, length-append}
use lib.Seq.{sets}
use Rattle.meaning.specs.Words.{bytes2, flat}
use Rattle.meaning.specs.Tables.{drop_null}
use Rattle.meaning.specs.Layout.{offsets, blocks}
use Rattle.meaning.specs.Packed.{first_of_each, together}
use Rattle.laws.specs.Stands.{flat_length, flat_append}
use Rattle.laws.specs.Written.{flat_one}
use Rattle.area.specs.Extends.{Keeps, Extends, extends_none, extends_kept, extends_keeps}
use Rattle.area.specs.Part.{part, part_append}
use Rattle.handing.proofs.Moved.{part_behind}
use Rattle.numbers.proofs.Fronts.{part_keeps, extends_part, extends_one}
use Rattle.laws.specs.PackedReading.{shared_offsets, shared_blocks}
use Rattle.known_blocks.specs.Shared.{blocks_in, known, place_in, blocks_null, blocks_next}
use Rattle.class_spots.specs.Slots.{halves_in, Noted}
use Rattle.class_spots.proofs.Halves.{halves_null, halves_next}

module _ {packed : Bool} {slots first : ℕ} where
  -- before the first slot
  pub noted_all : {area : List ℕ} → first ≤ length area → Noted packed slots first [] area first
  unfolding offsets blocks shared_offsets shared_blocks flat part together first_of_each drop_null
  noted_all {area} h = step packed
    where
      step : (t : Bool) → Noted t slots first [] area first
      step false = record { place = omega arith; room = h; noted = refl; laid = refl }
      step true = record { place = omega arith; room = h; noted = refl; laid = refl }

  module _ {bs : List (Option (List ℕ))} {area : List ℕ} {end : ℕ} (u : Noted packed slots first bs area end) (g : slots + 2 * length bs + 2 ≤ first) where
    abbrev slot : ℕ
    slot = slots + 2 * length bs

    abbrev long : ℕ
    long = length (blocks_in packed bs)

    -- a slot o is noted as v, and the words ws of its block stand behind the others
    noted_more : {ws one two : List ℕ} {q r : ℕ} (o : Option (List ℕ)) (v : ℕ) → Extends area end ws one q → (r ≡ slot + 2) × (two ≡ sets one slot (bytes2 v))
        → halves_in packed (bs ++ (o ∷ [])) ≡ halves_in packed bs ++ (v ∷ []) → blocks_in packed (bs ++ (o ∷ [])) ≡ blocks_in packed bs ++ ws → Noted packed slots first (bs ++ (o ∷ [])) two q
    noted_more {ws} {one} {two} {q} {r} o v x p hs more =
        let kept : Keeps area end one = extends_keeps x in
        let off : Extends one slot (v ∷ []) two r = extends_one (extends_none (omega (arith, u.place, u.room, x.same))) v (omega (arith, u.place, u.room, x.same)) p in
        let k : Keeps one slot two = extends_keeps off in
        let many : 2 * length (bs ++ (o ∷ [])) ≡ 2 * length bs + 2 = omega (arith, length-append bs (o ∷ [])) in
        let all-long : 2 * length (blocks_in packed (bs ++ (o ∷ []))) ≡ 2 * long + 2 * length ws = omega (arith, ap length more, length-append (blocks_in packed bs) ws) in
        let behind : (i n : ℕ) → slot + 2 ≤ i → part two i n ≡ part one i n = λ i n h. ap (λ (s : List ℕ). part s i n) p.1 ∙ part_behind (bytes2 v) one slot i n (omega (arith, ap length (flat_one v), flat_length (v ∷ []))) in
        record {
          place = omega (arith, u.place, x.place, all-long);
          room = omega (arith, x.room, x.same, off.same);
          noted = ap (part two slots) many ∙ part_append two slots (2 * length bs) 2
              ∙ ap₂ (λ (a b : List ℕ). a ++ b) (part_keeps k slots (2 * length bs) (omega arith) ∙ part_keeps kept slots (2 * length bs) (omega (arith, u.place)) ∙ u.noted) (extends_part off)
              ∙ sym (flat_append (halves_in packed bs) (v ∷ [])) ∙ ap flat (sym hs);
          laid = ap (part two first) all-long ∙ behind first (2 * long + 2 * length ws) g ∙ part_append one first (2 * long) (2 * length ws)
              ∙ ap₂ (λ (a b : List ℕ). a ++ b) (part_keeps kept first (2 * long) (omega (arith, u.place)) ∙ u.laid) (ap (λ (i : ℕ). part one i (2 * length ws)) (sym u.place) ∙ extends_part x)
              ∙ sym (flat_append (blocks_in packed bs) ws) ∙ ap flat (sym more);
        }

    -- a null slot: what was tried behind the blocks left nothing
    pub noted_null : {one two : List ℕ} {r : ℕ} → Keeps area end one → (r ≡ slot + 2) × (two ≡ sets one slot (bytes2 0)) → Noted packed slots first (bs ++ (None ∷ [])) two end
    noted_null k p = noted_more None 0 (extends_kept (extends_none u.room) k) p (halves_null packed bs) (blocks_null packed 0 bs ∙ sym (append-nil (blocks_in packed bs)))

    -- a slot that is not null, whose block was written behind the others if it is not among them
    pub noted_set : {one two : List ℕ} {q r at : ℕ} (b : List ℕ) → at ≡ place_in packed first bs b → Extends area end (cond (known packed bs b) [] b) one q → (r ≡ slot + 2) × (two ≡ sets one slot (bytes2 ((at - first) / 2 + 1))) → Noted packed slots first (bs ++ (Some b ∷ [])) two q
    noted_set {at = at} b e x p = noted_more (Some b) ((at - first) / 2 + 1) x p (halves_next packed bs b first e) (blocks_next packed 0 bs b)

-- the same places, said otherwise
pub noted_moved : {packed : Bool} {slots first slots' first' : ℕ} {bs : List (Option (List ℕ))} {area : List ℕ} {end : ℕ} → slots ≡ slots' → first ≡ first' → Noted packed slots first bs area end → Noted packed slots' first' bs area end
noted_moved e f u = rw (e, f) at u
