-- One block more among those that are gathered.
use Prim.Native.Nat.{ℕ, ◌+◌, ◌-◌, ◌*◌, ◌/◌, ◌≤◌, ◌<◌}
use mathlib.Core.Path.{◌≡◌, refl, sym, ap, ◌∙◌}
use mathlib.Core.Bool.{Bool, true, false, cond, true≢false}
use Rattle.std.specs.Prelude.{Option, None, Some}
use mathlib.Core.List.{List, [], ◌∷◌, ◌++◌}
use native.Mathlib.Omega.{arith}
use native.Mathlib.Decide.{dec_lt}
use lib.ListN.{length, get_or, length-append}
use lib.Seq.{sets}
use lib.Dec.{ltb}
use Rattle.meaning.specs.Words.{bytes2}
use Rattle.meaning.specs.Tables.{drop_null}
use Rattle.meaning.specs.Packed.{first_of_each, together}
use Rattle.laws.specs.PackedReading.{shared_blocks}
use Rattle.laws.specs.Stands.{All, Word, Stands, all_append}
use Rattle.laws.specs.Repeats.{has}
use Rattle.area.specs.Extends.{Keeps, Extends, extends_none, extends_kept, extends_keeps, extends_stands}
use Rattle.numbers.proofs.Fronts.{part_keeps, part_extends}
use Rattle.known_blocks.specs.Shared.{blocks_in, known, place_in, null_dropped, blocks_null, blocks_next, firsts_next}
use Rattle.known_blocks.specs.Book.{book_cells, packs, in_book, Booked, Repeated, Behind, Settled}
use Rattle.known_blocks.specs.declared.Spot.{Spot}
use Rattle.class_spots.specs.Slots.{Noted}
use Rattle.class_spots.specs.Placing.{Gathered}
use Rattle.class_spots.proofs.Noting.{noted_all, noted_null, noted_set}

in_null : (packed : Bool) (bs : List (Option (List ℕ))) → in_book packed (bs ++ (None ∷ [])) ≡ in_book packed bs
in_null false bs = refl
in_null true bs = ap first_of_each (null_dropped bs)

-- packed blocks and one more: their words fit, and each has two, if that holds of it or it is among them
module _ (bs : List (Option (List ℕ))) (b : List ℕ) where
  abbrev ds : List (List ℕ)
  ds = first_of_each (drop_null bs)

  small_next : All Word (blocks_in true bs) → (known true bs b ≡ false → All Word b) → All Word (blocks_in true (bs ++ (Some b ∷ [])))
  small_next h f = rw (blocks_next true 0 bs b) (all_append Word (blocks_in true bs) (cond (has b ds) [] b) h (step (has b ds) refl))
    where
      step : (t : Bool) → has b ds ≡ t → All Word (cond t [] b)
      step true e = tt
      step false e = f e

  two_next : 2 * length (in_book true bs) ≤ length (blocks_in true bs) → (known true bs b ≡ false → 2 ≤ length b) → 2 * length (in_book true (bs ++ (Some b ∷ []))) ≤ length (blocks_in true (bs ++ (Some b ∷ [])))
  two_next h f = rw (firsts_next true 0 bs b, blocks_next true 0 bs b) (step (has b ds) refl)
    where
      step : (t : Bool) → has b ds ≡ t → 2 * length (ds ++ cond t [] (b ∷ [])) ≤ length (blocks_in true bs ++ cond t [] b)
      step true e = omega (arith, h, length-append ds [], length-append (blocks_in true bs) [])
      step false e = omega (arith, h, f e, length-append ds (b ∷ []), length-append (blocks_in true bs) b)

-- no set so far
pub gathered_all : {packed : Bool} {left : ℕ → Option (List ℕ)} {slots first : ℕ} {area book : List ℕ} → packs book ≡ packed → first ≤ length area → Booked left (in_book packed []) book → (packed ≡ true → book_cells ≤ length book) → Gathered packed left slots first [] area first book
unfolding shared_blocks drop_null first_of_each together
gathered_all m h k e = record { mode = m; noted = noted_all h; near = omega arith; booked = k; small = λ p. tt; two = λ p. omega arith; enough = e }

module _ {packed : Bool} {left : ℕ → Option (List ℕ)} {slots first : ℕ} {bs : List (Option (List ℕ))} {area : List ℕ} {end : ℕ} {book : List ℕ} (g : Gathered packed left slots first bs area end book) where
  -- the count in the book
  pub gathered_count : get_or book 0 0 < 65536
  gathered_count = omega (arith, g.booked.count, g.booked.few)

  module _ {b one : List ℕ} {q source : ℕ} (x : Extends area end b one q) (from : left source ≡ Some b) (long : 2 ≤ length b) (low : q ≤ end + 131076) (small : All Word b) where
    -- it was written behind the others
    pub set_behind : Behind left bs b one first end q source book
    set_behind =
        let m = g.mode in
        let mode : packs book ≡ true → packed ≡ true = λ t. sym m ∙ t in
        record {
          booked = rw m g.booked;
          place = rw m g.noted.place;
          end = x.place;
          some_word = omega arith;
          laid = λ t. laid (mode t);
          last = λ t. extends_stands x small;
          from = from;
          room = λ t h. omega (arith, g.two (mode t), g.enough (mode t), rw (mode t) at g.noted.place);
          few = λ t h. omega (arith, g.two (mode t), rw (mode t) at g.noted.place);
        }
      where
        laid : packed ≡ true → Stands one first (blocks_in true bs)
        laid t =
            let u : Noted true slots first bs area end = rw t at g.noted in
            let stays = part_keeps (extends_keeps x) first (2 * length (blocks_in true bs)) (omega (arith, u.place)) ∙ u.laid in
            extends_stands (part_extends (blocks_in true bs) refl (omega (arith, u.place, u.room, x.same)) stays) (g.small t)

    -- and it has its spot
    pub gathered_set : {slot : ℕ} → slot ≡ slots + 2 * length bs → slot + 2 ≤ first → {spot : Spot} {after two : List ℕ} {r : ℕ} → Settled one first end q source book after spot → (spot.at ≡ 0 → ⊥) → (r ≡ slot + 2) × (two ≡ sets one slot (bytes2 ((spot.at - first) / 2 + 1))) → Gathered packed left slots first (bs ++ (Some b ∷ [])) two spot.end after
    gathered_set e apart {spot} {after} s n p =
        let m : packs after ≡ packed = ap (ltb 1) s.same ∙ g.mode in
        let near = s.near bs b set_behind n in
        let place : spot.at ≡ place_in packed first bs b = rw m at near.0 in
        let ends : spot.end ≡ first + 2 * length (blocks_in packed (bs ++ (Some b ∷ []))) = rw m at near.1 in
        let after-all : end + 2 * length (cond (known packed bs b) [] b) ≡ spot.end = omega (arith, ends, g.noted.place, ap length (blocks_next packed 0 bs b), length-append (blocks_in packed bs) (cond (known packed bs b) [] b)) in
        let stands : Extends area end (cond (known packed bs b) [] b) one spot.end = rw after-all at (written (known packed bs b)) in
        record {
          mode = m;
          noted = noted_set g.noted (omega (arith, e)) b place stands (rw e at p);
          near = close (known packed bs b) refl (λ f. rw m at (s.new bs b set_behind f n)) after-all (dec_lt (first + 65535) end);
          booked = rw m at near.2;
          small = λ t. small_next bs b (g.small t) (λ f. small);
          two = λ t. two_next bs b (g.two t) (λ f. long);
          enough = λ t. omega (arith, g.enough t, s.same);
        }
      where
        written : (t : Bool) → Extends area end (cond t [] b) one (end + 2 * length (cond t [] b))
        written true = rw (no_more end) (extends_kept (extends_none g.noted.room) (extends_keeps x))
          where
            no_more : (n : ℕ) → n + 2 * 0 ≡ n
            no_more n = omega arith
        written false = rw (← x.place) x

        close : (t : Bool) → known packed bs b ≡ t → (first + 65535 < end → known packed bs b ≡ true) → end + 2 * length (cond t [] b) ≡ spot.end → Dec (first + 65535 < end) → spot.end ≤ first + 196611
        close true h f l d = omega (arith, l, g.near)
        close false h f l (yes v) = absurd (true≢false (sym (f v) ∙ h))
        close false h f l (no v) = omega (arith, l, x.place)

  module _ {slot : ℕ} (e : slot ≡ slots + 2 * length bs) (apart : slot + 2 ≤ first) where
    room_between : slots + 2 * length bs + 2 ≤ first
    room_between = omega (arith, e)

    -- nothing is left of it
    pub gathered_null : {one two : List ℕ} {r : ℕ} → Keeps area end one → (r ≡ slot + 2) × (two ≡ sets one slot (bytes2 0)) → Gathered packed left slots first (bs ++ (None ∷ [])) two end book
    gathered_null k p = record {
      mode = g.mode;
      noted = noted_null g.noted room_between k (rw e at p);
      near = g.near;
      booked = rw (in_null packed bs) g.booked;
      small = λ t. rw (blocks_null true 0 bs) (g.small t);
      two = λ t. rw (null_dropped bs, blocks_null true 0 bs) (g.two t);
      enough = g.enough;
    }

    -- it is in the book, by its place in the source
    pub gathered_again : {source at r : ℕ} {two : List ℕ} (x : Repeated left bs book first source at) → (r ≡ slot + 2) × (two ≡ sets area slot (bytes2 ((at - first) / 2 + 1))) → Gathered packed left slots first (bs ++ (Some x.words ∷ [])) two end book
    gathered_again {at = at} x p =
        let m = g.mode in
        let again : known packed bs x.words ≡ true = rw m at x.again in
        let place : at ≡ place_in packed first bs x.words = rw m at x.at in
        let kept : Extends area end (cond (known packed bs x.words) [] x.words) area end = rw again (extends_none g.noted.room) in
        let known-true : packed ≡ true → known true bs x.words ≡ true = λ t. rw t at again in
        record {
          mode = m;
          noted = noted_set g.noted room_between x.words place kept (rw e at p);
          near = g.near;
          booked = rw m at x.booked;
          small = λ t. small_next bs x.words (g.small t) (λ n. absurd (true≢false (sym (known-true t) ∙ n)));
          two = λ t. two_next bs x.words (g.two t) (λ n. absurd (true≢false (sym (known-true t) ∙ n)));
          enough = g.enough;
        }
