-- What the loop over the classes keeps.
use Prim.Native.Nat.{ℕ, ◌+◌, ◌*◌, ◌≤◌, ◌<◌}
use mathlib.Core.Path.{◌≡◌, refl, ap, ◌∙◌}
use mathlib.Core.Bool.{Bool, true}
use Rattle.std.specs.Prelude.{Option, None, Some}
use mathlib.Core.List.{List, [], ◌∷◌, ◌++◌, append_assoc}
use native.Mathlib.Omega.{arith}
use lib.ListN.{length, take, length-append}
use Rattle.meaning.specs.Cut.{trim}
use Rattle.room.specs.Laid.{enough_area}
use Rattle.known_blocks.specs.Shared.{blocks_in}
use Rattle.known_blocks.specs.Book.{book_cells, packs, in_book, Booked}
use Rattle.kept_rules.specs.Left.{maps_in}
use Rattle.kept_rules.specs.declared.Maps.{Maps}
use Rattle.class_spots.specs.SlotWalk.{Slotting, slotting_all, slotting_said, slotting_null, slotting_set, slotting_end}
use Rattle.class_spots.specs.Sets.{set_left, words_in}
use Rattle.class_spots.specs.Slots.{Noted, sets_full}
use Rattle.class_spots.specs.Placing.{Gathered, PlacedSet}
use Rattle.class_spots.specs.declared.Turn.{Turn}
use Rattle.class_spots.proofs.Halves.{block_most, blocks_onward}
use Rattle.class_spots.proofs.Gathering.{gathered_all}

-- a slot's block takes its words, among others
one_most : (packed : Bool) (done : List (Option (List ℕ))) (o : Option (List ℕ)) (rest : List (Option (List ℕ))) → length (words_in o) ≤ length (blocks_in packed (done ++ (o ∷ rest)))
unfolding words_in
one_most packed done None rest = omega arith
one_most packed done (Some b) rest =
    omega (arith, block_most packed done b, blocks_onward packed (done ++ (Some b ∷ [])) rest, ap (λ (l : List (Option (List ℕ))). length (blocks_in packed l)) (append_assoc done (Some b ∷ []) rest))

module _ (packed chained : Bool) (s t : List ℕ) (maps : Maps) (all : List (Option (List ℕ))) (slots first : ℕ) where
  abbrev sets_left : ℕ → Option (List ℕ)
  sets_left = set_left chained (maps_in t maps) s

  -- k slots are written, and their blocks up to p; with those that are left they are all, and h of them are those up to the last that is not null
  pub record Filling (left : List (Option (List ℕ))) (area₀ area : List ℕ) (h k p : ℕ) (book : List ℕ) : Type 0 where
    pub start : 0 < first
    pub places : slots + 2 * length all ≤ first
    pub same : length area ≡ length area₀
    pub done : List (Option (List ℕ))
    pub many : length done ≡ k
    pub slotting : Slotting all left done h
    pub gathered : Gathered packed sets_left slots first done area p book

  pub filling_all : {left : List (Option (List ℕ))} {area₀ book : List ℕ} → left ≡ all → 0 < first → slots + 2 * length all ≤ first → first ≤ length area₀ → packs book ≡ packed → Booked sets_left (in_book packed []) book → (packed ≡ true → book_cells ≤ length book)
      → Filling left area₀ area₀ 0 0 first book
  filling_all e z h l m b c = record { start = z; places = h; same = refl; done = []; many = refl; slotting = slotting_all e; gathered = gathered_all m l b c }

  -- the slots that are left, said otherwise
  pub filling_said : {left rest : List (Option (List ℕ))} {area₀ area : List ℕ} {h k p : ℕ} {book : List ℕ} → Filling left area₀ area h k p book → left ≡ rest → Filling rest area₀ area h k p book
  filling_said c e = rw e at c

  -- how many are done
  pub filling_few : {left : List (Option (List ℕ))} {area₀ area : List ℕ} {h k p : ℕ} {book : List ℕ} → Filling left area₀ area h k p book → k + length left ≡ length all
  filling_few {left} c = omega (arith, c.many, ap length c.slotting.whole, length-append c.done left)

  module _ (at : ℕ) {rest : List (Option (List ℕ))} {area₀ area : List ℕ} {h k p : ℕ} {book : List ℕ} (c : Filling (sets_left at ∷ rest) area₀ area h k p book) where
    abbrev turn : Turn
    turn = record { at = at; slot = slots + 2 * k; first = first; pos = p }

    slot_here : slots + 2 * k ≡ slots + 2 * length c.done
    slot_here = omega (arith, c.many)

    module _ {q : ℕ} {one after : List ℕ} (w : PlacedSet chained s t maps turn area book one after q) where
      pub filling_null : q ≡ 0 → Filling rest area₀ one h (k + 1) p after
      filling_null z =
          let g = w.null c.gathered slot_here z in
          record {
            start = c.start;
            places = c.places;
            same = w.same ∙ c.same;
            done = c.done ++ (None ∷ []);
            many = omega (arith, length-append c.done (None ∷ []), c.many);
            slotting = slotting_null (slotting_said c.slotting (ap (λ (x : Option (List ℕ)). x ∷ rest) g.0));
            gathered = g.1;
          }

      pub filling_set : (q ≡ 0 → ⊥) → q ≤ length one → Filling rest area₀ one (k + 1) (k + 1) q after
      filling_set z l =
          let g = w.there c.gathered slot_here z (omega (arith, w.same)) in
          record {
            start = c.start;
            places = c.places;
            same = w.same ∙ c.same;
            done = c.done ++ (Some g.words ∷ []);
            many = omega (arith, length-append c.done (Some g.words ∷ []), c.many);
            slotting = rw c.many at (slotting_set (slotting_said c.slotting (ap (λ (x : Option (List ℕ)). x ∷ rest) g.is)));
            gathered = g.gathered;
          }

      -- there is no room
      pub filling_full : length one < q → enough_area ≤ length area₀ → sets_full ≤ 2 * length (blocks_in packed all)
      filling_full l m =
          let b = 2 * length (blocks_in packed all) in
          let whole = ap (λ (x : List (Option (List ℕ))). length (blocks_in packed x)) c.slotting.whole in
          let before : p ≤ first + b = omega (arith, c.gathered.noted.place, blocks_onward packed c.done (sets_left at ∷ rest), whole) in
          w.full c.gathered (omega (arith, w.same)) (omega (arith, c.same)) b before (omega (arith, one_most packed c.done (sets_left at) rest, whole))

  -- all is written where none is left
  pub filling_end : {left : List (Option (List ℕ))} {area₀ area : List ℕ} {h k p : ℕ} {book : List ℕ} → Filling left area₀ area h k p book → left ≡ [] → Noted packed slots first all area p × (h ≤ length all) × (trim all ≡ take h all)
  filling_end c e =
      let k = slotting_said c.slotting e in
      let f = slotting_end k in
      (rw f.0 at c.gathered.noted, omega (arith, k.near, ap length f.0), f.1)
