-- Slots that were noted, and have become offsets.
use Prim.Native.Nat.{ℕ, zero, suc, ◌+◌, ◌*◌, ◌/◌, ◌%◌, ◌≤◌}
use mathlib.Core.Path.{◌≡◌, refl, sym, ap, ap₂, ◌∙◌}
use mathlib.Core.Bool.{Bool}
use Rattle.std.specs.Prelude.{Option}
use mathlib.Core.List.{List, [], ◌∷◌, map}
use native.Mathlib.Omega.{arith}
use lib.ListN.{length, get_or, take, drop}
use lib.Seq.{sets, length-take-le}
use Rattle.meaning.specs.Words.{word, words, bytes2, flat}
use Rattle.laws.specs.Stands.{All, Word, flat_length}
use Rattle.laws.specs.Written.{Wrote}
use Rattle.area.specs.Extends.{wrote_extends}
use Rattle.area.specs.Part.{part}
use Rattle.handing.proofs.Moved.{part_behind}
use Rattle.numbers.proofs.Fronts.{extends_part}
use Rattle.known_blocks.specs.Shared.{offsets_in, blocks_in}
use Rattle.class_spots.specs.Slots.{halves_in, settled, Noted}
use Rattle.class_spots.proofs.Halves.{offsets_many, halves_many, settled_offsets, offsets_take}

-- The offsets of the first n slots stand from `slots` on, counted as if the first set stood at q, and the blocks of all from `first` up to `end`.
pub record Placed (packed : Bool) (slots first q n : ℕ) (bs : List (Option (List ℕ))) (area : List ℕ) (end : ℕ) : Type 0 where
  pub place : end ≡ first + 2 * length (blocks_in packed bs)
  pub room : end ≤ length area
  pub reached : part area slots (2 * n) ≡ flat (offsets_in packed q (take n bs))
  pub laid : part area first (2 * length (blocks_in packed bs)) ≡ flat (blocks_in packed bs)

-- words are read back
words_of : (s ws : List ℕ) (at : ℕ) → All Word ws → part s at (2 * length ws) ≡ flat ws → words s at (length ws) ≡ ws
unfolding flat words word part bytes2
words_of s [] at a e = refl
words_of s (w ∷ ws) at a e =
    let two : 2 * suc (length ws) ≡ suc (suc (2 * length ws)) = omega arith in
    let all = rw two at e in
    let x : get_or s at 0 ≡ w / 256 % 256 = ap (λ (x : List ℕ). get_or x 0 0) all in
    let y : get_or s (at + 1) 0 ≡ w % 256 = ap (λ (x : List ℕ). get_or x 1 0) all in
    let next : at + 1 + 1 ≡ at + 2 = omega arith in
    let rest = rw next at (ap (drop 2) all) in
    let v : w / 256 % 256 * 256 + w % 256 ≡ w = omega (arith, a.0) in
    rw (x, y) (ap₂ (λ (x : ℕ) (y : List ℕ). x ∷ y) v (words_of s ws (at + 2) a.1 rest))

words_take : (s : List ℕ) (at n m : ℕ) → n ≤ m → words s at n ≡ take n (words s at m)
unfolding words
words_take s at zero m h = refl
words_take s at (suc n) zero h = absurd (omega arith)
words_take s at (suc n) (suc m) h = ap (λ (l : List ℕ). word s at ∷ l) (words_take s (at + 2) n m (omega arith))

map_take : (f : ℕ → ℕ) (n : ℕ) (l : List ℕ) → map f (take n l) ≡ take n (map f l)
map_take f zero l = refl
map_take f (suc n) [] = refl
map_take f (suc n) (x ∷ l) = ap (λ (r : List ℕ). f x ∷ r) (map_take f n l)

module _ {packed : Bool} {slots first : ℕ} {bs : List (Option (List ℕ))} {area : List ℕ} {end : ℕ} (u : Noted packed slots first bs area end) (small : All Word (halves_in packed bs)) (apart : slots + 2 * length bs ≤ first) where
  -- the noted slots are read back; settled, they are the offsets
  pub offsets_back : (n q : ℕ) → n ≤ length bs → map (settled q) (words area slots n) ≡ offsets_in packed q (take n bs)
  offsets_back n q h =
      let hs = halves_in packed bs in
      let m = halves_many packed bs in
      let e : part area slots (2 * length hs) ≡ flat hs = rw m u.noted in
      ap (map (settled q)) (words_take area slots n (length hs) (omega (arith, m)) ∙ ap (take n) (words_of area hs slots small e))
      ∙ map_take (settled q) n hs ∙ ap (take n) (settled_offsets packed q bs) ∙ sym (offsets_take packed q n bs h)

  pub noted_settled : {n q : ℕ} {after : List ℕ} → n ≤ length bs → after ≡ sets area slots (flat (map (settled q) (words area slots n))) → Placed packed slots first q n bs after end
  noted_settled {n} {q} {after} h e =
      let os = offsets_in packed q (take n bs) in
      let f : after ≡ sets area slots (flat os) = e ∙ ap (λ (l : List ℕ). sets area slots (flat l)) (offsets_back n q h) in
      let many : length os ≡ n = offsets_many packed q (take n bs) ∙ length-take-le n bs h in
      let w : Wrote area slots os after (slots + 2 * length os) = record { place = refl; bytes = f } in
      let x = wrote_extends w (omega (arith, many, u.place, u.room)) in
      record {
        place = u.place;
        room = omega (arith, u.room, x.same);
        reached = rw many at (extends_part x);
        laid = ap (λ (s : List ℕ). part s first (2 * length (blocks_in packed bs))) f ∙ part_behind (flat os) area slots first (2 * length (blocks_in packed bs)) (omega (arith, flat_length os, many)) ∙ u.laid;
      }
