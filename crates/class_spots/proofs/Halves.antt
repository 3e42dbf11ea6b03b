-- Slots as they are noted, and the blocks that are written, with one slot more.
use Prim.Native.Nat.{ℕ, ◌+◌, ◌-◌, ◌*◌, ◌/◌, ◌≤◌, ◌<◌}
use mathlib.Core.Path.{◌≡◌, refl, sym, ap, ap₂, ◌∙◌, subst}
use mathlib.Core.Bool.{Bool, true, false, cond, ◌&&◌, ◌||◌, true≢false}
use Rattle.std.specs.Prelude.{Option, None, Some}
use mathlib.Core.List.{List, [], ◌∷◌, ◌++◌, map, map-append, append-nil, append_assoc}
use native.Mathlib.Omega.{arith}
use lib.ListN.{length, take, drop, length-append, length-map, take-append-drop}
use lib.Seq.{length-take-le, take-append-le, take_all}
use Rattle.meaning.specs.Words.{eq_list}
use Rattle.meaning.specs.Tables.{drop_null}
use Rattle.meaning.specs.Layout.{offsets, blocks}
use Rattle.meaning.specs.Packed.{first_of_each, together, offset_in}
use Rattle.laws.specs.Stands.{All, Word, all_append}
use Rattle.laws.specs.Through.{offsets_length}
use Rattle.laws.specs.Repeats.{has, list_same}
use Rattle.laws.specs.PackedReading.{shared_offset, shared_offsets, shared_blocks}
use Rattle.known_blocks.specs.Shared.{offsets_in, blocks_in, known, place_in, offsets_null, blocks_null, offsets_next, blocks_next}
use Rattle.class_spots.specs.Slots.{halves_in, settled}
use Rattle.class_spots.proofs.Settling.{settled_null, settled_there}

-- what holds of some slots, and of one more wherever it holds, holds of all that begin with them
pub onward : (P : List (Option (List ℕ)) → Type 0) → ((bs : List (Option (List ℕ))) (o : Option (List ℕ)) → P bs → P (bs ++ (o ∷ []))) → (xs ys : List (Option (List ℕ))) → P xs → P (xs ++ ys)
onward P step xs [] h = subst P (sym (append-nil xs)) h
onward P step xs (y ∷ ys) h = subst P (append_assoc xs (y ∷ []) ys) (onward P step (xs ++ (y ∷ [])) ys (step xs y h))

-- the words that stand before the one of blocks that is equal to b
unfoldable words_before : List (List ℕ) → List ℕ → ℕ
words_before [] b = 0
words_before (d ∷ ds) b = cond (eq_list d b) 0 (length d + words_before ds b)

offset_before : (p : ℕ) (ds : List (List ℕ)) (b : List ℕ) → has b ds ≡ true → offset_in p ds b ≡ p + 2 * words_before ds b
unfolding has offset_in words_before
offset_before p [] b h = absurd (true≢false (sym h))
offset_before p (d ∷ ds) b h = step (eq_list d b) h (offset_before (p + 2 * length d) ds b)
  where
    step : (t : Bool) → t || has b ds ≡ true → (has b ds ≡ true → offset_in (p + 2 * length d) ds b ≡ p + 2 * length d + 2 * words_before ds b)
        → cond t p (offset_in (p + 2 * length d) ds b) ≡ p + 2 * cond t 0 (length d + words_before ds b)
    step true q i = omega arith
    step false q i = i q ∙ omega arith

-- it is one of them
before_most : (ds : List (List ℕ)) (b : List ℕ) → has b ds ≡ true → words_before ds b + length b ≤ length (together ds)
unfolding has words_before together
before_most [] b h = absurd (true≢false (sym h))
before_most (d ∷ ds) b h = step (eq_list d b) refl h (before_most ds b)
  where
    step : (t : Bool) → eq_list d b ≡ t → t || has b ds ≡ true → (has b ds ≡ true → words_before ds b + length b ≤ length (together ds)) → cond t 0 (length d + words_before ds b) + length b ≤ length (d ++ together ds)
    step true e q i = omega (arith, ap length (list_same d b e), length-append d (together ds))
    step false e q i = omega (arith, i q, length-append d (together ds))

module _ (packed : Bool) (bs : List (Option (List ℕ))) where
  -- the words before the block b, where it is one more
  abbrev words_to : List ℕ → ℕ
  words_to b = cond (known packed bs b) (words_before (first_of_each (drop_null bs)) b) (length (blocks_in packed bs))

  module _ (b : List ℕ) where
    abbrev ds : List (List ℕ)
    ds = first_of_each (drop_null bs)

    place_words : (p : ℕ) → place_in packed p bs b ≡ p + 2 * words_to b
    unfolding place_in
    place_words p = step packed (has b ds) refl
      where
        step : (u v : Bool) → has b ds ≡ v → cond (u && v) (offset_in p ds b) (p + 2 * length (blocks_in u bs)) ≡ p + 2 * cond (u && v) (words_before ds b) (length (blocks_in u bs))
        step true true e = offset_before p ds b e
        step true false e = refl
        step false v e = refl

    -- it does not stand before the first
    pub place_least : (p : ℕ) → p ≤ place_in packed p bs b
    place_least p = omega (arith, place_words p)

    words_most : words_to b ≤ length (blocks_in packed bs)
    unfolding shared_blocks
    words_most = step packed (has b ds) refl
      where
        step : (u v : Bool) → has b ds ≡ v → cond (u && v) (words_before ds b) (length (blocks_in u bs)) ≤ length (blocks_in u bs)
        step true true e = omega (arith, before_most ds b e)
        step true false e = omega arith
        step false v e = omega arith

    -- a block takes its words
    pub block_most : length b ≤ length (blocks_in packed (bs ++ (Some b ∷ [])))
    unfolding shared_blocks
    block_most = step packed (has b ds) refl (ap length (blocks_next packed 0 bs b))
      where
        step : (u v : Bool) → has b ds ≡ v → {n : ℕ} → n ≡ length (blocks_in u bs ++ cond (u && v) [] b) → length b ≤ n
        step true true e f = omega (arith, f, length-append (blocks_in true bs) [], before_most ds b e)
        step true false e f = omega (arith, f, length-append (blocks_in true bs) b)
        step false v e f = omega (arith, f, length-append (blocks_in false bs) b)

    -- a slot that is not null is noted
    pub halves_next : (first : ℕ) {r : ℕ} → r ≡ place_in packed first bs b → halves_in packed (bs ++ (Some b ∷ [])) ≡ halves_in packed bs ++ (((r - first) / 2 + 1) ∷ [])
    halves_next first {r} e =
        let h : place_in packed 2 bs b / 2 ≡ (r - first) / 2 + 1 = omega (arith, e, place_words 2, place_words first) in
        ap (map (λ w. w / 2)) (offsets_next packed 2 bs b) ∙ map-append (λ w. w / 2) (offsets_in packed 2 bs) (place_in packed 2 bs b ∷ []) ∙ ap (λ (n : ℕ). halves_in packed bs ++ (n ∷ [])) h

  -- a null slot
  pub halves_null : halves_in packed (bs ++ (None ∷ [])) ≡ halves_in packed bs ++ (0 ∷ [])
  halves_null = ap (map (λ w. w / 2)) (offsets_null packed 2 bs) ∙ map-append (λ w. w / 2) (offsets_in packed 2 bs) (0 ∷ [])

  -- the blocks do not become fewer
  blocks_grow : (o : Option (List ℕ)) → length (blocks_in packed bs) ≤ length (blocks_in packed (bs ++ (o ∷ [])))
  blocks_grow None = omega (arith, ap length (blocks_null packed 0 bs))
  blocks_grow (Some b) = omega (arith, ap length (blocks_next packed 0 bs b), length-append (blocks_in packed bs) (cond (known packed bs b) [] b))

-- nor with more slots
pub blocks_onward : (packed : Bool) (xs ys : List (Option (List ℕ))) → length (blocks_in packed xs) ≤ length (blocks_in packed (xs ++ ys))
blocks_onward packed xs ys = onward (λ zs. length (blocks_in packed xs) ≤ length (blocks_in packed zs)) (λ zs o h. omega (arith, h, blocks_grow packed zs o)) xs ys (omega arith)

-- no slots
no_offsets : (packed : Bool) (p : ℕ) → offsets_in packed p [] ≡ []
unfolding offsets shared_offsets
no_offsets false p = refl
no_offsets true p = refl

pub offsets_many : (packed : Bool) (p : ℕ) (bs : List (Option (List ℕ))) → length (offsets_in packed p bs) ≡ length bs
unfolding shared_offsets
offsets_many false p bs = offsets_length p bs
offsets_many true p bs = length-map bs (shared_offset p (first_of_each (drop_null bs)))

pub halves_many : (packed : Bool) (bs : List (Option (List ℕ))) → length (halves_in packed bs) ≡ length bs
halves_many packed bs = length-map (offsets_in packed 2 bs) (λ w. w / 2) ∙ offsets_many packed 2 bs

module _ (packed : Bool) where
  -- noted slots are words, if the blocks are not over the limit by far
  pub halves_small : (bs : List (Option (List ℕ))) → length (blocks_in packed bs) < 65535 → All Word (halves_in packed bs)
  halves_small bs = onward (λ zs. length (blocks_in packed zs) < 65535 → All Word (halves_in packed zs)) step [] bs (λ h. rw (no_offsets packed 2) tt)
    where
      step : (zs : List (Option (List ℕ))) (o : Option (List ℕ)) → (length (blocks_in packed zs) < 65535 → All Word (halves_in packed zs)) → length (blocks_in packed (zs ++ (o ∷ []))) < 65535 → All Word (halves_in packed (zs ++ (o ∷ [])))
      step zs None f h = rw (halves_null packed zs) (all_append Word (halves_in packed zs) (0 ∷ []) (f (omega (arith, blocks_grow packed zs None))) (omega arith, tt))
      step zs (Some b) f h =
          let place = place_in packed 2 zs b in
          let w : (place - 2) / 2 + 1 < 65536 = omega (arith, place_words packed zs b 2, words_most packed zs b, blocks_grow packed zs (Some b)) in
          rw (halves_next packed zs b 2 {r = place} refl) (all_append Word (halves_in packed zs) (((place - 2) / 2 + 1) ∷ []) (f (omega (arith, blocks_grow packed zs (Some b)))) (w, tt))

  -- settled, they are the offsets
  pub settled_offsets : (q : ℕ) (bs : List (Option (List ℕ))) → map (settled q) (halves_in packed bs) ≡ offsets_in packed q bs
  settled_offsets q bs = onward (λ zs. map (settled q) (halves_in packed zs) ≡ offsets_in packed q zs) step [] bs (rw (no_offsets packed 2, no_offsets packed q))
    where
      more : (zs : List (Option (List ℕ))) (o : Option (List ℕ)) (v w : ℕ) → map (settled q) (halves_in packed zs) ≡ offsets_in packed q zs
          → halves_in packed (zs ++ (o ∷ [])) ≡ halves_in packed zs ++ (v ∷ []) → settled q v ≡ w → offsets_in packed q (zs ++ (o ∷ [])) ≡ offsets_in packed q zs ++ (w ∷ [])
          → map (settled q) (halves_in packed (zs ++ (o ∷ []))) ≡ offsets_in packed q (zs ++ (o ∷ []))
      more zs o v w h e f g = ap (map (settled q)) e ∙ map-append (settled q) (halves_in packed zs) (v ∷ []) ∙ ap₂ (λ (l : List ℕ) (w : ℕ). l ++ (w ∷ [])) h f ∙ sym g

      step : (zs : List (Option (List ℕ))) (o : Option (List ℕ)) → map (settled q) (halves_in packed zs) ≡ offsets_in packed q zs → map (settled q) (halves_in packed (zs ++ (o ∷ []))) ≡ offsets_in packed q (zs ++ (o ∷ []))
      step zs None h = more zs None 0 0 h (halves_null packed zs) (sym (settled_null q refl)) (offsets_null packed q zs)
      step zs (Some b) h =
          let place = place_in packed 2 zs b in
          let v : settled q ((place - 2) / 2 + 1) ≡ place_in packed q zs b = sym (settled_there q (λ z. omega arith)) ∙ omega (arith, place_words packed zs b 2, place_words packed zs b q) in
          more zs (Some b) ((place - 2) / 2 + 1) (place_in packed q zs b) h (halves_next packed zs b 2 {r = place} refl) v (offsets_next packed q zs b)

  -- the first slots have the offsets that they have among all
  pub offsets_take : (p n : ℕ) (bs : List (Option (List ℕ))) → n ≤ length bs → offsets_in packed p (take n bs) ≡ take n (offsets_in packed p bs)
  offsets_take p n bs h = sym (subst P (take-append-drop n bs) (onward P step xs (drop n bs) begins)).1
    where
      xs : List (Option (List ℕ))
      xs = take n bs

      P : List (Option (List ℕ)) → Type 0
      P zs = (n ≤ length zs) × (take n (offsets_in packed p zs) ≡ offsets_in packed p xs)

      begins : P xs
      begins = (omega (arith, length-take-le n bs h), take_all n (offsets_in packed p xs) (omega (arith, offsets_many packed p xs, length-take-le n bs h)))

      more : (zs : List (Option (List ℕ))) (o : Option (List ℕ)) (w : ℕ) → P zs → offsets_in packed p (zs ++ (o ∷ [])) ≡ offsets_in packed p zs ++ (w ∷ []) → P (zs ++ (o ∷ []))
      more zs o w k e = (omega (arith, k.0, length-append zs (o ∷ [])), ap (take n) e ∙ take-append-le n (offsets_in packed p zs) (w ∷ []) (omega (arith, k.0, offsets_many packed p zs)) ∙ k.1)

      step : (zs : List (Option (List ℕ))) (o : Option (List ℕ)) → P zs → P (zs ++ (o ∷ []))
      step zs None k = more zs None 0 k (offsets_null packed p zs)
      step zs (Some b) k = more zs (Some b) (place_in packed p zs b) k (offsets_next packed p zs b)
