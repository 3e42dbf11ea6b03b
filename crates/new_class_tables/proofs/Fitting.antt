-- Class tables whose offsets and counts fit words, met one by one.
use Prim.Native.Nat.{ℕ, ◌+◌, ◌-◌, ◌*◌, ◌≤◌, ◌<◌}
use mathlib.Core.Path.{◌≡◌, refl, sym, ap, ◌∙◌, subst}
use mathlib.Core.Bool.{Bool, true, false, cond, ◌&&◌, ◌||◌, true≢false}
use Rattle.std.specs.Prelude.{Option, None, Some}
use mathlib.Core.List.{List, [], ◌∷◌, ◌++◌, map, append-nil, append_assoc}
use native.Mathlib.Omega.{arith}
use lib.ListN.{length}
use lib.Dec.{leb, ltb, eqb}
use borrow.Author.Tests.{lt-ltb, ltb-true, le-leb, leb-true, eqb-true}
use Rattle.meaning.specs.Words.{every, eq_list, threes}
use Rattle.meaning.specs.Tables.{drop_null}
use Rattle.meaning.specs.Layout.{offsets, words_fit, spread, runs, class_words}
use Rattle.meaning.specs.Packed.{without, first_of_each, offset_in}
use Rattle.laws.specs.Runs.{both}
use Rattle.laws.specs.Fits.{fit_append}
use Rattle.laws.specs.Stands.{All, Word}
use Rattle.laws.specs.Repeats.{has, list_same}
use Rattle.laws.specs.PackedReading.{shared_offset, shared_offsets}
use Rattle.known_blocks.specs.Shared.{offsets_in, blocks_in, known, place_in, offsets_null, offsets_next}
use Rattle.class_spots.specs.Slots.{halves_in, settled}
use Rattle.class_spots.proofs.Halves.{settled_offsets}
use Rattle.remade_classes.specs.Tail.{short_blocks, tables_fit, tail_fit}

-- a class table has a format and a count
pub class_two : (es : List (ℕ × ℕ)) → 2 ≤ length (class_words es)
unfolding class_words
class_two [] = omega arith
class_two ((g, c) ∷ r) = step (leb (6 + 2 * length array) (4 + 6 * length rs))
  where
    rs : List (ℕ × ℕ × ℕ)
    rs = runs ((g, c) ∷ r)

    array : List ℕ
    array = spread g ((g, c) ∷ r)

    step : (t : Bool) → 2 ≤ length (cond t (1 ∷ g ∷ length array ∷ array) (2 ∷ length rs ∷ threes rs))
    step true = omega arith
    step false = omega arith

and_true : (a b : Bool) → a ≡ true → b ≡ true → a && b ≡ true
and_true a b h k = rw (h, k) refl

-- no block more is long, and a block more
short_null : (bs : List (Option (List ℕ))) → short_blocks (bs ++ (None ∷ [])) ≡ short_blocks bs
unfolding short_blocks
short_null [] = refl
short_null (None ∷ bs) = short_null bs
short_null (Some d ∷ bs) = ap (λ (t : Bool). leb (length d) 65538 && t) (short_null bs)

short_next : (bs : List (Option (List ℕ))) (b : List ℕ) → short_blocks (bs ++ (Some b ∷ [])) ≡ short_blocks bs && leb (length b) 65538
unfolding short_blocks
short_next [] b = step (leb (length b) 65538)
  where
    step : (t : Bool) → t && true ≡ t
    step true = refl
    step false = refl
short_next (None ∷ bs) b = short_next bs b
short_next (Some d ∷ bs) b = step (leb (length d) 65538) (short_next bs b)
  where
    step : (t : Bool) → short_blocks (bs ++ (Some b ∷ [])) ≡ short_blocks bs && leb (length b) 65538 → t && short_blocks (bs ++ (Some b ∷ [])) ≡ (t && short_blocks bs) && leb (length b) 65538
    step true e = e
    step false e = refl

-- one word that fits
one_fit : (w : ℕ) → w ≤ 65535 → words_fit (w ∷ []) ≡ true
unfolding words_fit every
one_fit w h = rw (lt-ltb w 65536 (omega arith)) refl

fit_one : (w : ℕ) → words_fit (w ∷ []) ≡ true → w ≤ 65535
unfolding words_fit every
fit_one w h = omega (arith, ltb-true w 65536 (both (ltb w 65536) true h).0)

-- none at all
pub none_fits : (packed : Bool) (q : ℕ) → tables_fit packed q [] ≡ true
unfolding tables_fit short_blocks offsets shared_offsets words_fit every
none_fits false q = refl
none_fits true q = refl

module _ (packed : Bool) (q : ℕ) (bs : List (Option (List ℕ))) where
  abbrev os : List ℕ
  os = offsets_in packed q bs

  -- a null one more
  pub null_fits : tables_fit packed q bs ≡ true → tables_fit packed q (bs ++ (None ∷ [])) ≡ true
  unfolding tables_fit
  null_fits h =
      let t = both (words_fit os) (short_blocks bs) h in
      let w : words_fit (offsets_in packed q (bs ++ (None ∷ []))) ≡ true = ap words_fit (offsets_null packed q bs) ∙ fit_append os (0 ∷ []) ∙ and_true (words_fit os) (words_fit (0 ∷ [])) t.0 (one_fit 0 (omega arith)) in
      and_true (words_fit (offsets_in packed q (bs ++ (None ∷ [])))) (short_blocks (bs ++ (None ∷ []))) w (short_null bs ∙ t.1)

  null_fit : tables_fit packed q (bs ++ (None ∷ [])) ≡ true → tables_fit packed q bs ≡ true
  unfolding tables_fit
  null_fit h =
      let t = both (words_fit (offsets_in packed q (bs ++ (None ∷ [])))) (short_blocks (bs ++ (None ∷ []))) h in
      let w = both (words_fit os) (words_fit (0 ∷ [])) (sym (fit_append os (0 ∷ [])) ∙ ap words_fit (sym (offsets_null packed q bs)) ∙ t.0) in
      and_true (words_fit os) (short_blocks bs) w.0 (sym (short_null bs) ∙ t.1)

  module _ (b : List ℕ) where
    abbrev place : ℕ
    place = place_in packed q bs b

    -- one more that is not null
    pub next_fits : tables_fit packed q bs ≡ true → place ≤ 65535 → length b ≤ 65538 → tables_fit packed q (bs ++ (Some b ∷ [])) ≡ true
    unfolding tables_fit
    next_fits h l k =
        let t = both (words_fit os) (short_blocks bs) h in
        let w : words_fit (offsets_in packed q (bs ++ (Some b ∷ []))) ≡ true = ap words_fit (offsets_next packed q bs b) ∙ fit_append os (place ∷ []) ∙ and_true (words_fit os) (words_fit (place ∷ [])) t.0 (one_fit place l) in
        and_true (words_fit (offsets_in packed q (bs ++ (Some b ∷ [])))) (short_blocks (bs ++ (Some b ∷ []))) w (short_next bs b ∙ and_true (short_blocks bs) (leb (length b) 65538) t.1 (le-leb (length b) 65538 k))

    pub next_fit : tables_fit packed q (bs ++ (Some b ∷ [])) ≡ true → (place ≤ 65535) × (length b ≤ 65538) × (tables_fit packed q bs ≡ true)
    unfolding tables_fit
    next_fit h =
        let t = both (words_fit (offsets_in packed q (bs ++ (Some b ∷ [])))) (short_blocks (bs ++ (Some b ∷ []))) h in
        let w = both (words_fit os) (words_fit (place ∷ [])) (sym (fit_append os (place ∷ [])) ∙ ap words_fit (sym (offsets_next packed q bs b)) ∙ t.0) in
        let k = both (short_blocks bs) (leb (length b) 65538) (sym (short_next bs b) ∙ t.1) in
        (fit_one place w.1, leb-true (length b) 65538 k.1, and_true (words_fit os) (short_blocks bs) w.0 k.0)

    -- one that is not among them stands behind them
    pub place_new : known packed bs b ≡ false → place ≡ q + 2 * length (blocks_in packed bs)
    unfolding place_in
    place_new e = rw e refl

-- those that begin the others fit
pub front_fits : (packed : Bool) (q : ℕ) (xs ys : List (Option (List ℕ))) → tables_fit packed q (xs ++ ys) ≡ true → tables_fit packed q xs ≡ true
front_fits packed q xs [] h = rw append-nil at h
front_fits packed q xs (y ∷ ys) h = step y (front_fits packed q (xs ++ (y ∷ [])) ys (subst (λ (zs : List (Option (List ℕ))). tables_fit packed q zs ≡ true) (sym (append_assoc xs (y ∷ []) ys)) h))
  where
    step : (o : Option (List ℕ)) → tables_fit packed q (xs ++ (o ∷ [])) ≡ true → tables_fit packed q xs ≡ true
    step None k = null_fit packed q xs k
    step (Some b) k = (next_fit packed q xs b k).2

-- a block that is written is among all
has_less : (x b : List ℕ) (ds : List (List ℕ)) → has b (without x ds) ≡ true → has b ds ≡ true
unfolding has without
has_less x b [] h = h
has_less x b (d ∷ ds) h = step (eq_list x d) h (has_less x b ds)
  where
    more : (u : Bool) → u || has b (without x ds) ≡ true → (has b (without x ds) ≡ true → has b ds ≡ true) → u || has b ds ≡ true
    more true k i = refl
    more false k i = i k

    either : (u : Bool) → has b ds ≡ true → u || has b ds ≡ true
    either true k = refl
    either false k = k

    step : (t : Bool) → has b (cond t (without x ds) (d ∷ without x ds)) ≡ true → (has b (without x ds) ≡ true → has b ds ≡ true) → eq_list d b || has b ds ≡ true
    step true k i = either (eq_list d b) (i k)
    step false k i = more (eq_list d b) k i

has_first : (b : List ℕ) (ds : List (List ℕ)) → has b (first_of_each ds) ≡ true → has b ds ≡ true
unfolding has first_of_each
has_first b [] h = h
has_first b (d ∷ ds) h = step (eq_list d b) h (has_first b ds)
  where
    step : (t : Bool) → t || has b (without d (first_of_each ds)) ≡ true → (has b (first_of_each ds) ≡ true → has b ds ≡ true) → t || has b ds ≡ true
    step true k i = refl
    step false k i = i (has_less d b (first_of_each ds) k)

-- its offset is one of theirs
shared_fits : (q : ℕ) (ds : List (List ℕ)) (b : List ℕ) (bs : List (Option (List ℕ))) → has b (drop_null bs) ≡ true → words_fit (map (shared_offset q ds) bs) ≡ true → offset_in q ds b ≤ 65535
unfolding has drop_null words_fit every shared_offset
shared_fits q ds b [] h f = absurd (true≢false (sym h))
shared_fits q ds b (None ∷ bs) h f = shared_fits q ds b bs h f
shared_fits q ds b (Some d ∷ bs) h f = step (eq_list d b) refl h (both (ltb (offset_in q ds d) 65536) (words_fit (map (shared_offset q ds) bs)) f) (shared_fits q ds b bs)
  where
    step : (t : Bool) → eq_list d b ≡ t → t || has b (drop_null bs) ≡ true → (ltb (offset_in q ds d) 65536 ≡ true) × (words_fit (map (shared_offset q ds) bs) ≡ true)
        → (has b (drop_null bs) ≡ true → words_fit (map (shared_offset q ds) bs) ≡ true → offset_in q ds b ≤ 65535) → offset_in q ds b ≤ 65535
    step true e k g i = omega (arith, ltb-true (offset_in q ds d) 65536 g.0, ap (offset_in q ds) (list_same d b e))
    step false e k g i = i k g.1

pub known_fits : (packed : Bool) (q : ℕ) (bs : List (Option (List ℕ))) (b : List ℕ) → known packed bs b ≡ true → tables_fit packed q bs ≡ true → place_in packed q bs b ≤ 65535
unfolding place_in tables_fit shared_offsets
known_fits false q bs b k h = absurd (true≢false (sym k))
known_fits true q bs b k h = rw k (shared_fits q (first_of_each (drop_null bs)) b bs (has_first b (drop_null bs) k) (both (words_fit (map (shared_offset q (first_of_each (drop_null bs))) bs)) (short_blocks bs) h).0)

-- noted slots are words where the offsets are
settled_small : (q : ℕ) (hs : List ℕ) → words_fit (map (settled q) hs) ≡ true → All Word hs
unfolding words_fit every settled
settled_small q [] f = tt
settled_small q (h ∷ hs) f =
    let t = both (ltb (settled q h) 65536) (words_fit (map (settled q) hs)) f in
    (step (eqb h 0) refl (ltb-true (settled q h) 65536 t.0), settled_small q hs t.1)
  where
    step : (t : Bool) → eqb h 0 ≡ t → cond t 0 (q + 2 * (h - 1)) < 65536 → h < 65536
    step true e l = omega (arith, eqb-true h 0 e)
    step false e l = omega arith

pub halves_fit : (packed : Bool) (q : ℕ) (bs : List (Option (List ℕ))) → tables_fit packed q bs ≡ true → All Word (halves_in packed bs)
unfolding tables_fit
halves_fit packed q bs h = settled_small q (halves_in packed bs) (ap words_fit (settled_offsets packed q bs) ∙ (both (words_fit (offsets_in packed q bs)) (short_blocks bs) h).0)

-- a coverage and the class tables behind it
module _ (packed : Bool) (q : ℕ) (cover : List ℕ) (tables : List (Option (List ℕ))) where
  pub tail_fits : q ≤ 65535 → tables_fit packed (q + 2 * length cover) tables ≡ true → tail_fit packed q cover tables ≡ true
  unfolding tail_fit
  tail_fits h k = and_true (leb q 65535) (tables_fit packed (q + 2 * length cover) tables) (le-leb q 65535 h) k

  pub tail_fit_lem : tail_fit packed q cover tables ≡ true → (q ≤ 65535) × (tables_fit packed (q + 2 * length cover) tables ≡ true)
  unfolding tail_fit
  tail_fit_lem h =
      let t = both (leb q 65535) (tables_fit packed (q + 2 * length cover) tables) h in
      (leb-true q 65535 t.0, t.1)
