-- Blocks of one kind that come behind others, in the layout that is asked for: their offsets, and what they add to the blocks that are written.
use Rattle.std.specs.Prelude.{ℕ, ◌+◌, ◌*◌, ◌≡◌, Bool, true, false, cond, ◌&&◌, ◌||◌, length, Option, None, Some}
use Rattle.std.proofs.Math.Path.{refl, sym, ap}
use Rattle.std.proofs.Common.{◌∙◌, subst, true≢false, arith}
use mathlib.Core.List.{List, [], ◌∷◌, ◌++◌, map, append-nil, append_assoc}
use Rattle.meaning.specs.Words.{eq_list}
use Rattle.meaning.specs.Tables.{drop_null}
use Rattle.meaning.specs.Layout.{words_fit}
use Rattle.meaning.specs.Packed.{without, first_of_each, offset_in}
use Rattle.laws.specs.Stands.{All, Word}
use Rattle.laws.specs.Fits.{fit_append}
use Rattle.laws.specs.Repeats.{has, list_same}
use Rattle.laws.specs.PackedReading.{shared_offset, shared_offsets}
use Rattle.known_blocks.specs.Shared.{offsets_in, blocks_in, known, place_in, offsets_null, blocks_null, offsets_next, blocks_next}

-- the offset of the next block, and what it adds; no block, no offset
abbrev pub place_of : Bool → ℕ → List (Option (List ℕ)) → Option (List ℕ) → ℕ
place_of packed p pre None = 0
place_of packed p pre (Some b) = place_in packed p pre b

abbrev pub added_by : Bool → List (Option (List ℕ)) → Option (List ℕ) → List ℕ
added_by packed pre None = []
added_by packed pre (Some b) = cond (known packed pre b) [] b

-- the offsets of blocks behind the blocks `pre`, which stand from p on, and what they add to these
unfoldable pub offsets_behind : Bool → ℕ → List (Option (List ℕ)) → List (Option (List ℕ)) → List ℕ
offsets_behind packed p pre [] = []
offsets_behind packed p pre (b ∷ bs) = place_of packed p pre b ∷ offsets_behind packed p (pre ++ (b ∷ [])) bs

unfoldable pub blocks_behind : Bool → List (Option (List ℕ)) → List (Option (List ℕ)) → List ℕ
blocks_behind packed pre [] = []
blocks_behind packed pre (b ∷ bs) = added_by packed pre b ++ blocks_behind packed (pre ++ (b ∷ [])) bs

module _ (packed : Bool) (p : ℕ) where
  -- one offset for each
  pub behind_length : (pre bs : List (Option (List ℕ))) → length (offsets_behind packed p pre bs) ≡ length bs
  unfolding offsets_behind
  behind_length pre [] = refl
  behind_length pre (b ∷ bs) = omega (arith, behind_length (pre ++ (b ∷ [])) bs)

  one_more : (pre : List (Option (List ℕ))) (b : Option (List ℕ)) → offsets_in packed p (pre ++ (b ∷ [])) ≡ offsets_in packed p pre ++ (place_of packed p pre b ∷ [])
  one_more pre None = offsets_null packed p pre
  one_more pre (Some b) = offsets_next packed p pre b

  -- with those of the blocks before them
  pub offsets_after : (pre bs : List (Option (List ℕ))) → offsets_in packed p (pre ++ bs) ≡ offsets_in packed p pre ++ offsets_behind packed p pre bs
  unfolding offsets_behind
  offsets_after pre [] = ap (offsets_in packed p) (append-nil pre) ∙ sym (append-nil (offsets_in packed p pre))
  offsets_after pre (b ∷ bs) =
      ap (offsets_in packed p) (sym (append_assoc pre (b ∷ []) bs)) ∙ offsets_after (pre ++ (b ∷ [])) bs
      ∙ ap (λ (l : List ℕ). l ++ offsets_behind packed p (pre ++ (b ∷ [])) bs) (one_more pre b)
      ∙ append_assoc (offsets_in packed p pre) (place_of packed p pre b ∷ []) (offsets_behind packed p (pre ++ (b ∷ [])) bs)

  -- of two rows of blocks
  pub offsets_split : (pre xs ys : List (Option (List ℕ))) → offsets_behind packed p pre (xs ++ ys) ≡ offsets_behind packed p pre xs ++ offsets_behind packed p (pre ++ xs) ys
  unfolding offsets_behind
  offsets_split pre [] ys = ap (λ (l : List (Option (List ℕ))). offsets_behind packed p l ys) (sym (append-nil pre))
  offsets_split pre (x ∷ xs) ys =
      ap (λ (l : List ℕ). place_of packed p pre x ∷ l)
      (offsets_split (pre ++ (x ∷ [])) xs ys ∙ ap (λ (l : List (Option (List ℕ))). offsets_behind packed p (pre ++ (x ∷ [])) xs ++ offsets_behind packed p l ys) (append_assoc pre (x ∷ []) xs))

  -- they fit words if those of both do
  pub split_fit : (pre xs ys : List (Option (List ℕ))) → words_fit (offsets_behind packed p pre (xs ++ ys)) ≡ words_fit (offsets_behind packed p pre xs) && words_fit (offsets_behind packed p (pre ++ xs) ys)
  split_fit pre xs ys = ap words_fit (offsets_split pre xs ys) ∙ fit_append (offsets_behind packed p pre xs) (offsets_behind packed p (pre ++ xs) ys)

module _ (packed : Bool) where
  one_added : (pre : List (Option (List ℕ))) (b : Option (List ℕ)) → blocks_in packed (pre ++ (b ∷ [])) ≡ blocks_in packed pre ++ added_by packed pre b
  one_added pre None = blocks_null packed 0 pre ∙ sym (append-nil (blocks_in packed pre))
  one_added pre (Some b) = blocks_next packed 0 pre b

  pub blocks_after : (pre bs : List (Option (List ℕ))) → blocks_in packed (pre ++ bs) ≡ blocks_in packed pre ++ blocks_behind packed pre bs
  unfolding blocks_behind
  blocks_after pre [] = ap (blocks_in packed) (append-nil pre) ∙ sym (append-nil (blocks_in packed pre))
  blocks_after pre (b ∷ bs) =
      ap (blocks_in packed) (sym (append_assoc pre (b ∷ []) bs)) ∙ blocks_after (pre ++ (b ∷ [])) bs
      ∙ ap (λ (l : List ℕ). l ++ blocks_behind packed (pre ++ (b ∷ [])) bs) (one_added pre b)
      ∙ append_assoc (blocks_in packed pre) (added_by packed pre b) (blocks_behind packed (pre ++ (b ∷ [])) bs)

  pub blocks_split : (pre xs ys : List (Option (List ℕ))) → blocks_behind packed pre (xs ++ ys) ≡ blocks_behind packed pre xs ++ blocks_behind packed (pre ++ xs) ys
  unfolding blocks_behind
  blocks_split pre [] ys = ap (λ (l : List (Option (List ℕ))). blocks_behind packed l ys) (sym (append-nil pre))
  blocks_split pre (x ∷ xs) ys =
      ap (λ (l : List ℕ). added_by packed pre x ++ l)
      (blocks_split (pre ++ (x ∷ [])) xs ys ∙ ap (λ (l : List (Option (List ℕ))). blocks_behind packed (pre ++ (x ∷ [])) xs ++ blocks_behind packed l ys) (append_assoc pre (x ∷ []) xs))
      ∙ sym (append_assoc (added_by packed pre x) (blocks_behind packed (pre ++ (x ∷ [])) xs) (blocks_behind packed (pre ++ (x ∷ xs)) ys))

-- a block that is new stands behind those that are written
pub place_new : (packed : Bool) (p : ℕ) (pre : List (Option (List ℕ))) (b : List ℕ) → known packed pre b ≡ false → place_in packed p pre b ≡ p + 2 * length (blocks_in packed pre)
unfolding place_in
place_new packed p pre b k = rw k refl

-- A block that is not written again stands at an offset that some block has.

without_has : (x b : List ℕ) (ds : List (List ℕ)) → has b (without x ds) ≡ true → has b ds ≡ true
unfolding has without
without_has x b [] h = h
without_has x b (d ∷ ds) h = step (eq_list x d) (eq_list d b) refl h (without_has x b ds)
  where
    step : (t u : Bool) → eq_list d b ≡ u → has b (cond t (without x ds) (d ∷ without x ds)) ≡ true → (has b (without x ds) ≡ true → has b ds ≡ true) → u || has b ds ≡ true
    step t true e h i = refl
    step true false e h i = i h
    step false false e h i = i (rw e at h)

has_first : (b : List ℕ) (ds : List (List ℕ)) → has b (first_of_each ds) ≡ true → has b ds ≡ true
unfolding has first_of_each
has_first b [] h = h
has_first b (d ∷ ds) h = step (eq_list d b) h (has_first b ds)
  where
    step : (u : Bool) → u || has b (without d (first_of_each ds)) ≡ true → (has b (first_of_each ds) ≡ true → has b ds ≡ true) → u || has b ds ≡ true
    step true h i = refl
    step false h i = i (without_has d b (first_of_each ds) h)

offset_known : (p : ℕ) (ds : List (List ℕ)) (bs : List (Option (List ℕ))) (b : List ℕ) → All Word (map (shared_offset p ds) bs) → has b (drop_null bs) ≡ true → Word (offset_in p ds b)
unfolding shared_offset drop_null has
offset_known p ds [] b h k = absurd (true≢false (sym k))
offset_known p ds (None ∷ bs) b h k = offset_known p ds bs b h.1 k
offset_known p ds (Some d ∷ bs) b h k = step (eq_list d b) refl k (offset_known p ds bs b h.1)
  where
    step : (t : Bool) → eq_list d b ≡ t → t || has b (drop_null bs) ≡ true → (has b (drop_null bs) ≡ true → Word (offset_in p ds b)) → Word (offset_in p ds b)
    step true e q i = subst (λ (x : List ℕ). Word (offset_in p ds x)) (list_same d b e) h.0
    step false e q i = i q

pub known_near : (packed : Bool) (p : ℕ) (pre : List (Option (List ℕ))) (b : List ℕ) → All Word (offsets_in packed p pre) → known packed pre b ≡ true → Word (place_in packed p pre b)
unfolding place_in shared_offsets
known_near false p pre b h k = absurd (true≢false (sym k))
known_near true p pre b h k = rw k (offset_known p (first_of_each (drop_null pre)) pre b h (has_first b (drop_null pre) k))
