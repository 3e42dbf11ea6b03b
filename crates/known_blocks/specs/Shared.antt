-- Blocks of one kind in the layout that is asked for, plain or packed, as a loop meets them one by one.
use Rattle.std.specs.Prelude.{ℕ, ◌+◌, ◌*◌, ◌≤◌, ◌≡◌, Bool, ◌&&◌, Option, None, Some}
use Rattle.std.proofs.Math.Path.{refl, ap}
use Rattle.std.proofs.Common.{sym, ap₂, ◌∙◌, arith, length-append}
use Rattle.std.proofs.Math.Bool.{true, false, cond}
use mathlib.Core.List.{List, [], ◌∷◌, ◌++◌, map, map-append, append-nil, append_assoc}
use Rattle.std.proofs.Math.ListN.{length}
use Rattle.meaning.specs.Tables.{drop_null}
use Rattle.meaning.specs.Layout.{offsets, blocks}
use Rattle.meaning.specs.Packed.{first_of_each, together, offset_in}
use Rattle.laws.specs.Stands.{All}
use Rattle.laws.specs.Through.{offsets_append, blocks_append}
use Rattle.laws.specs.Repeats.{has, each_has, first_next, offset_stays, offset_behind}
use Rattle.laws.specs.PackedReading.{shared_offset, shared_offsets, shared_blocks}

-- the offsets of blocks that stand from p on, and the blocks as they are written: none twice, if they are packed
abbrev pub offsets_in : Bool → ℕ → List (Option (List ℕ)) → List ℕ
offsets_in false p bs = offsets p bs
offsets_in true p bs = shared_offsets p bs

abbrev pub blocks_in : Bool → List (Option (List ℕ)) → List ℕ
blocks_in false bs = blocks bs
blocks_in true bs = shared_blocks bs

-- a block is not written again, since one that is equal is among those that are written
abbrev pub known : Bool → List (Option (List ℕ)) → List ℕ → Bool
known packed bs b = packed && has b (first_of_each (drop_null bs))

-- where it stands: there, or behind them
unfoldable pub place_in : Bool → ℕ → List (Option (List ℕ)) → List ℕ → ℕ
place_in packed p bs b = cond (known packed bs b) (offset_in p (first_of_each (drop_null bs)) b) (p + 2 * length (blocks_in packed bs))

-- no block more
pub null_dropped : (bs : List (Option (List ℕ))) → drop_null (bs ++ (None ∷ [])) ≡ drop_null bs
unfolding drop_null
null_dropped [] = refl
null_dropped (None ∷ bs) = null_dropped bs
null_dropped (Some b ∷ bs) = ap (λ (l : List (List ℕ)). b ∷ l) (null_dropped bs)

-- one block more
block_left : (bs : List (Option (List ℕ))) (b : List ℕ) → drop_null (bs ++ (Some b ∷ [])) ≡ drop_null bs ++ (b ∷ [])
unfolding drop_null
block_left [] b = refl
block_left (None ∷ bs) b = block_left bs b
block_left (Some d ∷ bs) b = ap (λ (l : List (List ℕ)). d ∷ l) (block_left bs b)

together_append : (ds es : List (List ℕ)) → together (ds ++ es) ≡ together ds ++ together es
unfolding together
together_append [] es = refl
together_append (d ∷ ds) es = ap (λ (l : List ℕ). d ++ l) (together_append ds es) ∙ sym (append_assoc d (together ds) (together es))

-- the offsets of blocks that are written stay where one block more is written behind them
shared_stay : (p : ℕ) (ds es : List (List ℕ)) (bs : List (Option (List ℕ))) → All (λ b. has b ds ≡ true) (drop_null bs) → map (shared_offset p (ds ++ es)) bs ≡ map (shared_offset p ds) bs
unfolding shared_offset drop_null
shared_stay p ds es [] h = refl
shared_stay p ds es (None ∷ bs) h = ap (λ (l : List ℕ). 0 ∷ l) (shared_stay p ds es bs h)
shared_stay p ds es (Some b ∷ bs) h = ap₂ ◌∷◌ (offset_stays p ds es b h.0) (shared_stay p ds es bs h.1)

module _ (packed : Bool) (p : ℕ) (bs : List (Option (List ℕ))) where
  pub offsets_null : offsets_in packed p (bs ++ (None ∷ [])) ≡ offsets_in packed p bs ++ (0 ∷ [])
  unfolding offsets shared_offsets shared_offset
  offsets_null = step packed
    where
      step : (t : Bool) → offsets_in t p (bs ++ (None ∷ [])) ≡ offsets_in t p bs ++ (0 ∷ [])
      step false = offsets_append p bs (None ∷ [])
      step true = ap (λ (ds : List (List ℕ)). map (shared_offset p (first_of_each ds)) (bs ++ (None ∷ []))) (null_dropped bs) ∙ map-append (shared_offset p (first_of_each (drop_null bs))) bs (None ∷ [])

  pub blocks_null : blocks_in packed (bs ++ (None ∷ [])) ≡ blocks_in packed bs
  unfolding blocks shared_blocks
  blocks_null = step packed
    where
      step : (t : Bool) → blocks_in t (bs ++ (None ∷ [])) ≡ blocks_in t bs
      step false = blocks_append bs (None ∷ []) ∙ append-nil (blocks bs)
      step true = ap (λ (ds : List (List ℕ)). together (first_of_each ds)) (null_dropped bs)

  module _ (b : List ℕ) where
    -- the blocks that are written, with one more
    abbrev ds : List (List ℕ)
    ds = first_of_each (drop_null bs)

    pub firsts_next : first_of_each (drop_null (bs ++ (Some b ∷ []))) ≡ ds ++ cond (has b ds) [] (b ∷ [])
    firsts_next = ap first_of_each (block_left bs b) ∙ first_next (drop_null bs) b

    pub blocks_next : blocks_in packed (bs ++ (Some b ∷ [])) ≡ blocks_in packed bs ++ cond (known packed bs b) [] b
    unfolding blocks shared_blocks together
    blocks_next = step packed
      where
        one : (t : Bool) → together (cond t [] (b ∷ [])) ≡ cond t [] b
        one true = refl
        one false = append-nil b

        step : (t : Bool) → blocks_in t (bs ++ (Some b ∷ [])) ≡ blocks_in t bs ++ cond (t && has b ds) [] b
        step false = blocks_append bs (Some b ∷ []) ∙ ap (λ (l : List ℕ). blocks bs ++ l) (append-nil b)
        step true = ap together firsts_next ∙ together_append ds (cond (has b ds) [] (b ∷ [])) ∙ ap (λ (l : List ℕ). together ds ++ l) (one (has b ds))

    pub offsets_next : offsets_in packed p (bs ++ (Some b ∷ [])) ≡ offsets_in packed p bs ++ (place_in packed p bs b ∷ [])
    unfolding offsets place_in shared_offsets shared_offset shared_blocks
    offsets_next = step packed
      where
        last : (t : Bool) → has b ds ≡ t → offset_in p (ds ++ cond t [] (b ∷ [])) b ≡ cond t (offset_in p ds b) (p + 2 * length (together ds))
        last true e = ap (λ (l : List (List ℕ)). offset_in p l b) (append-nil ds)
        last false e = offset_behind p ds b e

        step : (t : Bool) → offsets_in t p (bs ++ (Some b ∷ [])) ≡ offsets_in t p bs ++ (place_in t p bs b ∷ [])
        step false = offsets_append p bs (Some b ∷ [])
        step true =
            ap (λ (l : List (List ℕ)). map (shared_offset p l) (bs ++ (Some b ∷ []))) firsts_next
            ∙ map-append (shared_offset p (ds ++ cond (has b ds) [] (b ∷ []))) bs (Some b ∷ [])
            ∙ ap₂ ◌++◌ (shared_stay p ds (cond (has b ds) [] (b ∷ [])) bs (each_has (drop_null bs))) (ap (λ (q : ℕ). q ∷ []) (last (has b ds) refl))
