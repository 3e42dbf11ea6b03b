-- The offsets of sets in either layout, less by the gap before the sets: those without it.
use Prim.Native.Nat.{ℕ, ◌+◌, ◌-◌, ◌*◌, ◌≤◌}
use mathlib.Core.Path.{◌≡◌, refl, sym, ap, ap₂, ◌∙◌, subst}
use mathlib.Core.Bool.{Bool, true, false, cond, ◌||◌, true≢false}
use Rattle.std.specs.Prelude.{Option}
use mathlib.Core.List.{List, [], ◌∷◌, map}
use native.Mathlib.Omega.{arith}
use lib.ListN.{length, length-map}
use Rattle.meaning.specs.Words.{eq_list}
use Rattle.meaning.specs.Tables.{drop_null}
use Rattle.meaning.specs.Layout.{offsets, blocks}
use Rattle.meaning.specs.Packed.{first_of_each, together, offset_in}
use Rattle.laws.specs.Stands.{All}
use Rattle.laws.specs.Through.{offsets_length}
use Rattle.laws.specs.Repeats.{has, each_has}
use Rattle.laws.specs.PackedReading.{shared_offset, shared_offsets, shared_blocks}
use Rattle.handing.specs.Closed.{members, less_by, offsets_less, offsets_most}
use Rattle.known_blocks.specs.Shared.{offsets_in, blocks_in}

-- no sets, no words
pub none_blocks : (packed : Bool) → blocks_in packed [] ≡ []
unfolding blocks shared_blocks drop_null first_of_each together
none_blocks false = refl
none_blocks true = refl

-- an offset for each set
pub offsets_count : (packed : Bool) (p : ℕ) (bs : List (Option (List ℕ))) → length (offsets_in packed p bs) ≡ length bs
unfolding shared_offsets
offsets_count false p bs = offsets_length p bs
offsets_count true p bs = length-map bs (shared_offset p (first_of_each (drop_null bs)))

-- the offset of a set that is written, with the gap
offset_shift : (d p : ℕ) (ds : List (List ℕ)) (b : List ℕ) → has b ds ≡ true → offset_in (p + d) ds b ≡ offset_in p ds b + d
unfolding has offset_in
offset_shift d p [] b h = absurd (true≢false (sym h))
offset_shift d p (e ∷ ds) b h =
    let f : p + d + 2 * length e ≡ p + 2 * length e + d = omega arith in
    step (eq_list e b) h (λ k. ap (λ (n : ℕ). offset_in n ds b) f ∙ offset_shift d (p + 2 * length e) ds b k)
  where
    step : (t : Bool) → t || has b ds ≡ true → (has b ds ≡ true → offset_in (p + d + 2 * length e) ds b ≡ offset_in (p + 2 * length e) ds b + d)
        → cond t (p + d) (offset_in (p + d + 2 * length e) ds b) ≡ cond t p (offset_in (p + 2 * length e) ds b) + d
    step true k i = refl
    step false k i = i k

-- it is not before the first
offset_least : (p : ℕ) (ds : List (List ℕ)) (b : List ℕ) → has b ds ≡ true → p ≤ offset_in p ds b
unfolding has offset_in
offset_least p [] b h = absurd (true≢false (sym h))
offset_least p (e ∷ ds) b h = step (eq_list e b) h (offset_least (p + 2 * length e) ds b)
  where
    step : (t : Bool) → t || has b ds ≡ true → (has b ds ≡ true → p + 2 * length e ≤ offset_in (p + 2 * length e) ds b) → p ≤ cond t p (offset_in (p + 2 * length e) ds b)
    step true k i = omega arith
    step false k i = omega (arith, i k)

-- the sets that there are
members_dropped : (bs : List (List ℕ)) → drop_null (members bs) ≡ bs
unfolding drop_null
members_dropped [] = refl
members_dropped (b ∷ bs) = ap (λ (l : List (List ℕ)). b ∷ l) (members_dropped bs)

shared_less : (d p : ℕ) (ds bs : List (List ℕ)) → All (λ b. has b ds ≡ true) bs → less_by d (map (shared_offset (p + d) ds) (members bs)) ≡ map (shared_offset p ds) (members bs)
unfolding shared_offset
shared_less d p ds [] h = refl
shared_less d p ds (b ∷ bs) h =
    let e : offset_in (p + d) ds b - d ≡ offset_in p ds b = omega (arith, offset_shift d p ds b h.0) in
    ap₂ (λ (o : ℕ) (l : List ℕ). o ∷ l) e (shared_less d p ds bs h.1)

shared_most : (d p : ℕ) (ds bs : List (List ℕ)) → d ≤ p → All (λ b. has b ds ≡ true) bs → All (λ o. d ≤ o) (map (shared_offset p ds) (members bs))
unfolding shared_offset
shared_most d p ds [] l h = tt
shared_most d p ds (b ∷ bs) l h = (omega (arith, offset_least p ds b h.0), shared_most d p ds bs l h.1)

-- each set is among those that are written
each_written : (bs : List (List ℕ)) → All (λ b. has b (first_of_each (drop_null (members bs))) ≡ true) bs
each_written bs = subst (λ (l : List (List ℕ)). All (λ b. has b (first_of_each l) ≡ true) bs) (sym (members_dropped bs)) (each_has bs)

pub offsets_lower : (packed : Bool) (d p : ℕ) (bs : List (List ℕ)) → less_by d (offsets_in packed (p + d) (members bs)) ≡ offsets_in packed p (members bs)
unfolding shared_offsets
offsets_lower false d p bs = offsets_less d p bs
offsets_lower true d p bs = shared_less d p (first_of_each (drop_null (members bs))) bs (each_written bs)

pub offsets_least : (packed : Bool) (d p : ℕ) (bs : List (List ℕ)) → d ≤ p → All (λ o. d ≤ o) (offsets_in packed p (members bs))
unfolding shared_offsets
offsets_least false d p bs h = offsets_most d p bs h
offsets_least true d p bs h = shared_most d p (first_of_each (drop_null (members bs))) bs h (each_written bs)
