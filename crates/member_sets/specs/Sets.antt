-- Sets of members: what stands in the area while they are written, and what is left of a set.
use Rattle.std.specs.Prelude.{ℕ, ◌+◌, ◌-◌, ◌*◌, ◌≤◌, ◌≡◌, length, Option, None, Some}
use Rattle.std.proofs.Math.Path.{refl, ap}
use Rattle.std.proofs.Common.{sym, ◌∙◌, arith}
use mathlib.Core.List.{List, [], ◌∷◌, ◌++◌, map}
use Rattle.std.proofs.Math.ListN.{length-map}
use Rattle.meaning.specs.Words.{flat}
use Rattle.meaning.specs.Cut.{unless_empty}
use Rattle.meaning.specs.Layout.{offsets, blocks, block, set_words}
use Rattle.laws.specs.Members.{words_left, member_blocks}
use Rattle.area.specs.Extends.{Keeps}
use Rattle.area.specs.Part.{part}
use Rattle.handing.specs.Closed.{members}
use Rattle.numbers.specs.Leaves.{Leaves}

-- The words `bs` of members stand from `first` up to `end`, and from pos + 2 on their offsets from `pos`, counted with the gap before `first`; what stood before `pos` is as before.
pub record Unclosed (area₀ : List ℕ) (pos first : ℕ) (bs : List (List ℕ)) (area : List ℕ) (end : ℕ) : Type 0 where
  pub keeps : Keeps area₀ pos area
  pub place : end ≡ first + 2 * length (blocks (members bs))
  pub room : end ≤ length area₀
  pub reached : part area (pos + 2) (2 * length bs) ≡ flat (offsets (first - pos) (members bs))
  pub laid : part area first (2 * length (blocks (members bs))) ≡ flat (blocks (members bs))

-- the words of a set whose members have the words bs: their count, their offsets, and themselves
unfoldable pub set_of : List (List ℕ) → List ℕ
set_of bs = length bs ∷ (offsets (2 + 2 * length bs) (members bs) ++ blocks (members bs))

-- Whatever k members stand there: their set is written from `pos` on, and nothing if there are none.
pub record ClosedSet (before : List ℕ) (pos k first end : ℕ) (after : List ℕ) (r : ℕ) : Type 0 where
  pub same : length after ≡ length before
  pub closed : (area₀ : List ℕ) (bs : List (List ℕ)) (m : ℕ) → length bs ≡ k → Unclosed area₀ pos first bs before end → Leaves area₀ pos (block set_of (unless_empty bs)) m after r

-- more than any area has room for, where a set has no room: what is left of the set, the place for a count and an offset for each of at most 65,535 members, and one member more, which takes no more than the source
unfoldable pub set_most : {A : Type 0} → (A → List ℕ) → Option (List A) → List ℕ → ℕ
set_most f o s = 2 * length (words_left (set_words f) o) + length s + 131072

module _ {A : Type 0} (f : A → List ℕ) where
  -- members as blocks
  pub blocks_are : (xs : List A) → members (map f xs) ≡ member_blocks f xs
  blocks_are [] = refl
  blocks_are (x ∷ xs) = ap (λ (l : List (Option (List ℕ))). Some (f x) ∷ l) (blocks_are xs)

  -- the words of a set are those of its members' words
  pub set_is : (xs : List A) → set_of (map f xs) ≡ set_words f xs
  unfolding set_of set_words
  set_is xs = rw (blocks_are xs, length-map xs f)

  pub set_left : (xs : List A) → block set_of (unless_empty (map f xs)) ≡ block (set_words f) (unless_empty xs)
  unfolding block unless_empty
  set_left [] = refl
  set_left (x ∷ xs) = ap Some (set_is (x ∷ xs))
