-- The classes of a coverage's retained glyphs, found by their new numbers in the list of classes: both ascend.
use Rattle.std.specs.Prelude.{ℕ, ◌+◌, ◌-◌, ◌*◌, ◌/◌, ◌≤◌, ◌<◌, ◌≡◌, cond, ◌||◌, List, [], ◌∷◌, length, eqb}
use Rattle.meaning.specs.Words.{keys, member}
use Rattle.meaning.specs.Cut.{held_by, new_coverage, retained}
use Rattle.laws.specs.Runs.{Up}
use Rattle.laws.specs.CutGood.{GoodMap}
use Rattle.bits.specs.Bits.{marked}
use Rattle.cell_maps.specs.Cells.{Kept}
use Rattle.area.specs.Part.{news, notes}
use Rattle.class_lists.specs.From.{from_old}
use Rattle.ranked_maps.specs.Mapped.{Lists}

-- the class of the first entry, if that is of the new number v; else 0
unfoldable pub first_class : ℕ → List (ℕ × ℕ) → ℕ
first_class v [] = 0
first_class v (e ∷ es) = cond (eqb e.0 v) e.1 0

-- from the r-th of the n listed cells on, the new numbers are those that are `new` or more, of those from the `from`-th on
pub record Passes (t : List ℕ) (list n from new r : ℕ) : Type 0 where
  pub within : r ≤ n
  pub rest : notes t (list + r) (n - r) ≡ from_old new (notes t (list + from) (n - from))

-- The n notes from `noted` on and the list of classes, of len cells, stand before the marks, which begin inside, and not too far.
pub record Coverable (t : List ℕ) (noted n list len marks : ℕ) : Type 0 where
  pub notes : noted + n ≤ marks
  pub classes : list + len ≤ marks
  pub inside : marks ≤ length t
  pub near : marks < 0x1_0000_0000_0000

-- If the notes' new numbers and those of the list ascend, just the bits of the classes of the notes' new numbers in the list are set besides, where there is a cell; the cells before the marks are as before.
pub record Met (t₀ t : List ℕ) (noted n list len marks : ℕ) : Type 0 where
  pub kept : Kept marks t₀ t
  pub classes : Up 0 (news t₀ noted n) → Up 0 (keys (notes t₀ list len)) → (c : ℕ) → marks + c / 32 < length t₀ → marked t marks c ≡ marked t₀ marks c || member c (held_by (notes t₀ list len) (news t₀ noted n))

-- If the notes' new numbers are those of a coverage's retained glyphs, and the list is that of all of them, a class that has a bit in the cells of the marks is marked just if one of these glyphs holds it; the cells before them are as before.
pub record Covered (t₀ t : List ℕ) (noted n list len marks cells : ℕ) : Type 0 where
  pub kept : Kept marks t₀ t
  pub classes : (cs g : List (ℕ × ℕ)) (cov : List ℕ) → GoodMap g → Lists cs g t₀ list len → Up 0 cov → news t₀ noted n ≡ new_coverage g cov
      → (c : ℕ) → c < 32 * cells → marked t marks c ≡ member c (held_by cs (retained g cov))
