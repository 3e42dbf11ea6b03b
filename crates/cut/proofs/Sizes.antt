-- What the sizes of the scratch say.
use Prim.Native.Nat.{ℕ, ◌≤◌, ◌<◌}
use mathlib.Core.Path.{◌≡◌}
use mathlib.Core.Bool.{true, false}
use mathlib.Core.List.{List}
use native.Mathlib.Omega.{arith}
use Rattle.std.specs.Prelude.{None, Some, IsSome, Result}
use Rattle.meaning.specs.Subset.{Outcome}
use Rattle.room.specs.Laid.{enough_area, outcome_of}
use Rattle.room.specs.declared.NotLaid.{NotLaid}
use Rattle.tried.specs.Tries.{Tries, answered, tries_answered, tries_short, tries_always, tries_less}
use Rattle.tried.specs.declared.NotCut.{NotCut}
use Rattle.cut_sizes.specs.Cutting.{class_pair_cells, class_pair_bytes, other_cells, pairs_by_class, cells_for, bytes_for, UnlessShort, NeverShort}

-- scratch that is enough, by the format
module _ (kind : ℕ) (s : List ℕ) where
  pub pair_cells_lem : {cells : ℕ} → cells ≡ class_pair_cells → pairs_by_class kind s ≡ true → cells_for kind s ≤ cells
  unfolding cells_for
  pair_cells_lem l e = rw (l, e) (omega arith)

  pub pair_bytes_lem : {area : ℕ} → area ≡ class_pair_bytes → pairs_by_class kind s ≡ true → bytes_for kind s ≤ area
  unfolding bytes_for
  pair_bytes_lem l e = rw (l, e) (omega arith)

  pub other_cells_lem : {cells : ℕ} → cells ≡ other_cells → pairs_by_class kind s ≡ false → cells_for kind s ≤ cells
  unfolding cells_for
  other_cells_lem l e = rw (l, e) (omega arith)

  pub other_bytes_lem : {area : ℕ} → area ≡ enough_area → pairs_by_class kind s ≡ false → bytes_for kind s ≤ area
  unfolding bytes_for
  other_bytes_lem l e = rw (l, e) (omega arith)

-- what enough scratch says
pub never_short : (kind : ℕ) (s : List ℕ) (cells area : ℕ) {r : Result ℕ NotCut} {before after : List ℕ} {made : Outcome} → cells_for kind s ≤ cells → bytes_for kind s ≤ area → Tries (cells < cells_for kind s) (area < bytes_for kind s) r before after made → NeverShort r before after made
never_short kind s cells area {r} {before} {after} {made} e f h = record { tried = tries_less (cells < cells_for kind s) (area < bytes_for kind s) (⊥) (⊥) r before after made (λ x. omega arith) (λ x. omega arith) h }

-- Of one of our own sizes: what became of it, and else the buffer is untouched.
module _ {r : Result ℕ NotCut} {before after : List ℕ} {made : Outcome} where
  pub small_answered : {laid : Result ℕ NotLaid} → UnlessShort r before after made → Some laid ≡ answered r → outcome_of laid after ≡ made
  small_answered h e = tries_answered (Unit {0}) (Unit {0}) r before after made e h.tried

  pub small_untouched : UnlessShort r before after made → None ≡ answered r → after ≡ before
  small_untouched h e = tries_short (Unit {0}) (Unit {0}) r before after made e h.tried

  pub large_answered : {laid : Result ℕ NotLaid} → NeverShort r before after made → Some laid ≡ answered r → outcome_of laid after ≡ made
  large_answered h e = tries_answered (⊥) (⊥) r before after made e h.tried

  -- with enough scratch something became of it
  pub never_untouched : NeverShort r before after made → IsSome (answered r)
  never_untouched h = tries_always r before after made h.tried
