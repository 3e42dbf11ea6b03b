-- Cells that a function leaves alone.
use Rattle.std.specs.Prelude.{ℕ, ◌≤◌, ◌<◌, ◌≡◌, refl, List, length, get_or, set}
use Rattle.std.proofs.Common.{◌∙◌, arith, length-set, get_or-set_other}
use Rattle.cell_maps.specs.Cells.{Kept}

-- the cells before `from` and those from `to` on are as before, and so is how many there are
pub record Elsewhere (from to : ℕ) (t₀ t : List ℕ) : Type 0 where
  pub size : length t ≡ length t₀
  pub before : (i : ℕ) → i < from → get_or t i 0 ≡ get_or t₀ i 0
  pub after : (i : ℕ) → to ≤ i → get_or t i 0 ≡ get_or t₀ i 0

pub elsewhere_all : {from to : ℕ} {t : List ℕ} → Elsewhere from to t t
elsewhere_all = record { size = refl; before = λ i h. refl; after = λ i h. refl }

pub elsewhere_set : {from to : ℕ} (t : List ℕ) (i v : ℕ) → from ≤ i → i < to → Elsewhere from to t (set t i v)
elsewhere_set t i v a b = record {
  size = length-set t i v;
  before = λ j h. get_or-set_other t i j v 0 (λ e. omega arith);
  after = λ j h. get_or-set_other t i j v 0 (λ e. omega arith);
}

-- one change after another, and a part that holds both
pub elsewhere_more : {from to : ℕ} {a b c : List ℕ} → Elsewhere from to a b → Elsewhere from to b c → Elsewhere from to a c
elsewhere_more k l = record {
  size = l.size ∙ k.size;
  before = λ i h. l.before i h ∙ k.before i h;
  after = λ i h. l.after i h ∙ k.after i h;
}

pub elsewhere_wide : {from to low high : ℕ} {a b : List ℕ} → low ≤ from → to ≤ high → Elsewhere from to a b → Elsewhere low high a b
elsewhere_wide p q k = record { size = k.size; before = λ i h. k.before i (omega arith); after = λ i h. k.after i (omega arith) }

-- the cells before stand
pub elsewhere_kept : {from to : ℕ} {a b : List ℕ} → Elsewhere from to a b → Kept from a b
elsewhere_kept k = record { size = k.size; same = k.before }
