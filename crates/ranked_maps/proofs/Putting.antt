-- One mark more among those of the classes.
use Prim.Native.Nat.{ℕ, ◌+◌, ◌/◌, ◌<◌}
use mathlib.Core.Path.{◌≡◌, refl, sym, ap, ◌∙◌}
use mathlib.Core.Bool.{Bool, true, false, ◌||◌}
use mathlib.Core.List.{List}
use native.Mathlib.Omega.{arith}
use lib.ListN.{length}
use lib.Dec.{eqb}
use borrow.Author.Tests.{eqb-true, eqb-false}
use Rattle.bits.specs.Bits.{marked, Put}
use Rattle.cell_maps.specs.Cells.{Kept}

pub or_none : (a : Bool) → a || false ≡ a
or_none true = refl
or_none false = refl

-- One bit more, where there is a cell for it.
pub put_one : {at c : ℕ} {t u : List ℕ} → Put at c t u → (x : ℕ) → at + x / 32 < length t → marked u at x ≡ eqb c x || marked t at x
put_one {at} {c} {t} {u} p x h = step (eqb c x) refl
  where
    step : (b : Bool) → eqb c x ≡ b → marked u at x ≡ b || marked t at x
    step true e =
        let f : c ≡ x = eqb-true c x e in
        ap (marked u at) (sym f) ∙ p.own (rw f h)
    step false e = p.others x (λ q. eqb-false c x e (sym q))

pub put_kept : {at c : ℕ} {t u : List ℕ} → Put at c t u → Kept at t u
put_kept p = record { size = p.size; same = λ i h. p.cells i (λ e. omega arith) }
