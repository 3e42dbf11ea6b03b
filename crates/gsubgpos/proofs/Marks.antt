-- Marks of places that were looked at: one more.
use Prim.Native.Nat.{ℕ}
use mathlib.Core.Path.{◌≡◌, refl, sym, ◌∙◌}
use mathlib.Core.Bool.{Bool, true, false}
use mathlib.Core.List.{List}
use lib.Dec.{eqb}
use borrow.Author.Tests.{eqb-true, eqb-false}
use Rattle.bits.specs.Bits.{marked, Put}
use Rattle.gsubgpos.specs.Marks.{Marked}

pub marked_more : {A : Type 0} {f : ℕ → A} {v : A} {marks next : List ℕ} (at : ℕ) → Marked f v marks → f at ≡ v → Put 0 at marks next → Marked f v next
marked_more {A} {f} {v} {marks} {next} at k h e = record { known = λ p m. step p (eqb p at) refl m }
  where
    step : (p : ℕ) (b : Bool) → eqb p at ≡ b → marked next 0 p ≡ true → f p ≡ v
    step p true q m = rw (eqb-true p at q) h
    step p false q m = k.known p (sym (e.others p (eqb-false p at q)) ∙ m)
