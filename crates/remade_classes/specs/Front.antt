-- Cells of a front that changes, and those behind it.
use Rattle.std.specs.Prelude.{ℕ, ◌+◌, ◌-◌, ◌≤◌, ◌≡◌, List, ◌++◌, length, get_or, take, drop}
use Rattle.std.proofs.Common.{sym, ap, ◌∙◌, arith, length-append, length-drop, length-take-le, get_or-append-add, get_or-drop}
use Rattle.std.proofs.Math.ListN.{get_or-append}
use Rattle.cell_maps.specs.Cells.{answer_in, Holds, entry_same}
use Rattle.cell_maps.specs.declared.Map.{Map}
use Rattle.class_lists.specs.Elsewhere.{Elsewhere}

module _ (at : ℕ) (t front : List ℕ) (h : at ≤ length t) (k : length front ≡ length (take at t)) where
  pub front_size : length front ≡ at
  front_size = k ∙ length-take-le at t h

  -- only cells of the front change
  pub front_elsewhere : Elsewhere 0 at t (front ++ drop at t)
  front_elsewhere = record {
    size = omega (arith, length-append front (drop at t), front_size, length-drop at t);
    before = λ i l. absurd (omega arith);
    after = after;
  }
    where
      after : (i : ℕ) → at ≤ i → get_or (front ++ drop at t) i 0 ≡ get_or t i 0
      after i l =
          let e : length front + (i - at) ≡ i = omega (arith, front_size) in
          let f : at + (i - at) ≡ i = omega arith in
          sym (ap (λ (j : ℕ). get_or (front ++ drop at t) j 0) e) ∙ get_or-append-add front (drop at t) (i - at) 0 ∙ get_or-drop at t (i - at) 0 ∙ ap (λ (j : ℕ). get_or t j 0) f

-- a map in the front holds the same in all cells
pub joined_holds : (front rest : List ℕ) {m : Map} {es : List (ℕ × ℕ)} → Holds front m es → Holds (front ++ rest) m es
joined_holds front rest {m} o = record {
  inside = record { within = omega (arith, o.inside.within, length-append front rest) };
  answers = λ x. ap (λ (e : ℕ). answer_in e x) (entry_same front (front ++ rest) m (λ i a b. get_or-append front rest 0 i (omega (arith, o.inside.within))) x) ∙ o.answers x;
}
