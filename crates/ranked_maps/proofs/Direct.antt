-- Cells with one for each class.
use Prim.Native.Nat.{ℕ, ◌+◌, ◌-◌, ◌*◌, ◌/◌, ◌≤◌, ◌<◌}
use mathlib.Core.Path.{◌≡◌, refl, sym, ap, ◌∙◌}
use mathlib.Core.Bool.{Bool, true, false, ◌||◌}
use Rattle.std.specs.Prelude.{None}
use mathlib.Core.List.{List}
use native.Mathlib.Decide.{dec_lt}
use native.Mathlib.Omega.{arith}
use lib.ListN.{length, get_or, set, length-set}
use lib.Seq.{get_or-set_same, get_or-set_other}
use lib.Bits.{bit_and}
use lib.Dec.{eqb}
use borrow.Author.Tests.{eq-eqb, ne_eqb, eqb-true, eqb-false}
use Rattle.meaning.specs.Words.{is_some, member}
use Rattle.meaning.specs.Cut.{insert_up}
use Rattle.laws.specs.CutCells.{insert_up_lem}
use Rattle.cell_maps.specs.Cells.{cell_of, answer_in, folded, Odd, entry_folded, answer_own, answer_other}
use Rattle.cell_maps.specs.Laid.{power_even, own_cell}
use Rattle.cell_maps.specs.declared.Map.{Map}
use Rattle.ranked_maps.specs.Once.{same_members, insert_member}
use Rattle.ranked_maps.specs.Present.{top_of, present, top_odd, present_up, found_present}
use Rattle.ranked_maps.specs.Mapped.{Direct}

-- the number that the cell of class x names
abbrev named : List ℕ → Map → ℕ → ℕ
named t m x = get_or t (m.at + x) 0 / 65536

module _ {t : List ℕ} {m : Map} (k : Direct t m) where
  -- each class has a cell of its own
  own : (x : ℕ) → x ≤ m.mask → bit_and x m.mask ≡ x
  own x h =
      let e : m.mask + 1 - 1 ≡ m.mask = omega arith in
      rw e at (own_cell k.power x (omega arith))

  odd : Odd m
  odd = let e = power_even k.power in record { odd = omega (arith, e.0) }

  pub top_mask : m.mask ≡ top_of m
  top_mask = top_odd m (λ z. omega (arith, odd.odd))

  -- what it answers
  pub folded_own : (x : ℕ) → x ≤ m.mask → folded t m x ≡ answer_in (get_or t (m.at + x) 0) x
  folded_own x h = ap (λ (e : ℕ). answer_in e x) (entry_folded t m odd x) ∙ ap (λ (i : ℕ). answer_in (get_or t (m.at + i) 0) x) (own x h)

  pub class_inside : (x : ℕ) → x ≤ m.mask → m.at + x < length t
  class_inside x h = omega (arith, k.inside.within)

  -- whether it has an entry
  folded_some : (x : ℕ) → x ≤ m.mask → is_some (folded t m x) ≡ eqb (named t m x) x
  unfolding is_some
  folded_some x h = step (eqb (named t m x) x) refl
    where
      step : (b : Bool) → eqb (named t m x) x ≡ b → is_some (folded t m x) ≡ b
      step true e = rw (folded_own x h, answer_own (get_or t (m.at + x) 0) x (eqb-true _ _ e))
      step false e = rw (folded_own x h, answer_other (get_or t (m.at + x) 0) x (eqb-false _ _ e))

  pub has_entry : (x : ℕ) → x ≤ m.mask → named t m x ≡ x → is_some (folded t m x) ≡ true
  has_entry x h e = folded_some x h ∙ eq-eqb _ _ e

  pub has_none : (x : ℕ) → x ≤ m.mask → (named t m x ≡ x → ⊥) → is_some (folded t m x) ≡ false
  has_none x h e = folded_some x h ∙ ne_eqb _ _ e

  -- a class has an entry if the walk finds it
  pub entry_present : (x : ℕ) → is_some (folded t m x) ≡ member x (present t m)
  entry_present = found_present t m (λ x h. k.above x (omega (arith, top_mask)))

  -- One entry more, with the new number v.
  module _ (c v : ℕ) (h : c ≤ m.mask) (s : v < 65536) where
    abbrev after : List ℕ
    after = set t (m.at + c) (c * 65536 + v)

    pub direct_set : Direct after m
    direct_set = record {
      power = k.power;
      few = k.few;
      inside = record { within = omega (arith, length-set t (m.at + c) (c * 65536 + v), k.inside.within) };
      above = λ x l. step x l (eqb (bit_and x m.mask) c) refl;
    }
      where
        step : (x : ℕ) → m.mask < x → (b : Bool) → eqb (bit_and x m.mask) c ≡ b → folded after m x ≡ None
        step x l true e =
            let f : bit_and x m.mask ≡ c = eqb-true _ _ e in
            ap (λ (e : ℕ). answer_in e x) (entry_folded after m odd x)
            ∙ ap (λ (i : ℕ). answer_in (get_or after (m.at + i) 0) x) f
            ∙ ap (λ (w : ℕ). answer_in w x) (get_or-set_same t (m.at + c) (c * 65536 + v) 0 (class_inside c h))
            ∙ answer_other (c * 65536 + v) x (λ q. omega arith)
        step x l false e =
            let f : bit_and x m.mask ≡ c → ⊥ = eqb-false _ _ e in
            ap (λ (w : ℕ). answer_in w x) (entry_folded after m odd x ∙ get_or-set_other t (m.at + c) (cell_of m x) (c * 65536 + v) 0 (λ q. f (omega arith)) ∙ sym (entry_folded t m odd x))
            ∙ k.above x l

    -- its cell names it, and the others what they named before
    pub cell_same : get_or after (m.at + c) 0 ≡ c * 65536 + v
    cell_same = get_or-set_same t (m.at + c) (c * 65536 + v) 0 (class_inside c h)

    pub cell_other : (x : ℕ) → (x ≡ c → ⊥) → get_or after (m.at + x) 0 ≡ get_or t (m.at + x) 0
    cell_other x n = get_or-set_other t (m.at + c) (m.at + x) (c * 65536 + v) 0 (λ q. n (omega arith))

-- the walk finds one class more
pub present_set : {t : List ℕ} {m : Map} → Direct t m → (c v : ℕ) → c ≤ m.mask → v < 65536 → present (set t (m.at + c) (c * 65536 + v)) m ≡ insert_up c (present t m)
unfolding is_some
present_set {t} {m} k c v h s =
    same_members 0 0 (present after m) (insert_up c (present t m)) (present_up after m 0 (top_of m + 1)) (insert_up_lem 0 c (present t m) (omega arith) (present_up t m 0 (top_of m + 1)))
    (λ x. sym (entry_present d x) ∙ step x (dec_lt m.mask x) ∙ ap (λ (b : Bool). eqb c x || b) (entry_present k x) ∙ sym (insert_member x c (present t m)))
  where
    after : List ℕ
    after = set t (m.at + c) (c * 65536 + v)

    d : Direct after m
    d = direct_set k c v h s

    names : (c * 65536 + v) / 65536 ≡ c
    names = omega arith

    here : (x : ℕ) (b : Bool) → eqb c x ≡ b → eqb (named after m x) x ≡ b || eqb (named t m x) x
    here x true e =
        let f : c ≡ x = eqb-true c x e in
        eq-eqb _ _ (ap (λ (y : ℕ). get_or after (m.at + y) 0 / 65536) (sym f) ∙ ap (λ (w : ℕ). w / 65536) (cell_same k c v h s) ∙ names ∙ f)
    here x false e = ap (λ (w : ℕ). eqb (w / 65536) x) (cell_other k c v h s x (λ q. eqb-false c x e (sym q)))

    step : (x : ℕ) → Dec (m.mask < x) → is_some (folded after m x) ≡ eqb c x || is_some (folded t m x)
    step x (yes l) = rw (d.above x l, k.above x l, ne_eqb c x (λ q. omega arith))
    step x (no l) = folded_some d x (omega arith) ∙ here x (eqb c x) refl ∙ ap (λ (b : Bool). eqb c x || b) (sym (folded_some k x (omega arith)))
