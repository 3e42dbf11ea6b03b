-- From the classes of the glyphs to their class map.
use Prim.Native.Nat.{ℕ, zero, suc, ◌+◌, ◌-◌, ◌%◌, ◌^◌, ◌≤◌, ◌<◌}
use mathlib.Core.Path.{◌≡◌, refl, sym, ap, ◌∙◌}
use mathlib.Core.Bool.{Bool, true, false, cond, ◌||◌}
use Rattle.std.specs.Prelude.{None, Some}
use mathlib.Core.List.{List, [], ◌∷◌, map}
use native.Mathlib.Decide.{dec_lt}
use native.Mathlib.Omega.{arith}
use lib.ListN.{length, get_or, set}
use lib.Dec.{eqb}
use lib.Pow.{pow_mono}
use borrow.Author.Tests.{eqb-true}
use Rattle.meaning.specs.Words.{keys, values, member, push, map_some}
use Rattle.meaning.specs.Parts.{class_of}
use Rattle.meaning.specs.Cut.{insert_up, held_by, numbered, class_map, second_map}
use Rattle.laws.specs.Runs.{Up}
use Rattle.laws.specs.CutCells.{insert_up_lem, held_up, numbered_length}
use Rattle.cell_maps.specs.Cells.{ranked_mask, Holds, Kept, kept_all, kept_more}
use Rattle.cell_maps.specs.Laid.{Power, Next, power_even}
use Rattle.cell_maps.specs.declared.Map.{Map}
use Rattle.area.specs.Part.{part, news, notes}
use Rattle.area.specs.Stored.{part_same}
use Rattle.class_lists.specs.Listed.{classed, holds_zero}
use Rattle.class_lists.specs.declared.ClassList.{ClassList}
use Rattle.ranked_maps.specs.Once.{each_once, once_up, same_members, insert_member, or_twice, or_swap}
use Rattle.ranked_maps.specs.Present.{most_cells, present, top_even}
use Rattle.ranked_maps.specs.Mapped.{Direct, ToMark, Marked, Ranked, Lists, ToMap, Held, with_zero, Numbers, Mapped}
use Rattle.ranked_maps.specs.declared.ClassMap.{ClassMap}
use Rattle.ranked_maps.proofs.Direct.{top_mask}
use Rattle.ranked_maps.proofs.Marking.{cleared_direct, cleared_free, marked_one}

-- the classes of notes
notes_values : (t : List ℕ) (list n : ℕ) → values (notes t list n) ≡ news t list n
unfolding part values
notes_values t list zero = refl
notes_values t list (suc n) = ap (λ (l : List ℕ). get_or t list 0 % 65536 ∷ l) (notes_values t (list + 1) n)

-- The classes that glyphs hold: those that are listed, and class 0 if some glyph holds it.
in_zero : (x : ℕ) (z : Bool) (l : List ℕ) → member x (with_zero z l) ≡ cond z (eqb 0 x || member x l) (member x l)
in_zero x true l = insert_member x 0 l
in_zero x false l = refl

module _ (cs : List (ℕ × ℕ)) (x : ℕ) where
  held_in : (g : List (ℕ × ℕ)) → member x (held_by cs (keys g)) ≡ member x (with_zero (holds_zero cs g) (each_once (values (classed cs g))))
  unfolding held_by keys holds_zero classed map_some push each_once values member
  held_in [] = refl
  held_in (e ∷ g) = insert_member x (class_of cs e.0) (held_by cs (keys g)) ∙ step (eqb (class_of cs e.0) 0) refl (holds_zero cs g) (held_in g ∙ in_zero x (holds_zero cs g) (each_once (values (classed cs g))))
    where
      step : (b : Bool) → eqb (class_of cs e.0) 0 ≡ b → (z : Bool) → member x (held_by cs (keys g)) ≡ cond z (eqb 0 x || member x (each_once (values (classed cs g)))) (member x (each_once (values (classed cs g))))
          → eqb (class_of cs e.0) x || member x (held_by cs (keys g)) ≡ member x (with_zero (b || z) (each_once (values (push (cond b None (Some (e.1, class_of cs e.0))) (classed cs g)))))
      step true q true k = rw (eqb-true (class_of cs e.0) 0 q, k) (sym (in_zero x true (each_once (values (classed cs g))) ∙ or_twice (eqb 0 x) (member x (each_once (values (classed cs g))))))
      step true q false k = rw (eqb-true (class_of cs e.0) 0 q, k) (sym (in_zero x true (each_once (values (classed cs g)))))
      step false q true k =
          rw k (or_swap (eqb (class_of cs e.0) x) (eqb 0 x) (member x (each_once (values (classed cs g))))
          ∙ ap (λ (b : Bool). eqb 0 x || b) (sym (insert_member x (class_of cs e.0) (each_once (values (classed cs g)))))
          ∙ sym (insert_member x 0 (insert_up (class_of cs e.0) (each_once (values (classed cs g))))))
      step false q false k = rw k (sym (insert_member x (class_of cs e.0) (each_once (values (classed cs g)))))

pub zero_up : (z : Bool) (l : List ℕ) → Up 0 l → Up 0 (with_zero z l)
zero_up true l u = insert_up_lem 0 0 l (omega arith) u
zero_up false l u = u

held_is : (cs g : List (ℕ × ℕ)) → with_zero (holds_zero cs g) (each_once (values (classed cs g))) ≡ held_by cs (keys g)
held_is cs g =
    same_members 0 0 (with_zero (holds_zero cs g) (each_once (values (classed cs g)))) (held_by cs (keys g)) (zero_up (holds_zero cs g) (each_once (values (classed cs g))) (once_up (values (classed cs g)))) (held_up cs (keys g))
    (λ x. sym (held_in cs x g))

-- with class 0 always among them
twice_zero : (x : ℕ) (z : Bool) (l : List ℕ) → member x (insert_up 0 l) ≡ eqb 0 x || member x (with_zero z l)
twice_zero x true l = insert_member x 0 l ∙ or_twice (eqb 0 x) (member x l) ∙ ap (λ (b : Bool). eqb 0 x || b) (sym (insert_member x 0 l))
twice_zero x false l = insert_member x 0 l

pinned_is : (cs g : List (ℕ × ℕ)) → insert_up 0 (each_once (values (classed cs g))) ≡ insert_up 0 (held_by cs (keys g))
pinned_is cs g =
    same_members 0 0 (insert_up 0 (each_once (values (classed cs g)))) (insert_up 0 (held_by cs (keys g))) (zero_up true (each_once (values (classed cs g))) (once_up (values (classed cs g)))) (zero_up true (held_by cs (keys g)) (held_up cs (keys g)))
    (λ x. twice_zero x (holds_zero cs g) (each_once (values (classed cs g))) ∙ ap (λ (l : List ℕ). eqb 0 x || member x l) (held_is cs g) ∙ sym (insert_member x 0 (held_by cs (keys g))))

-- the next power of two of what is at most 4,096 is so, too
few_power : {n p : ℕ} → Next n p → n ≤ ranked_mask → p ≤ ranked_mask
few_power {n} {p} w h = step (dec_lt 12 (suc w.two.exponent))
  where
    step : Dec (12 < suc w.two.exponent) → p ≤ ranked_mask
    step (yes l) =
        let g : 2 ^ 13 ≤ 2 ^ suc w.two.exponent = pow_mono l in
        absurd (omega (arith, w.two.power, w.least (omega (arith, w.two.power))))
    step (no l) =
        let g : 2 ^ suc w.two.exponent ≤ 2 ^ 12 = pow_mono {j = 12} (omega arith) in
        omega (arith, w.two.power)

-- the n cells from `at` on
abbrev pub cells_from : ℕ → ℕ → Map
cells_from at n = record { at = at; mask = n - 1 }

module _ {t₀ : List ℕ} {list : ℕ} {l : ClassList} {to p : ℕ} (a : ToMap t₀ list l to × (l.high < ranked_mask)) (n : Next (l.high + 1) p) where
  abbrev m : Map
  m = cells_from to p

  few_cells : p - 1 < most_cells
  few_cells = omega (arith, few_power n (omega (arith, a.1)))

  -- the last of them is not too far
  pub held_near : to + (p - 1) < 0x2_0000_0000_0000
  held_near = omega (arith, a.0.near, few_cells)

  -- There are too few cells.
  pub held_short : length t₀ ≤ to + (p - 1) → Held t₀ t₀ list l to (record { at = to; mask = 0 })
  held_short h = record {
    placed = record {
      kept = kept_all to t₀;
      at = refl;
      few = omega arith;
      top = omega (arith, top_even (record { at = to; mask = 0 }) refl, a.0.small);
      inside = λ e. absurd (e refl);
      room = λ r z. omega (arith, few_cells);
    };
    marked = λ e. absurd (e refl);
  }

  module _ (h : to + (p - 1) < length t₀) where
    odd_mask : (p - 1) % 2 ≡ 1
    odd_mask = let e = power_even n.two in omega (arith, e.0, e.1)

    power_mask : Power (p - 1 + 1)
    power_mask =
        let e : p - 1 + 1 ≡ p = omega (arith, (power_even n.two).1) in
        rw e n.two

    module _ {t₁ : List ℕ} (c : Holds t₁ m [] × Kept to t₀ t₁) where
      low : (j : ℕ) → j < l.len → get_or t₁ (list + j) 0 % 65536 ≤ p - 1
      low j b = omega (arith, ap (λ (w : ℕ). w % 65536) (c.1.same (list + j) (omega (arith, a.0.place))), a.0.low (omega (arith, a.0.place)) j b, n.enough)

      pub held_ready : ToMark t₁ m list l.len
      held_ready =
          let d = cleared_direct c.0 power_mask (omega (arith, few_cells)) in
          record { direct = d; free = cleared_free c.0 d; place = a.0.place; low = low }

      -- the marked classes are those that are listed
      pub held_done : {t₂ : List ℕ} → Marked t₁ t₂ m (news t₁ list l.len) → Held t₀ t₂ list l to m
      held_done {t₂} k = record {
        placed = record {
          kept = kept_more c.1 k.kept;
          at = refl;
          few = few_cells;
          top = omega (arith, top_mask k.direct, n.enough);
          inside = λ z. k.direct.inside;
          room = λ r z. omega (arith, odd_mask);
        };
        marked = λ z. record {
          direct = k.direct;
          classes = k.classes ∙ ap each_once stand;
          kept = kept_more c.1 k.kept;
        };
      }
        where
          stand : news t₁ list l.len ≡ news t₀ list l.len
          stand = ap (map (λ x. x % 65536)) (part_same t₁ t₀ list l.len (λ j b d. c.1.same j (omega (arith, a.0.place))))

-- From cells with an entry for each listed class to their ranks.
module _ {t₀ t₁ : List ℕ} {list : ℕ} {l : ClassList} {to : ℕ} {m : Map} (h : Held t₀ t₁ list l to m) where
  pub listed_few : (z : Bool) → m.mask ≡ 0 → Numbers z t₀ t₁ list l to (record { map = m; count = 0 })
  listed_few z e = record { placed = h.placed; numbers = λ n. absurd (n e) }

  module _ (n : m.mask ≡ 0 → ⊥) where
    pub marks_direct : Direct t₁ m
    marks_direct = (h.marked n).direct

    abbrev cs : List ℕ
    cs = news t₀ list l.len

    -- an entry for class 0, if it is among the classes
    marked_zero : (z : Bool) → Marked t₀ (cond z (set t₁ m.at 0) t₁) m (cond z (0 ∷ cs) cs)
    marked_zero true =
        let e : m.at + 0 ≡ m.at = omega arith in
        rw e at (marked_one 0 (h.marked n) (omega arith))
    marked_zero false = h.marked n

    once_zero : (z : Bool) → each_once (cond z (0 ∷ cs) cs) ≡ with_zero z (each_once cs)
    unfolding each_once
    once_zero true = refl
    once_zero false = refl

    module _ {t₂ : List ℕ} (z : Bool) (e : t₂ ≡ cond z (set t₁ m.at 0) t₁) where
      marked : Marked t₀ t₂ m (cond z (0 ∷ cs) cs)
      marked = rw e (marked_zero z)

      pub zero_direct : Direct t₂ m
      zero_direct = marked.direct

      pub listed_done : {t : List ℕ} {r : ℕ} → Ranked t₂ t m r → Numbers z t₀ t list l to (record { map = m; count = r })
      listed_done {t} {r} q = record {
        placed = record {
          kept = rw h.placed.at at (kept_more marked.kept q.kept);
          at = h.placed.at;
          few = h.placed.few;
          top = h.placed.top;
          inside = λ y. q.direct.inside;
          room = h.placed.room;
        };
        numbers = λ y. record {
          holds = holds;
          above = λ x a. sym (holds.answers x) ∙ q.direct.above x (omega (arith, top_mask q.direct));
          count = q.count ∙ ap length held ∙ sym (numbered_length 0 (with_zero z (each_once cs)));
        };
      }
        where
          held : present t₂ m ≡ with_zero z (each_once cs)
          held = marked.classes ∙ once_zero z

          holds : Holds t m (numbered 0 (with_zero z (each_once cs)))
          holds = rw held at q.holds

-- The listed classes are those of the glyphs, if not 0.
module _ {cs g : List (ℕ × ℕ)} {t : List ℕ} {list n : ℕ} (o : Lists cs g t list n) where
  listed_classes : news t list n ≡ values (classed cs g)
  listed_classes = sym (notes_values t list n) ∙ ap values o.each

  first_map : {z : Bool} → z ≡ holds_zero cs g → numbered 0 (with_zero z (each_once (news t list n))) ≡ class_map g cs
  unfolding class_map
  first_map e = ap (numbered 0) (rw (e, listed_classes) (held_is cs g))

  second_map_lem : numbered 0 (insert_up 0 (each_once (news t list n))) ≡ second_map g cs
  unfolding second_map
  second_map_lem = ap (numbered 0) (rw listed_classes (pinned_is cs g))

module _ {t₀ t : List ℕ} {list : ℕ} {l : ClassList} {to : ℕ} {r : ClassMap} where
  pub class_mapped : Numbers l.zero t₀ t list l to r → Mapped class_map t₀ t list l to r
  class_mapped k = record { placed = k.placed; mapped = λ n cs g o z. rw (first_map o z) at (k.numbers n) }

  pub pinned_mapped : Numbers true t₀ t list l to r → Mapped second_map t₀ t list l to r
  pinned_mapped k = record { placed = k.placed; mapped = λ n cs g o z. rw (second_map_lem o) at (k.numbers n) }
