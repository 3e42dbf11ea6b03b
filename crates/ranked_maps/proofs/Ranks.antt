-- From marks of the listed classes to their ranks.
use Prim.Native.Nat.{ℕ, ◌+◌, ◌-◌, ◌%◌, ◌≤◌, ◌<◌}
use mathlib.Core.Path.{◌≡◌, refl, sym, ap, ◌∙◌}
use mathlib.Core.Bool.{Bool, true, false, cond, ◌||◌}
use mathlib.Core.List.{List, [], ◌∷◌, map}
use mathlib.Core.Logic.{inl}
use native.Mathlib.Omega.{arith}
use lib.ListN.{length, get_or}
use lib.Dec.{ltb, eqb}
use Rattle.meaning.specs.Words.{member}
use Rattle.meaning.specs.Cut.{insert_up}
use Rattle.laws.specs.Stands.{Word, All}
use Rattle.laws.specs.CutCells.{numbered_length}
use Rattle.bits.specs.Bits.{marked, Put, Cleared}
use Rattle.ranks.specs.Ranks.{mark_cells, Counted}
use Rattle.ranks.specs.Listed.{MarksOf, ranks_past, counted_marks, counted_length}
use Rattle.cell_maps.specs.Cells.{ranked_mask, Inside, Kept, kept_all, kept_more}
use Rattle.ranked_maps.specs.Ranked.{holds_ranks}
use Rattle.cell_maps.specs.declared.Map.{Map}
use Rattle.area.specs.Part.{part, news, part_all, part_left, part_none}
use Rattle.area.specs.Stored.{part_same}
use Rattle.class_lists.specs.declared.ClassList.{ClassList}
use Rattle.ranked_maps.specs.Once.{each_once, once_up, insert_member}
use Rattle.ranked_maps.specs.Present.{top_even}
use Rattle.ranked_maps.specs.Mapped.{ToMap, ToPut, PutToo, with_zero, Numbers}
use Rattle.ranked_maps.proofs.Putting.{or_none, put_one, put_kept}
use Rattle.ranked_maps.proofs.Mapping.{zero_up}

none_in : (x : ℕ) (b : Bool) → member x [] || b ≡ b
unfolding member
none_in x b = refl

-- nothing is put
put_none : (marks : ℕ) (t : List ℕ) → PutToo t t marks []
put_none marks t = record { kept = kept_all marks t; classes = λ x h. sym (none_in x (marked t marks x)) }

-- one mark more
put_more : {t₀ t u : List ℕ} {marks c : ℕ} {cs : List ℕ} → marks + mark_cells ≤ length t → PutToo t₀ t marks cs → Put marks c t u → PutToo t₀ u marks (c ∷ cs)
unfolding member
put_more {t₀} {t} {u} {marks} {c} {cs} room k p = record { kept = kept_more k.kept (put_kept p); classes = λ x h. put_one p x (omega arith) ∙ ap (λ (b : Bool). eqb c x || b) (k.classes x h) ∙ or_more (eqb c x) (member x cs) (marked t₀ marks x) }
  where
    or_more : (a b d : Bool) → a || (b || d) ≡ (a || b) || d
    or_more true b d = refl
    or_more false b d = refl

-- What the loop of `put_listed` keeps: the classes from the cell e on have marks.
pub record Putting (t₀ t : List ℕ) (list n marks e : ℕ) : Type 0 where
  pub ready : ToPut t₀ list n marks
  pub within : e ≤ n
  pub put : PutToo t₀ t marks (news t₀ (list + e) (n - e))

module _ {t₀ : List ℕ} {list n marks : ℕ} where
  pub putting_all : ToPut t₀ list n marks → Putting t₀ t₀ list n marks n
  putting_all r = record { ready = r; within = omega arith; put = rw (part_none t₀ list n n (omega arith)) (put_none marks t₀) }

  module _ {t : List ℕ} {e : ℕ} (k : Putting t₀ t list n marks e) where
    module _ (h : 0 < e) where
      -- the cell before e lies inside
      pub putting_inside : list + (e - 1) < length t
      putting_inside = omega (arith, k.within, k.ready.place, k.ready.inside, k.put.kept.size)

      same : get_or t (list + (e - 1)) 0 ≡ get_or t₀ (list + (e - 1)) 0
      same = k.put.kept.same (list + (e - 1)) (omega (arith, k.within, k.ready.place))

      pub putting_next : {u : List ℕ} → Put marks (get_or t (list + (e - 1)) 0 % 65536) t u → Putting t₀ u list n marks (e - 1)
      putting_next {u} p =
          let d : e - 1 + 1 ≡ e = omega arith in
          let q : part t₀ (list + (e - 1)) (n - (e - 1)) ≡ get_or t (list + (e - 1)) 0 ∷ part t₀ (list + e) (n - e) =
          part_left t₀ list n (e - 1) (omega (arith, k.within)) ∙ rw (d, same)
          in
          let l : news t₀ (list + (e - 1)) (n - (e - 1)) ≡ get_or t (list + (e - 1)) 0 % 65536 ∷ news t₀ (list + e) (n - e) = ap (map (λ c. c % 65536)) q in
          record { ready = k.ready; within = omega (arith, k.within); put = rw l (put_more (omega (arith, k.ready.inside, k.put.kept.size)) k.put p) }

    pub putting_end : e ≤ 0 → PutToo t₀ t marks (news t₀ list n)
    putting_end h =
        let z : e ≡ 0 = omega arith in
        rw (z, part_all t₀ list n) at k.put

-- class 0, if it is among the classes
pub zero_put : {t u : List ℕ} {marks : ℕ} → marks + mark_cells ≤ length t → Put marks 0 t u → PutToo t u marks (with_zero true [])
unfolding insert_up
zero_put {t} {u} {marks} room p = put_more room (put_none marks t) p

pub zero_left : (t : List ℕ) (marks : ℕ) → PutToo t t marks (with_zero false [])
zero_left t marks = put_none marks t

-- a list has the same numbers each once
once_member : (x : ℕ) (l : List ℕ) → member x (each_once l) ≡ member x l
unfolding each_once member
once_member x [] = refl
once_member x (c ∷ l) = insert_member x c (each_once l) ∙ ap (λ (b : Bool). eqb c x || b) (once_member x l)

with_zero_lem : (z : Bool) (x : ℕ) (l : List ℕ) → member x (with_zero z []) || (member x l || false) ≡ member x (with_zero z (each_once l))
unfolding insert_up member
with_zero_lem true x l = rw (or_none (eqb 0 x), or_none (member x l)) (sym (insert_member x 0 (each_once l) ∙ ap (λ (b : Bool). eqb 0 x || b) (once_member x l)))
with_zero_lem false x l = or_none (member x l) ∙ sym (once_member x l)

-- and they are words if its numbers are
insert_words : (c : ℕ) (l : List ℕ) → Word c → All Word l → All Word (insert_up c l)
unfolding insert_up
insert_words c [] w h = (w, tt)
insert_words c (d ∷ l) w h = step (ltb c d) (eqb c d) (insert_words c l w h.1)
  where
    step : (s q : Bool) → All Word (insert_up c l) → All Word (cond s (c ∷ d ∷ l) (cond q (d ∷ l) (d ∷ insert_up c l)))
    step true q k = (w, h)
    step false true k = h
    step false false k = (h.0, k)

once_words : (l : List ℕ) → All Word (each_once (map (λ c. c % 65536) l))
unfolding each_once
once_words [] = tt
once_words (c ∷ l) = insert_words (c % 65536) (each_once (map (λ c. c % 65536) l)) (omega arith) (once_words l)

zero_words : (z : Bool) (l : List ℕ) → All Word l → All Word (with_zero z l)
zero_words true l h = insert_words 0 l (omega arith) h
zero_words false l h = h

-- Ranks of the classes, by their marks.
module _ {t₀ : List ℕ} {list : ℕ} {l : ClassList} {to : ℕ} (a : ToMap t₀ list l to) where
  -- There are too few cells.
  pub ranked_short : (z : Bool) → length t₀ ≤ to + ranked_mask → Numbers z t₀ t₀ list l to (record { map = record { at = to; mask = 0 }; count = 0 })
  ranked_short z h = record {
    placed = record {
      kept = kept_all to t₀;
      at = refl;
      few = omega arith;
      top = omega (arith, top_even (record { at = to; mask = 0 }) refl, a.small);
      inside = λ e. absurd (e refl);
      room = λ r e. omega arith;
    };
    numbers = λ e. absurd (e refl);
  }

  module _ (h : to + ranked_mask < length t₀) {t₁ : List ℕ} (c : Cleared to mark_cells t₀ t₁) where
    stands : Kept to t₀ t₁
    stands = record { size = c.size; same = λ i b. c.cells i (inl b) }

    module _ {t₂ : List ℕ} (p : PutToo t₁ t₂ to (news t₁ list l.len)) {t₃ : List ℕ} (z : Bool) (q : PutToo t₂ t₃ to (with_zero z [])) where
      abbrev cs : List ℕ
      cs = news t₀ list l.len

      listed : news t₁ list l.len ≡ cs
      listed = ap (map (λ x. x % 65536)) (part_same t₁ t₀ list l.len (λ j b d. stands.same j (omega (arith, a.place))))

      -- the marks are those of the listed classes, and of class 0 if it is among them
      marks : MarksOf t₃ to (with_zero z (each_once cs))
      marks = record {
        up = zero_up z (each_once cs) (once_up cs);
        words = zero_words z (each_once cs) (once_words (part t₀ list l.len));
        each = λ x b. q.classes x b ∙ ap (λ (d : Bool). member x (with_zero z []) || d) (p.classes x b ∙ rw (listed, c.none x (omega arith))) ∙ with_zero_lem z x cs;
      }

      pub ranked_done : {t : List ℕ} {r : ℕ} → Counted t₃ t to r → Numbers z t₀ t list l to (record { map = record { at = to; mask = ranked_mask }; count = r })
      ranked_done {t} {r} k = record {
        placed = record {
          kept = record { size = k.size ∙ before.size; same = λ i b. k.cells i (inl (omega arith)) ∙ before.same i b };
          at = refl;
          few = omega arith;
          top = omega (arith, top_even m refl, a.small);
          inside = λ e. inside;
          room = λ b e. omega arith;
        };
        numbers = λ e. record {
          holds = holds_ranks inside refl k.counts (counted_marks k marks);
          above = λ x b. ranks_past marks x (omega (arith, top_even m refl));
          count = counted_length k marks ∙ sym (numbered_length 0 (with_zero z (each_once cs)));
        };
      }
        where
          m : Map
          m = record { at = to; mask = ranked_mask }

          before : Kept to t₀ t₃
          before = kept_more stands (kept_more p.kept q.kept)

          inside : Inside t m
          inside = record { within = omega (arith, k.size, before.size) }
