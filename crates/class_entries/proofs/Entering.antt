-- The way through the listing of the new class table.
use Prim.Native.Nat.{ℕ, ◌+◌, ◌-◌, ◌*◌, ◌/◌, ◌%◌, ◌≤◌, ◌<◌}
use mathlib.Core.Path.{◌≡◌, refl, sym, ap, ap₂, ◌∙◌}
use mathlib.Core.Bool.{Bool, true, false, cond}
use Rattle.std.specs.Prelude.{Option, None, Some, unwrap_or}
use mathlib.Core.List.{List, [], ◌∷◌, ◌++◌, map, append-nil}
use native.Mathlib.Omega.{arith}
use lib.ListN.{length, get_or, set}
use lib.Dec.{eqb}
use borrow.Author.Tests.{eq-eqb, ne_eqb, eqb-true}
use Rattle.meaning.specs.Words.{find, bind, push, map_some}
use Rattle.meaning.specs.Parts.{class_of}
use Rattle.meaning.specs.Cut.{classes_under}
use Rattle.cell_maps.specs.Cells.{cell_entry, answer_in, folded, Inside, Holds, entry_same, answer_own, answer_other}
use Rattle.cell_maps.specs.declared.Map.{Map}
use Rattle.area.specs.Part.{part, notes, part_all, part_left, part_none}
use Rattle.area.specs.Stored.{part_store}
use Rattle.class_lists.specs.Elsewhere.{Elsewhere, elsewhere_all, elsewhere_set, elsewhere_more, elsewhere_wide}
use Rattle.class_lists.specs.Listed.{classed}
use Rattle.ranked_maps.specs.Mapped.{Entries}

-- the new class, by one reading
module _ (t : List ℕ) (m : Map) {class e : ℕ} (r : e ≡ cell_entry t m class) where
  pub reads_none : (e / 65536 ≡ class → ⊥) → (0 ≡ unwrap_or (folded t m class) 0) × (0 < 65536)
  reads_none h = (sym (ap (λ (o : Option ℕ). unwrap_or o 0) (answer_other (cell_entry t m class) class (rw (sym r) h))), omega arith)

  pub reads_new : e / 65536 ≡ class → (e % 65536 ≡ unwrap_or (folded t m class) 0) × (e % 65536 < 65536)
  reads_new h = (rw r (sym (ap (λ (o : Option ℕ). unwrap_or o 0) (answer_own (cell_entry t m class) class (rw r at h)))), omega arith)

map_last : {A : Type 0} (f : ℕ → A) (l : List ℕ) (v : ℕ) (r : List A) → map f (l ++ (v ∷ [])) ++ r ≡ map f l ++ (f v ∷ r)
map_last f [] v r = refl
map_last f (a ∷ l) v r = ap (λ (k : List _). f a ∷ k) (map_last f l v r)

-- a cell as an entry of two numbers
note_of : (a b : ℕ) → b < 65536 → ◌≡◌ {A = ℕ × ℕ} ((a * 65536 + b) / 65536, (a * 65536 + b) % 65536) (a, b)
note_of a b h =
    let p : (a * 65536 + b) / 65536 ≡ a = omega arith in
    let q : (a * 65536 + b) % 65536 ≡ b = omega arith in
    ap₂ (λ (x y : ℕ). (x, y)) p q

notes_more : (t : List ℕ) (at n a b : ℕ) (r : List (ℕ × ℕ)) → b < 65536 → at + n < length t → notes (set t (at + n) (a * 65536 + b)) at (n + 1) ++ r ≡ notes t at n ++ ((a, b) ∷ r)
notes_more t at n a b r s h =
    ap (λ (l : List ℕ). map (λ c. (c / 65536, c % 65536)) l ++ r) (part_store t at n (a * 65536 + b) h)
    ∙ map_last (λ c. (c / 65536, c % 65536)) (part t at n) (a * 65536 + b) r ∙ ap (λ (e : ℕ × ℕ). notes t at n ++ (e ∷ r)) (note_of a b s)

-- a map's cells answer as before where only cells before them change
folded_kept : {from to : ℕ} {t u : List ℕ} (m : Map) (x : ℕ) → Elsewhere from to t u → to ≤ m.at → folded u m x ≡ folded t m x
folded_kept {t = t} {u = u} m x k h = ap (λ (e : ℕ). answer_in e x) (entry_same t u m (λ i a b. k.after i (omega arith)) x)

-- the new entry of a listed one
abbrev renamed : List (ℕ × ℕ) → ℕ × ℕ → Option (ℕ × ℕ)
renamed news e = bind (find news e.1) (λ n. cond (eqb n 0) None (Some (e.0, n)))

-- a class that has no new number, or the new number 0, is not listed; another is
module _ (news : List (ℕ × ℕ)) (y c : ℕ) where
  renamed_none : unwrap_or (find news c) 0 ≡ 0 → renamed news (y, c) ≡ None
  unfolding bind
  renamed_none e = step (find news c) e
    where
      step : (o : Option ℕ) → unwrap_or o 0 ≡ 0 → bind {B = ℕ × ℕ} o (λ n. cond (eqb n 0) None (Some (y, n))) ≡ None
      step None e = refl
      step (Some n) e = rw (eq-eqb n 0 e)

  renamed_some : {n : ℕ} → n ≡ unwrap_or (find news c) 0 → (n ≡ 0 → ⊥) → renamed news (y, c) ≡ Some (y, n)
  unfolding bind
  renamed_some {n} e h = rw e (step (find news c) (λ f. h (e ∙ f)))
    where
      step : (o : Option ℕ) → (unwrap_or o 0 ≡ 0 → ⊥) → bind {B = ℕ × ℕ} o (λ n. cond (eqb n 0) None (Some (y, n))) ≡ Some (y, unwrap_or o 0)
      step None h = absurd (h refl)
      step (Some n) h = rw (ne_eqb n 0 h)

-- where class 0 has no other new number than 0, glyphs of class 0 have no entry
renamed_classed : (cs news g : List (ℕ × ℕ)) → unwrap_or (find news 0) 0 ≡ 0 → map_some (renamed news) (classed cs g) ≡ classes_under news g cs
unfolding classed map_some push
renamed_classed cs news [] z = refl
renamed_classed cs news (e ∷ g) z = step (eqb (class_of cs e.0) 0) refl (renamed_classed cs news g z)
  where
    step : (b : Bool) → eqb (class_of cs e.0) 0 ≡ b → map_some (renamed news) (classed cs g) ≡ classes_under news g cs
        → map_some (renamed news) (push (cond b None (Some (e.1, class_of cs e.0))) (classed cs g)) ≡ push (renamed news (e.1, class_of cs e.0)) (classes_under news g cs)
    step true q k = rw (renamed_none news e.1 (class_of cs e.0) (rw (eqb-true (class_of cs e.0) 0 q) z)) k
    step false q k = ap (push (renamed news (e.1, class_of cs e.0))) k

-- What the loop of `new_entries` keeps: k entries are noted, and those of the listed ones from the e-th on are left.
pub record Entering (t₀ t : List ℕ) (list n : ℕ) (m : Map) (k e : ℕ) : Type 0 where
  pub inside : Inside t₀ m
  pub place : list + n ≤ m.at
  pub within : e ≤ n
  pub near : k ≤ e
  pub elsewhere : Elsewhere list (list + k) t₀ t
  pub left : (news : List (ℕ × ℕ)) → Holds t₀ m news → notes t list k ++ map_some (renamed news) (notes t₀ (list + e) (n - e)) ≡ map_some (renamed news) (notes t₀ list n)

module _ {t₀ : List ℕ} {list n : ℕ} {m : Map} where
  pub entering_all : Inside t₀ m × (list + n ≤ m.at) → Entering t₀ t₀ list n m 0 0
  unfolding part
  entering_all h = record {
    inside = h.0;
    place = h.1;
    within = omega arith;
    near = omega arith;
    elsewhere = elsewhere_all;
    left = λ news o. rw (part_all t₀ list n) refl;
  }

  module _ {t : List ℕ} {k e : ℕ} (w : Entering t₀ t list n m k e) (h : e < n) where
    pub entering_inside : list + e < length t
    entering_inside = omega (arith, w.inside.within, w.place, w.elsewhere.size)

    pub entering_room : list + k < length t
    entering_room = omega (arith, entering_inside, w.near)

    pub entering_map : Inside t m
    entering_map = record { within = omega (arith, w.inside.within, w.elsewhere.size) }

    abbrev cell : ℕ
    cell = get_or t (list + e) 0

    first : notes t₀ (list + e) (n - e) ≡ (cell / 65536, cell % 65536) ∷ notes t₀ (list + (e + 1)) (n - (e + 1))
    first =
        let s : cell ≡ get_or t₀ (list + e) 0 = w.elsewhere.after (list + e) (omega (arith, w.near)) in
        ap (map (λ c. (c / 65536, c % 65536))) (part_left t₀ list n e h ∙ ap (λ (c : ℕ). c ∷ part t₀ (list + (e + 1)) (n - (e + 1))) (sym s))

    module _ {new : ℕ} (f : (new ≡ unwrap_or (folded t m (cell % 65536)) 0) × (new < 65536)) where
      -- the new class of the entry's glyph
      is_new : (news : List (ℕ × ℕ)) → Holds t₀ m news → new ≡ unwrap_or (find news (cell % 65536)) 0
      is_new news o = f.0 ∙ ap (λ (a : Option ℕ). unwrap_or a 0) (folded_kept m (cell % 65536) w.elsewhere (omega (arith, w.place, w.near)) ∙ o.answers (cell % 65536))

      -- the glyph is not listed
      pub entering_none : new ≡ 0 → Entering t₀ t list n m k (e + 1)
      unfolding map_some push
      entering_none z = record {
        inside = w.inside;
        place = w.place;
        within = omega arith;
        near = omega (arith, w.near);
        elsewhere = w.elsewhere;
        left = λ news o. rw (first, renamed_none news (cell / 65536) (cell % 65536) (sym (is_new news o) ∙ z)) at (w.left news o);
      }

      -- it is
      pub entering_one : (new ≡ 0 → ⊥) → Entering t₀ (set t (list + k) (cell / 65536 * 65536 + new)) list n m (k + 1) (e + 1)
      unfolding map_some push
      entering_one z = record {
        inside = w.inside;
        place = w.place;
        within = omega arith;
        near = omega (arith, w.near);
        elsewhere = elsewhere_more (elsewhere_wide (omega arith) (omega arith) w.elsewhere) (elsewhere_set t (list + k) (cell / 65536 * 65536 + new) (omega arith) (omega arith));
        left = λ news o. notes_more t list k (cell / 65536) new (map_some (renamed news) (notes t₀ (list + (e + 1)) (n - (e + 1)))) f.1 entering_room
            ∙ rw (first, renamed_some news (cell / 65536) (cell % 65536) (is_new news o) z) at (w.left news o);
      }

  pub entering_end : {t : List ℕ} {k e : ℕ} → Entering t₀ t list n m k e → n ≤ e → Entries t₀ t list n m k
  unfolding map_some
  entering_end {t} {k} {e} w h = record {
    few = omega (arith, w.near, w.within);
    elsewhere = elsewhere_wide (omega arith) (omega (arith, w.near, w.within)) w.elsewhere;
    entries = λ cs g news l o z. sym (append-nil (notes t list k)) ∙ rw (part_none t₀ list n e h) at (w.left news o) ∙ ap (map_some (renamed news)) l.each ∙ renamed_classed cs news g z;
  }
