-- The way through the marks of the classes that covered glyphs hold.
use Prim.Native.Nat.{ℕ, ◌+◌, ◌-◌, ◌/◌, ◌%◌, ◌≤◌, ◌<◌}
use mathlib.Core.Path.{◌≡◌, refl, sym, ap, subst, ◌∙◌}
use mathlib.Core.Bool.{Bool, true, false, cond, ◌||◌}
use Rattle.std.specs.Prelude.{Option, None, Some}
use mathlib.Core.List.{List, [], ◌∷◌, map}
use mathlib.Core.Logic.{inl}
use native.Mathlib.Decide.{dec_lt}
use native.Mathlib.Omega.{arith}
use lib.ListN.{length, get_or}
use lib.Dec.{ltb, eqb}
use borrow.Author.Tests.{lt-ltb, le-ltb, eq-eqb, ne_eqb, eqb-true, eqb-false}
use Rattle.meaning.specs.Words.{keys, values, find, is_some, push, map_some, member}
use Rattle.meaning.specs.Parts.{class_of}
use Rattle.meaning.specs.Cut.{held_by, new_coverage, retained}
use Rattle.laws.specs.Runs.{Up}
use Rattle.laws.specs.CutGood.{GoodMap, rises, map_some_up₀, itself, map_same}
use Rattle.bits.specs.Bits.{marked, Put, Cleared}
use Rattle.cell_maps.specs.Cells.{Kept, kept_all, kept_more}
use Rattle.area.specs.Part.{news, notes, part_all, part_left, part_none}
use Rattle.area.specs.Stored.{part_same}
use Rattle.class_lists.specs.From.{from_old}
use Rattle.class_lists.specs.Listed.{classed}
use Rattle.ranked_maps.specs.Once.{insert_member}
use Rattle.ranked_maps.specs.Mapped.{lists_kept}
use Rattle.ranked_maps.proofs.Putting.{or_none, put_one, put_kept}
use Rattle.covered_classes.specs.Covered.{first_class, Passes, Coverable, Met, Covered}

-- Listed cells from the front.
module _ (t : List ℕ) (at n : ℕ) where
  abbrev pub notes_from : ℕ → List (ℕ × ℕ)
  notes_from k = notes t (at + k) (n - k)

  notes_left : (k : ℕ) → k < n → notes_from k ≡ (get_or t (at + k) 0 / 65536, get_or t (at + k) 0 % 65536) ∷ notes_from (k + 1)
  notes_left k h = ap (map (λ c. (c / 65536, c % 65536))) (part_left t at n k h)

  notes_none : (k : ℕ) → n ≤ k → notes_from k ≡ []
  notes_none k h = ap (map (λ c. (c / 65536, c % 65536))) (part_none t at n k h)

  abbrev pub news_from : ℕ → List ℕ
  news_from j = news t (at + j) (n - j)

  news_left : (j : ℕ) → j < n → news_from j ≡ get_or t (at + j) 0 % 65536 ∷ news_from (j + 1)
  news_left j h = ap (map (λ c. c % 65536)) (part_left t at n j h)

  news_none : (j : ℕ) → n ≤ j → news_from j ≡ []
  news_none j h = ap (map (λ c. c % 65536)) (part_none t at n j h)

from_pass : (v a b : ℕ) (es : List (ℕ × ℕ)) → a < v → from_old v ((a, b) ∷ es) ≡ from_old v es
unfolding from_old
from_pass v a b es h = rw (lt-ltb a v h)

from_stop : (v a b : ℕ) (es : List (ℕ × ℕ)) → v ≤ a → from_old v ((a, b) ∷ es) ≡ (a, b) ∷ es
unfolding from_old
from_stop v a b es h = rw (le-ltb a v h)

from_none : (v : ℕ) → from_old v [] ≡ []
unfolding from_old
from_none v = refl

-- What the loop of `pass_below` keeps: the cells up to k are passed.
pub record Passing (t : List ℕ) (list n from new k : ℕ) : Type 0 where
  pub within : k ≤ n
  pub rest : from_old new (notes_from t list n k) ≡ from_old new (notes_from t list n from)

module _ {t : List ℕ} {list n from new : ℕ} where
  pub passing_all : from ≤ n → Passing t list n from new from
  passing_all h = record { within = h; rest = refl }

  module _ {k : ℕ} (w : Passing t list n from new k) where
    pub passing_next : k < n → get_or t (list + k) 0 / 65536 < new → Passing t list n from new (k + 1)
    passing_next h l = record {
      within = omega arith;
      rest = sym (ap (from_old new) (notes_left t list n k h) ∙ from_pass new (get_or t (list + k) 0 / 65536) (get_or t (list + k) 0 % 65536) (notes_from t list n (k + 1)) l) ∙ w.rest;
    }

    pub passing_stop : k < n → new ≤ get_or t (list + k) 0 / 65536 → Passes t list n from new k
    passing_stop h l = record {
      within = w.within;
      rest = notes_left t list n k h ∙ sym (from_stop new (get_or t (list + k) 0 / 65536) (get_or t (list + k) 0 % 65536) (notes_from t list n (k + 1)) l) ∙ ap (from_old new) (sym (notes_left t list n k h)) ∙ w.rest;
    }

    pub passing_end : n ≤ k → Passes t list n from new k
    passing_end h = record { within = w.within; rest = notes_none t list n k h ∙ sym (from_none new) ∙ ap (from_old new) (sym (notes_none t list n k h)) ∙ w.rest }

-- The class of the first of the cells that are left.
module _ (t : List ℕ) (list n k new : ℕ) where
  pub class_none : n ≤ k → 0 ≡ first_class new (notes_from t list n k)
  unfolding first_class
  class_none h = rw (notes_none t list n k h)

  pub class_other : k < n → (get_or t (list + k) 0 / 65536 ≡ new → ⊥) → 0 ≡ first_class new (notes_from t list n k)
  unfolding first_class
  class_other h o = rw (notes_left t list n k h, ne_eqb (get_or t (list + k) 0 / 65536) new o)

  pub class_own : k < n → get_or t (list + k) 0 / 65536 ≡ new → get_or t (list + k) 0 % 65536 ≡ first_class new (notes_from t list n k)
  unfolding first_class
  class_own h o = rw (notes_left t list n k h, eq-eqb (get_or t (list + k) 0 / 65536) new o)

-- Classes of new numbers in a list that ascends.
class_miss : (a b v : ℕ) (es : List (ℕ × ℕ)) → (a ≡ v → ⊥) → class_of ((a, b) ∷ es) v ≡ class_of es v
unfolding class_of find
class_miss a b v es h = rw (ne_eqb a v h)

class_hit : (a b v : ℕ) (es : List (ℕ × ℕ)) → a ≡ v → class_of ((a, b) ∷ es) v ≡ b
unfolding class_of find
class_hit a b v es h = rw (eq-eqb a v h)

class_low : (low v : ℕ) (es : List (ℕ × ℕ)) → Up low (keys es) → v < low → class_of es v ≡ 0
unfolding class_of find keys
class_low low v [] u h = refl
class_low low v (e ∷ es) u h = rw (ne_eqb e.0 v (λ q. omega (arith, u.0))) (class_low (e.0 + 1) v es u.1 (omega (arith, u.0)))

-- that of v is the first one that is not below it
class_first : (low v : ℕ) (es : List (ℕ × ℕ)) → Up low (keys es) → first_class v (from_old v es) ≡ class_of es v
unfolding from_old keys first_class
class_first low v [] u = sym (class_low (v + 1) v [] tt (omega arith))
class_first low v (e ∷ es) u = step (dec_lt e.0 v) (eqb e.0 v) refl (class_first (e.0 + 1) v es u.1)
  where
    step : Dec (e.0 < v) → (b : Bool) → eqb e.0 v ≡ b → first_class v (from_old v es) ≡ class_of es v → first_class v (cond (ltb e.0 v) (from_old v es) (e ∷ es)) ≡ class_of (e ∷ es) v
    step (yes d) b q k = rw (lt-ltb e.0 v d) (k ∙ sym (class_miss e.0 e.1 v es (λ z. omega arith)))
    step (no d) true q k = rw (le-ltb e.0 v (omega arith), q) (sym (class_hit e.0 e.1 v es (eqb-true e.0 v q)))
    step (no d) false q k =
        rw (le-ltb e.0 v (omega arith), q) (sym (class_miss e.0 e.1 v es (eqb-false e.0 v q) ∙ class_low (e.0 + 1) v es u.1 (omega (arith, eqb-false e.0 v q))))

-- what is passed for v is passed for each later number
from_later : (v w : ℕ) (es : List (ℕ × ℕ)) → v ≤ w → from_old w (from_old v es) ≡ from_old w es
unfolding from_old
from_later v w [] h = refl
from_later v w (e ∷ es) h = step (dec_lt e.0 v) (from_later v w es h)
  where
    step : Dec (e.0 < v) → from_old w (from_old v es) ≡ from_old w es → from_old w (cond (ltb e.0 v) (from_old v es) (e ∷ es)) ≡ cond (ltb e.0 w) (from_old w es) (e ∷ es)
    step (yes d) k = rw (lt-ltb e.0 v d, lt-ltb e.0 w (omega arith)) k
    step (no d) k = rw (le-ltb e.0 v (omega arith))

-- The classes that numbers hold, one by one.
held_one : (cs : List (ℕ × ℕ)) (k x : ℕ) (gs : List ℕ) → member x (held_by cs (k ∷ gs)) ≡ eqb (class_of cs k) x || member x (held_by cs gs)
unfolding held_by
held_one cs k x gs = insert_member x (class_of cs k) (held_by cs gs)

held_none : (cs : List (ℕ × ℕ)) (x : ℕ) → member x (held_by cs []) ≡ false
unfolding held_by member
held_none cs x = refl

or_move : (a b c : Bool) → (a || b) || c ≡ b || (a || c)
or_move true true c = refl
or_move true false c = refl
or_move false b c = refl

first_up : (low v : ℕ) (vs l : List ℕ) → Up low l → l ≡ v ∷ vs → Up (v + 1) vs
first_up low v vs l u e = (subst (Up low) e u).1

-- What the loop of `mark_met` keeps: the marked classes, and those of the notes from the j-th on, are all; the listed cells up to k are below these notes.
pub record Covering (t₀ t : List ℕ) (noted n list len marks k j : ℕ) : Type 0 where
  pub able : Coverable t₀ noted n list len marks
  pub within : j ≤ n
  pub near : k ≤ len
  pub kept : Kept marks t₀ t
  pub rises : Up 0 (news t₀ noted n) → (low : ℕ) × ((Up low (news_from t₀ noted n j)) × ((v : ℕ) → low ≤ v → from_old v (notes_from t₀ list len k) ≡ from_old v (notes t₀ list len)))
  pub left : Up 0 (news t₀ noted n) → Up 0 (keys (notes t₀ list len)) → (x : ℕ) → marks + x / 32 < length t₀
      → marked t marks x || member x (held_by (notes t₀ list len) (news_from t₀ noted n j)) ≡ marked t₀ marks x || member x (held_by (notes t₀ list len) (news t₀ noted n))

module _ {t₀ : List ℕ} {noted n list len marks : ℕ} where
  pub covering_all : Coverable t₀ noted n list len marks → Covering t₀ t₀ noted n list len marks 0 0
  covering_all k = record {
    able = k;
    within = omega arith;
    near = omega arith;
    kept = kept_all marks t₀;
    rises = λ u. (0, (rw (part_all t₀ noted n) u, λ v h. rw (part_all t₀ list len)));
    left = λ u w x i. rw (part_all t₀ noted n);
  }

  module _ {t : List ℕ} {k j : ℕ} (w : Covering t₀ t noted n list len marks k j) where
    pub covering_list : list + len ≤ length t
    covering_list = omega (arith, w.able.classes, w.able.inside, w.kept.size)

    pub covering_end : n ≤ j → Met t₀ t noted n list len marks
    covering_end h = record { kept = w.kept; classes = λ u v x i. sym (last x) ∙ w.left u v x i }
      where
        last : (x : ℕ) → marked t marks x || member x (held_by (notes t₀ list len) (news_from t₀ noted n j)) ≡ marked t marks x
        last x = rw (news_none t₀ noted n j h, held_none (notes t₀ list len) x) (or_none (marked t marks x))

    module _ (h : j < n) where
      pub covering_inside : noted + j < length t
      covering_inside = omega (arith, w.able.notes, w.able.inside, w.kept.size)

      same : get_or t (noted + j) 0 ≡ get_or t₀ (noted + j) 0
      same = w.kept.same (noted + j) (omega (arith, w.able.notes))

      alike : (i : ℕ) → i ≤ len → notes_from t list len i ≡ notes_from t₀ list len i
      alike i l = ap (map (λ c. (c / 65536, c % 65536))) (part_same t t₀ (list + i) (len - i) (λ q a b. w.kept.same q (omega (arith, w.able.classes))))

      abbrev v : ℕ
      v = get_or t (noted + j) 0 % 65536

      module _ {r : ℕ} (p : Passes t list len k v r) {class : ℕ} (c : class ≡ first_class v (notes_from t list len r)) where
        -- the cells that are left are those that are not below the note
        rest : notes_from t₀ list len r ≡ from_old v (notes_from t₀ list len k)
        rest = sym (alike r p.within) ∙ p.rest ∙ ap (from_old v) (alike k w.near)

        note : news_from t₀ noted n j ≡ v ∷ news_from t₀ noted n (j + 1)
        note = news_left t₀ noted n j h ∙ rw same

        low_first : {low : ℕ} → Up low (news_from t₀ noted n j) → low ≤ v
        low_first {low} u = (subst (Up low) note u).0

        all_rest : Up 0 (news t₀ noted n) → notes_from t₀ list len r ≡ from_old v (notes t₀ list len)
        all_rest u =
            let q = w.rises u in
            rest ∙ q.1.1 v (low_first q.1.0)

        pub covering_next : {after : List ℕ} → Put marks class t after → Covering t₀ after noted n list len marks r (j + 1)
        covering_next {after} put = record {
          able = w.able;
          within = omega arith;
          near = p.within;
          kept = kept_more w.kept (put_kept put);
          rises = λ u. (v + 1, (first_up (w.rises u).0 v (news_from t₀ noted n (j + 1)) (news_from t₀ noted n j) (w.rises u).1.0 note, λ y a. ap (from_old y) (all_rest u) ∙ from_later v y (notes t₀ list len) (omega arith)));
          left = one;
        }
          where
            one : Up 0 (news t₀ noted n) → Up 0 (keys (notes t₀ list len)) → (x : ℕ) → marks + x / 32 < length t₀
                → marked after marks x || member x (held_by (notes t₀ list len) (news_from t₀ noted n (j + 1))) ≡ marked t₀ marks x || member x (held_by (notes t₀ list len) (news t₀ noted n))
            one u z x i =
                let es = notes t₀ list len in
                let vs = news_from t₀ noted n (j + 1) in
                let is : class ≡ class_of es v = c ∙ ap (first_class v) (alike r p.within ∙ all_rest u) ∙ class_first 0 v es z in
                ap (λ (b : Bool). b || member x (held_by es vs)) (put_one put x (omega (arith, w.kept.size)))
                ∙ or_move (eqb class x) (marked t marks x) (member x (held_by es vs))
                ∙ ap (λ (b : ℕ). marked t marks x || (eqb b x || member x (held_by es vs))) is
                ∙ ap (λ (b : Bool). marked t marks x || b) (sym (held_one es v x vs))
                ∙ ap (λ (l : List ℕ). marked t marks x || member x (held_by es l)) (sym note)
                ∙ w.left u z x i

-- The classes of retained glyphs, by their new numbers.
classed_up : (cs : List (ℕ × ℕ)) (low high : ℕ) (g : List (ℕ × ℕ)) → low ≤ high → Up high (values g) → Up low (keys (classed cs g))
unfolding classed map_some push keys values
classed_up cs low high [] h u = tt
classed_up cs low high (e ∷ g) h u = step (eqb (class_of cs e.0) 0) (λ k l. classed_up cs k (e.1 + 1) g l u.1)
  where
    step : (b : Bool) → ((k : ℕ) → k ≤ e.1 + 1 → Up k (keys (classed cs g))) → Up low (keys (push (cond b None (Some (e.1, class_of cs e.0))) (classed cs g)))
    step true k = k low (omega (arith, u.0))
    step false k = (omega (arith, u.0), k (e.1 + 1) (omega arith))

same_some : {x y : ℕ} → Some x ≡ Some y → x ≡ y
same_some e = cc

class_new : (cs : List (ℕ × ℕ)) (a b : ℕ) (g : List (ℕ × ℕ)) (c y : ℕ) → Up a (keys g) → Up b (values g) → find g c ≡ Some y → (b ≤ y) × (class_of (classed cs g) y ≡ class_of cs c)
unfolding classed map_some push keys values find
class_new cs a b [] c y u v f = absurd (let z : ◌≡◌ {A = ℕ} 0 1 = cc in omega arith)
class_new cs a b (e ∷ g) c y u v f = step (eqb e.0 c) refl f (eqb (class_of cs e.0) 0) refl (λ k. class_new cs (e.0 + 1) (e.1 + 1) g c y u.1 v.1 k)
  where
    step : (s : Bool) → eqb e.0 c ≡ s → cond s (Some e.1) (find g c) ≡ Some y → (z : Bool) → eqb (class_of cs e.0) 0 ≡ z
        → (find g c ≡ Some y → (e.1 + 1 ≤ y) × (class_of (classed cs g) y ≡ class_of cs c))
        → (b ≤ y) × (class_of (push (cond z None (Some (e.1, class_of cs e.0))) (classed cs g)) y ≡ class_of cs c)
    step true p q true z k =
        let d : e.1 ≡ y = same_some q in
        let o : class_of cs c ≡ 0 = rw (eqb-true e.0 c p) at (eqb-true (class_of cs e.0) 0 z) in
        (omega (arith, v.0), class_low (y + 1) y (classed cs g) (classed_up cs (y + 1) (e.1 + 1) g (omega arith) v.1) (omega arith) ∙ sym o)
    step true p q false z k =
        let d : e.1 ≡ y = same_some q in
        (omega (arith, v.0), class_hit e.1 (class_of cs e.0) y (classed cs g) d ∙ ap (class_of cs) (eqb-true e.0 c p))
    step false p q true z k = let r = k q in (omega (arith, v.0, r.0), r.1)
    step false p q false z k = let r = k q in (omega (arith, v.0, r.0), class_miss e.1 (class_of cs e.0) y (classed cs g) (λ d. omega (arith, r.0)) ∙ r.1)

held_retained : (cs g : List (ℕ × ℕ)) → GoodMap g → (cov : List ℕ) → held_by (classed cs g) (new_coverage g cov) ≡ held_by cs (retained g cov)
unfolding new_coverage retained map_some push is_some held_by
held_retained cs g good [] = refl
held_retained cs g good (c ∷ cov) = step (find g c) refl (held_retained cs g good cov)
  where
    step : (o : Option ℕ) → find g c ≡ o → held_by (classed cs g) (new_coverage g cov) ≡ held_by cs (retained g cov)
        → held_by (classed cs g) (push o (new_coverage g cov)) ≡ held_by cs (push (cond (is_some o) (Some c) None) (retained g cov))
    step None e k = k
    step (Some y) e k = rw ((class_new cs 0 0 g c y good.old good.new e).1, k)

-- the new numbers of what ascends ascend
new_up : (g : List (ℕ × ℕ)) → GoodMap g → (cov : List ℕ) → Up 0 cov → Up 0 (new_coverage g cov)
unfolding new_coverage
new_up g good cov u = subst (Up 0) (map_same (map_some (find g) cov)) (map_some_up₀ (λ (x : ℕ). x) (λ (x : ℕ). x) (find g) (find g) (rises g good) (λ a. itself (find g a)) cov (subst (Up 0) (sym (map_same cov)) u))

-- The cells of the marks are cleared, and what stands before them stays.
module _ {t : List ℕ} {noted n list len marks cells : ℕ} (k : Coverable t noted n list len marks) (room : marks + cells ≤ length t) {u : List ℕ} (c : Cleared marks cells t u) where
  pub covering_ready : Coverable u noted n list len marks
  covering_ready = record { notes = k.notes; classes = k.classes; inside = omega (arith, k.inside, c.size); near = k.near }

  stands : Kept marks t u
  stands = record { size = c.size; same = λ i h. c.cells i (inl h) }

  pub covering_done : {v : List ℕ} → Met u v noted n list len marks → Covered t v noted n list len marks cells
  covering_done {v} w = record {
    kept = kept_more stands w.kept;
    classes = λ cs g cov good l up e x h.
        let es : notes u list len ≡ classed cs g = (lists_kept l stands k.classes).each in
        let vs : news u noted n ≡ new_coverage g cov = stay ∙ e in
        w.classes (rw vs (new_up g good cov up)) (rw es (classed_up cs 0 0 g (omega arith) good.new)) x (omega (arith, c.size, room))
        ∙ rw (c.none x h, es, vs) (ap (member x) (held_retained cs g good cov));
  }
    where
      stay : news u noted n ≡ news t noted n
      stay = ap (map (λ c. c % 65536)) (part_same u t noted n (λ i a b. stands.same i (omega (arith, k.notes))))
