-- What the walks keep, with each way through a turn.
use Prim.Native.Nat.{ℕ, zero, suc, ◌+◌, ◌-◌, ◌%◌, ◌≤◌, ◌<◌, min}
use mathlib.Core.Path.{◌≡◌, refl, sym, ◌∙◌}
use mathlib.Core.Bool.{Bool, true, false, cond, ◌&&◌, ◌||◌, not}
use Rattle.std.specs.Prelude.{Option}
use mathlib.Core.List.{List}
use native.Mathlib.Decide.{dec_lt}
use native.Mathlib.Omega.{arith}
use native.Mathlib.Numerals.{add-one}
use lib.ListN.{length, get_or, set, length-set}
use lib.Seq.{get_or-set_same, get_or-set_other}
use lib.Dec.{eqb, leb}
use borrow.Author.Tests.{eqb-true, eqb-false, eq-eqb, ne_eqb, le-leb, lt-leb}
use Rattle.meaning.specs.Parts.{class_in}
use Rattle.difference_laws.specs.ClassNumbers.{lowest, strays, class_number, lowest_within, lowest_held, unheld_stays}
use Rattle.class_stretches.specs.declared.Stretch.{Stretch}
use Rattle.class_stretches.specs.Tables.{table_at}
use Rattle.class_stretches.specs.Stretches.{Hint, Found}
use Rattle.class_lists.specs.Elsewhere.{Elsewhere, elsewhere_all, elsewhere_set, elsewhere_more, elsewhere_wide}
use Rattle.class_strays.specs.Numbered.{Holding, Cleared, first_put, Lowest, lowest_in, compared, marked_with, Marked, ClassesNumbered}

-- Stretches of ids that hold one class.

-- what was found holds its class
pub found_holds : {s : List ℕ} {at x : ℕ} {r : Stretch} → Found s at x r → Holding s at x r × (x ≤ r.last)
unfolding class_in
found_holds f = (record { low = f.stretch.end; same = f.stretch.same; small = f.stretch.small; later = f.hint }, f.stretch.holds)

-- a class that the first of them gave no lowest id gets none from the others
lowest_on : (of : ℕ → ℕ) (c m k : ℕ) → ((y : ℕ) → m ≤ y → y < m + suc k → of y ≡ of m) → lowest of c (m + suc k) ≡ lowest of c (suc m)
unfolding lowest
lowest_on of c m zero h = rw add-one
lowest_on of c m (suc k) h =
    let e : m + suc (suc k) ≡ suc (m + suc k) = omega arith in
    rw (e, lowest_on of c m k (λ y a b. h y a (omega arith)), h (m + suc k) (omega arith) (omega arith)) (go (eqb (lowest of c m) 0) (eqb (of m) c) refl)
  where
    go : (s b : Bool) → eqb (lowest of c m) 0 ≡ s
        → cond (eqb (cond s (cond b (suc m) 0) (lowest of c m)) 0) (cond b (suc (m + suc k)) 0) (cond s (cond b (suc m) 0) (lowest of c m)) ≡ cond s (cond b (suc m) 0) (lowest of c m)
    go true true p = rw (ne_eqb (suc m) 0 (λ q. omega arith))
    go true false p = refl
    go false b p = rw p

-- what the first of them tells of strays the others tell too
strays_on : (of other : ℕ → ℕ) (n c m k : ℕ) → ((y : ℕ) → m ≤ y → y < m + suc k → (of y ≡ of m) × (other y ≡ other m)) → strays of other n c (m + suc k) ≡ strays of other n c (suc m)
unfolding strays
strays_on of other n c m zero h = rw add-one
strays_on of other n c m (suc k) h =
    let e : m + suc (suc k) ≡ suc (m + suc k) = omega arith in
    let q = h (m + suc k) (omega arith) (omega arith) in
    rw (e, strays_on of other n c m k (λ y a b. h y a (omega arith)), q.0, q.1) (twice (eqb (of m) c && not (eqb (lowest of c n) (lowest other (other m) n))) (strays of other n c m))
  where
    twice : (a b : Bool) → a || (a || b) ≡ a || b
    twice true b = refl
    twice false b = refl

-- Lowest ids.

-- the first of the ids gives its class a lowest id, if it has none yet
lowest_own : (of : ℕ → ℕ) (c m : ℕ) → of m ≡ c → lowest of c (suc m) ≡ cond (eqb (lowest of c m) 0) (suc m) (lowest of c m)
unfolding lowest
lowest_own of c m h = rw (eq-eqb (of m) c h)

lowest_other : (of : ℕ → ℕ) (c m : ℕ) → (of m ≡ c → ⊥) → lowest of c (suc m) ≡ lowest of c m
unfolding lowest
lowest_other of c m h = rw (ne_eqb (of m) c h) (go (eqb (lowest of c m) 0) refl)
  where
    go : (b : Bool) → eqb (lowest of c m) 0 ≡ b → cond b 0 (lowest of c m) ≡ lowest of c m
    go true e = sym (eqb-true (lowest of c m) 0 e)
    go false e = refl

lowest_none : (of : ℕ → ℕ) (c : ℕ) → lowest of c 0 ≡ 0
unfolding lowest
lowest_none of c = refl

-- a cell that is put first
put_own : (t : List ℕ) (i v : ℕ) → i < length t → get_or (first_put t i v) i 0 ≡ cond (eqb (get_or t i 0) 0) v (get_or t i 0)
unfolding first_put
put_own t i v h = go (eqb (get_or t i 0) 0)
  where
    go : (b : Bool) → get_or (cond b (set t i v) t) i 0 ≡ cond b v (get_or t i 0)
    go true = get_or-set_same t i v 0 h
    go false = refl

put_elsewhere : {from to : ℕ} (t : List ℕ) (i v : ℕ) → from ≤ i → i < to → Elsewhere from to t (first_put t i v)
unfolding first_put
put_elsewhere {from} {to} t i v a b = go (eqb (get_or t i 0) 0)
  where
    go : (s : Bool) → Elsewhere from to t (cond s (set t i v) t)
    go true = elsewhere_set t i v a b
    go false = elsewhere_all

-- the ways through `put_first`
pub put_empty : (t : List ℕ) {u : List ℕ} (i v : ℕ) {x : ℕ} → x ≡ get_or t i 0 → x ≡ 0 → u ≡ set t i v → u ≡ first_put t i v
unfolding first_put
put_empty t i v e z f = rw (eq-eqb (get_or t i 0) 0 (sym e ∙ z)) f

pub put_full : (t : List ℕ) (i v : ℕ) {x : ℕ} → x ≡ get_or t i 0 → (x ≡ 0 → ⊥) → t ≡ first_put t i v
unfolding first_put
put_full t i v e z = rw (ne_eqb (get_or t i 0) 0 (λ q. z (e ∙ q)))

-- What the walk for the lowest ids keeps: they are those of the ids before g, and the search for g may begin with the range `next`.
pub record Finding (s : List ℕ) (at : ℕ) (t₀ t : List ℕ) (base next g : ℕ) : Type 0 where
  pub within : g ≤ 65536
  pub room : base + 65536 ≤ length t₀
  pub hint : Hint s at g next
  pub lowest : Lowest (class_in (table_at s at)) g t₀ t base

module _ {s : List ℕ} {at : ℕ} {t₀ : List ℕ} {base : ℕ} where
  pub finding_none : {before : List ℕ} → base + 65536 ≤ length before → Cleared 65536 before t₀ base → Finding s at t₀ t₀ base 0 0
  finding_none h k = record {
    within = omega arith;
    room = omega (arith, k.elsewhere.size);
    hint = record { ranges = λ z f. (omega arith, λ i e. absurd (omega arith)) };
    lowest = record { each = λ c l. k.each c l ∙ sym (lowest_none (class_in (table_at s at)) c); elsewhere = elsewhere_all };
  }

  module _ {t u : List ℕ} {next g : ℕ} {r : Stretch} (k : Finding s at t₀ t base next g) (w : Holding s at g r × (g ≤ r.last)) (e : u ≡ first_put t (base + r.class) (g + 1)) where
    abbrev of : ℕ → ℕ
    of = class_in (table_at s at)

    -- the class of the stretch
    own : r.class ≡ of g
    own = w.0.same g (omega arith) w.1

    all : (c : ℕ) → lowest of c (r.last + 1) ≡ lowest of c (suc g)
    all c =
        let d : r.last + 1 ≡ g + suc (r.last - g) = omega (arith, w.1) in
        rw d (lowest_on of c g (r.last - g) (λ y a b. sym (w.0.same y a (omega (arith, w.1))) ∙ own))

    cell : (c : ℕ) → c < 65536 → (b : Bool) → eqb r.class c ≡ b → get_or (first_put t (base + r.class) (g + 1)) (base + c) 0 ≡ lowest of c (suc g)
    cell c l true q =
        let z : r.class ≡ c = eqb-true r.class c q in
        rw z (
        put_own t (base + c) (g + 1) (omega (arith, k.room, k.lowest.elsewhere.size))
        ∙ rw (k.lowest.each c l, add-one) (sym (lowest_own of c g (sym own ∙ z)))
        )
    cell c l false q =
        let z : r.class ≡ c → ⊥ = eqb-false r.class c q in
        other (dec_lt c r.class) ∙ k.lowest.each c l ∙ sym (lowest_other of c g (λ p. z (own ∙ p)))
      where
        alone : Elsewhere (base + r.class) (base + r.class + 1) t (first_put t (base + r.class) (g + 1))
        alone = put_elsewhere t (base + r.class) (g + 1) (omega arith) (omega arith)

        other : Dec (c < r.class) → get_or (first_put t (base + r.class) (g + 1)) (base + c) 0 ≡ get_or t (base + c) 0
        other (yes d) = alone.before (base + c) (omega arith)
        other (no d) = alone.after (base + c) (omega (arith, eqb-false r.class c q))

    pub finding_turn : Finding s at t₀ u base r.next (r.last + 1)
    finding_turn = rw e (record {
      within = omega (arith, w.0.low);
      room = k.room;
      hint = w.0.later (r.last + 1) (omega arith);
      lowest = record {
        each = λ c l. cell c l (eqb r.class c) refl ∙ sym (all c);
        elsewhere = elsewhere_more k.lowest.elsewhere (put_elsewhere t (base + r.class) (g + 1) (omega arith) (omega (arith, w.0.small)));
      };
    })

  pub finding_end : {before t : List ℕ} {next g : ℕ} → Cleared 65536 before t₀ base → Finding s at t₀ t base next g → 65536 ≤ g → Lowest (class_in (table_at s at)) 65536 before t base
  finding_end {before} {t} {next} {g} d k h =
      let e : g ≡ 65536 = omega (arith, k.within) in
      let l : Lowest (class_in (table_at s at)) 65536 t₀ t base = rw e at k.lowest in
      record { each = l.each; elsewhere = elsewhere_more d.elsewhere l.elsewhere }

-- Strays.

-- a stretch holds its later glyphs
pub holding_on : {s : List ℕ} {at x y : ℕ} {r : Stretch} → Holding s at x r → x ≤ y → Holding s at y r
holding_on k h = record { low = k.low; same = λ z a b. k.same z (omega arith) b; small = k.small; later = k.later }

module _ (more : ℕ) (of other : ℕ → ℕ) (n : ℕ) where
  -- the id g, of its own class and of others
  own_same : (c g : ℕ) → of g ≡ c → lowest of c n ≡ lowest other (other g) n → marked_with more of other n (suc g) c ≡ marked_with more of other n g c
  unfolding marked_with strays
  own_same c g h e = rw (eq-eqb (of g) c h, eq-eqb (lowest of c n) (lowest other (other g) n) e)

  own_strays : (c g : ℕ) → of g ≡ c → (lowest of c n ≡ lowest other (other g) n → ⊥) → marked_with more of other n (suc g) c ≡ lowest of c n + more
  unfolding marked_with strays
  own_strays c g h e = rw (eq-eqb (of g) c h, ne_eqb (lowest of c n) (lowest other (other g) n) e)

  not_own : (c g : ℕ) → (of g ≡ c → ⊥) → marked_with more of other n (suc g) c ≡ marked_with more of other n g c
  unfolding marked_with strays
  not_own c g h = rw (ne_eqb (of g) c h)

  -- a stretch
  marked_on : (c m z : ℕ) → m ≤ z → ((y : ℕ) → m ≤ y → y ≤ z → (of y ≡ of m) × (other y ≡ other m)) → marked_with more of other n (z + 1) c ≡ marked_with more of other n (suc m) c
  unfolding marked_with
  marked_on c m z l h =
      let d : z + 1 ≡ m + suc (z - m) = omega arith in
      rw (d, strays_on of other n c m (z - m) (λ y a b. h y a (omega arith)))

  -- before the first id and after the last
  pub marked_none : (c : ℕ) → lowest of c n ≡ marked_with more of other n 0 c
  unfolding marked_with strays
  marked_none c = refl

  pub marked_all : (c : ℕ) → marked_with more of other n n c ≡ class_number more of other n c
  unfolding marked_with class_number
  marked_all c = go (eqb (lowest of c n) 0) refl
    where
      go : (b : Bool) → eqb (lowest of c n) 0 ≡ b → cond (strays of other n c n) (lowest of c n + more) (lowest of c n) ≡ cond b 0 (cond (strays of other n c n) (lowest of c n + more) (lowest of c n))
      go true e = let z = eqb-true (lowest of c n) 0 e in rw (unheld_stays of other n c z) z
      go false e = refl

  -- the lowest id of a held class stands in its cell
  lowest_marked : (c m : ℕ) → lowest of c n ≤ 65536 → (lowest of c n + more - 1) % 65536 + 1 ≡ lowest of c n → 65536 < lowest of c n + more → lowest_in (marked_with more of other n m c) ≡ lowest of c n
  unfolding marked_with lowest_in
  lowest_marked c m h e l = go (strays of other n c m)
    where
      go : (b : Bool) → cond (leb (cond b (lowest of c n + more) (lowest of c n)) 65536) (cond b (lowest of c n + more) (lowest of c n)) ((cond b (lowest of c n + more) (lowest of c n) - 1) % 65536 + 1) ≡ lowest of c n
      go true = rw (lt-leb (lowest of c n + more) 65536 l) e
      go false = rw (le-leb (lowest of c n) 65536 h)

-- the ways through `lowest_in`
pub lowest_plain : (v : ℕ) → v ≤ 65536 → (v ≡ lowest_in v) × (v ≤ 65536)
unfolding lowest_in
lowest_plain v h = (rw (le-leb v 65536 h), h)

pub lowest_more : (v : ℕ) → 65536 < v → ((v - 1) % 65536 + 1 ≡ lowest_in v) × ((v - 1) % 65536 + 1 ≤ 65536)
unfolding lowest_in
lowest_more v h = (rw (lt-leb v 65536 h), omega arith)

-- cells that are compared
compared_same : (t : List ℕ) (i j : ℕ) → lowest_in (get_or t i 0) ≡ lowest_in (get_or t j 0) → compared t i j ≡ t
unfolding compared
compared_same t i j h = rw (eq-eqb (lowest_in (get_or t i 0)) (lowest_in (get_or t j 0)) h)

compared_not : (t : List ℕ) (i j : ℕ) → (lowest_in (get_or t i 0) ≡ lowest_in (get_or t j 0) → ⊥) → compared t i j ≡ set (set t i (lowest_in (get_or t i 0) + 65536)) j (lowest_in (get_or t j 0) + 131072)
unfolding compared
compared_not t i j h = rw (ne_eqb (lowest_in (get_or t i 0)) (lowest_in (get_or t j 0)) h)

-- the ways through `compare_lowest`
module _ (t : List ℕ) (i j : ℕ) {a b l r : ℕ} (e : a ≡ get_or t i 0) (f : l ≡ lowest_in a) (g : b ≡ get_or t j 0) (h : r ≡ lowest_in b) where
  pub lowest_differ : {one two : List ℕ} → (l ≡ r → ⊥) → one ≡ set t i (l + 65536) → two ≡ set one j (r + 131072) → two ≡ compared t i j
  lowest_differ n p q = q ∙ rw (p, f, h, e, g) (sym (compared_not t i j (λ w. n (rw (f, h, e, g) w))))

  pub lowest_agree : l ≡ r → t ≡ compared t i j
  lowest_agree z = sym (compared_same t i j (rw (← e, ← g, ← f, ← h) z))

-- One id's classes compared: g has the class c on the left and d on the right.
module _ {of other : ℕ → ℕ} {t : List ℕ} {base g : ℕ} (k : Marked of other 65536 g t base) (room : base + 131072 ≤ length t) (h : g < 65536)
    {c d : ℕ} (small : c < 65536) (little : d < 65536) (e : of g ≡ c) (f : other g ≡ d) where
  abbrev i : ℕ
  i = base + c

  abbrev j : ℕ
  j = base + 65536 + d

  left_there : lowest of c 65536 ≡ 0 → ⊥
  left_there z = lowest_held of c 65536 g h e z

  right_there : lowest other d 65536 ≡ 0 → ⊥
  right_there z = lowest_held other d 65536 g h f z

  left_lowest : lowest_in (get_or t i 0) ≡ lowest of c 65536
  left_lowest =
      let l = lowest_within of c 65536 in
      rw (k.left c small) (lowest_marked 65536 of other 65536 c g l (omega (arith, left_there)) (omega (arith, left_there)))

  right_lowest : lowest_in (get_or t j 0) ≡ lowest other d 65536
  right_lowest =
      let l = lowest_within other d 65536 in
      rw (k.right d little) (lowest_marked 131072 other of 65536 d g l (omega (arith, right_there)) (omega (arith, right_there)))

  same_turn : lowest of c 65536 ≡ lowest other d 65536 → Marked of other 65536 (suc g) t base
  same_turn q = record {
    left = λ x l. k.left x l ∙ sym (left x (eqb c x) refl);
    right = λ x l. k.right x l ∙ sym (right x (eqb d x) refl);
  }
    where
      left : (x : ℕ) (b : Bool) → eqb c x ≡ b → marked_with 65536 of other 65536 (suc g) x ≡ marked_with 65536 of other 65536 g x
      left x true p = let z = eqb-true c x p in own_same 65536 of other 65536 x g (e ∙ z) (rw (← z, f) q)
      left x false p = not_own 65536 of other 65536 x g (λ w. eqb-false c x p (sym e ∙ w))

      right : (x : ℕ) (b : Bool) → eqb d x ≡ b → marked_with 131072 other of 65536 (suc g) x ≡ marked_with 131072 other of 65536 g x
      right x true p = let z = eqb-true d x p in own_same 131072 other of 65536 x g (f ∙ z) (rw (← z, e) (sym q))
      right x false p = not_own 131072 other of 65536 x g (λ w. eqb-false d x p (sym f ∙ w))

  not_turn : (lowest of c 65536 ≡ lowest other d 65536 → ⊥) → Marked of other 65536 (suc g) (set (set t i (lowest of c 65536 + 65536)) j (lowest other d 65536 + 131072)) base
  not_turn q = record {
    left = λ x l. get_or-set_other (set t i (lowest of c 65536 + 65536)) j (base + x) (lowest other d 65536 + 131072) 0 (λ w. omega arith) ∙ left x l (eqb c x) refl;
    right = λ x l. right x l (eqb d x) refl;
  }
    where
      left : (x : ℕ) → x < 65536 → (b : Bool) → eqb c x ≡ b → get_or (set t i (lowest of c 65536 + 65536)) (base + x) 0 ≡ marked_with 65536 of other 65536 (suc g) x
      left x l true p =
          let z : c ≡ x = eqb-true c x p in
          rw (← z) (get_or-set_same t i (lowest of c 65536 + 65536) 0 (omega arith) ∙ sym (own_strays 65536 of other 65536 c g e (rw f q)))
      left x l false p =
          let z : c ≡ x → ⊥ = eqb-false c x p in
          get_or-set_other t i (base + x) (lowest of c 65536 + 65536) 0 (λ w. z (omega arith)) ∙ k.left x l ∙ sym (not_own 65536 of other 65536 x g (λ w. z (sym e ∙ w)))

      right : (x : ℕ) → x < 65536 → (b : Bool) → eqb d x ≡ b
          → get_or (set (set t i (lowest of c 65536 + 65536)) j (lowest other d 65536 + 131072)) (base + 65536 + x) 0 ≡ marked_with 131072 other of 65536 (suc g) x
      right x l true p =
          let z : d ≡ x = eqb-true d x p in
          rw (← z) (
          get_or-set_same (set t i (lowest of c 65536 + 65536)) j (lowest other d 65536 + 131072) 0 (omega (arith, length-set t i (lowest of c 65536 + 65536)))
          ∙ sym (own_strays 131072 other of 65536 d g f (rw e (λ w. q (sym w))))
          )
      right x l false p =
          let z : d ≡ x → ⊥ = eqb-false d x p in
          get_or-set_other (set t i (lowest of c 65536 + 65536)) j (base + 65536 + x) (lowest other d 65536 + 131072) 0 (λ w. z (omega arith))
          ∙ get_or-set_other t i (base + 65536 + x) (lowest of c 65536 + 65536) 0 (λ w. omega arith)
          ∙ k.right x l
          ∙ sym (not_own 131072 other of 65536 x g (λ w. z (sym f ∙ w)))

  both_turn : (b : Bool) → eqb (lowest of c 65536) (lowest other d 65536) ≡ b → Marked of other 65536 (suc g) (compared t i j) base
  both_turn true p =
      let q = eqb-true (lowest of c 65536) (lowest other d 65536) p in
      rw (compared_same t i j (left_lowest ∙ q ∙ sym right_lowest)) (same_turn q)
  both_turn false p =
      let q = eqb-false (lowest of c 65536) (lowest other d 65536) p in
      rw (compared_not t i j (λ w. q (sym left_lowest ∙ w ∙ right_lowest)), left_lowest, right_lowest) (not_turn q)

  marked_turn : Marked of other 65536 (suc g) (compared t i j) base
  marked_turn = both_turn (eqb (lowest of c 65536) (lowest other d 65536)) refl

compared_elsewhere : {from to : ℕ} (t : List ℕ) (i j : ℕ) → from ≤ i → i < to → from ≤ j → j < to → Elsewhere from to t (compared t i j)
unfolding compared
compared_elsewhere {from} {to} t i j a b c d = go (eqb (lowest_in (get_or t i 0)) (lowest_in (get_or t j 0)))
  where
    go : (s : Bool) → Elsewhere from to t (cond s t (set (set t i (lowest_in (get_or t i 0) + 65536)) j (lowest_in (get_or t j 0) + 131072)))
    go true = elsewhere_all
    go false = elsewhere_more (elsewhere_set t i (lowest_in (get_or t i 0) + 65536) a b) (elsewhere_set (set t i (lowest_in (get_or t i 0) + 65536)) j (lowest_in (get_or t j 0) + 131072) c d)

-- What the walk for strays keeps: the ids before g are compared, and the two stretches hold g if they reach so far.
pub record Straying (s : List ℕ) (at : ℕ) (q : List ℕ) (to : ℕ) (t₀ t : List ℕ) (base : ℕ) (l r : Stretch) (g : ℕ) : Type 0 where
  pub within : g ≤ 65536
  pub room : base + 131072 ≤ length t₀
  pub lefts : Holding s at g l
  pub rights : Holding q to g r
  pub marked : Marked (class_in (table_at s at)) (class_in (table_at q to)) 65536 g t base
  pub elsewhere : Elsewhere base (base + 131072) t₀ t

module _ {s : List ℕ} {at : ℕ} {q : List ℕ} {to : ℕ} {t₀ : List ℕ} {base : ℕ} where
  pub straying_none : {l r : Stretch} → base + 131072 ≤ length t₀ → Marked (class_in (table_at s at)) (class_in (table_at q to)) 65536 0 t₀ base
      → Holding s at 0 l → Holding q to 0 r → Straying s at q to t₀ t₀ base l r 0
  straying_none h k a b = record { within = omega arith; room = h; lefts = a; rights = b; marked = k; elsewhere = elsewhere_all }

  module _ {t u : List ℕ} {x y l r : Stretch} {g z : ℕ} (k : Straying s at q to t₀ t base x y g) (h : g < 65536) (v : Holding s at g l × (g ≤ l.last)) (w : Holding q to g r × (g ≤ r.last))
      (e : u ≡ compared t (base + l.class) (base + 65536 + r.class)) (m : z ≡ min l.last r.last) where
    straying_far : g ≤ z
    straying_far = omega (arith, v.1, w.1)

    held : (y : ℕ) → g ≤ y → y ≤ z → (class_in (table_at s at) y ≡ class_in (table_at s at) g) × (class_in (table_at q to) y ≡ class_in (table_at q to) g)
    held y a b = (
      sym (v.0.same y a (omega arith)) ∙ v.0.same g (omega arith) v.1,
      sym (w.0.same y a (omega arith)) ∙ w.0.same g (omega arith) w.1,
    )

    one : Marked (class_in (table_at s at)) (class_in (table_at q to)) 65536 (suc g) (compared t (base + l.class) (base + 65536 + r.class)) base
    one = marked_turn k.marked (omega (arith, k.room, k.elsewhere.size)) h v.0.small w.0.small (sym (v.0.same g (omega arith) v.1)) (sym (w.0.same g (omega arith) w.1))

    pub straying_turn : Straying s at q to t₀ u base l r (z + 1)
    straying_turn = rw e (record {
      within = omega (arith, v.0.low);
      room = k.room;
      lefts = holding_on v.0 (omega (arith, straying_far));
      rights = holding_on w.0 (omega (arith, straying_far));
      marked = record {
        left = λ c n. one.left c n ∙ sym (marked_on 65536 (class_in (table_at s at)) (class_in (table_at q to)) 65536 c g z straying_far held);
        right = λ c n. one.right c n ∙ sym (marked_on 131072 (class_in (table_at q to)) (class_in (table_at s at)) 65536 c g z straying_far (λ y a b. ((held y a b).1, (held y a b).0)));
      };
      elsewhere = elsewhere_more k.elsewhere (compared_elsewhere t (base + l.class) (base + 65536 + r.class) (omega arith) (omega (arith, v.0.small)) (omega arith) (omega (arith, w.0.small)));
    })

  pub straying_end : {t : List ℕ} {l r : Stretch} {g : ℕ} → Straying s at q to t₀ t base l r g → 65536 ≤ g
      → Marked (class_in (table_at s at)) (class_in (table_at q to)) 65536 65536 t base × Elsewhere base (base + 131072) t₀ t
  straying_end {t} {l} {r} {g} k h =
      let e : g ≡ 65536 = omega (arith, k.within) in
      (rw e at k.marked, k.elsewhere)

-- Numbers: the lowest ids of both tables, then the strays.
module _ (l r : Option (List (ℕ × ℕ))) {t₀ t one : List ℕ} {base : ℕ} (k : Lowest (class_in l) 65536 t₀ t base) (m : Lowest (class_in r) 65536 t one (base + 65536)) where
  pub lowest_both : Marked (class_in l) (class_in r) 65536 0 one base
  lowest_both = record {
    left = λ c h. m.elsewhere.before (base + c) (omega arith) ∙ k.each c h ∙ marked_none 65536 (class_in l) (class_in r) 65536 c;
    right = λ c h. m.each c h ∙ marked_none 131072 (class_in r) (class_in l) 65536 c;
  }

  pub numbered_both : {two : List ℕ} → Marked (class_in l) (class_in r) 65536 65536 two base × Elsewhere base (base + 131072) one two → ClassesNumbered l r two base × Elsewhere base (base + 131072) t₀ two
  numbered_both h = (
    record {
      left = λ c w. h.0.left c w ∙ marked_all 65536 (class_in l) (class_in r) 65536 c;
      right = λ c w. h.0.right c w ∙ marked_all 131072 (class_in r) (class_in l) 65536 c;
    },
    elsewhere_more (elsewhere_wide (omega arith) (omega arith) k.elsewhere) (elsewhere_more (elsewhere_wide (omega arith) (omega arith) m.elsewhere) h.1),
  )
