-- Laying a listed map into cells: one entry after another, each into a cell that has none.
use Rattle.std.specs.Prelude.{ℕ, suc, ◌+◌, ◌-◌, ◌*◌, ◌/◌, ◌%◌, ◌^◌, ◌≤◌, ◌<◌, ◌≡◌, refl, Bool, true, false, cond, not, List, [], ◌∷◌, ◌++◌, length, set, eqb, Option, None, Some}
use Rattle.std.proofs.Math.Path.{sym, ap}
use Rattle.std.proofs.Common.{◌∙◌, true≢false, pow-suc, mod-eq_of_lt, arith, length-set, get_or-set_same, get_or-set_other, pow_pos}
use Rattle.std.proofs.Math.Decide.{dec_lt}
use Rattle.std.proofs.Math.ListN.{get_or}
use Rattle.std.proofs.Math.Pow.{pow-lt}
use Rattle.std.specs.Int.Bits.{bit_and}
use Rattle.std.proofs.lemmas.Nat.{and_mask}
use borrow.Author.Tests.{ne_eqb, eqb-true, eqb-false, not-true, not-false}
use Rattle.meaning.specs.Words.{find, is_some, ascends, keys}
use Rattle.meaning.specs.Maps.{map_entries}
use Rattle.cell_maps.specs.Cells.{cell_of, cell_at, cell_entry, answer_in, folded, Odd, Holds, Kept, kept_all, kept_set, cell_inside, entry_folded, answer_own, answer_other}
use Rattle.cell_maps.specs.declared.Map.{Map}

-- r is a power of two, 2 or more
pub record Power (r : ℕ) : Type 0 where
  pub exponent : ℕ
  pub power : r ≡ 2 ^ suc exponent

-- the least such power that is n or more; at most 65,536 if n is
pub record Next (n r : ℕ) : Type 0 where
  pub two : Power r
  pub enough : n ≤ r
  pub least : 2 < r → r < 2 * n
  pub few : n ≤ 65536 → r ≤ 65536

-- the cell of `old` holds an entry, since the number that it names has the same cell
unfoldable pub taken : List ℕ → Map → ℕ → Bool
taken t m old = eqb (bit_and (cell_at t m old / 65536) m.mask) (bit_and old m.mask)

-- the cells after one entry more, if its cell was free; r says whether it was
pub record Added (t₀ t : List ℕ) (m : Map) (old new : ℕ) (r : Bool) : Type 0 where
  pub free : r ≡ not (taken t₀ m old)
  pub cells : t ≡ cond r (set t₀ (cell_of m old) (old * 65536 + new)) t₀
  pub small : cell_at t₀ m old < 4294967296

-- the cells after a listed map, if each entry had a cell of its own; with a cell for each number that is so
pub record LaidIn (list t₀ t : List ℕ) (m : Map) (r : Bool) : Type 0 where
  pub kept : Kept m.at t₀ t
  pub holds : r ≡ true → Holds t m (map_entries list)
  pub clash : r ≡ false → m.mask ≡ 65535 → ascends (keys (map_entries list)) ≡ true → ⊥

-- The map m of a list that was laid into cells from `at` on: its mask is 0, or it is a folded table, and the cells hold the list's entries.
-- If the old numbers ascend, the cells are at most 65,536, and there is room if there are so many.
pub record Laid (list t₀ t : List ℕ) (at : ℕ) (m : Map) : Type 0 where
  pub place : m.at ≡ at
  pub kept : Kept at t₀ t
  pub odd : (m.mask ≡ 0 → ⊥) → Odd m
  pub holds : (m.mask ≡ 0 → ⊥) → Holds t m (map_entries list)
  pub few : ascends (keys (map_entries list)) ≡ true → m.mask < 65536
  pub room : at + 65536 ≤ length t₀ → ascends (keys (map_entries list)) ≡ true → m.mask ≡ 0 → ⊥

-- Powers of two: twice one is the next; below 65,536 the next is at most that.
-- what is below 2 ^ 16 has an exponent below 16
small_exponent : (k : ℕ) → 2 ^ k < 65536 → k < 16
small_exponent k h = step (dec_lt k 16)
  where
    step : Dec (k < 16) → k < 16
    step (yes l) = l
    step (no l) = absurd (past (dec_lt 16 k))
      where
        past : Dec (16 < k) → ⊥
        past (yes g) = omega (arith, pow-lt g)
        past (no g) =
            let e : k ≡ 16 = omega arith in
            let f : 2 ^ k ≡ 65536 = ap (λ (j : ℕ). 2 ^ j) e in
            omega arith

twice_near : (k : ℕ) → 2 ^ k < 65536 → 2 * 2 ^ k ≤ 65536
twice_near k h = step (dec_lt k 15)
  where
    step : Dec (k < 15) → 2 * 2 ^ k ≤ 65536
    step (yes l) =
        let g : 2 ^ k < 2 ^ 15 = pow-lt l in
        omega arith
    step (no l) =
        let e : k ≡ 15 = omega (arith, small_exponent k h) in
        let f : 2 ^ k ≡ 32768 = ap (λ (j : ℕ). 2 ^ j) e in
        omega arith

pub power_twice : {p : ℕ} → Power p → Power (2 * p)
power_twice {p} w = record { exponent = suc w.exponent; power = omega (arith, w.power, pow-suc 2 (suc w.exponent)) }

pub power_near : {p : ℕ} → Power p → p < 65536 → 2 * p ≤ 65536
power_near w h = omega (arith, w.power, twice_near (suc w.exponent) (omega (arith, w.power)))

-- a power of two, 2 or more, is even
pub power_even : {p : ℕ} → Power p → (p % 2 ≡ 0) × (2 ≤ p)
power_even {p} w =
    let e : p ≡ 2 ^ w.exponent * 2 = w.power ∙ pow-suc 2 w.exponent in
    let g : 0 < 2 ^ w.exponent = pow_pos w.exponent in
    (omega arith, omega arith)

-- in as many cells as a power of two, a number below it has its own
pub own_cell : {p : ℕ} → Power p → (x : ℕ) → x < p → bit_and x (p - 1) ≡ x
own_cell {p} w x h =
    let e : 2 ^ suc w.exponent - 1 ≡ p - 1 = ap (λ (q : ℕ). q - 1) (sym w.power) in
    ap (bit_and x) (sym e) ∙ and_mask x (suc w.exponent) ∙ mod-eq_of_lt (omega (arith, w.power))

-- What is found when one entry more stands last.
find_last : (es : List (ℕ × ℕ)) (old new x : ℕ) → find es x ≡ None → find (es ++ ((old, new) ∷ [])) x ≡ cond (eqb old x) (Some new) None
unfolding find
find_last [] old new x h = refl
find_last (e ∷ es) old new x h = step (eqb e.0 x) h (λ g. find_last es old new x g)
  where
    step : (b : Bool) → cond b (Some e.1) (find es x) ≡ None → (find es x ≡ None → find (es ++ ((old, new) ∷ [])) x ≡ cond (eqb old x) (Some new) None)
        → cond b (Some e.1) (find (es ++ ((old, new) ∷ [])) x) ≡ cond (eqb old x) (Some new) None
    step true h r = cc
    step false h r = r h

find_before : (es : List (ℕ × ℕ)) (old new x : ℕ) → (old ≡ x → ⊥) → find (es ++ ((old, new) ∷ [])) x ≡ find es x
unfolding find
find_before [] old new x h = rw (ne_eqb old x h) refl
find_before (e ∷ es) old new x h = ap (λ (o : Option ℕ). cond (eqb e.0 x) (Some e.1) o) (find_before es old new x h)

-- An entry more: its cell was free, so that no number of this cell was found.
module _ {t : List ℕ} {m : Map} {es : List (ℕ × ℕ)} (d : Odd m) (o : Holds t m es) (old new : ℕ) (s : new < 65536) (f : taken t m old ≡ false) where
  free_none : (x : ℕ) → bit_and x m.mask ≡ bit_and old m.mask → find es x ≡ None
  unfolding taken
  free_none x e =
      let c : cell_of m x ≡ cell_of m old = ap (λ (i : ℕ). m.at + i) e in
      let v : cell_at t m x ≡ cell_at t m old = ap (λ (i : ℕ). get_or t i 0) c in
      sym (o.answers x) ∙ ap (λ (w : ℕ). answer_in w x) (entry_folded t m d x) ∙ answer_other (cell_at t m x) x (λ n. eqb-false _ _ f (ap (λ (y : ℕ). bit_and y m.mask) (ap (λ (v : ℕ). v / 65536) (sym v) ∙ n) ∙ e))

  pub holds_more : Holds (set t (cell_of m old) (old * 65536 + new)) m (es ++ ((old, new) ∷ []))
  holds_more = record {
    inside = record { within = omega (arith, length-set t (cell_of m old) (old * 65536 + new), o.inside.within) };
    answers = λ x. step x (eqb (bit_and x m.mask) (bit_and old m.mask)) refl;
  }
    where
      here : (x : ℕ) (b : Bool) → eqb old x ≡ b → answer_in (old * 65536 + new) x ≡ cond b (Some new) None
      here x true e =
          let r : (old * 65536 + new) % 65536 ≡ new = omega arith in
          answer_own (old * 65536 + new) x (omega (arith, eqb-true old x e)) ∙ ap Some r
      here x false e =
          let q : (old * 65536 + new) / 65536 ≡ old = omega arith in
          answer_other (old * 65536 + new) x (λ n. eqb-false old x e (sym q ∙ n))

      step : (x : ℕ) (b : Bool) → eqb (bit_and x m.mask) (bit_and old m.mask) ≡ b → folded (set t (cell_of m old) (old * 65536 + new)) m x ≡ find (es ++ ((old, new) ∷ [])) x
      step x true e =
          let k : bit_and x m.mask ≡ bit_and old m.mask = eqb-true _ _ e in
          let c : cell_of m x ≡ cell_of m old = ap (λ (i : ℕ). m.at + i) k in
          let v : cell_entry (set t (cell_of m old) (old * 65536 + new)) m x ≡ old * 65536 + new = entry_folded _ m d x ∙ ap (λ (i : ℕ). get_or (set t (cell_of m old) (old * 65536 + new)) i 0) c ∙ get_or-set_same t (cell_of m old) (old * 65536 + new) 0 (cell_inside o.inside old) in
          ap (λ (v : ℕ). answer_in v x) v ∙ here x (eqb old x) refl ∙ sym (find_last es old new x (free_none x k))
      step x false e =
          let k : bit_and x m.mask ≡ bit_and old m.mask → ⊥ = eqb-false _ _ e in
          let v : cell_entry (set t (cell_of m old) (old * 65536 + new)) m x ≡ cell_entry t m x =
          entry_folded _ m d x ∙ get_or-set_other t (cell_of m old) (cell_of m x) (old * 65536 + new) 0 (λ q. k (omega arith)) ∙ sym (entry_folded t m d x)
          in
          ap (λ (v : ℕ). answer_in v x) v ∙ o.answers x ∙ sym (find_before es old new x (λ q. k (ap (λ (y : ℕ). bit_and y m.mask) (sym q))))

-- With a cell for each number, a cell that is taken holds the number itself.
same_number : (k a b : ℕ) → k ≡ 65535 → a < 65536 → b < 65536 → bit_and a k ≡ bit_and b k → a ≡ b
same_number k a b e ha hb h =
    let f : bit_and a (2 ^ 16 - 1) ≡ bit_and b (2 ^ 16 - 1) = rw e at h in
    let g : a % 65536 ≡ b % 65536 = sym (and_mask a 16) ∙ f ∙ and_mask b 16 in
    omega arith

some_none : {v : ℕ} → Some v ≡ None → ⊥
unfolding is_some
some_none h = true≢false (ap is_some h)

taken_found : {t : List ℕ} {m : Map} {es : List (ℕ × ℕ)} → Odd m → Holds t m es → (old : ℕ) → old < 65536 → cell_at t m old < 4294967296 → m.mask ≡ 65535 → taken t m old ≡ true → find es old ≡ None → ⊥
unfolding taken
taken_found {t} {m} d o old s w e k n =
    let q : cell_at t m old / 65536 ≡ old = same_number m.mask (cell_at t m old / 65536) old e (omega arith) s (eqb-true _ _ k) in
    some_none (sym (answer_own (cell_at t m old) old q) ∙ ap (λ (v : ℕ). answer_in v old) (sym (entry_folded t m d old)) ∙ o.answers old ∙ n)

-- What `add` says to its callers: the cells before the map stand; the entry is one more; and with a cell for each number only a number that is there already has no free one.
module _ {t next : List ℕ} {m : Map} {old new : ℕ} {r : Bool} (a : Added t next m old new r) where
  pub added_kept : Kept m.at t next
  added_kept = step r a.cells
    where
      step : (b : Bool) → next ≡ cond b (set t (cell_of m old) (old * 65536 + new)) t → Kept m.at t next
      step true e = rw e (kept_set m.at t (cell_of m old) (old * 65536 + new) (omega arith))
      step false e = rw e (kept_all m.at t)

  module _ {es : List (ℕ × ℕ)} (d : Odd m) (o : Holds t m es) where
    pub added_holds : r ≡ true → new < 65536 → Holds next m (es ++ ((old, new) ∷ []))
    added_holds e s =
        let f : next ≡ set t (cell_of m old) (old * 65536 + new) = rw e at a.cells in
        rw f (holds_more d o old new s (not-true (taken t m old) (sym a.free ∙ e)))

    pub added_clash : r ≡ false → m.mask ≡ 65535 → old < 65536 → find es old ≡ None → ⊥
    added_clash e k s n = taken_found d o old s a.small k (not-false (taken t m old) (sym a.free ∙ e)) n
