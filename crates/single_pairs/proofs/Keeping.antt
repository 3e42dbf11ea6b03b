-- The substitutes, and what the loop over the notes keeps.
use Rattle.std.proofs.Common.{◌≡◌, ℕ, zero, suc, ◌+◌, ◌*◌, ◌/◌, ◌%◌, ◌<◌, ◌≤◌, Bool, true, false, cond, ◌&&◌, eqb, List, [], ◌∷◌, ◌++◌, map, length, get_or, set, sym, refl, ap, ◌∙◌, subst, append-nil, arith, length-set, get_or-set_other, eq-eqb, ne_eqb, eqb-true}
use Rattle.std.specs.Prelude.{Option, None, Some}
use mathlib.Core.List.{map-append}
use borrow.Author.Tests.{eqb-false}
use Rattle.meaning.specs.Words.{word, every, bind, push, map_some}
use Rattle.meaning.specs.Tables.{plus_delta}
use Rattle.meaning.specs.Cut.{delta_of, agree}
use Rattle.laws.specs.Left.{words_at}
use Rattle.cell_maps.specs.Cells.{cell_entry, folded, Kept, kept_all, kept_more, kept_set, entry_kept, answer_own, answer_other}
use Rattle.cell_maps.specs.declared.Map.{Map}
use Rattle.area.specs.Part.{part, part_append, notes, old_at}
use Rattle.area.specs.Stored.{part_same, part_store}
use Rattle.single_pairs.specs.Pairs.{covered, substitutes, Singles, Substitute, pair_of, pairs, pair_at, pair_cell, noted, KeepsPair, KeptPair, KeepsPairs, KeptPairs}
use Rattle.single_checks.proofs.Checking.{Good, good_table}

-- Substitutes.

get_d_map : (f : ℕ → ℕ) (l : List ℕ) (i : ℕ) → i < length l → get_or (map f l) i 0 ≡ f (get_or l i 0)
get_d_map f [] i h = absurd (omega arith)
get_d_map f (x ∷ l) zero h = refl
get_d_map f (x ∷ l) (suc i) h = get_d_map f l i (omega arith)

module _ {s : List ℕ} {i : ℕ} (a : Singles s i) where
  pub table_good : Good s
  table_good = good_table s a.sound a.cover

  -- by the delta
  pub by_delta : {f d g r : ℕ} → f ≡ word s 0 → f ≡ 1 → d ≡ word s 4 → g ≡ get_or (covered s) i 0 → r ≡ (g + d) % 65536 → Substitute s i r
  unfolding substitutes plus_delta
  by_delta w h e k q = record {
    glyph = rw (q, k, e) (sym (rw (← w, h) (get_d_map (plus_delta (word s 4)) (covered s) i a.index)));
    small = omega arith;
  }

  -- by the list
  pub by_list : {f r : ℕ} → f ≡ word s 0 → (f ≡ 1 → ⊥) → r ≡ word s (6 + 2 * i) → r < 65536 → Substitute s i r
  unfolding substitutes
  by_list {f} w h q z = record {
    glyph = q ∙ sym (rw (← w, ne_eqb f 1 h) (words_at s 6 (word s 4) i (omega (arith, a.index, (table_good.listed (λ n. h (w ∙ n))).1))));
    small = z;
  }

  pub list_inside : {f : ℕ} → f ≡ word s 0 → (f ≡ 1 → ⊥) → 6 + 2 * i + 1 < length s
  list_inside w h = omega (arith, a.index, (table_good.listed (λ n. h (w ∙ n))).0, (table_good.listed (λ n. h (w ∙ n))).1)

-- A note that becomes a pair.
module _ (s t : List ℕ) (m : Map) (at i k : ℕ) {note old e : ℕ} (w : note ≡ get_or t (at + i) 0) (o : Substitute s (note / 65536) old) (f : e ≡ cell_entry t m old) where
  is_noted : old ≡ noted s t (at + i)
  is_noted = o.glyph ∙ ap (λ (x : ℕ). get_or (substitutes s) (x / 65536) 0) w

  stored : {after : List ℕ} → after ≡ set t (at + k) (e % 65536 * 65536 + note % 65536) → after ≡ set t (at + k) (pair_cell (cell_entry t m (noted s t (at + i))) (get_or t (at + i) 0))
  stored q = rw (← is_noted, ← f, ← w) q

  pub kept_one : {after : List ℕ} → after ≡ set t (at + k) (e % 65536 * 65536 + note % 65536) → e / 65536 ≡ old → KeptPair s t m at i k after (k + 1)
  kept_one q h = record { cell = stored q; count = rw (← is_noted, ← f, eq-eqb (e / 65536) old h) refl }

  pub kept_none : {after : List ℕ} → after ≡ set t (at + k) (e % 65536 * 65536 + note % 65536) → (e / 65536 ≡ old → ⊥) → KeptPair s t m at i k after k
  kept_none q h = record { cell = stored q; count = rw (← is_noted, ← f, ne_eqb (e / 65536) old h) refl }

-- Differences.

every_more : {A : Type 0} (test : A → Bool) (l : List A) (x : A) → every test (l ++ (x ∷ [])) ≡ every test l && test x
unfolding every
every_more test [] x = step (test x)
  where
    step : (b : Bool) → b && true ≡ b
    step true = refl
    step false = refl
every_more test (a ∷ l) x = step (test a) (every_more test l x)
  where
    step : (b : Bool) → every test (l ++ (x ∷ [])) ≡ every test l && test x → b && every test (l ++ (x ∷ [])) ≡ (b && every test l) && test x
    step true h = h
    step false h = refl

pairs_more : (t : List ℕ) (at k : ℕ) → pairs t at (k + 1) ≡ pairs t at k ++ (pair_of (get_or t (at + k) 0) ∷ [])
unfolding part
pairs_more t at k = ap (map pair_of) (part_append t at k 1) ∙ map-append pair_of (part t at k) (get_or t (at + k) 0 ∷ [])

pub agree_more : (t : List ℕ) (at k : ℕ) → agree (pairs t at (k + 1)) ≡ agree (pairs t at k) && eqb (delta_of (pair_of (get_or t (at + k) 0))) (delta_of (pair_of (get_or t at 0)))
unfolding agree part every
agree_more t at zero =
    let e : at + 0 ≡ at = omega arith in
    sym (rw e (eq-eqb (delta_of (pair_of (get_or t at 0))) (delta_of (pair_of (get_or t at 0))) refl))
agree_more t at (suc k) = ap agree (pairs_more t at (suc k)) ∙ every_more (λ x. eqb (delta_of x) (delta_of (pair_of (get_or t at 0)))) (map pair_of (part t (at + 1) k)) (pair_of (get_or t (at + suc k) 0))

module _ (t : List ℕ) (at k : ℕ) {next : ℕ} {same : Bool} (e : same ≡ agree (pairs t at k)) where
  pub agree_same : next ≡ k → same ≡ agree (pairs t at next)
  agree_same n = rw n e

  module _ (l : k ≤ next) (m : next ≤ k + 1) (n : next ≡ k → ⊥) where
    is_more : next ≡ k + 1
    is_more = omega arith

    pub agree_next : same ≡ true → {d f : ℕ} → d ≡ delta_of (pair_of (get_or t (at + k) 0)) → f ≡ delta_of (pair_of (get_or t at 0)) → eqb d f ≡ agree (pairs t at next)
    agree_next q p o = rw (is_more, p, o) (sym (agree_more t at k ∙ rw (← e, q) refl))

    pub agree_stop : same ≡ false → same ≡ agree (pairs t at next)
    agree_stop q = rw (is_more, q) (sym (agree_more t at k ∙ rw (← e, q) refl))

-- the difference that is added to wraps back
pub wraps_back : (r a b : ℕ) → r < 65536 → a < 65536 → b < 65536 → (r + b) % 65536 ≡ a → r ≡ delta_of (b, a)
unfolding delta_of
wraps_back r a b hr ha hb e = omega arith

-- The loop.

some_more : {A B : Type 0} (f : A → Option B) (l : List A) (x : A) → map_some f (l ++ (x ∷ [])) ≡ map_some f l ++ push (f x) []
unfolding map_some push
some_more f [] x = refl
some_more f (a ∷ l) x = step (f a) (some_more f l x)
  where
    step : (o : Option _) → map_some f (l ++ (x ∷ [])) ≡ map_some f l ++ push (f x) [] → push o (map_some f (l ++ (x ∷ []))) ≡ push o (map_some f l) ++ push (f x) []
    step None h = h
    step (Some y) h = ap (λ (r : List _). y ∷ r) h

notes_more : (t : List ℕ) (at i : ℕ) → notes t at (i + 1) ≡ notes t at i ++ ((get_or t (at + i) 0 / 65536, get_or t (at + i) 0 % 65536) ∷ [])
unfolding part
notes_more t at i = ap (map (λ c. (c / 65536, c % 65536))) (part_append t at i 1) ∙ map-append (λ c. (c / 65536, c % 65536)) (part t at i) (get_or t (at + i) 0 ∷ [])

-- What the loop keeps: the first i notes have become k pairs, and the others stand as they did.
pub record Keeping (s t₀ : List ℕ) (m : Map) (at n : ℕ) (t : List ℕ) (k : ℕ) (same : Bool) (i : ℕ) : Type 0 where
  pub within : i ≤ n
  pub few : k ≤ i
  pub kept : Kept at t₀ t
  pub rest : (j : ℕ) → at + i ≤ j → get_or t j 0 ≡ get_or t₀ j 0
  pub stay : pairs t at k ≡ map_some (pair_at (folded t₀ m) (substitutes s)) (notes t₀ at i)
  pub agreed : same ≡ agree (pairs t at k)

module _ {s t₀ : List ℕ} {m : Map} {at n : ℕ} where
  pub keeping_all : Keeping s t₀ m at n t₀ 0 true 0
  unfolding part map_some agree
  keeping_all = record { within = omega arith; few = omega arith; kept = kept_all at t₀; rest = λ j h. refl; stay = refl; agreed = refl }

  module _ (a : KeepsPairs s t₀ m at n) {t : List ℕ} {k : ℕ} {same : Bool} {i : ℕ} (c : Keeping s t₀ m at n t k same i) (h : i < n) where
    same_note : get_or t (at + i) 0 ≡ get_or t₀ (at + i) 0
    same_note = c.rest (at + i) (omega arith)

    pub keeping_asks : KeepsPair s t m at i k
    keeping_asks = record {
      single = record { sound = a.sound; cover = a.cover; index = subst (λ (x : ℕ). x / 65536 < length (covered s)) (sym same_note) (a.indexes i h) };
      cells = record { within = omega (arith, a.cells.within, c.kept.size) };
      behind = omega (arith, a.behind, c.kept.size);
      few = c.few;
    }

    module _ {after : List ℕ} {next : ℕ} (p : KeptPair s t m at i k after next) where
      abbrev old : ℕ
      old = noted s t₀ (at + i)

      abbrev e : ℕ
      e = cell_entry t₀ m old

      abbrev v : ℕ
      v = pair_cell e (get_or t₀ (at + i) 0)

      is_old : noted s t (at + i) ≡ old
      is_old = ap (λ (x : ℕ). get_or (substitutes s) (x / 65536) 0) same_note

      is_cell : cell_entry t m (noted s t (at + i)) ≡ e
      is_cell = ap (cell_entry t m) is_old ∙ entry_kept c.kept m a.before old

      is_stored : after ≡ set t (at + k) v
      is_stored = p.cell ∙ rw (is_cell, same_note) refl

      is_count : next ≡ cond (eqb (e / 65536) old) (k + 1) k
      is_count = p.count ∙ rw (is_cell, is_old) refl

      pub next_near : (k ≤ next) × (next ≤ k + 1)
      next_near = step (eqb (e / 65536) old) is_count
        where
          step : (b : Bool) → next ≡ cond b (k + 1) k → (k ≤ next) × (next ≤ k + 1)
          step true q = (omega arith, omega arith)
          step false q = (omega arith, omega arith)

      -- the pairs before the cell that was stored
      before_same : pairs after at k ≡ pairs t at k
      before_same =
          let e : part after at k ≡ part t at k = ap (λ (l : List ℕ). part l at k) is_stored ∙ part_same (set t (at + k) v) t at k (λ j l g. get_or-set_other t (at + k) j v 0 (λ e. omega arith)) in
          ap (map pair_of) e

      pub still_asks : (same ≡ agree (pairs after at k)) × (k ≤ next) × (next ≤ k + 1) × (at + next ≤ length after)
      still_asks = (c.agreed ∙ ap agree (sym before_same), next_near.0, next_near.1, omega (arith, next_near.1, c.few, a.behind, c.kept.size, ap length is_stored, length-set t (at + k) v))

      stays : (b : Bool) → eqb (e / 65536) old ≡ b → next ≡ cond b (k + 1) k → pairs after at next ≡ pairs t at k ++ push (pair_at (folded t₀ m) (substitutes s) (old_at t₀ (at + i), get_or t₀ (at + i) 0 % 65536)) []
      unfolding push bind
      stays true f q =
          let o : folded t₀ m old ≡ Some (e % 65536) = answer_own e old (eqb-true (e / 65536) old f) in
          let x : v % 65536 ≡ get_or t₀ (at + i) 0 % 65536 = omega arith in
          let y : v / 65536 ≡ e % 65536 = omega arith in
          rw (q, is_stored, o) (ap (map pair_of) (part_store t at k v (omega (arith, c.few, a.behind, c.kept.size))) ∙ map-append pair_of (part t at k) (v ∷ []) ∙ ap (λ (z : ℕ × ℕ). pairs t at k ++ (z ∷ [])) (λ j. (x j, y j)))
      stays false f q =
          let o : folded t₀ m old ≡ None = answer_other e old (eqb-false (e / 65536) old f) in
          rw (q, o) (before_same ∙ sym (append-nil (pairs t at k)))

      pub keeping_turn : {again : Bool} → again ≡ agree (pairs after at next) → Keeping s t₀ m at n after next again (i + 1)
      keeping_turn g = record {
        within = omega arith;
        few = omega (arith, next_near.1, c.few);
        kept = kept_more c.kept (rw is_stored (kept_set at t (at + k) v (omega arith)));
        rest = λ j l. rw is_stored (get_or-set_other t (at + k) j v 0 (λ e. omega (arith, c.few))) ∙ c.rest j (omega arith);
        stay = stays (eqb (e / 65536) old) refl is_count
            ∙ ap (λ (l : List (ℕ × ℕ)). l ++ push (pair_at (folded t₀ m) (substitutes s) (old_at t₀ (at + i), get_or t₀ (at + i) 0 % 65536)) []) c.stay
            ∙ sym (ap (map_some (pair_at (folded t₀ m) (substitutes s))) (notes_more t₀ at i) ∙ some_more (pair_at (folded t₀ m) (substitutes s)) (notes t₀ at i) (old_at t₀ (at + i), get_or t₀ (at + i) 0 % 65536));
        agreed = g;
      }

  pub keeping_end : {t : List ℕ} {k : ℕ} {same : Bool} {i : ℕ} → Keeping s t₀ m at n t k same i → n ≤ i → KeptPairs s t₀ m at n t k same
  keeping_end {t} {k} {same} {i} c h =
      let e : i ≡ n = omega (arith, c.within) in
      record { kept = c.kept; few = omega (arith, c.few); stay = rw e at c.stay; agreed = c.agreed }
