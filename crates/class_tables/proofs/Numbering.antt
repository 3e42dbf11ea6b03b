-- The ways through the numbering of all tables, and the tables of a context without a fault.
use Prim.Native.Nat.{ℕ, zero, suc, ◌+◌, ◌*◌, ◌≤◌, ◌<◌}
use mathlib.Core.Path.{◌≡◌, refl, sym, ◌∙◌}
use mathlib.Core.Bool.{Bool, true, false, cond}
use Rattle.std.specs.Prelude.{Option, None, Some}
use mathlib.Core.List.{List, []}
use native.Mathlib.Omega.{arith}
use native.Mathlib.Nat.{zero-add}
use lib.ListN.{get_or}
use lib.Dec.{leb, eqb}
use borrow.Author.Tests.{eq-eqb, ne_eqb, le-leb, lt-leb, leb-true, leb-false}
use Rattle.meaning.specs.Words.{word, inside, bind}
use Rattle.meaning.specs.Parts.{coverage, classes, classes_sound, listed, class_of, class_in}
use Rattle.meaning.specs.Tables.{reach, reaches, rule_set, class_context, context, table}
use Rattle.meaning.specs.Fault.{fault_through, classes_fault, rule_fault, set_fault, header_fault, context_fault, fault}
use Rattle.laws.specs.ReadsBack.{fault_context, table_context}
use Rattle.laws.specs.SoundGood.{part_sound, lowest_none, header_good}
use Rattle.differences.specs.Content.{Content, content, rule_says, class_runs?, set_holds, by_each_class, covered}
use Rattle.class_stretches.specs.Tables.{table_at, NullOrSound, null_table}
use Rattle.class_lists.specs.Elsewhere.{Elsewhere, elsewhere_more, elsewhere_wide}
use Rattle.class_strays.specs.Numbered.{ClassesNumbered}
use Rattle.class_places.specs.Places.{back_at, input_at, ahead_at, count_at}
use Rattle.class_tables.specs.Contexts.{set_at, set_place, rules_at, SoundTables, TablesNumbered}

-- a place that was read
pub sound_at : {s : List ℕ} {w at : ℕ} → w ≡ at → NullOrSound s at → NullOrSound s w
sound_at e k = rw e k

-- numbers stand where later cells change
numbered_kept : {l r : Option (List (ℕ × ℕ))} {t u : List ℕ} {base from to : ℕ} → ClassesNumbered l r t base → base + 131072 ≤ from → Elsewhere from to t u → ClassesNumbered l r u base
numbered_kept {base = base} k h e = record { left = λ c w. e.before (base + c) (omega arith) ∙ k.left c w; right = λ c w. e.before (base + 65536 + c) (omega arith) ∙ k.right c w }

module _ (chained : Bool) (l r : List ℕ) {t one two three : List ℕ} {a b c d e f : ℕ}
    (la : a ≡ back_at chained l) (rb : b ≡ back_at chained r) (m : ClassesNumbered (table_at l a) (table_at r b) one 65536 × Elsewhere 65536 (65536 + 131072) t one)
    (lc : c ≡ input_at chained l) (rd : d ≡ input_at chained r) (n : ClassesNumbered (table_at l c) (table_at r d) two 196608 × Elsewhere 196608 (196608 + 131072) one two)
    (le : e ≡ ahead_at chained l) (rf : f ≡ ahead_at chained r) (o : ClassesNumbered (table_at l e) (table_at r f) three 327680 × Elsewhere 327680 (327680 + 131072) two three) where
  pub all_numbered : TablesNumbered chained l r three × Elsewhere 65536 458752 t three
  all_numbered = (
    record {
      back = rw (← la, ← rb) (numbered_kept (numbered_kept m.0 (omega arith) n.1) (omega arith) o.1);
      input = rw (← lc, ← rd) (numbered_kept n.0 (omega arith) o.1);
      ahead = rw (← le, ← rf) o.0;
    },
    elsewhere_more (elsewhere_wide (omega arith) (omega arith) m.1) (elsewhere_more (elsewhere_wide (omega arith) (omega arith) n.1) (elsewhere_wide (omega arith) (omega arith) o.1)),
  )

-- The tables of a context by class.

-- the table that an offset of the header leads to
table_at_lem : (s : List ℕ) (slot : ℕ) → reach (classes s) s 0 slot ≡ table_at s (word s slot)
unfolding reach table_at
table_at_lem s slot = rw (zero-add (word s slot))

no_table : (s : List ℕ) → None ≡ table_at s 0
no_table s = sym (null_table s refl)

-- its content: each covered glyph with the rules of the set that its class reaches
pub class_table : (chained : Bool) (s : List ℕ) → word s 0 ≡ 2 → content (table (cond chained 2 1) s)
    ≡ Content.rules 2 (by_each_class (rule_says (class_runs? (table_at s (back_at chained s))) (class_runs? (table_at s (input_at chained s))) (class_runs? (table_at s (ahead_at chained s)))) (table_at s (input_at chained s))
    (covered (reach (coverage s) s 0 2)) (reaches (rule_set chained s) s 0 (count_at chained + 2) (word s (count_at chained))))
unfolding context class_context content
class_table false s h = rw (table_context s false, h, table_at_lem s 4, no_table s)
class_table true s h = rw (table_context s true, h, table_at_lem s 4, table_at_lem s 6, table_at_lem s 8)

-- an offset of a header without a fault leads to a sound table, or nowhere
class_sound : (s : List ℕ) (slot n : ℕ) → fault_through (classes_fault s) s 0 slot (suc n) ≡ None → NullOrSound s (word s slot) × (fault_through (classes_fault s) s 0 (slot + 2) n ≡ None)
unfolding fault_through classes_fault
class_sound s slot n h =
    let q = lowest_none (cond (eqb (word s slot) 0) None (classes_fault s (0 + word s slot))) (fault_through (classes_fault s) s 0 (slot + 2) n) h in
    (record { sound = λ z. (part_sound (word s slot) (classes_sound s (word s slot)) None (rw (ne_eqb (word s slot) 0 z, zero-add (word s slot)) at q.0)).0 }, q.1)

null_sound : (s : List ℕ) → NullOrSound s 0
null_sound s = record { sound = λ z. absurd (z refl) }

-- so that the tables of a context without a fault are sound
pub tables_sound : (chained : Bool) (s : List ℕ) → fault (cond chained 2 1) s ≡ None → word s 0 ≡ 2 → SoundTables chained s
unfolding context_fault
tables_sound chained s h e = go chained (rw e at (part_sound 0 (inside s 0 2) (context_fault chained s) (sym (fault_context s chained) ∙ h)).1)
  where
    go : (c : Bool) → cond c (header_fault true 3 10 (set_fault (rule_fault c s) s) s) (header_fault true 1 6 (set_fault (rule_fault c s) s) s) ≡ None → SoundTables c s
    go false f =
        let a = class_sound s 4 0 (header_good s true 1 6 (set_fault (rule_fault false s) s) f).2 in
        record { back = null_sound s; input = a.0; ahead = null_sound s }
    go true f =
        let a = class_sound s 4 2 (header_good s true 3 10 (set_fault (rule_fault true s) s) f).2 in
        let b = class_sound s 6 1 a.1 in
        record { back = a.0; input = b.0; ahead = (class_sound s 8 0 b.1).0 }

-- The set of a glyph.

-- the ways through `set_of`
module _ (chained : Bool) (s : List ℕ) (g : ℕ) {at : ℕ} (e : at ≡ input_at chained s) where
  pub place_null : at ≡ 0 → (0 ≡ set_place chained s g) × (0 < 65536)
  unfolding set_place
  place_null z = (rw (← e, eq-eqb at 0 z), omega arith)

  module _ (z : at ≡ 0 → ⊥) {class count n : ℕ} (f : class ≡ class_in (table_at s at) g) (h : count ≡ count_at chained) (k : n ≡ word s count) where
    pub place_past : n ≤ class → (0 ≡ set_place chained s g) × (0 < 65536)
    unfolding set_place set_at
    place_past l = (rw (← e, ne_eqb at 0 z, ← f, ← h, ← k, le-leb n class l), omega arith)

    pub place_there : class < n → {r : ℕ} → (r ≡ word s (count + 2 + 2 * class)) × (r < 65536) → (r ≡ set_place chained s g) × (r < 65536)
    unfolding set_place set_at
    place_there l q = (rw (← e, ne_eqb at 0 z, ← f, ← h, ← k, lt-leb n class l) q.0, q.1)

-- the i-th of n sets
sets_at : (chained : Bool) (s : List ℕ) (slot n i : ℕ) → set_holds (get_or (reaches (rule_set chained s) s 0 slot n) i None) ≡ rules_at chained s (cond (leb n i) 0 (word s (slot + 2 * i)))
unfolding reach reaches set_holds rules_at
sets_at chained s slot zero i = rw (le-leb 0 i (omega arith))
sets_at chained s slot (suc n) zero =
    let e : slot + 2 * 0 ≡ slot = omega arith in
    rw (lt-leb (suc n) 0 (omega arith), e) (one (eqb (word s slot) 0))
  where
    one : (b : Bool) → set_holds (cond b None (Some (rule_set chained s (0 + word s slot)))) ≡ cond b [] (rule_set chained s (word s slot))
    one true = refl
    one false = rw (zero-add (word s slot))
sets_at chained s slot (suc n) (suc i) =
    let e : slot + 2 * suc i ≡ slot + 2 + 2 * i = omega arith in
    rw (e, leb_suc n i) (sets_at chained s (slot + 2) n i)
  where
    leb_suc : (m k : ℕ) → leb (suc m) (suc k) ≡ leb m k
    leb_suc m k = step (leb m k) refl
      where
        step : (b : Bool) → leb m k ≡ b → leb (suc m) (suc k) ≡ b
        step true q = le-leb (suc m) (suc k) (omega (arith, leb-true m k q))
        step false q = lt-leb (suc m) (suc k) (omega (arith, leb-false m k q))

-- what the set of a glyph's class holds stands at its place
pub class_set : (chained : Bool) (s : List ℕ) (g : ℕ)
    → set_holds (bind (table_at s (input_at chained s)) (λ t. get_or (reaches (rule_set chained s) s 0 (count_at chained + 2) (word s (count_at chained))) (class_of t g) None)) ≡ rules_at chained s (set_place chained s g)
unfolding bind set_holds set_place set_at rules_at class_in listed table_at
class_set chained s g = go (eqb (input_at chained s) 0)
  where
    go : (b : Bool) → set_holds (bind (cond b None (Some (classes s (input_at chained s)))) (λ t. get_or (reaches (rule_set chained s) s 0 (count_at chained + 2) (word s (count_at chained))) (class_of t g) None))
        ≡ rules_at chained s (cond b 0 (cond (leb (word s (count_at chained)) (class_of (listed (cond b None (Some (classes s (input_at chained s))))) g)) 0 (word s (count_at chained + 2 + 2 * class_of (listed (cond b None (Some (classes s (input_at chained s))))) g))))
    go true = refl
    go false = sets_at chained s (count_at chained + 2) (word s (count_at chained)) (class_of (classes s (input_at chained s)) g)
