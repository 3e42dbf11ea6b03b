-- A list that is not refused can be asked.
use Prim.Native.Nat.{ℕ, zero, suc, ◌+◌, ◌-◌, ◌*◌, ◌/◌, ◌%◌, ◌≤◌, ◌<◌}
use mathlib.Core.Path.{◌≡◌, refl, sym, ◌∙◌}
use mathlib.Core.Bool.{Bool, true, false, cond, ◌&&◌, ◌||◌, not, true≢false}
use Rattle.std.specs.Prelude.{Option, None, Some}
use mathlib.Core.List.{List}
use native.Mathlib.Omega.{arith}
use lib.ListN.{length}
use lib.Dec.{leb, ltb, eqb}
use borrow.Author.Tests.{leb-true, le-leb, lt-leb, eqb-true, eq-eqb, ne_eqb, not-true, not-false}
use Rattle.meaning.specs.Words.{word, inside, every}
use Rattle.meaning.specs.Tables.{table}
use Rattle.meaning.specs.Fault.{fault}
use Rattle.meaning.specs.Records.{records_within}
use Rattle.meaning.specs.Subset.{limit, has_format}
use Rattle.meaning.specs.Job.{long, part_at}
use Rattle.laws.specs.Runs.{both}
use Rattle.replaying.specs.Listed.{or_else, Entry, entry_at, entries_from, listed, list_limit, good_entry, good_list, source_of, malformed, lookup_refusal, first_refusal}
use Rattle.lookup_list.specs.Ready.{source_at, Ready}

no : {A : Type 0} → ◌≡◌ {A = ℕ} 0 1 → A
no e = absurd (omega arith)

-- each entry of a list
entries_every : (test : Entry → Bool) (list : List ℕ) (at n k : ℕ) → every test (entries_from list at n) ≡ true → k < n → test (entry_at list (at + 10 * k)) ≡ true
unfolding every entries_from
entries_every test list at zero k h l = absurd (omega arith)
entries_every test list at (suc n) zero h l =
    let e : at + 10 * 0 ≡ at = omega arith in
    rw e (both (test (entry_at list at)) _ h).0
entries_every test list at (suc n) (suc k) h l =
    let e : at + 10 * suc k ≡ at + 10 + 10 * k = omega arith in
    rw e (entries_every test list (at + 10) n k (both (test (entry_at list at)) _ h).1 (omega arith))

neither : (p q : Option (ℕ × ℕ)) → or_else p q ≡ None → (p ≡ None) × (q ≡ None)
unfolding or_else
neither None q h = (refl, h)
neither (Some a) q h = no (cc)

entries_fine : (buffer list : List ℕ) (at n k : ℕ) → first_refusal buffer (entries_from list at n) ≡ None → k < n → lookup_refusal (entry_at list (at + 10 * k)).kind (source_of buffer (entry_at list (at + 10 * k))) ≡ None
unfolding first_refusal entries_from
entries_fine buffer list at zero k h l = absurd (omega arith)
entries_fine buffer list at (suc n) zero h l =
    let e : at + 10 * 0 ≡ at = omega arith in
    rw e (neither (lookup_refusal (entry_at list at).kind (source_of buffer (entry_at list at))) _ h).0
entries_fine buffer list at (suc n) (suc k) h l =
    let e : at + 10 * suc k ≡ at + 10 + 10 * k = omega arith in
    rw e (entries_fine buffer list (at + 10) n k (neither (lookup_refusal (entry_at list at).kind (source_of buffer (entry_at list at))) _ h).1 (omega arith))

-- a lookup that is not refused is sound
fine_sound : (kind : ℕ) (s : List ℕ) → lookup_refusal kind s ≡ None → fault kind s ≡ None
unfolding lookup_refusal malformed
fine_sound kind s h = go (ltb limit (length s)) (inside s 0 2 && not (has_format kind (word s 0))) (fault kind s) h
  where
    go : (x y : Bool) (o : Option ℕ) → cond x (Some (4, 0)) (cond y (Some (5, 0)) (or_else (malformed o) (cond (records_within (table kind s)) None (Some (12, 0))))) ≡ None → o ≡ None
    go true y o h = no (cc)
    go false true o h = no (cc)
    go false false None h = refl
    go false false (Some p) h = no (neither_some p (cond (records_within (table kind s)) None (Some (12, 0))) h)
      where
        neither_some : (p : ℕ) (q : Option (ℕ × ℕ)) → or_else (malformed (Some p)) q ≡ None → ◌≡◌ {A = ℕ} 0 1
        neither_some p q h = let z = (neither (malformed (Some p)) q h).0 in cc

-- a kind that may be listed
kind_known : (kind : ℕ) → eqb kind 1 || (eqb kind 2 || eqb kind 5) ≡ true → (kind ≡ 5 → ⊥) → (kind ≡ 2 → ⊥) → kind ≡ 1
kind_known kind h f g = go (eqb kind 1) refl h
  where
    go : (b : Bool) → eqb kind 1 ≡ b → b || (eqb kind 2 || eqb kind 5) ≡ true → kind ≡ 1
    go true e h = eqb-true kind 1 e
    go false e h = absurd (true≢false (sym h ∙ rw (ne_eqb kind 2 g, ne_eqb kind 5 f)))

module _ (list buffer : List ℕ) (h : good_list list buffer ≡ true) where
  entry_good : (k : ℕ) → k < length list / 10 → good_entry buffer (entry_at list (10 * k)) ≡ true
  unfolding good_list listed
  entry_good k l =
      let p = both (eqb (length list % 10) 0) _ h in
      let q = both (leb (length list / 10) list_limit) _ p.1 in
      let e : 0 + 10 * k ≡ 10 * k = omega arith in
      rw e at (entries_every (good_entry buffer) list 0 (length list / 10) k q.1 l)

  pub list_short : length list ≤ 160
  unfolding good_list list_limit
  list_short =
      let p = both (eqb (length list % 10) 0) _ h in
      let q = both (leb (length list / 10) 16) _ p.1 in
      let a : length list % 10 ≡ 0 = eqb-true (length list % 10) 0 p.0 in
      let b : length list / 10 ≤ 16 = leb-true (length list / 10) 16 q.0 in
      omega arith

  -- each part lies inside the buffer
  pub list_inside : (k : ℕ) → k < length list / 10 → long list (10 * k + 2) + long list (10 * k + 2 + 4) ≤ length buffer
  unfolding good_entry entry_at part_at
  list_inside k l = leb-true (long list (10 * k + 2) + long list (10 * k + 2 + 4)) (length buffer) (both (eqb (word list (10 * k)) 1 || (eqb (word list (10 * k)) 2 || eqb (word list (10 * k)) 5)) _ (entry_good k l)).1

  -- the same of a start and a length as they stand in the list
  pub part_inside : (k : ℕ) → k < length list / 10 → {start len : ℕ} → start ≡ long list (10 * k + 2) → len ≡ long list (10 * k + 6) → start + len ≤ length buffer
  part_inside k l e f =
      let d : 10 * k + 2 + 4 ≡ 10 * k + 6 = omega arith in
      let q = rw d at (list_inside k l) in
      omega (arith, e, f)

  -- `list_ready`: a good list whose lookups are not refused can be asked
  pub list_ready : first_refusal buffer (listed list) ≡ None → Ready list buffer
  unfolding listed good_entry entry_at part_at source_of source_at
  list_ready f = record {
    short = list_short;
    inside = list_inside;
    lookup = λ k l. record {
      known = kind_known (word list (10 * k)) (both (eqb (word list (10 * k)) 1 || (eqb (word list (10 * k)) 2 || eqb (word list (10 * k)) 5)) _ (entry_good k l)).0;
      sound = fine_sound (word list (10 * k)) (source_at list buffer k) (fine k l);
    };
  }
    where
      fine : (k : ℕ) → k < length list / 10 → lookup_refusal (word list (10 * k)) (source_at list buffer k) ≡ None
      fine k l =
          let e : 0 + 10 * k ≡ 10 * k = omega arith in
          rw e at (entries_fine buffer list 0 (length list / 10) k f l)

-- The kind of an entry, by its ways.
pub kind_one : {kind : ℕ} → kind ≡ 1 → true ≡ eqb kind 1 || (eqb kind 2 || eqb kind 5)
kind_one e = rw e

pub kind_chained : {kind : ℕ} → (kind ≡ 1 → ⊥) → kind ≡ 2 → true ≡ eqb kind 1 || (eqb kind 2 || eqb kind 5)
kind_chained h e = rw e

pub kind_last : (kind : ℕ) → (kind ≡ 1 → ⊥) → (kind ≡ 2 → ⊥) → eqb kind 5 ≡ eqb kind 1 || (eqb kind 2 || eqb kind 5)
kind_last kind h k = rw (ne_eqb kind 1 h, ne_eqb kind 2 k)

-- An entry: another kind, and where its part ends.
module _ (list buffer : List ℕ) (at : ℕ) {kind : ℕ} {b : Bool} (e : kind ≡ word list at) (f : b ≡ eqb kind 1 || (eqb kind 2 || eqb kind 5)) where
  pub entry_other : not b ≡ true → false ≡ good_entry buffer (entry_at list at)
  unfolding good_entry entry_at
  entry_other z = rw (← e, ← f, not-true b z)

  pub entry_ends : not b ≡ false → {start len : ℕ} → start ≡ long list (at + 2) → len ≡ long list (at + 6) → leb (start + len) (length buffer) ≡ good_entry buffer (entry_at list at)
  unfolding good_entry entry_at part_at
  entry_ends z p q =
      let d : at + 2 + 4 ≡ at + 6 = omega arith in
      rw (← e, ← f, not-false b z, d, p, q)

-- A list: one that has no whole entries, one that has too many, and the entries that are left.
module _ (list buffer : List ℕ) where
  pub list_ragged : (length list % 10 ≡ 0 → ⊥) → false ≡ good_list list buffer
  unfolding good_list
  list_ragged z = rw (ne_eqb (length list % 10) 0 z)

  pub list_long : length list % 10 ≡ 0 → 16 < length list / 10 → false ≡ good_list list buffer
  unfolding good_list list_limit
  list_long z l = rw (eq-eqb (length list % 10) 0 z, lt-leb (length list / 10) 16 l)

  pub record Listing (many k : ℕ) : Type 0 where
    pub within : k ≤ many
    pub few : many ≤ 16
    pub left : every (good_entry buffer) (entries_from list (10 * k) (many - k)) ≡ good_list list buffer

  pub listing_all : length list % 10 ≡ 0 → length list / 10 ≤ 16 → Listing (length list / 10) 0
  unfolding good_list list_limit listed
  listing_all z l =
      let d : length list / 10 - 0 ≡ length list / 10 = omega arith in
      record { within = omega arith; few = l; left = rw (eq-eqb (length list % 10) 0 z, le-leb (length list / 10) 16 l, d) }

  module _ {many k : ℕ} (c : Listing many k) (h : k < many) {b : Bool} (e : b ≡ good_entry buffer (entry_at list (10 * k))) where
    turn : b && every (good_entry buffer) (entries_from list (10 * (k + 1)) (many - (k + 1))) ≡ good_list list buffer
    unfolding every entries_from
    turn =
        let a : many - k ≡ suc (many - (k + 1)) = omega arith in
        let d : 10 * (k + 1) ≡ 10 * k + 10 = omega arith in
        rw (e, d) (rw a at c.left)

    pub listing_bad : not b ≡ true → false ≡ good_list list buffer
    listing_bad z = rw (not-true b z) at turn

    pub listing_turn : not b ≡ false → Listing many (k + 1)
    listing_turn z = record { within = omega arith; few = c.few; left = rw (not-false b z) at turn }

  pub listing_end : {many k : ℕ} → Listing many k → many ≤ k → true ≡ good_list list buffer
  unfolding every entries_from
  listing_end {many} {k} c h =
      let a : many - k ≡ 0 = omega arith in
      rw a at c.left
