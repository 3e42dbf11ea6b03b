-- How far the place of a fault lies. An offset is a word, so that what the header reaches starts at 65,535 at most, and what a set reaches twice as far.
use Prim.Native.Nat.{ℕ, zero, suc, ◌+◌, ◌*◌, ◌≤◌, ◌<◌}
use Rattle.std.specs.Prelude.{Bool, cond, ◌&&◌, List, get_or, leb, eqb, Option, None, Some, unwrap_or}
use Rattle.std.proofs.Math.Bool.{true, false}
use Rattle.std.proofs.Common.{arith}
use Rattle.meaning.specs.Words.{word, inside}
use Rattle.meaning.specs.Parts.{coverage_sound, classes_sound}
use Rattle.meaning.specs.Tables.{field_count}
use Rattle.meaning.specs.Fault.{lowest, part_fault, fault_through, coverage_fault, classes_fault, rule_sound, rule_fault, ligature_fault, set_fault, pair_set_fault, enough, header_fault, covers_fault, context_fault, pair_fault, single_fault, fault}
use Rattle.laws.specs.ReadsBack.{fault_is}

-- a place, where there is one, is not past twice the highest offset
record Near (o : Option ℕ) : Type 0 where
  most : unwrap_or o 0 ≤ 131070

near_none : Near None
near_none = record { most = omega arith }

near_lowest : (a b : Option ℕ) → Near a → Near b → Near (lowest a b)
unfolding lowest
near_lowest None b h k = k
near_lowest (Some p) None h k = h
near_lowest (Some p) (Some q) h k = step (leb p q)
  where
    step : (t : Bool) → Near (Some (cond t p q))
    step true = h
    step false = k

near_cond : (t : Bool) {a b : Option ℕ} → Near a → Near b → Near (cond t a b)
near_cond true h k = h
near_cond false h k = k

near_part : (at : ℕ) (sound : Bool) {reached : Option ℕ} → at ≤ 131070 → Near reached → Near (part_fault at sound reached)
unfolding part_fault
near_part at sound h k = near_cond sound k (record { most = h })

module _ (s : List ℕ) (bytes : (i : ℕ) → get_or s i 0 < 256) where
  small : (at : ℕ) → word s at < 65536
  unfolding word
  small at = omega (arith, bytes at, bytes (at + 1))

  near_through : (fault_at : ℕ → Option ℕ) (base slot n : ℕ) → ((p : ℕ) → p < base + 65536 → Near (fault_at p)) → Near (fault_through fault_at s base slot n)
  unfolding fault_through
  near_through fault_at base slot zero h = near_none
  near_through fault_at base slot (suc n) h =
      near_lowest _ _
      (near_cond (eqb (word s slot) 0) near_none (h (base + word s slot) (omega (arith, small slot))))
      (near_through fault_at base (slot + 2) n h)

  near_coverages : (slot n : ℕ) → Near (fault_through (coverage_fault s) s 0 slot n)
  unfolding coverage_fault
  near_coverages slot n = near_through (coverage_fault s) 0 slot n (λ p h. near_part p (coverage_sound s p) (omega arith) near_none)

  near_classes : (slot n : ℕ) → Near (fault_through (classes_fault s) s 0 slot n)
  unfolding classes_fault
  near_classes slot n = near_through (classes_fault s) 0 slot n (λ p h. near_part p (classes_sound s p) (omega arith) near_none)

  near_set : (fault_at : ℕ → Option ℕ) → ((p : ℕ) → p ≤ 131070 → Near (fault_at p)) → (at : ℕ) → at < 65536 → Near (set_fault fault_at s at)
  unfolding set_fault
  near_set fault_at f at h =
      near_part at (inside s at 2 && inside s (at + 2) (2 * word s at)) (omega arith) (near_through fault_at at (at + 2) (word s at) (λ p g. f p (omega arith)))

  near_header : (good : Bool) (k slot : ℕ) (fault_at : ℕ → Option ℕ) → ((p : ℕ) → p < 65536 → Near (fault_at p)) → Near (header_fault good k slot fault_at s)
  unfolding header_fault
  near_header good k slot fault_at f =
      near_part 0 (inside s 0 (slot + 2) && (inside s (slot + 2) (2 * word s slot) && good)) (omega arith)
      (near_lowest _ _ (near_coverages 2 1)
      (near_lowest _ _ (near_classes 4 k) (near_through fault_at 0 (slot + 2) (word s slot) (λ p h. f p (omega arith)))))

  near_rules : (chained : Bool) (p : ℕ) → p < 65536 → Near (set_fault (rule_fault chained s) s p)
  unfolding rule_fault
  near_rules chained = near_set (rule_fault chained s) (λ p h. near_part p (rule_sound chained s p) h near_none)

  near_covers : (chained : Bool) → Near (covers_fault chained s)
  unfolding covers_fault
  near_covers false = near_part 0 _ (omega arith) (near_coverages 6 (word s 2))
  near_covers true = near_part 0 _ (omega arith) (near_lowest _ _ (near_coverages 4 (word s 2)) (near_lowest _ _ (near_coverages _ _) (near_coverages _ _)))

  near_context : (chained : Bool) → Near (context_fault chained s)
  unfolding context_fault
  near_context chained =
      let sets = near_rules chained in
      near_cond (eqb (word s 0) 1) (near_header (enough s (word s 4)) 0 4 _ sets)
      (near_cond (eqb (word s 0) 2) (near_cond chained (near_header true 3 10 _ sets) (near_header true 1 6 _ sets)) (near_covers chained))

  near_pairs : Near (pair_fault s)
  unfolding pair_fault pair_set_fault
  near_pairs =
      near_cond (eqb (word s 0) 1)
      (near_header _ 0 8 (pair_set_fault (field_count (word s 4)) (field_count (word s 6)) s) (λ p h. near_part p _ (omega arith) near_none))
      (near_part 0 _ (omega arith) (near_lowest _ _ (near_coverages 2 1) (near_classes 8 2)))

  near_single : Near (single_fault s)
  unfolding single_fault
  near_single = near_part 0 _ (omega arith) (near_coverages 2 1)

  -- the place of a source's lowest fault, if it has one
  near_fault : (kind : ℕ) → Near (fault kind s)
  unfolding ligature_fault
  near_fault kind =
      rw (fault_is kind s)
      (near_part 0 (inside s 0 2) (omega arith)
      (near_cond (eqb kind 1) (near_context false)
      (near_cond (eqb kind 2) (near_context true)
      (near_cond (eqb kind 3)
      (near_header (enough s (word s 4)) 0 4 _ (near_set (ligature_fault s) (λ p h. near_part p _ h near_none)))
      (near_cond (eqb kind 4) near_pairs near_single)))))

  pub place_near : (kind : ℕ) → unwrap_or (fault kind s) 0 ≤ 131070
  place_near kind = (near_fault kind).most
