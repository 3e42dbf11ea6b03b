-- `fault` gives the lowest start among the faulty parts of Places.antt, and none exactly if all are sound; so answer 6 is given where a part is faulty, with that place.
use Prim.Native.Nat.{ℕ, zero, suc, ◌+◌, ◌-◌, ◌*◌, ◌/◌, ◌≤◌, ◌<◌}
use Rattle.std.specs.Prelude.{◌≡◌, Bool, cond, ◌&&◌, ◌||◌, take, drop, eqb, Option, None, Some}
use Rattle.std.proofs.Math.Path.{refl, sym, ap}
use Rattle.std.proofs.Common.{◌∙◌, subst}
use Rattle.std.proofs.Math.Bool.{true, false, not, true≢false}
use mathlib.Core.List.{List, [], ◌∷◌, ◌++◌, append_assoc}
use Rattle.std.proofs.Math.Logic.{inl, inr}
use native.Mathlib.Omega.{arith}
use Rattle.std.proofs.Math.ListN.{length}
use Rattle.std.proofs.Math.Dec.{leb, ltb}
use borrow.Author.Tests.{le-leb, leb-true, leb-false, lt-ltb, le-ltb}
use Rattle.meaning.specs.Words.{word, words, inside, every, values, map_some, push, is_some}
use Rattle.meaning.specs.Parts.{coverage, coverage_sound, classes, classes_sound, class_of}
use Rattle.meaning.specs.Tables.{field_count}
use Rattle.meaning.specs.Fault.{lowest, part_fault, fault_through, coverage_fault, classes_fault, rule_sound, rule_fault, ligature_fault, set_fault, pair_set_fault, enough, equal_count, header_fault, covers_fault, context_fault, first_below, second_below, classes_below, good_formats, pair_fault, single_fault, fault}
use Rattle.laws.specs.Stands.{all_map, all_append}
use Rattle.laws.specs.FaultsLeft.{lowest_none}
use Rattle.laws.specs.ReadsBack.{fault_is}
use Rattle.promises.specs.Strings.{All}
use Rattle.promises.specs.Numbers.{and_left}
use Rattle.promises.specs.Survives.{some_of}
use Rattle.promises.specs.Refusals.{Call, answer, refusals, NoneOf, given_exactly, malformed_place}
use Rattle.promises.specs.Places.{Sort, Part, context_header, pair_header, single_header, header_of, offsets_of, targets, reached_by, reached_from, each_of, with_reached, parts, ends_by, rule_end, at_odds, other_count, first_past, second_past, class_past, low_bits, sound, Sound, Faulty, Any, Lowest}

any_left : {A : Type 0} (P : A → Type 0) (xs ys : List A) → Any P xs → Any P (xs ++ ys)
any_left P [] ys h = absurd h
any_left P (x ∷ xs) ys (inl h) = inl h
any_left P (x ∷ xs) ys (inr h) = inr (any_left P xs ys h)

any_right : {A : Type 0} (P : A → Type 0) (xs ys : List A) → Any P ys → Any P (xs ++ ys)
any_right P [] ys h = h
any_right P (x ∷ xs) ys h = inr (any_right P xs ys h)

-- a test that follows from the next one says nothing besides it
implied : (a b : Bool) → (b ≡ true → a ≡ true) → a && b ≡ b
implied a true h = rw (h refl)
implied true false h = refl
implied false false h = refl

and_true : (b : Bool) → b && true ≡ b
and_true true = refl
and_true false = refl

-- faults of one place
one_place : (at : ℕ) (a b : Bool) (r : Option ℕ) → part_fault at a (part_fault at b r) ≡ part_fault at (a && b) r
unfolding part_fault
one_place at true b r = refl
one_place at false b r = refl

each_append : (f : Part → List Part) (xs ys : List Part) → each_of f (xs ++ ys) ≡ each_of f xs ++ each_of f ys
unfolding each_of
each_append f [] ys = refl
each_append f (x ∷ xs) ys = ap (λ (l : List Part). f x ++ l) (each_append f xs ys) ∙ sym (append_assoc (f x) (each_of f xs) (each_of f ys))

module _ (s : List ℕ) where
  -- what is answered of a list of parts: the lowest start among the faulty ones, none if all are sound
  abbrev pub Least : List Part → Option ℕ → Type 0
  Least ps None = All (Sound s) ps
  Least ps (Some place) = Lowest s ps place

  -- of parts none of which is faulty, or none below a higher place
  sound_lower : (place : ℕ) (ps : List Part) → All (Sound s) ps → All (λ p. p.start < place → Sound s p) ps
  sound_lower place ps h = all_map (Sound s) (λ p. p.start < place → Sound s p) (λ p k l. k) ps h

  still_lower : (low high : ℕ) → low ≤ high → (ps : List Part) → All (λ p. p.start < high → Sound s p) ps → All (λ p. p.start < low → Sound s p) ps
  still_lower low high e ps h = all_map (λ p. p.start < high → Sound s p) (λ p. p.start < low → Sound s p) (λ p k l. k (omega arith)) ps h

  -- two lists: the lower of the two places
  least_append : (ps qs : List Part) (a b : Option ℕ) → Least ps a → Least qs b → Least (ps ++ qs) (lowest a b)
  unfolding lowest
  least_append ps qs None None h k = all_append (Sound s) ps qs h k
  least_append ps qs None (Some q) h k =
      record {
        there = any_right (λ p. (p.start ≡ q) × Faulty s p) ps qs k.there;
        none_lower = all_append (λ p. p.start < q → Sound s p) ps qs (sound_lower q ps h) k.none_lower;
      }
  least_append ps qs (Some p) None h k =
      record {
        there = any_left (λ x. (x.start ≡ p) × Faulty s x) ps qs h.there;
        none_lower = all_append (λ x. x.start < p → Sound s x) ps qs h.none_lower (sound_lower p qs k);
      }
  least_append ps qs (Some p) (Some q) h k = step (leb p q) refl
    where
      step : (t : Bool) → leb p q ≡ t → Lowest s (ps ++ qs) (cond t p q)
      step true e =
          record {
            there = any_left (λ x. (x.start ≡ p) × Faulty s x) ps qs h.there;
            none_lower = all_append (λ x. x.start < p → Sound s x) ps qs h.none_lower (still_lower p q (leb-true p q e) qs k.none_lower);
          }
      step false e =
          let l : q ≤ p = omega (arith, leb-false p q e) in
          record {
            there = any_right (λ x. (x.start ≡ q) × Faulty s x) ps qs k.there;
            none_lower = all_append (λ x. x.start < q → Sound s x) ps qs (still_lower q p l ps h.none_lower) k.none_lower;
          }

  -- a part before parts that do not start lower
  least_part : (p : Part) (rs : List Part) (r : Option ℕ) → All (λ q. p.start ≤ q.start) rs → Least rs r → Least (p ∷ rs) (part_fault p.start (sound s p.sort p.start) r)
  unfolding part_fault
  least_part p rs r later h = step (sound s p.sort p.start) refl r h
    where
      step : (t : Bool) → sound s p.sort p.start ≡ t → (r : Option ℕ) → Least rs r → Least (p ∷ rs) (cond t r (Some p.start))
      step true e None h = (e, h)
      step true e (Some q) h = record { there = inr h.there; none_lower = (λ l. e, h.none_lower) }
      step false e r h =
          record {
            there = inl (refl, e);
            none_lower = (λ l. absurd (omega arith), all_map (λ q. p.start ≤ q.start) (λ q. q.start < p.start → Sound s q) (λ q g l. absurd (omega arith)) rs later);
          }

  -- what a part reaches does not start lower than the part
  targets_later : (to : Sort) (at : ℕ) (ws : List ℕ) → All (λ q. at ≤ q.start) (targets to at ws)
  unfolding targets map_some push
  targets_later to at [] = tt
  targets_later to at (w ∷ ws) = step (eqb w 0) (targets_later to at ws)
    where
      step : (t : Bool) → All (λ q. at ≤ q.start) (targets to at ws) → All (λ q. at ≤ q.start) (push (cond t None (Some (record { sort = to; start = at + w }))) (targets to at ws))
      step true h = h
      step false h = (omega arith, h)

  rows_later : (at : ℕ) (rows : List (Sort × ℕ × ℕ)) → All (λ q. at ≤ q.start) (reached_by s at rows)
  unfolding reached_by
  rows_later at [] = tt
  rows_later at (row ∷ rows) =
      all_append (λ q. at ≤ q.start) (targets row.0 at (words s row.1 row.2)) (reached_by s at rows) (targets_later row.0 at (words s row.1 row.2)) (rows_later at rows)

  each_later : (at : ℕ) (f : Part → List Part) → ((p : Part) → at ≤ p.start → All (λ q. at ≤ q.start) (f p)) → (ps : List Part) → All (λ q. at ≤ q.start) ps → All (λ q. at ≤ q.start) (each_of f ps)
  unfolding each_of
  each_later at f k [] h = tt
  each_later at f k (p ∷ ps) h = all_append (λ q. at ≤ q.start) (f p) (each_of f ps) (k p h.0) (each_later at f k ps h.1)

  reached_later : (at : ℕ) (f : Part → List Part) → ((p : Part) → at ≤ p.start → All (λ q. at ≤ q.start) (f p)) → (p : Part) → at ≤ p.start → All (λ q. at ≤ q.start) (each_of f (reached_from s p))
  unfolding reached_from
  reached_later at f k p h =
      each_later at f k (reached_from s p) (all_map (λ q. p.start ≤ q.start) (λ q. at ≤ q.start) (λ q l. omega arith) (reached_from s p) (rows_later p.start (offsets_of s p.sort p.start)))

  with_reached_later : (n at : ℕ) (p : Part) → at ≤ p.start → All (λ q. at ≤ q.start) (with_reached n s p)
  unfolding with_reached
  with_reached_later zero at p h = (h, tt)
  with_reached_later (suc n) at p h = (h, reached_later at (with_reached n s) (with_reached_later n at) p h)

  -- a part with all that it reaches
  least_reached : (n : ℕ) (p : Part) (r : Option ℕ) → Least (each_of (with_reached n s) (reached_from s p)) r → Least (with_reached (suc n) s p) (part_fault p.start (sound s p.sort p.start) r)
  unfolding with_reached
  least_reached n p r h = least_part p (each_of (with_reached n s) (reached_from s p)) r (reached_later p.start (with_reached n s) (with_reached_later n p.start) p (omega arith)) h

  -- the parts that a row of offsets reaches
  least_through : (f : Part → List Part) (to : Sort) (fault_at : ℕ → Option ℕ) → ((at : ℕ) → Least (f (record { sort = to; start = at })) (fault_at at))
      → (base slot n : ℕ) → Least (each_of f (targets to base (words s slot n))) (fault_through fault_at s base slot n)
  unfolding each_of targets map_some push words fault_through lowest
  least_through f to fault_at k base slot zero = tt
  least_through f to fault_at k base slot (suc n) = step (eqb (word s slot) 0) (least_through f to fault_at k base (slot + 2) n)
    where
      to_one : Part
      to_one = record { sort = to; start = base + word s slot }

      rest : List Part
      rest = targets to base (words s (slot + 2) n)

      step : (t : Bool) → Least (each_of f rest) (fault_through fault_at s base (slot + 2) n)
          → Least (each_of f (push (cond t None (Some to_one)) rest)) (lowest (cond t None (fault_at (base + word s slot))) (fault_through fault_at s base (slot + 2) n))
      step true h = h
      step false h = least_append (f to_one) (each_of f rest) (fault_at (base + word s slot)) (fault_through fault_at s base (slot + 2) n) (k (base + word s slot)) h

  -- rows of offsets, one before others
  least_row : (f : Part → List Part) (at : ℕ) (row : Sort × ℕ × ℕ) (rows : List (Sort × ℕ × ℕ)) (a b : Option ℕ)
      → Least (each_of f (targets row.0 at (words s row.1 row.2))) a → Least (each_of f (reached_by s at rows)) b → Least (each_of f (reached_by s at (row ∷ rows))) (lowest a b)
  unfolding reached_by
  least_row f at row rows a b h k =
      let xs = targets row.0 at (words s row.1 row.2) in
      rw (each_append f xs (reached_by s at rows)) (least_append (each_of f xs) (each_of f (reached_by s at rows)) a b h k)

  least_one_row : (f : Part → List Part) (at : ℕ) (row : Sort × ℕ × ℕ) (a : Option ℕ)
      → Least (each_of f (targets row.0 at (words s row.1 row.2))) a → Least (each_of f (reached_by s at (row ∷ []))) a
  unfolding reached_by each_of
  least_one_row f at row a h = rw (lowest_none a) at (least_row f at row [] a None h tt)

  -- Each sort of part: what `fault` asks of it is its soundness.

  abbrev part : Sort → ℕ → Part
  part to at = record { sort = to; start = at }

  -- a part that has no offsets
  leaf : (n : ℕ) (to : Sort) (at : ℕ) (t : Bool) → offsets_of s to at ≡ [] → t ≡ sound s to at → Least (with_reached n s (part to at)) (part_fault at t None)
  unfolding with_reached reached_from reached_by each_of
  leaf zero to at t e h = rw h (least_part (part to at) [] None tt tt)
  leaf (suc n) to at t e h = rw h (least_reached n (part to at) None (rw e tt))

  -- a field is inside if the part that it is in ends by the source's end
  field_inside : (at n end : ℕ) → at + n ≤ end → ends_by s end ≡ true → inside s at n ≡ true
  unfolding inside ends_by
  field_inside at n end l h = le-leb (at + n) (length s) (omega (arith, leb-true end (length s) h))

  also : (at n end : ℕ) → at + n ≤ end → inside s at n && ends_by s end ≡ ends_by s end
  also at n end l = implied (inside s at n) (ends_by s end) (field_inside at n end l)

  also_good : (at n end : ℕ) (good : Bool) → at + n ≤ end → inside s at n && (ends_by s end && good) ≡ ends_by s end && good
  also_good at n end good l = implied (inside s at n) (ends_by s end && good) (λ h. field_inside at n end l (and_left (ends_by s end) good h))

  coverage_least : (n at : ℕ) → Least (with_reached n s (part Sort.coverage_table at)) (coverage_fault s at)
  unfolding coverage_fault offsets_of sound
  coverage_least n at = leaf n Sort.coverage_table at (coverage_sound s at) refl refl

  classes_least : (n at : ℕ) → Least (with_reached n s (part Sort.class_table at)) (classes_fault s at)
  unfolding classes_fault offsets_of sound
  classes_least n at = leaf n Sort.class_table at (classes_sound s at) refl refl

  -- the counts of a chained rule or of a chained header of format 3, each before its array
  counts_inside : (at n i a r end : ℕ) → at + n ≤ end → i + 2 ≤ end → a + 2 ≤ end → r + 2 ≤ end
      → inside s at n && (inside s i 2 && (inside s a 2 && (inside s r 2 && ends_by s end))) ≡ ends_by s end
  counts_inside at n i a r end l li la lr = rw (also r 2 end lr, also a 2 end la, also i 2 end li, also at n end l)

  rule_sound_lem : (chained : Bool) (at : ℕ) → rule_sound chained s at ≡ sound s (Sort.rule chained) at
  unfolding rule_sound inside sound
  rule_sound_lem false at = also at 4 (rule_end false s at) (omega arith)
  rule_sound_lem true at =
      let i = at + 2 + 2 * word s at in
      let a = i + 2 + 2 * (word s i - 1) in
      let r = a + 2 + 2 * word s a in
      counts_inside at 2 i a r (r + 2 + 4 * word s r) (omega arith) (omega arith) (omega arith) (omega arith)

  rule_least : (chained : Bool) (n at : ℕ) → Least (with_reached n s (part (Sort.rule chained) at)) (rule_fault chained s at)
  unfolding rule_fault offsets_of
  rule_least chained n at = leaf n (Sort.rule chained) at (rule_sound chained s at) refl (rule_sound_lem chained at)

  ligature_least : (n at : ℕ) → Least (with_reached n s (part Sort.ligature at)) (ligature_fault s at)
  unfolding ligature_fault offsets_of inside sound
  ligature_least n at = leaf n Sort.ligature at (inside s at 4 && inside s (at + 4) (2 * (word s (at + 2) - 1))) refl (also at 4 (at + 4 + 2 * (word s (at + 2) - 1)) (omega arith))

  set_least : (to member : Sort) (fault_at : ℕ → Option ℕ) (at : ℕ) → offsets_of s to at ≡ (member, at + 2, word s at) ∷ [] → sound s to at ≡ ends_by s (at + 2 + 2 * word s at)
      → ((at : ℕ) → Least (with_reached 0 s (part member at)) (fault_at at)) → Least (with_reached 1 s (part to at)) (set_fault fault_at s at)
  unfolding set_fault inside ends_by reached_from
  set_least to member fault_at at e t k =
      let row = least_one_row (with_reached 0 s) at (member, at + 2, word s at) (fault_through fault_at s at (at + 2) (word s at)) (least_through (with_reached 0 s) member fault_at k at (at + 2) (word s at)) in
      rw (also at 2 (at + 2 + 2 * word s at) (omega arith), ← t) (least_reached 0 (part to at) (fault_through fault_at s at (at + 2) (word s at)) (rw e row))

  rules_least : (chained : Bool) (at : ℕ) → Least (with_reached 1 s (part (Sort.rule_set chained) at)) (set_fault (rule_fault chained s) s at)
  unfolding offsets_of sound
  rules_least chained at = set_least (Sort.rule_set chained) (Sort.rule chained) (rule_fault chained s) at refl refl (rule_least chained 0)

  ligatures_least : (at : ℕ) → Least (with_reached 1 s (part Sort.ligature_set at)) (set_fault (ligature_fault s) s at)
  unfolding offsets_of sound
  ligatures_least at = set_least Sort.ligature_set Sort.ligature (ligature_fault s) at refl refl (ligature_least 0)

  pairs_least : (a b n at : ℕ) → Least (with_reached n s (part (Sort.pair_set_sort a b) at)) (pair_set_fault a b s at)
  unfolding pair_set_fault offsets_of inside sound
  pairs_least a b n at = leaf n (Sort.pair_set_sort a b) at _ refl (also_good at 2 (at + 2 + (2 + 2 * a + 2 * b) * word s at) _ (omega arith))

  -- Headers.

  -- enough sets: not at odds with a sound coverage
  enough_is : (n : ℕ) → enough s n ≡ not (at_odds s n)
  unfolding enough at_odds
  enough_is n = step (eqb (word s 2) 0) (coverage_sound s (word s 2)) (leb m n) refl
    where
      m : ℕ
      m = length (coverage s (word s 2))

      step : (a b t : Bool) → leb m n ≡ t → a || (not b || leb m n) ≡ not (not a && (b && ltb n m))
      step true b t e = refl
      step false false t e = refl
      step false true true e = rw (e, le-ltb n m (leb-true m n e))
      step false true false e = rw (e, lt-ltb n m (leb-false m n e))

  -- a header that ends with a count and as many offsets to sets
  header_least : (to : Sort) (good : Bool) (k slot : ℕ) (fault_at : ℕ → Option ℕ) → sound s to 0 ≡ ends_by s (slot + 2 + 2 * word s slot) && good
      → Least (each_of (with_reached 1 s) (reached_from s (part to 0)))
      (lowest (fault_through (coverage_fault s) s 0 2 1) (lowest (fault_through (classes_fault s) s 0 4 k) (fault_through fault_at s 0 (slot + 2) (word s slot))))
      → Least (with_reached 2 s (part to 0)) (part_fault 0 (inside s 0 2) (header_fault good k slot fault_at s))
  unfolding header_fault inside ends_by
  header_least to good k slot fault_at t h =
      let end = slot + 2 + 2 * word s slot in
      let reached = lowest (fault_through (coverage_fault s) s 0 2 1) (lowest (fault_through (classes_fault s) s 0 4 k) (fault_through fault_at s 0 (slot + 2) (word s slot))) in
      rw (one_place 0 (inside s 0 2) (inside s 0 (slot + 2) && (ends_by s end && good)) reached, also_good 0 (slot + 2) end good (omega arith), also_good 0 2 end good (omega arith), ← t)
      (least_reached 1 (part to 0) reached h)

  -- the sets' row, after a coverage's offset and k class tables'
  sets_row : (member : Sort) (fault_at : ℕ → Option ℕ) (slot n : ℕ) → ((at : ℕ) → Least (with_reached 1 s (part member at)) (fault_at at))
      → Least (each_of (with_reached 1 s) (reached_by s 0 ((member, slot, n) ∷ []))) (fault_through fault_at s 0 slot n)
  sets_row member fault_at slot n k = least_one_row (with_reached 1 s) 0 (member, slot, n) (fault_through fault_at s 0 slot n) (least_through (with_reached 1 s) member fault_at k 0 slot n)

  before_rows : (to : Sort) (fault_at : ℕ → Option ℕ) (slot n : ℕ) (rows : List (Sort × ℕ × ℕ)) (b : Option ℕ) → ((at : ℕ) → Least (with_reached 1 s (part to at)) (fault_at at))
      → Least (each_of (with_reached 1 s) (reached_by s 0 rows)) b → Least (each_of (with_reached 1 s) (reached_by s 0 ((to, slot, n) ∷ rows))) (lowest (fault_through fault_at s 0 slot n) b)
  before_rows to fault_at slot n rows b k h = least_row (with_reached 1 s) 0 (to, slot, n) rows (fault_through fault_at s 0 slot n) b (least_through (with_reached 1 s) to fault_at k 0 slot n) h

  no_class_tables : (x : Option ℕ) → lowest (fault_through (classes_fault s) s 0 4 0) x ≡ x
  unfolding lowest fault_through
  no_class_tables x = refl

  -- format 1 of each kind: no class tables
  by_index_lem : (to member : Sort) (good : Bool) (slot : ℕ) (fault_at : ℕ → Option ℕ) → sound s to 0 ≡ ends_by s (slot + 2 + 2 * word s slot) && good
      → offsets_of s to 0 ≡ (Sort.coverage_table, 2, 1) ∷ (member, slot + 2, word s slot) ∷ [] → ((at : ℕ) → Least (with_reached 1 s (part member at)) (fault_at at))
      → Least (with_reached 2 s (part to 0)) (part_fault 0 (inside s 0 2) (header_fault good 0 slot fault_at s))
  unfolding reached_from
  by_index_lem to member good slot fault_at t e k =
      let sets = fault_through fault_at s 0 (slot + 2) (word s slot) in
      let rows = before_rows Sort.coverage_table (coverage_fault s) 2 1 ((member, slot + 2, word s slot) ∷ []) sets (coverage_least 1) (sets_row member fault_at (slot + 2) (word s slot) k) in
      header_least to good 0 slot fault_at t (rw (no_class_tables sets, e) rows)

  -- format 2 of contexts: k class tables
  by_class : (to member : Sort) (k slot : ℕ) (fault_at : ℕ → Option ℕ) → sound s to 0 ≡ ends_by s (slot + 2 + 2 * word s slot)
      → offsets_of s to 0 ≡ (Sort.coverage_table, 2, 1) ∷ (Sort.class_table, 4, k) ∷ (member, slot + 2, word s slot) ∷ [] → ((at : ℕ) → Least (with_reached 1 s (part member at)) (fault_at at))
      → Least (with_reached 2 s (part to 0)) (part_fault 0 (inside s 0 2) (header_fault true k slot fault_at s))
  unfolding reached_from
  by_class to member k slot fault_at t e h =
      let sets = fault_through fault_at s 0 (slot + 2) (word s slot) in
      let tables = before_rows Sort.class_table (classes_fault s) 4 k ((member, slot + 2, word s slot) ∷ []) sets (classes_least 1) (sets_row member fault_at (slot + 2) (word s slot) h) in
      let rows = before_rows Sort.coverage_table (coverage_fault s) 2 1 ((Sort.class_table, 4, k) ∷ (member, slot + 2, word s slot) ∷ []) (lowest (fault_through (classes_fault s) s 0 4 k) sets) (coverage_least 1) tables in
      header_least to true k slot fault_at (t ∙ sym (and_true (ends_by s (slot + 2 + 2 * word s slot)))) (rw e rows)

  -- format 3
  covers_least : (chained : Bool) → Least (with_reached 2 s (part (Sort.cover_header chained) 0)) (part_fault 0 (inside s 0 2) (covers_fault chained s))
  unfolding covers_fault inside sound offsets_of reached_from
  covers_least false =
      let end = 6 + (2 * word s 2 + 4 * word s 4) in
      let reached = fault_through (coverage_fault s) s 0 6 (word s 2) in
      rw (one_place 0 (inside s 0 2) (inside s 0 6 && ends_by s end) reached, also 0 6 end (omega arith), also 0 2 end (omega arith))
      (least_reached 1 (part (Sort.cover_header false) 0) reached (sets_row Sort.coverage_table (coverage_fault s) 6 (word s 2) (coverage_least 1)))
  covers_least true =
      let i = 4 + 2 * word s 2 in
      let a = i + 2 + 2 * word s i in
      let r = a + 2 + 2 * word s a in
      let end = r + 2 + 4 * word s r in
      let behind = fault_through (coverage_fault s) s 0 4 (word s 2) in
      let input = fault_through (coverage_fault s) s 0 (i + 2) (word s i) in
      let ahead = fault_through (coverage_fault s) s 0 (a + 2) (word s a) in
      let third = sets_row Sort.coverage_table (coverage_fault s) (a + 2) (word s a) (coverage_least 1) in
      let second = before_rows Sort.coverage_table (coverage_fault s) (i + 2) (word s i) ((Sort.coverage_table, a + 2, word s a) ∷ []) ahead (coverage_least 1) third in
      let first = before_rows Sort.coverage_table (coverage_fault s) 4 (word s 2) ((Sort.coverage_table, i + 2, word s i) ∷ (Sort.coverage_table, a + 2, word s a) ∷ []) (lowest input ahead) (coverage_least 1) second in
      let fields = counts_inside 0 4 i a r end (omega arith) (omega arith) (omega arith) (omega arith) in
      rw (one_place 0 (inside s 0 2) (inside s 0 4 && (inside s i 2 && (inside s a 2 && (inside s r 2 && ends_by s end)))) (lowest behind (lowest input ahead)), fields, also 0 2 end (omega arith))
      (least_reached 1 (part (Sort.cover_header true) 0) (lowest behind (lowest input ahead)) first)

  -- a header with what is answered of all that it reaches
  abbrev Header : Sort → Option ℕ → Type 0
  Header to o = Least (with_reached 2 s (part to 0)) (part_fault 0 (inside s 0 2) o)

  either : (t : Bool) (to other : Sort) (a b : Option ℕ) → Header to a → Header other b → Header (cond t to other) (cond t a b)
  either true to other a b h k = h
  either false to other a b h k = k

  context_least : (chained : Bool) → Header (context_header chained s) (context_fault chained s)
  unfolding context_header context_fault sound offsets_of
  context_least chained =
      either (eqb (word s 0) 1) (Sort.glyph_header chained) _ _ _ (by_index_lem (Sort.glyph_header chained) (Sort.rule_set chained) (enough s (word s 4)) 4 (set_fault (rule_fault chained s) s) (rw (enough_is (word s 4))) refl (rules_least chained))
      (either (eqb (word s 0) 2) (Sort.class_header chained) (Sort.cover_header chained) _ (covers_fault chained s) (classed chained) (covers_least chained))
    where
      classed : (chained : Bool) → Header (Sort.class_header chained) (cond chained (header_fault true 3 10 (set_fault (rule_fault chained s) s) s) (header_fault true 1 6 (set_fault (rule_fault chained s) s) s))
      classed false = by_class (Sort.class_header false) (Sort.rule_set false) 1 6 (set_fault (rule_fault false s) s) refl refl (rules_least false)
      classed true = by_class (Sort.class_header true) (Sort.rule_set true) 3 10 (set_fault (rule_fault true s) s) refl refl (rules_least true)

  -- pairs by class: classes below their counts, as a test of each and as none that is past
  below_is : {A : Type 0} (f : A → ℕ) (n : ℕ) (l : List A) → every (λ a. ltb (f a) n) l ≡ not (some_of (λ a. leb n (f a)) l)
  unfolding every some_of
  below_is f n [] = refl
  below_is f n (a ∷ l) = step (leb n (f a)) refl (below_is f n l)
    where
      step : (t : Bool) → leb n (f a) ≡ t → every (λ a. ltb (f a) n) l ≡ not (some_of (λ a. leb n (f a)) l) → ltb (f a) n && every (λ a. ltb (f a) n) l ≡ not (t || some_of (λ a. leb n (f a)) l)
      step true e h = rw (le-ltb (f a) n (leb-true n (f a) e))
      step false e h = rw (lt-ltb (f a) n (leb-false n (f a) e)) h

  -- classes as a column
  values_below : (n : ℕ) (cs : List (ℕ × ℕ)) → every (λ e. ltb e.1 n) cs ≡ every (λ c. ltb c n) (values cs)
  unfolding every values
  values_below n [] = refl
  values_below n (e ∷ cs) = ap (λ (t : Bool). ltb e.1 n && t) (values_below n cs)

  second_is : (n : ℕ) (cs : List (ℕ × ℕ)) → ltb 0 n && every (λ e. ltb e.1 n) cs ≡ not (some_of (λ c. leb n c) (0 ∷ values cs))
  unfolding every
  second_is n cs = ap (λ (t : Bool). ltb 0 n && t) (values_below n cs) ∙ below_is (λ c. c) n (0 ∷ values cs)

  classes_are : classes_below s ≡ not (class_past s)
  unfolding classes_below first_below second_below class_past first_past second_past
  classes_are =
      rw (below_is (λ g. class_of (classes s (word s 8)) g) (word s 12) (coverage s (word s 2)), second_is (word s 14) (classes s (word s 10)))
      (step (eqb (word s 8) 0) (eqb (word s 10) 0) (eqb (word s 2) 0) (coverage_sound s (word s 2)) (classes_sound s (word s 8)) _ (classes_sound s (word s 10)) _)
    where
      -- a class that is not past its count, judged where its table is sound
      judged : (f y : Bool) → not f || not y ≡ not (f && y)
      judged true y = refl
      judged false y = refl

      step : (a b c d e x f y : Bool) → a || (b || ((c || (not d || (not e || not x))) && (not f || not y))) ≡ not (not a && (not b && ((not c && (d && (e && x))) || (f && y))))
      step true b c d e x f y = refl
      step false true c d e x f y = refl
      step false false true d e x f y = judged f y
      step false false false false e x f y = judged f y
      step false false false true false x f y = judged f y
      step false false false true true true f y = refl
      step false false false true true false f y = judged f y

  formats_are : (x : Bool) → good_formats s && x ≡ low_bits (word s 4) && (low_bits (word s 6) && x)
  unfolding good_formats low_bits
  formats_are x = step (eqb (word s 4 / 256) 0) (eqb (word s 6 / 256) 0)
    where
      step : (t u : Bool) → (t && u) && x ≡ t && (u && x)
      step true u = refl
      step false u = refl

  class_pairs_least : Header Sort.class_pair_header (part_fault 0 (inside s 0 16 && (inside s 16 ((2 * field_count (word s 4) + 2 * field_count (word s 6)) * (word s 12 * word s 14)) && (good_formats s && classes_below s)))
      (lowest (fault_through (coverage_fault s) s 0 2 1) (fault_through (classes_fault s) s 0 8 2)))
  unfolding inside ends_by sound offsets_of reached_from
  class_pairs_least =
      let end = 16 + (2 * field_count (word s 4) + 2 * field_count (word s 6)) * (word s 12 * word s 14) in
      let good = good_formats s && classes_below s in
      let tables = fault_through (classes_fault s) s 0 8 2 in
      let reached = lowest (fault_through (coverage_fault s) s 0 2 1) tables in
      rw (one_place 0 (inside s 0 2) (inside s 0 16 && (ends_by s end && good)) reached, also_good 0 16 end good (omega arith), also_good 0 2 end good (omega arith), formats_are (classes_below s), classes_are)
      (least_reached 1 (part Sort.class_pair_header 0) reached
      (before_rows Sort.coverage_table (coverage_fault s) 2 1 ((Sort.class_table, 8, 2) ∷ []) tables (coverage_least 1) (sets_row Sort.class_table (classes_fault s) 8 2 (classes_least 1))))

  -- a header of single substitutions: a coverage alone is reached
  single_least : (to : Sort) (test : Bool) → offsets_of s to 0 ≡ (Sort.coverage_table, 2, 1) ∷ [] → inside s 0 2 && test ≡ sound s to 0 → Header to (part_fault 0 test (fault_through (coverage_fault s) s 0 2 1))
  unfolding reached_from
  single_least to test e t =
      let reached = fault_through (coverage_fault s) s 0 2 1 in
      rw (one_place 0 (inside s 0 2) test reached, t) (least_reached 1 (part to 0) reached (rw e (sets_row Sort.coverage_table (coverage_fault s) 2 1 (coverage_least 1))))

  -- as many substitutes: not at odds with a sound coverage
  count_is : (n : ℕ) → equal_count s n ≡ not (other_count s n)
  unfolding equal_count other_count
  count_is n = step (eqb (word s 2) 0) (coverage_sound s (word s 2)) (eqb (length (coverage s (word s 2))) n)
    where
      step : (a b t : Bool) → a || (not b || t) ≡ not (not a && (b && not t))
      step true b t = refl
      step false false t = refl
      step false true true = refl
      step false true false = refl

  singles_least : Header (single_header s) (single_fault s)
  unfolding single_header single_fault inside ends_by sound offsets_of
  singles_least = step (eqb (word s 0) 1)
    where
      end : ℕ
      end = 6 + 2 * word s 4

      step : (t : Bool) → Header (cond t Sort.delta_header Sort.list_header) (part_fault 0 (inside s 0 6 && (t || (inside s 6 (2 * word s 4) && equal_count s (word s 4)))) (fault_through (coverage_fault s) s 0 2 1))
      step true = single_least Sort.delta_header (inside s 0 6 && true) refl (also_good 0 2 6 true (omega arith) ∙ and_true (ends_by s 6))
      step false =
          single_least Sort.list_header (inside s 0 6 && (ends_by s end && equal_count s (word s 4))) refl
          (rw (also_good 0 6 end (equal_count s (word s 4)) (omega arith)) (also_good 0 2 end (equal_count s (word s 4)) (omega arith) ∙ rw (count_is (word s 4))))

  -- pairs, by their format
  pairs_by_format : Header (pair_header s) (pair_fault s)
  unfolding pair_header pair_fault sound offsets_of
  pairs_by_format =
      either (eqb (word s 0) 1) Sort.pair_header_sort Sort.class_pair_header _ _
      (by_index_lem Sort.pair_header_sort (Sort.pair_set_sort a b) (good_formats s && enough s (word s 8)) 8 (pair_set_fault a b s) (rw (enough_is (word s 8), formats_are (not (at_odds s (word s 8))))) refl (pairs_least a b 1))
      class_pairs_least
    where
      a : ℕ
      a = field_count (word s 4)

      b : ℕ
      b = field_count (word s 6)

  pub fault_least : (kind : ℕ) → Least (parts kind s) (fault kind s)
  unfolding parts header_of sound offsets_of
  fault_least kind =
      rw (fault_is kind s)
      (either (eqb kind 1) (context_header false s) _ (context_fault false s) _ (context_least false)
      (either (eqb kind 2) (context_header true s) _ (context_fault true s) _ (context_least true)
      (either (eqb kind 3) Sort.ligature_header _ _ _
      (by_index_lem Sort.ligature_header Sort.ligature_set (enough s (word s 4)) 4 (set_fault (ligature_fault s) s) (rw (enough_is (word s 4))) refl ligatures_least)
      (either (eqb kind 4) (pair_header s) (single_header s) (pair_fault s) (single_fault s) pairs_by_format singles_least))))

  -- there is a fault exactly if some part is faulty
  some_faulty : (kind : ℕ) → is_some (fault kind s) ≡ true → Any (Faulty s) (parts kind s)
  unfolding is_some
  some_faulty kind h = step (fault kind s) (parts kind s) h (fault_least kind)
    where
      weaker : (place : ℕ) (ps : List Part) → Any (λ p. (p.start ≡ place) × Faulty s p) ps → Any (Faulty s) ps
      weaker place [] h = h
      weaker place (p ∷ ps) (inl h) = inl h.1
      weaker place (p ∷ ps) (inr h) = inr (weaker place ps h)

      step : (o : Option ℕ) (ps : List Part) → is_some o ≡ true → Least ps o → Any (Faulty s) ps
      step None ps e l = absurd (true≢false (sym e))
      step (Some place) ps e l = weaker place ps l.there

  faulty_some : (kind : ℕ) → Any (Faulty s) (parts kind s) → is_some (fault kind s) ≡ true
  unfolding is_some
  faulty_some kind h = step (fault kind s) (parts kind s) h (fault_least kind)
    where
      not_all : (ps : List Part) → Any (Faulty s) ps → All (Sound s) ps → ⊥
      not_all [] h k = h
      not_all (p ∷ ps) (inl h) k = true≢false (sym k.0 ∙ h)
      not_all (p ∷ ps) (inr h) k = not_all ps h k.1

      step : (o : Option ℕ) (ps : List Part) → Any (Faulty s) ps → Least ps o → is_some o ≡ true
      step None ps a l = absurd (not_all ps a l)
      step (Some place) ps a l = refl

module _ (c : Call) where
  -- with 6 the length is the lowest start among the faulty parts
  pub malformed_lowest : (answer c).number ≡ 6 → Lowest c.source (parts c.kind c.source) (answer c).len
  malformed_lowest h = subst (Least c.source (parts c.kind c.source)) (sym (malformed_place c h)) (fault_least c.source c.kind)

  -- where none of those before it applies, 6 is given exactly if some part is faulty
  pub malformed_part : NoneOf (take 7 (refusals c))
      → ((answer c).number ≡ 6 → Any (Faulty c.source) (parts c.kind c.source)) × (Any (Faulty c.source) (parts c.kind c.source) → (answer c).number ≡ 6)
  unfolding refusals
  malformed_part h =
      let g = given_exactly c (take 7 (refusals c)) 6 (is_some (fault c.kind c.source)) (drop 8 (refusals c)) refl in
      (λ n. some_faulty c.source c.kind (g.0 n).0, λ a. g.1 (faulty_some c.source c.kind a) h)
