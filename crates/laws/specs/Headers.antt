-- The two readings of a table's header, plain and packed: in both each number stands in its place, and each offset leads to its block.
use Rattle.std.specs.Prelude.{ℕ, suc, ◌+◌, ◌*◌, ◌≤◌, ◌<◌, ◌≡◌, refl, Bool, true, false, cond, eqb, Option, None, Some}
use Rattle.std.proofs.Common.{sym, ap₂, ◌∙◌, subst, length-append, eq-eqb}
use Rattle.std.proofs.Math.Path.{ap}
use mathlib.Core.List.{List, [], ◌∷◌, ◌++◌, map, append-nil, append_assoc}
use native.Mathlib.Omega.{arith}
use Rattle.std.proofs.Math.ListN.{length, length-map}
use Rattle.meaning.specs.Words.{push}
use Rattle.meaning.specs.Tables.{reaches}
use Rattle.meaning.specs.Fault.{fault_through}
use Rattle.meaning.specs.Layout.{block}
use Rattle.meaning.specs.Packed.{BlockKind, set, coverage, class_table, rank, HeaderWord, number, offset, blocks_of, together, packed_blocks, packed_start, packed_word, packed}
use Rattle.laws.specs.Stands.{Stands, All, all_back, front, back, moved, said, lies}
use Rattle.laws.specs.Through.{Kind, Back, Opt, parts, Leads, leads_length, lead_back}
use Rattle.laws.specs.Repeats.{has, each_has, placed}

-- What a source shows of a header.
module _ (s : List ℕ) where
  -- an offset is null where there is no block, and else leads to where the block stands
  abbrev pub LeadsTo : ℕ → Option (List ℕ) → Type 0
  LeadsTo o None = o ≡ 0
  LeadsTo o (Some b) = (0 < o) × Stands s (0 + o) b

  -- words for the words of a header
  abbrev pub Shown : List ℕ → List HeaderWord → Type 0
  Shown [] [] = Unit {0}
  Shown [] (w ∷ h) = ⊥
  Shown (o ∷ os) [] = ⊥
  Shown (o ∷ os) (number n ∷ h) = (o ≡ n) × Shown os h
  Shown (o ∷ os) (offset k b ∷ h) = LeadsTo o b × Shown os h

  -- they stand in the source from a place on
  pub record Shows (at : ℕ) (h : List HeaderWord) : Type 0 where
    pub words : List ℕ
    pub stands : Stands s at words
    pub shown : Shown words h

  shown_length : (os : List ℕ) (h : List HeaderWord) → Shown os h → length os ≡ length h
  shown_length [] [] q = refl
  shown_length [] (w ∷ h) q = absurd q
  shown_length (o ∷ os) [] q = absurd q
  shown_length (o ∷ os) (number n ∷ h) q = ap suc (shown_length os h q.1)
  shown_length (o ∷ os) (offset k b ∷ h) q = ap suc (shown_length os h q.1)

  -- a header that is shown lies inside the source
  pub shows_lie : {at : ℕ} (h : List HeaderWord) → Shows at h → at + 2 * length h ≤ length s
  shows_lie h r = omega (arith, lies r.stands, shown_length r.words h r.shown)

  pub shows_moved : {at : ℕ} {h : List HeaderWord} (to : ℕ) → Shows at h → at ≡ to → Shows to h
  shows_moved to r e = record { words = r.words; stands = moved to r.stands e; shown = r.shown }

  -- the words of a front of a header, and the others
  record Split (P : List ℕ → Type 0) (h : List HeaderWord) (os : List ℕ) : Type 0 where
    these : List ℕ
    others : List ℕ
    is : os ≡ these ++ others
    does : P these
    left : Shown others h

  split_numbers : (ns : List ℕ) (h : List HeaderWord) (os : List ℕ) → Shown os (map number ns ++ h) → Split (λ ws. ws ≡ ns) h os
  split_numbers [] h os q = record { these = []; others = os; is = refl; does = refl; left = q }
  split_numbers (n ∷ ns) h [] q = absurd q
  split_numbers (n ∷ ns) h (o ∷ os) q =
      let r = split_numbers ns h os q.1 in
      record { these = o ∷ r.these; others = r.others; is = ap (λ (l : List ℕ). o ∷ l) r.is; does = ap₂ ◌∷◌ q.0 r.does; left = r.left }

  split_offsets : {A : Type 0} (K : Kind A) (k : BlockKind) (xs : List (Option A)) (h : List HeaderWord) (os : List ℕ) → Shown os (map (offset k) (parts K xs) ++ h) → Split (λ ws. Leads K s 0 ws xs) h os
  unfolding block
  split_offsets K k [] h os q = record { these = []; others = os; is = refl; does = tt; left = q }
  split_offsets K k (x ∷ xs) h [] q = absurd q
  split_offsets K k (None ∷ xs) h (o ∷ os) q =
      let r = split_offsets K k xs h os q.1 in
      record { these = o ∷ r.these; others = r.others; is = ap (λ (l : List ℕ). o ∷ l) r.is; does = (q.0, r.does); left = r.left }
  split_offsets K k (Some a ∷ xs) h (o ∷ os) q =
      let r = split_offsets K k xs h os q.1 in
      record { these = o ∷ r.these; others = r.others; is = ap (λ (l : List ℕ). o ∷ l) r.is; does = (q.0.0, q.0.1, r.does); left = r.left }

  -- numbers at the front of a header stand there
  pub numbers_read : {at : ℕ} (ns : List ℕ) (h : List HeaderWord) → Shows at (map number ns ++ h) → Stands s at ns × Shows (at + 2 * length ns) h
  numbers_read ns h r =
      let t = split_numbers ns h r.words r.shown in
      let w = said r.stands (t.is ∙ ap (λ (l : List ℕ). l ++ t.others) t.does) in
      (front ns t.others w, record { words = t.others; stands = back ns t.others w; shown = t.left })

  pub number_read : {at : ℕ} (n : ℕ) (h : List HeaderWord) → Shows at (number n ∷ h) → Stands s at (n ∷ []) × Shows (at + 2) h
  number_read n h r = numbers_read (n ∷ []) h r

  -- the same where a header ends in them
  pub last_numbers_read : {at : ℕ} (ns : List ℕ) → Shows at (map number ns) → Stands s at ns
  last_numbers_read {at} ns r = (numbers_read ns [] (subst (Shows at) (sym (append-nil (map number ns))) r)).0

  -- parts whose offsets are at the front of a header are read back through them
  pub parts_read : {A : Type 0} {at : ℕ} (K : Kind A) (k : BlockKind) (xs : List (Option A)) (h : List HeaderWord) → All (Opt (Back K s)) xs → Shows at (map (offset k) (parts K xs) ++ h)
      → ((reaches (K.read s) s 0 at (length xs) ≡ xs) × (fault_through (K.fault_at s) s 0 at (length xs) ≡ None)) × Shows (at + 2 * length xs) h
  parts_read {at = at} K k xs h b r =
      let t = split_offsets K k xs h r.words r.shown in
      let w = said r.stands t.is in
      let n = leads_length K s 0 t.these xs t.does in
      (lead_back K s 0 at t.these xs t.does b (front t.these t.others w), record { words = t.others; stands = moved (at + 2 * length xs) (back t.these t.others w) (omega arith); shown = t.left })

  -- the same where a header ends in their offsets
  pub last_parts_read : {A : Type 0} {at : ℕ} (K : Kind A) (k : BlockKind) (xs : List (Option A)) → All (Opt (Back K s)) xs → Shows at (map (offset k) (parts K xs))
      → ((reaches (K.read s) s 0 at (length xs) ≡ xs) × (fault_through (K.fault_at s) s 0 at (length xs) ≡ None)) × Shows (at + 2 * length xs) []
  last_parts_read {at = at} K k xs b r = parts_read K k xs [] b (subst (Shows at) (sym (append-nil (map (offset k) (parts K xs)))) r)

-- Blocks of a kind.

-- the blocks of two headers
pub blocks_of_append : (k : BlockKind) (g h : List HeaderWord) → blocks_of k (g ++ h) ≡ blocks_of k g ++ blocks_of k h
unfolding blocks_of push
blocks_of_append k [] h = refl
blocks_of_append k (number n ∷ g) h = blocks_of_append k g h
blocks_of_append k (offset j None ∷ g) h = step (eqb (rank k) (rank j)) (blocks_of_append k g h)
  where
    step : (t : Bool) → blocks_of k (g ++ h) ≡ blocks_of k g ++ blocks_of k h → cond t (blocks_of k (g ++ h)) (blocks_of k (g ++ h)) ≡ cond t (blocks_of k g) (blocks_of k g) ++ blocks_of k h
    step true i = i
    step false i = i
blocks_of_append k (offset j (Some b) ∷ g) h = step (eqb (rank k) (rank j)) (blocks_of_append k g h)
  where
    step : (t : Bool) → blocks_of k (g ++ h) ≡ blocks_of k g ++ blocks_of k h → cond t (b ∷ blocks_of k (g ++ h)) (blocks_of k (g ++ h)) ≡ cond t (b ∷ blocks_of k g) (blocks_of k g) ++ blocks_of k h
    step true i = ap (λ (l : List (List ℕ)). b ∷ l) i
    step false i = i

pub together_append : (xs ys : List (List ℕ)) → together (xs ++ ys) ≡ together xs ++ together ys
unfolding together
together_append [] ys = refl
together_append (b ∷ xs) ys = ap (λ (l : List ℕ). b ++ l) (together_append xs ys) ∙ sym (append_assoc b (together xs) (together ys))

-- a block is the first of its kind
pub block_first : (k : BlockKind) (b : List ℕ) (h : List HeaderWord) → blocks_of k (offset k (Some b) ∷ h) ≡ b ∷ blocks_of k h
unfolding blocks_of push
block_first k b h = rw (eq-eqb (rank k) (rank k) refl)

-- The packed reading.
module _ (h : List HeaderWord) where
  packed_late : 0 < length h → (k : BlockKind) → 0 < packed_start h k
  unfolding packed_start
  packed_late z set = omega arith
  packed_late z coverage = omega arith
  packed_late z class_table = omega arith

  -- each block of a part of the header is among those that are written
  abbrev Written : List HeaderWord → Type 0
  Written g = (k : BlockKind) → All (λ b. has b (packed_blocks h k) ≡ true) (blocks_of k g)

  written_rest : (w : HeaderWord) (g : List HeaderWord) → Written (w ∷ g) → Written g
  written_rest w g q k = all_back (λ b. has b (packed_blocks h k) ≡ true) (blocks_of k (w ∷ [])) (blocks_of k g) (subst (All (λ b. has b (packed_blocks h k) ≡ true)) (blocks_of_append k (w ∷ []) g) (q k))

module _ {s : List ℕ} (h : List HeaderWord) where
  -- the blocks of each kind that are written
  packed_blocks_lem : Stands s (0 + 2 * length h) (together (packed_blocks h set) ++ (together (packed_blocks h coverage) ++ together (packed_blocks h class_table))) → (k : BlockKind) → Stands s (0 + packed_start h k) (together (packed_blocks h k))
  unfolding packed_start
  packed_blocks_lem w set = front (together (packed_blocks h set)) _ w
  packed_blocks_lem w coverage = moved (0 + (2 * length h + 2 * length (together (packed_blocks h set)))) (front (together (packed_blocks h coverage)) (together (packed_blocks h class_table)) (back (together (packed_blocks h set)) _ w)) (omega arith)
  packed_blocks_lem w class_table =
      moved (0 + (2 * length h + 2 * length (together (packed_blocks h set)) + 2 * length (together (packed_blocks h coverage)))) (back (together (packed_blocks h coverage)) (together (packed_blocks h class_table)) (back (together (packed_blocks h set)) _ w)) (omega arith)

  module _ (z : 0 < length h) (w : (k : BlockKind) → Stands s (0 + packed_start h k) (together (packed_blocks h k))) where
    packed_shown : (g : List HeaderWord) → Written h g → Shown s (map (packed_word h) g) g
    unfolding packed_word
    packed_shown [] q = tt
    packed_shown (number n ∷ g) q = (refl, packed_shown g (written_rest h (number n) g q))
    packed_shown (offset k None ∷ g) q = (refl, packed_shown g (written_rest h (offset k None) g q))
    packed_shown (offset k (Some b) ∷ g) q =
        let found = (subst (All (λ b. has b (packed_blocks h k) ≡ true)) (block_first k b g) (q k)).0 in
        (placed (packed_start h k) (packed_blocks h k) b (packed_late h z k) (w k) found, packed_shown g (written_rest h (offset k (Some b)) g q))

  -- where the packed reading of a header stands, that header is shown
  pub packed_shows : 0 < length h → Stands s 0 (packed h) → Shows s 0 h
  unfolding packed packed_blocks
  packed_shows z w =
      let ws = map (packed_word h) h in
      let after = together (packed_blocks h set) ++ (together (packed_blocks h coverage) ++ together (packed_blocks h class_table)) in
      let e = length-map h (packed_word h) in
      record { words = ws; stands = front ws after w; shown = packed_shown z (packed_blocks_lem (moved (0 + 2 * length h) (back ws after w) (omega arith))) h (λ k. each_has (blocks_of k h)) }

-- The plain reading: each block is written, and an offset leads behind the blocks of its kind that stand before it.

-- where the blocks of a kind start
unfoldable pub plain_start : List HeaderWord → BlockKind → ℕ
plain_start h set = 2 * length h
plain_start h coverage = 2 * length h + 2 * length (together (blocks_of set h))
plain_start h class_table = 2 * length h + 2 * length (together (blocks_of set h)) + 2 * length (together (blocks_of coverage h))

-- a word of header h as it is written, after the words `before` of it
unfoldable pub plain_word : List HeaderWord → List HeaderWord → HeaderWord → ℕ
plain_word h before (number n) = n
plain_word h before (offset k None) = 0
plain_word h before (offset k (Some b)) = plain_start h k + 2 * length (together (blocks_of k before))

-- the words of it that follow
unfoldable pub plain_from : List HeaderWord → List HeaderWord → List HeaderWord → List ℕ
plain_from h before [] = []
plain_from h before (w ∷ g) = plain_word h before w ∷ plain_from h (before ++ (w ∷ [])) g

-- a header and its blocks
unfoldable pub plain : List HeaderWord → List ℕ
plain h = plain_from h [] h ++ (together (blocks_of set h) ++ (together (blocks_of coverage h) ++ together (blocks_of class_table h)))

plain_late : (h : List HeaderWord) → 0 < length h → (k : BlockKind) → 0 < plain_start h k
unfolding plain_start
plain_late h z set = omega arith
plain_late h z coverage = omega arith
plain_late h z class_table = omega arith

pub plain_from_length : (h before g : List HeaderWord) → length (plain_from h before g) ≡ length g
unfolding plain_from
plain_from_length h before [] = refl
plain_from_length h before (w ∷ g) = ap suc (plain_from_length h (before ++ (w ∷ [])) g)

module _ (s : List ℕ) (h : List HeaderWord) where
  -- the blocks of a part of the header, behind those before them
  abbrev Follow : List HeaderWord → List HeaderWord → Type 0
  Follow before g = (k : BlockKind) → Stands s (0 + (plain_start h k + 2 * length (together (blocks_of k before)))) (together (blocks_of k g))

  follow_rest : (before : List HeaderWord) (w : HeaderWord) (g : List HeaderWord) → Follow before (w ∷ g) → Follow (before ++ (w ∷ [])) g
  follow_rest before w g q k =
      let own = blocks_of k (w ∷ []) in
      let e = ap together (blocks_of_append k (w ∷ []) g) ∙ together_append own (blocks_of k g) in
      let f = ap length (ap together (blocks_of_append k before (w ∷ [])) ∙ together_append (blocks_of k before) own) in
      moved _ (back (together own) (together (blocks_of k g)) (said (q k) e)) (omega (arith, f, length-append (together (blocks_of k before)) (together own)))

  plain_shown : 0 < length h → (before g : List HeaderWord) → Follow before g → Shown s (plain_from h before g) g
  unfolding plain_from plain_word together
  plain_shown z before [] q = tt
  plain_shown z before (number n ∷ g) q = (refl, plain_shown z (before ++ (number n ∷ [])) g (follow_rest before (number n) g q))
  plain_shown z before (offset k None ∷ g) q = (refl, plain_shown z (before ++ (offset k None ∷ [])) g (follow_rest before (offset k None) g q))
  plain_shown z before (offset k (Some b) ∷ g) q =
      let w = front b (together (blocks_of k g)) (said (q k) (ap together (block_first k b g))) in
      ((omega (arith, plain_late h z k), w), plain_shown z (before ++ (offset k (Some b) ∷ [])) g (follow_rest before (offset k (Some b)) g q))

module _ {s : List ℕ} (h : List HeaderWord) where
  plain_blocks : Stands s (0 + 2 * length h) (together (blocks_of set h) ++ (together (blocks_of coverage h) ++ together (blocks_of class_table h))) → (k : BlockKind) → Stands s (0 + plain_start h k) (together (blocks_of k h))
  unfolding plain_start
  plain_blocks w set = front (together (blocks_of set h)) _ w
  plain_blocks w coverage = moved (0 + (2 * length h + 2 * length (together (blocks_of set h)))) (front (together (blocks_of coverage h)) (together (blocks_of class_table h)) (back (together (blocks_of set h)) _ w)) (omega arith)
  plain_blocks w class_table =
      moved (0 + (2 * length h + 2 * length (together (blocks_of set h)) + 2 * length (together (blocks_of coverage h)))) (back (together (blocks_of coverage h)) (together (blocks_of class_table h)) (back (together (blocks_of set h)) _ w)) (omega arith)

  -- where the plain reading of a header stands, that header is shown
  pub plain_shows : 0 < length h → Stands s 0 (plain h) → Shows s 0 h
  unfolding plain blocks_of together
  plain_shows z w =
      let ws = plain_from h [] h in
      let after = together (blocks_of set h) ++ (together (blocks_of coverage h) ++ together (blocks_of class_table h)) in
      let e = plain_from_length h [] h in
      let bs = plain_blocks (moved (0 + 2 * length h) (back ws after w) (omega arith)) in
      record { words = ws; stands = front ws after w; shown = plain_shown s h z [] h (λ k. moved (0 + (plain_start h k + 2 * 0)) (bs k) (omega arith)) }
