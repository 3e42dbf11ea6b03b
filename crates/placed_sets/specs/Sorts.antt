-- The sorts of sets: what is left of one, and what stands around them.
use Rattle.std.specs.Prelude.{ℕ, zero, suc, ◌+◌, ◌*◌, ◌<◌, ◌≤◌, ◌≡◌, Bool, true, false, List, [], ◌∷◌, replicate, Option, None, Some}
use Rattle.std.proofs.Math.Path.{refl}
use Rattle.std.proofs.Common.{ap, true≢false, arith}
use Rattle.std.proofs.Math.ListN.{length}
use Rattle.meaning.specs.Words.{word, inside}
use Rattle.meaning.specs.Tables.{field_count, rule_set, ligature_set}
use Rattle.meaning.specs.Fault.{rule_fault, ligature_fault, set_fault, pair_set_fault}
use Rattle.meaning.specs.Cut.{RuleMaps, cut_set, cut_ligatures}
use Rattle.meaning.specs.Layout.{block, rule_words, ligature_words, set_words}
use Rattle.laws.specs.Members.{words_left}
use Rattle.laws.specs.Runs.{both}
use Rattle.laws.specs.SoundGood.{part_sound}
use Rattle.cell_maps.specs.Cells.{Inside, Kept}
use Rattle.cell_maps.specs.declared.Map.{Map}
use Rattle.numbers.specs.Entries.{entries_kept}
use Rattle.numbers.specs.Leaves.{Leaves, leaves_said}
use Rattle.member_sets.specs.Sets.{set_most}
use Rattle.member_sets.specs.Sound.{inside_is}
use Rattle.member_sets.specs.Dead.{Dead, dead_none}
use Rattle.ligature_members.specs.Left.{ligature_left}
use Rattle.pair_fields.specs.Pairs.{Places, pairs_left, pairs_most}
use Rattle.pair_places.specs.Formats.{pair_size, places_of, places_inside}
use Rattle.pair_sets.specs.declared.Formats.{Formats}
use Rattle.kept_rules.specs.Left.{AllInside, maps_in, rule_left}
use Rattle.kept_rules.specs.declared.Maps.{Maps}
use Rattle.placed_sets.specs.declared.Sort.{Sort}
use Rattle.placed_sets.specs.declared.Sort.TheVariants.{Rules, Ligatures, Pairs}

-- the words between the coverage's offset and the count of the sets
abbrev pub more_of : Sort → List ℕ
more_of (Rules chained) = []
more_of Ligatures = []
more_of (Pairs f) = f.n1 ∷ f.n2 ∷ []

-- how many bytes stand before the offsets of the sets
abbrev pub header_size : Sort → ℕ
header_size sort = 6 + 2 * length (more_of sort)

-- where the set at a place is faulty
unfoldable pub set_fault_of : Sort → List ℕ → ℕ → Option ℕ
set_fault_of (Rules chained) s at = set_fault (rule_fault chained s) s at
set_fault_of Ligatures s at = set_fault (ligature_fault s) s at
set_fault_of (Pairs f) s at = pair_set_fault (field_count f.f1) (field_count f.f2) s at

-- the words of what is left of the set at a place
unfoldable pub set_left : Sort → RuleMaps → List ℕ → ℕ → Option (List ℕ)
set_left (Rules chained) m s at = block (set_words (rule_words chained)) (cut_set chained m (rule_set chained s at))
set_left Ligatures m s at = block (set_words ligature_words) (cut_ligatures m.input (ligature_set s at))
set_left (Pairs f) m s at = pairs_left m.input s (pair_size f.f1 f.f2) (places_of f.f1 f.f2 f.n1 f.n2) at

-- What the writer of sets is told besides, in cells: of rules and of ligatures, which are known to go, a bit each; of pairs the places of the fields that stay, and their formats say how long a record is.
unfoldable pub told_of : Sort → RuleMaps → List ℕ → List ℕ → Type 0
told_of (Rules chained) m s told = Dead (rule_left chained m s) told
told_of Ligatures m s told = Dead (ligature_left m.input s) told
told_of (Pairs f) m s told = (f.size ≡ pair_size f.f1 f.f2) × (told ≡ places_of f.f1 f.f2 f.n1 f.n2)

pub record Told (sort : Sort) (m : RuleMaps) (s told : List ℕ) : Type 0 where
  pub is : told_of sort m s told

-- whether a sort has value formats
abbrev pub is_pairs : Sort → Bool
is_pairs (Rules chained) = false
is_pairs Ligatures = false
is_pairs (Pairs f) = true

-- the same under the maps that cells hold
abbrev pub left_in : Sort → List ℕ → Maps → List ℕ → ℕ → Option (List ℕ)
left_in sort t m s at = set_left sort (maps_in t m) s at

-- the words, and none where nothing is left
unfoldable pub left_words : Option (List ℕ) → List ℕ
left_words None = []
left_words (Some ws) = ws

-- more than there is room for, where a set has none: what is left of it, the place for a count and at most 65,535 offsets, and the source
unfoldable pub most_of : Option (List ℕ) → List ℕ → ℕ
most_of o s = 2 * length (left_words o) + length s + 131072

-- the cells of the maps lie before `at`
pub record AllBefore (m : Maps) (at : ℕ) : Type 0 where
  pub back : m.back.at + m.back.mask < at
  pub input : m.input.at + m.input.mask < at
  pub ahead : m.ahead.at + m.ahead.mask < at
  pub lookups : m.lookups.at + m.lookups.mask < at

-- a set of members has the words of its members
words_block : {A : Type 0} (f : A → List ℕ) (o : Option A) → words_left f o ≡ left_words (block f o)
unfolding words_left left_words block
words_block f None = refl
words_block f (Some a) = refl

set_leaves : {A : Type 0} (f : A → List ℕ) (o : Option (List A)) {a b : List ℕ} {p r : ℕ} (s : List ℕ) → Leaves a p (block (set_words f) o) (set_most f o s) b r
    → Leaves a p (block (set_words f) o) (most_of (block (set_words f) o) s) b r
unfolding set_most most_of
set_leaves f o s w = leaves_said w refl (omega (arith, ap length (words_block (set_words f) o)))

-- the place for a pair set's count and for one pair more is less than that
pairs_most_lem : (o : Option (List ℕ)) (places s : List ℕ) → length places ≤ 8 → pairs_most o places ≤ most_of o s
unfolding pairs_most most_of words_left left_words
pairs_most_lem None places s h = omega arith
pairs_most_lem (Some ws) places s h = omega arith

-- zeros say that no member is known to go
pub told_none : (sort : Sort) {m : RuleMaps} {s : List ℕ} (n : ℕ) → is_pairs sort ≡ false → Told sort m s (replicate n 0)
unfolding told_of
told_none (Rules chained) n e = record { is = dead_none n }
told_none Ligatures n e = record { is = dead_none n }
told_none (Pairs f) n e = absurd (true≢false e)

pub told_pairs : {f : Formats} {m : RuleMaps} {s told : List ℕ} → f.size ≡ pair_size f.f1 f.f2 → told ≡ places_of f.f1 f.f2 f.n1 f.n2 → Told (Pairs f) m s told
unfolding told_of
told_pairs e p = record { is = (e, p) }

-- The code asks for the sort: what the writer of its sets is told.
module _ {sort : Sort} {m : RuleMaps} {s told : List ℕ} where
  pub rules_known : {chained : Bool} → sort ≡ Rules chained → Told sort m s told → Dead (rule_left chained m s) told
  unfolding told_of
  rules_known e h = rw e at h.is

  pub rules_told : {chained : Bool} → sort ≡ Rules chained → Dead (rule_left chained m s) told → Told sort m s told
  unfolding told_of
  rules_told e h = record { is = rw e h }

  pub ligatures_known : sort ≡ Ligatures → Told sort m s told → Dead (ligature_left m.input s) told
  unfolding told_of
  ligatures_known e h = rw e at h.is

  pub ligatures_told : sort ≡ Ligatures → Dead (ligature_left m.input s) told → Told sort m s told
  unfolding told_of
  ligatures_told e h = record { is = rw e h }

  pub pairs_known : {f : Formats} → sort ≡ Pairs f → Told sort m s told → (f.size ≡ pair_size f.f1 f.f2) × (told ≡ places_of f.f1 f.f2 f.n1 f.n2)
  unfolding told_of
  pairs_known e h = rw e at h.is

  -- the places of the fields lie inside a pair record
  pub pairs_places : {f : Formats} → sort ≡ Pairs f → Told sort m s told → Places told f.size
  pairs_places {f} e h =
      let t = pairs_known e h in
      rw (t.1, t.0) (places_inside f.f1 f.f2 f.n1 f.n2)

-- The code asks for the sort: what the check says of a set of each sort, and what its writer leaves.
module _ {sort : Sort} (s : List ℕ) (at : ℕ) where
  pub rules_sound : {chained : Bool} → sort ≡ Rules chained → set_fault_of sort s at ≡ None → set_fault (rule_fault chained s) s at ≡ None
  unfolding set_fault_of
  rules_sound e h = rw e at h

  pub ligatures_sound : sort ≡ Ligatures → set_fault_of sort s at ≡ None → set_fault (ligature_fault s) s at ≡ None
  unfolding set_fault_of
  ligatures_sound e h = rw e at h

  pub pairs_sound : {f : Formats} → sort ≡ Pairs f → f.size ≡ pair_size f.f1 f.f2 → set_fault_of sort s at ≡ None → at + 2 + f.size * word s at ≤ length s
  unfolding set_fault_of pair_set_fault
  pairs_sound {f} e z h =
      let q = (part_sound at _ None (rw e at h)).0 in
      let size = 2 + 2 * field_count f.f1 + 2 * field_count f.f2 in
      rw z (inside_is s (at + 2) (size * word s at) (both (inside s (at + 2) (size * word s at)) _ (both (inside s at 2) _ q).1).0)

  module _ (m : RuleMaps) {a b : List ℕ} {p r : ℕ} where
    pub rules_leave : {chained : Bool} → sort ≡ Rules chained → Leaves a p (block (set_words (rule_words chained)) (cut_set chained m (rule_set chained s at))) (set_most (rule_words chained) (cut_set chained m (rule_set chained s at)) s) b r
        → Leaves a p (set_left sort m s at) (most_of (set_left sort m s at) s) b r
    unfolding set_left
    rules_leave {chained} e w = rw e (set_leaves (rule_words chained) (cut_set chained m (rule_set chained s at)) s w)

    pub ligatures_leave : sort ≡ Ligatures → Leaves a p (block (set_words ligature_words) (cut_ligatures m.input (ligature_set s at))) (set_most ligature_words (cut_ligatures m.input (ligature_set s at)) s) b r
        → Leaves a p (set_left sort m s at) (most_of (set_left sort m s at) s) b r
    unfolding set_left
    ligatures_leave e w = rw e (set_leaves ligature_words (cut_ligatures m.input (ligature_set s at)) s w)

    pub pairs_leave : {f : Formats} (places : List ℕ) → sort ≡ Pairs f → f.size ≡ pair_size f.f1 f.f2 → places ≡ places_of f.f1 f.f2 f.n1 f.n2
        → Leaves a p (pairs_left m.input s f.size places at) (pairs_most (pairs_left m.input s f.size places at) places) b r → Leaves a p (set_left sort m s at) (most_of (set_left sort m s at) s) b r
    unfolding set_left
    pairs_leave {f} places e z k w =
        let few : length (places_of f.f1 f.f2 f.n1 f.n2) ≤ 8 = (places_inside f.f1 f.f2 f.n1 f.n2).few in
        rw e (leaves_said (rw (z, k) at w) refl (pairs_most_lem _ _ s few))

-- Cells behind the maps may change.
module _ {at : ℕ} {t₀ t : List ℕ} (k : Kept at t₀ t) where
  inside_as : {m : Map} → Inside t₀ m → Inside t m
  inside_as i = record { within = omega (arith, k.size, i.within) }

  -- what is left of a set stays the same
  pub left_kept : (sort : Sort) {m : Maps} → AllBefore m at → (s : List ℕ) (p : ℕ) → left_in sort t m s p ≡ left_in sort t₀ m s p
  left_kept sort {m} b s p = rw (entries_kept k m.back b.back, entries_kept k m.input b.input, entries_kept k m.ahead b.ahead, entries_kept k m.lookups b.lookups)

  pub leaves_kept : (sort : Sort) {m : Maps} → AllBefore m at → (s : List ℕ) (p : ℕ) {a b : List ℕ} {q r : ℕ} → Leaves a q (left_in sort t m s p) (most_of (left_in sort t m s p) s) b r
      → Leaves a q (left_in sort t₀ m s p) (most_of (left_in sort t₀ m s p) s) b r
  leaves_kept sort {m} w s p l = rw (left_kept sort w s p) at l

  pub inside_kept : {m : Maps} → AllInside t₀ m → AllInside t m
  inside_kept i = record { back = inside_as i.back; input = inside_as i.input; ahead = inside_as i.ahead; lookups = inside_as i.lookups }

  -- and so does what the writer of sets is told
  pub told_kept : (sort : Sort) {m : Maps} → AllBefore m at → {s told : List ℕ} → Told sort (maps_in t m) s told → Told sort (maps_in t₀ m) s told
  told_kept sort {m} b h = rw (entries_kept k m.back b.back, entries_kept k m.input b.input, entries_kept k m.ahead b.ahead, entries_kept k m.lookups b.lookups) at h

  pub told_still : (sort : Sort) {m : Maps} → AllBefore m at → {s told : List ℕ} → Told sort (maps_in t₀ m) s told → Told sort (maps_in t m) s told
  told_still sort {m} b h = rw (entries_kept k m.back b.back, entries_kept k m.input b.input, entries_kept k m.ahead b.ahead, entries_kept k m.lookups b.lookups) h
