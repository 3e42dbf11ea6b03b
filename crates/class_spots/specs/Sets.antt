-- The set of a class: where it stands in the source, and what is left of it.
use Rattle.std.specs.Prelude.{ℕ, zero, suc, ◌+◌, ◌-◌, ◌*◌, ◌≤◌, ◌<◌, ◌≡◌, Bool, cond, List, [], get_or, eqb, Option, None, Some}
use Rattle.std.proofs.Math.Path.{refl, sym, ap}
use Rattle.std.proofs.Common.{◌∙◌, arith, eq-eqb, ne_eqb, leb-true, leb-false, le-leb}
use Rattle.std.proofs.Math.Bool.{true, false}
use Rattle.std.proofs.Math.Nat.{zero-add}
use Rattle.std.proofs.Math.ListN.{length, get_or-eq_default}
use Rattle.std.proofs.Math.Dec.{leb}
use Rattle.std.proofs.lemmas.Bool.{lt-leb}
use Rattle.meaning.specs.Words.{word, bind, member}
use Rattle.meaning.specs.Tables.{Rule, reach, reaches, rule_set}
use Rattle.meaning.specs.Fault.{rule_fault, set_fault}
use Rattle.meaning.specs.Cut.{RuleMaps, cut_set}
use Rattle.meaning.specs.Layout.{block, rule_words, set_words}
use Rattle.laws.specs.Members.{words_left}
use Rattle.bits.specs.Bits.{marked}
use Rattle.numbers.specs.Leaves.{Leaves, leaves_none, leaves_said}
use Rattle.area.specs.Extends.{keeps_none}
use Rattle.member_sets.specs.Sets as member
use Rattle.class_spots.specs.SlotWalk.{slot_of}

-- the count of the sets, which stands before their offsets
abbrev pub count_at : List ℕ → ℕ → ℕ
count_at s slots = word s (slots - 2)

-- the place of the set of a class that has one and that is marked; else 0
unfoldable pub set_place : List ℕ → ℕ → List ℕ → ℕ → ℕ → ℕ
set_place s slots t marks c = cond (leb (count_at s slots) c) 0 (cond (marked t marks c) (word s (slots + 2 * c)) 0)

-- the words of what is left of the set at a place; 0 is none
unfoldable pub set_left : Bool → RuleMaps → List ℕ → ℕ → Option (List ℕ)
set_left chained m s at = cond (eqb at 0) None (block (set_words (rule_words chained)) (cut_set chained m (rule_set chained s at)))

-- the words, and none where nothing is left
unfoldable pub words_in : Option (List ℕ) → List ℕ
words_in None = []
words_in (Some ws) = ws

-- what a set takes at most besides what is left of it: the place for a count and an offset for each of at most 65,535 rules, and one rule more, which takes no more than the source
abbrev pub set_spare : List ℕ → ℕ
set_spare s = length s + 131072

-- more than there is room for, where a set has none: what is left of it, and what it takes besides
unfoldable pub set_most : Option (List ℕ) → List ℕ → ℕ
set_most o s = 2 * length (words_in o) + set_spare s

-- the set at a place is sound, if there is one
pub record SetSound (chained : Bool) (s : List ℕ) (at : ℕ) : Type 0 where
  pub sound : (at ≡ 0 → ⊥) → set_fault (rule_fault chained s) s at ≡ None

-- what is asked to find the set of a class: the offsets lie inside the source, and the marks do not begin too far
pub record Asked (s : List ℕ) (slots marks c : ℕ) : Type 0 where
  pub header : slots + 2 * count_at s slots ≤ length s
  pub count : 2 ≤ slots
  pub low : slots ≤ 12
  pub near : marks < 0x1_0000_0000_0000
  pub small : c < 65536

-- the ways to the place
module _ (s : List ℕ) (slots : ℕ) (t : List ℕ) (marks c : ℕ) where
  pub place_past : count_at s slots ≤ c → 0 ≡ set_place s slots t marks c
  unfolding set_place
  place_past h = rw (le-leb _ _ h) refl

  pub place_unmarked : c < count_at s slots → marked t marks c ≡ false → 0 ≡ set_place s slots t marks c
  unfolding set_place
  place_unmarked h n = rw (lt-leb _ _ h, n) refl

  pub place_there : {p : ℕ} → c < count_at s slots → marked t marks c ≡ true → p ≡ word s (slots + 2 * c) → p ≡ set_place s slots t marks c
  unfolding set_place
  place_there h n e = rw (lt-leb _ _ h, n) e

words_block : (chained : Bool) (o : Option (List Rule)) → length (words_left (set_words (rule_words chained)) o) ≡ length (words_in (block (set_words (rule_words chained)) o))
unfolding words_left words_in block
words_block chained None = refl
words_block chained (Some a) = refl

-- what is left of a set: nothing of none, and else what the writer of sets leaves
module _ (chained : Bool) (m : RuleMaps) (s : List ℕ) {at : ℕ} where
  pub left_null : at ≡ 0 → set_left chained m s at ≡ None
  unfolding set_left
  left_null z = rw (eq-eqb at 0 z)

  left_there : (at ≡ 0 → ⊥) → block (set_words (rule_words chained)) (cut_set chained m (rule_set chained s at)) ≡ set_left chained m s at
  unfolding set_left
  left_there z = rw (ne_eqb at 0 z)

  pub leaves_null : {a : List ℕ} {p : ℕ} → at ≡ 0 → Leaves a p (set_left chained m s at) (set_most (set_left chained m s at) s) a 0
  leaves_null z = leaves_none (left_null z) keeps_none

  pub leaves_there : {a b : List ℕ} {p r : ℕ} → (at ≡ 0 → ⊥)
      → Leaves a p (block (set_words (rule_words chained)) (cut_set chained m (rule_set chained s at))) (member.set_most (rule_words chained) (cut_set chained m (rule_set chained s at)) s) b r
      → Leaves a p (set_left chained m s at) (set_most (set_left chained m s at) s) b r
  unfolding set_most member.set_most
  leaves_there z w = leaves_said w (left_there z) (omega (arith, words_block chained (cut_set chained m (rule_set chained s at)), ap (λ (o : Option (List ℕ)). length (words_in o)) (left_there z)))

-- the sets that offsets reach, one by one
reached_at : {A : Type 0} (read : ℕ → A) (s : List ℕ) (slot n c : ℕ) → c < n → get_or (reaches read s 0 slot n) c None ≡ reach read s 0 (slot + 2 * c)
unfolding reaches
reached_at read s slot zero c h = absurd (omega arith)
reached_at read s slot (suc n) zero h =
    let e : slot + 2 * 0 ≡ slot = omega arith in
    rw e
reached_at read s slot (suc n) (suc c) h =
    let e : slot + 2 * suc c ≡ slot + 2 + 2 * c = omega arith in
    rw e (reached_at read s (slot + 2) n c (omega arith))

reaches_length : {A : Type 0} (read : ℕ → A) (s : List ℕ) (slot n : ℕ) → length (reaches read s 0 slot n) ≡ n
unfolding reaches
reaches_length read s slot zero = refl
reaches_length read s slot (suc n) = ap suc (reaches_length read s (slot + 2) n)

-- What is left at the place of a class is the slot of the definitions.
module _ (chained : Bool) (m : RuleMaps) (s : List ℕ) (slots : ℕ) (t : List ℕ) (marks c : ℕ) where
  abbrev F : List Rule → List ℕ
  F = set_words (rule_words chained)

  abbrev sets : List (Option (List Rule))
  sets = reaches (rule_set chained s) s 0 slots (count_at s slots)

  null_left : set_left chained m s 0 ≡ None
  null_left = left_null chained m s refl

  past : count_at s slots ≤ c → get_or sets c None ≡ None
  past h = get_or-eq_default sets None (omega (arith, reaches_length (rule_set chained s) s slots (count_at s slots)))

  here : (w : ℕ) (b : Bool) → eqb w 0 ≡ b → set_left chained m s w ≡ block F (bind (cond b None (Some (rule_set chained s (0 + w)))) (cut_set chained m))
  unfolding set_left block bind
  here w true e = rw e
  here w false e = rw (e, zero-add w)

  reached : c < count_at s slots → set_left chained m s (word s (slots + 2 * c)) ≡ block F (bind (get_or sets c None) (cut_set chained m))
  unfolding reach
  reached h = here (word s (slots + 2 * c)) (eqb (word s (slots + 2 * c)) 0) refl ∙ ap (λ (o : Option (List Rule)). block F (bind o (cut_set chained m))) (sym (reached_at (rule_set chained s) s slots (count_at s slots) c h))

  none_block : block F None ≡ None
  unfolding block
  none_block = refl

  pub place_slot : (covered : List ℕ) → member c covered ≡ marked t marks c → set_left chained m s (set_place s slots t marks c) ≡ block F (slot_of (cut_set chained m) covered sets c)
  unfolding set_place bind
  place_slot covered asked = step (leb (count_at s slots) c) refl (marked t marks c) refl
    where
      step : (b : Bool) → leb (count_at s slots) c ≡ b → (d : Bool) → marked t marks c ≡ d
          → set_left chained m s (cond b 0 (cond d (word s (slots + 2 * c)) 0)) ≡ block F (slot_of (cut_set chained m) covered sets c)
      step true e true f = null_left ∙ sym (rw (asked, f, past (leb-true _ _ e)) none_block)
      step true e false f = null_left ∙ sym (rw (asked, f) none_block)
      step false e true f = reached (leb-false _ _ e) ∙ sym (rw (asked, f))
      step false e false f = null_left ∙ sym (rw (asked, f) none_block)
