-- Format 2's slots by a walk over the numbers that the input's class map can have an entry for: one for each class that has one, without the nulls at the end.
use Rattle.std.specs.Prelude.{ℕ, ◌+◌, ◌-◌, ◌≤◌, ◌<◌, ◌≡◌, true, false, cond, length, get_or, take, Option, None, Some}
use Rattle.std.proofs.Math.Path.{refl, ap}
use Rattle.std.proofs.Common.{sym, ◌∙◌, arith, length-append, take_all}
use mathlib.Core.List.{List, [], ◌∷◌, ◌++◌, map, append_assoc, append-nil}
use Rattle.std.proofs.lemmas.List.{take-append-le}
use Rattle.meaning.specs.Words.{bind, is_some, member}
use Rattle.meaning.specs.Tables.{Rule}
use Rattle.meaning.specs.Cut.{slots, keep_slot, trim}
use Rattle.meaning.specs.Layout.{blocks, block}
use Rattle.cell_maps.specs.Cells.{folded}
use Rattle.cell_maps.specs.declared.Map.{Map}
use Rattle.ranked_maps.specs.Present.{top_of, present_from, present, present_one, present_none, present_end}

module _ (cutOne : List Rule → Option (List Rule)) (covered : List ℕ) (sets : List (Option (List Rule))) where
  -- the slot of a class
  abbrev pub slot_of : ℕ → Option (List Rule)
  slot_of c = cond (member c covered) (bind (get_or sets c None) cutOne) None

  -- The slots of the classes from c on, in a loop over the numbers up to the map's top.
  module _ (t : List ℕ) (m : Map) where
    abbrev pub slots_from : ℕ → List (Option (List Rule))
    slots_from c = slots cutOne covered sets (present_from t m c (top_of m + 1 - c))

    pub walk_all : slots_from 0 ≡ slots cutOne covered sets (present t m)
    walk_all =
        let z : top_of m + 1 - 0 ≡ top_of m + 1 = omega arith in
        rw z

    pub walk_one : (c : ℕ) → c ≤ top_of m → is_some (folded t m c) ≡ true → slots_from c ≡ slot_of c ∷ slots_from (c + 1)
    unfolding slots
    walk_one c h e = ap (slots cutOne covered sets) (present_one t m (top_of m + 1) c (omega arith) e)

    pub walk_none : (c : ℕ) → c ≤ top_of m → is_some (folded t m c) ≡ false → slots_from c ≡ slots_from (c + 1)
    walk_none c h e = ap (slots cutOne covered sets) (present_none t m (top_of m + 1) c (omega arith) e)

    pub walk_end : (c : ℕ) → top_of m < c → slots_from c ≡ []
    unfolding slots
    walk_end c h = ap (slots cutOne covered sets) (present_end t m (top_of m + 1) c (omega arith))

-- Nulls at the end.
module _ {A : Type 0} where
  -- a null slot more at the end goes; one that is not null keeps all before it
  trim_null : (done : List (Option A)) → trim (done ++ (None ∷ [])) ≡ trim done
  unfolding trim keep_slot
  trim_null [] = refl
  trim_null (x ∷ done) = ap (keep_slot x) (trim_null done)

  keep_before : (x : Option A) (done : List (Option A)) (a : A) → keep_slot x (done ++ (Some a ∷ [])) ≡ x ∷ (done ++ (Some a ∷ []))
  unfolding keep_slot
  keep_before None [] a = refl
  keep_before None (y ∷ done) a = refl
  keep_before (Some b) done a = refl

  trim_set : (done : List (Option A)) (a : A) → trim (done ++ (Some a ∷ [])) ≡ done ++ (Some a ∷ [])
  unfolding trim keep_slot
  trim_set [] a = refl
  trim_set (x ∷ done) a = ap (keep_slot x) (trim_set done a) ∙ keep_before x done a

  -- What a loop over slots keeps: those that are done and those that are left are all, and h is the number of slots up to the last done one that is not null.
  pub record Slotting (all left done : List (Option A)) (h : ℕ) : Type 0 where
    pub whole : done ++ left ≡ all
    pub near : h ≤ length done
    pub head : trim done ≡ take h done

  module _ {all : List (Option A)} where
    pub slotting_all : {left : List (Option A)} → left ≡ all → Slotting all left [] 0
    unfolding trim
    slotting_all e = record { whole = e; near = omega arith; head = refl }

    pub slotting_said : {left rest done : List (Option A)} {h : ℕ} → Slotting all left done h → left ≡ rest → Slotting all rest done h
    slotting_said k e = rw e at k

    pub slotting_null : {left done : List (Option A)} {h : ℕ} → Slotting all (None ∷ left) done h → Slotting all left (done ++ (None ∷ [])) h
    slotting_null {left} {done} {h} k = record {
      whole = append_assoc done (None ∷ []) left ∙ k.whole;
      near = omega (arith, k.near, length-append done (None ∷ []));
      head = trim_null done ∙ k.head ∙ sym (take-append-le h done (None ∷ []) k.near);
    }

    pub slotting_set : {left done : List (Option A)} {h : ℕ} {a : A} → Slotting all (Some a ∷ left) done h → Slotting all left (done ++ (Some a ∷ [])) (length done + 1)
    slotting_set {left} {done} {h} {a} k = record {
      whole = append_assoc done (Some a ∷ []) left ∙ k.whole;
      near = omega (arith, length-append done (Some a ∷ []));
      head = trim_set done a ∙ sym (take_all (length done + 1) (done ++ (Some a ∷ [])) (omega (arith, length-append done (Some a ∷ []))));
    }

    pub slotting_end : {done : List (Option A)} {h : ℕ} → Slotting all [] done h → (done ≡ all) × (trim all ≡ take h all)
    slotting_end {done} {h} k =
        let e : done ≡ all = sym (append-nil done) ∙ k.whole in
        (e, rw e at k.head)

-- Blocks: the words F of each slot that is not null.
module _ {A : Type 0} (F : A → List ℕ) where
  -- nulls at the end go from the blocks as they go from the slots
  keep_block : (x : Option A) (l : List (Option A)) → map (block F) (keep_slot x l) ≡ keep_slot (block F x) (map (block F) l)
  unfolding keep_slot block
  keep_block None [] = refl
  keep_block None (y ∷ l) = refl
  keep_block (Some a) l = refl

  pub trim_blocks : (l : List (Option A)) → map (block F) (trim l) ≡ trim (map (block F) l)
  unfolding trim
  trim_blocks [] = refl
  trim_blocks (x ∷ l) = keep_block x (trim l) ∙ ap (keep_slot (block F x)) (trim_blocks l)

-- and they have no words
keep_words : (x : Option (List ℕ)) (l : List (Option (List ℕ))) → blocks (keep_slot x l) ≡ blocks (x ∷ l)
unfolding keep_slot blocks
keep_words None [] = refl
keep_words None (y ∷ l) = refl
keep_words (Some b) l = refl

cons_words : (x : Option (List ℕ)) (l r : List (Option (List ℕ))) → blocks l ≡ blocks r → blocks (x ∷ l) ≡ blocks (x ∷ r)
unfolding blocks
cons_words None l r e = e
cons_words (Some b) l r e = ap (λ (k : List ℕ). b ++ k) e

pub trim_words : (l : List (Option (List ℕ))) → blocks (trim l) ≡ blocks l
unfolding trim
trim_words [] = refl
trim_words (x ∷ l) = keep_words x (trim l) ∙ cons_words x (trim l) l (trim_words l)
