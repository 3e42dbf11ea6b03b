-- The kept sets of the notes are those of the definitions, and make the same table.
use Prim.Native.Nat.{ℕ, zero, suc, ◌+◌, ◌*◌, ◌≤◌}
use Rattle.std.specs.Prelude.{◌≡◌, Bool, true, false, cond, length, eqb, Option, None, Some}
use Rattle.std.proofs.Math.Path.{refl}
use Rattle.std.proofs.Common.{sym, ap, ◌∙◌, zero-add}
use mathlib.Core.List.{List, [], ◌∷◌, map, append-nil}
use native.Mathlib.Omega.{arith}
use Rattle.meaning.specs.Words.{word, find, bind, push}
use Rattle.meaning.specs.Tables.{Rule, Ligature, Table, reach, reaches, drop_null}
use Rattle.meaning.specs.Cut.{kept_sets, glyphs_of, sets_of, kept_by_glyph, kept_ligatures}
use Rattle.meaning.specs.Layout.{offsets, blocks, block, rule_words, ligature_words, set_words, coverage_words, sets_layout, table_words}
use Rattle.meaning.specs.Packed.{first_of_each, together, sets_header, header, packed, packed_words}
use Rattle.meaning.specs.Subset.{words_in}
use Rattle.laws.specs.PackedReading.{shared_offsets, shared_blocks, packed_sets}
use Rattle.handing.specs.Closed.{members}
use Rattle.range_meets.specs.Met.{met}
use Rattle.placed_sets.specs.Kept.{set_at, kept_of, words_of}
use Rattle.placed_sets.specs.declared.Sort.TheVariants.{Rules, Ligatures}
use Rattle.kept_header.specs.Table.{sets_in, table_of}

-- a kept set as the words of its layout
abbrev pub as_words : {A : Type 0} → (A → List ℕ) → List (ℕ × A) → List (ℕ × List ℕ)
as_words F ks = map (λ e. (e.0, F e.1)) ks

module _ {A : Type 0} (read : ℕ → A) (cutOne : A → Option A) (F : A → List ℕ) (left : ℕ → Option (List ℕ)) (agrees : (p : ℕ) → left p ≡ block F (cutOne (read p))) (s : List ℕ) (slots : ℕ) where
  -- the set of one covered glyph, in both ways of saying it
  one_is : (i x : ℕ) (ks : List (ℕ × A)) (ws : List (ℕ × List ℕ)) → ws ≡ as_words F ks
      → push (bind (set_at left s slots i) (λ v. Some (x, v))) ws ≡ as_words F (push (bind (reach read s 0 (slots + 2 * i)) (λ a. bind (cutOne a) (λ y. Some (x, y)))) ks)
  unfolding set_at reach bind push block
  one_is i x ks ws e = step (word s (slots + 2 * i)) (eqb (word s (slots + 2 * i)) 0)
    where
      told : (p : ℕ) (o : Option A) → left p ≡ block F o → push (bind (left p) (λ v. Some (x, v))) ws ≡ as_words F (push (bind o (λ y. Some (x, y))) ks)
      told p None f = rw f e
      told p (Some a) f = rw f (ap (λ (l : List (ℕ × List ℕ)). (x, F a) ∷ l) e)

      step : (p : ℕ) (b : Bool) → push (bind (cond b None (left p)) (λ v. Some (x, v))) ws ≡ as_words F (push (bind (cond b None (Some (read (0 + p)))) (λ a. bind (cutOne a) (λ y. Some (x, y)))) ks)
      step p true = e
      step p false = rw zero-add (told p (cutOne (read p)) (agrees p))

  pub kept_met : (g : List (ℕ × ℕ)) (i : ℕ) (cov : List ℕ) (n : ℕ) → length cov ≤ n
      → kept_of left s slots (met (find g) i cov) ≡ as_words F (kept_sets cutOne g cov (reaches read s 0 (slots + 2 * i) n))
  unfolding kept_of met kept_sets reaches bind push
  kept_met g i [] n h = refl
  kept_met g i (c ∷ cov) zero h = absurd (omega arith)
  kept_met g i (c ∷ cov) (suc n) h =
      let e : slots + 2 * (i + 1) ≡ slots + 2 * i + 2 = omega arith in
      step (find g c) (rw e at (kept_met g (i + 1) cov n (omega arith)))
    where
      step : (o : Option ℕ) → kept_of left s slots (met (find g) (i + 1) cov) ≡ as_words F (kept_sets cutOne g cov (reaches read s 0 (slots + 2 * i + 2) n))
          → kept_of left s slots (push (bind o (λ x. Some (i, x))) (met (find g) (i + 1) cov))
          ≡ as_words F (push (bind o (λ x. bind (reach read s 0 (slots + 2 * i)) (λ a. bind (cutOne a) (λ y. Some (x, y))))) (kept_sets cutOne g cov (reaches read s 0 (slots + 2 * i + 2) n)))
      step None r = r
      step (Some x) r = one_is i x _ _ r

-- glyphs and words of kept sets
pub glyphs_as : {A : Type 0} (F : A → List ℕ) (ks : List (ℕ × A)) → glyphs_of (as_words F ks) ≡ glyphs_of ks
unfolding glyphs_of
glyphs_as F [] = refl
glyphs_as F (k ∷ ks) = ap (λ (l : List ℕ). k.0 ∷ l) (glyphs_as F ks)

sets_as : {A : Type 0} (F : A → List ℕ) (ks : List (ℕ × A)) → members (words_of (as_words F ks)) ≡ map (block F) (sets_of ks)
unfolding sets_of block
sets_as F [] = refl
sets_as F (k ∷ ks) = ap (λ (l : List (Option (List ℕ))). Some (F k.1) ∷ l) (sets_as F ks)

-- a table by sets with a coverage, in either layout
sets_plain : (cov more : List ℕ) (sets : List (Option (List ℕ))) → sets_in false cov more sets ≡ sets_layout 1 (Some cov ∷ []) more sets
unfolding sets_in sets_layout offsets blocks
sets_plain cov more sets = rw (append-nil cov) refl

sets_packed : (cov more : List ℕ) (sets : List (Option (List ℕ))) → sets_in true cov more sets ≡ packed (sets_header 1 (Some cov) [] more sets)
unfolding sets_in offsets blocks shared_offsets shared_blocks drop_null first_of_each together
sets_packed cov more sets = sym (packed_sets 1 (Some cov) [] more sets ∙ rw (append-nil cov, append-nil cov) refl)

packed_is : (t : Table) → packed (header t) ≡ packed_words t
unfolding packed_words
packed_is t = refl

pub sets_in_lem : (packing : ℕ) (cov more : List ℕ) (sets : List (Option (List ℕ))) (t : Table) → sets_layout 1 (Some cov ∷ []) more sets ≡ table_words t → sets_header 1 (Some cov) [] more sets ≡ header t
    → sets_in (eqb packing 1) cov more sets ≡ words_in packing t
unfolding words_in
sets_in_lem packing cov more sets t e f = step (eqb packing 1)
  where
    step : (b : Bool) → sets_in b cov more sets ≡ cond b (packed_words t) (table_words t)
    step false = sets_plain cov more sets ∙ e
    step true = sets_packed cov more sets ∙ ap packed f ∙ packed_is t

rules_in : (packing : ℕ) (chained : Bool) (cov : List ℕ) (sets : List (Option (List Rule)))
    → sets_in (eqb packing 1) (coverage_words cov) [] (map (block (set_words (rule_words chained))) sets) ≡ words_in packing (Table.by_glyph chained (Some cov) sets)
unfolding table_words header block
rules_in packing chained cov sets = sets_in_lem packing (coverage_words cov) [] (map (block (set_words (rule_words chained))) sets) (Table.by_glyph chained (Some cov) sets) refl refl

ligatures_in : (packing : ℕ) (cov : List ℕ) (sets : List (Option (List Ligature)))
    → sets_in (eqb packing 1) (coverage_words cov) [] (map (block (set_words ligature_words)) sets) ≡ words_in packing (Table.ligatures (Some cov) sets)
unfolding table_words header block
ligatures_in packing cov sets = sets_in_lem packing (coverage_words cov) [] (map (block (set_words ligature_words)) sets) (Table.ligatures (Some cov) sets) refl refl

-- the table of kept sets of rules, and of ligatures
pub rules_as : (packing : ℕ) (chained : Bool) (ks : List (ℕ × List Rule)) → table_of (eqb packing 1) (Rules chained) (as_words (set_words (rule_words chained)) ks) ≡ block (words_in packing) (kept_by_glyph chained ks)
unfolding table_of block kept_by_glyph
rules_as packing chained [] = refl
rules_as packing chained (k ∷ ks) = rw (glyphs_as (set_words (rule_words chained)) (k ∷ ks), sets_as (set_words (rule_words chained)) (k ∷ ks)) (ap (λ (l : List ℕ). Some l) (rules_in packing chained (glyphs_of (k ∷ ks)) (sets_of (k ∷ ks))))

pub ligatures_as : (packing : ℕ) (ks : List (ℕ × List Ligature)) → table_of (eqb packing 1) Ligatures (as_words (set_words ligature_words) ks) ≡ block (words_in packing) (kept_ligatures ks)
unfolding table_of block kept_ligatures
ligatures_as packing [] = refl
ligatures_as packing (k ∷ ks) = rw (glyphs_as (set_words ligature_words) (k ∷ ks), sets_as (set_words ligature_words) (k ∷ ks)) (ap (λ (l : List ℕ). Some l) (ligatures_in packing (glyphs_of (k ∷ ks)) (sets_of (k ∷ ks))))
