-- The ways through a context of format 3, and through the three formats.
use Prim.Native.Nat.{ℕ, zero, suc, ◌+◌, ◌*◌, ◌≤◌, ◌<◌}
use mathlib.Core.Path.{◌≡◌, refl, sym, ap, ◌∙◌}
use mathlib.Core.Bool.{Bool, true, false, cond, ◌&&◌, true≢false}
use Rattle.std.specs.Prelude.{Option, None, Some}
use mathlib.Core.List.{List, [], ◌∷◌}
use mathlib.Core.Logic.{inl, inr}
use native.Mathlib.Omega.{arith}
use native.Mathlib.Nat.{zero-add}
use lib.ListN.{length, get_or, drop}
use lib.Dec.{eqb}
use borrow.Author.Tests.{eq-eqb, ne_eqb}
use Rattle.meaning.specs.Words.{word, words, entries}
use Rattle.meaning.specs.Parts.{coverage, coverage_sound, classes, classes_sound}
use Rattle.meaning.specs.Tables.{reach, reaches, class_context, cover_context, context}
use Rattle.meaning.specs.Fault.{fault_through, coverage_fault, classes_fault, covers_fault, context_fault}
use Rattle.meaning.specs.Matching.{at_place, match, fits, covers?}
use Rattle.laws.specs.Left.{words_length}
use Rattle.laws.specs.SoundGood.{part_sound, lowest_none, header_good}
use Rattle.replay_laws.specs.Places.{backward, at_place_lem, no_place}
use Rattle.rules.specs.declared.RuleParts.{RuleParts}
use Rattle.class_stretches.specs.Tables.{table_at, NullOrSound}
use Rattle.holding.specs.Held.{held, runs_on}
use Rattle.holding.specs.Fitting.{parts_fit, FineParts}
use Rattle.matching.specs.Fitting.{SoundTables, Told}
use Rattle.matching.specs.Formats.{SoundCover, SoundClasses, match_at, glyph_context, classes_at}
use Rattle.matching.specs.Rows.{SoundRow, IsCovers}
use Rattle.holding.specs.declared.How.{How}
use Rattle.matching.specs.declared.Matched.{Matched}
use Rattle.matching.proofs.Fitting.{drop_more}
use Rattle.matching.proofs.Formats.{told_none, told_same}

-- A row of coverages without a fault is sound.
row_sound : (s : List ℕ) (slot n : ℕ) → fault_through (coverage_fault s) s 0 slot n ≡ None → SoundRow s (record { at = slot; len = n })
unfolding fault_through coverage_fault
row_sound s slot zero h i l z = absurd (omega arith)
row_sound s slot (suc n) h zero l z =
    let e : slot + 2 * 0 ≡ slot = omega arith in
    let z' : word s slot ≡ 0 → ⊥ = rw e at z in
    let q = (lowest_none (cond (eqb (word s slot) 0) None (coverage_fault s (0 + word s slot))) (fault_through (coverage_fault s) s 0 (slot + 2) n) h).0 in
    let r = rw (ne_eqb (word s slot) 0 z', zero-add (word s slot)) at q in
    rw e (part_sound (word s slot) (coverage_sound s (word s slot)) None r).0
row_sound s slot (suc n) h (suc i) l z =
    let e : slot + 2 * suc i ≡ slot + 2 + 2 * i = omega arith in
    let q = (lowest_none (cond (eqb (word s slot) 0) None (coverage_fault s (0 + word s slot))) (fault_through (coverage_fault s) s 0 (slot + 2) n) h).1 in
    rw e (row_sound s (slot + 2) n q i (omega arith) (rw e at z))

no_row : (s : List ℕ) (at : ℕ) → SoundRow s (record { at = at; len = 0 })
no_row s at i l z = absurd (omega arith)

module _ (s : List ℕ) where
  pub plain_covers_lem : {count k : ℕ} → (count ≡ word s 2) × (count < 65536) → (k ≡ word s 4) × (k < 65536)
      → IsCovers false s (record { back = record { at = 0; len = 0 }; count = count; input = record { at = 6; len = count }; ahead = record { at = 0; len = 0 }; records = record { at = 6 + 2 * count; len = k } })
  unfolding cover_context covers_fault reaches
  plain_covers_lem {count} {k} c r = record {
    is = rw (c.0, r.0);
    count = refl;
    sound = λ h. (no_row s 0, rw c.0 (row_sound s 6 (word s 2) (part_sound 0 _ (fault_through (coverage_fault s) s 0 6 (word s 2)) h).1), no_row s 0);
    near_back = record { close = omega arith; short = omega arith };
    near_input = record { close = omega arith; short = omega arith };
    near_ahead = record { close = omega arith; short = omega arith };
    near_records = record { close = omega arith; short = omega arith };
  }

  pub chained_covers_lem : {b n a k : ℕ} → (b ≡ word s 2) × (b < 65536) → (n ≡ word s (4 + 2 * b)) × (n < 65536) → (a ≡ word s (4 + 2 * b + 2 + 2 * n)) × (a < 65536) → (k ≡ word s (4 + 2 * b + 2 + 2 * n + 2 + 2 * a)) × (k < 65536)
      → IsCovers true s
      (record {
        back = record { at = 4; len = b };
        count = n;
        input = record { at = 4 + 2 * b + 2; len = n };
        ahead = record { at = 4 + 2 * b + 2 + 2 * n + 2; len = a };
        records = record { at = 4 + 2 * b + 2 + 2 * n + 2 + 2 * a + 2; len = k };
      })
  unfolding cover_context covers_fault
  chained_covers_lem {b} {n} {a} {k} f c g r = record {
    is = rw (r.0, g.0, c.0, f.0);
    count = refl;
    sound = λ h.
        let i = 4 + 2 * b in
        let j = i + 2 + 2 * n in
        let p = (part_sound 0 _ _ h).1 in
        let u = lowest_none (fault_through (coverage_fault s) s 0 4 (word s 2)) _ p in
        let v = lowest_none (fault_through (coverage_fault s) s 0 (4 + 2 * word s 2 + 2) (word s (4 + 2 * word s 2))) _ u.1 in
        (row_sound s 4 b (rw (← f.0) at u.0), row_sound s (i + 2) n (rw (← f.0, ← c.0) at v.0), row_sound s (j + 2) a (rw (← f.0, ← c.0, ← g.0) at v.1));
    near_back = record { close = omega arith; short = omega arith };
    near_input = record { close = omega arith; short = omega arith };
    near_ahead = record { close = omega arith; short = omega arith };
    near_records = record { close = omega arith; short = omega arith };
  }

-- Coverages are held as numbers of their own sort.
abbrev pub as_covers : How
as_covers = record { sort = 2; back = 0; input = 0; ahead = 0 }

held_cover : (s : List ℕ) (at g : ℕ) → covers? (reach (coverage s) s 0 at) g ≡ held s 2 0 (word s at) g
unfolding reach held
held_cover s at g = rw (zero-add (word s at))

fits_covers : (s : List ℕ) (at n : ℕ) (gs : List ℕ) → fits covers? (reaches (coverage s) s 0 at n) gs ≡ fits (held s 2 0) (words s at n) gs
unfolding fits reaches words
fits_covers s at zero gs = refl
fits_covers s at (suc n) [] = refl
fits_covers s at (suc n) (g ∷ gs) = rw (fits_covers s (at + 2) n gs) (ap (λ (b : Bool). b && fits (held s 2 0) (words s (at + 2) n) gs) (held_cover s at g))

covers_length : (s : List ℕ) (at n : ℕ) → length (reaches (coverage s) s 0 at n) ≡ n
unfolding reaches
covers_length s at zero = refl
covers_length s at (suc n) = ap suc (covers_length s (at + 2) n)

drop_here : (text : List ℕ) (k : ℕ) → k < length text → get_or text k 0 ∷ drop (suc k) text ≡ drop k text
drop_here [] k h = absurd (omega arith)
drop_here (g ∷ text) zero h = refl
drop_here (g ∷ text) (suc k) h = drop_here text k (omega arith)

module _ {chained : Bool} {s : List ℕ} {r : RuleParts} (k : IsCovers chained s r) where
  pub covers_fine : covers_fault chained s ≡ None → FineParts s as_covers r
  covers_fine h =
      let q = k.sound h in
      record {
        count = omega (arith, k.count, k.near_input.short);
        back = record { near = omega (arith, k.near_back.close, k.near_back.short); sound = λ i l. record { by_class = λ e. absurd (omega arith); by_cover = λ x y. q.0 i l } };
        input = record { near = omega (arith, k.near_input.close, k.near_input.short); sound = λ i l. record { by_class = λ e. absurd (omega arith); by_cover = λ x y. q.1 i l } };
        ahead = record { near = omega (arith, k.near_ahead.close, k.near_ahead.short); sound = λ i l. record { by_class = λ e. absurd (omega arith); by_cover = λ x y. q.2 i l } };
      }

  module _ (text : List ℕ) (place : ℕ) (l : place < length text) where
    covers_match : match_at (cover_context chained s) text place ≡ cond (parts_fit s as_covers r text place place) (Some (r.count, entries s r.records.at r.records.len)) None
    unfolding match parts_fit runs_on
    covers_match =
        rw (
          k.is,
          drop_here text place l,
          covers_length s r.input.at r.input.len,
          fits_covers s r.input.at r.input.len (drop place text),
          fits_covers s r.ahead.at r.ahead.len (drop r.input.len (drop place text)),
          fits_covers s r.back.at r.back.len (backward text place),
          drop_more text r.input.len place,
          k.count,
        )

    pub covers_told : {b : Bool} → b ≡ parts_fit s as_covers r text place place → b ≡ true → Told s (match_at (cover_context chained s) text place) (Some (record { input_len = r.count; records = r.records }))
    covers_told e h = record {
      says = sym (covers_match ∙ rw (← e, h));
      small = (omega (arith, k.count, k.near_input.short), omega (arith, k.near_records.close), k.near_records.short);
    }

    pub covers_none : {b : Bool} → b ≡ parts_fit s as_covers r text place place → b ≡ false → Told s (match_at (cover_context chained s) text place) None
    covers_none e h = told_none (covers_match ∙ rw (← e, h))

-- Format 2: the class tables of a plain and of a chained context.
class_at : (s : List ℕ) (slot : ℕ) {w : ℕ} → w ≡ word s slot → table_at s w ≡ reach (classes s) s 0 slot
unfolding reach table_at
class_at s slot e = rw (e, zero-add (word s slot))

-- a null table is as good as a sound one
no_table : (s : List ℕ) → NullOrSound s 0
no_table s = record { sound = λ z. absurd (z refl) }

module _ (s : List ℕ) where
  pub plain_tables : {w : ℕ} → w ≡ word s 4 → SoundClasses false s → SoundTables s (record { sort = 1; back = 0; input = w; ahead = 0 })
  plain_tables e h = record { sort = omega arith; back = λ q. no_table s; input = λ q. rw e (h 4 (inl refl)); ahead = λ q. no_table s }

  pub chained_tables : {b i a : ℕ} → b ≡ word s 4 → i ≡ word s 6 → a ≡ word s 8 → SoundClasses true s → SoundTables s (record { sort = 1; back = b; input = i; ahead = a })
  chained_tables e f g h = record {
    sort = omega arith;
    back = λ q. rw e (h 4 (inl refl));
    input = λ q. rw f (h 6 (inr (refl, inl refl)));
    ahead = λ q. rw g (h 8 (inr (refl, inr refl)));
  }

  module _ (text : List ℕ) (place : ℕ) {m : Option Matched} where
    pub plain_classes : {w : ℕ} → w ≡ word s 4 → Told s (match_at (classes_at false s (record { sort = 1; back = 0; input = w; ahead = 0 }) 6) text place) m → Told s (match_at (class_context false s) text place) m
    unfolding class_context table_at
    plain_classes e t = rw (← class_at s 4 e) t

    pub chained_classes : {b i a : ℕ} → b ≡ word s 4 → i ≡ word s 6 → a ≡ word s 8
        → Told s (match_at (classes_at true s (record { sort = 1; back = b; input = i; ahead = a }) 10) text place) m → Told s (match_at (class_context true s) text place) m
    unfolding class_context table_at
    chained_classes e f g t = rw (← class_at s 4 e, ← class_at s 6 f, ← class_at s 8 g) t

-- The three formats: what the parts of a context without a fault are, and what each format answers.
class_sound : (s : List ℕ) (at : ℕ) → classes_fault s at ≡ None → classes_sound s at ≡ true
unfolding classes_fault
class_sound s at h = (part_sound at (classes_sound s at) None h).0

pub offset_sound : (s : List ℕ) (fault_at : ℕ → Option ℕ) (test : ℕ → Bool) → ((at : ℕ) → fault_at at ≡ None → test at ≡ true) → (slot n : ℕ) → fault_through fault_at s 0 slot (suc n) ≡ None
    → ((word s slot ≡ 0 → ⊥) → test (word s slot) ≡ true) × (fault_through fault_at s 0 (slot + 2) n ≡ None)
unfolding fault_through
offset_sound s fault_at test k slot n h =
    let q = lowest_none (cond (eqb (word s slot) 0) None (fault_at (0 + word s slot))) (fault_through fault_at s 0 (slot + 2) n) h in
    (λ z. k (word s slot) (rw (ne_eqb (word s slot) 0 z, zero-add (word s slot)) at q.0), q.1)

pub cover_fine : (s : List ℕ) (at : ℕ) → coverage_fault s at ≡ None → coverage_sound s at ≡ true
unfolding coverage_fault
cover_fine s at h = (part_sound at (coverage_sound s at) None h).0

module _ (chained : Bool) (s string : List ℕ) (n place : ℕ) where
  abbrev text : List ℕ
  text = words string 0 n

  pub context_past : n ≤ place → Told s (at_place (match (context chained s)) [] text place) None
  context_past h = told_none (no_place (match (context chained s)) text place (omega (arith, words_length string 0 n)))

  module _ (h : context_fault chained s ≡ None) (l : place < n) {format : ℕ} (e : format ≡ word s 0) where
    here : at_place (match (context chained s)) [] text place ≡ match_at (context chained s) text place
    here = at_place_lem (match (context chained s)) text place (omega (arith, words_length string 0 n))

    pub context_glyphs : format ≡ 1 → {m : Option Matched} → Told s (match_at (glyph_context chained s) text place) m → Told s (at_place (match (context chained s)) [] text place) m
    unfolding context
    context_glyphs f t = told_same (here ∙ rw (← e, eq-eqb format 1 f)) t

    pub context_classes : (format ≡ 1 → ⊥) → format ≡ 2 → {m : Option Matched} → Told s (match_at (class_context chained s) text place) m → Told s (at_place (match (context chained s)) [] text place) m
    unfolding context
    context_classes f g t = told_same (here ∙ rw (← e, ne_eqb format 1 f, eq-eqb format 2 g)) t

    pub context_covers : (format ≡ 1 → ⊥) → (format ≡ 2 → ⊥) → {m : Option Matched} → Told s (match_at (cover_context chained s) text place) m → Told s (at_place (match (context chained s)) [] text place) m
    unfolding context
    context_covers f g t = told_same (here ∙ rw (← e, ne_eqb format 1 f, ne_eqb format 2 g)) t

module _ (s : List ℕ) {format : ℕ} (e : format ≡ word s 0) where
  pub glyphs_fine : (chained : Bool) → context_fault chained s ≡ None → format ≡ 1 → SoundCover s
  unfolding context_fault
  glyphs_fine chained h f = (offset_sound s (coverage_fault s) (coverage_sound s) (cover_fine s) 2 0 (header_good s _ 0 4 _ (rw (← e, eq-eqb format 1 f) at h)).1).0

  pub covers_fault_lem : (chained : Bool) → context_fault chained s ≡ None → (format ≡ 1 → ⊥) → (format ≡ 2 → ⊥) → covers_fault chained s ≡ None
  unfolding context_fault
  covers_fault_lem chained h f g = rw (← e, ne_eqb format 1 f, ne_eqb format 2 g) at h

  pub classes_fine : (chained : Bool) → context_fault chained s ≡ None → (format ≡ 1 → ⊥) → format ≡ 2 → SoundCover s × SoundClasses chained s
  unfolding context_fault
  classes_fine true h f g =
      let q = header_good s _ 3 10 _ (rw (← e, ne_eqb format 1 f, eq-eqb format 2 g) at h) in
      let a = offset_sound s (classes_fault s) (classes_sound s) (class_sound s) 4 2 q.2 in
      let b = offset_sound s (classes_fault s) (classes_sound s) (class_sound s) 6 1 a.1 in
      let d = offset_sound s (classes_fault s) (classes_sound s) (class_sound s) 8 0 b.1 in
      ((offset_sound s (coverage_fault s) (coverage_sound s) (cover_fine s) 2 0 q.1).0, three (record { sound = a.0 }) (record { sound = b.0 }) (record { sound = d.0 }))
    where
      three : NullOrSound s (word s 4) → NullOrSound s (word s 6) → NullOrSound s (word s 8) → SoundClasses true s
      three x y z at (inl p) = rw p x
      three x y z at (inr (p, inl q)) = rw q y
      three x y z at (inr (p, inr q)) = rw q z
  classes_fine false h f g =
      let q = header_good s _ 1 6 _ (rw (← e, ne_eqb format 1 f, eq-eqb format 2 g) at h) in
      let a = offset_sound s (classes_fault s) (classes_sound s) (class_sound s) 4 0 q.2 in
      ((offset_sound s (coverage_fault s) (coverage_sound s) (cover_fine s) 2 0 q.1).0, one (record { sound = a.0 }))
    where
      one : NullOrSound s (word s 4) → SoundClasses false s
      one x at (inl p) = rw p x
      one x at (inr (p, q)) = absurd (true≢false (sym p))
