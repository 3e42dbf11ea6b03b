-- The ways through the formats of a context.
use Prim.Native.Nat.{ℕ, zero, suc, ◌+◌, ◌*◌, ◌≤◌, ◌<◌}
use mathlib.Core.Path.{◌≡◌, refl, sym, ◌∙◌}
use mathlib.Core.Bool.{Bool, true, false, cond, not}
use Rattle.std.specs.Prelude.{Option, None, Some}
use mathlib.Core.List.{List}
use native.Mathlib.Omega.{arith}
use native.Mathlib.Nat.{zero-add}
use lib.ListN.{get_or, drop}
use lib.Dec.{eqb}
use borrow.Author.Tests.{eq-eqb, ne_eqb, not-true, not-false}
use Rattle.meaning.specs.Words.{word, words, bind, member}
use Rattle.meaning.specs.Parts.{coverage, coverage_sound, classes, class_of, listed, class_in}
use Rattle.meaning.specs.Tables.{reach, reaches, rule_set}
use Rattle.meaning.specs.Matching.{match, first_fit, covers?, same_glyph, same_class}
use Rattle.replay_laws.specs.Places.{backward}
use Rattle.coverage_index.specs.Index.{index_of, set_index}
use Rattle.class_stretches.specs.Tables.{table_at, null_table, table_there}
use Rattle.holding.specs.Held.{cover_at, held}
use Rattle.matching.specs.Fitting.{held_by, SoundTables, Told}
use Rattle.matching.specs.Formats.{SoundCover, match_at, set_fit, glyph_context, classes_at}
use Rattle.holding.specs.declared.How.{How}
use Rattle.matching.specs.declared.Matched.{Matched}
use Rattle.holding.proofs.Holding.{place_glyph}

-- nothing, where there is none; and what is told of the same answer
pub told_none : {s : List ℕ} {o : Option (ℕ × List (ℕ × ℕ))} → o ≡ None → Told s o None
told_none e = record { says = sym e; small = tt }

pub told_same : {s : List ℕ} {o p : Option (ℕ × List (ℕ × ℕ))} {r : Option Matched} → o ≡ p → Told s p r → Told s o r
told_same {s} {r = r} e t = record { says = t.says ∙ sym e; small = t.small }

-- a coverage that was read is sound, if it is not null
pub cover_sound : (s : List ℕ) → SoundCover s → {cover : ℕ} → cover ≡ word s 2 → (cover ≡ 0 → ⊥) → coverage_sound s cover ≡ true
cover_sound s h e z = rw e (h (λ q. z (e ∙ q)))

-- the i-th of what offsets in a row reach
module _ {A : Type 0} (read : ℕ → A) (s : List ℕ) (base : ℕ) where
  reaches_at : (slot n i : ℕ) → i < n → get_or (reaches read s base slot n) i None ≡ reach read s base (slot + 2 * i)
  unfolding reaches
  reaches_at slot zero i h = absurd (omega arith)
  reaches_at slot (suc n) zero h =
      let e : slot + 2 * 0 ≡ slot = omega arith in
      rw e
  reaches_at slot (suc n) (suc i) h =
      let e : slot + 2 * suc i ≡ slot + 2 + 2 * i = omega arith in
      rw e (reaches_at (slot + 2) n i (omega arith))

  reaches_past : (slot n i : ℕ) → n ≤ i → get_or (reaches read s base slot n) i None ≡ None
  unfolding reaches
  reaches_past slot zero i h = refl
  reaches_past slot (suc n) zero h = absurd (omega arith)
  reaches_past slot (suc n) (suc i) h = reaches_past (slot + 2) n i (omega arith)

-- The set of a number: past the sets, a null one, and another.
module _ (chained : Bool) (s : List ℕ) (h : How) (slot i : ℕ) (text : List ℕ) (place : ℕ) {n : ℕ} (e : n ≡ word s slot) where
  pub set_past : n ≤ i → Told s (set_fit chained s h slot i text place) None
  unfolding set_fit bind
  set_past l = told_none (rw (← e, reaches_past (rule_set chained s) s 0 (slot + 2) n i l))

  module _ (l : i < n) {off : ℕ} (f : off ≡ word s (slot + 2 + 2 * i)) where
    pub set_null : off ≡ 0 → Told s (set_fit chained s h slot i text place) None
    unfolding set_fit bind reach
    set_null z = told_none (rw (← e, reaches_at (rule_set chained s) s 0 (slot + 2) n i l, ← f, eq-eqb off 0 z))

    pub set_there : (off ≡ 0 → ⊥) → {r : Option Matched} → Told s (first_fit (held_by s h) (rule_set chained s off) (backward text place) (drop (suc place) text)) r → Told s (set_fit chained s h slot i text place) r
    unfolding set_fit bind reach
    set_there z t = told_same (rw (← e, reaches_at (rule_set chained s) s 0 (slot + 2) n i l, ← f, ne_eqb off 0 z, zero-add off)) t

-- The tables of glyphs: no class table is asked.
abbrev pub as_glyphs : How
as_glyphs = record { sort = 0; back = 0; input = 0; ahead = 0 }

pub glyphs_sound : (s : List ℕ) → SoundTables s as_glyphs
glyphs_sound s = record { sort = omega arith; back = λ e. absurd (omega arith); input = λ e. absurd (omega arith); ahead = λ e. absurd (omega arith) }

held_glyphs : (s : List ℕ) → held_by s as_glyphs ≡ same_glyph
unfolding held_by held same_glyph
held_glyphs s = refl

-- Format 1.
module _ (chained : Bool) (s string : List ℕ) (n place : ℕ) {cover : ℕ} (e : cover ≡ word s 2) where
  abbrev text : List ℕ
  text = words string 0 n

  pub glyphs_null : cover ≡ 0 → Told s (match_at (glyph_context chained s) text place) None
  unfolding match reach bind
  glyphs_null z = told_none (rw (← e, eq-eqb cover 0 z))

  module _ (z : cover ≡ 0 → ⊥) (l : place < n) {g : ℕ} (f : g ≡ word string (2 * place)) where
    by_index_lem : match_at (glyph_context chained s) text place ≡ bind (index_of (coverage s cover) g) (λ i. set_fit chained s as_glyphs 4 i text place)
    unfolding match reach bind set_fit
    by_index_lem =
        rw (← e, ne_eqb cover 0 z, zero-add cover, place_glyph string n place l f, set_index (coverage s cover) (reaches (rule_set chained s) s 0 6 (word s 4)) g, held_glyphs s)
        (twice (index_of (coverage s cover) g))
      where
        twice : (o : Option ℕ) → bind (bind o (λ i. get_or (reaches (rule_set chained s) s 0 6 (word s 4)) i None)) (λ rs. first_fit same_glyph rs (backward text place) (drop (suc place) text))
            ≡ bind o (λ i. bind (get_or (reaches (rule_set chained s) s 0 6 (word s 4)) i None) (λ rs. first_fit same_glyph rs (backward text place) (drop (suc place) text)))
        twice None = refl
        twice (Some i) = refl

    pub glyphs_not : None ≡ index_of (coverage s cover) g → Told s (match_at (glyph_context chained s) text place) None
    unfolding bind
    glyphs_not q = told_none (by_index_lem ∙ rw (← q))

    pub glyphs_at : {i : ℕ} → Some i ≡ index_of (coverage s cover) g → {m : Option Matched} → Told s (set_fit chained s as_glyphs 4 i text place) m → Told s (match_at (glyph_context chained s) text place) m
    unfolding bind
    glyphs_at q t = told_same (by_index_lem ∙ rw (← q)) t

-- Format 2.
held_classes : (s : List ℕ) (h : How) → h.sort ≡ 1 → held_by s h ≡ same_class (table_at s h.back) (table_at s h.input) (table_at s h.ahead)
unfolding held_by held same_class
held_classes s h e = rw e

module _ (chained : Bool) (s : List ℕ) (h : How) (slot : ℕ) (string : List ℕ) (n place : ℕ) where
  abbrev glyphs : List ℕ
  glyphs = words string 0 n

  pub classes_null : h.input ≡ 0 → Told s (match_at (classes_at chained s h slot) glyphs place) None
  unfolding match reach bind
  classes_null z = told_none (rw (null_table s z) (step (eqb (word s 2) 0)))
    where
      step : (b : Bool) → bind {B = ℕ × List (ℕ × ℕ)} (cond b None (Some (coverage s (0 + word s 2)))) (λ cov. None) ≡ None
      step true = refl
      step false = refl

  module _ (z : h.input ≡ 0 → ⊥) (w : h.sort ≡ 1) (l : place < n) {cover g : ℕ} (e : cover ≡ word s 2) (f : g ≡ word string (2 * place)) {b : Bool} (k : b ≡ covers? (cover_at s cover) g) where
    by_class : match_at (classes_at chained s h slot) glyphs place ≡ cond b (set_fit chained s h slot (class_of (classes s h.input) g) glyphs place) None
    unfolding match reach bind set_fit covers?
    by_class = rw (held_classes s h w, ← e, zero-add cover, table_there s z, place_glyph string n place l f, k) (step (eqb cover 0))
      where
        step : (t : Bool) → bind (cond t None (Some (coverage s cover)))
            (λ cov. cond (member g cov) (bind (get_or (reaches (rule_set chained s) s 0 (slot + 2) (word s slot)) (class_of (classes s h.input) g) None) (λ rs. first_fit (same_class (table_at s h.back) (Some (classes s h.input)) (table_at s h.ahead)) rs (backward glyphs place) (drop (suc place) glyphs))) None)
            ≡ cond (covers? (cond t None (Some (coverage s cover))) g)
            (bind (get_or (reaches (rule_set chained s) s 0 (slot + 2) (word s slot)) (class_of (classes s h.input) g) None) (λ rs. first_fit (same_class (table_at s h.back) (Some (classes s h.input)) (table_at s h.ahead)) rs (backward glyphs place) (drop (suc place) glyphs))) None
        step true = refl
        step false = refl

    pub classes_not : not b ≡ true → Told s (match_at (classes_at chained s h slot) glyphs place) None
    classes_not q = told_none (by_class ∙ rw (not-true b q))

    pub classes_at_lem : not b ≡ false → {c : ℕ} → c ≡ class_in (table_at s h.input) g → {m : Option Matched} → Told s (set_fit chained s h slot c glyphs place) m → Told s (match_at (classes_at chained s h slot) glyphs place) m
    unfolding class_in listed
    classes_at_lem q d t = told_same (by_class ∙ rw (not-false b q, d, table_there s z)) t
