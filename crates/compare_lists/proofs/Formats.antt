-- Contexts of different formats: the format is what differs.
use Prim.Native.Nat.{ℕ, ◌+◌, ◌≤◌}
use mathlib.Core.Path.{◌≡◌, refl, sym, ap, ◌∙◌}
use mathlib.Core.Bool.{Bool, true, false, cond}
use mathlib.Core.List.{List, [], ◌∷◌}
use native.Mathlib.Omega.{arith}
use lib.Dec.{leb, eqb}
use borrow.Author.Tests.{eqb-true, eqb-false, ne_eqb, leb-true, le-leb}
use Rattle.meaning.specs.Words.{word}
use Rattle.meaning.specs.Tables.{class_context, cover_context, context, table}
use Rattle.laws.specs.Runs.{both}
use Rattle.laws.specs.ReadsBack.{table_context}
use Rattle.differences.specs.Content.{Content, content}
use Rattle.differences.specs.Entries.{format_entry, differences}
use Rattle.differences.specs.Compare.{compared_format}
use Rattle.listing.specs.Listed.{entry_of, Listed, listed_said}

-- a content of rules has this format
abbrev Formatted : ℕ → Content → Type 0
Formatted f (Content.rules h l) = f ≡ h
Formatted f (Content.whole x) = f ≡ 3
Formatted f (Content.pairs l) = ⊥

context_formatted : (chained : Bool) (s : List ℕ) → 1 ≤ word s 0 → word s 0 ≤ 3 → Formatted (word s 0) (content (context chained s))
unfolding context content class_context cover_context
context_formatted chained s h k = go (eqb (word s 0) 1) (eqb (word s 0) 2) refl refl
  where
    go : (one two : Bool) → eqb (word s 0) 1 ≡ one → eqb (word s 0) 2 ≡ two → Formatted (word s 0) (content (context chained s))
    go true two p q = rw p (eqb-true (word s 0) 1 p)
    go false true p q = rw (p, q) (by_class chained)
      where
        by_class : (c : Bool) → Formatted (word s 0) (content (class_context c s))
        by_class false = eqb-true (word s 0) 2 q
        by_class true = eqb-true (word s 0) 2 q
    go false false p q = rw (p, q) (by_cover chained)
      where
        three : word s 0 ≡ 3
        three = omega (arith, eqb-false (word s 0) 1 p, eqb-false (word s 0) 2 q)

        by_cover : (c : Bool) → Formatted (word s 0) (content (cover_context c s))
        by_cover false = three
        by_cover true = three

formats_differ : (x y : Content) (f h : ℕ) → Formatted f x → Formatted h y → (f ≡ h → ⊥) → differences x y ≡ format_entry f h ∷ []
unfolding differences
formats_differ (Content.rules a l) (Content.rules b r) f h p q n = rw (← p, ← q, ne_eqb f h n)
formats_differ (Content.rules a l) (Content.whole y) f h p q n = rw (← p, q)
formats_differ (Content.whole x) (Content.rules b r) f h p q n = rw (p, ← q)
formats_differ (Content.whole x) (Content.whole y) f h p q n = absurd (n (p ∙ sym q))
formats_differ (Content.rules a l) (Content.pairs r) f h p q n = absurd q
formats_differ (Content.whole x) (Content.pairs r) f h p q n = absurd q
formats_differ (Content.pairs l) y f h p q n = absurd p

-- a context's kind
pub context_kind : (kind : ℕ) → 1 ≤ kind → kind ≤ 2 → kind ≡ cond (eqb kind 2) 2 1
context_kind kind h k = go (eqb kind 2) refl
  where
    go : (b : Bool) → eqb kind 2 ≡ b → kind ≡ cond b 2 1
    go true e = eqb-true kind 2 e
    go false e = omega (arith, eqb-false kind 2 e)

module _ (kind : ℕ) (one : 1 ≤ kind) (two : kind ≤ 2) where
  formatted : (s : List ℕ) → compared_format kind (word s 0) ≡ true → Formatted (word s 0) (content (table kind s))
  unfolding compared_format
  formatted s h =
      let k = both (leb 1 (word s 0)) (leb (word s 0) 3) (rw (le-leb kind 2 two) at h) in
      let e : table kind s ≡ context (eqb kind 2) s = ap (λ (n : ℕ). table n s) (context_kind kind one two) ∙ table_context s (eqb kind 2) in
      rw e (context_formatted (eqb kind 2) s (leb-true 1 (word s 0) k.0) (leb-true (word s 0) 3 k.1))

  pub formats_listed : (l r : List ℕ) → compared_format kind (word l 0) ≡ true → compared_format kind (word r 0) ≡ true → (word l 0 ≡ word r 0 → ⊥)
      → {f h : ℕ} → f ≡ word l 0 → h ≡ word r 0 → {out out' : List ℕ} {pos q : ℕ} → Listed (entry_of 1 0 0 0 f h ∷ []) out pos out' q
      → Listed (differences (content (table kind l)) (content (table kind r))) out pos out' q × (q ≤ pos + 12)
  unfolding format_entry
  formats_listed l r a b n {f} {h} x y k =
      let e : entry_of 1 0 0 0 f h ∷ [] ≡ differences (content (table kind l)) (content (table kind r)) =
      rw (x, y) (sym (formats_differ (content (table kind l)) (content (table kind r)) (word l 0) (word r 0) (formatted l a) (formatted r b) n)) in
      (listed_said k e, omega (arith, k.place))
