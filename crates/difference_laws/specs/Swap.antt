-- Swapping left and right swaps the sides of every entry.
use Rattle.std.specs.Prelude.{ℕ, ◌-◌, ◌≡◌, refl, cond, ◌||◌, List, [], ◌∷◌, eqb}
use Rattle.std.proofs.Common.{sym, ap, ◌∙◌, inl, inr, ⊎_elim}
use Rattle.differences.specs.Content.{Says, Content}
use Rattle.differences.specs.Entries.{Entry, format_entry, differences}
use Rattle.differences.specs.Differs.{In, Paired, RuleDiffers, KeyDiffers, ValueDiffers, PairDiffers, FirstDiffers, Differs}
use Rattle.difference_laws.specs.Lists.{differences_lists}

-- an entry seen from the other side: formats and values change places, a moved rule is ranked where it stands on the other side, and the rest change sides
unfoldable pub mirrored : Entry → Entry
mirrored e =
    cond (eqb e.sort 4) (record { sort = e.sort; side = e.side; first = e.first; rank = e.right; left = e.right; right = e.left })
    (cond (eqb e.sort 1 || eqb e.sort 6) (record { sort = e.sort; side = e.side; first = e.first; rank = e.rank; left = e.right; right = e.left })
    (record { sort = e.sort; side = 1 - e.side; first = e.first; rank = e.rank; left = e.left; right = e.right }))

paired_mirror : (l r : List Says) (i j : ℕ) → Paired l r i j → Paired r l j i
paired_mirror l r i j p = record { rule = p.rule; on_left = p.on_right; on_right = p.on_left; before = sym p.before }

rules_mirror : (g : ℕ) (l r : List Says) (e : Entry) → RuleDiffers g l r e → RuleDiffers g r l (mirrored e)
unfolding mirrored
rules_mirror g l r e (RuleDiffers.left_only i x h alone q) = RuleDiffers.right_only i x h (λ j p. alone j (paired_mirror r l j i p)) (ap mirrored q)
rules_mirror g l r e (RuleDiffers.right_only j y h alone q) = RuleDiffers.left_only j y h (λ i p. alone i (paired_mirror r l j i p)) (ap mirrored q)
rules_mirror g l r e (RuleDiffers.moved i j p apart q) = RuleDiffers.moved j i (paired_mirror l r i j p) (λ z. apart (sym z)) (ap mirrored q)

keys_mirror : {A : Type 0} (only : ℕ → ℕ → Entry) (Both : ℕ → A → A → Entry → Type 0)
    → ((k : ℕ) → mirrored (only k 0) ≡ only k 1) → ((k : ℕ) → mirrored (only k 1) ≡ only k 0)
    → ((k : ℕ) (a b : A) (e : Entry) → Both k a b e → Both k b a (mirrored e))
    → (l r : List (ℕ × A)) (e : Entry) → KeyDiffers only Both l r e → KeyDiffers only Both r l (mirrored e)
keys_mirror only Both zero_one one-zero both l r e (KeyDiffers.in_left k a h n q) = KeyDiffers.in_right k a n h (ap mirrored q ∙ zero_one k)
keys_mirror only Both zero_one one-zero both l r e (KeyDiffers.in_right k b n h q) = KeyDiffers.in_left k b h n (ap mirrored q ∙ one-zero k)
keys_mirror only Both zero_one one-zero both l r e (KeyDiffers.in_both k a b x y d) = KeyDiffers.in_both k b a y x (both k a b e d)

values_mirror : (g second : ℕ) (a b : List ℕ) (e : Entry) → ValueDiffers g second a b e → ValueDiffers g second b a (mirrored e)
unfolding mirrored
values_mirror g second a b e d = record { field = d.field; eight = d.eight; changed = λ z. d.changed (sym z); is = ap mirrored d.is }

pairs_mirror : (g : ℕ) (l r : List (ℕ × List ℕ)) (e : Entry) → PairDiffers g l r e → PairDiffers g r l (mirrored e)
unfolding mirrored
pairs_mirror g = keys_mirror _ (ValueDiffers g) (λ k. refl) (λ k. refl) (values_mirror g)

firsts_mirror : {A : Type 0} (Both : ℕ → List A → List A → Entry → Type 0) → ((g : ℕ) (a b : List A) (e : Entry) → Both g a b e → Both g b a (mirrored e))
    → (l r : List (ℕ × List A)) (e : Entry) → FirstDiffers Both l r e → FirstDiffers Both r l (mirrored e)
unfolding mirrored
firsts_mirror Both both = keys_mirror _ Both (λ k. refl) (λ k. refl) both

format_mirror : (f h : ℕ) (e : Entry) → e ≡ format_entry f h → mirrored e ≡ format_entry h f
unfolding mirrored format_entry
format_mirror f h e q = ap mirrored q

-- a difference is one from the other side
differs_mirror : (l r : Content) (e : Entry) → Differs l r e → Differs r l (mirrored e)
differs_mirror (Content.rules f l) (Content.rules h r) e d =
    ⊎_elim (λ k. inl (sym k.0, firsts_mirror RuleDiffers rules_mirror l r e k.1)) (λ k. inr ((λ z. k.0 (sym z)), format_mirror f h e k.1)) d
differs_mirror (Content.whole x) (Content.whole y) e d = rules_mirror 0 (x ∷ []) (y ∷ []) e d
differs_mirror (Content.pairs l) (Content.pairs r) e d = firsts_mirror PairDiffers pairs_mirror l r e d
differs_mirror (Content.rules f l) (Content.whole y) e d = format_mirror f 3 e d
differs_mirror (Content.rules f l) (Content.pairs r) e d = format_mirror f 1 e d
differs_mirror (Content.whole x) (Content.rules h r) e d = format_mirror 3 h e d
differs_mirror (Content.whole x) (Content.pairs r) e d = format_mirror 3 1 e d
differs_mirror (Content.pairs l) (Content.rules h r) e d = format_mirror 1 h e d
differs_mirror (Content.pairs l) (Content.whole y) e d = format_mirror 1 3 e d

-- seen from the other side twice, an entry is itself
rules_twice : (g : ℕ) (l r : List Says) (e : Entry) → RuleDiffers g l r e → mirrored (mirrored e) ≡ e
unfolding mirrored
rules_twice g l r e (RuleDiffers.left_only i x h alone q) = ap (λ (f : Entry). mirrored (mirrored f)) q ∙ sym q
rules_twice g l r e (RuleDiffers.right_only j y h alone q) = ap (λ (f : Entry). mirrored (mirrored f)) q ∙ sym q
rules_twice g l r e (RuleDiffers.moved i j p apart q) = ap (λ (f : Entry). mirrored (mirrored f)) q ∙ sym q

keys_twice : {A : Type 0} (only : ℕ → ℕ → Entry) (Both : ℕ → A → A → Entry → Type 0) → ((k : ℕ) → mirrored (mirrored (only k 0)) ≡ only k 0) → ((k : ℕ) → mirrored (mirrored (only k 1)) ≡ only k 1)
    → ((k : ℕ) (a b : A) (e : Entry) → Both k a b e → mirrored (mirrored e) ≡ e) → (l r : List (ℕ × A)) (e : Entry) → KeyDiffers only Both l r e → mirrored (mirrored e) ≡ e
keys_twice only Both left right both l r e (KeyDiffers.in_left k a h n q) = ap (λ (f : Entry). mirrored (mirrored f)) q ∙ left k ∙ sym q
keys_twice only Both left right both l r e (KeyDiffers.in_right k b n h q) = ap (λ (f : Entry). mirrored (mirrored f)) q ∙ right k ∙ sym q
keys_twice only Both left right both l r e (KeyDiffers.in_both k a b x y d) = both k a b e d

values_twice : (g second : ℕ) (a b : List ℕ) (e : Entry) → ValueDiffers g second a b e → mirrored (mirrored e) ≡ e
unfolding mirrored
values_twice g second a b e d = ap (λ (f : Entry). mirrored (mirrored f)) d.is ∙ sym d.is

format_twice : (f h : ℕ) (e : Entry) → e ≡ format_entry f h → mirrored (mirrored e) ≡ e
unfolding mirrored format_entry
format_twice f h e q = ap (λ (f : Entry). mirrored (mirrored f)) q ∙ sym q

differs_twice : (l r : Content) (e : Entry) → Differs l r e → mirrored (mirrored e) ≡ e
unfolding mirrored
differs_twice (Content.rules f l) (Content.rules h r) e d = ⊎_elim (λ k. keys_twice _ RuleDiffers (λ g. refl) (λ g. refl) rules_twice l r e k.1) (λ k. format_twice f h e k.1) d
differs_twice (Content.whole x) (Content.whole y) e d = rules_twice 0 (x ∷ []) (y ∷ []) e d
differs_twice (Content.pairs l) (Content.pairs r) e d = keys_twice _ PairDiffers (λ g. refl) (λ g. refl) (λ g. keys_twice _ (ValueDiffers g) (λ s. refl) (λ s. refl) (values_twice g)) l r e d
differs_twice (Content.rules f l) (Content.whole y) e d = format_twice f 3 e d
differs_twice (Content.rules f l) (Content.pairs r) e d = format_twice f 1 e d
differs_twice (Content.whole x) (Content.rules h r) e d = format_twice 3 h e d
differs_twice (Content.whole x) (Content.pairs r) e d = format_twice 3 1 e d
differs_twice (Content.pairs l) (Content.rules h r) e d = format_twice 1 h e d
differs_twice (Content.pairs l) (Content.whole y) e d = format_twice 1 3 e d

-- Each entry of the one list, seen from the other side, is in the other list.
pub swapped : (l r : Content) (e : Entry) → In e (differences l r) → In (mirrored e) (differences r l)
swapped l r e i = (differences_lists r l).all (mirrored e) (differs_mirror l r e ((differences_lists l r).only e i))

-- Seen from the other side twice it is itself, so that no two entries of a list give the same one.
pub swapped_twice : (l r : Content) (e : Entry) → In e (differences l r) → mirrored (mirrored e) ≡ e
swapped_twice l r e i = differs_twice l r e ((differences_lists l r).only e i)
