-- The six numbers of each entry are words, so that the bytes of a list read back as its entries.
use Rattle.std.specs.Prelude.{ℕ, zero, suc, ◌≤◌, ◌<◌, ◌≡◌, refl, List, [], ◌∷◌, length, get_or, Some}
use Rattle.std.proofs.Common.{inl, inr, ⊎_elim, arith}
use Rattle.laws.specs.Stands.{All, Word}
use Rattle.differences.specs.Content.{Says, Content}
use Rattle.differences.specs.Entries.{Entry, beside, format_entry, differences}
use Rattle.differences.specs.Compare.{entry_words}
use Rattle.difference_laws.specs.Walks.{ranked_in}
use Rattle.differences.specs.Differs.{In, RuleDiffers, KeyDiffers, ValueDiffers, PairDiffers, FirstDiffers, Differs}
use Rattle.difference_laws.specs.Lists.{differences_lists}

-- the six numbers of an entry are words
pub record SmallEntry (e : Entry) : Type 0 where
  pub sort : Word e.sort
  pub side : Word e.side
  pub first : Word e.first
  pub rank : Word e.rank
  pub left : Word e.left
  pub right : Word e.right

-- what stands beside each key is small, and so is the key
abbrev pub SmallBeside : {A : Type 0} → (A → Type 0) → List (ℕ × A) → Type 0
SmallBeside {A} P l = (k : ℕ) (a : A) → beside l k ≡ Some a → Word k × P a

-- few rules
abbrev pub Few : {A : Type 0} → List A → Type 0
Few xs = length xs ≤ 65536

-- a content of words: formats, glyphs and values are words, and ranks are below 65,536
abbrev pub Small : Content → Type 0
Small (Content.rules f l) = Word f × SmallBeside Few l
Small (Content.whole x) = Unit {0}
Small (Content.pairs l) = SmallBeside (SmallBeside (All Word)) l

value_small : (vs : List ℕ) → All Word vs → (i : ℕ) → Word (get_or vs i 0)
value_small [] h i = omega arith
value_small (v ∷ vs) h zero = h.0
value_small (v ∷ vs) h (suc i) = value_small vs h.1 i

rule_small : (g : ℕ) (l r : List Says) → Word g → Few l → Few r → (e : Entry) → RuleDiffers g l r e → SmallEntry e
rule_small g l r w a b e (RuleDiffers.left_only i x h alone q) =
    rw q (record { sort = omega arith; side = omega arith; first = w; rank = omega (arith, ranked_in l i x h); left = omega arith; right = omega arith })
rule_small g l r w a b e (RuleDiffers.right_only j y h alone q) =
    rw q (record { sort = omega arith; side = omega arith; first = w; rank = omega (arith, ranked_in r j y h); left = omega arith; right = omega arith })
rule_small g l r w a b e (RuleDiffers.moved i j p apart q) =
    rw q (record {
      sort = omega arith;
      side = omega arith;
      first = w;
      rank = omega (arith, ranked_in l i p.rule p.on_left);
      left = omega (arith, ranked_in l i p.rule p.on_left);
      right = omega (arith, ranked_in r j p.rule p.on_right);
    })

key_small : {A : Type 0} (only : ℕ → ℕ → Entry) (Both : ℕ → A → A → Entry → Type 0) (P : A → Type 0) → ((k side : ℕ) → Word k → side < 2 → SmallEntry (only k side))
    → ((k : ℕ) (a b : A) → Word k → P a → P b → (e : Entry) → Both k a b e → SmallEntry e)
    → (l r : List (ℕ × A)) → SmallBeside P l → SmallBeside P r → (e : Entry) → KeyDiffers only Both l r e → SmallEntry e
key_small only Both P one two l r p q e (KeyDiffers.in_left k a h n z) = rw z (one k 0 (p k a h).0 (omega arith))
key_small only Both P one two l r p q e (KeyDiffers.in_right k b n h z) = rw z (one k 1 (q k b h).0 (omega arith))
key_small only Both P one two l r p q e (KeyDiffers.in_both k a b x y d) = two k a b (p k a x).0 (p k a x).1 (q k b y).1 e d

value_entry : (g second : ℕ) → Word g → Word second → (a b : List ℕ) → All Word a → All Word b → (e : Entry) → ValueDiffers g second a b e → SmallEntry e
value_entry g second w v a b p q e d =
    rw d.is (record { sort = omega arith; side = omega (arith, d.eight); first = w; rank = v; left = value_small a p d.field; right = value_small b q d.field })

pair_small : (g : ℕ) → Word g → (l r : List (ℕ × List ℕ)) → SmallBeside (All Word) l → SmallBeside (All Word) r → (e : Entry) → PairDiffers g l r e → SmallEntry e
pair_small g w =
    key_small _ (ValueDiffers g) (All Word) (λ k side v h. record { sort = omega arith; side = omega arith; first = w; rank = v; left = omega arith; right = omega arith }) (λ k a b v. value_entry g k w v a b)

first_small : {A : Type 0} (Both : ℕ → List A → List A → Entry → Type 0) (P : List A → Type 0) → ((g : ℕ) (a b : List A) → Word g → P a → P b → (e : Entry) → Both g a b e → SmallEntry e)
    → (l r : List (ℕ × List A)) → SmallBeside P l → SmallBeside P r → (e : Entry) → FirstDiffers Both l r e → SmallEntry e
first_small Both P two = key_small _ Both P (λ k side v h. record { sort = omega arith; side = omega arith; first = v; rank = omega arith; left = omega arith; right = omega arith }) two

format_small : (f h : ℕ) → Word f → Word h → (e : Entry) → e ≡ format_entry f h → SmallEntry e
unfolding format_entry
format_small f h a b e q = rw q (record { sort = omega arith; side = omega arith; first = omega arith; rank = omega arith; left = a; right = b })

-- each difference between contents of words is of words
differs_small : (l r : Content) → Small l → Small r → (e : Entry) → Differs l r e → SmallEntry e
differs_small (Content.rules f l) (Content.rules h r) a b e d =
    ⊎_elim (λ k. first_small RuleDiffers Few (λ g x y w p q. rule_small g x y w p q) l r a.1 b.1 e k.1) (λ k. format_small f h a.0 b.0 e k.1) d
differs_small (Content.whole x) (Content.whole y) a b e d = rule_small 0 (x ∷ []) (y ∷ []) (omega arith) (omega arith) (omega arith) e d
differs_small (Content.pairs l) (Content.pairs r) a b e d = first_small PairDiffers (SmallBeside (All Word)) (λ g x y w p q. pair_small g w x y p q) l r a b e d
differs_small (Content.rules f l) (Content.whole y) a b e d = format_small f 3 a.0 (omega arith) e d
differs_small (Content.rules f l) (Content.pairs r) a b e d = format_small f 1 a.0 (omega arith) e d
differs_small (Content.whole x) (Content.rules h r) a b e d = format_small 3 h (omega arith) b.0 e d
differs_small (Content.whole x) (Content.pairs r) a b e d = format_small 3 1 (omega arith) (omega arith) e d
differs_small (Content.pairs l) (Content.rules h r) a b e d = format_small 1 h (omega arith) b.0 e d
differs_small (Content.pairs l) (Content.whole y) a b e d = format_small 1 3 (omega arith) (omega arith) e d

-- the words of a list whose entries are of words
entries_small : (es : List Entry) → ((e : Entry) → In e es → SmallEntry e) → All Word (entry_words es)
unfolding entry_words
entries_small [] h = tt
entries_small (e ∷ es) h =
    let k = h e (inl refl) in
    (k.sort, (k.side, (k.first, (k.rank, (k.left, (k.right, entries_small es (λ f i. h f (inr i))))))))

pub list_small : (l r : Content) → Small l → Small r → All Word (entry_words (differences l r))
list_small l r a b = entries_small (differences l r) (λ e i. differs_small l r a b e ((differences_lists l r).only e i))
