-- The numbers of classes tell what rules by class say: two rules say the same by numbers exactly if they do so by glyphs.
use Prim.Native.Nat.{ℕ, zero, suc, ◌+◌, ◌*◌, ◌/◌, ◌%◌, ◌<◌}
use mathlib.Core.Path.{◌≡◌, refl, sym, ap, ap₂, ◌∙◌}
use mathlib.Core.Bool.{Bool, true, false, cond}
use Rattle.std.specs.Prelude.{Option, None}
use mathlib.Core.List.{List, [], ◌∷◌, map}
use native.Mathlib.Omega.{arith}
use lib.ListN.{get_or}
use lib.Dec.{eqb}
use borrow.Author.Tests.{ne_eqb}
use Rattle.meaning.specs.Words.{word, words}
use Rattle.meaning.specs.Parts.{classes, class_in}
use Rattle.meaning.specs.Matching.{in_class}
use Rattle.meaning.specs.Tables.{Rule, plain_rule, chained_rule, rule}
use Rattle.laws.specs.Stands.{All, Word}
use Rattle.laws.specs.Through.{Opt}
use Rattle.laws.specs.PartsBack.{Classes}
use Rattle.laws.specs.SoundGood.{bytes_all, classes_good}
use Rattle.differences.specs.Content.{rule_says, one_glyph, class_runs?}
use Rattle.differences.specs.Entries.{same_list, same_two, same_says}
use Rattle.difference_laws.specs.Equal.{Tells, tells_two, tells_list}
use Rattle.difference_laws.specs.Classes.{same_class_lem}
use Rattle.difference_laws.specs.ClassNumbers.{class_number, own_numbers, class_content}
use Rattle.rule_rows.specs.Rows.{side_of, number_by}
use Rattle.rule_says.specs.declared.Shape.{Shape}
use Rattle.rule_says.specs.Said.{numbered, says_at, base_of, says_by, lowest}
use Rattle.class_stretches.specs.Tables.{table_at, NullOrSound, null_table, table_there}
use Rattle.class_strays.specs.Numbered.{ClassesNumbered}
use Rattle.class_places.specs.Places.{back_at, input_at, ahead_at}
use Rattle.class_tables.specs.Contexts.{SoundTables, TablesNumbered, class_says, class_says_by}

-- two tests that tell equality agree where the equalities do
told : {A B : Type 0} {same : A → A → Bool} {also : B → B → Bool} → Tells same → Tells also → (a b : A) (c d : B) → (a ≡ b → c ≡ d) → (c ≡ d → a ≡ b) → same a b ≡ also c d
told {A = A} {B = B} {same = same} {also = also} p q a b c d f g = go (same a b) (also c d) refl refl
  where
    go : (s t : Bool) → same a b ≡ s → also c d ≡ t → s ≡ t
    go true true x y = refl
    go true false x y = sym (ap (λ (z : B). also z d) (f (p.equal a b x)) ∙ q.itself d) ∙ y
    go false true x y = sym x ∙ ap (λ (z : A). same z b) (g (q.equal c d y)) ∙ p.itself b
    go false false x y = refl

-- One table pair.

-- the classes of one table
own_content : (more : ℕ) (t u : Option (List (ℕ × ℕ))) → 65536 < more + 1 → Opt Classes t → (c d : ℕ)
    → (class_number more (class_in t) (class_in u) 65536 c ≡ class_number more (class_in t) (class_in u) 65536 d → class_runs? t c ≡ class_runs? t d)
    × (class_runs? t c ≡ class_runs? t d → class_number more (class_in t) (class_in u) 65536 c ≡ class_number more (class_in t) (class_in u) 65536 d)
unfolding in_class
own_content more t u h k c d =
    let n = own_numbers (class_in t) (class_in u) 65536 more (omega arith) c d in
    let s = same_class_lem t t k k c d in
    ((λ e. s.1 (n.0 e)), λ e. n.1 (s.0 e))

-- numbers by themselves
one_number : (m n : ℕ) → one_glyph m ≡ one_glyph n → m ≡ n
unfolding one_glyph lowest
one_number m n e = ap lowest e

numbered_is : (t : List ℕ) (base w : ℕ) → (base ≡ 0 → ⊥) → numbered t base w ≡ one_glyph (get_or t (base + w) 0)
unfolding numbered number_by
numbered_is t base w z = rw (ne_eqb base 0 z)

-- the table of a side, and where its numbers stand
abbrev table_of : Option (List (ℕ × ℕ)) → Option (List (ℕ × ℕ)) → ℕ → Option (List (ℕ × ℕ))
table_of l r zero = l
table_of l r (suc side) = r

abbrev place_of : ℕ → ℕ → ℕ
place_of base zero = base
place_of base (suc side) = base + 65536

module _ (l r : Option (List (ℕ × ℕ))) (kl : Opt Classes l) (kr : Opt Classes r) {t : List ℕ} {base : ℕ} (there : base ≡ 0 → ⊥) (k : ClassesNumbered l r t base) where
  -- equal numbers, equal classes
  same_content : (x y c d : ℕ) → c < 65536 → d < 65536 → (get_or t (place_of base x + c) 0 ≡ get_or t (place_of base y + d) 0 → class_runs? (table_of l r x) c ≡ class_runs? (table_of l r y) d)
      × (class_runs? (table_of l r x) c ≡ class_runs? (table_of l r y) d → get_or t (place_of base x + c) 0 ≡ get_or t (place_of base y + d) 0)
  same_content zero zero c d p q = rw (k.left c p, k.left d q) (own_content 65536 l r (omega arith) kl c d)
  same_content zero (suc y) c d p q = rw (k.left c p, k.right d q) (class_content l r kl kr c d)
  same_content (suc x) zero c d p q =
      let h = class_content l r kl kr d c in
      rw (k.right c p, k.left d q) ((λ e. sym (h.0 (sym e))), λ e. sym (h.1 (sym e)))
  same_content (suc x) (suc y) c d p q = rw (k.right c p, k.right d q) (own_content 131072 r l (omega arith) kr c d)

  place_there : (x : ℕ) → place_of base x ≡ 0 → ⊥
  place_there zero e = there e
  place_there (suc x) e = omega arith

  classes_told : (x y c d : ℕ) → c < 65536 → d < 65536
      → same_list same_two (numbered t (place_of base x) c) (numbered t (place_of base y) d) ≡ same_list same_two (class_runs? (table_of l r x) c) (class_runs? (table_of l r y) d)
  classes_told x y c d p q =
      let h = same_content x y c d p q in
      rw (numbered_is t (place_of base x) c (place_there x), numbered_is t (place_of base y) d (place_there y))
      (told (tells_list tells_two) (tells_list tells_two) (one_glyph (get_or t (place_of base x + c) 0)) (one_glyph (get_or t (place_of base y + d) 0)) (class_runs? (table_of l r x) c) (class_runs? (table_of l r y) d)
      (λ e. h.0 (one_number _ _ e)) (λ e. ap one_glyph (h.1 e)))

-- Rows of words.

rows_told : {A B : Type 0} (same : A → A → Bool) (also : B → B → Bool) (f g : ℕ → A) (h k : ℕ → B) → ((x y : ℕ) → x < 65536 → y < 65536 → same (f x) (g y) ≡ also (h x) (k y))
    → (xs ys : List ℕ) → All Word xs → All Word ys → same_list same (map f xs) (map g ys) ≡ same_list also (map h xs) (map k ys)
unfolding same_list
rows_told same also f g h k e [] [] p q = refl
rows_told same also f g h k e [] (y ∷ ys) p q = refl
rows_told same also f g h k e (x ∷ xs) [] p q = refl
rows_told same also f g h k e (x ∷ xs) (y ∷ ys) p q = rw (e x y p.0 q.0, rows_told same also f g h k e xs ys p.1 q.1)

-- the words of a source are below 65,536
module _ (s : List ℕ) (bytes : (i : ℕ) → get_or s i 0 < 256) where
  words_small : (at n : ℕ) → All Word (words s at n)
  unfolding words word
  words_small at zero = tt
  words_small at (suc n) = (omega (arith, bytes at, bytes (at + 1)), words_small (at + 2) n)

  -- so are those of a rule
  rule_words : (chained : Bool) (at : ℕ) → All Word (rule chained s at).back × All Word (rule chained s at).input × All Word (rule chained s at).ahead
  unfolding rule plain_rule chained_rule
  rule_words false at = (tt, words_small _ _, tt)
  rule_words true at = (words_small _ _, words_small _ _, words_small _ _)

  -- a sound class table has classes
  table_good : (at : ℕ) → NullOrSound s at → Opt Classes (table_at s at)
  table_good zero k =
      let e : table_at s 0 ≡ None = null_table s refl in
      rw e tt
  table_good (suc at) k =
      let z : suc at ≡ 0 → ⊥ = λ e. omega arith in
      rw (table_there s z) (classes_good s (bytes_all s bytes) (suc at) (k.sound z))

-- Rules.

module _ (b i a c j e : ℕ → List (ℕ × ℕ)) (b' i' a' c' j' e' : ℕ → List (ℕ × ℕ))
    (back : (x y : ℕ) → x < 65536 → y < 65536 → same_list same_two (b x) (c y) ≡ same_list same_two (b' x) (c' y))
    (input : (x y : ℕ) → x < 65536 → y < 65536 → same_list same_two (i x) (j y) ≡ same_list same_two (i' x) (j' y))
    (ahead : (x y : ℕ) → x < 65536 → y < 65536 → same_list same_two (a x) (e y) ≡ same_list same_two (a' x) (e' y)) where
  rules_told : (p q : Rule) → All Word p.back × All Word p.input × All Word p.ahead → All Word q.back × All Word q.input × All Word q.ahead
      → same_says (rule_says b i a p) (rule_says c j e q) ≡ same_says (rule_says b' i' a' p) (rule_says c' j' e' q)
  unfolding same_says rule_says
  rules_told p q u v =
      rw (
        rows_told (same_list same_two) (same_list same_two) b c b' c' back p.back q.back u.0 v.0,
        rows_told (same_list same_two) (same_list same_two) i j i' j' input p.input q.input u.1 v.1,
        rows_told (same_list same_two) (same_list same_two) a e a' e' ahead p.ahead q.ahead u.2 v.2,
      )

-- a side's source and its table
side_bytes : (l r : List ℕ) → ((i : ℕ) → get_or l i 0 < 256) → ((i : ℕ) → get_or r i 0 < 256) → (x i : ℕ) → get_or (side_of x l r) i 0 < 256
unfolding side_of
side_bytes l r bl br zero i = bl i
side_bytes l r bl br (suc x) i = rw (ne_eqb (suc x) 0 (λ q. omega arith)) (br i)

side_table : (l r : List ℕ) (at : List ℕ → ℕ) (x : ℕ) → table_at (side_of x l r) (at (side_of x l r)) ≡ table_of (table_at l (at l)) (table_at r (at r)) x
unfolding side_of
side_table l r at zero = refl
side_table l r at (suc x) = rw (ne_eqb (suc x) 0 (λ q. omega arith))

side_base : (k x : ℕ) → x < 2 → base_of 1 (k + x) ≡ place_of (65536 * k) x
unfolding base_of
side_base k zero h = let e : 65536 * (k + 0) ≡ 65536 * k = omega arith in e
side_base k (suc zero) h = let e : 65536 * (k + 1) ≡ 65536 * k + 65536 = omega arith in e
side_base k (suc (suc x)) h = absurd (omega arith)

-- the kind of a context
kind_rule : (chained : Bool) → eqb (cond chained 2 1) 3 ≡ false
kind_rule false = refl
kind_rule true = refl

kind_chained : (chained : Bool) → eqb (cond chained 2 1) 2 ≡ chained
kind_chained false = refl
kind_chained true = refl

-- Two contexts by class, whose classes are numbered.
module _ (chained : Bool) {l r t : List ℕ} (bl : (i : ℕ) → get_or l i 0 < 256) (br : (i : ℕ) → get_or r i 0 < 256)
    (sl : SoundTables chained l) (sr : SoundTables chained r) (k : TablesNumbered chained l r t) where
  abbrev shape : Shape
  shape = record { kind = cond chained 2 1; classes = 1 }

  -- what a rule of a side says, by numbers and by glyphs
  by_numbers : (x p : ℕ) → x < 2 → says_at (cond chained 2 1) (side_of x l r) t (base_of 1 (1 + x)) (base_of 1 (3 + x)) (base_of 1 (5 + x)) p
      ≡ rule_says (numbered t (place_of 65536 x)) (numbered t (place_of 196608 x)) (numbered t (place_of 327680 x)) (rule chained (side_of x l r) p)
  unfolding says_at
  by_numbers x p h = rw (kind_rule chained, kind_chained chained, side_base 1 x h, side_base 3 x h, side_base 5 x h)

  by_glyphs : (x p : ℕ) → class_says chained (side_of x l r) p
      ≡ rule_says (class_runs? (table_of (table_at l (back_at chained l)) (table_at r (back_at chained r)) x)) (class_runs? (table_of (table_at l (input_at chained l)) (table_at r (input_at chained r)) x))
      (class_runs? (table_of (table_at l (ahead_at chained l)) (table_at r (ahead_at chained r)) x)) (rule chained (side_of x l r) p)
  unfolding class_says
  by_glyphs x p = rw (side_table l r (back_at chained) x, side_table l r (input_at chained) x, side_table l r (ahead_at chained) x)

  sides_told : (x y p q : ℕ)
      → same_says (rule_says (numbered t (place_of 65536 x)) (numbered t (place_of 196608 x)) (numbered t (place_of 327680 x)) (rule chained (side_of x l r) p))
      (rule_says (numbered t (place_of 65536 y)) (numbered t (place_of 196608 y)) (numbered t (place_of 327680 y)) (rule chained (side_of y l r) q))
      ≡ same_says (class_says chained (side_of x l r) p) (class_says chained (side_of y l r) q)
  sides_told x y p q =
      rules_told (numbered t (place_of 65536 x)) (numbered t (place_of 196608 x)) (numbered t (place_of 327680 x)) (numbered t (place_of 65536 y)) (numbered t (place_of 196608 y)) (numbered t (place_of 327680 y))
      (class_runs? (table_of bt bu x)) (class_runs? (table_of it iu x)) (class_runs? (table_of at au x)) (class_runs? (table_of bt bu y)) (class_runs? (table_of it iu y)) (class_runs? (table_of at au y))
      (classes_told bt bu (table_good l bl (back_at chained l) sl.back) (table_good r br (back_at chained r) sr.back) (λ e. omega arith) k.back x y)
      (classes_told it iu (table_good l bl (input_at chained l) sl.input) (table_good r br (input_at chained r) sr.input) (λ e. omega arith) k.input x y)
      (classes_told at au (table_good l bl (ahead_at chained l) sl.ahead) (table_good r br (ahead_at chained r) sr.ahead) (λ e. omega arith) k.ahead x y)
      (rule chained (side_of x l r) p) (rule chained (side_of y l r) q) (rule_words (side_of x l r) (side_bytes l r bl br x) chained p) (rule_words (side_of y l r) (side_bytes l r bl br y) chained q)
      ∙ sym (ap₂ same_says (by_glyphs x p) (by_glyphs y q))
    where
      bt : Option (List (ℕ × ℕ))
      bt = table_at l (back_at chained l)

      bu : Option (List (ℕ × ℕ))
      bu = table_at r (back_at chained r)

      it : Option (List (ℕ × ℕ))
      it = table_at l (input_at chained l)

      iu : Option (List (ℕ × ℕ))
      iu = table_at r (input_at chained r)

      at : Option (List (ℕ × ℕ))
      at = table_at l (ahead_at chained l)

      au : Option (List (ℕ × ℕ))
      au = table_at r (ahead_at chained r)

  -- `class_says_tell`: two rules say the same by numbers exactly if they do so by glyphs
  pub class_says_tell : (x y : ℕ) → same_says (says_by shape l r t x) (says_by shape l r t y) ≡ same_says (class_says_by chained l r x) (class_says_by chained l r y)
  unfolding says_by class_says_by
  class_says_tell x y = ap₂ same_says (by_numbers (x % 2) (x / 2) (omega arith)) (by_numbers (y % 2) (y / 2) (omega arith)) ∙ sides_told (x % 2) (y % 2) (x / 2) (y / 2)

-- the code of a rule has its place and its side
pub code_says : (chained : Bool) (l r : List ℕ) (side : ℕ) → side < 2 → (p : ℕ) → class_says_by chained l r (2 * p + side) ≡ class_says chained (side_of side l r) p
unfolding class_says_by
code_says chained l r side h p =
    let e : (2 * p + side) % 2 ≡ side = omega arith in
    let f : (2 * p + side) / 2 ≡ p = omega arith in
    rw (e, f)
