-- Two contents give an empty list exactly if they are equal.
use Prim.Native.Nat.{ℕ, ◌<◌}
use Rattle.std.specs.Prelude.{◌≡◌, Bool, length, Option, None, Some}
use Rattle.std.proofs.Math.Path.{refl, sym, ap}
use Rattle.std.proofs.Common.{ap₂, ◌∙◌, arith}
use Rattle.std.proofs.Math.Bool.{true, false, cond}
use Rattle.std.proofs.lemmas.Option.{same_Some}
use mathlib.Core.List.{List, [], ◌∷◌, ◌++◌}
use Rattle.std.proofs.Math.ListN.{get_or}
use Rattle.std.proofs.Math.Seq.{ext_get_or}
use Rattle.std.proofs.Math.Dec.{eqb}
use borrow.Author.Tests.{eqb-true, eq-eqb}
use Rattle.meaning.specs.Words.{member, up_from}
use Rattle.meaning.specs.Cut.{glyphs_of}
use Rattle.laws.specs.Runs.{Up}
use Rattle.differences.specs.Content.{Says, Content}
use Rattle.differences.specs.Entries.{Entry, each, beside, keys_of, at_key, by_key, ranked, partner, left_rule, right_rule, if_there, at_rank, longer, rule_entries, at_field, pair_entries, same_says, first_entries, whole_entries, format_entry, differences}
use Rattle.difference_laws.specs.Equal.{Tells, tells_says}
use Rattle.difference_laws.specs.Pairing.{partners, own_partner}
use Rattle.difference_laws.specs.Walks.{keys_left, keys_right, beside_tells, cons_nil, append_nil, each_nil, nil_each, member_up, longer_left, longer_right, ranked_in, ranked_tells}

-- By key.

-- what stands beside a key is good
abbrev pub Beside : {A : Type 0} → (A → Type 0) → List (ℕ × A) → Type 0
Beside {A} P l = (k : ℕ) (a : A) → beside l k ≡ Some a → P a

module _ {A : Type 0} (P : A → Type 0) (only : ℕ → ℕ → Entry) (both : ℕ → A → A → List Entry) where
  -- an empty list says that the lists are equal, where it says so of what stands beside a key
  pub key_equal : ((k : ℕ) (a b : A) → P a → P b → both k a b ≡ [] → a ≡ b)
      → (l r : List (ℕ × A)) → Up 0 (glyphs_of l) → Up 0 (glyphs_of r) → Beside P l → Beside P r → by_key only both l r ≡ [] → l ≡ r
  unfolding by_key at_key
  key_equal e l r u v p q h = beside_tells 0 l r u v (λ k. step k (beside l k) (beside r k) refl refl)
    where
      here : (k : ℕ) → member k (keys_of l r) ≡ true → at_key (only k) (both k) (beside l k) (beside r k) ≡ []
      here k m = each_nil (λ k. at_key (only k) (both k) (beside l k) (beside r k)) (keys_of l r) h k m

      step : (k : ℕ) (x y : Option A) → beside l k ≡ x → beside r k ≡ y → x ≡ y
      step k None None a b = refl
      step k (Some x) None a b = absurd (cons_nil (rw (a, b) at (here k (keys_left l r k x a))))
      step k None (Some y) a b = absurd (cons_nil (rw (a, b) at (here k (keys_right l r k y b))))
      step k (Some x) (Some y) a b = ap {B = Option A} Some (e k x y (p k x a) (q k y b) (rw (a, b) at (here k (keys_left l r k x a))))

  -- a list against itself gives nothing, where nothing is given for what stands beside a key
  pub key_itself : ((k : ℕ) (a : A) → both k a a ≡ []) → (l : List (ℕ × A)) → by_key only both l l ≡ []
  unfolding by_key at_key
  key_itself e l = nil_each (λ k. at_key (only k) (both k) (beside l k) (beside l k)) (keys_of l l) (λ k. step k (beside l k))
    where
      step : (k : ℕ) (x : Option A) → at_key (only k) (both k) x x ≡ []
      step k None = refl
      step k (Some x) = e k x

-- Rules.

module _ {A : Type 0} {same : A → A → Bool} (t : Tells same) (g : ℕ) where
  left_nil : (i : ℕ) (o : Option ℕ) → left_rule g i o ≡ [] → o ≡ Some i
  unfolding left_rule
  left_nil i None h = absurd (cons_nil h)
  left_nil i (Some j) h = step (eqb i j) refl h
    where
      step : (b : Bool) → eqb i j ≡ b → cond {A = List Entry} b [] (record { sort = 4; side = 0; first = g; rank = i; left = i; right = j } ∷ []) ≡ [] → Some j ≡ Some i
      step true e q = ap {B = Option ℕ} Some (sym (eqb-true i j e))
      step false e q = absurd (cons_nil q)

  right_nil : (i : ℕ) (o : Option ℕ) → right_rule g i o ≡ [] → (j : ℕ) × (o ≡ Some j)
  unfolding right_rule
  right_nil i None h = absurd (cons_nil h)
  right_nil i (Some j) h = (j, refl)

  pub rules_equal : (l r : List A) → rule_entries same g l r ≡ [] → l ≡ r
  unfolding rule_entries at_rank if_there
  rules_equal l r h = ranked_tells l r (λ i. step i (ranked l i) (ranked r i) refl refl)
    where
      left_part : ℕ → List Entry
      left_part i = if_there (λ x. left_rule g i (partner same l r i x)) (ranked l i)

      right_part : ℕ → List Entry
      right_part i = if_there (λ x. right_rule g i (partner same r l i x)) (ranked r i)

      here : (i : ℕ) → i < longer (length l) (length r) → left_part i ++ right_part i ≡ []
      here i k = each_nil (at_rank same g l r) (up_from 0 (longer (length l) (length r))) h i (member_up 0 (longer (length l) (length r)) i (omega arith) (omega arith))

      -- a left rule is paired with the right rule of its own rank
      in_place : (i : ℕ) (x : A) → ranked l i ≡ Some x → partner same l r i x ≡ Some i
      in_place i x e = left_nil i (partner same l r i x) (rw e at (append_nil (left_part i) (right_part i) (here i (longer_left (length l) (length r) i (ranked_in l i x e)))).0)

      -- a right rule is paired with a left one
      has_one : (i : ℕ) (y : A) → ranked r i ≡ Some y → (j : ℕ) × (partner same r l i y ≡ Some j)
      has_one i y e = right_nil i (partner same r l i y) (rw e at (append_nil (left_part i) (right_part i) (here i (longer_right (length l) (length r) i (ranked_in r i y e)))).1)

      step : (i : ℕ) (x y : Option A) → ranked l i ≡ x → ranked r i ≡ y → x ≡ y
      step i None None a b = refl
      step i (Some x) y a b = sym (partners t l r i i x a (in_place i x a)).0 ∙ b
      step i None (Some y) a b =
          let j = has_one i y b in
          let p = partners t r l i j.0 y b j.1 in
          let same_rank : i ≡ j.0 = same_Some i j.0 (sym p.1 ∙ in_place j.0 y p.0) in
          sym a ∙ rw (← same_rank) at p.0

  pub rules_itself : (l : List A) → rule_entries same g l l ≡ []
  unfolding rule_entries at_rank if_there left_rule right_rule
  rules_itself l = nil_each (at_rank same g l l) _ (λ i. step i (ranked l i) refl)
    where
      step : (i : ℕ) (x : Option A) → ranked l i ≡ x → if_there (λ x. left_rule g i (partner same l l i x)) x ++ if_there (λ x. right_rule g i (partner same l l i x)) x ≡ []
      step i None e = refl
      step i (Some x) e = rw (own_partner t l i x e, eq-eqb i i refl)

-- Pairs.

-- the eight values of a pair
abbrev pub Eight : List ℕ → Type 0
Eight vs = length vs ≡ 8

module _ (g second : ℕ) where
  values_equal : (a b : List ℕ) → Eight a → Eight b → each (at_field g second a b) (up_from 0 8) ≡ [] → a ≡ b
  unfolding at_field
  values_equal a b p q h = ext_get_or 0 a b (p ∙ sym q) (λ f k. step f (eqb (get_or a f 0) (get_or b f 0)) refl (each_nil (at_field g second a b) (up_from 0 8) h f (member_up 0 8 f (omega arith) (omega arith))))
    where
      step : (f : ℕ) (t : Bool) → eqb (get_or a f 0) (get_or b f 0) ≡ t → cond {A = List Entry} t [] (record { sort = 6; side = f; first = g; rank = second; left = get_or a f 0; right = get_or b f 0 } ∷ []) ≡ [] → get_or a f 0 ≡ get_or b f 0
      step f true e k = eqb-true (get_or a f 0) (get_or b f 0) e
      step f false e k = absurd (cons_nil k)

-- the pairs of a first glyph: second glyphs ascend, each pair has eight values
pub record SortedPairs (ps : List (ℕ × List ℕ)) : Type 0 where
  pub ascend : Up 0 (glyphs_of ps)
  pub eight : Beside Eight ps

pub pairs_equal : (g : ℕ) (l r : List (ℕ × List ℕ)) → SortedPairs l → SortedPairs r → pair_entries g l r ≡ [] → l ≡ r
unfolding pair_entries
pairs_equal g l r p q h = key_equal Eight _ _ (λ k a b. values_equal g k a b) l r p.ascend q.ascend p.eight q.eight h

pub pairs_itself : (g : ℕ) (l : List (ℕ × List ℕ)) → pair_entries g l l ≡ []
unfolding pair_entries at_field
pairs_itself g l = key_itself (λ a. Unit {0}) _ _ (λ k a. nil_each (at_field g k a a) (up_from 0 8) (λ f. rw (eq-eqb (get_or a f 0) (get_or a f 0) refl))) l

-- Contents.

-- first glyphs ascend, and so do the second glyphs of each; a pair has eight values
abbrev pub Sorted : Content → Type 0
Sorted (Content.rules f l) = Up 0 (glyphs_of l)
Sorted (Content.whole x) = Unit {0}
Sorted (Content.pairs l) = Up 0 (glyphs_of l) × Beside SortedPairs l

any : {A : Type 0} (l : List (ℕ × A)) → Beside (λ a. Unit {0}) l
any l k a h = tt

whole_equal : (x y : Says) → whole_entries x y ≡ [] → x ≡ y
unfolding whole_entries ranked
whole_equal x y h = same_Some x y (ap (λ (l : List Says). ranked l 0) (rules_equal tells_says 0 (x ∷ []) (y ∷ []) h))

-- the entry of a first glyph that one side has
abbrev first_only : ℕ → ℕ → Entry
first_only g side = record { sort = 2; side = side; first = g; rank = 0; left = 0; right = 0 }

-- an empty list says that the contents are equal
pub empty_equal : (l r : Content) → Sorted l → Sorted r → differences l r ≡ [] → l ≡ r
unfolding differences first_entries
empty_equal (Content.rules f l) (Content.rules h r) u v e = step (eqb f h) refl e
  where
    step : (b : Bool) → eqb f h ≡ b → cond b (first_entries (rule_entries same_says) l r) (format_entry f h ∷ []) ≡ [] → Content.rules f l ≡ Content.rules h r
    step true q k = ap₂ Content.rules (eqb-true f h q) (key_equal (λ a. Unit {0}) first_only (rule_entries same_says) (λ g a b p q. rules_equal tells_says g a b) l r u v (any l) (any r) k)
    step false q k = absurd (cons_nil k)
empty_equal (Content.whole x) (Content.whole y) u v e = ap Content.whole (whole_equal x y e)
empty_equal (Content.pairs l) (Content.pairs r) u v e = ap Content.pairs (key_equal SortedPairs first_only pair_entries pairs_equal l r u.0 v.0 u.1 v.1 e)
empty_equal (Content.rules f l) (Content.whole y) u v e = absurd (cons_nil e)
empty_equal (Content.rules f l) (Content.pairs r) u v e = absurd (cons_nil e)
empty_equal (Content.whole x) (Content.rules h r) u v e = absurd (cons_nil e)
empty_equal (Content.whole x) (Content.pairs r) u v e = absurd (cons_nil e)
empty_equal (Content.pairs l) (Content.rules h r) u v e = absurd (cons_nil e)
empty_equal (Content.pairs l) (Content.whole y) u v e = absurd (cons_nil e)

-- a content against itself gives an empty list
pub itself_empty : (l : Content) → differences l l ≡ []
unfolding differences first_entries whole_entries
itself_empty (Content.rules f l) = rw (eq-eqb f f refl) (key_itself (λ a. Unit {0}) first_only (rule_entries same_says) (λ g a. rules_itself tells_says g a) l)
itself_empty (Content.whole x) = rules_itself tells_says 0 (x ∷ [])
itself_empty (Content.pairs l) = key_itself (λ a. Unit {0}) first_only pair_entries pairs_itself l

-- equal contents give an empty list
pub equal_empty : (l r : Content) → l ≡ r → differences l r ≡ []
equal_empty l r e = rw (← e) (itself_empty l)
