-- `differences` lists the exact differences, and no other list does.
use Prim.Native.Nat.{ℕ, ◌+◌, ◌≤◌, ◌<◌}
use Rattle.std.specs.Prelude.{◌≡◌, Bool, cond, ◌||◌, ◌⊎◌, length, take, Option, None, Some}
use Rattle.std.proofs.Math.Path.{refl, sym, ap}
use Rattle.std.proofs.Common.{ap₂, ◌∙◌, true≢false, arith}
use Rattle.std.proofs.Math.Bool.{true, false}
use Rattle.std.proofs.lemmas.Option.{same_Some, none-some}
use Rattle.std.proofs.Math.Logic.{inl, inr, ⊎_elim}
use mathlib.Core.List.{List, [], ◌∷◌, ◌++◌}
use Rattle.std.proofs.Math.ListN.{get_or}
use Rattle.std.proofs.Math.Dec.{eqb}
use borrow.Author.Tests.{eqb-true, eqb-false, eq-eqb, ne_eqb}
use Rattle.meaning.specs.Words.{member, up_from}
use Rattle.laws.specs.Runs.{Up}
use Rattle.laws.specs.Stands.{All}
use Rattle.differences.specs.Content.{Says, Content}
use Rattle.differences.specs.Entries.{Entry, each, beside, keys_of, at_key, by_key, count_same, ranked, partner, left_rule, right_rule, if_there, at_rank, longer, rule_entries, at_field, pair_entries, same_says, first_entries, whole_entries, format_entry, differences}
use Rattle.difference_laws.specs.Equal.{tells_says}
use Rattle.difference_laws.specs.Pairing.{found, finds}
use Rattle.difference_laws.specs.Walks.{or_right, or_cases, keys_left, keys_right, keys_up, member_up, up_member, up_from_lem, longer_left, longer_right, ranked_in}
use Rattle.differences.specs.Differs.{In, Paired, RuleDiffers, KeyDiffers, ValueDiffers, PairDiffers, FirstDiffers, Differs, Precedes, InOrder, Lists}

-- Two lists in order with the same entries are equal.

in_all : {A : Type 0} (P : A → Type 0) (l : List A) → All P l → (x : A) → In x l → P x
in_all P [] h x i = absurd i
in_all P (a ∷ l) h x (inl e) = rw (← e) h.0
in_all P (a ∷ l) h x (inr i) = in_all P l h.1 x i

asymmetric : (e f : Entry) → Precedes e f → Precedes f e → ⊥
asymmetric e f (inl a) (inl b) = omega arith
asymmetric e f (inl a) (inr b) = omega (arith, b.0)
asymmetric e f (inr a) (inl b) = omega (arith, a.0)
asymmetric e f (inr (a, inl b)) (inr (c, inl d)) = omega arith
asymmetric e f (inr (a, inl b)) (inr (c, inr d)) = omega (arith, d.0)
asymmetric e f (inr (a, inr b)) (inr (c, inl d)) = omega (arith, b.0)
asymmetric e f (inr (a, inr b)) (inr (c, inr d)) = omega (arith, b.1, d.1)

pub same_members : (es fs : List Entry) → InOrder es → InOrder fs → ((e : Entry) → In e es → In e fs) → ((e : Entry) → In e fs → In e es) → es ≡ fs
same_members [] [] a b h k = refl
same_members [] (f ∷ fs) a b h k = absurd (k f (inl refl))
same_members (e ∷ es) [] a b h k = absurd (h e (inl refl))
same_members (e ∷ es) (f ∷ fs) a b h k =
    ap₂ (λ (x : Entry) (y : List Entry). x ∷ y) heads (same_members es fs a.1 b.1 forth back)
  where
    heads : e ≡ f
    heads = go (h e (inl refl)) (k f (inl refl))
      where
        go : (f ≡ e) ⊎ In e fs → (e ≡ f) ⊎ In f es → e ≡ f
        go (inl q) i = sym q
        go (inr j) (inl q) = q
        go (inr j) (inr i) = absurd (asymmetric e f (in_all (Precedes e) es a.0 f i) (in_all (Precedes f) fs b.0 e j))

    forth : (x : Entry) → In x es → In x fs
    forth x i = go (h x (inr i))
      where
        go : (f ≡ x) ⊎ In x fs → In x fs
        go (inl q) = absurd (let p = in_all (Precedes e) es a.0 x i in let s = rw (← (heads ∙ q)) at p in asymmetric e e s s)
        go (inr j) = j

    back : (x : Entry) → In x fs → In x es
    back x i = go (k x (inr i))
      where
        go : (e ≡ x) ⊎ In x es → In x es
        go (inl q) = absurd (let p = in_all (Precedes f) fs b.0 x i in let s = rw (← (sym heads ∙ q)) at p in asymmetric f f s s)
        go (inr j) = j

-- Walks: what is listed.

module _ {A : Type 0} (x : A) where
  in_front : (a b : List A) → In x a → In x (a ++ b)
  in_front [] b i = absurd i
  in_front (y ∷ a) b (inl e) = inl e
  in_front (y ∷ a) b (inr i) = inr (in_front a b i)

  in_back : (a b : List A) → In x b → In x (a ++ b)
  in_back [] b i = i
  in_back (y ∷ a) b i = inr (in_back a b i)

  in_either : (a b : List A) → In x (a ++ b) → In x a ⊎ In x b
  in_either [] b i = inr i
  in_either (y ∷ a) b (inl e) = inl (inl e)
  in_either (y ∷ a) b (inr i) = ⊎_elim (λ j. inl (inr j)) (λ j. inr j) (in_either a b i)

module _ (f : ℕ → List Entry) (e : Entry) where
  in_each : (ks : List ℕ) (k : ℕ) → member k ks ≡ true → In e (f k) → In e (each f ks)
  unfolding each member
  in_each [] k m i = absurd (true≢false (sym m))
  in_each (a ∷ ks) k m i =
      or_cases (eqb a k) (member k ks) m (λ q. in_front e (f a) (each f ks) (rw (eqb-true a k q) i)) (λ q. in_back e (f a) (each f ks) (in_each ks k q i))

  each_in : (ks : List ℕ) → In e (each f ks) → (k : ℕ) × (member k ks ≡ true) × In e (f k)
  unfolding each member
  each_in [] i = absurd i
  each_in (a ∷ ks) i = go (in_either e (f a) (each f ks) i) (each_in ks)
    where
      go : In e (f a) ⊎ In e (each f ks) → (In e (each f ks) → (k : ℕ) × (member k ks ≡ true) × In e (f k)) → (k : ℕ) × (eqb a k || member k ks ≡ true) × In e (f k)
      go (inl j) more = (a, rw (eq-eqb a a refl), j)
      go (inr j) more = let p = more j in (p.0, or_right (eqb a p.0) _ p.1, p.2)

-- Walks: in order.

all_append : {A : Type 0} (P : A → Type 0) (a b : List A) → All P a → All P b → All P (a ++ b)
all_append P [] b h k = k
all_append P (x ∷ a) b h k = (h.0, all_append P a b h.1 k)

all_both : {A : Type 0} (P Q : A → Type 0) → ((x : A) → P x → Q x) → (l : List A) → All P l → All Q l
all_both P Q k [] h = tt
all_both P Q k (x ∷ l) h = (k x h.0, all_both P Q k l h.1)

each_all : (P : Entry → Type 0) (f : ℕ → List Entry) → ((k : ℕ) → All P (f k)) → (ks : List ℕ) → All P (each f ks)
unfolding each
each_all P f h [] = tt
each_all P f h (k ∷ ks) = all_append P (f k) (each f ks) (h k) (each_all P f h ks)

order_append : (a b : List Entry) → InOrder a → InOrder b → All (λ e. All (Precedes e) b) a → InOrder (a ++ b)
order_append [] b h k p = k
order_append (e ∷ a) b h k p = (all_append (Precedes e) a b h.0 p.0, order_append a b h.1 k p.1)

-- where the entries of each number are told by it, and those of a lower number precede
module _ (R : ℕ → Entry → Type 0) (apart : (k n : ℕ) (e f : Entry) → k < n → R k e → R n f → Precedes e f) (f : ℕ → List Entry) (told : (k : ℕ) → All (R k) (f k)) (order : (k : ℕ) → InOrder (f k)) where
  later : (low : ℕ) (ks : List ℕ) → Up low ks → All (λ e. (n : ℕ) × (low ≤ n) × R n e) (each f ks)
  unfolding each
  later low [] u = tt
  later low (k ∷ ks) u =
      all_append (λ e. (n : ℕ) × (low ≤ n) × R n e) (f k) (each f ks) (all_both (R k) _ (λ e q. (k, u.0, q)) (f k) (told k))
      (all_both (λ e. (n : ℕ) × (k + 1 ≤ n) × R n e) _ (λ e q. (q.0, omega (arith, u.0, q.1), q.2)) (each f ks) (later (k + 1) ks u.1))

  each_order : (low : ℕ) (ks : List ℕ) → Up low ks → InOrder (each f ks)
  unfolding each
  each_order low [] u = tt
  each_order low (k ∷ ks) u =
      order_append (f k) (each f ks) (order k) (each_order (k + 1) ks u.1)
      (all_both (R k) _ (λ e q. all_both (λ h. (n : ℕ) × (k + 1 ≤ n) × R n h) (Precedes e) (λ h p. apart k p.0 e h (omega (arith, p.1)) q p.2) (each f ks) (later (k + 1) ks u.1)) (f k) (told k))

-- Rules.

module _ (g : ℕ) (l r : List Says) where
  -- what is paired is found, from either side
  paired_left : (i j : ℕ) (p : Paired l r i j) → partner same_says l r i p.rule ≡ Some j
  unfolding partner
  paired_left i j p = rw p.before (finds tells_says p.rule r j p.on_right)

  paired_right : (i j : ℕ) (p : Paired l r i j) → partner same_says r l j p.rule ≡ Some i
  unfolding partner
  paired_right i j p = rw (← p.before) (finds tells_says p.rule l i p.on_left)

  -- what is found is paired
  left_paired : (i j : ℕ) (x : Says) → ranked l i ≡ Some x → partner same_says l r i x ≡ Some j → Paired l r i j
  unfolding partner
  left_paired i j x h e = let f = found tells_says x (count_same same_says x (take i l)) r j e in record { rule = x; on_left = h; on_right = f.0; before = sym f.1 }

  right_paired : (i j : ℕ) (y : Says) → ranked r j ≡ Some y → partner same_says r l j y ≡ Some i → Paired l r i j
  unfolding partner
  right_paired i j y h e = let f = found tells_says y (count_same same_says y (take j r)) l i e in record { rule = y; on_left = f.0; on_right = h; before = f.1 }

  left_part : ℕ → List Entry
  left_part i = if_there (λ x. left_rule g i (partner same_says l r i x)) (ranked l i)

  right_part : ℕ → List Entry
  right_part i = if_there (λ x. right_rule g i (partner same_says r l i x)) (ranked r i)

  rules_only : (e : Entry) → In e (rule_entries same_says g l r) → RuleDiffers g l r e
  unfolding rule_entries at_rank if_there left_rule right_rule left_part right_part
  rules_only e k =
      let p = each_in (at_rank same_says g l r) e (up_from 0 (longer (length l) (length r))) k in
      ⊎_elim (on_left p.0 (ranked l p.0) refl) (on_right p.0 (ranked r p.0) refl) (in_either e (left_part p.0) (right_part p.0) p.2)
    where
      on_left : (i : ℕ) (o : Option Says) → ranked l i ≡ o → In e (if_there (λ x. left_rule g i (partner same_says l r i x)) o) → RuleDiffers g l r e
      on_left i None h k = absurd k
      on_left i (Some x) h k = go (partner same_says l r i x) refl k
        where
          go : (o : Option ℕ) → partner same_says l r i x ≡ o → In e (left_rule g i o) → RuleDiffers g l r e
          go None q (inl z) =
              RuleDiffers.left_only i x h (λ j p. none-some j (sym q ∙ ap (partner same_says l r i) (same_Some x p.rule (sym h ∙ p.on_left)) ∙ paired_left i j p)) (sym z)
          go None q (inr z) = absurd z
          go (Some j) q z = moves (eqb i j) refl z
            where
              moves : (b : Bool) → eqb i j ≡ b → In e (cond {A = List Entry} b [] (record { sort = 4; side = 0; first = g; rank = i; left = i; right = j } ∷ [])) → RuleDiffers g l r e
              moves true w z = absurd z
              moves false w (inl z) = RuleDiffers.moved i j (left_paired i j x h q) (eqb-false i j w) (sym z)
              moves false w (inr z) = absurd z

      on_right : (j : ℕ) (o : Option Says) → ranked r j ≡ o → In e (if_there (λ x. right_rule g j (partner same_says r l j x)) o) → RuleDiffers g l r e
      on_right j None h k = absurd k
      on_right j (Some y) h k = go (partner same_says r l j y) refl k
        where
          go : (o : Option ℕ) → partner same_says r l j y ≡ o → In e (right_rule g j o) → RuleDiffers g l r e
          go None q (inl z) =
              RuleDiffers.right_only j y h (λ i p. none-some i (sym q ∙ ap (partner same_says r l j) (same_Some y p.rule (sym h ∙ p.on_right)) ∙ paired_right i j p)) (sym z)
          go None q (inr z) = absurd z
          go (Some i) q z = absurd z

  rules_all : (e : Entry) → RuleDiffers g l r e → In e (rule_entries same_says g l r)
  unfolding rule_entries at_rank if_there left_rule right_rule left_part right_part
  rules_all e (RuleDiffers.left_only i x h alone q) =
      in_each (at_rank same_says g l r) e (up_from 0 n) i (member_up 0 n i (omega arith) (omega (arith, longer_left (length l) (length r) i (ranked_in l i x h))))
      (in_front e (left_part i) (right_part i) (rw h (go (partner same_says l r i x) refl)))
    where
      n : ℕ
      n = longer (length l) (length r)

      go : (o : Option ℕ) → partner same_says l r i x ≡ o → In e (left_rule g i o)
      go None w = inl (sym q)
      go (Some j) w = absurd (alone j (left_paired i j x h w))
  rules_all e (RuleDiffers.right_only j y h alone q) =
      in_each (at_rank same_says g l r) e (up_from 0 n) j (member_up 0 n j (omega arith) (omega (arith, longer_right (length l) (length r) j (ranked_in r j y h))))
      (in_back e (left_part j) (right_part j) (rw h (go (partner same_says r l j y) refl)))
    where
      n : ℕ
      n = longer (length l) (length r)

      go : (o : Option ℕ) → partner same_says r l j y ≡ o → In e (right_rule g j o)
      go None w = inl (sym q)
      go (Some i) w = absurd (alone i (right_paired i j y h w))
  rules_all e (RuleDiffers.moved i j p ne q) =
      in_each (at_rank same_says g l r) e (up_from 0 n) i (member_up 0 n i (omega arith) (omega (arith, longer_left (length l) (length r) i (ranked_in l i p.rule p.on_left))))
      (in_front e (left_part i) (right_part i) (rw (p.on_left, paired_left i j p, ne_eqb i j ne) (inl (sym q))))
    where
      n : ℕ
      n = longer (length l) (length r)

  -- the entries of rank i
  OfRank : ℕ → Entry → Type 0
  OfRank i e = (e.first ≡ g) × (e.rank ≡ i)

  rules_told : (i : ℕ) → All (OfRank i) (at_rank same_says g l r i)
  unfolding at_rank if_there left_rule right_rule OfRank left_part right_part
  rules_told i = all_append (OfRank i) (left_part i) (right_part i) (on_left (ranked l i)) (on_right (ranked r i))
    where
      on_left : (o : Option Says) → All (OfRank i) (if_there (λ x. left_rule g i (partner same_says l r i x)) o)
      on_left None = tt
      on_left (Some x) = go (partner same_says l r i x)
        where
          go : (o : Option ℕ) → All (OfRank i) (left_rule g i o)
          go None = ((refl, refl), tt)
          go (Some j) = moves (eqb i j)
            where
              moves : (b : Bool) → All (OfRank i) (cond {A = List Entry} b [] (record { sort = 4; side = 0; first = g; rank = i; left = i; right = j } ∷ []))
              moves true = tt
              moves false = ((refl, refl), tt)

      on_right : (o : Option Says) → All (OfRank i) (if_there (λ x. right_rule g i (partner same_says r l i x)) o)
      on_right None = tt
      on_right (Some x) = go (partner same_says r l i x)
        where
          go : (o : Option ℕ) → All (OfRank i) (right_rule g i o)
          go None = ((refl, refl), tt)
          go (Some j) = tt

  rules_in_order : (i : ℕ) → InOrder (at_rank same_says g l r i)
  unfolding at_rank if_there left_rule right_rule left_part right_part
  rules_in_order i = go (ranked l i) (ranked r i)
    where
      alone : (o : Option ℕ) → InOrder (left_rule g i o)
      alone None = (tt, tt)
      alone (Some j) = moves (eqb i j)
        where
          moves : (b : Bool) → InOrder (cond {A = List Entry} b [] (record { sort = 4; side = 0; first = g; rank = i; left = i; right = j } ∷ []))
          moves true = tt
          moves false = (tt, tt)

      two : (o p : Option ℕ) → InOrder (left_rule g i o ++ right_rule g i p)
      two None None = ((inr (refl, inr (refl, omega arith)), tt), (tt, tt))
      two None (Some k) = (tt, tt)
      two (Some j) None = moves (eqb i j)
        where
          moves : (b : Bool) → InOrder (cond {A = List Entry} b [] (record { sort = 4; side = 0; first = g; rank = i; left = i; right = j } ∷ []) ++ (record { sort = 3; side = 1; first = g; rank = i; left = 0; right = 0 } ∷ []))
          moves true = (tt, tt)
          moves false = ((inr (refl, inr (refl, omega arith)), tt), (tt, tt))
      two (Some j) (Some k) = moves (eqb i j)
        where
          moves : (b : Bool) → InOrder (cond {A = List Entry} b [] (record { sort = 4; side = 0; first = g; rank = i; left = i; right = j } ∷ []) ++ [])
          moves true = tt
          moves false = (tt, tt)

      ends : (es : List Entry) → InOrder es → InOrder (es ++ [])
      ends [] h = tt
      ends (e ∷ es) h = (all_append (Precedes e) es [] h.0 tt, ends es h.1)

      right : (p : Option ℕ) → InOrder (right_rule g i p)
      right None = (tt, tt)
      right (Some j) = tt

      go : (o p : Option Says) → InOrder (if_there (λ x. left_rule g i (partner same_says l r i x)) o ++ if_there (λ x. right_rule g i (partner same_says r l i x)) p)
      go None None = tt
      go None (Some y) = right (partner same_says r l i y)
      go (Some x) None = ends (left_rule g i (partner same_says l r i x)) (alone (partner same_says l r i x))
      go (Some x) (Some y) = two (partner same_says l r i x) (partner same_says r l i y)

  rules_order : InOrder (rule_entries same_says g l r)
  unfolding rule_entries OfRank
  rules_order =
      each_order OfRank (λ k n e f h a b. inr (a.0 ∙ sym b.0, inl (omega (arith, a.1, b.1)))) (at_rank same_says g l r) rules_told rules_in_order 0 (up_from 0 (longer (length l) (length r))) (up_from_lem 0 (longer (length l) (length r)))

  rules_first : All (λ e. e.first ≡ g) (rule_entries same_says g l r)
  unfolding rule_entries OfRank
  rules_first = each_all (λ e. e.first ≡ g) (at_rank same_says g l r) (λ i. all_both (OfRank i) _ (λ e q. q.0) (at_rank same_says g l r i) (rules_told i)) (up_from 0 (longer (length l) (length r)))

-- By key.

module _ {A : Type 0} (only : ℕ → ℕ → Entry) (both : ℕ → A → A → List Entry) (Both : ℕ → A → A → Entry → Type 0) (l r : List (ℕ × A)) where
  at : ℕ → List Entry
  at k = at_key (only k) (both k) (beside l k) (beside r k)

  keys_only : ((k : ℕ) (a b : A) (e : Entry) → In e (both k a b) → Both k a b e) → (e : Entry) → In e (by_key only both l r) → KeyDiffers only Both l r e
  unfolding by_key at_key at
  keys_only says e i = let p = each_in at e (keys_of l r) i in go p.0 (beside l p.0) (beside r p.0) refl refl p.2
    where
      go : (k : ℕ) (x y : Option A) → beside l k ≡ x → beside r k ≡ y → In e (at_key (only k) (both k) x y) → KeyDiffers only Both l r e
      go k None None a b z = absurd z
      go k (Some x) None a b (inl z) = KeyDiffers.in_left k x a b (sym z)
      go k (Some x) None a b (inr z) = absurd z
      go k None (Some y) a b (inl z) = KeyDiffers.in_right k y a b (sym z)
      go k None (Some y) a b (inr z) = absurd z
      go k (Some x) (Some y) a b z = KeyDiffers.in_both k x y a b (says k x y e z)

  keys_all : ((k : ℕ) (a b : A) (e : Entry) → Both k a b e → In e (both k a b)) → (e : Entry) → KeyDiffers only Both l r e → In e (by_key only both l r)
  unfolding by_key at_key at
  keys_all says e (KeyDiffers.in_left k x a b z) = in_each at e (keys_of l r) k (keys_left l r k x a) (rw (a, b) (inl (sym z)))
  keys_all says e (KeyDiffers.in_right k y a b z) = in_each at e (keys_of l r) k (keys_right l r k y b) (rw (a, b) (inl (sym z)))
  keys_all says e (KeyDiffers.in_both k x y a b z) = in_each at e (keys_of l r) k (keys_left l r k x a) (rw (a, b) (says k x y e z))

  -- where each entry is told by its key
  module _ (R : ℕ → Entry → Type 0) (apart : (k n : ℕ) (e f : Entry) → k < n → R k e → R n f → Precedes e f)
      (one : (k side : ℕ) → R k (only k side)) (two : (k : ℕ) (a b : A) → All (R k) (both k a b)) (order : (k : ℕ) (a b : A) → InOrder (both k a b)) where
    keys_told : (k : ℕ) → All (R k) (at k)
    unfolding at_key at
    keys_told k = go (beside l k) (beside r k)
      where
        go : (x y : Option A) → All (R k) (at_key (only k) (both k) x y)
        go None None = tt
        go (Some x) None = (one k 0, tt)
        go None (Some y) = (one k 1, tt)
        go (Some x) (Some y) = two k x y

    keys_in_order : (k : ℕ) → InOrder (at k)
    unfolding at_key at
    keys_in_order k = go (beside l k) (beside r k)
      where
        go : (x y : Option A) → InOrder (at_key (only k) (both k) x y)
        go None None = tt
        go (Some x) None = (tt, tt)
        go None (Some y) = (tt, tt)
        go (Some x) (Some y) = order k x y

    keys_order : InOrder (by_key only both l r)
    unfolding by_key at
    keys_order = each_order R apart at keys_told keys_in_order 0 (keys_of l r) (keys_up l r)

    keys_each : (P : Entry → Type 0) → ((k : ℕ) (e : Entry) → R k e → P e) → All P (by_key only both l r)
    unfolding by_key at
    keys_each P h = each_all P at (λ k. all_both (R k) P (h k) (at k) (keys_told k)) (keys_of l r)

-- Values and pairs.

module _ (g second : ℕ) (a b : List ℕ) where
  values_only : (e : Entry) → In e (each (at_field g second a b) (up_from 0 8)) → ValueDiffers g second a b e
  unfolding at_field
  values_only e i = let p = each_in (at_field g second a b) e (up_from 0 8) i in go p.0 (up_member 0 8 p.0 p.1) (eqb (get_or a p.0 0) (get_or b p.0 0)) refl p.2
    where
      go : (f : ℕ) → f < 0 + 8 → (t : Bool) → eqb (get_or a f 0) (get_or b f 0) ≡ t
          → In e (cond {A = List Entry} t [] (record { sort = 6; side = f; first = g; rank = second; left = get_or a f 0; right = get_or b f 0 } ∷ [])) → ValueDiffers g second a b e
      go f h true q z = absurd z
      go f h false q (inl z) = record { field = f; eight = omega arith; changed = eqb-false (get_or a f 0) (get_or b f 0) q; is = sym z }
      go f h false q (inr z) = absurd z

  values_all : (e : Entry) → ValueDiffers g second a b e → In e (each (at_field g second a b) (up_from 0 8))
  unfolding at_field
  values_all e d =
      in_each (at_field g second a b) e (up_from 0 8) d.field (member_up 0 8 d.field (omega arith) (omega (arith, d.eight)))
      (rw (ne_eqb (get_or a d.field 0) (get_or b d.field 0) d.changed) (inl (sym d.is)))

  OfField : ℕ → Entry → Type 0
  OfField f e = (e.first ≡ g) × (e.rank ≡ second) × (e.side ≡ f)

  values_told : (f : ℕ) → All (OfField f) (at_field g second a b f)
  unfolding at_field OfField
  values_told f = go (eqb (get_or a f 0) (get_or b f 0))
    where
      go : (t : Bool) → All (OfField f) (cond {A = List Entry} t [] (record { sort = 6; side = f; first = g; rank = second; left = get_or a f 0; right = get_or b f 0 } ∷ []))
      go true = tt
      go false = ((refl, refl, refl), tt)

  values_in_order : (f : ℕ) → InOrder (at_field g second a b f)
  unfolding at_field
  values_in_order f = go (eqb (get_or a f 0) (get_or b f 0))
    where
      go : (t : Bool) → InOrder (cond {A = List Entry} t [] (record { sort = 6; side = f; first = g; rank = second; left = get_or a f 0; right = get_or b f 0 } ∷ []))
      go true = tt
      go false = (tt, tt)

  values_order : InOrder (each (at_field g second a b) (up_from 0 8))
  unfolding OfField
  values_order =
      each_order OfField (λ k n e f h x y. inr (x.0 ∙ sym y.0, inr (x.1 ∙ sym y.1, omega (arith, x.2, y.2)))) (at_field g second a b) values_told values_in_order 0 (up_from 0 8) (up_from_lem 0 8)

  values_second : All (λ e. (e.first ≡ g) × (e.rank ≡ second)) (each (at_field g second a b) (up_from 0 8))
  unfolding OfField
  values_second = each_all (λ e. (e.first ≡ g) × (e.rank ≡ second)) (at_field g second a b) (λ f. all_both (OfField f) _ (λ e q. (q.0, q.1)) (at_field g second a b f) (values_told f)) (up_from 0 8)

module _ (g : ℕ) (l r : List (ℕ × List ℕ)) where
  pairs_only : (e : Entry) → In e (pair_entries g l r) → PairDiffers g l r e
  unfolding pair_entries
  pairs_only = keys_only _ _ (ValueDiffers g) l r (λ s a b. values_only g s a b)

  pairs_all : (e : Entry) → PairDiffers g l r e → In e (pair_entries g l r)
  unfolding pair_entries
  pairs_all = keys_all _ _ (ValueDiffers g) l r (λ s a b. values_all g s a b)

  pairs_order : InOrder (pair_entries g l r)
  unfolding pair_entries
  pairs_order =
      keys_order _ _ (ValueDiffers g) l r (λ s e. (e.first ≡ g) × (e.rank ≡ s)) (λ k n e f h x y. inr (x.0 ∙ sym y.0, inl (omega (arith, x.1, y.1)))) (λ s side. (refl, refl)) (λ s a b. values_second g s a b) (λ s a b. values_order g s a b)

  pairs_first : All (λ e. e.first ≡ g) (pair_entries g l r)
  unfolding pair_entries
  pairs_first =
      keys_each _ _ (ValueDiffers g) l r (λ s e. (e.first ≡ g) × (e.rank ≡ s)) (λ k n e f h x y. inr (x.0 ∙ sym y.0, inl (omega (arith, x.1, y.1)))) (λ s side. (refl, refl)) (λ s a b. values_second g s a b) (λ s a b. values_order g s a b)
      (λ e. e.first ≡ g) (λ k e q. q.0)

-- First glyphs.

module _ {A : Type 0} (both : ℕ → List A → List A → List Entry) (Both : ℕ → List A → List A → Entry → Type 0)
    (says-only : (g : ℕ) (a b : List A) (e : Entry) → In e (both g a b) → Both g a b e) (Says-All : (g : ℕ) (a b : List A) (e : Entry) → Both g a b e → In e (both g a b))
    (first : (g : ℕ) (a b : List A) → All (λ e. e.first ≡ g) (both g a b)) (order : (g : ℕ) (a b : List A) → InOrder (both g a b)) (l r : List (ℕ × List A)) where
  firsts_only : (e : Entry) → In e (first_entries both l r) → FirstDiffers Both l r e
  unfolding first_entries
  firsts_only = keys_only _ both Both l r says-only

  firsts_all : (e : Entry) → FirstDiffers Both l r e → In e (first_entries both l r)
  unfolding first_entries
  firsts_all = keys_all _ both Both l r Says-All

  firsts_order : InOrder (first_entries both l r)
  unfolding first_entries
  firsts_order = keys_order _ both Both l r (λ g e. e.first ≡ g) (λ k n e f h x y. inl (omega arith)) (λ g side. refl) first order

-- Contents.

-- the one entry of two formats
formats : (f h : ℕ) (D : Entry → Type 0) → ((e : Entry) → D e → e ≡ format_entry f h) → ((e : Entry) → e ≡ format_entry f h → D e)
    → InOrder (format_entry f h ∷ []) × ((e : Entry) → D e → In e (format_entry f h ∷ [])) × ((e : Entry) → In e (format_entry f h ∷ []) → D e)
formats f h D to from = ((tt, tt), (λ e d. inl (sym (to e d))), λ e i. from e (⊎_elim (λ q. sym q) (λ q. absurd q) i))

two_formats : (f h : ℕ) (l r : Content) → ((e : Entry) → Differs l r e → e ≡ format_entry f h) → ((e : Entry) → e ≡ format_entry f h → Differs l r e) → Lists l r (format_entry f h ∷ [])
two_formats f h l r to from = let p = formats f h (Differs l r) to from in record { ordered = p.0; all = p.1; only = p.2 }

-- `differences` lists the exact differences of two contents.
pub differences_lists : (l r : Content) → Lists l r (differences l r)
unfolding differences whole_entries
differences_lists (Content.rules f l) (Content.rules h r) = go (eqb f h) refl
  where
    go : (b : Bool) → eqb f h ≡ b → Lists (Content.rules f l) (Content.rules h r) (cond b (first_entries (rule_entries same_says) l r) (format_entry f h ∷ []))
    go true q = record {
      ordered = firsts_order (rule_entries same_says) RuleDiffers rules_only rules_all rules_first rules_order l r;
      all = λ e d. ⊎_elim (λ k. firsts_all (rule_entries same_says) RuleDiffers rules_only rules_all rules_first rules_order l r e k.1) (λ k. absurd (k.0 (eqb-true f h q))) d;
      only = λ e i. inl (eqb-true f h q, firsts_only (rule_entries same_says) RuleDiffers rules_only rules_all rules_first rules_order l r e i);
    }
    go false q =
        let p = formats f h (Differs (Content.rules f l) (Content.rules h r)) (λ e d. ⊎_elim (λ k. absurd (eqb-false f h q k.0)) (λ k. k.1) d) (λ e k. inr (eqb-false f h q, k)) in
        record { ordered = p.0; all = p.1; only = p.2 }
differences_lists (Content.whole x) (Content.whole y) = record { ordered = rules_order 0 (x ∷ []) (y ∷ []); all = rules_all 0 (x ∷ []) (y ∷ []); only = rules_only 0 (x ∷ []) (y ∷ []) }
differences_lists (Content.pairs l) (Content.pairs r) = record {
  ordered = firsts_order pair_entries PairDiffers pairs_only pairs_all pairs_first pairs_order l r;
  all = firsts_all pair_entries PairDiffers pairs_only pairs_all pairs_first pairs_order l r;
  only = firsts_only pair_entries PairDiffers pairs_only pairs_all pairs_first pairs_order l r;
}
differences_lists (Content.rules f l) (Content.whole y) = two_formats f 3 (Content.rules f l) (Content.whole y) (λ e d. d) (λ e d. d)
differences_lists (Content.rules f l) (Content.pairs r) = two_formats f 1 (Content.rules f l) (Content.pairs r) (λ e d. d) (λ e d. d)
differences_lists (Content.whole x) (Content.rules h r) = two_formats 3 h (Content.whole x) (Content.rules h r) (λ e d. d) (λ e d. d)
differences_lists (Content.whole x) (Content.pairs r) = two_formats 3 1 (Content.whole x) (Content.pairs r) (λ e d. d) (λ e d. d)
differences_lists (Content.pairs l) (Content.rules h r) = two_formats 1 h (Content.pairs l) (Content.rules h r) (λ e d. d) (λ e d. d)
differences_lists (Content.pairs l) (Content.whole y) = two_formats 1 3 (Content.pairs l) (Content.whole y) (λ e d. d) (λ e d. d)

-- Two lists of the exact differences are equal: each entry is fixed, with the rules that are paired.
pub lists_once : (l r : Content) (es fs : List Entry) → Lists l r es → Lists l r fs → es ≡ fs
lists_once l r es fs a b = same_members es fs a.ordered b.ordered (λ e i. b.all e (a.only e i)) (λ e i. a.all e (b.only e i))
