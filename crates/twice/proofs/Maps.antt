-- The combined map, and how it goes along the second one.
use Rattle.std.specs.Prelude.{ℕ, ◌<◌, ◌≡◌, refl, Bool, true, false, cond, ◌||◌, List, [], ◌∷◌, eqb, Option, None, Some}
use Rattle.std.proofs.Common.{sym, ap, ap₂, ◌∙◌, true≢false, arith, eqb-true, ne_eqb, eq-eqb}
use Rattle.std.proofs.lemmas.Option.{none-some}
use Rattle.std.proofs.lemmas.Bool.{eqb-false}
use Rattle.meaning.specs.Words.{ascends, member, keys, values, find, bind, push, map_some}
use Rattle.laws.specs.Stands.{All, all_map}
use Rattle.laws.specs.Ascends.{ascends_rest}
use Rattle.promises.specs.Numbers.{above}
use Rattle.twice.specs.Definitions.{combined, Within}
use Rattle.twice.specs.Answers.{Then}
use Rattle.twice.specs.Maps.{Moved, Along}

-- a number below each key has no value
pub find_out : (m : List (ℕ × ℕ)) (x : ℕ) → All (λ k. x < k) (keys m) → find m x ≡ None
unfolding find keys
find_out [] x h = refl
find_out (e ∷ m) x h =
    let b : x < e.0 = h.0 in
    rw (ne_eqb e.0 x (λ q. omega arith)) (find_out m x h.1)

-- the combined map does what both do
pub find_combined : (m n : List (ℕ × ℕ)) → ascends (keys m) ≡ true → Then (find m) (find n) (find (combined m n))
unfolding combined find keys bind map_some push
find_combined [] n h x = refl
find_combined (e ∷ m) n h x = go (find n e.1) refl (eqb e.0 x) refl (find_combined m n (ascends_rest e.0 (keys m) h) x)
  where
    c : List (ℕ × ℕ)
    c = combined m n

    go : (o : Option ℕ) → find n e.1 ≡ o → (b : Bool) → eqb e.0 x ≡ b → bind (find m x) (find n) ≡ find c x
        → bind (cond b (Some e.1) (find m x)) (find n) ≡ find (push (bind o (λ v. Some (e.0, v))) c) x
    go None q true t i =
        q ∙ sym (ap (λ (p : Option ℕ). bind p (find n)) (ap (find m) (sym (eqb-true e.0 x t)) ∙ find_out m e.0 (above e.0 (keys m) h))) ∙ i
    go None q false t i = i
    go (Some v) q true t i = rw t q
    go (Some v) q false t i = rw t i

-- each number of a list is in it, and in a longer one
members : (all l : List ℕ) → ((x : ℕ) → member x l ≡ true → member x all ≡ true) → All (λ x. member x all ≡ true) l
unfolding member
members all [] h = tt
members all (a ∷ l) h = (h a (rw (eq-eqb a a refl)), members all l (λ x q. h x (later x (eqb a x) q)))
  where
    later : (x : ℕ) (b : Bool) → member x l ≡ true → b || member x l ≡ true
    later x true q = refl
    later x false q = q

pub all_members : (l : List ℕ) → All (λ x. member x l ≡ true) l
all_members l = members l l (λ x q. q)

-- The combined map has an entry for each of the second one: the same new id, and an old id that the first map takes to the second one's.

pub along_keys : (ρ : ℕ → Option ℕ) (m n : List (ℕ × ℕ)) → Along ρ m n → Moved ρ (keys m) (keys n)
unfolding keys
along_keys ρ [] [] h = tt
along_keys ρ [] (q ∷ n) h = h
along_keys ρ (p ∷ m) [] h = h
along_keys ρ (p ∷ m) (q ∷ n) h = (h.0, along_keys ρ m n h.2)

pub along_values : (ρ : ℕ → Option ℕ) (m n : List (ℕ × ℕ)) → Along ρ m n → values m ≡ values n
unfolding values
along_values ρ [] [] h = refl
along_values ρ [] (q ∷ n) h = absurd h
along_values ρ (p ∷ m) [] h = absurd h
along_values ρ (p ∷ m) (q ∷ n) h = ap₂ (λ (v : ℕ) (vs : List ℕ). v ∷ vs) h.1 (along_values ρ m n h.2)

-- nothing is combined with an empty map
combined_none : (m : List (ℕ × ℕ)) → combined m [] ≡ []
unfolding combined find bind map_some push
combined_none [] = refl
combined_none (e ∷ m) = combined_none m

-- an entry whose key lies below all that the first map gives is passed over
combined_skip : (m : List (ℕ × ℕ)) (q : ℕ × ℕ) (n : List (ℕ × ℕ)) → All (λ v. q.0 < v) (values m) → combined m (q ∷ n) ≡ combined m n
unfolding combined find values map_some
combined_skip [] q n h = refl
combined_skip (e ∷ m) q n h =
    let b : q.0 < e.1 = h.0 in
    rw (ne_eqb q.0 e.1 (λ t. omega arith)) (ap (push (bind (find n e.1) (λ v. Some (e.0, v)))) (combined_skip m q n h.1))

-- where a number is in a list that it is not the first of
member_rest : (x a : ℕ) (l : List ℕ) → (a ≡ x → ⊥) → member x (a ∷ l) ≡ true → member x l ≡ true
unfolding member
member_rest x a l n h = rw (ne_eqb a x n) at h

-- a member is above what is below all
member_above : (a x : ℕ) (l : List ℕ) → All (λ v. a < v) l → member x l ≡ true → a < x
unfolding member
member_above a x [] h e = absurd (true≢false (sym e))
member_above a x (b ∷ l) h e = go (eqb b x) refl (member_above a x l h.1) e
  where
    go : (t : Bool) → eqb b x ≡ t → (member x l ≡ true → a < x) → t || member x l ≡ true → a < x
    go true q i r = let c : a < b = h.0 in omega (arith, eqb-true b x q)
    go false q i r = i r

-- numbers above one are in the rest of a list that begins with it
members_rest : (a : ℕ) (l ks : List ℕ) → All (λ k. a < k) ks → All (λ x. member x (a ∷ l) ≡ true) ks → All (λ x. member x l ≡ true) ks
members_rest a l [] h m = tt
members_rest a l (k ∷ ks) h m =
    let b : a < k = h.0 in
    (member_rest k a l (λ q. omega arith) m.0, members_rest a l ks h.1 m.1)

-- one entry of the first map: its new id is the next old id of the second, or none of them
combined_hit : (e : ℕ × ℕ) (m : List (ℕ × ℕ)) (q : ℕ × ℕ) (n : List (ℕ × ℕ)) → e.1 ≡ q.0 → combined (e ∷ m) (q ∷ n) ≡ (e.0, q.1) ∷ combined m (q ∷ n)
unfolding combined find bind map_some push
combined_hit e m q n h = rw (eq-eqb q.0 e.1 (sym h))

combined_miss : (e : ℕ × ℕ) (m n : List (ℕ × ℕ)) → find n e.1 ≡ None → combined (e ∷ m) n ≡ combined m n
unfolding combined bind map_some push
combined_miss e m n h = rw h

-- the next entry of the first map, if the others go along
along_step : (ρ : ℕ → Option ℕ) (e : ℕ × ℕ) (m n : List (ℕ × ℕ)) → ρ e.0 ≡ Some e.1 → ascends (e.1 ∷ values m) ≡ true → ascends (keys n) ≡ true → Within (e ∷ m) n
    → ((n : List (ℕ × ℕ)) → ascends (keys n) ≡ true → Within m n → Along ρ (combined m n) n) → Along ρ (combined (e ∷ m) n) n
unfolding keys values
along_step ρ e m [] f v k w i = rw (combined_none (e ∷ m)) tt
along_step ρ e m (q ∷ n) f v k w i = go (eqb e.1 q.0) refl
  where
    -- the new ids after the first, and the old ones of the second map
    later : All (λ x. e.1 < x) (values m)
    later = above e.1 (values m) v

    rest : All (λ x. q.0 < x) (keys n)
    rest = above q.0 (keys n) k

    go : (t : Bool) → eqb e.1 q.0 ≡ t → Along ρ (combined (e ∷ m) (q ∷ n)) (q ∷ n)
    go true t =
        let s = eqb-true e.1 q.0 t in
        let lower : All (λ x. q.0 < x) (values m) = all_map (λ x. e.1 < x) (λ x. q.0 < x) (λ x b. omega arith) (values m) later in
        let higher : All (λ x. e.1 < x) (keys n) = all_map (λ x. q.0 < x) (λ x. e.1 < x) (λ x b. omega arith) (keys n) rest in
        rw (combined_hit e m q n s, combined_skip m q n lower)
        (f ∙ ap {B = Option ℕ} Some s, refl, i n (ascends_rest q.0 (keys n) k) (members_rest e.1 (values m) (keys n) higher w.1))
    go false t =
        let s = eqb-false e.1 q.0 t in
        let b : e.1 < q.0 = member_above e.1 q.0 (values m) later (member_rest q.0 e.1 (values m) s w.0) in
        let higher : All (λ x. e.1 < x) (q.0 ∷ keys n) = (b, all_map (λ x. q.0 < x) (λ x. e.1 < x) (λ x c. omega arith) (keys n) rest) in
        rw (combined_miss e m (q ∷ n) (find_out (q ∷ n) e.1 higher)) (i (q ∷ n) k (members_rest e.1 (values m) (q.0 ∷ keys n) higher w))

along_from : (ρ : ℕ → Option ℕ) (m n : List (ℕ × ℕ)) → All (λ e. ρ e.0 ≡ Some e.1) m → ascends (values m) ≡ true → ascends (keys n) ≡ true → Within m n → Along ρ (combined m n) n
unfolding keys values member
along_from ρ [] [] f v k w = rw (combined_none []) tt
along_from ρ [] (q ∷ n) f v k w = absurd (true≢false (sym w.0))
along_from ρ (e ∷ m) n f v k w = along_step ρ e m n f.0 v k w (λ n k w. along_from ρ m n f.1 (ascends_rest e.1 (values m) v) k w)

-- each entry of a map whose keys ascend is found
entries_found : (ρ : ℕ → Option ℕ) (m : List (ℕ × ℕ)) → ascends (keys m) ≡ true → ((x v : ℕ) → find m x ≡ Some v → ρ x ≡ Some v) → All (λ e. ρ e.0 ≡ Some e.1) m
unfolding find keys
entries_found ρ [] k h = tt
entries_found ρ (e ∷ m) k h = (
  h e.0 e.1 (rw (eq-eqb e.0 e.0 refl)),
  entries_found ρ m (ascends_rest e.0 (keys m) k) (λ x v q. h x v (later x v (eqb e.0 x) refl q)),
)
  where
    later : (x v : ℕ) (t : Bool) → eqb e.0 x ≡ t → find m x ≡ Some v → cond t (Some e.1) (find m x) ≡ Some v
    later x v true t q = absurd (none-some v (sym (find_out m x (rw (eqb-true e.0 x t) at (above e.0 (keys m) k))) ∙ q))
    later x v false t q = q

-- an entry of a map whose keys ascend is found
pub all_found : (m : List (ℕ × ℕ)) → ascends (keys m) ≡ true → All (λ e. find m e.0 ≡ Some e.1) m
all_found m k = entries_found (find m) m k (λ x v q. q)

pub along : (m n : List (ℕ × ℕ)) → ascends (keys m) ≡ true → ascends (values m) ≡ true → ascends (keys n) ≡ true → Within m n → Along (find m) (combined m n) n
along m n k v l w = along_from (find m) m n (all_found m k) v l w
