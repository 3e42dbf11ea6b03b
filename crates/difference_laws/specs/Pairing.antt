-- Rules are paired by equal content, earliest with earliest: the pairing is the same from either side, and a list is paired with itself rank by rank.
use Prim.Native.Nat.{ℕ, zero, suc}
use Rattle.std.specs.Prelude.{◌≡◌, Bool, take, Option, None, Some}
use Rattle.std.proofs.Math.Path.{refl}
use Rattle.std.proofs.Common.{sym, ap}
use Rattle.std.proofs.Math.Bool.{true, false, cond}
use Rattle.std.proofs.lemmas.Option.{same_Some, none-some}
use mathlib.Core.List.{List, [], ◌∷◌}
use Rattle.differences.specs.Entries.{count_same, one_on, rank_same, ranked, partner}
use Rattle.difference_laws.specs.Equal.{Tells}

-- a rank that was counted on
pub one_on_lem : (o : Option ℕ) (j : ℕ) → one_on o ≡ Some j → (i : ℕ) × (o ≡ Some i) × (j ≡ suc i)
unfolding one_on
one_on_lem None j h = absurd (none-some _ h)
one_on_lem (Some i) j h = (i, refl, sym (same_Some (suc i) j h))

module _ {A : Type 0} {same : A → A → Bool} (t : Tells same) where
  -- what is found has equal content and the right number before it
  pub found : (x : A) (k : ℕ) (l : List A) (j : ℕ) → rank_same same x k l ≡ Some j → (ranked l j ≡ Some x) × (count_same same x (take j l) ≡ k)
  unfolding rank_same ranked count_same
  found x zero [] j h = absurd (none-some _ h)
  found x (suc k) [] j h = absurd (none-some _ h)
  found x zero (a ∷ l) j h = step (same x a) refl h (λ i. found x zero l i)
    where
      step : (b : Bool) → same x a ≡ b → cond b (Some 0) (one_on (rank_same same x zero l)) ≡ Some j
          → ((i : ℕ) → rank_same same x zero l ≡ Some i → (ranked l i ≡ Some x) × (count_same same x (take i l) ≡ zero)) → (ranked (a ∷ l) j ≡ Some x) × (count_same same x (take j (a ∷ l)) ≡ zero)
      step true e q more =
          let z = same_Some 0 j q in
          rw (← z) (ap {B = Option A} Some (sym (t.equal x a e)), refl)
      step false e q more =
          let p = one_on_lem (rank_same same x zero l) j q in
          let f = more p.0 p.1 in
          rw p.2 (f.0, rw e f.1)
  found x (suc k) (a ∷ l) j h = step (same x a) refl h (λ n i. found x n l i)
    where
      step : (b : Bool) → same x a ≡ b → one_on (rank_same same x (cond b k (suc k)) l) ≡ Some j
          → ((n i : ℕ) → rank_same same x n l ≡ Some i → (ranked l i ≡ Some x) × (count_same same x (take i l) ≡ n)) → (ranked (a ∷ l) j ≡ Some x) × (count_same same x (take j (a ∷ l)) ≡ suc k)
      step true e q more =
          let p = one_on_lem (rank_same same x k l) j q in
          let f = more k p.0 p.1 in
          rw p.2 (f.0, rw e (ap suc f.1))
      step false e q more =
          let p = one_on_lem (rank_same same x (suc k) l) j q in
          let f = more (suc k) p.0 p.1 in
          rw p.2 (f.0, rw e f.1)

  -- a member is found by the number of its like before it
  pub finds : (x : A) (l : List A) (j : ℕ) → ranked l j ≡ Some x → rank_same same x (count_same same x (take j l)) l ≡ Some j
  unfolding rank_same ranked count_same one_on
  finds x [] j h = absurd (none-some _ h)
  finds x (a ∷ l) zero h = rw (same_Some a x h, t.itself x)
  finds x (a ∷ l) (suc j) h = step (same x a) (count_same same x (take j l)) refl (finds x l j h)
    where
      step : (b : Bool) (n : ℕ) → same x a ≡ b → rank_same same x n l ≡ Some j → rank_same same x (cond b (suc n) n) (a ∷ l) ≡ Some (suc j)
      step true n e q = rw (e, q)
      step false zero e q = rw (e, q)
      step false (suc n) e q = rw (e, q)

  -- the pairing is the same from either side
  pub partners : (own others : List A) (i j : ℕ) (x : A) → ranked own i ≡ Some x → partner same own others i x ≡ Some j → (ranked others j ≡ Some x) × (partner same others own j x ≡ Some i)
  unfolding partner
  partners own others i j x h p =
      let f = found x (count_same same x (take i own)) others j p in
      (f.0, rw f.1 (finds x own i h))

  -- a list is paired with itself rank by rank
  pub own_partner : (l : List A) (i : ℕ) (x : A) → ranked l i ≡ Some x → partner same l l i x ≡ Some i
  unfolding partner
  own_partner l i x h = finds x l i h
