-- What the walks over own numbers and others keep.
use Prim.Native.Nat.{ℕ, zero, suc, ◌+◌, ◌-◌, ◌≤◌, ◌<◌}
use mathlib.Core.Path.{◌≡◌, refl, sym, ap, ◌∙◌}
use mathlib.Core.Bool.{Bool, true, false, cond}
use Rattle.std.specs.Prelude.{Option, None, Some}
use Rattle.std.proofs.lemmas.Option.{same_Some, none-some}
use mathlib.Core.List.{List, [], ◌∷◌}
use native.Mathlib.Nat.{zero-add}
use native.Mathlib.Decide.{dec_lt}
use native.Mathlib.Omega.{arith}
use lib.ListN.{length, get_or, set, drop, length-set, length-drop, get_or-eq_default}
use lib.Seq.{get_or-set_same, get_or-set_other, drop-set-lt, drop-set-add}
use lib.Dec.{eqb}
use borrow.Author.Tests.{eqb-true, eqb-false}
use Rattle.laws.specs.Stands.{All}
use Rattle.differences.specs.Entries.{ranked, partner}
use Rattle.difference_laws.specs.Ranks.{ranks_of, first, left_over, partner_is, left_none, left_takes, left_leaves}
use Rattle.rule_differences.specs.Ranked.{rank_of, Partners}
use Rattle.partners.specs.Chains.{numbers_from, numbers_in, Chain, next_in, next_of, Below, Cleared, Linked, Left, Kept, Paired}

-- a cell that is set to 0 reads as 0, inside or not
set_zero : (t : List ℕ) (i : ℕ) → get_or (set t i 0) i 0 ≡ 0
set_zero t i = step (dec_lt i (length t))
  where
    step : Dec (i < length t) → get_or (set t i 0) i 0 ≡ 0
    step (yes h) = get_or-set_same t i 0 0 h
    step (no h) = get_or-eq_default (set t i 0) 0 (omega (arith, length-set t i 0))

-- Clearing.

-- what the loop of `clear` keeps
pub record Clearing (own : List ℕ) (m : ℕ) (heads₀ heads : List ℕ) (i : ℕ) : Type 0 where
  pub within : i ≤ m
  pub size : length heads ≡ length heads₀
  pub empty : (k : ℕ) → k < i → get_or heads (get_or own k 0) 0 ≡ 0

module _ {own : List ℕ} {m : ℕ} {heads₀ : List ℕ} where
  pub clearing_none : Clearing own m heads₀ heads₀ 0
  clearing_none = record { within = omega arith; size = refl; empty = λ k h. absurd (omega arith) }

  pub clearing_turn : {heads next : List ℕ} {i x : ℕ} → Clearing own m heads₀ heads i → i < m → x ≡ get_or own i 0 → next ≡ set heads x 0 → Clearing own m heads₀ next (i + 1)
  clearing_turn {heads} {next} {i} {x} c h e f = record {
    within = omega arith;
    size = ap length f ∙ length-set heads x 0 ∙ c.size;
    empty = λ k l. rw (f, e) (step k l (eqb (get_or own k 0) (get_or own i 0)) refl);
  }
    where
      before : (k : ℕ) → k < i + 1 → (get_or own k 0 ≡ get_or own i 0 → ⊥) → Dec (k < i) → k < i
      before k l q (yes b) = b
      before k l q (no b) =
          let e : k ≡ i = omega arith in
          absurd (q (ap (λ (n : ℕ). get_or own n 0) e))

      step : (k : ℕ) → k < i + 1 → (t : Bool) → eqb (get_or own k 0) (get_or own i 0) ≡ t → get_or (set heads (get_or own i 0) 0) (get_or own k 0) 0 ≡ 0
      step k l true q = rw (eqb-true (get_or own k 0) (get_or own i 0) q) (set_zero heads (get_or own i 0))
      step k l false q =
          let d = eqb-false (get_or own k 0) (get_or own i 0) q in
          get_or-set_other heads (get_or own i 0) (get_or own k 0) 0 0 d ∙ c.empty k (before k l d (dec_lt k i))

  pub clearing_end : {heads : List ℕ} {i : ℕ} → Clearing own m heads₀ heads i → m ≤ i → Cleared own m heads
  clearing_end c h = record { empty = λ k l. c.empty k (omega arith) }

-- Linking.

-- ranks from j on are not below j
ranks_above : (x j : ℕ) (r : List ℕ) (b : ℕ) → b ≤ j → All (λ k. b ≤ k) (ranks_of x j r)
unfolding ranks_of
ranks_above x j [] b h = tt
ranks_above x j (a ∷ r) b h = step (eqb x a) (ranks_above x (j + 1) r b (omega arith))
  where
    step : (t : Bool) → All (λ k. b ≤ k) (ranks_of x (j + 1) r) → All (λ k. b ≤ k) (cond t (j ∷ ranks_of x (j + 1) r) (ranks_of x (j + 1) r))
    step true q = (h, q)
    step false q = q

-- a chain stays when a cell before its ranks is set
chain_stays : (next : List ℕ) (j v h : ℕ) (js : List ℕ) → All (λ k. j + 1 ≤ k) js → Chain next h js → Chain (set next j v) h js
chain_stays next j v h [] a c = c
chain_stays next j v h (k ∷ js) a c =
    let d : k ≡ j → ⊥ = λ e. omega (arith, a.0) in
    (c.0, rw (get_or-set_other next j k v 0 d) (chain_stays next j v (get_or next k 0) js a.1 c.1))

-- what the loop of `link` keeps
pub record Linking (own : List ℕ) (m : ℕ) (others : List ℕ) (n : ℕ) (heads₀ next₀ heads next : List ℕ) (j : ℕ) : Type 0 where
  pub within : j ≤ n
  pub size : length heads ≡ length heads₀
  pub next_size : length next ≡ length next₀
  pub linked : Linked own m (numbers_from others j (n - j)) j heads next

module _ {own : List ℕ} {m : ℕ} {others : List ℕ} {n : ℕ} {heads₀ next₀ : List ℕ} where
  pub linking_none : Cleared own m heads₀ → Linking own m others n heads₀ next₀ heads₀ next₀ n
  unfolding numbers_from ranks_of
  linking_none c =
      let e : n - n ≡ 0 = omega arith in
      record { within = omega arith; size = refl; next_size = refl; linked = record { chains = λ k h. rw e (c.empty k h) } }

  pub linking_turn : {heads next one two : List ℕ} {j x h : ℕ} → Below own m (length heads₀) → n ≤ length next₀ → Linking own m others n heads₀ next₀ heads next j → 0 < j
      → x ≡ get_or others (j - 1) 0 → h ≡ get_or heads x 0 → one ≡ set next (j - 1) h → two ≡ set heads x (j - 1 + 1) → Linking own m others n heads₀ next₀ two one (j - 1)
  unfolding numbers_from ranks_of
  linking_turn {heads} {next} {one} {two} {j} {x} {h} b w c p ex eh eo et = record {
    within = omega (arith, c.within);
    size = ap length et ∙ length-set heads x (j - 1 + 1) ∙ c.size;
    next_size = ap length eo ∙ length-set next (j - 1) h ∙ c.next_size;
    linked = record { chains = λ k l. rw (e, eo, et, f, ← ex) (step k l (eqb (get_or own k 0) x) refl) };
  }
    where
      e : n - (j - 1) ≡ suc (n - j)
      e = omega (arith, c.within)

      f : j - 1 + 1 ≡ j
      f = omega arith

      rest : ℕ → List ℕ
      rest y = ranks_of y j (numbers_from others j (n - j))

      stays : (k : ℕ) → k < m → Chain (set next (j - 1) h) (get_or heads (get_or own k 0) 0) (rest (get_or own k 0))
      stays k l = chain_stays next (j - 1) h (get_or heads (get_or own k 0) 0) (rest (get_or own k 0)) (ranks_above (get_or own k 0) j (numbers_from others j (n - j)) (j - 1 + 1) (omega arith)) (c.linked.chains k l)

      step : (k : ℕ) → k < m → (t : Bool) → eqb (get_or own k 0) x ≡ t
          → Chain (set next (j - 1) h) (get_or (set heads x j) (get_or own k 0) 0) (cond t ((j - 1) ∷ rest (get_or own k 0)) (rest (get_or own k 0)))
      step k l true q =
          let s = eqb-true (get_or own k 0) x q in
          let i : x < length heads = omega (arith, b.below k l, c.size, s) in
          let g : get_or (set next (j - 1) h) (j - 1) 0 ≡ get_or heads (get_or own k 0) 0 = get_or-set_same next (j - 1) h 0 (omega (arith, c.next_size, c.within)) ∙ eh ∙ ap (λ (y : ℕ). get_or heads y 0) (sym s) in
          let z : j ≡ suc (j - 1) = omega arith in
          (ap (λ (y : ℕ). get_or (set heads x j) y 0) s ∙ get_or-set_same heads x j 0 i ∙ z, rw g (stays k l))
      step k l false q = rw (get_or-set_other heads x (get_or own k 0) j 0 (eqb-false (get_or own k 0) x q)) (stays k l)

  pub linking_end : {heads next : List ℕ} {j : ℕ} → Linking own m others n heads₀ next₀ heads next j → j ≤ 0 → Linked own m (numbers_in others n) 0 heads next
  linking_end {j = j} c h =
      let e : j ≡ 0 = omega arith in
      let f : n - 0 ≡ n = omega arith in
      rw f at (rw e at c.linked)

-- the same, where the next ranks are a part of the links
pub record LinkingIn (own : List ℕ) (m : ℕ) (others : List ℕ) (n : ℕ) (heads₀ links₀ heads links : List ℕ) (j : ℕ) : Type 0 where
  pub linking : Linking own m others n heads₀ (next_in links₀) heads (next_in links) j
  pub size : length links ≡ length links₀
  pub kept : Kept 131072 links₀ links

module _ {own : List ℕ} {m : ℕ} {others : List ℕ} {n : ℕ} {heads₀ links₀ : List ℕ} where
  pub linking_in : Cleared own m heads₀ → LinkingIn own m others n heads₀ links₀ heads₀ links₀ n
  linking_in c = record { linking = linking_none c; size = refl; kept = record { same = λ j h. refl } }

  pub linking_in_turn : {heads links one two : List ℕ} {j x h : ℕ} → Below own m (length heads₀) → 131072 + n ≤ length links₀ → LinkingIn own m others n heads₀ links₀ heads links j → 0 < j
      → x ≡ get_or others (j - 1) 0 → h ≡ get_or heads x 0 → one ≡ set links (131072 + (j - 1)) h → two ≡ set heads x (j - 1 + 1) → LinkingIn own m others n heads₀ links₀ two one (j - 1)
  linking_in_turn {heads} {links} {one} {two} {j} {x} {h} b w c p ex eh eo et = record {
    linking = linking_turn b (omega (arith, length-drop 131072 links₀)) c.linking p ex eh (rw eo (drop-set-add 131072 links (j - 1) h)) et;
    size = ap length eo ∙ length-set links (131072 + (j - 1)) h ∙ c.size;
    kept = record { same = λ k l. ap (λ (t : List ℕ). get_or t k 0) eo ∙ get_or-set_other links (131072 + (j - 1)) k h 0 (λ e. omega arith) ∙ c.kept.same k l };
  }

  pub linking_in_end : {heads links : List ℕ} {j : ℕ} → LinkingIn own m others n heads₀ links₀ heads links j → j ≤ 0 → Linked own m (numbers_in others n) 0 heads (next_in links) × Kept 131072 links₀ links
  linking_in_end c h = (linking_end c.linking h, c.kept)

-- Taking.

-- the number of a rank
ranked_from : (t : List ℕ) (i n k : ℕ) → k < n → ranked (numbers_from t i n) k ≡ Some (get_or t (i + k) 0)
unfolding numbers_from ranked
ranked_from t i zero k h = absurd (omega arith)
ranked_from t i (suc n) zero h = let e : i + 0 ≡ i = omega arith in rw e
ranked_from t i (suc n) (suc k) h = let e : i + suc k ≡ i + 1 + k = omega arith in rw e (ranked_from t (i + 1) n k (omega arith))

ranked_past : (t : List ℕ) (i n k : ℕ) → n ≤ k → ranked (numbers_from t i n) k ≡ None
unfolding numbers_from ranked
ranked_past t i zero k h = refl
ranked_past t i (suc n) zero h = absurd (omega arith)
ranked_past t i (suc n) (suc k) h = ranked_past t (i + 1) n k (omega arith)

-- the first of a chain, and the rest
chain_first : (next : List ℕ) (h : ℕ) (js : List ℕ) → Chain next h js → rank_of h ≡ first js
unfolding first
chain_first next h [] c = rw c
chain_first next h (j ∷ js) c = rw c.0

chain_rest : (next : List ℕ) (h : ℕ) (js : List ℕ) → Chain next h js → Chain next (next_of next h) (drop 1 js)
chain_rest next h [] c = rw c
chain_rest next h (j ∷ js) c = rw c.0 c.1

-- what follows a rank
pub next_there : (next : List ℕ) (h : ℕ) → 0 < h → get_or next (h - 1) 0 ≡ next_of next h
next_there next zero l = absurd (omega arith)
next_there next (suc j) l = let e : suc j - 1 ≡ j = omega arith in rw e

-- what the loop of `take` keeps
pub record Taking (own : List ℕ) (m : ℕ) (others : List ℕ) (n : ℕ) (heads₀ next partners₀ heads partners : List ℕ) (i : ℕ) : Type 0 where
  pub within : i ≤ m
  pub size : length heads ≡ length heads₀
  pub partners_size : length partners ≡ length partners₀
  pub left : Left own m (numbers_in others n) i heads next
  pub stand : (k : ℕ) → k < i → rank_of (get_or partners k 0) ≡ partner eqb (numbers_in own m) (numbers_in others n) k (get_or own k 0)

module _ {own : List ℕ} {m : ℕ} {others : List ℕ} {n : ℕ} {heads₀ next partners₀ : List ℕ} where
  pub taking_none : Linked own m (numbers_in others n) 0 heads₀ next → Taking own m others n heads₀ next partners₀ heads₀ partners₀ 0
  taking_none c = record {
    within = omega arith;
    size = refl;
    partners_size = refl;
    left = record { chains = λ k h. rw (left_none (numbers_in own m) (numbers_in others n) (get_or own k 0)) (c.chains k h) };
    stand = λ k h. absurd (omega arith);
  }

  pub taking_turn : {heads partners one two : List ℕ} {i x h v : ℕ} → Below own m (length heads₀) → m ≤ length partners₀ → Taking own m others n heads₀ next partners₀ heads partners i → i < m
      → x ≡ get_or own i 0 → h ≡ get_or heads x 0 → one ≡ set partners i h → v ≡ next_of next h → two ≡ set heads x v → Taking own m others n heads₀ next partners₀ two one (i + 1)
  taking_turn {heads} {partners} {one} {two} {i} {x} {h} {v} b w c p ex eh eo ev et = record {
    within = omega arith;
    size = ap length et ∙ length-set heads x v ∙ c.size;
    partners_size = ap length eo ∙ length-set partners i h ∙ c.partners_size;
    left = record { chains = λ k l. rw (a, et) (step k l (eqb (get_or own k 0) x) refl) };
    stand = λ k l. rw eo (stands k l (dec_lt k i));
  }
    where
      a : i + 1 ≡ suc i
      a = omega arith

      L : List ℕ
      L = numbers_in own m

      R : List ℕ
      R = numbers_in others n

      here : ranked L i ≡ Some x
      here = ranked_from own 0 m i p ∙ ap (λ (k : ℕ). Some (get_or own k 0)) (zero-add i) ∙ ap {B = Option ℕ} Some (sym ex)

      chain : Chain next h (left_over L R i x)
      chain = rw (eh, ex) (c.left.chains i p)

      step : (k : ℕ) → k < m → (t : Bool) → eqb (get_or own k 0) x ≡ t → Chain next (get_or (set heads x v) (get_or own k 0) 0) (left_over L R (suc i) (get_or own k 0))
      step k l true q =
          let s = eqb-true (get_or own k 0) x q in
          let g : x < length heads = omega (arith, b.below k l, c.size, s) in
          rw (s, get_or-set_same heads x v 0 g, left_takes L R i x here, ev) (chain_rest next h (left_over L R i x) chain)
      step k l false q =
          let d = eqb-false (get_or own k 0) x q in
          rw (get_or-set_other heads x (get_or own k 0) v 0 d, left_leaves L R i (get_or own k 0) x here d) (c.left.chains k l)

      stands : (k : ℕ) → k < i + 1 → Dec (k < i) → rank_of (get_or (set partners i h) k 0) ≡ partner eqb L R k (get_or own k 0)
      stands k l (yes g) =
          let d : k ≡ i → ⊥ = λ e. omega arith in
          rw (get_or-set_other partners i k h 0 d) (c.stand k g)
      stands k l (no g) =
          let e : k ≡ i = omega arith in
          let z : i < length partners = omega (arith, c.partners_size) in
          rw (e, get_or-set_same partners i h 0 z, ← ex) (chain_first next h (left_over L R i x) chain ∙ sym (partner_is L R i x))

  pub taking_end : {heads partners : List ℕ} {i : ℕ} → Taking own m others n heads₀ next partners₀ heads partners i → m ≤ i → Partners eqb (numbers_in own m) (numbers_in others n) partners
  taking_end {heads} {partners} c h = record { stand = λ k x e. known k x e (dec_lt k m) }
    where
      known : (k x : ℕ) → ranked (numbers_in own m) k ≡ Some x → Dec (k < m) → rank_of (get_or partners k 0) ≡ partner eqb (numbers_in own m) (numbers_in others n) k x
      known k x e (yes l) =
          let q = same_Some (get_or own (0 + k) 0) x (sym (ranked_from own 0 m k l) ∙ e) in
          rw (← q, zero-add k) (c.stand k (omega arith))
      known k x e (no l) = absurd (none-some _ (sym (ranked_past own 0 m k (omega arith)) ∙ e))

-- the same, where the partners and the next ranks are parts of the links
pub record TakingIn (own : List ℕ) (m : ℕ) (others : List ℕ) (n : ℕ) (heads₀ links₀ : List ℕ) (at : ℕ) (heads links : List ℕ) (i : ℕ) : Type 0 where
  pub taking : Taking own m others n heads₀ (next_in links₀) (drop at links₀) heads (drop at links) i
  pub next_same : next_in links ≡ next_in links₀
  pub size : length links ≡ length links₀
  pub kept : Kept at links₀ links

module _ {own : List ℕ} {m : ℕ} {others : List ℕ} {n : ℕ} {heads₀ links₀ : List ℕ} {at : ℕ} where
  pub taking_in : Linked own m (numbers_in others n) 0 heads₀ (next_in links₀) → TakingIn own m others n heads₀ links₀ at heads₀ links₀ 0
  taking_in c = record { taking = taking_none c; next_same = refl; size = refl; kept = record { same = λ j h. refl } }

  pub taking_in_turn : {heads links one two : List ℕ} {i x h v : ℕ} → at + m ≤ 131072 → 131072 ≤ length links₀ → Below own m (length heads₀) → TakingIn own m others n heads₀ links₀ at heads links i → i < m
      → x ≡ get_or own i 0 → h ≡ get_or heads x 0 → one ≡ set links (at + i) h → v ≡ next_of (next_in one) h → two ≡ set heads x v → TakingIn own m others n heads₀ links₀ at two one (i + 1)
  taking_in_turn {heads} {links} {one} {two} {i} {x} {h} {v} a l b c p ex eh eo ev et =
      let s : next_in one ≡ next_in links₀ = ap next_in eo ∙ drop-set-lt 131072 links (at + i) h (omega arith) ∙ c.next_same in
      record {
        taking = taking_turn b (omega (arith, length-drop at links₀)) c.taking p ex eh (rw eo (drop-set-add at links i h)) (ev ∙ ap (λ (t : List ℕ). next_of t h) s) et;
        next_same = s;
        size = ap length eo ∙ length-set links (at + i) h ∙ c.size;
        kept = record { same = λ k q. ap (λ (t : List ℕ). get_or t k 0) eo ∙ get_or-set_other links (at + i) k h 0 (λ e. omega arith) ∙ c.kept.same k q };
      }

  pub taking_in_end : {heads links : List ℕ} {i : ℕ} → TakingIn own m others n heads₀ links₀ at heads links i → m ≤ i → Paired own m others n at links₀ links
  taking_in_end c h = record { partners = taking_end c.taking h; kept = c.kept }

-- the cells before `at` are as they were, also before the links were made
pub paired_first : {own others old mid new : List ℕ} {m n at : ℕ} → at ≤ 131072 → Kept 131072 old mid → Paired own m others n at mid new → Paired own m others n at old new
paired_first a k p = record { partners = p.partners; kept = record { same = λ j h. p.kept.same j h ∙ k.same j (omega arith) } }
