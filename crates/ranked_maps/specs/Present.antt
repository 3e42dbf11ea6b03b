-- Which classes have an entry in the cells of a class map, found by a walk over the numbers that can have one.
use Prim.Native.Nat.{ℕ, zero, suc, ◌+◌, ◌-◌, ◌%◌, ◌≤◌, ◌<◌}
use Rattle.std.specs.Prelude.{◌≡◌, Bool, ◌||◌, List, [], ◌∷◌, eqb, None, Some}
use Rattle.std.proofs.Math.Path.{refl, sym, ap}
use Rattle.std.proofs.Common.{◌∙◌, eq-eqb, ne_eqb}
use Rattle.std.proofs.Math.Bool.{true, false, cond}
use Rattle.std.proofs.Math.Decide.{dec_lt}
use native.Mathlib.Omega.{arith}
use Rattle.meaning.specs.Words.{find, is_some, member, keys}
use Rattle.meaning.specs.Cut.{held_by, numbered, class_map}
use Rattle.laws.specs.Runs.{Up}
use Rattle.laws.specs.CutCells.{held_up}
use Rattle.ranks.specs.Listed.{low_none}
use Rattle.cell_maps.specs.Cells.{folded, ranked_mask, Holds}
use Rattle.cell_maps.specs.declared.Map.{Map}
use Rattle.ranked_maps.specs.Once.{up_less, same_members}

-- the most cells that a class map takes: one for each class are at most 4,096, and ranks take 4,097, of which one is spare
abbrev pub most_cells : ℕ
most_cells = ranked_mask + 1

-- the highest number that a class map can have an entry for: its mask, or 65,535 where the mask is even
unfoldable pub top_of : Map → ℕ
top_of m = cond (eqb (m.mask % 2) 0) 65535 m.mask

-- the numbers that have an entry in the cells of m, among the n from c on, ascending
unfoldable pub present_from : List ℕ → Map → ℕ → ℕ → List ℕ
present_from t m c zero = []
present_from t m c (suc n) = cond (is_some (folded t m c)) (c ∷ present_from t m (c + 1) n) (present_from t m (c + 1) n)

-- the classes that have an entry in the cells of m
abbrev pub present : List ℕ → Map → List ℕ
present t m = present_from t m 0 (top_of m + 1)

-- The top by the mask.
module _ (m : Map) where
  pub top_even : m.mask % 2 ≡ 0 → 65535 ≡ top_of m
  unfolding top_of
  top_even e = rw (eq-eqb (m.mask % 2) 0 e)

  pub top_odd : (m.mask % 2 ≡ 0 → ⊥) → m.mask ≡ top_of m
  unfolding top_of
  top_odd e = rw (ne_eqb (m.mask % 2) 0 e)

  pub top_small : m.mask < 65536 → top_of m < 65536
  unfolding top_of
  top_small h = step (eqb (m.mask % 2) 0)
    where
      step : (b : Bool) → cond b 65535 m.mask < 65536
      step true = omega arith
      step false = h

-- a number that may stand first is a member if it does; of a later one the others decide
module _ (c x : ℕ) (rest : List ℕ) where
  here_in : (s : Bool) → Up (c + 1) rest → c ≡ x → member x (cond s (c ∷ rest) rest) ≡ s
  unfolding member
  here_in true u e = rw (eq-eqb c x e)
  here_in false u e = low_none (c + 1) x rest u (omega arith)

  later_in : (s : Bool) → c < x → member x (cond s (c ∷ rest) rest) ≡ member x rest
  unfolding member
  later_in true l = rw (ne_eqb c x (λ e. omega arith))
  later_in false l = refl

-- What the walk finds: numbers that ascend, each with an entry; past its end none.
module _ (t : List ℕ) (m : Map) where
  pub present_up : (c n : ℕ) → Up c (present_from t m c n)
  unfolding present_from
  present_up c zero = tt
  present_up c (suc n) = step (is_some (folded t m c)) (present_up (c + 1) n)
    where
      step : (b : Bool) → Up (c + 1) (present_from t m (c + 1) n) → Up c (cond b (c ∷ present_from t m (c + 1) n) (present_from t m (c + 1) n))
      step true u = (omega arith, u)
      step false u = up_less (present_from t m (c + 1) n) (omega arith) u

  pub present_in : (c n x : ℕ) → c ≤ x → x < c + n → member x (present_from t m c n) ≡ is_some (folded t m x)
  unfolding present_from
  present_in c zero x a b = absurd (omega arith)
  present_in c (suc n) x a b = pick (dec_lt c x) (λ l. present_in (c + 1) n x (omega arith) (omega arith))
    where
      pick : Dec (c < x) → (c < x → member x (present_from t m (c + 1) n) ≡ is_some (folded t m x))
          → member x (cond (is_some (folded t m c)) (c ∷ present_from t m (c + 1) n) (present_from t m (c + 1) n)) ≡ is_some (folded t m x)
      pick (yes l) k = later_in c x (present_from t m (c + 1) n) (is_some (folded t m c)) l ∙ k l
      pick (no l) k =
          let e : c ≡ x = omega arith in
          here_in c x (present_from t m (c + 1) n) (is_some (folded t m c)) (present_up (c + 1) n) e ∙ ap (λ (y : ℕ). is_some (folded t m y)) e

  pub present_out : (c n x : ℕ) → c + n ≤ x → member x (present_from t m c n) ≡ false
  unfolding present_from member
  present_out c zero x h = refl
  present_out c (suc n) x h = step (is_some (folded t m c)) (present_out (c + 1) n x (omega arith))
    where
      step : (s : Bool) → member x (present_from t m (c + 1) n) ≡ false → member x (cond s (c ∷ present_from t m (c + 1) n) (present_from t m (c + 1) n)) ≡ false
      step true k = rw (ne_eqb c x (λ e. omega arith)) k
      step false k = k

  -- from the front, in a loop over c
  module _ (n c : ℕ) where
    pub present_one : c < n → is_some (folded t m c) ≡ true → present_from t m c (n - c) ≡ c ∷ present_from t m (c + 1) (n - (c + 1))
    unfolding present_from
    present_one h e =
        let d : n - c ≡ suc (n - (c + 1)) = omega arith in
        rw (d, e)

    pub present_none : c < n → is_some (folded t m c) ≡ false → present_from t m c (n - c) ≡ present_from t m (c + 1) (n - (c + 1))
    unfolding present_from
    present_none h e =
        let d : n - c ≡ suc (n - (c + 1)) = omega arith in
        rw (d, e)

    pub present_end : n ≤ c → present_from t m c (n - c) ≡ []
    unfolding present_from
    present_end h =
        let d : n - c ≡ 0 = omega arith in
        rw d

  -- where no number above the top has an entry, one has an entry just if the walk finds it
  pub found_present : ((x : ℕ) → top_of m < x → folded t m x ≡ None) → (x : ℕ) → is_some (folded t m x) ≡ member x (present t m)
  unfolding is_some
  found_present above x = step (dec_lt (top_of m) x)
    where
      step : Dec (top_of m < x) → is_some (folded t m x) ≡ member x (present t m)
      step (yes h) = rw (above x h) (sym (present_out 0 (top_of m + 1) x (omega arith)))
      step (no h) = sym (present_in 0 (top_of m + 1) x (omega arith) (omega arith))

-- the answers decide
pub present_alike : (t u : List ℕ) (m : Map) → ((x : ℕ) → folded u m x ≡ folded t m x) → (c n : ℕ) → present_from u m c n ≡ present_from t m c n
unfolding present_from
present_alike t u m h c zero = refl
present_alike t u m h c (suc n) = rw (h c, present_alike t u m h (c + 1) n)

-- Ranks: a number that a numbered list has is found there.
numbered_found : (k x : ℕ) (l : List ℕ) → is_some (find (numbered k l) x) ≡ member x l
unfolding numbered find is_some member
numbered_found k x [] = refl
numbered_found k x (c ∷ l) = step (eqb c x) (numbered_found (k + 1) x l)
  where
    step : (b : Bool) → is_some (find (numbered (k + 1) l) x) ≡ member x l → is_some (cond b (Some k) (find (numbered (k + 1) l) x)) ≡ b || member x l
    step true e = refl
    step false e = e

-- where the cells hold ranks, none for a number above the top, the walk finds the classes that have one
present_ranks : {t : List ℕ} {m : Map} (l : List ℕ) → Up 0 l → Holds t m (numbered 0 l) → ((x : ℕ) → top_of m < x → find (numbered 0 l) x ≡ None) → present t m ≡ l
present_ranks {t} {m} l u h above =
    same_members 0 0 (present t m) l (present_up t m 0 (top_of m + 1)) u
    (λ x. sym (found_present t m (λ y a. h.answers y ∙ above y a) x) ∙ ap is_some (h.answers x) ∙ numbered_found 0 x l)

-- where they hold a class map, it finds the surviving classes
pub present_held : {t : List ℕ} {m : Map} (g cs : List (ℕ × ℕ)) → Holds t m (class_map g cs) → ((x : ℕ) → top_of m < x → find (class_map g cs) x ≡ None) → present t m ≡ held_by cs (keys g)
unfolding class_map
present_held g cs h above = present_ranks (held_by cs (keys g)) (held_up cs (keys g)) h above
