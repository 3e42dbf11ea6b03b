-- The records of a match under two lookup maps: both come from the source's records, in order.
use Rattle.std.specs.Prelude.{ℕ, ◌≡◌, refl, Bool, true, false, cond, List, [], ◌∷◌}
use Rattle.std.proofs.Common.{sym, ap, true≢false}
use Rattle.meaning.specs.Words.{find, is_some}
use Rattle.promises.specs.Strings.{Retained}
use Rattle.promises.specs.Rules.{with_lookup}

-- the records whose lookup the first map has are among those whose lookup the second has, in order
pub records_within : (l m : List (ℕ × ℕ)) → ((x : ℕ) → Retained l x → Retained m x) → (rs : List (ℕ × ℕ)) → with_lookup l (with_lookup m rs) ≡ with_lookup l rs
unfolding with_lookup
records_within l m w [] = refl
records_within l m w (r ∷ rs) = go (is_some (find l r.1)) (is_some (find m r.1)) refl (w r.1) (records_within l m w rs)
  where
    go : (a b : Bool) → is_some (find l r.1) ≡ a → (is_some (find l r.1) ≡ true → b ≡ true) → with_lookup l (with_lookup m rs) ≡ with_lookup l rs
        → with_lookup l (cond b (r ∷ with_lookup m rs) (with_lookup m rs)) ≡ cond a (r ∷ with_lookup l rs) (with_lookup l rs)
    go true true e f i = rw e (ap (λ (q : List (ℕ × ℕ)). r ∷ q) i)
    go true false e f i = absurd (true≢false (sym (f e)))
    go false true e f i = rw e i
    go false false e f i = i
