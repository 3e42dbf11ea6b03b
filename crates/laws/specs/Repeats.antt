-- Blocks of one kind without repeats: each is still found, at the offset of the one that is equal.
use Rattle.std.specs.Prelude.{ℕ, ◌+◌, ◌*◌, ◌<◌, ◌≡◌, refl, Bool, true, false, cond, ◌||◌, List, [], ◌∷◌, ◌++◌, length, eqb}
use Rattle.std.proofs.Common.{sym, ap, ap₂, ◌∙◌, subst, true≢false, arith, length-append, eqb-true, eq-eqb}
use Rattle.meaning.specs.Words.{eq_list}
use Rattle.meaning.specs.Packed.{without, first_of_each, together, offset_in}
use Rattle.laws.specs.Stands.{Stands, All, all_map, front, back, moved}
use Rattle.laws.specs.Runs.{both}

-- lists that are the same, as a test and as a fact
pub list_same : (a b : List ℕ) → eq_list a b ≡ true → a ≡ b
unfolding eq_list
list_same [] [] h = refl
list_same [] (y ∷ b) h = absurd (true≢false (sym h))
list_same (x ∷ a) [] h = absurd (true≢false (sym h))
list_same (x ∷ a) (y ∷ b) h =
    let q = both (eqb x y) (eq_list a b) h in
    ap₂ ◌∷◌ (eqb-true x y q.0) (list_same a b q.1)

pub same_list : (a : List ℕ) → eq_list a a ≡ true
unfolding eq_list
same_list [] = refl
same_list (x ∷ a) = rw (eq-eqb x x refl, same_list a)

-- a block is among others
unfoldable pub has : List ℕ → List (List ℕ) → Bool
has b [] = false
has b (d ∷ r) = eq_list d b || has b r

-- other blocks stay where those that are equal to b are left out
has_without : (b x : List ℕ) (ds : List (List ℕ)) → eq_list b x ≡ false → has x (without b ds) ≡ has x ds
unfolding has without
has_without b x [] n = refl
has_without b x (d ∷ ds) n = step (eq_list b d) refl (has_without b x ds n)
  where
    step : (t : Bool) → eq_list b d ≡ t → has x (without b ds) ≡ has x ds → has x (cond t (without b ds) (d ∷ without b ds)) ≡ eq_list d x || has x ds
    step true e i = i ∙ ap (λ (t : Bool). t || has x ds) (sym n ∙ ap (λ (l : List ℕ). eq_list l x) (list_same b d e))
    step false e i = ap (λ (t : Bool). eq_list d x || t) i

-- each block is among those that are written
pub each_has : (bs : List (List ℕ)) → All (λ b. has b (first_of_each bs) ≡ true) bs
unfolding has first_of_each
each_has [] = tt
each_has (b ∷ bs) = (ap (λ (t : Bool). t || has b (without b (first_of_each bs))) (same_list b), all_map (λ x. has x (first_of_each bs) ≡ true) (λ x. eq_list b x || has x (without b (first_of_each bs)) ≡ true) stays bs (each_has bs))
  where
    stays : (x : List ℕ) → has x (first_of_each bs) ≡ true → eq_list b x || has x (without b (first_of_each bs)) ≡ true
    stays x h = step (eq_list b x) refl
      where
        step : (t : Bool) → eq_list b x ≡ t → t || has x (without b (first_of_each bs)) ≡ true
        step true e = refl
        step false e = has_without b x (first_of_each bs) e ∙ h

-- a block that is among others that stand one after the other stands at its offset
pub placed : {s : List ℕ} (p : ℕ) (ds : List (List ℕ)) (b : List ℕ) → 0 < p → Stands s (0 + p) (together ds) → has b ds ≡ true → (0 < offset_in p ds b) × Stands s (0 + offset_in p ds b) b
unfolding has together offset_in
placed p [] b z h k = absurd (true≢false (sym k))
placed {s} p (d ∷ ds) b z h k = step (eq_list d b) refl k (placed (p + 2 * length d) ds b (omega arith) (moved (0 + (p + 2 * length d)) (back d (together ds) h) (omega arith)))
  where
    later : ℕ
    later = offset_in (p + 2 * length d) ds b

    step : (t : Bool) → eq_list d b ≡ t → t || has b ds ≡ true → (has b ds ≡ true → (0 < later) × Stands s (0 + later) b) → (0 < cond t p later) × Stands s (0 + cond t p later) b
    step true e q i = (z, subst (Stands s (0 + p)) (list_same d b e) (front d (together ds) h))
    step false e q i = i q

-- Blocks that a loop meets one by one.

without_append : (x : List ℕ) (ds es : List (List ℕ)) → without x (ds ++ es) ≡ without x ds ++ without x es
unfolding without
without_append x [] es = refl
without_append x (d ∷ ds) es = step (eq_list x d) (without_append x ds es)
  where
    step : (t : Bool) → without x (ds ++ es) ≡ without x ds ++ without x es → cond t (without x (ds ++ es)) (d ∷ without x (ds ++ es)) ≡ cond t (without x ds) (d ∷ without x ds) ++ without x es
    step true i = i
    step false i = ap (λ (l : List (List ℕ)). d ∷ l) i

-- the next block is written if it is not among those that are written
pub first_next : (bs : List (List ℕ)) (b : List ℕ) → first_of_each (bs ++ (b ∷ [])) ≡ first_of_each bs ++ cond (has b (first_of_each bs)) [] (b ∷ [])
unfolding first_of_each without has
first_next [] b = refl
first_next (x ∷ bs) b =
    ap (λ (l : List (List ℕ)). x ∷ l) (ap (without x) (first_next bs b) ∙ without_append x all (cond (has b all) [] (b ∷ [])) ∙ ap (λ (l : List (List ℕ)). without x all ++ l) (step (eq_list x b) (has b all) refl refl))
  where
    all : List (List ℕ)
    all = first_of_each bs

    step : (t u : Bool) → eq_list x b ≡ t → has b all ≡ u → without x (cond u [] (b ∷ [])) ≡ cond (t || has b (without x all)) [] (b ∷ [])
    step true true e f = refl
    step true false e f = rw e refl
    step false true e f = rw (has_without x b all e, f) refl
    step false false e f = rw (has_without x b all e, f, e) refl

-- the offsets of blocks that are written stay
pub offset_stays : (p : ℕ) (ds es : List (List ℕ)) (b : List ℕ) → has b ds ≡ true → offset_in p (ds ++ es) b ≡ offset_in p ds b
unfolding has offset_in
offset_stays p [] es b h = absurd (true≢false (sym h))
offset_stays p (d ∷ ds) es b h = step (eq_list d b) h (offset_stays (p + 2 * length d) ds es b)
  where
    step : (t : Bool) → t || has b ds ≡ true → (has b ds ≡ true → offset_in (p + 2 * length d) (ds ++ es) b ≡ offset_in (p + 2 * length d) ds b)
        → cond t p (offset_in (p + 2 * length d) (ds ++ es) b) ≡ cond t p (offset_in (p + 2 * length d) ds b)
    step true q i = refl
    step false q i = i q

-- a block that is not among them stands behind them
pub offset_behind : (p : ℕ) (ds : List (List ℕ)) (b : List ℕ) → has b ds ≡ false → offset_in p (ds ++ (b ∷ [])) b ≡ p + 2 * length (together ds)
unfolding has offset_in together
offset_behind p [] b h = rw (same_list b) (omega arith)
offset_behind p (d ∷ ds) b h = step (eq_list d b) h (offset_behind (p + 2 * length d) ds b)
  where
    step : (t : Bool) → t || has b ds ≡ false → (has b ds ≡ false → offset_in (p + 2 * length d) (ds ++ (b ∷ [])) b ≡ p + 2 * length d + 2 * length (together ds))
        → cond t p (offset_in (p + 2 * length d) (ds ++ (b ∷ [])) b) ≡ p + 2 * length (d ++ together ds)
    step true q i = absurd (true≢false q)
    step false q i = i q ∙ omega (arith, length-append d (together ds))
