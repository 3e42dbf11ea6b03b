-- A class is its glyphs among all 65,536 ids, and a coverage its glyphs: their runs are equal exactly if the same glyphs are held.
use Rattle.std.specs.Prelude.{ℕ, ◌+◌, ◌-◌, ◌≤◌, ◌<◌, ◌≡◌, refl, Bool, true, false, cond, ◌&&◌, ◌||◌, not, List, [], ◌∷◌, leb, ltb, eqb, Option, None, Some, unwrap_or}
use Rattle.std.proofs.Common.{sym, ap, ap₂, ◌∙◌, true≢false, arith, eqb-true, eq-eqb, ne_eqb, ltb-true, ltb-false, le-leb}
use Rattle.std.proofs.lemmas.Bool.{eqb-false, lt-leb}
use Rattle.meaning.specs.Words.{member, keys, find, push, map_some}
use Rattle.meaning.specs.Parts.{class_of, listed, class_in}
use Rattle.meaning.specs.Matching.{in_class, covers?}
use Rattle.laws.specs.Runs.{Up}
use Rattle.laws.specs.Stands.{All, Word}
use Rattle.laws.specs.Through.{Opt}
use Rattle.laws.specs.PartsBack.{Glyphs, Classes, Classed}
use Rattle.differences.specs.Content.{join_run, glyph_runs, between, listed_with, class_runs, class_runs?, cover_runs}

-- Runs.

-- a glyph stands in one of the runs
unfoldable pub in_runs : List (ℕ × ℕ) → ℕ → Bool
in_runs [] g = false
in_runs (e ∷ r) g = (leb e.0 g && leb g e.1) || in_runs r g

-- longest runs: each has start at most end, ends by 65,535, and begins after a gap; none begins below low
abbrev Longest : ℕ → List (ℕ × ℕ) → Type 0
Longest low [] = Unit {0}
Longest low (e ∷ r) = (low ≤ e.0) × (e.0 ≤ e.1) × (e.1 < 65536) × Longest (e.1 + 2) r

below : (low : ℕ) (rs : List (ℕ × ℕ)) (g : ℕ) → Longest low rs → g < low → in_runs rs g ≡ false
unfolding in_runs
below low [] g u h = refl
below low (e ∷ r) g u h = rw (lt-leb e.0 g (omega (arith, u.0))) (below (e.1 + 2) r g u.3 (omega (arith, u.0, u.1)))

-- a glyph of the first run, and a glyph past it
first_run : (e : ℕ × ℕ) (r : List (ℕ × ℕ)) (g : ℕ) → e.0 ≤ g → g ≤ e.1 → in_runs (e ∷ r) g ≡ true
unfolding in_runs
first_run e r g h k = rw (le-leb e.0 g h, le-leb g e.1 k)

past_run : (e : ℕ × ℕ) (r : List (ℕ × ℕ)) (g : ℕ) → e.1 < g → in_runs (e ∷ r) g ≡ in_runs r g
unfolding in_runs
past_run e r g h = go (leb e.0 g)
  where
    go : (b : Bool) → (b && leb g e.1) || in_runs r g ≡ in_runs r g
    go true = rw (lt-leb g e.1 h)
    go false = refl

clash : (t : Bool) → t ≡ true → t ≡ false → ⊥
clash t a b = true≢false (sym a ∙ b)

-- longest runs that hold the same glyphs are equal
runs_tell : (low : ℕ) (rs qs : List (ℕ × ℕ)) → Longest low rs → Longest low qs → ((g : ℕ) → g < 65536 → in_runs rs g ≡ in_runs qs g) → rs ≡ qs
unfolding in_runs
runs_tell low [] [] u v h = refl
runs_tell low [] (f ∷ q) u v h = absurd (true≢false (sym (first_run f q f.0 (omega arith) v.1) ∙ sym (h f.0 (omega (arith, v.1, v.2)))))
runs_tell low (e ∷ r) [] u v h = absurd (true≢false (sym (first_run e r e.0 (omega arith) u.1) ∙ h e.0 (omega (arith, u.1, u.2))))
runs_tell low (e ∷ r) (f ∷ q) u v h =
    ap₂ (λ (x : ℕ × ℕ) (y : List (ℕ × ℕ)). x ∷ y) (ap₂ (λ (x y : ℕ). (x, y)) starts ends) (runs_tell (e.1 + 2) r q u.3 (rw (← ends) at v.3) (λ g k. rest g k (ltb g (e.1 + 2)) refl))
  where
    starts : e.0 ≡ f.0
    starts = go (ltb e.0 f.0) (ltb f.0 e.0) refl refl
      where
        go : (s t : Bool) → ltb e.0 f.0 ≡ s → ltb f.0 e.0 ≡ t → e.0 ≡ f.0
        go true t a b = absurd (clash (in_runs (f ∷ q) e.0) (sym (h e.0 (omega (arith, u.1, u.2))) ∙ first_run e r e.0 (omega arith) u.1)
            (below f.0 (f ∷ q) e.0 (omega arith, v.1, v.2, v.3) (ltb-true e.0 f.0 a)))
        go false true a b = absurd (clash (in_runs (e ∷ r) f.0) (h f.0 (omega (arith, v.1, v.2)) ∙ first_run f q f.0 (omega arith) v.1)
            (below e.0 (e ∷ r) f.0 (omega arith, u.1, u.2, u.3) (ltb-true f.0 e.0 b)))
        go false false a b = omega (arith, ltb-false e.0 f.0 a, ltb-false f.0 e.0 b)

    ends : e.1 ≡ f.1
    ends = go (ltb e.1 f.1) (ltb f.1 e.1) refl refl
      where
        go : (s t : Bool) → ltb e.1 f.1 ≡ s → ltb f.1 e.1 ≡ t → e.1 ≡ f.1
        go true t a b =
            let n = e.1 + 1 in
            let k = ltb-true e.1 f.1 a in
            absurd (clash (in_runs (e ∷ r) n) (h n (omega (arith, v.2)) ∙ first_run f q n (omega (arith, starts, u.1)) (omega arith)) (past_run e r n (omega arith) ∙ below (e.1 + 2) r n u.3 (omega arith)))
        go false true a b =
            let n = f.1 + 1 in
            let k = ltb-true f.1 e.1 b in
            absurd (clash (in_runs (f ∷ q) n) (sym (h n (omega (arith, u.2))) ∙ first_run e r n (omega (arith, starts, v.1)) (omega arith)) (past_run f q n (omega arith) ∙ below (f.1 + 2) q n v.3 (omega arith)))
        go false false a b = omega (arith, ltb-false e.1 f.1 a, ltb-false f.1 e.1 b)

    rest : (g : ℕ) → g < 65536 → (t : Bool) → ltb g (e.1 + 2) ≡ t → in_runs r g ≡ in_runs q g
    rest g k true a = below (e.1 + 2) r g u.3 (ltb-true g (e.1 + 2) a) ∙ sym (below (f.1 + 2) q g v.3 (omega (arith, ltb-true g (e.1 + 2) a, ends)))
    rest g k false a =
        let l = ltb-false g (e.1 + 2) a in
        sym (past_run e r g (omega arith)) ∙ h g k ∙ past_run f q g (omega (arith, ends))

-- Ascending glyphs as runs.

join_longest : (low g : ℕ) (rs : List (ℕ × ℕ)) → low ≤ g → g < 65536 → Longest (g + 1) rs → Longest low (join_run g rs)
unfolding join_run
join_longest low g [] h k u = (h, omega arith, k, tt)
join_longest low g (e ∷ r) h k u = go (eqb (g + 1) e.0) refl
  where
    go : (t : Bool) → eqb (g + 1) e.0 ≡ t → Longest low (cond t ((g, e.1) ∷ r) ((g, g) ∷ e ∷ r))
    go true q = (h, omega (arith, u.0, u.1), u.2, u.3)
    go false q = (h, omega arith, k, (omega (arith, u.0, eqb-false (g + 1) e.0 q), u.1, u.2, u.3))

runs_longest : (low : ℕ) (gs : List ℕ) → Up low gs → All Word gs → Longest low (glyph_runs gs)
unfolding glyph_runs
runs_longest low [] u w = tt
runs_longest low (g ∷ gs) u w = join_longest low g (glyph_runs gs) u.0 w.0 (runs_longest (g + 1) gs u.1 w.1)

-- one of two numbers is lower, or they are equal
tri : {P : Type 0} (a b : ℕ) → (a < b → P) → (a ≡ b → P) → (b < a → P) → P
tri {P} a b less same more = go (ltb a b) (ltb b a) refl refl
  where
    go : (s t : Bool) → ltb a b ≡ s → ltb b a ≡ t → P
    go true t x y = less (ltb-true a b x)
    go false true x y = more (ltb-true b a y)
    go false false x y = same (omega (arith, ltb-false a b x, ltb-false b a y))

pub one_in : (g k : ℕ) → leb g k && leb k g ≡ eqb g k
one_in g k =
    tri g k (λ h. rw (le-leb g k (omega arith), lt-leb k g h, ne_eqb g k (λ q. omega arith)))
    (λ h. rw (le-leb g k (omega arith), le-leb k g (omega arith), eq-eqb g k h))
    (λ h. rw (lt-leb g k h, ne_eqb g k (λ q. omega arith)))

grown_in : (g z k : ℕ) → g + 1 ≤ z → leb g k && leb k z ≡ eqb g k || (leb (g + 1) k && leb k z)
grown_in g z k l =
    tri g k (λ h. rw (le-leb g k (omega arith), le-leb (g + 1) k (omega arith), ne_eqb g k (λ q. omega arith)))
    (λ h. rw (le-leb g k (omega arith), le-leb k z (omega arith), eq-eqb g k h))
    (λ h. rw (lt-leb g k h, lt-leb (g + 1) k (omega arith), ne_eqb g k (λ q. omega arith)))

or_assoc : (a b c : Bool) → (a || b) || c ≡ a || (b || c)
or_assoc true b c = refl
or_assoc false b c = refl

join_in : (g : ℕ) (rs : List (ℕ × ℕ)) → Longest (g + 1) rs → (k : ℕ) → in_runs (join_run g rs) k ≡ eqb g k || in_runs rs k
unfolding join_run in_runs
join_in g [] u k = ap (λ (b : Bool). b || false) (one_in g k)
join_in g (e ∷ r) u k = go (eqb (g + 1) e.0) refl
  where
    go : (t : Bool) → eqb (g + 1) e.0 ≡ t → in_runs (cond t ((g, e.1) ∷ r) ((g, g) ∷ e ∷ r)) k ≡ eqb g k || ((leb e.0 k && leb k e.1) || in_runs r k)
    go true q =
        let a = eqb-true (g + 1) e.0 q in
        ap (λ (b : Bool). b || in_runs r k) (grown_in g e.1 k (omega (arith, u.1))) ∙ or_assoc (eqb g k) (leb (g + 1) k && leb k e.1) (in_runs r k)
        ∙ ap (λ (x : ℕ). eqb g k || ((leb x k && leb k e.1) || in_runs r k)) a
    go false q = ap (λ (b : Bool). b || ((leb e.0 k && leb k e.1) || in_runs r k)) (one_in g k)

runs_in : (low : ℕ) (gs : List ℕ) → Up low gs → All Word gs → (k : ℕ) → in_runs (glyph_runs gs) k ≡ member k gs
unfolding glyph_runs member in_runs
runs_in low [] u w k = refl
runs_in low (g ∷ gs) u w k = join_in g (glyph_runs gs) (runs_longest (g + 1) gs u.1 w.1) k ∙ ap (λ (b : Bool). eqb g k || b) (runs_in (g + 1) gs u.1 w.1 k)

-- The other ids.

weaken : (low high : ℕ) (rs : List (ℕ × ℕ)) → low ≤ high → Longest high rs → Longest low rs
weaken low high [] h u = tt
weaken low high (e ∷ r) h u = (omega (arith, u.0), u.1, u.2, u.3)

between_longest : (low : ℕ) (rs : List (ℕ × ℕ)) → Longest low rs → Longest low (between low rs)
unfolding between
between_longest low [] u = go (ltb low 65536) refl
  where
    go : (t : Bool) → ltb low 65536 ≡ t → Longest low (cond t ((low, 65535) ∷ []) [])
    go true q = let h = ltb-true low 65536 q in (omega arith, omega arith, omega arith, tt)
    go false q = tt
between_longest low (e ∷ r) u = go (ltb low e.0) refl (between_longest (e.1 + 1) r (weaken (e.1 + 1) (e.1 + 2) r (omega arith) u.3))
  where
    go : (t : Bool) → ltb low e.0 ≡ t → Longest (e.1 + 1) (between (e.1 + 1) r) → Longest low (cond t ((low, e.0 - 1) ∷ between (e.1 + 1) r) (between (e.1 + 1) r))
    go true q k =
        let h = ltb-true low e.0 q in
        (omega arith, omega arith, omega (arith, u.1, u.2), weaken (e.0 - 1 + 2) (e.1 + 1) (between (e.1 + 1) r) (omega (arith, u.1)) k)
    go false q k = weaken low (e.1 + 1) (between (e.1 + 1) r) (omega (arith, u.0, u.1)) k

between_in : (low : ℕ) (rs : List (ℕ × ℕ)) → Longest low rs → (g : ℕ) → g < 65536 → in_runs (between low rs) g ≡ leb low g && not (in_runs rs g)
unfolding between in_runs
between_in low [] u g b = go (ltb low 65536) refl
  where
    to_true : (t : Bool) → t && true ≡ t
    to_true true = refl
    to_true false = refl

    or_false : (t : Bool) → t || false ≡ t
    or_false true = refl
    or_false false = refl

    go : (t : Bool) → ltb low 65536 ≡ t → in_runs (cond t ((low, 65535) ∷ []) []) g ≡ leb low g && true
    go true q = rw (le-leb g 65535 (omega arith)) (or_false (leb low g && true))
    go false q = rw (lt-leb low g (omega (arith, ltb-false low 65536 q)))
between_in low (e ∷ r) u g b =
    let others = between_in (e.1 + 1) r (weaken (e.1 + 1) (e.1 + 2) r (omega arith) u.3) g b in
    tri g e.0 (λ h. before others h (ltb low e.0) refl) (λ h. within others (omega arith) (omega (arith, u.1)) (ltb low e.0) refl)
    (λ h. tri g e.1 (λ k. within others (omega arith) (omega arith) (ltb low e.0) refl) (λ k. within others (omega arith) (omega arith) (ltb low e.0) refl) (λ k. after others k (ltb low e.0) refl))
  where
    Others : Type 0
    Others = in_runs (between (e.1 + 1) r) g ≡ leb (e.1 + 1) g && not (in_runs r g)

    Wanted : Bool → Type 0
    Wanted t = in_runs (cond t ((low, e.0 - 1) ∷ between (e.1 + 1) r) (between (e.1 + 1) r)) g ≡ leb low g && not ((leb e.0 g && leb g e.1) || in_runs r g)

    or_false : (t : Bool) → t || false ≡ t
    or_false true = refl
    or_false false = refl

    before : Others → g < e.0 → (t : Bool) → ltb low e.0 ≡ t → Wanted t
    before o h true q =
        rw (o, le-leb g (e.0 - 1) (omega arith), lt-leb (e.1 + 1) g (omega (arith, u.1)), lt-leb e.0 g h, below (e.1 + 2) r g u.3 (omega (arith, u.1)))
        (or_false (leb low g && true))
    before o h false q = let k = ltb-false low e.0 q in rw (o, lt-leb (e.1 + 1) g (omega (arith, u.1)), lt-leb low g (omega arith))

    within : Others → e.0 ≤ g → g ≤ e.1 → (t : Bool) → ltb low e.0 ≡ t → Wanted t
    within o h k true q =
        let l = ltb-true low e.0 q in
        rw (o, lt-leb g (e.0 - 1) (omega arith), le-leb low g (omega arith), lt-leb (e.1 + 1) g (omega arith), le-leb e.0 g h, le-leb g e.1 k)
    within o h k false q = rw (o, le-leb low g (omega (arith, u.0)), lt-leb (e.1 + 1) g (omega arith), le-leb e.0 g h, le-leb g e.1 k)

    after : Others → e.1 < g → (t : Bool) → ltb low e.0 ≡ t → Wanted t
    after o h true q = rw (o, lt-leb g (e.0 - 1) (omega (arith, u.1)), le-leb low g (omega (arith, u.0, u.1)), le-leb (e.1 + 1) g (omega arith), le-leb e.0 g (omega (arith, u.1)), lt-leb g e.1 h)
    after o h false q = rw (o, le-leb low g (omega (arith, u.0, u.1)), le-leb (e.1 + 1) g (omega arith), le-leb e.0 g (omega (arith, u.1)), lt-leb g e.1 h)

-- Class tables.

-- a glyph below the listed ones is not listed
class_low : (low : ℕ) (cs : List (ℕ × ℕ)) (g : ℕ) → Up low (keys cs) → g < low → class_of cs g ≡ 0
unfolding class_of find keys
class_low low [] g u h = refl
class_low low (e ∷ cs) g u h = rw (ne_eqb e.0 g (λ q. omega (arith, u.0))) (class_low (e.0 + 1) cs g u.1 (omega (arith, u.0)))

-- the listed glyphs are those of another class than 0
keys_in : (low : ℕ) (cs : List (ℕ × ℕ)) → All Classed cs → (g : ℕ) → member g (keys cs) ≡ not (eqb (class_of cs g) 0)
unfolding class_of find keys member
keys_in low [] w g = refl
keys_in low (e ∷ cs) w g = go (eqb e.0 g) (keys_in low cs w.1 g)
  where
    go : (b : Bool) → member g (keys cs) ≡ not (eqb (unwrap_or (find cs g) 0) 0) → b || member g (keys cs) ≡ not (eqb (unwrap_or (cond b (Some e.1) (find cs g)) 0) 0)
    go true k = rw (ne_eqb e.1 0 (λ q. omega (arith, w.0.2)))
    go false k = k

keys_words : (cs : List (ℕ × ℕ)) → All Classed cs → All Word (keys cs)
unfolding keys
keys_words [] w = tt
keys_words (e ∷ cs) w = (w.0.0, keys_words cs w.1)

-- those listed with a class other than 0
listed_up : (c low : ℕ) (cs : List (ℕ × ℕ)) → Up low (keys cs) → Up low (listed_with c cs)
unfolding listed_with map_some push keys
listed_up c low [] u = tt
listed_up c low (e ∷ cs) u = go (eqb e.1 c) (listed_up c (e.0 + 1) cs u.1)
  where
    lower : (l : List ℕ) → Up (e.0 + 1) l → Up low l
    lower [] k = tt
    lower (x ∷ l) k = (omega (arith, u.0, k.0), k.1)

    go : (b : Bool) → Up (e.0 + 1) (listed_with c cs) → Up low (push (cond b (Some e.0) None) (listed_with c cs))
    go true k = (u.0, k)
    go false k = lower (listed_with c cs) k

listed_words : (c : ℕ) (cs : List (ℕ × ℕ)) → All Classed cs → All Word (listed_with c cs)
unfolding listed_with map_some push
listed_words c [] w = tt
listed_words c (e ∷ cs) w = go (eqb e.1 c) (listed_words c cs w.1)
  where
    go : (b : Bool) → All Word (listed_with c cs) → All Word (push (cond b (Some e.0) None) (listed_with c cs))
    go true k = (w.0.0, k)
    go false k = k

listed_in : (c low : ℕ) (cs : List (ℕ × ℕ)) → (c ≡ 0 → ⊥) → Up low (keys cs) → (g : ℕ) → member g (listed_with c cs) ≡ eqb (class_of cs g) c
unfolding listed_with map_some push class_of find keys member
listed_in c low [] z u g = sym (ne_eqb 0 c (λ q. z (sym q)))
listed_in c low (e ∷ cs) z u g = go (eqb e.0 g) (eqb e.1 c) refl refl (listed_in c (e.0 + 1) cs z u.1 g)
  where
    go : (b t : Bool) → eqb e.0 g ≡ b → eqb e.1 c ≡ t → member g (listed_with c cs) ≡ eqb (class_of cs g) c
        → member g (push (cond t (Some e.0) None) (listed_with c cs)) ≡ eqb (unwrap_or (cond b (Some e.1) (find cs g)) 0) c
    go true true p q k = rw (p, q)
    go true false p q k = let s = eqb-true e.0 g p in k ∙ rw (q, class_low (e.0 + 1) cs g u.1 (omega arith)) (ne_eqb 0 c (λ w. z (sym w)))
    go false true p q k = rw p k
    go false false p q k = k

-- the runs of a class hold the glyphs of that class
class_in_lem : (cs : List (ℕ × ℕ)) → Classes cs → (c g : ℕ) → g < 65536 → in_runs (class_runs cs c) g ≡ eqb (class_of cs g) c
unfolding class_runs
class_in_lem cs k c g b = go (eqb c 0) refl
  where
    words : All Word (keys cs)
    words = keys_words cs k.1

    back : (t : Bool) → not (not t) ≡ t
    back true = refl
    back false = refl

    go : (t : Bool) → eqb c 0 ≡ t → in_runs (cond t (between 0 (glyph_runs (keys cs))) (glyph_runs (listed_with c cs))) g ≡ eqb (class_of cs g) c
    go true q =
        between_in 0 (glyph_runs (keys cs)) (runs_longest 0 (keys cs) k.0 words) g b
        ∙ rw (le-leb 0 g (omega arith), runs_in 0 (keys cs) k.0 words g, keys_in 0 cs k.1 g, eqb-true c 0 q) (back (eqb (class_of cs g) 0))
    go false q = runs_in 0 (listed_with c cs) (listed_up c 0 cs k.0) (listed_words c cs k.1) g ∙ listed_in c 0 cs (eqb-false c 0 q) k.0 g

class_longest : (cs : List (ℕ × ℕ)) → Classes cs → (c : ℕ) → Longest 0 (class_runs cs c)
unfolding class_runs
class_longest cs k c = go (eqb c 0)
  where
    go : (t : Bool) → Longest 0 (cond t (between 0 (glyph_runs (keys cs))) (glyph_runs (listed_with c cs)))
    go true = between_longest 0 (glyph_runs (keys cs)) (runs_longest 0 (keys cs) k.0 (keys_words cs k.1))
    go false = runs_longest 0 (listed_with c cs) (listed_up c 0 cs k.0) (listed_words c cs k.1)

-- what a class table that may be null lists
listed_good : (t : Option (List (ℕ × ℕ))) → Opt Classes t → Classes (listed t)
unfolding listed keys
listed_good None k = (tt, tt)
listed_good (Some cs) k = k

pub class_in? : (t : Option (List (ℕ × ℕ))) → Opt Classes t → (c g : ℕ) → g < 65536 → in_runs (class_runs? t c) g ≡ in_class t c g
unfolding class_runs? in_class class_in
class_in? t k c g b = class_in_lem (listed t) (listed_good t k) c g b

class_longest? : (t : Option (List (ℕ × ℕ))) → Opt Classes t → (c : ℕ) → Longest 0 (class_runs? t c)
unfolding class_runs?
class_longest? t k c = class_longest (listed t) (listed_good t k) c

-- Two classes of two tables have equal runs exactly if each of the 65,536 ids that holds the one holds the other.
pub same_class_lem : (t u : Option (List (ℕ × ℕ))) → Opt Classes t → Opt Classes u → (c d : ℕ)
    → (class_runs? t c ≡ class_runs? u d → (g : ℕ) → g < 65536 → in_class t c g ≡ in_class u d g) × (((g : ℕ) → g < 65536 → in_class t c g ≡ in_class u d g) → class_runs? t c ≡ class_runs? u d)
same_class_lem t u k l c d = (
  (λ e g b. sym (class_in? t k c g b) ∙ ap (λ (rs : List (ℕ × ℕ)). in_runs rs g) e ∙ class_in? u l d g b),
  λ h. runs_tell 0 (class_runs? t c) (class_runs? u d) (class_longest? t k c) (class_longest? u l d) (λ g b. class_in? t k c g b ∙ h g b ∙ sym (class_in? u l d g b)),
)

-- Coverages.

pub cover_in : (t : Option (List ℕ)) → Opt Glyphs t → (g : ℕ) → in_runs (cover_runs t) g ≡ covers? t g
unfolding cover_runs covers? in_runs
cover_in None k g = refl
cover_in (Some cov) k g = runs_in 0 cov k.0 k.1 g

cover_longest : (t : Option (List ℕ)) → Opt Glyphs t → Longest 0 (cover_runs t)
unfolding cover_runs
cover_longest None k = tt
cover_longest (Some cov) k = runs_longest 0 cov k.0 k.1

-- Two coverages have equal runs exactly if each glyph that the one covers is covered by the other.
pub same_cover : (t u : Option (List ℕ)) → Opt Glyphs t → Opt Glyphs u
    → (cover_runs t ≡ cover_runs u → (g : ℕ) → covers? t g ≡ covers? u g) × (((g : ℕ) → g < 65536 → covers? t g ≡ covers? u g) → cover_runs t ≡ cover_runs u)
same_cover t u k l = (
  (λ e g. sym (cover_in t k g) ∙ ap (λ (rs : List (ℕ × ℕ)). in_runs rs g) e ∙ cover_in u l g),
  λ h. runs_tell 0 (cover_runs t) (cover_runs u) (cover_longest t k) (cover_longest u l) (λ g b. cover_in t k g ∙ h g b ∙ sym (cover_in u l g)),
)
