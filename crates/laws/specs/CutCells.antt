-- What is cut from a good pair table by class, and from good single substitutions, is good.
use Prim.Native.Nat.{ℕ, suc, ◌+◌, ◌-◌, ◌≤◌, ◌<◌, ◌%◌}
use Rattle.std.specs.Prelude.{◌≡◌, Bool, true, false, cond, ◌&&◌, get_or, eqb, Option, None, Some, unwrap_or}
use Rattle.std.proofs.Math.Path.{refl, ap, subst}
use Rattle.std.proofs.Common.{sym, ◌∙◌}
use mathlib.Core.List.{List, [], ◌∷◌, map}
use native.Mathlib.Omega.{arith}
use Rattle.std.proofs.Math.ListN.{length, length-map}
use Rattle.std.proofs.Math.Dec.{ltb}
use borrow.Author.Tests.{ltb-true, ltb-false, lt-ltb, eqb-true, eqb-false, eq-eqb, ne_eqb}
use Rattle.meaning.specs.Words.{every, keys, values, find, bind, push, map_some}
use Rattle.meaning.specs.Parts.{class_of}
use Rattle.meaning.specs.Tables.{Pair, Table, field_count, delta_pairs, list_pairs}
use Rattle.meaning.specs.Cut.{insert_up, held_by, numbered, class_map, classes_under, new_classes, new_coverage, cut_pair, new_format, new_second, thin_pair, thin, covered_map, second_map, kept_rows, rows_of, kept_class_pairs, kept_substitutes, delta_of, agree, kept_singles, cut}
use Rattle.laws.specs.Stands.{word_end, All, all_map, Word}
use Rattle.laws.specs.Runs.{Up, both}
use Rattle.laws.specs.PartsBack.{Glyphs, Classes}
use Rattle.laws.specs.Through.{Opt}
use Rattle.laws.specs.SetsBack.{Words2, GoodPair}
use Rattle.laws.specs.CellsBack.{CellsFrom, GoodRow, Below}
use Rattle.laws.specs.ReadsBack.{Good, kind_of}
use Rattle.laws.specs.CutGood.{Values, GoodMap, GoodOf, Rising, opt_bind, all_map_some, opt_cond, find_word, map_some_up₀, itself, any, map_same, keys_map, values_map, up_length, numbered_values, new_words, rises, new_coverage_glyphs, class_values, new_classes_lem, classes_under_lem, format_small, second_small, thin_pair_lem}

all_any : {A : Type 0} (l : List A) → All (λ (a : A). Unit {0}) l
all_any [] = tt
all_any (a ∷ l) = (tt, all_any l)

-- a test of each, as a fact of each, and back
pub every_all : {A : Type 0} (test : A → Bool) (l : List A) → All (λ a. test a ≡ true) l → every test l ≡ true
unfolding every
every_all test [] h = refl
every_all test (a ∷ l) h = rw h.0 (every_all test l h.1)

pub all_every : {A : Type 0} (test : A → Bool) (l : List A) → every test l ≡ true → All (λ a. test a ≡ true) l
unfolding every
all_every test [] h = tt
all_every test (a ∷ l) h = let q = both (test a) (every test l) h in (q.0, all_every test l q.1)

-- Single substitutions.

delta_keys : (cov : List ℕ) (d : ℕ) → keys (delta_pairs cov d) ≡ cov
unfolding keys delta_pairs
delta_keys [] d = refl
delta_keys (g ∷ cov) d = ap (λ (l : List ℕ). g ∷ l) (delta_keys cov d)

pub delta_up : (cov : List ℕ) (d : ℕ) → Up 0 cov → Up 0 (keys (delta_pairs cov d))
delta_up cov d u = subst (Up 0) (sym (delta_keys cov d)) u

pub list_up : (low : ℕ) (cov subs : List ℕ) → Up low cov → Up low (keys (list_pairs cov subs))
unfolding keys list_pairs
list_up low [] subs u = tt
list_up low (g ∷ cov) [] u = tt
list_up low (g ∷ cov) (x ∷ subs) u = (u.0, list_up (g + 1) cov subs u.1)

values_words : (l : List (ℕ × ℕ)) → All Words2 l → All Word (values l)
unfolding values
values_words [] h = tt
values_words (e ∷ l) h = (h.0.1, values_words l h.1)

keys_words : (l : List (ℕ × ℕ)) → All Words2 l → All Word (keys l)
unfolding keys
keys_words [] h = tt
keys_words (e ∷ l) h = (h.0.0, keys_words l h.1)

columns : (l : List (ℕ × ℕ)) → length (keys l) ≡ length (values l)
unfolding keys values
columns [] = refl
columns (e ∷ l) = ap suc (columns l)

delta_word : (e : ℕ × ℕ) → Word (delta_of e)
unfolding delta_of
delta_word e = omega arith

singles_kept : (ks : List (ℕ × ℕ)) → Up 0 (keys ks) → All Words2 ks → Opt (GoodOf 5) (kept_singles ks)
unfolding kept_singles kind_of
singles_kept [] u h = tt
singles_kept (e ∷ r) u h = step (agree (e ∷ r))
  where
    step : (t : Bool) → GoodOf 5 (cond t (Table.single_delta (Some (keys (e ∷ r))) (delta_of e)) (Table.single_list (Some (keys (e ∷ r))) (values (e ∷ r))))
    step true = (((u, keys_words (e ∷ r) h), delta_word e), refl)
    step false = (((u, keys_words (e ∷ r) h), values_words (e ∷ r) h, columns (e ∷ r)), refl)

module _ (g : List (ℕ × ℕ)) (good : GoodMap g) where
  -- what is kept has words in both columns
  pub substitutes_words : (es : List (ℕ × ℕ)) → All Words2 (kept_substitutes g es)
  unfolding kept_substitutes
  substitutes_words es =
      all_map_some (λ (e : ℕ × ℕ). Unit {0}) Words2 (λ e. bind (find g e.0) (λ n. bind (find g e.1) (λ m. Some (n, m))))
      (λ e u. opt_bind Word Words2 (find g e.0) _ (find_word g e.0 (new_words g good)) (λ n p. opt_bind Word Words2 (find g e.1) _ (find_word g e.1 (new_words g good)) (λ m q. (p, q)))) es (all_any es)

  pub singles_good : (es : List (ℕ × ℕ)) → Up 0 (keys es) → Opt (GoodOf 5) (kept_singles (kept_substitutes g es))
  unfolding kept_substitutes
  singles_good es u =
      singles_kept (map_some f es)
      (subst (Up 0) (sym (keys_map (map_some f es))) (map_some_up₀ (λ (e : ℕ × ℕ). e.0) (λ (e : ℕ × ℕ). e.0) f (find g) (rises g good) follow es (subst (Up 0) (keys_map es) u)))
      (substitutes_words es)
    where
      f : ℕ × ℕ → Option (ℕ × ℕ)
      f e = bind (find g e.0) (λ n. bind (find g e.1) (λ m. Some (n, m)))

      follow : (e : ℕ × ℕ) → Opt (λ b. find g e.0 ≡ Some b.0) (f e)
      follow e =
          let Q : ℕ × ℕ → Type 0 = λ b. find g e.0 ≡ Some b.0 in
          opt_bind (λ n. find g e.0 ≡ Some n) Q (find g e.0) _ (itself (find g e.0)) (λ n p.
          opt_bind (λ m. Unit {0}) Q (find g e.1) _ (any (find g e.1)) (λ m u. p))

-- Classes that are held.

-- a number put into an ascending list leaves it ascending
pub insert_up_lem : (low c : ℕ) (l : List ℕ) → low ≤ c → Up low l → Up low (insert_up c l)
unfolding insert_up
insert_up_lem low c [] h u = (h, tt)
insert_up_lem low c (d ∷ r) h u = step (ltb c d) (eqb c d) refl refl (λ g. insert_up_lem (d + 1) c r g u.1)
  where
    step : (s t : Bool) → ltb c d ≡ s → eqb c d ≡ t → (d + 1 ≤ c → Up (d + 1) (insert_up c r)) → Up low (cond s (c ∷ d ∷ r) (cond t (d ∷ r) (d ∷ insert_up c r)))
    step true t e f k = (h, (omega (arith, ltb-true c d e), u.1))
    step false true e f k = u
    step false false e f k = (u.0, k (omega (arith, ltb-false c d e, eqb-false c d f)))

-- the classes that glyphs hold ascend
pub held_up : (cs : List (ℕ × ℕ)) (gs : List ℕ) → Up 0 (held_by cs gs)
unfolding held_by
held_up cs [] = tt
held_up cs (g ∷ gs) = insert_up_lem 0 (class_of cs g) (held_by cs gs) (omega arith) (held_up cs gs)

insert_all : (P : ℕ → Type 0) (c : ℕ) (l : List ℕ) → P c → All P l → All P (insert_up c l)
unfolding insert_up
insert_all P c [] p h = (p, tt)
insert_all P c (d ∷ r) p h = step (ltb c d) (eqb c d) (insert_all P c r p h.1)
  where
    step : (s t : Bool) → All P (insert_up c r) → All P (cond s (c ∷ d ∷ r) (cond t (d ∷ r) (d ∷ insert_up c r)))
    step true t k = (p, h)
    step false true k = h
    step false false k = (h.0, k)

pub held_all : (P : ℕ → Type 0) (cs : List (ℕ × ℕ)) (gs : List ℕ) → All (λ g. P (class_of cs g)) gs → All P (held_by cs gs)
unfolding held_by
held_all P cs [] h = tt
held_all P cs (g ∷ gs) h = insert_all P (class_of cs g) (held_by cs gs) h.0 (held_all P cs gs h.1)

-- a class of a table whose classes are below n is below n
pub class_below : (n : ℕ) (cs : List (ℕ × ℕ)) (g : ℕ) → 0 < n → All (λ e. e.1 < n) cs → class_of cs g < n
unfolding class_of find
class_below n [] g z h = z
class_below n (e ∷ cs) g z h = step (eqb e.0 g) (class_below n cs g z h.1)
  where
    step : (t : Bool) → unwrap_or (find cs g) 0 < n → unwrap_or (cond t (Some e.1) (find cs g)) 0 < n
    step true k = h.0
    step false k = k

all_classes : (n : ℕ) (cs : List (ℕ × ℕ)) → 0 < n → All (λ e. e.1 < n) cs → (gs : List ℕ) → All (λ g. class_of cs g < n) gs
all_classes n cs z h [] = tt
all_classes n cs z h (g ∷ gs) = (class_below n cs g z h, all_classes n cs z h gs)

-- ascending numbers below n are at most n
up_below : (low n : ℕ) (ks : List ℕ) → low ≤ n → Up low ks → All (λ x. x < n) ks → low + length ks ≤ n
up_below low n [] l u h = omega arith
up_below low n (x ∷ xs) l u h = omega (arith, up_below (x + 1) n xs (omega (arith, h.0)) u.1 h.1, u.0)

-- ranks are below their number
numbered_below : (k n : ℕ) (l : List ℕ) → k + length l ≤ n → All (λ e. e.1 < n) (numbered k l)
unfolding numbered
numbered_below k n [] h = tt
numbered_below k n (c ∷ r) h = (omega arith, numbered_below (k + 1) n r (omega arith))

find_below : (n : ℕ) (m : List (ℕ × ℕ)) (c : ℕ) → All (λ e. e.1 < n) m → Opt (λ v. v < n) (find m c)
unfolding find
find_below n [] c h = tt
find_below n (e ∷ m) c h = step (eqb e.0 c) (find m c) (find_below n m c h.1)
  where
    step : (t : Bool) (o : Option ℕ) → Opt (λ v. v < n) o → Opt (λ v. v < n) (cond t (Some e.1) o)
    step true o k = h.0
    step false o k = k

under_below : (n : ℕ) (m g cs : List (ℕ × ℕ)) → All (λ e. e.1 < n) m → All (λ e. e.1 < n) (classes_under m g cs)
under_below n m g cs h =
    all_map_some (λ (e : ℕ × ℕ). Unit {0}) (λ e. e.1 < n) (λ e. bind (find m (class_of cs e.0)) (λ v. cond (eqb v 0) None (Some (e.1, v))))
    (λ e u. opt_bind (λ v. v < n) (λ e. e.1 < n) (find m (class_of cs e.0)) _ (find_below n m (class_of cs e.0) h) (λ v p. opt_cond (λ e. e.1 < n) (eqb v 0) (Some (e.1, v)) p)) g (all_any g)

pub numbered_length : (k : ℕ) (l : List ℕ) → length (numbered k l) ≡ length l
unfolding numbered
numbered_length k [] = refl
numbered_length k (c ∷ r) = ap suc (numbered_length (k + 1) r)

pub find_low : (k c : ℕ) (ks : List ℕ) (low : ℕ) → Up low ks → c < low → find (numbered k ks) c ≡ None
unfolding find numbered
find_low k c [] low u h = refl
find_low k c (x ∷ xs) low u h = rw (ne_eqb x c (omega arith)) (find_low (k + 1) c xs (x + 1) u.1 (omega arith))

-- Cells.

-- a cell with a class that a map has, and one with a class that it has not
cut_some : (m : List (ℕ × ℕ)) (p : Pair) (n : ℕ) → find m p.second ≡ Some n → cut_pair m p ≡ Some (record { second = n; first_values = p.first_values; second_values = p.second_values })
unfolding cut_pair bind
cut_some m p n e = rw e

cut_none : (m : List (ℕ × ℕ)) (p : Pair) → find m p.second ≡ None → cut_pair m p ≡ None
unfolding cut_pair bind
cut_none m p e = rw e

pub find_hit : (x v y : ℕ) (m : List (ℕ × ℕ)) → x ≡ y → find ((x, v) ∷ m) y ≡ Some v
unfolding find
find_hit x v y m e = rw (eq-eqb x y e)

pub find_miss : (x v y : ℕ) (m : List (ℕ × ℕ)) → x < y → find ((x, v) ∷ m) y ≡ find m y
unfolding find
find_miss x v y m l = rw (ne_eqb x y (omega arith))

cut_miss : (x v : ℕ) (m : List (ℕ × ℕ)) (p : Pair) → x < p.second → cut_pair ((x, v) ∷ m) p ≡ cut_pair m p
unfolding cut_pair
cut_miss x v m p l = rw (find_miss x v p.second m l)

module _ (a b : ℕ) where
  -- an entry below all cells' classes is not asked
  cells_skip : (x v c : ℕ) (m : List (ℕ × ℕ)) (row : List Pair) → x < c → CellsFrom a b c row → map_some (cut_pair ((x, v) ∷ m)) row ≡ map_some (cut_pair m) row
  unfolding map_some
  cells_skip x v c m [] l k = refl
  cells_skip x v c m (p ∷ r) l k =
      ap (λ (o : Option Pair). push o (map_some (cut_pair ((x, v) ∷ m)) r)) (cut_miss x v m p (omega (arith, k.0))) ∙ ap (push (cut_pair m p)) (cells_skip x v (c + 1) m r (omega arith) k.2)

  cells_none : (row : List Pair) → map_some (cut_pair []) row ≡ []
  unfolding map_some cut_pair find push bind
  cells_none [] = refl
  cells_none (p ∷ r) = cells_none r

  abbrev Cells : ℕ → ℕ → List Pair → Type 0
  Cells k n row = CellsFrom a b k row × (length row ≡ n)

  push_hit : (k n : ℕ) (o : Option Pair) (l₁ l₂ : List Pair) (p : Pair) → o ≡ Some p → l₁ ≡ l₂ → p.second ≡ k → GoodPair a b p → Cells (k + 1) n l₂ → Cells k (suc n) (push o l₁)
  unfolding push
  push_hit k n o l₁ l₂ p f s e g i = rw (f, s) ((e, g, i.0), ap suc i.1)

  push_miss : (k n : ℕ) (o : Option Pair) (l : List Pair) → o ≡ None → Cells k n l → Cells k n (push o l)
  unfolding push
  push_miss k n o l f i = rw f i

  -- the cells of kept classes are those of the new classes, in order, one for each
  kept_cells : (k c : ℕ) (ks : List ℕ) (row : List Pair) → k + length ks ≤ word_end → Up c ks → All (λ x. x < c + length row) ks → CellsFrom a b c row → Cells k (length ks) (map_some (cut_pair (numbered k ks)) row)
  unfolding numbered map_some
  kept_cells k c [] row l u h q = subst (Cells k 0) (sym (cells_none row)) (tt, refl)
  kept_cells k c (x ∷ xs) [] l u h q = absurd (omega (arith, h.0, u.0))
  kept_cells k c (x ∷ xs) (p ∷ r) l u h q =
      step (eqb x c) refl
      (λ e. kept_cells (k + 1) (c + 1) xs r (omega arith) (subst (λ (y : ℕ). Up (y + 1) xs) e u.1) (all_map (λ y. y < c + suc (length r)) (λ y. y < c + 1 + length r) (λ y t. omega arith) xs h.1) q.2)
      (λ e. kept_cells k (c + 1) (x ∷ xs) r l (omega arith, u.1) (all_map (λ y. y < c + suc (length r)) (λ y. y < c + 1 + length r) (λ y t. omega arith) (x ∷ xs) h) q.2)
    where
      m : List (ℕ × ℕ)
      m = (x, k) ∷ numbered (k + 1) xs

      step : (t : Bool) → eqb x c ≡ t → (x ≡ c → Cells (k + 1) (length xs) (map_some (cut_pair (numbered (k + 1) xs)) r)) → (c < x → Cells k (suc (length xs)) (map_some (cut_pair m) r))
          → Cells k (suc (length xs)) (push (cut_pair m p) (map_some (cut_pair m) r))
      step true e same more =
          let y = eqb-true x c e in
          push_hit k (length xs) (cut_pair m p) (map_some (cut_pair m) r) (map_some (cut_pair (numbered (k + 1) xs)) r) (record { second = k; first_values = p.first_values; second_values = p.second_values })
          (cut_some m p k (find_hit x k p.second (numbered (k + 1) xs) (y ∙ sym q.0))) (cells_skip x k (c + 1) (numbered (k + 1) xs) r (omega arith) q.2) refl
          (record { second = omega arith; first_listed = q.1.first_listed; first_values = q.1.first_values; second_listed = q.1.second_listed; second_values = q.1.second_values }) (same y)
      step false e same more =
          let n = eqb-false x c e in
          let z : c < x = omega (arith, u.0) in
          push_miss k (suc (length xs)) (cut_pair m p) (map_some (cut_pair m) r) (cut_none m p (ap (find m) q.0 ∙ find_low k c (x ∷ xs) x (omega arith, u.1) z)) (more z)

  -- the rows of kept first classes, one for each, whose cells are those of the kept second classes
  module _ (n : ℕ) (ks : List ℕ) (small : length ks ≤ word_end) (up : Up 0 ks) (below : All (λ x. x < n) ks) where
    row_good : (row : List Pair) → GoodRow a b n row → GoodRow a b (length ks) (map_some (cut_pair (numbered 0 ks)) row)
    row_good row k = kept_cells 0 0 ks row (omega arith) up (all_map (λ x. x < n) (λ x. x < 0 + length row) (λ x p. omega (arith, k.1)) ks below) k.0

    rows_good : (m : List (ℕ × ℕ)) (c : ℕ) (rows : List (List Pair)) → All (GoodRow a b n) rows → All (λ e. GoodRow a b (length ks) e.1) (kept_rows m (numbered 0 ks) c rows)
    unfolding kept_rows bind push
    rows_good m c [] k = tt
    rows_good m c (row ∷ rows) k = step (find m c) (row_good row k.0) (rows_good m (c + 1) rows k.1)
      where
        step : (o : Option ℕ) → GoodRow a b (length ks) (map_some (cut_pair (numbered 0 ks)) row) → All (λ e. GoodRow a b (length ks) e.1) (kept_rows m (numbered 0 ks) (c + 1) rows)
            → All (λ e. GoodRow a b (length ks) e.1) (push (bind o (λ v. Some (v, map_some (cut_pair (numbered 0 ks)) row))) (kept_rows m (numbered 0 ks) (c + 1) rows))
        step None p q = q
        step (Some v) p q = (p, q)

pub rows_skip : (x v c : ℕ) (m m2 : List (ℕ × ℕ)) (rows : List (List Pair)) → x < c → kept_rows ((x, v) ∷ m) m2 c rows ≡ kept_rows m m2 c rows
unfolding kept_rows
rows_skip x v c m m2 [] l = refl
rows_skip x v c m m2 (row ∷ rows) l =
    let one : Option ℕ → Option (ℕ × List Pair) = λ o. bind o (λ n. Some (n, map_some (cut_pair m2) row)) in
    ap (λ (o : Option ℕ). push (one o) (kept_rows ((x, v) ∷ m) m2 (c + 1) rows)) (find_miss x v c m l) ∙ ap (push (one (find m c))) (rows_skip x v (c + 1) m m2 rows (omega arith))

no_rows : (m2 : List (ℕ × ℕ)) (c : ℕ) (rows : List (List Pair)) → kept_rows [] m2 c rows ≡ []
unfolding kept_rows find bind push
no_rows m2 c [] = refl
no_rows m2 c (row ∷ rows) = no_rows m2 (c + 1) rows

pushed : (o : Option ℕ) (v : ℕ) (row : List Pair) (l₁ l₂ : List (ℕ × List Pair)) (n : ℕ) → o ≡ Some v → l₁ ≡ l₂ → length l₂ ≡ n → length (push (bind o (λ v. Some (v, row))) l₁) ≡ suc n
unfolding push bind
pushed o v row l₁ l₂ n f s i = rw (f, s) (ap suc i)

not_pushed : (o : Option ℕ) (row : List Pair) (l : List (ℕ × List Pair)) (n : ℕ) → o ≡ None → length l ≡ n → length (push (bind o (λ v. Some (v, row))) l) ≡ n
unfolding push bind
not_pushed o row l n f i = rw f i

-- there is a row for each kept class
pub kept_rows_length : (m2 : List (ℕ × ℕ)) (k c : ℕ) (ks : List ℕ) (rows : List (List Pair)) → Up c ks → All (λ x. x < c + length rows) ks → length (kept_rows (numbered k ks) m2 c rows) ≡ length ks
unfolding numbered kept_rows
kept_rows_length m2 k c [] rows u h = ap length (no_rows m2 c rows)
kept_rows_length m2 k c (x ∷ xs) [] u h = absurd (omega (arith, h.0, u.0))
kept_rows_length m2 k c (x ∷ xs) (row ∷ rows) u h =
    step (eqb x c) refl
    (λ e. kept_rows_length m2 (k + 1) (c + 1) xs rows (subst (λ (y : ℕ). Up (y + 1) xs) e u.1) (all_map (λ y. y < c + suc (length rows)) (λ y. y < c + 1 + length rows) (λ y t. omega arith) xs h.1))
    (λ e. kept_rows_length m2 k (c + 1) (x ∷ xs) rows (omega arith, u.1) (all_map (λ y. y < c + suc (length rows)) (λ y. y < c + 1 + length rows) (λ y t. omega arith) (x ∷ xs) h))
  where
    m : List (ℕ × ℕ)
    m = (x, k) ∷ numbered (k + 1) xs

    step : (t : Bool) → eqb x c ≡ t → (x ≡ c → length (kept_rows (numbered (k + 1) xs) m2 (c + 1) rows) ≡ length xs) → (c < x → length (kept_rows m m2 (c + 1) rows) ≡ suc (length xs))
        → length (push (bind (find m c) (λ v. Some (v, map_some (cut_pair m2) row))) (kept_rows m m2 (c + 1) rows)) ≡ suc (length xs)
    step true e same more =
        let y = eqb-true x c e in
        pushed (find m c) k (map_some (cut_pair m2) row) (kept_rows m m2 (c + 1) rows) (kept_rows (numbered (k + 1) xs) m2 (c + 1) rows) (length xs) (find_hit x k c (numbered (k + 1) xs) y) (rows_skip x k (c + 1) (numbered (k + 1) xs) m2 rows (omega arith)) (same y)
    step false e same more =
        let n = eqb-false x c e in
        let z : c < x = omega (arith, u.0) in
        not_pushed (find m c) (map_some (cut_pair m2) row) (kept_rows m m2 (c + 1) rows) (suc (length xs)) (find_low k c (x ∷ xs) x (omega arith, u.1) z) (more z)

-- a class that has a rank is no lower than the list, and its rank no lower than the first
found_low : (k c low v : ℕ) (ks : List ℕ) → Up low ks → find (numbered k ks) c ≡ Some v → (low ≤ c) × (k ≤ v)
unfolding find numbered
found_low k c low v [] u e = absurd (let z : ◌≡◌ {A = ℕ} 0 1 = cc in omega arith)
found_low k c low v (x ∷ xs) u e = step (eqb x c) refl e (found_low (k + 1) c (x + 1) v xs u.1)
  where
    step : (t : Bool) → eqb x c ≡ t → cond t (Some k) (find (numbered (k + 1) xs) c) ≡ Some v → (find (numbered (k + 1) xs) c ≡ Some v → (x + 1 ≤ c) × (k + 1 ≤ v)) → (low ≤ c) × (k ≤ v)
    step true q f i = let z : k ≡ v = cc in (omega (arith, eqb-true x c q, u.0), omega arith)
    step false q f i = let r = i f in (omega (arith, r.0, u.0), omega (arith, r.1))

none_found : (k c v : ℕ) → find (numbered k []) c ≡ Some v → ⊥
unfolding find numbered
none_found k c v e = let z : ◌≡◌ {A = ℕ} 0 1 = cc in omega arith

here : (k c x v : ℕ) (xs : List ℕ) → x ≡ c → find (numbered k (x ∷ xs)) c ≡ Some v → k ≡ v
unfolding find numbered
here k c x v xs q e = let f : Some k ≡ Some v = sym (rw (eq-eqb x c q)) ∙ e in cc

there : (k c x v : ℕ) (xs : List ℕ) → eqb x c ≡ false → find (numbered k (x ∷ xs)) c ≡ Some v → find (numbered (k + 1) xs) c ≡ Some v
unfolding find numbered
there k c x v xs q e = rw q at e

row_hit : (m2 : List (ℕ × ℕ)) (o : Option ℕ) (v : ℕ) (row : List Pair) (rest : List (ℕ × List Pair)) → o ≡ Some v → rows_of (push (bind o (λ v. Some (v, map_some (cut_pair m2) row))) rest) ≡ map_some (cut_pair m2) row ∷ rows_of rest
unfolding rows_of push bind
row_hit m2 o v row rest e = rw e

row_miss : (m2 : List (ℕ × ℕ)) (o : Option ℕ) (row : List Pair) (rest : List (ℕ × List Pair)) → o ≡ None → push (bind o (λ v. Some (v, map_some (cut_pair m2) row))) rest ≡ rest
unfolding push bind
row_miss m2 o row rest e = rw e

-- the row of a kept class stands at its rank
pub row_at : (m2 : List (ℕ × ℕ)) (k c₀ : ℕ) (ks : List ℕ) (rows : List (List Pair)) (c v : ℕ) → Up c₀ ks → All (λ x. x < c₀ + length rows) ks → find (numbered k ks) c ≡ Some v
    → get_or (rows_of (kept_rows (numbered k ks) m2 c₀ rows)) (v - k) [] ≡ map_some (cut_pair m2) (get_or rows (c - c₀) [])
unfolding numbered kept_rows
row_at m2 k c₀ [] rows c v u h e = absurd (none_found k c v e)
row_at m2 k c₀ (x ∷ xs) [] c v u h e = absurd (omega (arith, h.0, u.0))
row_at m2 k c₀ (x ∷ xs) (row ∷ rows) c v u h e =
    step (eqb x c₀) refl
    (λ q f. row_at m2 (k + 1) (c₀ + 1) xs rows c v (subst (λ (y : ℕ). Up (y + 1) xs) q u.1) (all_map (λ y. y < c₀ + suc (length rows)) (λ y. y < c₀ + 1 + length rows) (λ y t. omega arith) xs h.1) f)
    (λ q. row_at m2 k (c₀ + 1) (x ∷ xs) rows c v (omega arith, u.1) (all_map (λ y. y < c₀ + suc (length rows)) (λ y. y < c₀ + 1 + length rows) (λ y t. omega arith) (x ∷ xs) h) e)
  where
    m : List (ℕ × ℕ)
    m = (x, k) ∷ numbered (k + 1) xs

    Row : ℕ → ℕ → List (List Pair) → Type 0
    Row i j all = get_or all i [] ≡ map_some (cut_pair m2) (get_or (row ∷ rows) j [])

    later : (i j i' j' : ℕ) (all : List (List Pair)) (one : List Pair) → i ≡ suc i' → j ≡ suc j' → get_or all i' [] ≡ map_some (cut_pair m2) (get_or rows j' []) → Row i j (one ∷ all)
    later i j i' j' all one p q r = rw (p, q) r

    step : (t : Bool) → eqb x c₀ ≡ t → (x ≡ c₀ → find (numbered (k + 1) xs) c ≡ Some v → get_or (rows_of (kept_rows (numbered (k + 1) xs) m2 (c₀ + 1) rows)) (v - (k + 1)) [] ≡ map_some (cut_pair m2) (get_or rows (c - (c₀ + 1)) []))
        → (c₀ < x → get_or (rows_of (kept_rows m m2 (c₀ + 1) rows)) (v - k) [] ≡ map_some (cut_pair m2) (get_or rows (c - (c₀ + 1)) []))
        → Row (v - k) (c - c₀) (rows_of (push (bind (find m c₀) (λ v. Some (v, map_some (cut_pair m2) row))) (kept_rows m m2 (c₀ + 1) rows)))
    step true q same more =
        let y = eqb-true x c₀ q in
        let a = row_hit m2 (find m c₀) k row (kept_rows m m2 (c₀ + 1) rows) (find_hit x k c₀ (numbered (k + 1) xs) y) in
        let b = ap rows_of (rows_skip x k (c₀ + 1) (numbered (k + 1) xs) m2 rows (omega arith)) in
        subst (Row (v - k) (c - c₀)) (sym (a ∙ ap (λ (l : List (List Pair)). map_some (cut_pair m2) row ∷ l) b)) (inner (eqb x c) refl y)
      where
        inner : (t : Bool) → eqb x c ≡ t → x ≡ c₀ → Row (v - k) (c - c₀) (map_some (cut_pair m2) row ∷ rows_of (kept_rows (numbered (k + 1) xs) m2 (c₀ + 1) rows))
        inner true r y =
            let w : k ≡ v = here k c x v xs (eqb-true x c r) e in
            let z : v - k ≡ 0 = omega arith in
            let z₂ : c - c₀ ≡ 0 = omega (arith, eqb-true x c r) in
            rw (z, z₂)
        inner false r y =
            let f : find (numbered (k + 1) xs) c ≡ Some v = there k c x v xs r e in
            let l = found_low (k + 1) c (x + 1) v xs u.1 f in
            later (v - k) (c - c₀) (v - (k + 1)) (c - (c₀ + 1)) (rows_of (kept_rows (numbered (k + 1) xs) m2 (c₀ + 1) rows)) (map_some (cut_pair m2) row) (omega (arith, l.1)) (omega (arith, l.0)) (same y f)
    step false q same more =
        let n = eqb-false x c₀ q in
        let z : c₀ < x = omega (arith, u.0) in
        let a = row_miss m2 (find m c₀) row (kept_rows m m2 (c₀ + 1) rows) (find_low k c₀ (x ∷ xs) x (omega arith, u.1) z) in
        let l = found_low k c x v (x ∷ xs) (omega arith, u.1) e in
        let w : c - c₀ ≡ suc (c - (c₀ + 1)) = omega (arith, l.0) in
        subst (Row (v - k) (c - c₀)) (sym (ap rows_of a)) (subst (λ (j : ℕ). Row (v - k) j (rows_of (kept_rows m m2 (c₀ + 1) rows))) (sym w) (more z))

-- thinned rows
module _ (f1 f2 n1 n2 : ℕ) (l1 : n1 < 16) (l2 : n2 < 16) (a b : ℕ) where
  second_of : (p : Pair) → (thin_pair f1 f2 n1 n2 p).second ≡ p.second
  unfolding thin_pair
  second_of p = refl

  thin_cells : (c : ℕ) (row : List Pair) → CellsFrom a b c row → CellsFrom (field_count n1) (field_count n2) c (map (thin_pair f1 f2 n1 n2) row)
  thin_cells c [] k = tt
  thin_cells c (p ∷ r) k = (second_of p ∙ k.0, thin_pair_lem f1 f2 n1 n2 l1 l2 a b p k.1, thin_cells (c + 1) r k.2)

  thin_rows : (n : ℕ) (ks : List (ℕ × List Pair)) → All (λ e. GoodRow a b n e.1) ks → All (GoodRow (field_count n1) (field_count n2) n) (rows_of (thin f1 f2 n1 n2 ks))
  unfolding thin rows_of
  thin_rows n [] k = tt
  thin_rows n (e ∷ r) k = ((thin_cells 0 e.1 k.0.0, length-map e.1 (thin_pair f1 f2 n1 n2) ∙ k.0.1), thin_rows n r k.1)

pub rows_many : (f1 f2 n1 n2 : ℕ) (ks : List (ℕ × List Pair)) → length (rows_of (thin f1 f2 n1 n2 ks)) ≡ length ks
unfolding thin rows_of
rows_many f1 f2 n1 n2 [] = refl
rows_many f1 f2 n1 n2 (e ∷ r) = ap suc (rows_many f1 f2 n1 n2 r)

-- the glyph map of the covered glyphs
covered_up : (g : List (ℕ × ℕ)) (cov : List ℕ) → Up 0 cov → Up 0 (map (λ (e : ℕ × ℕ). e.0) (covered_map g cov))
unfolding covered_map
covered_up g cov u =
    map_some_up₀ (λ (x : ℕ). x) (λ (e : ℕ × ℕ). e.0) f Some (λ a b x y l p q. let e₁ : a ≡ x = cc in let e₂ : b ≡ y = cc in omega arith) follow cov (subst (Up 0) (sym (map_same cov)) u)
  where
    f : ℕ → Option (ℕ × ℕ)
    f c = bind (find g c) (λ n. Some (c, n))

    follow : (c : ℕ) → Opt (λ b. Some c ≡ Some b.0) (f c)
    follow c = opt_bind (λ n. Unit {0}) (λ b. Some c ≡ Some b.0) (find g c) _ (any (find g c)) (λ n u. refl)

pub covered_all : (P : ℕ → Type 0) (g : List (ℕ × ℕ)) (cov : List ℕ) → All P cov → All P (keys (covered_map g cov))
unfolding covered_map map_some keys push bind
covered_all P g [] h = tt
covered_all P g (c ∷ cov) h = step (find g c) (covered_all P g cov h.1)
  where
    step : (o : Option ℕ) → All P (keys (map_some (λ c. bind (find g c) (λ n. Some (c, n))) cov)) → All P (keys (push (bind o (λ n. Some (c, n))) (map_some (λ c. bind (find g c) (λ n. Some (c, n))) cov)))
    step None k = k
    step (Some n) k = (h.0, k)

pub covered_values : (g : List (ℕ × ℕ)) (cov : List ℕ) → values (covered_map g cov) ≡ new_coverage g cov
unfolding covered_map new_coverage map_some values push bind
covered_values g [] = refl
covered_values g (c ∷ cov) = step (find g c) (covered_values g cov)
  where
    step : (o : Option ℕ) → values (map_some (λ c. bind (find g c) (λ n. Some (c, n))) cov) ≡ map_some (find g) cov → values (push (bind o (λ n. Some (c, n))) (map_some (λ c. bind (find g c) (λ n. Some (c, n))) cov)) ≡ push o (map_some (find g) cov)
    step None h = h
    step (Some n) h = ap (λ (l : List ℕ). n ∷ l) h

insert_some : (c : ℕ) (l : List ℕ) → 0 < length (insert_up c l)
unfolding insert_up
insert_some c [] = omega arith
insert_some c (d ∷ r) = step (ltb c d) (eqb c d)
  where
    step : (s t : Bool) → 0 < length (cond s (c ∷ d ∷ r) (cond t (d ∷ r) (d ∷ insert_up c r)))
    step true t = omega arith
    step false true = omega arith
    step false false = omega arith

held_some : (cs : List (ℕ × ℕ)) (e : ℕ × ℕ) (r : List (ℕ × ℕ)) → 0 < length (held_by cs (keys (e ∷ r)))
unfolding held_by keys
held_some cs e r = insert_some (class_of cs e.0) (held_by cs (keys r))

below_test : (n : ℕ) (cs : List (ℕ × ℕ)) → All (λ e. e.1 < n) cs → every (λ e. ltb e.1 n) cs ≡ true
below_test n cs h = every_all (λ e. ltb e.1 n) cs (all_map (λ e. e.1 < n) (λ e. ltb e.1 n ≡ true) (λ e p. lt-ltb e.1 n p) cs h)

module _ (g : List (ℕ × ℕ)) (good : GoodMap g) where
  pub covered_map_lem : (cov : List ℕ) → Glyphs cov → GoodMap (covered_map g cov)
  unfolding covered_map
  covered_map_lem cov c =
      record {
        old = subst (Up 0) (sym (keys_map (covered_map g cov))) (covered_up g cov c.0);
        new = subst (Up 0) (sym (covered_values g cov)) (new_coverage_glyphs g good cov c).0;
        words = all_map_some Word Words2 (λ c. bind (find g c) (λ n. Some (c, n))) (λ c w. opt_bind Word Words2 (find g c) _ (find_word g c (new_words g good)) (λ n p. (w, p))) cov c.1;
      }

  module _ (cov : List ℕ) (cs ds : List (ℕ × ℕ)) (f1 f2 n : ℕ) (rows : List (List Pair)) (c : Glyphs cov) (kd : Classes ds) (k : All (GoodRow (field_count f1) (field_count f2) n) rows) (wn : Word n) (wr : Word (length rows))
      (first-test : every (λ g. ltb (class_of cs g) (length rows)) cov ≡ true) (second-test : ltb 0 n && every (λ e. ltb e.1 n) ds ≡ true) where
    seconds : List ℕ
    seconds = insert_up 0 (held_by ds (keys g))

    some_second : 0 < n
    some_second = ltb-true 0 n (both (ltb 0 n) _ second-test).0

    seconds_below : All (λ x. x < n) seconds
    unfolding seconds
    seconds_below =
        let l = all_map (λ (e : ℕ × ℕ). ltb e.1 n ≡ true) (λ e. e.1 < n) (λ e p. ltb-true e.1 n p) ds (all_every (λ e. ltb e.1 n) ds (both (ltb 0 n) _ second-test).1) in
        insert_all (λ x. x < n) 0 (held_by ds (keys g)) some_second (held_all (λ x. x < n) ds (keys g) (all_classes n ds some_second l (keys g)))

    seconds_up : Up 0 seconds
    unfolding seconds
    seconds_up = insert_up_lem 0 0 (held_by ds (keys g)) (omega arith) (held_up ds (keys g))

    seconds_small : length seconds ≤ word_end
    unfolding seconds
    seconds_small =
        let w = all_map (λ (e : ℕ × ℕ). Word e.0 × Word e.1 × (0 < e.1)) (λ e. e.1 < word_end) (λ e p. p.1) ds kd.1 in
        let words = insert_all Word 0 (held_by ds (keys g)) (omega arith) (held_all Word ds (keys g) (all_classes word_end ds (omega arith) w (keys g))) in
        omega (arith, up_length 0 seconds (omega arith) seconds_up words)

    kept_class_pairs_lem : (h : List (ℕ × ℕ)) → covered_map g cov ≡ h → Opt (GoodOf 4) (kept_class_pairs g h cs ds f1 f2 rows)
    unfolding kept_class_pairs kind_of class_map new_classes second_map seconds
    kept_class_pairs_lem [] e = tt
    kept_class_pairs_lem (e ∷ r) q =
        let h = e ∷ r in
        let hm : GoodMap h = subst GoodMap q (covered_map_lem cov c) in
        let firsts = held_by cs (keys h) in
        let covered = all_map (λ (x : ℕ). ltb (class_of cs x) (length rows) ≡ true) (λ x. class_of cs x < length rows) (λ x p. ltb-true (class_of cs x) (length rows) p) cov (all_every (λ g. ltb (class_of cs g) (length rows)) cov first-test) in
        let firsts-below = held_all (λ x. x < length rows) cs (keys h) (subst (λ (l : List (ℕ × ℕ)). All (λ x. class_of cs x < length rows) (keys l)) q (covered_all (λ x. class_of cs x < length rows) g cov covered)) in
        let kept = kept_rows (numbered 0 firsts) (numbered 0 seconds) 0 rows in
        let n1 = new_format (λ p. p.first_values) f1 kept in
        let n2 = new_second f2 kept in
        let l1 = format_small (λ p. p.first_values) f1 kept in
        let l2 = second_small f2 kept in
        let many : length (rows_of (thin f1 f2 n1 n2 kept)) ≡ length firsts = rows_many f1 f2 n1 n2 kept ∙ kept_rows_length (numbered 0 seconds) 0 0 firsts rows (held_up cs (keys h)) (all_map (λ (x : ℕ). x < length rows) (λ x. x < 0 + length rows) (λ x p. omega arith) firsts firsts-below) in
        let ns = numbered_length 0 seconds in
        let good-rows = thin_rows f1 f2 n1 n2 l1 l2 (field_count f1) (field_count f2) (length seconds) kept (rows_good (field_count f1) (field_count f2) n seconds seconds_small seconds_up seconds_below (numbered 0 firsts) 0 rows k) in
        let below1 = under_below (length firsts) (numbered 0 firsts) h cs (numbered_below 0 (length firsts) firsts (omega arith)) in
        let below2 = under_below (length seconds) (numbered 0 seconds) g ds (numbered_below 0 (length seconds) seconds (omega arith)) in
        let some1 : 0 < length firsts = held_some cs e r in
        let some2 : 0 < length seconds = insert_some 0 (held_by ds (keys g)) in (
          (
            (hm.new, values_words h hm.words),
            new_classes_lem h hm cs,
            classes_under_lem g good (numbered 0 seconds) ds (numbered_values 0 seconds (omega (arith, seconds_small))),
            omega arith,
            omega arith,
            subst (λ (m : ℕ). All (GoodRow (field_count n1) (field_count n2) m) (rows_of (thin f1 f2 n1 n2 kept))) (sym ns) good-rows,
            (
              subst (λ (m : ℕ). every (λ x. ltb (class_of (new_classes h cs) x) m) (values h) ≡ true) (sym many)
                  (every_all (λ x. ltb (class_of (new_classes h cs) x) (length firsts)) (values h)
                  (all_map (λ x. class_of (new_classes h cs) x < length firsts) (λ x. ltb (class_of (new_classes h cs) x) (length firsts) ≡ true) (λ x p. lt-ltb _ _ p) (values h) (all_classes (length firsts) (new_classes h cs) some1 below1 (values h)))),
              subst (λ (m : ℕ). ltb 0 m && every (λ e. ltb e.1 m) (classes_under (numbered 0 seconds) g ds) ≡ true) (sym ns) (rw (lt-ltb 0 (length seconds) some2) (below_test (length seconds) (classes_under (numbered 0 seconds) g ds) below2)),
            ),
            omega (arith, ns, up_below 0 n seconds (omega arith) seconds_up seconds_below, wn),
            omega (arith, many, up_below 0 (length rows) firsts (omega arith) (held_up cs (keys h)) firsts-below, wr),
          ),
          refl,
        )

  pub class_pairs_good : (cover : Option (List ℕ)) (first second : Option (List (ℕ × ℕ))) (f1 f2 n : ℕ) (rows : List (List Pair)) → Good (Table.class_pairs cover first second f1 f2 n rows)
      → Opt (GoodOf 4) (bind cover (λ cov. bind first (λ cs. bind second (λ ds. kept_class_pairs g (covered_map g cov) cs ds f1 f2 rows))))
  unfolding bind
  class_pairs_good None first second f1 f2 n rows k = tt
  class_pairs_good (Some cov) None second f1 f2 n rows k = tt
  class_pairs_good (Some cov) (Some cs) None f1 f2 n rows k = tt
  class_pairs_good (Some cov) (Some cs) (Some ds) f1 f2 n rows k = kept_class_pairs_lem cov cs ds f1 f2 n rows k.0 k.2 k.5 k.7 k.8 k.6.0 k.6.1 (covered_map g cov) refl
