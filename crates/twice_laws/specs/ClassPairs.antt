-- Pairs by class, cut twice.
use Rattle.std.specs.Prelude.{ℕ, suc, ◌+◌, ◌≤◌, ◌<◌, ◌≡◌, Bool, true, false, cond, ◌||◌, length, eqb, Option, None, Some}
use Rattle.std.proofs.Math.Path.{refl, sym}
use Rattle.std.proofs.Common.{ap, ◌∙◌, subst, arith, eqb-true, ne_eqb}
use Rattle.std.proofs.Math.Bool.{or-true}
use Rattle.std.proofs.lemmas.Option.{none-some}
use mathlib.Core.List.{List, [], ◌∷◌}
use Rattle.std.proofs.lemmas.Bool.{eqb-false}
use Rattle.meaning.specs.Words.{member, keys, values, find, bind, push, map_some}
use Rattle.meaning.specs.Parts.{class_of}
use Rattle.meaning.specs.Tables.{Pair, Table}
use Rattle.meaning.specs.Cut.{insert_up, held_by, numbered, class_map, classes_under, new_classes, cut_pair, new_format, new_second, thin, covered_map, second_map, kept_rows, rows_of, kept_class_pairs, cut}
use Rattle.laws.specs.Stands.{All, all_map}
use Rattle.laws.specs.Runs.{Up}
use Rattle.laws.specs.CutCells.{insert_up_lem, held_up}
use Rattle.promises.specs.Classes.{insert_member}
use Rattle.promises.specs.Pairs.{second_zero}
use Rattle.twice.specs.Answers.{Then, some_twice}
use Rattle.twice.specs.Maps.{Moved, Along, Injective}
use Rattle.twice.proofs.Maps.{all_members, along_keys, along_values}
use Rattle.twice_laws.specs.Classes.{rank_order, insert_moved, held_moved, numbered_moved, zero_first, held_class, follow_under, under_twice}
use Rattle.twice_laws.specs.Pairs.{pair_twice, KeptAlike, first_format, second_format, thin_kept, cut_alike, thinned_sets}

-- Rows, numbered as they stand.

-- each row's number is one more than that of the row before
abbrev Counted : ℕ → List (ℕ × List Pair) → Type 0
Counted k [] = Unit {0}
Counted k (e ∷ r) = (e.0 ≡ k) × Counted (k + 1) r

-- a kept row, cut again
abbrev row_again : List (ℕ × ℕ) → List (ℕ × ℕ) → ℕ × List Pair → Option (ℕ × List Pair)
row_again m1 m2 e = bind (find m1 e.0) (λ n. Some (n, map_some (cut_pair m2) e.1))

-- rows that are numbered so are kept by their numbers
counted_rows : (m1 m2 : List (ℕ × ℕ)) (k : ℕ) (ks : List (ℕ × List Pair)) → Counted k ks → kept_rows m1 m2 k (rows_of ks) ≡ map_some (row_again m1 m2) ks
unfolding kept_rows rows_of map_some
counted_rows m1 m2 k [] c = refl
counted_rows m1 m2 k (e ∷ ks) c = rw c.0 (ap (push (bind (find m1 k) (λ n. Some (n, map_some (cut_pair m2) e.1)))) (counted_rows m1 m2 (k + 1) ks c.1))

counted_thin : (f1 f2 n1 n2 k : ℕ) (ks : List (ℕ × List Pair)) → Counted k ks → Counted k (thin f1 f2 n1 n2 ks)
unfolding thin
counted_thin f1 f2 n1 n2 k [] c = tt
counted_thin f1 f2 n1 n2 k (e ∷ ks) c = (c.0, counted_thin f1 f2 n1 n2 (k + 1) ks c.1)

-- a class below all has no rank
no_rank : (k low : ℕ) (hs : List ℕ) (c : ℕ) → Up low hs → c < low → find (numbered k hs) c ≡ None
unfolding find numbered
no_rank k low [] c u l = refl
no_rank k low (h ∷ hs) c u l = rw (ne_eqb h c (omega (arith, u.0))) (no_rank (k + 1) (h + 1) hs c u.1 (omega (arith, u.0)))

-- classes hs that ascend from c on, with ranks from k on: the rows from class c on get the numbers from k on, as they stand
counted_kept : (ρ m2 : List (ℕ × ℕ)) (rows : List (List Pair)) (c k : ℕ) (hs : List ℕ) → Up c hs → ((d : ℕ) → c ≤ d → find ρ d ≡ find (numbered k hs) d) → Counted k (kept_rows ρ m2 c rows)
unfolding kept_rows push bind find numbered
counted_kept ρ m2 [] c k hs u same = tt
counted_kept ρ m2 (row ∷ rows) c k hs u same = step hs u same (counted_kept ρ m2 rows (c + 1))
  where
    step : (hs : List ℕ) → Up c hs → ((d : ℕ) → c ≤ d → find ρ d ≡ find (numbered k hs) d)
        → ((k : ℕ) (hs : List ℕ) → Up (c + 1) hs → ((d : ℕ) → c + 1 ≤ d → find ρ d ≡ find (numbered k hs) d) → Counted k (kept_rows ρ m2 (c + 1) rows))
        → Counted k (push (bind (find ρ c) (λ n. Some (n, map_some (cut_pair m2) row))) (kept_rows ρ m2 (c + 1) rows))
    step [] u same i = rw (same c (omega arith) ∙ no_rank k (c + 1) [] c tt (omega arith)) (i k [] tt (λ d l. same d (omega arith)))
    step (h ∷ hs) u same i = here (eqb h c) refl
      where
        first : eqb h c ≡ true → find (numbered k (h ∷ hs)) c ≡ Some k
        first e = rw e

        later : (d : ℕ) → h + 1 ≤ d → find (numbered k (h ∷ hs)) d ≡ find (numbered (k + 1) hs) d
        later d l = rw (ne_eqb h d (omega arith))

        here : (b : Bool) → eqb h c ≡ b → Counted k (push (bind (find ρ c) (λ n. Some (n, map_some (cut_pair m2) row))) (kept_rows ρ m2 (c + 1) rows))
        here true e =
            let t = eqb-true h c e in
            rw (same c (omega arith) ∙ first e) (refl, i (k + 1) hs (subst (λ (x : ℕ). Up (x + 1) hs) t u.1) (λ d l. same d (omega arith) ∙ later d (omega arith)))
        here false e =
            let t = eqb-false h c e in
            let l : c + 1 ≤ h = omega (arith, u.0) in
            rw (same c (omega arith) ∙ no_rank k (c + 1) (h ∷ hs) c (l, u.1) (omega arith)) (i k (h ∷ hs) (l, u.1) (λ d q. same d (omega arith)))

-- Rows, cut again: they are the rows that both cuts keep.
module _ (m1 m2 m1' m2' m1'' m2'' : List (ℕ × ℕ)) (t : Then (find m1) (find m1') (find m1'')) (v : Then (find m2) (find m2') (find m2'')) where
  rows_twice : (c : ℕ) (rows : List (List Pair)) → map_some (row_again m1' m2') (kept_rows m1 m2 c rows) ≡ kept_rows m1'' m2'' c rows
  unfolding kept_rows map_some push bind
  rows_twice c [] = refl
  rows_twice c (row ∷ rows) =
      go (find m1 c) (kept_rows m1 m2 (c + 1) rows)
      ∙ rw (t c, some_twice (cut_pair m2) (cut_pair m2') (cut_pair m2'') (pair_twice m2 m2' m2'' v) row)
      (ap (push (bind (find m1'' c) (λ n. Some (n, map_some (cut_pair m2'') row)))) (rows_twice (c + 1) rows))
    where
      go : (o : Option ℕ) (ks : List (ℕ × List Pair))
          → map_some (row_again m1' m2') (push (bind o (λ n. Some (n, map_some (cut_pair m2) row))) ks)
          ≡ push (bind (bind o (find m1')) (λ n. Some (n, map_some (cut_pair m2') (map_some (cut_pair m2) row)))) (map_some (row_again m1' m2') ks)
      go None ks = refl
      go (Some n) ks = refl

-- rows with equal fields stay so
module _ (f1 f2 f1' f2' : ℕ) (m1 m2 : List (ℕ × ℕ)) where
  again_alike : (ks js : List (ℕ × List Pair)) → KeptAlike f1 f2 f1' f2' ks js → KeptAlike f1 f2 f1' f2' (map_some (row_again m1 m2) ks) (map_some (row_again m1 m2) js)
  unfolding map_some push bind
  again_alike [] [] a = tt
  again_alike [] (d ∷ js) a = absurd a
  again_alike (e ∷ ks) [] a = absurd a
  again_alike (e ∷ ks) (d ∷ js) a = rw a.0 (go (find m1 e.0) (again_alike ks js a.2))
    where
      go : (o : Option ℕ) → KeptAlike f1 f2 f1' f2' (map_some (row_again m1 m2) ks) (map_some (row_again m1 m2) js)
          → KeptAlike f1 f2 f1' f2' (push (bind o (λ n. Some (n, map_some (cut_pair m2) e.1))) (map_some (row_again m1 m2) ks)) (push (bind o (λ n. Some (n, map_some (cut_pair m2) d.1))) (map_some (row_again m1 m2) js))
      go None i = i
      go (Some n) i = (refl, cut_alike f1 f2 f1' f2' m2 e.1 d.1 a.1, i)

-- The covered glyphs' maps.
module _ (g₁ g₂ g : List (ℕ × ℕ)) (e : Then (find g₁) (find g₂) (find g)) where
  covered_found : (cov : List ℕ) → All (λ p. find g₁ p.0 ≡ Some p.1) (covered_map g₁ cov)
  unfolding covered_map map_some push bind
  covered_found [] = tt
  covered_found (c ∷ cov) = go (find g₁ c) refl (covered_found cov)
    where
      go : (o : Option ℕ) → find g₁ c ≡ o → All (λ p. find g₁ p.0 ≡ Some p.1) (covered_map g₁ cov) → All (λ p. find g₁ p.0 ≡ Some p.1) (push (bind o (λ n. Some (c, n))) (covered_map g₁ cov))
      go None q i = i
      go (Some n) q i = (q, i)

  -- by ρ, which is the first one's or more
  covered_along : (ρ : ℕ → Option ℕ) (cov : List ℕ) → All (λ c. (n : ℕ) → find g₁ c ≡ Some n → ρ c ≡ Some n) cov → Along ρ (covered_map g cov) (covered_map g₂ (values (covered_map g₁ cov)))
  unfolding covered_map map_some push bind values
  covered_along ρ [] w = tt
  covered_along ρ (c ∷ cov) w = go (find g₁ c) refl (find g c) (e c) (covered_along ρ cov w.1)
    where
      go : (o : Option ℕ) → find g₁ c ≡ o → (p : Option ℕ) → bind o (find g₂) ≡ p → Along ρ (covered_map g cov) (covered_map g₂ (values (covered_map g₁ cov)))
          → Along ρ (push (bind p (λ n. Some (c, n))) (covered_map g cov)) (covered_map g₂ (values (push (bind o (λ n. Some (c, n))) (covered_map g₁ cov))))
      go None q None r i = i
      go None q (Some n) r i = absurd (none-some n r)
      go (Some d) q None r i = rw r i
      go (Some d) q (Some n) r i = rw r (w.0 d q, refl, i)

-- the covered glyphs' map finds the covered glyphs
covered_is : (g : List (ℕ × ℕ)) (cov : List ℕ) (x : ℕ) → find (covered_map g cov) x ≡ cond (member x cov) (find g x) None
unfolding covered_map map_some push bind find member
covered_is g [] x = refl
covered_is g (c ∷ cov) x = go (find g c) refl (eqb c x) refl (covered_is g cov x)
  where
    same : (b : Bool) → cond {A = Option ℕ} b None None ≡ None
    same true = refl
    same false = refl

    go : (o : Option ℕ) → find g c ≡ o → (b : Bool) → eqb c x ≡ b → find (covered_map g cov) x ≡ cond (member x cov) (find g x) None
        → find (push (bind o (λ n. Some (c, n))) (covered_map g cov)) x ≡ cond (b || member x cov) (find g x) None
    go None q true r i =
        let s : find g x ≡ None = ap (find g) (sym (eqb-true c x r)) ∙ q in
        i ∙ rw s (same (member x cov))
    go None q false r i = i
    go (Some n) q true r i = rw r (sym (ap (find g) (sym (eqb-true c x r)) ∙ q))
    go (Some n) q false r i = rw r i

covered_sub : (g : List (ℕ × ℕ)) (cov : List ℕ) (x y : ℕ) → find (covered_map g cov) x ≡ Some y → find g x ≡ Some y
covered_sub g cov x y q = go (member x cov) (sym (covered_is g cov x) ∙ q)
  where
    go : (b : Bool) → cond b (find g x) None ≡ Some y → find g x ≡ Some y
    go true e = e
    go false e = absurd (none-some y e)

covered_find : (g : List (ℕ × ℕ)) (cov : List ℕ) → All (λ c. (n : ℕ) → find g c ≡ Some n → find (covered_map g cov) c ≡ Some n) cov
covered_find g cov =
    all_map (λ x. member x cov ≡ true) (λ c. (n : ℕ) → find g c ≡ Some n → find (covered_map g cov) c ≡ Some n) (λ c m n q. covered_is g cov c ∙ rw m q) cov (all_members cov)

-- Moved lists are of one length.
moved_length : (ρ : ℕ → Option ℕ) (xs ys : List ℕ) → Moved ρ xs ys → length ys ≡ length xs
moved_length ρ [] [] m = refl
moved_length ρ [] (y ∷ ys) m = absurd m
moved_length ρ (x ∷ xs) [] m = absurd m
moved_length ρ (x ∷ xs) (y ∷ ys) m = ap suc (moved_length ρ xs ys m.1)

numbered_length : (k : ℕ) (hs : List ℕ) → length (numbered k hs) ≡ length hs
unfolding numbered
numbered_length k [] = refl
numbered_length k (h ∷ hs) = ap suc (numbered_length (k + 1) hs)

-- The table that is kept, if a covered glyph is retained.
abbrev whole : List (ℕ × ℕ) → List (ℕ × ℕ) → List (ℕ × ℕ) → List (ℕ × ℕ) → ℕ → ℕ → List (List Pair) → Table
whole g h cs ds f1 f2 rows =
    let kept = kept_rows (class_map h cs) (second_map g ds) 0 rows in
    let n1 = new_format (λ p. p.first_values) f1 kept in
    let n2 = new_second f2 kept in
    Table.class_pairs (Some (values h)) (Some (new_classes h cs)) (Some (classes_under (second_map g ds) g ds)) n1 n2 (length (second_map g ds)) (rows_of (thin f1 f2 n1 n2 kept))

abbrev if_any : List (ℕ × ℕ) → Option Table → Option Table
if_any [] t = None
if_any (e ∷ r) t = t

kept_whole : (g h cs ds : List (ℕ × ℕ)) (f1 f2 : ℕ) (rows : List (List Pair)) → kept_class_pairs g h cs ds f1 f2 rows ≡ if_any h (Some (whole g h cs ds f1 f2 rows))
unfolding kept_class_pairs
kept_whole g [] cs ds f1 f2 rows = refl
kept_whole g (e ∷ r) cs ds f1 f2 rows = refl

cut_whole : (g l : List (ℕ × ℕ)) (cov : List ℕ) (cs ds : List (ℕ × ℕ)) (f1 f2 n : ℕ) (rows : List (List Pair))
    → cut g l (Table.class_pairs (Some cov) (Some cs) (Some ds) f1 f2 n rows) ≡ if_any (covered_map g cov) (Some (whole g (covered_map g cov) cs ds f1 f2 rows))
unfolding cut
cut_whole g l cov cs ds f1 f2 n rows = kept_whole g (covered_map g cov) cs ds f1 f2 rows

none_covered : (g : List (ℕ × ℕ)) → covered_map g (values []) ≡ []
unfolding covered_map values map_some
none_covered g = refl

-- of three maps, where nothing of the first leaves nothing of the second, and the second goes along with the third
any_twice : (ρ : ℕ → Option ℕ) (x y z : List (ℕ × ℕ)) (t u : Table) (k : Table → Option Table) → (x ≡ [] → y ≡ []) → Along ρ z y → k t ≡ if_any y (Some u) → bind (if_any x (Some t)) k ≡ if_any z (Some u)
unfolding bind
any_twice ρ [] [] [] t u k n a e = refl
any_twice ρ [] [] (c ∷ z) t u k n a e = absurd a
any_twice ρ [] (b ∷ y) z t u k n a e = absurd (nothing (n refl))
  where
    nothing : b ∷ y ≡ [] → ⊥
    nothing q = omega (arith, ap length q)
any_twice ρ (p ∷ x) [] [] t u k n a e = e
any_twice ρ (p ∷ x) [] (c ∷ z) t u k n a e = absurd a
any_twice ρ (p ∷ x) (b ∷ y) [] t u k n a e = absurd a
any_twice ρ (p ∷ x) (b ∷ y) (c ∷ z) t u k n a e = e

-- A pair table by class, cut twice.
module _ (g₁ g₂ g : List (ℕ × ℕ)) (found : All (λ e. find g₁ e.0 ≡ Some e.1) g₁) (one : Injective (find g₁)) (e : Then (find g₁) (find g₂) (find g)) (a : Along (find g₁) g g₂) where
  -- second classes: those that retained glyphs hold, and 0
  module _ (ds : List (ℕ × ℕ)) where
    abbrev hs₁ : List ℕ
    hs₁ = insert_up 0 (held_by ds (keys g₁))

    abbrev ds₁ : List (ℕ × ℕ)
    ds₁ = classes_under (second_map g₁ ds) g₁ ds

    ascend : Up 0 hs₁
    ascend = insert_up_lem 0 0 (held_by ds (keys g₁)) (omega arith) (held_up ds (keys g₁))

    second_follow : (x y : ℕ) → find g₁ x ≡ Some y → find (second_map g₁ ds) (class_of ds x) ≡ Some (class_of ds₁ y)
    unfolding second_map
    second_follow x y q = follow_under (find g₁) one g₁ found hs₁ ds x y q q (insert_member (class_of ds x) 0 (held_by ds (keys g₁)) ∙ rw (held_class ds g₁ x y q) (or-true (eqb 0 (class_of ds x))))

    second_zero_first : find (second_map g₁ ds) 0 ≡ Some 0
    unfolding second_map
    second_zero_first = zero_first hs₁ ascend (insert_member 0 0 (held_by ds (keys g₁)))

    second_moved : Moved (find (second_map g₁ ds)) (insert_up 0 (held_by ds (keys g))) (insert_up 0 (held_by ds₁ (keys g₂)))
    unfolding second_map
    second_moved =
        let κ = find (second_map g₁ ds) in
        let o = rank_order hs₁ ascend in
        insert_moved κ o 0 0 second_zero_first (held_by ds (keys g)) (held_by ds₁ (keys g₂)) (held_moved κ o (find g₁) ds ds₁ second_follow (keys g) (keys g₂) (along_keys (find g₁) g g₂ a))

    second_twice : Then (find (second_map g₁ ds)) (find (second_map g₂ ds₁)) (find (second_map g ds))
    unfolding second_map
    second_twice = numbered_moved (find (second_map g₁ ds)) (rank_order hs₁ ascend) 0 (insert_up 0 (held_by ds (keys g))) (insert_up 0 (held_by ds₁ (keys g₂))) second_moved

    seconds_twice : classes_under (second_map g₂ ds₁) g₂ ds₁ ≡ classes_under (second_map g ds) g ds
    seconds_twice = under_twice (find g₁) g g₂ a ds ds₁ (second_map g₁ ds) (second_map g₂ ds₁) (second_map g ds) second_twice second_follow

    second_count : length (second_map g₂ ds₁) ≡ length (second_map g ds)
    unfolding second_map
    second_count =
        numbered_length 0 (insert_up 0 (held_by ds₁ (keys g₂)))
        ∙ moved_length (find (second_map g₁ ds)) (insert_up 0 (held_by ds (keys g))) (insert_up 0 (held_by ds₁ (keys g₂))) second_moved
        ∙ sym (numbered_length 0 (insert_up 0 (held_by ds (keys g))))

  -- first classes: those that retained covered glyphs hold
  module _ (cov : List ℕ) (cs : List (ℕ × ℕ)) where
    abbrev h₁ : List (ℕ × ℕ)
    h₁ = covered_map g₁ cov

    abbrev h₂ : List (ℕ × ℕ)
    h₂ = covered_map g₂ (values h₁)

    abbrev h : List (ℕ × ℕ)
    h = covered_map g cov

    abbrev cs₁ : List (ℕ × ℕ)
    cs₁ = new_classes h₁ cs

    go_along : Along (find h₁) h h₂
    go_along = covered_along g₁ g₂ g e (find h₁) cov (covered_find g₁ cov)

    first_follow : (x y : ℕ) → find h₁ x ≡ Some y → find (class_map h₁ cs) (class_of cs x) ≡ Some (class_of cs₁ y)
    unfolding new_classes class_map
    first_follow x y q = follow_under (find g₁) one h₁ (covered_found g₁ g₂ g e cov) (held_by cs (keys h₁)) cs x y (covered_sub g₁ cov x y q) q (held_class cs h₁ x y q)

    first_twice : Then (find (class_map h₁ cs)) (find (class_map h₂ cs₁)) (find (class_map h cs))
    unfolding class_map
    first_twice =
        let κ = find (class_map h₁ cs) in
        let o = rank_order (held_by cs (keys h₁)) (held_up cs (keys h₁)) in
        numbered_moved κ o 0 (held_by cs (keys h)) (held_by cs₁ (keys h₂)) (held_moved κ o (find h₁) cs cs₁ first_follow (keys h) (keys h₂) (along_keys (find h₁) h h₂ go_along))

    firsts_twice : new_classes h₂ cs₁ ≡ new_classes h cs
    unfolding new_classes
    firsts_twice = under_twice (find h₁) h h₂ go_along cs cs₁ (class_map h₁ cs) (class_map h₂ cs₁) (class_map h cs) first_twice first_follow

    -- the rows: those that the second cut keeps of the kept rows are, with equal fields, those that the single cut keeps
    module _ (ds : List (ℕ × ℕ)) (f1 f2 : ℕ) (rows : List (List Pair)) where
      abbrev kept₁ : List (ℕ × List Pair)
      kept₁ = kept_rows (class_map h₁ cs) (second_map g₁ ds) 0 rows

      abbrev n1 : ℕ
      n1 = new_format (λ p. p.first_values) f1 kept₁

      abbrev n2 : ℕ
      n2 = new_second f2 kept₁

      abbrev kept₂ : List (ℕ × List Pair)
      kept₂ = kept_rows (class_map h₂ cs₁) (second_map g₂ (ds₁ ds)) 0 (rows_of (thin f1 f2 n1 n2 kept₁))

      abbrev kept : List (ℕ × List Pair)
      kept = kept_rows (class_map h cs) (second_map g ds) 0 rows

      counted : Counted 0 kept₁
      unfolding class_map
      counted = counted_kept (class_map h₁ cs) (second_map g₁ ds) rows 0 0 (held_by cs (keys h₁)) (held_up cs (keys h₁)) (λ d l. refl)

      rows_alike : KeptAlike f1 f2 n1 n2 kept kept₂
      rows_alike =
          subst (λ (js : List (ℕ × List Pair)). KeptAlike f1 f2 n1 n2 kept js)
          (sym (counted_rows (class_map h₂ cs₁) (second_map g₂ (ds₁ ds)) 0 (thin f1 f2 n1 n2 kept₁) (counted_thin f1 f2 n1 n2 0 kept₁ counted)))
          (subst (λ (ks : List (ℕ × List Pair)). KeptAlike f1 f2 n1 n2 ks (map_some (row_again (class_map h₂ cs₁) (second_map g₂ (ds₁ ds))) (thin f1 f2 n1 n2 kept₁)))
          (rows_twice (class_map h₁ cs) (second_map g₁ ds) (class_map h₂ cs₁) (second_map g₂ (ds₁ ds)) (class_map h cs) (second_map g ds) first_twice (second_twice ds) 0 rows)
          (again_alike f1 f2 n1 n2 (class_map h₂ cs₁) (second_map g₂ (ds₁ ds)) kept₁ (thin f1 f2 n1 n2 kept₁) (thinned_sets kept₁ f1 f2)))

      -- the whole table
      whole_twice : whole g₂ h₂ cs₁ (ds₁ ds) n1 n2 (rows_of (thin f1 f2 n1 n2 kept₁)) ≡ whole g h cs ds f1 f2 rows
      whole_twice =
          rw (
            sym (along_values (find h₁) h h₂ go_along),
            firsts_twice,
            seconds_twice ds,
            second_count ds,
            first_format f1 f2 n1 n2 kept kept₂ rows_alike,
            second_format f1 f2 n1 n2 kept kept₂ rows_alike (second_zero f2 kept₁),
            thin_kept f1 f2 n1 n2 (new_format (λ p. p.first_values) f1 kept) (new_second f2 kept) kept kept₂ rows_alike,
          )

      pub class_pairs_twice : (l₂ : List (ℕ × ℕ)) → bind (kept_class_pairs g₁ h₁ cs ds f1 f2 rows) (cut g₂ l₂) ≡ kept_class_pairs g h cs ds f1 f2 rows
      class_pairs_twice l₂ =
          ap (λ (o : Option Table). bind o (cut g₂ l₂)) (kept_whole g₁ h₁ cs ds f1 f2 rows)
          ∙ any_twice (find h₁) h₁ h₂ h (whole g₁ h₁ cs ds f1 f2 rows) (whole g h cs ds f1 f2 rows) (cut g₂ l₂) (λ q. rw q (none_covered g₂)) go_along
          (cut_whole g₂ l₂ (values h₁) cs₁ (ds₁ ds) n1 n2 (length (second_map g₁ ds)) (rows_of (thin f1 f2 n1 n2 kept₁)) ∙ ap (λ (t : Table). if_any h₂ (Some t)) whole_twice)
          ∙ sym (kept_whole g h cs ds f1 f2 rows)
