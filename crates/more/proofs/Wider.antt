-- Two maps, the second holding all old ids of the first, and what survives: each part that survives under the first survives under the second.
use Rattle.std.specs.Prelude.{ℕ, ◌≡◌, refl, Bool, true, false, ◌&&◌, ◌||◌, not, get_or, Option, None, Some}
use Rattle.std.proofs.Common.{sym, ◌∙◌, ap, true≢false, eqb-true, eq-eqb}
use mathlib.Core.List.{List, [], ◌∷◌}
use Rattle.std.proofs.Math.Dec.{eqb}
use Rattle.meaning.specs.Words.{keys, member}
use Rattle.meaning.specs.Parts.{class_of, class_in}
use Rattle.meaning.specs.Tables.{Rule, Table, delta_pairs, list_pairs}
use Rattle.promises.specs.Numbers.{and_left, and_right}
use Rattle.promises.specs.Survives.{some_of, each, not_null_and, is_retained, class_survives, rule_survives, glyph_rule_survives, class_rule_survives, set_kept, some_set_kept, some_slot_kept, coverage_survives, ligature_survives, pair_survives, class_pairs_survive, substitute_survives, survives}
use Rattle.more.specs.Wider.{Then, Also, Wider, slot_kept, first_class_kept, second_class_kept, cell_survives}

-- Tests.

pub and_then : (a b c d : Bool) → Then a c → Then b d → Then (a && b) (c && d)
and_then true b c d f k e = rw (f refl) (k e)
and_then false b c d f k e = absurd (true≢false (sym e))

pub or_then : (a b c d : Bool) → Then a c → Then b d → Then (a || b) (c || d)
or_then true b c d f k e = rw (f refl)
or_then false b true d f k e = refl
or_then false b false d f k e = k e

module _ {A : Type 0} (p q : A → Bool) (h : Also p q) where
  pub some_also : Also (some_of p) (some_of q)
  unfolding some_of
  some_also [] e = e
  some_also (a ∷ r) e = or_then (p a) (some_of p r) (q a) (some_of q r) (h a) (some_also r) e

  pub each_also : Also (each p) (each q)
  unfolding each
  each_also [] e = e
  each_also (a ∷ r) e = and_then (p a) (each p r) (q a) (each q r) (h a) (each_also r) e

  pub reached_also : Also (not_null_and p) (not_null_and q)
  unfolding not_null_and
  reached_also None e = e
  reached_also (Some a) e = h a e

-- Rules, whatever their numbers are: glyphs or classes.
rule_also : (chained : Bool) (b i a b' i' a' : ℕ → Bool) → Also b b' → Also i i' → Also a a' → Also (rule_survives chained b i a) (rule_survives chained b' i' a')
unfolding rule_survives
rule_also chained b i a b' i' a' hb hi ha r =
    let count = chained || not (eqb r.count 0) in
    and_then count (each b r.back && (each i r.input && each a r.ahead)) count (each b' r.back && (each i' r.input && each a' r.ahead)) (λ e. e)
    (and_then (each b r.back) (each i r.input && each a r.ahead) (each b' r.back) (each i' r.input && each a' r.ahead) (each_also b b' hb r.back)
    (and_then (each i r.input) (each a r.ahead) (each i' r.input) (each a' r.ahead) (each_also i i' hi r.input) (each_also a a' ha r.ahead)))

-- a test that is passed by a number of a list is passed by some of the list
some_member : (p : ℕ → Bool) (x : ℕ) (s : List ℕ) → p x ≡ true → Then (member x s) (some_of p s)
unfolding member some_of
some_member p x [] t e = e
some_member p x (y ∷ s) t e = or_then (eqb y x) (member x s) (p y) (some_of p s) (λ q. ap p (eqb-true y x q) ∙ t) (some_member p x s t) e

-- a list with all numbers of another
some_wider : (p : ℕ → Bool) (r s : List ℕ) → Also (λ x. member x r) (λ x. member x s) → Then (some_of p r) (some_of p s)
unfolding member some_of
some_wider p [] s w e = absurd (true≢false (sym e))
some_wider p (x ∷ r) s w e = go (p x) refl (some_wider p r s there) e
  where
    here : member x (x ∷ r) ≡ true
    here = rw (eq-eqb x x refl)

    there : Also (λ y. member y r) (λ y. member y s)
    there y q = w y (or_later (eqb x y) q)
      where
        or_later : (t : Bool) → member y r ≡ true → t || member y r ≡ true
        or_later true q = refl
        or_later false q = q

    go : (t : Bool) → p x ≡ t → Then (some_of p r) (some_of p s) → Then (t || some_of p r) (some_of p s)
    go true t k q = some_member p x s t (w x here)
    go false t k q = k q

-- what follows from each number that passes a test follows if some number does
some_found : (p : ℕ → Bool) (C : Type 0) (r : List ℕ) → some_of p r ≡ true → ((x : ℕ) → member x r ≡ true → p x ≡ true → C) → C
unfolding member some_of
some_found p C [] e f = absurd (true≢false (sym e))
some_found p C (y ∷ r) e f = go (p y) refl e (λ q. some_found p C r q (λ x m t. f x (later (eqb y x) (member x r) m) t))
  where
    later : (a b : Bool) → b ≡ true → a || b ≡ true
    later true b h = refl
    later false b h = h

    go : (t : Bool) → p y ≡ t → t || some_of p r ≡ true → (some_of p r ≡ true → C) → C
    go true t q k = f y (rw (eq-eqb y y refl)) t
    go false t q k = k q

-- tests that pass each other are the same
both_ways : (a b : Bool) → Then a b → Then b a → a ≡ b
both_ways true b f k = sym (f refl)
both_ways false true f k = k refl
both_ways false false f k = refl

-- some slot is kept, as Survives.antt says it, exactly if that of some covered glyph's class is
pub slots_exactly : (p : Rule → Bool) (g cs : List (ℕ × ℕ)) (cov : List ℕ) (sets : List (Option (List Rule))) → some_slot_kept p g cs cov sets ≡ some_of (λ x. slot_kept p g cs cov sets (class_of cs x)) cov
unfolding some_slot_kept slot_kept
slots_exactly p g cs cov sets = both_ways (some_of here cov) (some_of there cov) to from
  where
    alive : ℕ → Bool
    alive c = not_null_and (some_of p) (get_or sets c None)

    holds : ℕ → ℕ → Bool
    holds c y = is_retained g y && eqb (class_of cs y) c

    here : ℕ → Bool
    here x = is_retained g x && alive (class_of cs x)

    there : ℕ → Bool
    there x = some_of (holds (class_of cs x)) cov && alive (class_of cs x)

    both : (a b : Bool) → a ≡ true → b ≡ true → a && b ≡ true
    both a b x y = rw (x, y)

    to : Then (some_of here cov) (some_of there cov)
    to e =
        some_found here (some_of there cov ≡ true) cov e (λ x m t.
        let held = some_member (holds (class_of cs x)) x cov (both (is_retained g x) (eqb (class_of cs x) (class_of cs x)) (and_left (is_retained g x) (alive (class_of cs x)) t) (eq-eqb (class_of cs x) (class_of cs x) refl)) m in
        some_member there x cov (both (some_of (holds (class_of cs x)) cov) (alive (class_of cs x)) held (and_right (is_retained g x) (alive (class_of cs x)) t)) m)

    from : Then (some_of there cov) (some_of here cov)
    from e =
        some_found there (some_of here cov ≡ true) cov e (λ x m t.
        some_found (holds (class_of cs x)) (some_of here cov ≡ true) cov (and_left (some_of (holds (class_of cs x)) cov) (alive (class_of cs x)) t) (λ y n u.
        let one = and_left (is_retained g y) (eqb (class_of cs y) (class_of cs x)) u in
        let same = eqb-true (class_of cs y) (class_of cs x) (and_right (is_retained g y) (eqb (class_of cs y) (class_of cs x)) u) in
        some_member here y cov (both (is_retained g y) (alive (class_of cs y)) one (ap alive same ∙ and_right (some_of (holds (class_of cs x)) cov) (alive (class_of cs x)) t)) n))

-- The parts of tables, under two glyph maps, the second of which holds all old ids of the first.
module _ (g h : List (ℕ × ℕ)) (w : Wider g h) where
  pub class_also : (classes : Option (List (ℕ × ℕ))) → Also (class_survives g classes) (class_survives h classes)
  unfolding class_survives is_retained
  class_also classes c = some_wider (λ x. eqb (class_in classes x) c) (keys g) (keys h) w

  pub glyph_rule_also : (chained : Bool) → Also (glyph_rule_survives chained g) (glyph_rule_survives chained h)
  unfolding glyph_rule_survives
  glyph_rule_also chained = rule_also chained (is_retained g) (is_retained g) (is_retained g) (is_retained h) (is_retained h) (is_retained h) w w w

  pub class_rule_also : (chained : Bool) (b i a : Option (List (ℕ × ℕ))) → Also (class_rule_survives chained g b i a) (class_rule_survives chained h b i a)
  unfolding class_rule_survives
  class_rule_also chained b i a =
      rule_also chained (class_survives g b) (class_survives g i) (class_survives g a) (class_survives h b) (class_survives h i) (class_survives h a)
      (class_also b) (class_also i) (class_also a)

  pub coverage_also : Also (coverage_survives g) (coverage_survives h)
  unfolding coverage_survives
  coverage_also = reached_also (some_of (is_retained g)) (some_of (is_retained h)) (some_also (is_retained g) (is_retained h) w)

  pub ligature_also : Also (ligature_survives g) (ligature_survives h)
  unfolding ligature_survives
  ligature_also x = and_then (is_retained g x.glyph) (each (is_retained g) x.parts) (is_retained h x.glyph) (each (is_retained h) x.parts)
      (w x.glyph) (each_also (is_retained g) (is_retained h) w x.parts)

  pub pair_also : (c : ℕ) → Also (pair_survives g c) (pair_survives h c)
  unfolding pair_survives
  pair_also c p = and_then (is_retained g c) (is_retained g p.second) (is_retained h c) (is_retained h p.second) (w c) (w p.second)

  pub substitution_also : Also (substitute_survives g) (substitute_survives h)
  unfolding substitute_survives
  substitution_also e = and_then (is_retained g e.0) (is_retained g e.1) (is_retained h e.0) (is_retained h e.1) (w e.0) (w e.1)

  class_pairs_also : (cover : Option (List ℕ)) (first second : Option (List (ℕ × ℕ))) → Then (class_pairs_survive g cover first second) (class_pairs_survive h cover first second)
  unfolding class_pairs_survive
  class_pairs_also cover first second =
      reached_also (λ cov. not_null_and (λ cs. not_null_and (λ ds. some_of (is_retained g) cov) second) first) (λ cov. not_null_and (λ cs. not_null_and (λ ds. some_of (is_retained h) cov) second) first)
      (λ cov. reached_also (λ cs. not_null_and (λ ds. some_of (is_retained g) cov) second) (λ cs. not_null_and (λ ds. some_of (is_retained h) cov) second)
      (λ cs. reached_also (λ ds. some_of (is_retained g) cov) (λ ds. some_of (is_retained h) cov) (λ ds. some_also (is_retained g) (is_retained h) w cov) second) first) cover

  pub first_class_also : (cov : List ℕ) (cs : List (ℕ × ℕ)) → Also (first_class_kept g cov cs) (first_class_kept h cov cs)
  unfolding first_class_kept
  first_class_also cov cs c =
      some_also (λ x. is_retained g x && eqb (class_of cs x) c) (λ x. is_retained h x && eqb (class_of cs x) c)
      (λ x. and_then (is_retained g x) (eqb (class_of cs x) c) (is_retained h x) (eqb (class_of cs x) c) (w x) (λ e. e)) cov

  pub second_class_also : (ds : List (ℕ × ℕ)) → Also (second_class_kept g ds) (second_class_kept h ds)
  unfolding second_class_kept
  second_class_also ds c = or_then (eqb 0 c) (class_survives g (Some ds) c) (eqb 0 c) (class_survives h (Some ds) c) (λ e. e) (class_also (Some ds) c)

  pub cell_also : (cov : List ℕ) (cs ds : List (ℕ × ℕ)) (c : ℕ) → Also (cell_survives g cov cs ds c) (cell_survives h cov cs ds c)
  unfolding cell_survives
  cell_also cov cs ds c p =
      and_then (first_class_kept g cov cs c) (second_class_kept g ds p.second) (first_class_kept h cov cs c) (second_class_kept h ds p.second) (first_class_also cov cs c) (second_class_also ds p.second)

  -- sets by coverage index, by what survives in them
  module _ {A : Type 0} (p q : ℕ → A → Bool) (f : (c : ℕ) → Also (p c) (q c)) where
    pub set_also : (c : ℕ) → Also (set_kept p g c) (set_kept q h c)
    unfolding set_kept
    set_also c s = and_then (is_retained g c) (not_null_and (some_of (p c)) s) (is_retained h c) (not_null_and (some_of (q c)) s)
        (w c) (reached_also (some_of (p c)) (some_of (q c)) (some_also (p c) (q c) (f c)) s)

    pub some_set_also : (cov : List ℕ) → Also (some_set_kept p g cov) (some_set_kept q h cov)
    unfolding some_set_kept
    some_set_also [] sets e = e
    some_set_also (c ∷ cov) [] e = e
    some_set_also (c ∷ cov) (s ∷ sets) e =
        or_then (set_kept p g c s) (some_set_kept p g cov sets) (set_kept q h c s) (some_set_kept q h cov sets) (set_also c s) (some_set_also cov sets) e

  -- slots by class
  pub some_slot_also : (p q : Rule → Bool) → Also p q → (cs : List (ℕ × ℕ)) (cov : List ℕ) (sets : List (Option (List Rule))) → Then (some_slot_kept p g cs cov sets) (some_slot_kept q h cs cov sets)
  unfolding some_slot_kept
  some_slot_also p q f cs cov sets =
      some_also (λ x. is_retained g x && not_null_and (some_of p) (get_or sets (class_of cs x) None)) (λ x. is_retained h x && not_null_and (some_of q) (get_or sets (class_of cs x) None))
      (λ x. and_then (is_retained g x) (not_null_and (some_of p) (get_or sets (class_of cs x) None)) (is_retained h x) (not_null_and (some_of q) (get_or sets (class_of cs x) None))
      (w x) (reached_also (some_of p) (some_of q) (some_also p q f) (get_or sets (class_of cs x) None))) cov

  pub slot_also : (p q : Rule → Bool) → Also p q → (cs : List (ℕ × ℕ)) (cov : List ℕ) (sets : List (Option (List Rule))) → Also (slot_kept p g cs cov sets) (slot_kept q h cs cov sets)
  unfolding slot_kept
  slot_also p q f cs cov sets c =
      and_then (some_of (λ x. is_retained g x && eqb (class_of cs x) c) cov) (not_null_and (some_of p) (get_or sets c None)) (some_of (λ x. is_retained h x && eqb (class_of cs x) c) cov) (not_null_and (some_of q) (get_or sets c None))
      (some_also _ _ (λ x. and_then (is_retained g x) (eqb (class_of cs x) c) (is_retained h x) (eqb (class_of cs x) c) (w x) (λ e. e)) cov)
      (reached_also (some_of p) (some_of q) (some_also p q f) (get_or sets c None))

  -- tables
  pub table_also : Also (survives g) (survives h)
  unfolding survives
  table_also (Table.by_glyph chained cover sets) =
      reached_also (λ cov. some_set_kept (λ c. glyph_rule_survives chained g) g cov sets) (λ cov. some_set_kept (λ c. glyph_rule_survives chained h) h cov sets)
      (λ cov. some_set_also (λ c. glyph_rule_survives chained g) (λ c. glyph_rule_survives chained h) (λ c. glyph_rule_also chained) cov sets) cover
  table_also (Table.by_class chained cover b i a sets) =
      reached_also (λ cov. not_null_and (λ cs. some_slot_kept (class_rule_survives chained g b i a) g cs cov sets) i) (λ cov. not_null_and (λ cs. some_slot_kept (class_rule_survives chained h b i a) h cs cov sets) i)
      (λ cov. reached_also (λ cs. some_slot_kept (class_rule_survives chained g b i a) g cs cov sets) (λ cs. some_slot_kept (class_rule_survives chained h b i a) h cs cov sets)
      (λ cs. some_slot_also (class_rule_survives chained g b i a) (class_rule_survives chained h b i a) (class_rule_also chained b i a) cs cov sets) i) cover
  table_also (Table.by_cover chained b i a records) =
      and_then (each (coverage_survives g) b) (each (coverage_survives g) i && each (coverage_survives g) a) (each (coverage_survives h) b) (each (coverage_survives h) i && each (coverage_survives h) a)
      (each_also (coverage_survives g) (coverage_survives h) coverage_also b)
      (and_then (each (coverage_survives g) i) (each (coverage_survives g) a) (each (coverage_survives h) i) (each (coverage_survives h) a)
      (each_also (coverage_survives g) (coverage_survives h) coverage_also i) (each_also (coverage_survives g) (coverage_survives h) coverage_also a))
  table_also (Table.ligatures cover sets) =
      reached_also (λ cov. some_set_kept (λ c. ligature_survives g) g cov sets) (λ cov. some_set_kept (λ c. ligature_survives h) h cov sets)
      (λ cov. some_set_also (λ c. ligature_survives g) (λ c. ligature_survives h) (λ c. ligature_also) cov sets) cover
  table_also (Table.pairs_of cover f1 f2 sets) =
      reached_also (λ cov. some_set_kept (pair_survives g) g cov sets) (λ cov. some_set_kept (pair_survives h) h cov sets)
      (λ cov. some_set_also (pair_survives g) (pair_survives h) pair_also cov sets) cover
  table_also (Table.class_pairs cover first second f1 f2 n rows) = class_pairs_also cover first second
  table_also (Table.single_delta cover d) =
      reached_also (λ cov. some_of (substitute_survives g) (delta_pairs cov d)) (λ cov. some_of (substitute_survives h) (delta_pairs cov d))
      (λ cov. some_also (substitute_survives g) (substitute_survives h) substitution_also (delta_pairs cov d)) cover
  table_also (Table.single_list cover subs) =
      reached_also (λ cov. some_of (substitute_survives g) (list_pairs cov subs)) (λ cov. some_of (substitute_survives h) (list_pairs cov subs))
      (λ cov. some_also (substitute_survives g) (substitute_survives h) substitution_also (list_pairs cov subs)) cover
