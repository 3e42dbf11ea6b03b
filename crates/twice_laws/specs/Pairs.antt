-- Pairs, cut twice: a field that went was 0, and reads as 0.
use Prim.Native.Nat.{ℕ, ◌+◌}
use Rattle.std.specs.Prelude.{◌≡◌, Bool, true, false, cond, ◌&&◌, ◌||◌, eqb, Option, None, Some}
use Rattle.std.proofs.Math.Path.{refl, ap₂}
use Rattle.std.proofs.Common.{sym, ap, ◌∙◌, true≢false}
use Rattle.std.proofs.Math.Bool.{not}
use mathlib.Core.List.{List, [], ◌∷◌, map}
use Rattle.meaning.specs.Words.{find, bind, push, map_some}
use Rattle.meaning.specs.Tables.{Pair, bit, field_count, fields_below, field}
use Rattle.meaning.specs.Cut.{cut_pair, cut_pairs, kept_sets, kept_pairs, glyphs_of, sets_of, unless_empty, used, keep_if, new_format, stand_in, new_second, pick_fields, thin_pair, thin}
use Rattle.laws.specs.Stands.{All}
use Rattle.promises.specs.Pairs.{Unused, Each, unused, second_zero}
use Rattle.twice.specs.Answers.{Then, left_twice}
use Rattle.twice_laws.specs.Sets.{kept_twice}

-- pairs and pair sets
module _ (g₁ g₂ g : List (ℕ × ℕ)) (e : Then (find g₁) (find g₂) (find g)) where
  pub pair_twice : Then (cut_pair g₁) (cut_pair g₂) (cut_pair g)
  unfolding cut_pair bind
  pair_twice p = go (find g₁ p.second) ∙ rw (e p.second)
    where
      go : (o : Option ℕ) → bind (bind o (λ n. Some (record { second = n; first_values = p.first_values; second_values = p.second_values }))) (cut_pair g₂)
          ≡ bind (bind o (find g₂)) (λ n. Some (record { second = n; first_values = p.first_values; second_values = p.second_values }))
      go None = refl
      go (Some n) = refl

  pub pairs_twice : Then (cut_pairs g₁) (cut_pairs g₂) (cut_pairs g)
  unfolding cut_pairs
  pairs_twice ps = left_twice (cut_pair g₁) (cut_pair g₂) (cut_pair g) pair_twice ps

-- two value records, of two formats, whose four fields are equal
abbrev pub SameFields : ℕ → List ℕ → ℕ → List ℕ → Type 0
SameFields f vs f' vs' = (field f' vs' 1 ≡ field f vs 1) × (field f' vs' 2 ≡ field f vs 2) × (field f' vs' 4 ≡ field f vs 4) × (field f' vs' 8 ≡ field f vs 8)

-- what stays of a value record under a format that keeps some of its fields
pub picked : (a b c d : Bool) (f : ℕ) (vs : List ℕ) → let n = keep_if a 1 + keep_if b 2 + keep_if c 4 + keep_if d 8 in let ws = pick_fields f n vs (1 ∷ 2 ∷ 4 ∷ 8 ∷ []) in
    (field n ws 1 ≡ cond a (field f vs 1) 0) × (field n ws 2 ≡ cond b (field f vs 2) 0) × (field n ws 4 ≡ cond c (field f vs 4) 0) × (field n ws 8 ≡ cond d (field f vs 8) 0)
unfolding push map_some bit field_count fields_below field keep_if pick_fields
picked true true true true f vs = (refl, refl, refl, refl)
picked true true true false f vs = (refl, refl, refl, refl)
picked true true false true f vs = (refl, refl, refl, refl)
picked true true false false f vs = (refl, refl, refl, refl)
picked true false true true f vs = (refl, refl, refl, refl)
picked true false true false f vs = (refl, refl, refl, refl)
picked true false false true f vs = (refl, refl, refl, refl)
picked true false false false f vs = (refl, refl, refl, refl)
picked false true true true f vs = (refl, refl, refl, refl)
picked false true true false f vs = (refl, refl, refl, refl)
picked false true false true f vs = (refl, refl, refl, refl)
picked false true false false f vs = (refl, refl, refl, refl)
picked false false true true f vs = (refl, refl, refl, refl)
picked false false true false f vs = (refl, refl, refl, refl)
picked false false false true f vs = (refl, refl, refl, refl)
picked false false false false f vs = (refl, refl, refl, refl)

-- a field that is not kept was 0
abbrev pub Kept : Bool → ℕ → Type 0
Kept b v = b ≡ false → v ≡ 0

kept_field : (b : Bool) (v : ℕ) → Kept b v → cond b v 0 ≡ v
kept_field true v h = refl
kept_field false v h = sym (h refl)

pub picked_same : (a b c d : Bool) (f : ℕ) (vs : List ℕ) → Kept a (field f vs 1) → Kept b (field f vs 2) → Kept c (field f vs 4) → Kept d (field f vs 8)
    → let n = keep_if a 1 + keep_if b 2 + keep_if c 4 + keep_if d 8 in SameFields f vs n (pick_fields f n vs (1 ∷ 2 ∷ 4 ∷ 8 ∷ []))
picked_same a b c d f vs h1 h2 h4 h8 =
    let p = picked a b c d f vs in
    (p.0 ∙ kept_field a _ h1, p.1 ∙ kept_field b _ h2, p.2 ∙ kept_field c _ h4, p.3 ∙ kept_field d _ h8)

-- the same of a second value record, whose format has a stand-in
pub picked_second : (a b c d : Bool) (f : ℕ) (vs : List ℕ) → Kept a (field f vs 1) → Kept b (field f vs 2) → Kept c (field f vs 4) → Kept d (field f vs 8)
    → let n = stand_in f (keep_if a 1 + keep_if b 2 + keep_if c 4 + keep_if d 8) in SameFields f vs n (pick_fields f n vs (1 ∷ 2 ∷ 4 ∷ 8 ∷ []))
unfolding stand_in keep_if
picked_second a b c d f vs h1 h2 h4 h8 = go (eqb f 0) a b c d h1 h2 h4 h8
  where
    new : Bool → Bool → Bool → Bool → ℕ
    new a b c d = keep_if a 1 + keep_if b 2 + keep_if c 4 + keep_if d 8

    go : (t a b c d : Bool) → Kept a (field f vs 1) → Kept b (field f vs 2) → Kept c (field f vs 4) → Kept d (field f vs 8)
        → let n = cond (not t && eqb (new a b c d) 0) 4 (new a b c d) in SameFields f vs n (pick_fields f n vs (1 ∷ 2 ∷ 4 ∷ 8 ∷ []))
    go true a b c d h1 h2 h4 h8 = picked_same a b c d f vs h1 h2 h4 h8
    go false true true true true h1 h2 h4 h8 = picked_same true true true true f vs h1 h2 h4 h8
    go false true true true false h1 h2 h4 h8 = picked_same true true true false f vs h1 h2 h4 h8
    go false true true false true h1 h2 h4 h8 = picked_same true true false true f vs h1 h2 h4 h8
    go false true true false false h1 h2 h4 h8 = picked_same true true false false f vs h1 h2 h4 h8
    go false true false true true h1 h2 h4 h8 = picked_same true false true true f vs h1 h2 h4 h8
    go false true false true false h1 h2 h4 h8 = picked_same true false true false f vs h1 h2 h4 h8
    go false true false false true h1 h2 h4 h8 = picked_same true false false true f vs h1 h2 h4 h8
    go false true false false false h1 h2 h4 h8 = picked_same true false false false f vs h1 h2 h4 h8
    go false false true true true h1 h2 h4 h8 = picked_same false true true true f vs h1 h2 h4 h8
    go false false true true false h1 h2 h4 h8 = picked_same false true true false f vs h1 h2 h4 h8
    go false false true false true h1 h2 h4 h8 = picked_same false true false true f vs h1 h2 h4 h8
    go false false true false false h1 h2 h4 h8 = picked_same false true false false f vs h1 h2 h4 h8
    go false false false true true h1 h2 h4 h8 = picked_same false false true true f vs h1 h2 h4 h8
    go false false false true false h1 h2 h4 h8 = picked_same false false true false f vs h1 h2 h4 h8
    go false false false false true h1 h2 h4 h8 = picked_same false false false true f vs h1 h2 h4 h8
    go false false false false false h1 h2 h4 h8 = picked_same false false true false f vs h1 h2 (λ e. absurd (true≢false e)) h8

-- equal fields are picked alike
pub pick_same : (f : ℕ) (vs : List ℕ) (f' : ℕ) (vs' : List ℕ) (n : ℕ) → SameFields f vs f' vs' → pick_fields f' n vs' (1 ∷ 2 ∷ 4 ∷ 8 ∷ []) ≡ pick_fields f n vs (1 ∷ 2 ∷ 4 ∷ 8 ∷ [])
unfolding pick_fields map_some
pick_same f vs f' vs' n h = rw (h.0, h.1, h.2, h.3)

-- Pairs, pair sets and kept sets with the same glyphs and equal fields, in two pairs of formats.
module _ (f1 f2 f1' f2' : ℕ) where
  abbrev pub Alike : Pair → Pair → Type 0
  Alike p q = (q.second ≡ p.second) × SameFields f1 p.first_values f1' q.first_values × SameFields f2 p.second_values f2' q.second_values

  abbrev pub AllAlike : List Pair → List Pair → Type 0
  AllAlike [] [] = Unit {0}
  AllAlike [] (q ∷ qs) = ⊥
  AllAlike (p ∷ ps) [] = ⊥
  AllAlike (p ∷ ps) (q ∷ qs) = Alike p q × AllAlike ps qs

  abbrev pub KeptAlike : List (ℕ × List Pair) → List (ℕ × List Pair) → Type 0
  KeptAlike [] [] = Unit {0}
  KeptAlike [] (d ∷ js) = ⊥
  KeptAlike (e ∷ ks) [] = ⊥
  KeptAlike (e ∷ ks) (d ∷ js) = (d.0 ≡ e.0) × AllAlike e.1 d.1 × KeptAlike ks js

  -- they use the same fields
  abbrev SameUsed : (Pair → List ℕ) → ℕ → ℕ → ℕ → Type 0
  SameUsed get f f' k = (p q : Pair) → Alike p q → field f' (get q) k ≡ field f (get p) k

  used_same : (get : Pair → List ℕ) (f f' k : ℕ) → SameUsed get f f' k → (ks js : List (ℕ × List Pair)) → KeptAlike ks js → used get f' k js ≡ used get f k ks
  unfolding used
  used_same get f f' k s [] [] h = refl
  used_same get f f' k s [] (d ∷ js) h = absurd h
  used_same get f f' k s (e ∷ ks) [] h = absurd h
  used_same get f f' k s ((n, ps) ∷ ks) ((m, qs) ∷ js) h = go ps qs h.1 (used_same get f f' k s ks js h.2)
    where
      go : (ps qs : List Pair) → AllAlike ps qs → used get f' k js ≡ used get f k ks → used get f' k ((m, qs) ∷ js) ≡ used get f k ((n, ps) ∷ ks)
      go [] [] a i = i
      go [] (q ∷ qs) a i = absurd a
      go (p ∷ ps) [] a i = absurd a
      go (p ∷ ps) (q ∷ qs) a i = ap₂ (λ (v : ℕ) (b : Bool). not (eqb v 0) || b) (s p q a.0) (go ps qs a.1 i)

  -- so they have the same new formats
  pub first_format : (ks js : List (ℕ × List Pair)) → KeptAlike ks js → new_format (λ p. p.first_values) f1' js ≡ new_format (λ p. p.first_values) f1 ks
  unfolding new_format
  first_format ks js h =
      rw (
        used_same (λ p. p.first_values) f1 f1' 1 (λ p q a. a.1.0) ks js h,
        used_same (λ p. p.first_values) f1 f1' 2 (λ p q a. a.1.1) ks js h,
        used_same (λ p. p.first_values) f1 f1' 4 (λ p q a. a.1.2) ks js h,
        used_same (λ p. p.first_values) f1 f1' 8 (λ p q a. a.1.3) ks js h,
      )

  pub second_format : (ks js : List (ℕ × List Pair)) → KeptAlike ks js → eqb f2' 0 ≡ eqb f2 0 → new_second f2' js ≡ new_second f2 ks
  unfolding new_format new_second stand_in
  second_format ks js h z =
      rw (
        z,
        used_same (λ p. p.second_values) f2 f2' 1 (λ p q a. a.2.0) ks js h,
        used_same (λ p. p.second_values) f2 f2' 2 (λ p q a. a.2.1) ks js h,
        used_same (λ p. p.second_values) f2 f2' 4 (λ p q a. a.2.2) ks js h,
        used_same (λ p. p.second_values) f2 f2' 8 (λ p q a. a.2.3) ks js h,
      )

  -- and are thinned alike
  thin_pair_lem : (n1 n2 : ℕ) (p q : Pair) → Alike p q → thin_pair f1' f2' n1 n2 q ≡ thin_pair f1 f2 n1 n2 p
  unfolding thin_pair
  thin_pair_lem n1 n2 p q a = rw (a.0, pick_same f1 p.first_values f1' q.first_values n1 a.1, pick_same f2 p.second_values f2' q.second_values n2 a.2)

  thin_pairs : (n1 n2 : ℕ) (ps qs : List Pair) → AllAlike ps qs → map (thin_pair f1' f2' n1 n2) qs ≡ map (thin_pair f1 f2 n1 n2) ps
  thin_pairs n1 n2 [] [] a = refl
  thin_pairs n1 n2 [] (q ∷ qs) a = absurd a
  thin_pairs n1 n2 (p ∷ ps) [] a = absurd a
  thin_pairs n1 n2 (p ∷ ps) (q ∷ qs) a = ap₂ (λ (x : Pair) (xs : List Pair). x ∷ xs) (thin_pair_lem n1 n2 p q a.0) (thin_pairs n1 n2 ps qs a.1)

  pub thin_kept : (n1 n2 : ℕ) (ks js : List (ℕ × List Pair)) → KeptAlike ks js → thin f1' f2' n1 n2 js ≡ thin f1 f2 n1 n2 ks
  unfolding thin
  thin_kept n1 n2 [] [] h = refl
  thin_kept n1 n2 [] (d ∷ js) h = absurd h
  thin_kept n1 n2 (e ∷ ks) [] h = absurd h
  thin_kept n1 n2 (e ∷ ks) (d ∷ js) h =
      ap₂ (λ (x : ℕ × List Pair) (xs : List (ℕ × List Pair)). x ∷ xs) (ap₂ (λ (x : ℕ) (xs : List Pair). (x, xs)) h.0 (thin_pairs n1 n2 e.1 d.1 h.1)) (thin_kept n1 n2 ks js h.2)

  pub kept_glyphs : (ks js : List (ℕ × List Pair)) → KeptAlike ks js → glyphs_of js ≡ glyphs_of ks
  unfolding glyphs_of
  kept_glyphs [] [] h = refl
  kept_glyphs [] (d ∷ js) h = absurd h
  kept_glyphs (e ∷ ks) [] h = absurd h
  kept_glyphs (e ∷ ks) (d ∷ js) h = ap₂ (λ (x : ℕ) (xs : List ℕ). x ∷ xs) h.0 (kept_glyphs ks js h.2)

  -- so what they make is the same table
  pub alike_table : (ks js : List (ℕ × List Pair)) → KeptAlike ks js → eqb f2' 0 ≡ eqb f2 0 → kept_pairs f1' f2' js ≡ kept_pairs f1 f2 ks
  unfolding kept_pairs
  alike_table [] [] h z = refl
  alike_table [] (d ∷ js) h z = absurd h
  alike_table (e ∷ ks) [] h z = absurd h
  alike_table (e ∷ ks) (d ∷ js) h z =
      rw (first_format (e ∷ ks) (d ∷ js) h, second_format (e ∷ ks) (d ∷ js) h z, kept_glyphs (e ∷ ks) (d ∷ js) h, thin_kept _ _ (e ∷ ks) (d ∷ js) h)

  -- what is cut of them is alike
  module _ (g : List (ℕ × ℕ)) where
    pub cut_alike : (ps qs : List Pair) → AllAlike ps qs → AllAlike (map_some (cut_pair g) ps) (map_some (cut_pair g) qs)
    unfolding map_some cut_pair bind push
    cut_alike [] [] a = tt
    cut_alike [] (q ∷ qs) a = absurd a
    cut_alike (p ∷ ps) [] a = absurd a
    cut_alike (p ∷ ps) (q ∷ qs) a = rw a.0.0 (go (find g p.second) (cut_alike ps qs a.1))
      where
        go : (o : Option ℕ) → AllAlike (map_some (cut_pair g) ps) (map_some (cut_pair g) qs)
            → AllAlike (push (bind o (λ n. Some (record { second = n; first_values = p.first_values; second_values = p.second_values }))) (map_some (cut_pair g) ps))
            (push (bind o (λ n. Some (record { second = n; first_values = q.first_values; second_values = q.second_values }))) (map_some (cut_pair g) qs))
        go None i = i
        go (Some n) i = ((refl, a.0.1, a.0.2), i)

    pub kept_alike : (ks js : List (ℕ × List Pair)) → KeptAlike ks js → KeptAlike (kept_sets (cut_pairs g) g (glyphs_of ks) (sets_of ks)) (kept_sets (cut_pairs g) g (glyphs_of js) (sets_of js))
    unfolding kept_sets glyphs_of sets_of bind push cut_pairs unless_empty
    kept_alike [] [] h = tt
    kept_alike [] (d ∷ js) h = absurd h
    kept_alike (e ∷ ks) [] h = absurd h
    kept_alike (e ∷ ks) (d ∷ js) h =
        rw h.0 (go (find g e.0) (map_some (cut_pair g) e.1) (map_some (cut_pair g) d.1) (cut_alike e.1 d.1 h.1) (kept_alike ks js h.2))
      where
        go : (o : Option ℕ) (ps qs : List Pair) → AllAlike ps qs → KeptAlike (kept_sets (cut_pairs g) g (glyphs_of ks) (sets_of ks)) (kept_sets (cut_pairs g) g (glyphs_of js) (sets_of js))
            → KeptAlike (push (bind o (λ n. bind (unless_empty ps) (λ y. Some (n, y)))) (kept_sets (cut_pairs g) g (glyphs_of ks) (sets_of ks)))
            (push (bind o (λ n. bind (unless_empty qs) (λ y. Some (n, y)))) (kept_sets (cut_pairs g) g (glyphs_of js) (sets_of js)))
        go None ps qs a i = i
        go (Some n) [] [] a i = i
        go (Some n) [] (q ∷ qs) a i = absurd a
        go (Some n) (p ∷ ps) [] a i = absurd a
        go (Some n) (p ∷ ps) (q ∷ qs) a i = (refl, a, i)

-- Thinned to the fields that are used, the sets stay alike.
module _ (all : List (ℕ × List Pair)) (f1 f2 : ℕ) where
  abbrev n1 : ℕ
  n1 = new_format (λ p. p.first_values) f1 all

  abbrev n2 : ℕ
  n2 = new_second f2 all

  thinned : (p : Pair) → Unused all p → Alike f1 f2 n1 n2 p (thin_pair f1 f2 n1 n2 p)
  unfolding thin_pair new_format new_second
  thinned p u = (
    refl,
    picked_same (used (λ p. p.first_values) f1 1 all) (used (λ p. p.first_values) f1 2 all) (used (λ p. p.first_values) f1 4 all) (used (λ p. p.first_values) f1 8 all) f1 p.first_values
        (u (λ p. p.first_values) f1 1) (u (λ p. p.first_values) f1 2) (u (λ p. p.first_values) f1 4) (u (λ p. p.first_values) f1 8),
    picked_second (used (λ p. p.second_values) f2 1 all) (used (λ p. p.second_values) f2 2 all) (used (λ p. p.second_values) f2 4 all) (used (λ p. p.second_values) f2 8 all) f2 p.second_values
        (u (λ p. p.second_values) f2 1) (u (λ p. p.second_values) f2 2) (u (λ p. p.second_values) f2 4) (u (λ p. p.second_values) f2 8),
  )

  thinned_pairs : (ps : List Pair) → All (Unused all) ps → AllAlike f1 f2 n1 n2 ps (map (thin_pair f1 f2 n1 n2) ps)
  thinned_pairs [] u = tt
  thinned_pairs (p ∷ ps) u = (thinned p u.0, thinned_pairs ps u.1)

  each_thinned : (ks : List (ℕ × List Pair)) → Each (Unused all) ks → KeptAlike f1 f2 n1 n2 ks (thin f1 f2 n1 n2 ks)
  unfolding thin
  each_thinned [] u = tt
  each_thinned (e ∷ ks) u = (refl, thinned_pairs e.1 u.0, each_thinned ks u.1)

  pub thinned_sets : KeptAlike f1 f2 n1 n2 all (thin f1 f2 n1 n2 all)
  thinned_sets = each_thinned all (unused all all (λ get f k u. u))

-- A pair table, cut twice.
module _ (g₁ g₂ g : List (ℕ × ℕ)) (e : Then (find g₁) (find g₂) (find g)) where
  pub pair_table_twice : (f1 f2 : ℕ) (cov : List ℕ) (sets : List (Option (List Pair))) → let ks = kept_sets (cut_pairs g₁) g₁ cov sets in
      let n1 = new_format (λ p. p.first_values) f1 ks in let n2 = new_second f2 ks in
      kept_pairs n1 n2 (kept_sets (cut_pairs g₂) g₂ (glyphs_of ks) (sets_of (thin f1 f2 n1 n2 ks))) ≡ kept_pairs f1 f2 (kept_sets (cut_pairs g) g cov sets)
  pair_table_twice f1 f2 cov sets =
      let ks = kept_sets (cut_pairs g₁) g₁ cov sets in
      let n1 = new_format (λ p. p.first_values) f1 ks in
      let n2 = new_second f2 ks in
      let a = thinned_sets ks f1 f2 in
      let b = kept_alike f1 f2 n1 n2 g₂ ks (thin f1 f2 n1 n2 ks) a in
      ap (λ (c : List ℕ). kept_pairs n1 n2 (kept_sets (cut_pairs g₂) g₂ c (sets_of (thin f1 f2 n1 n2 ks)))) (sym (kept_glyphs f1 f2 n1 n2 ks (thin f1 f2 n1 n2 ks) a))
      ∙ alike_table f1 f2 n1 n2 _ _ b (second_zero f2 ks)
      ∙ ap (kept_pairs f1 f2) (kept_twice g₁ g₂ g e (cut_pairs g₁) (cut_pairs g₂) (cut_pairs g) (pairs_twice g₁ g₂ g e) cov sets)
