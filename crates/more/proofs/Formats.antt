-- The value formats that a cut leaves: they have just the fields that stay, and in the second 0x0004 may stand in where none does.
use Rattle.std.specs.Prelude.{ℕ, ◌+◌, ◌≡◌, Bool, ◌&&◌, not, ◌⊎◌, eqb, Option, None, Some}
use Rattle.std.proofs.Math.Path.{refl, ap, subst}
use Rattle.std.proofs.Common.{sym, ◌∙◌, true≢false, inl, inr, eqb-true}
use Rattle.std.proofs.Math.Bool.{true, false, cond}
use mathlib.Core.List.{List, [], ◌∷◌}
use Rattle.meaning.specs.Words.{word, bind}
use Rattle.meaning.specs.Parts.{coverage, classes}
use Rattle.meaning.specs.Tables.{Pair, Table, bit, field_count, reach, reaches, pair_set, cell_rows, pair_table, table}
use Rattle.meaning.specs.Cut.{cut, kept_sets, cut_pairs, kept_pairs, used, keep_if, new_format, stand_in, new_second, class_map, covered_map, second_map, kept_rows, kept_class_pairs}
use Rattle.meaning.specs.Matching.{second_format}
use Rattle.laws.specs.Stands.{All, all_map}
use Rattle.laws.specs.Through.{Opt}
use Rattle.laws.specs.ReadsBack.{table_pairs}
use Rattle.promises.specs.Survives.{not_null_and}
use Rattle.more.specs.Wider.{Then, Also, Wider}
use Rattle.more.proofs.Wider.{reached_also}
use Rattle.more.specs.Fields.{field_survives}
use Rattle.more.proofs.Fields.{field_also, used_exactly}
use Rattle.more.specs.Cells.{cell_field_survives}
use Rattle.more.proofs.Cells.{cell_field_also, cells_used_exactly}
use Rattle.more.specs.Formats.{has, four_fields, first_format, field_stays, JustFields, StandIn, KeepsFields, MoreFields}

-- a field that stays under a map stays under a wider one
pub stays_also : (g h : List (ℕ × ℕ)) → Wider g h → (get : Pair → List ℕ) (f : ℕ) (t : Table) → Also (field_stays get f g t) (field_stays get f h t)
unfolding field_stays
stays_also g h w get f (Table.by_glyph chained cover sets) = λ k e. e
stays_also g h w get f (Table.by_class chained cover b i a sets) = λ k e. e
stays_also g h w get f (Table.by_cover chained b i a rs) = λ k e. e
stays_also g h w get f (Table.ligatures cover sets) = λ k e. e
stays_also g h w get f (Table.pairs_of cover f1 f2 sets) =
    λ k. reached_also (λ cov. field_survives get f k g cov sets) (λ cov. field_survives get f k h cov sets) (λ cov. field_also g h w get f k cov sets) cover
stays_also g h w get f (Table.class_pairs cover first second f1 f2 n rows) =
    λ k. reached_also (λ cov. not_null_and (λ cs. not_null_and (λ ds. cell_field_survives get f k g cov cs ds rows) second) first)
    (λ cov. not_null_and (λ cs. not_null_and (λ ds. cell_field_survives get f k h cov cs ds rows) second) first)
    (λ cov. reached_also (λ cs. not_null_and (λ ds. cell_field_survives get f k g cov cs ds rows) second) (λ cs. not_null_and (λ ds. cell_field_survives get f k h cov cs ds rows) second)
    (λ cs. reached_also (λ ds. cell_field_survives get f k g cov cs ds rows) (λ ds. cell_field_survives get f k h cov cs ds rows) (λ ds. cell_field_also g h w get f k cov cs ds rows) second) first) cover
stays_also g h w get f (Table.single_delta cover d) = λ k e. e
stays_also g h w get f (Table.single_list cover subs) = λ k e. e

-- a format made of four fields, or less
bits : (a b c d : Bool) → let n = keep_if a 1 + keep_if b 2 + keep_if c 4 + keep_if d 8 in (has n 1 ≡ a) × (has n 2 ≡ b) × (has n 4 ≡ c) × (has n 8 ≡ d)
unfolding has bit keep_if
bits true true true true = (refl, refl, refl, refl)
bits true true true false = (refl, refl, refl, refl)
bits true true false true = (refl, refl, refl, refl)
bits true true false false = (refl, refl, refl, refl)
bits true false true true = (refl, refl, refl, refl)
bits true false true false = (refl, refl, refl, refl)
bits true false false true = (refl, refl, refl, refl)
bits true false false false = (refl, refl, refl, refl)
bits false true true true = (refl, refl, refl, refl)
bits false true true false = (refl, refl, refl, refl)
bits false true false true = (refl, refl, refl, refl)
bits false true false false = (refl, refl, refl, refl)
bits false false true true = (refl, refl, refl, refl)
bits false false true false = (refl, refl, refl, refl)
bits false false false true = (refl, refl, refl, refl)
bits false false false false = (refl, refl, refl, refl)

-- a new format has just the fields that some pair or cell uses
format_has : (get : Pair → List ℕ) (f : ℕ) (ks : List (ℕ × List Pair)) (stays : ℕ → Bool) → ((k : ℕ) → used get f k ks ≡ stays k) → JustFields (new_format get f ks) stays
unfolding new_format
format_has get f ks stays h =
    let b = bits (used get f 1 ks) (used get f 2 ks) (used get f 4 ks) (used get f 8 ks) in
    (b.0 ∙ h 1, (b.1 ∙ h 2, (b.2 ∙ h 4, (b.3 ∙ h 8, tt))))

-- so has the second, or 0x0004 stands in
second_has : (f : ℕ) (ks : List (ℕ × List Pair)) (stays : ℕ → Bool) → ((k : ℕ) → used (λ p. p.second_values) f k ks ≡ stays k) → JustFields (new_second f ks) stays ⊎ StandIn (new_second f ks) stays
unfolding new_second stand_in has bit
second_has f ks stays h = go (not (eqb f 0)) (eqb (new_format (λ p. p.second_values) f ks) 0) refl
  where
    n : ℕ
    n = new_format (λ p. p.second_values) f ks

    just : JustFields n stays
    just = format_has (λ p. p.second_values) f ks stays h

    go : (a b : Bool) → eqb n 0 ≡ b → JustFields (cond (a && b) 4 n) stays ⊎ StandIn (cond (a && b) 4 n) stays
    go true true e =
        let z : n ≡ 0 = eqb-true n 0 e in
        let gone : All (λ k. stays k ≡ has 0 k) four_fields = all_map (λ k. has n k ≡ stays k) (λ k. stays k ≡ has 0 k) (λ k q. sym q ∙ ap (λ (m : ℕ). has m k) z) four_fields just in
        inr (refl, (gone.0, (gone.1.0, (gone.1.1.0, (gone.1.1.1.0, tt)))))
    go true false e = inl just
    go false b e = inl just

module _ (g : List (ℕ × ℕ)) (cov : List ℕ) (f1 f2 : ℕ) where
  pairs_left_lem : (sets : List (Option (List Pair))) (ks : List (ℕ × List Pair)) → kept_sets (cut_pairs g) g cov sets ≡ ks → Opt (KeepsFields g (Table.pairs_of (Some cov) f1 f2 sets)) (kept_pairs f1 f2 ks)
  unfolding kept_pairs first_format second_format field_stays not_null_and
  pairs_left_lem sets [] e = tt
  pairs_left_lem sets (p ∷ ks) e =
      record {
        first = format_has (λ p. p.first_values) f1 (p ∷ ks) (λ k. field_survives (λ p. p.first_values) f1 k g cov sets) (λ k. ap (used (λ p. p.first_values) f1 k) (sym e) ∙ used_exactly (λ p. p.first_values) f1 k g (λ p n. refl) cov sets);
        second = second_has f2 (p ∷ ks) (λ k. field_survives (λ p. p.second_values) f2 k g cov sets) (λ k. ap (used (λ p. p.second_values) f2 k) (sym e) ∙ used_exactly (λ p. p.second_values) f2 k g (λ p n. refl) cov sets);
      }

  class_pairs_left : (cs ds : List (ℕ × ℕ)) (n : ℕ) (rows : List (List Pair)) (h : List (ℕ × ℕ)) → covered_map g cov ≡ h
      → Opt (KeepsFields g (Table.class_pairs (Some cov) (Some cs) (Some ds) f1 f2 n rows)) (kept_class_pairs g h cs ds f1 f2 rows)
  unfolding kept_class_pairs first_format second_format field_stays not_null_and
  class_pairs_left cs ds n rows [] e = tt
  class_pairs_left cs ds n rows (p ∷ h) e =
      let kept = kept_rows (class_map (p ∷ h) cs) (second_map g ds) 0 rows in
      let same : kept_rows (class_map (covered_map g cov) cs) (second_map g ds) 0 rows ≡ kept = ap (λ (m : List (ℕ × ℕ)). kept_rows (class_map m cs) (second_map g ds) 0 rows) e in
      record {
        first = format_has (λ p. p.first_values) f1 kept (λ k. cell_field_survives (λ p. p.first_values) f1 k g cov cs ds rows)
            (λ k. ap (used (λ p. p.first_values) f1 k) (sym same) ∙ cells_used_exactly (λ p. p.first_values) f1 k (λ p n. refl) g cov cs ds rows);
        second = second_has f2 kept (λ k. cell_field_survives (λ p. p.second_values) f2 k g cov cs ds rows)
            (λ k. ap (used (λ p. p.second_values) f2 k) (sym same) ∙ cells_used_exactly (λ p. p.second_values) f2 k (λ p n. refl) g cov cs ds rows);
      }

module _ (g l : List (ℕ × ℕ)) where
  pairs_formats : (cover : Option (List ℕ)) (f1 f2 : ℕ) (sets : List (Option (List Pair))) → let t = Table.pairs_of cover f1 f2 sets in Opt (KeepsFields g t) (cut g l t)
  unfolding cut bind
  pairs_formats None f1 f2 sets = tt
  pairs_formats (Some cov) f1 f2 sets = pairs_left_lem g cov f1 f2 sets (kept_sets (cut_pairs g) g cov sets) refl

  class_pairs_formats : (cover : Option (List ℕ)) (first second : Option (List (ℕ × ℕ))) (f1 f2 n : ℕ) (rows : List (List Pair))
      → let t = Table.class_pairs cover first second f1 f2 n rows in Opt (KeepsFields g t) (cut g l t)
  unfolding cut bind
  class_pairs_formats None first second f1 f2 n rows = tt
  class_pairs_formats (Some cov) None second f1 f2 n rows = tt
  class_pairs_formats (Some cov) (Some cs) None f1 f2 n rows = tt
  class_pairs_formats (Some cov) (Some cs) (Some ds) f1 f2 n rows = class_pairs_left g cov f1 f2 cs ds n rows (covered_map g cov) refl

  -- what is left of what a source of kind 4 says, in either format
  pub formats_left : (kind : ℕ) → kind ≡ 4 → (s : List ℕ) → Opt (KeepsFields g (table kind s)) (cut g l (table kind s))
  unfolding pair_table
  formats_left kind e s =
      let is : table kind s ≡ pair_table s = ap (λ (n : ℕ). table n s) e ∙ table_pairs s in
      subst (λ (t : Table). Opt (KeepsFields g t) (cut g l t)) (sym is) (step (eqb (word s 0) 1))
    where
      step : (b : Bool) → let t = cond b (Table.pairs_of (reach (coverage s) s 0 2) (word s 4) (word s 6) (reaches (pair_set (field_count (word s 4)) (field_count (word s 6)) s) s 0 10 (word s 8)))
          (Table.class_pairs (reach (coverage s) s 0 2) (reach (classes s) s 0 8) (reach (classes s) s 0 10) (word s 4) (word s 6) (word s 14) (cell_rows s (field_count (word s 4)) (field_count (word s 6)) (word s 14) 16 (word s 12))) in
          Opt (KeepsFields g t) (cut g l t)
      step true = pairs_formats (reach (coverage s) s 0 2) (word s 4) (word s 6) (reaches (pair_set (field_count (word s 4)) (field_count (word s 6)) s) s 0 10 (word s 8))
      step false = class_pairs_formats (reach (coverage s) s 0 2) (reach (classes s) s 0 8) (reach (classes s) s 0 10) (word s 4) (word s 6) (word s 14) (cell_rows s (field_count (word s 4)) (field_count (word s 6)) (word s 14) 16 (word s 12))

-- formats with just the fields that stay
pub fields_wider : (f f' : ℕ) (p q : ℕ → Bool) → Also p q → JustFields f p → JustFields f' q → MoreFields f f'
fields_wider f f' p q w a b = (step 1 a.0 b.0, (step 2 a.1.0 b.1.0, (step 4 a.1.1.0 b.1.1.0, (step 8 a.1.1.1.0 b.1.1.1.0, tt))))
  where
    step : (k : ℕ) → has f k ≡ p k → has f' k ≡ q k → Then (has f k) (has f' k)
    step k x y e = y ∙ w k (sym x ∙ e)

-- no field stays under the wider map, and so none under the other
fields_none : (f f' : ℕ) (p q : ℕ → Bool) → Also p q → JustFields f p → All (λ k. q k ≡ false) four_fields → MoreFields f f'
fields_none f f' p q w a b = (step 1 a.0 b.0, (step 2 a.1.0 b.1.0, (step 4 a.1.1.0 b.1.1.0, (step 8 a.1.1.1.0 b.1.1.1.0, tt))))
  where
    step : (k : ℕ) → has f k ≡ p k → q k ≡ false → Then (has f k) (has f' k)
    step k x y e = absurd (true≢false (sym (w k (sym x ∙ e)) ∙ y))

pub second_wider : (f f' : ℕ) (p q : ℕ → Bool) → Also p q → JustFields f p ⊎ StandIn f p → JustFields f' q ⊎ StandIn f' q → MoreFields f f' ⊎ StandIn f p
second_wider f f' p q w (inr a) b = inr a
second_wider f f' p q w (inl a) (inl b) = inl (fields_wider f f' p q w a b)
second_wider f f' p q w (inl a) (inr b) = inl (fields_none f f' p q w a b.1)
