-- What is left of a single substitution, as the definitions say it.
use Prim.Native.Nat.{ℕ, zero, suc, ◌+◌, ◌≤◌, ◌<◌}
use mathlib.Core.Path.{◌≡◌, refl, sym, ap, ◌∙◌, subst}
use mathlib.Core.Bool.{Bool, true, false, cond}
use Rattle.std.specs.Prelude.{Option, None, Some, Result}
use mathlib.Core.List.{List, [], ◌∷◌, map}
use native.Mathlib.Decide.{dec_lt}
use native.Mathlib.Nat.{zero-add}
use native.Mathlib.Omega.{arith}
use lib.ListN.{length, get_or, drop, length-map}
use lib.Seq.{drop-cons}
use lib.Dec.{eqb}
use borrow.Author.Tests.{ne_eqb, eqb-false}
use Rattle.meaning.specs.Words.{word, words, find, bind, push, map_some}
use Rattle.meaning.specs.Maps.{glyph_entries}
use Rattle.meaning.specs.Parts.{coverage, coverage_sound}
use Rattle.meaning.specs.Tables.{Table, reach, single, plus_delta, delta_pairs, list_pairs}
use Rattle.meaning.specs.Cut.{kept_substitutes, kept_singles, cut}
use Rattle.meaning.specs.Subset.{Outcome, refused, limit, written}
use Rattle.laws.specs.Stands.{All}
use Rattle.laws.specs.Left.{words_length}
use Rattle.laws.specs.Through.{Opt}
use Rattle.laws.specs.CutGood.{GoodOf}
use Rattle.laws.specs.CutTables.{cut_good}
use Rattle.laws.specs.SoundGood.{Bytes, coverage_up, single_good}
use Rattle.glyph_runs.specs.Runs.{GlyphMap, map_good}
use Rattle.glyph_runs.specs.Found.{entries_few}
use Rattle.cell_maps.specs.Cells.{folded, Holds, holds_kept}
use Rattle.cell_maps.specs.Runs.{LaidGlyphs}
use Rattle.cell_maps.specs.declared.Map.{Map}
use Rattle.area.specs.Part.{part, notes, old_at}
use Rattle.range_meets.specs.Met.{met, Met, met_few, met_count}
use Rattle.meets.specs.Either.{Most, MeetsGlyphs}
use Rattle.tried.specs.Tries.{Tries, tries_less}
use Rattle.tried.specs.declared.NotCut.{NotCut}
use Rattle.single_pairs.specs.Pairs.{covered, substitutes, pairs, pair_at, KeepsPairs, KeptPairs}
use Rattle.single_tables.specs.Writing.{Writes}
use Rattle.single_subst.specs.Whole.{Sound, MapLaid, enough_cells}
use Rattle.single_checks.proofs.Checking.{Good, good_table}

-- Indexes of notes lie in the coverage.
met_indexes : (f : ℕ → Option ℕ) (i n : ℕ) (cov : List ℕ) → i + length cov ≤ n → All (λ e. e.0 < n) (met f i cov)
unfolding met push bind
met_indexes f i n [] h = tt
met_indexes f i n (c ∷ cov) h = step (f c) (met_indexes f (i + 1) n cov (omega arith))
  where
    step : (o : Option ℕ) → All (λ e. e.0 < n) (met f (i + 1) cov) → All (λ e. e.0 < n) (push (bind o (λ x. Some (i, x))) (met f (i + 1) cov))
    step None k = k
    step (Some x) k = (omega arith, k)

notes_each : (P : ℕ → Type 0) (t : List ℕ) (at n : ℕ) → All (λ e. P e.0) (notes t at n) → (j : ℕ) → j < n → P (old_at t (at + j))
unfolding part
notes_each P t at zero h j l = absurd (omega arith)
notes_each P t at (suc n) h zero l = let e : at + 0 ≡ at = omega arith in rw e h.0
notes_each P t at (suc n) h (suc j) l = let e : at + suc j ≡ at + 1 + j = omega arith in rw e (notes_each P t (at + 1) n h.1 j (omega arith))

-- The pairs of the notes are those of the covered glyphs.
module _ (g : List (ℕ × ℕ)) (all : List ℕ) where
  notes_pairs : (i : ℕ) (cov : List ℕ) → i + length cov ≤ length all → map_some (pair_at (find g) all) (met (find g) i cov) ≡ kept_substitutes g (list_pairs cov (drop i all))
  unfolding met map_some push bind kept_substitutes list_pairs
  notes_pairs i [] h = refl
  notes_pairs i (c ∷ cov) h =
      let e : suc i ≡ i + 1 = omega arith in
      rw (drop-cons all i 0 (omega arith), e) (step (find g c) (notes_pairs (i + 1) cov (omega arith)))
    where
      step : (o : Option ℕ) → map_some (pair_at (find g) all) (met (find g) (i + 1) cov) ≡ kept_substitutes g (list_pairs cov (drop (i + 1) all))
          → map_some (pair_at (find g) all) (push (bind o (λ n. Some (i, n))) (met (find g) (i + 1) cov)) ≡ push (bind o (λ n. bind (find g (get_or all i 0)) (λ m. Some (n, m)))) (kept_substitutes g (list_pairs cov (drop (i + 1) all)))
      step None k = k
      step (Some n) k = ap (push (bind (find g (get_or all i 0)) (λ m. Some (n, m)))) k

pairs_same : (f h : ℕ → Option ℕ) → ((x : ℕ) → f x ≡ h x) → (all : List ℕ) (es : List (ℕ × ℕ)) → map_some (pair_at f all) es ≡ map_some (pair_at h all) es
unfolding map_some
pairs_same f h e all [] = refl
pairs_same f h e all ((i, n) ∷ es) = rw (e (get_or all i 0)) (ap (push (bind (h (get_or all i 0)) (λ m. Some (n, m)))) (pairs_same f h e all es))

-- A delta's pairs are those of the list that it stands for.
delta_list : (cov : List ℕ) (d : ℕ) → delta_pairs cov d ≡ list_pairs cov (map (plus_delta d) cov)
unfolding delta_pairs list_pairs
delta_list [] d = refl
delta_list (c ∷ cov) d = ap (λ (l : List (ℕ × ℕ)). (c, plus_delta d c) ∷ l) (delta_list cov d)

-- What is left, by the coverage.
module _ (g : List (ℕ × ℕ)) where
  cut_delta : (cov : List ℕ) (d : ℕ) → cut g [] (Table.single_delta (Some cov) d) ≡ kept_singles (kept_substitutes g (delta_pairs cov d))
  unfolding cut
  cut_delta cov d = refl

  cut_list : (cov xs : List ℕ) → cut g [] (Table.single_list (Some cov) xs) ≡ kept_singles (kept_substitutes g (list_pairs cov xs))
  unfolding cut
  cut_list cov xs = refl

  null_delta : (d : ℕ) → cut g [] (Table.single_delta None d) ≡ None
  unfolding cut
  null_delta d = refl

  null_list : (xs : List ℕ) → cut g [] (Table.single_list None xs) ≡ None
  unfolding cut
  null_list xs = refl

cover_null : (s : List ℕ) → word s 2 ≡ 0 → reach (coverage s) s 0 2 ≡ None
unfolding reach
cover_null s z = rw z refl

module _ (s : List ℕ) (z : word s 2 ≡ 0 → ⊥) where
  cover_there : reach (coverage s) s 0 2 ≡ Some (covered s)
  unfolding reach
  cover_there = rw (ne_eqb (word s 2) 0 z, zero-add) refl

  cut_is : (g : List (ℕ × ℕ)) → cut g [] (single s) ≡ kept_singles (kept_substitutes g (list_pairs (covered s) (substitutes s)))
  unfolding single substitutes
  cut_is g = step (eqb (word s 0) 1)
    where
      step : (t : Bool) → cut g [] (cond t (Table.single_delta (reach (coverage s) s 0 2) (word s 4)) (Table.single_list (reach (coverage s) s 0 2) (words s 6 (word s 4))))
          ≡ kept_singles (kept_substitutes g (list_pairs (covered s) (cond t (map (plus_delta (word s 4)) (covered s)) (words s 6 (word s 4)))))
      step true =
          ap (λ (c : Option (List ℕ)). cut g [] (Table.single_delta c (word s 4))) cover_there ∙ cut_delta g (covered s) (word s 4)
          ∙ ap (λ (es : List (ℕ × ℕ)). kept_singles (kept_substitutes g es)) (delta_list (covered s) (word s 4))
      step false = ap (λ (c : Option (List ℕ)). cut g [] (Table.single_list c (words s 6 (word s 4)))) cover_there ∙ cut_list g (covered s) (words s 6 (word s 4))

  all_listed : Good s → length (substitutes s) ≡ length (covered s)
  unfolding substitutes
  all_listed k = step (eqb (word s 0) 1) refl
    where
      step : (t : Bool) → eqb (word s 0) 1 ≡ t → length (cond t (map (plus_delta (word s 4)) (covered s)) (words s 6 (word s 4))) ≡ length (covered s)
      step true e = length-map (covered s) (plus_delta (word s 4))
      step false e = words_length s 6 (word s 4) ∙ sym (k.listed (eqb-false (word s 0) 1 e)).1

-- a null coverage leaves nothing
pub null_cut : (s : List ℕ) (g : List (ℕ × ℕ)) (out : List ℕ) {at : ℕ} → at ≡ word s 2 → at ≡ 0 → refused out 8 ≡ written out (cut g [] (single s))
unfolding single written
null_cut s g out w z = sym (ap (written out) (step (eqb (word s 0) 1)))
  where
    step : (t : Bool) → cut g [] (cond t (Table.single_delta (reach (coverage s) s 0 2) (word s 4)) (Table.single_list (reach (coverage s) s 0 2) (words s 6 (word s 4)))) ≡ None
    step true = ap (λ (c : Option (List ℕ)). cut g [] (Table.single_delta c (word s 4))) (cover_null s (sym w ∙ z)) ∙ null_delta g (word s 4)
    step false = ap (λ (c : Option (List ℕ)). cut g [] (Table.single_list c (words s 6 (word s 4)))) (cover_null s (sym w ∙ z)) ∙ null_list g (words s 6 (word s 4))

-- what is met, by the offset that was read
pub met_cover : (s : List ℕ) {cover : ℕ} {f : ℕ → Option ℕ} {t : List ℕ} {at : ℕ} {next : List ℕ} {n : ℕ} → cover ≡ word s 2 → Met f (coverage s cover) t at next n → Met f (covered s) t at next n
met_cover s e k = rw e at k

-- The glyph map in cells.
module _ {form : ℕ} {s glyphs : List ℕ} (o : Sound form s glyphs) where
  -- too few cells for it
  pub few_cells : {t₀ t : List ℕ} {m : Map} → LaidGlyphs form glyphs t₀ t 0 m → m.mask ≡ 0 → length t₀ < enough_cells
  few_cells {t₀} a z = step (dec_lt (length t₀) 65536)
    where
      step : Dec (length t₀ < 65536) → length t₀ < enough_cells
      step (yes h) = omega arith
      step (no h) = absurd (a.room (omega arith) z)

  pub map_laid : {t₀ t : List ℕ} {m : Map} {at : ℕ} → LaidGlyphs form glyphs t₀ t 0 m → (m.mask ≡ 0 → ⊥) → at ≡ word s 2 → (at ≡ 0 → ⊥) → MapLaid form s glyphs m t
  map_laid a z w h = record { front = a.place; mask = a.few; holds = a.holds z; cover = λ e. h (w ∙ e) }

  -- as many cells as before
  pub cells_same : {t₀ t : List ℕ} {m : Map} → LaidGlyphs form glyphs t₀ t 0 m → (short : Type 0) (r : Result ℕ NotCut) (out after : List ℕ) (made : Outcome) → Tries (length t < enough_cells) short r out after made → Tries (length t₀ < enough_cells) short r out after made
  cells_same {t₀} {t} {m} a short r out after made h = tries_less (length t < enough_cells) short (length t₀ < enough_cells) short r out after made (λ f. omega (arith, a.kept.size)) (λ f. f) h

  module _ {m : Map} {t : List ℕ} (l : MapLaid form s glyphs m t) where
    good : Good s
    good = good_table s o.sound l.cover

    -- what counting the notes, and meeting the coverage, asks
    pub counts : {cover : ℕ} → cover ≡ word s 2 → (coverage_sound s cover ≡ true) × GlyphMap form glyphs
    counts w = (rw w good.cover, o.map)

    pub meets : {at cover r : ℕ} → cover ≡ word s 2 → at ≡ m.mask + 1 → Most form glyphs s cover r → at + r < length t → MeetsGlyphs form s cover glyphs m t at
    meets w e n h = record { sound = (counts w).0; map = o.map; holds = l.holds; behind = omega (arith, l.front); room = omega (arith, n.number) }

    module _ {at n : ℕ} {next : List ℕ} (e : at ≡ m.mask + 1) (k : Met (find (glyph_entries form glyphs)) (covered s) t at next n) where
      held : Holds next m (glyph_entries form glyphs)
      held = holds_kept k.kept (omega (arith, l.front)) l.holds

      pub keeps : KeepsPairs s next m at n
      keeps = record {
        sound = o.sound;
        cover = l.cover;
        indexes = notes_each (λ x. x < length (covered s)) next at n (subst (All (λ e. e.0 < length (covered s))) (sym k.noted) (met_indexes (find (glyph_entries form glyphs)) 0 (length (covered s)) (covered s) (omega arith)));
        cells = held.inside;
        before = omega (arith, l.front);
        behind = omega (arith, k.fits, k.kept.size);
      }

      few_met : n ≤ 65536
      few_met = omega (arith, met_count k, met_few (glyph_entries form glyphs) (covered s) (coverage_up s (word s 2) good.cover), entries_few o.map)

      module _ {after : List ℕ} {count : ℕ} {same : Bool} (p : KeptPairs s next m at n after count same) where
        stay_is : pairs after at count ≡ kept_substitutes (glyph_entries form glyphs) (list_pairs (covered s) (substitutes s))
        stay_is =
            p.stay ∙ pairs_same (folded next m) (find (glyph_entries form glyphs)) held.answers (substitutes s) (notes next at n)
            ∙ ap (map_some (pair_at (find (glyph_entries form glyphs)) (substitutes s))) k.noted
            ∙ notes_pairs (glyph_entries form glyphs) (substitutes s) 0 (covered s) (omega (arith, all_listed s l.cover good))

        left_is : kept_singles (pairs after at count) ≡ cut (glyph_entries form glyphs) [] (single s)
        left_is = ap kept_singles stay_is ∙ sym (cut_is s l.cover (glyph_entries form glyphs))

        pub writes : Bytes s → Writes after at count same
        writes bs =
            let t = single_good s bs o.sound in
            let c = cut_good (glyph_entries form glyphs) [] (map_good o.map) tt (single s) t.0 in
            record {
              inside = omega (arith, p.few, k.fits, k.kept.size, p.kept.size);
              few = omega (arith, p.few, few_met);
              agreed = p.agreed;
              good = rw left_is (subst (λ (n : ℕ). Opt (GoodOf n) (cut (glyph_entries form glyphs) [] (single s))) t.1 c);
            }

        pub cut_tries : (r : Result ℕ NotCut) (area out end : List ℕ) → Tries (⊥) (length area < limit) r out end (written out (kept_singles (pairs after at count)))
            → Tries (length t < enough_cells) (length area < limit) r out end (written out (cut (glyph_entries form glyphs) [] (single s)))
        cut_tries r area out end h =
            tries_less ⊥ (length area < limit) (length t < enough_cells) (length area < limit) r out end (written out (cut (glyph_entries form glyphs) [] (single s))) (λ f. absurd f) (λ f. f)
            (subst (λ (x : Option Table). Tries (⊥) (length area < limit) r out end (written out x)) left_is h)
