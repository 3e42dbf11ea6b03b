-- From the sets that are kept to the table that is handed over.
use Prim.Native.Nat.{ℕ, ◌+◌, ◌-◌, ◌*◌, ◌≤◌, ◌<◌}
use mathlib.Core.Path.{◌≡◌, refl, sym, ap, ◌∙◌}
use mathlib.Core.Bool.{Bool, true, false}
use Rattle.std.specs.Prelude.{Option, None, Some, Err}
use mathlib.Core.List.{List, [], ◌∷◌, ◌++◌}
use native.Mathlib.Omega.{arith}
use lib.ListN.{length, get_or, length-append, length-map}
use lib.Dec.{leb, ltb}
use borrow.Author.Tests.{leb-true, leb-false, lt-ltb, le-ltb}
use Rattle.meaning.specs.Words.{flat}
use Rattle.meaning.specs.Cut.{glyphs_of}
use Rattle.meaning.specs.Layout.{coverage_words}
use Rattle.meaning.specs.Subset.{Outcome, refused, limit}
use Rattle.room.specs.Laid.{enough_area, laid_as}
use Rattle.tried.specs.Tries.{NoRoom}
use Rattle.tried.specs.declared.NotCut.{NotCut}
use Rattle.area.specs.Part.{part, news}
use Rattle.handing.specs.Closed.{members}
use Rattle.kept_rules.specs.declared.Maps.{Maps}
use Rattle.known_blocks.specs.Shared.{offsets_in, blocks_in}
use Rattle.placed_sets.specs.Sorts.{more_of, header_size, left_words}
use Rattle.placed_sets.specs.Kept.{words_of, Ready, Done, WroteKept, kept_in}
use Rattle.placed_sets.specs.declared.Sort.{Sort}
use Rattle.placed_sets.specs.declared.Sets.{Sets}
use Rattle.kept_header.specs.Table.{sets_in, layout_of, table_of, Finishes, Finished}
use Rattle.kept_header.specs.Answers.{laid_words, Answered, words_over, words_unfit}
use Rattle.kept_header.proofs.Lessening.{none_blocks}

-- the sets and the coverage are part of their table
table_most : (packed : Bool) (more cov : List ℕ) (bs : List (Option (List ℕ))) → length (blocks_in packed bs) + length cov ≤ length (sets_in packed cov more bs)
unfolding sets_in
table_most packed more cov bs =
    let first = 6 + 2 * length more + 2 * length bs in
    omega (arith, length-append more (length bs ∷ (offsets_in packed first bs ++ (blocks_in packed bs ++ cov))), length-append (offsets_in packed first bs) (blocks_in packed bs ++ cov), length-append (blocks_in packed bs) cov)

-- at most the highest number of a word
pub at_most : (n : ℕ) → leb n 65535 ≡ ltb n 65536
at_most n = step (leb n 65535) refl
  where
    step : (b : Bool) → leb n 65535 ≡ b → b ≡ ltb n 65536
    step true e = sym (lt-ltb n 65536 (omega (arith, leb-true n 65535 e)))
    step false e = sym (le-ltb n 65536 (omega (arith, leb-false n 65535 e)))

-- the second word of a table is the coverage's offset
cover_word : (packed : Bool) (more cov : List ℕ) (bs : List (Option (List ℕ))) → get_or (sets_in packed cov more bs) 1 0 ≡ 6 + 2 * length more + 2 * length bs + 2 * length (blocks_in packed bs)
unfolding sets_in
cover_word packed more cov bs = refl

module _ (packed : Bool) (sort : Sort) where
  -- of no sets there is no table
  table_none : (ks : List (ℕ × List ℕ)) → length ks ≡ 0 → table_of packed sort ks ≡ None
  unfolding table_of
  table_none [] e = refl
  table_none (k ∷ ks) e = absurd (omega arith)

  table_some : (ks : List (ℕ × List ℕ)) → (length ks ≡ 0 → ⊥) → table_of packed sort ks ≡ Some (layout_of packed sort (glyphs_of ks) (words_of ks))
  unfolding table_of
  table_some [] z = absurd (z refl)
  table_some (k ∷ ks) z = refl

  -- the sets stand before the coverage, behind the header and an offset
  table_sets : (ks : List (ℕ × List ℕ)) → 65528 ≤ 2 * length (blocks_in packed (members (words_of ks))) → 65536 ≤ get_or (left_words (table_of packed sort ks)) 1 0
  unfolding table_of left_words
  table_sets [] h = absurd (omega (arith, ap length (none_blocks packed)))
  table_sets (k ∷ ks) h = omega (arith, cover_word packed (more_of sort) (coverage_words (glyphs_of (k ∷ ks))) (members (words_of (k ∷ ks))))

words_some : (ws : List ℕ) → left_words (Some ws) ≡ ws
unfolding left_words
words_some ws = refl

laid_some : (out ws : List ℕ) → laid_words out (Some ws) ≡ laid_as (ltb (get_or ws 1 0) 65536) out (flat ws)
unfolding laid_words
laid_some out ws = refl

-- nothing is left
pub laid_none : (out : List ℕ) {o : Option (List ℕ)} → o ≡ None → refused out 8 ≡ laid_words out o
unfolding laid_words
laid_none out e = rw e refl

-- there is no room
pub answered_short : {a b : ℕ} {r : NotCut} {out : List ℕ} {words : Option (List ℕ)} → NoRoom enough_area b r → b ≡ a → (enough_area ≤ a → refused out 9 ≡ laid_words out words) → Answered (⊥) out words a (Err r) out
answered_short h e o = record { answer = (rw e at h).told o }

module _ {sort : Sort} {s t₀ : List ℕ} {maps : Maps} {at m : ℕ} {packed : Bool} {area₀ t area : List ℕ} {r : Sets} (a : Ready sort s t₀ maps at m) (w : WroteKept sort s t₀ maps at m packed area₀ t area r) where
  abbrev kept : List (ℕ × List ℕ)
  kept = kept_in sort s t₀ maps at m

  -- there is no room for the sets
  pub short_sets : (out : List ℕ) → length area < r.end → enough_area ≤ length area₀ → refused out 9 ≡ laid_words out (table_of packed sort kept)
  short_sets out l b = words_unfit out (table_of packed sort kept) (table_sets packed sort kept (w.full (omega (arith, w.same)) b))

  module _ (l : r.end ≤ length area) where
    done : Done sort s t₀ maps at m packed t area r.count r.end
    done = w.done (omega (arith, w.same))

    -- none is kept
    pub none_kept : r.count ≡ 0 → table_of packed sort kept ≡ None
    none_kept z = table_none packed sort kept (done.count ∙ z)

    module _ (z : r.count ≡ 0 → ⊥) {first : ℕ} (e : first ≡ header_size sort + 2 * m) where
      -- the table can be put together
      pub may_finish : length area₀ ≤ enough_area → Finishes sort t at r.count first r.end area
      unfolding limit
      may_finish b = record {
        some_set = omega arith;
        fits = omega (arith, done.few, a.fits, w.size);
        behind = omega (arith, done.few, e);
        near = omega (arith, a.few, a.short, e);
        start = omega (arith, done.placed.place, e);
        room = l;
        short = omega (arith, b, w.same);
      }

      module _ {after : List ℕ} {end : ℕ} (f : Finished sort t at r.count first r.end area after end) where
        table_is_some : table_of packed sort kept ≡ Some (layout_of packed sort (glyphs_of kept) (words_of kept))
        table_is_some = table_some packed sort kept (λ n. z (sym done.count ∙ n))

        -- there is no room for the coverage
        pub short_table : (out : List ℕ) → length after < end → enough_area ≤ length area₀ → refused out 9 ≡ laid_words out (table_of packed sort kept)
        short_table out k =
            let c : length (coverage_words (news t at r.count)) ≡ length (coverage_words (glyphs_of kept)) = ap (λ (g : List ℕ). length (coverage_words g)) done.glyphs in
            let n : length (left_words (table_of packed sort kept)) ≡ length (layout_of packed sort (glyphs_of kept) (words_of kept)) = ap (λ (o : Option (List ℕ)). length (left_words o)) table_is_some ∙ ap length (words_some (layout_of packed sort (glyphs_of kept) (words_of kept))) in
            words_over out (table_of packed sort kept) a.short (omega (arith, f.full (omega (arith, f.same)), w.same, done.placed.place, a.few, c, n, table_most packed (more_of sort) (coverage_words (glyphs_of kept)) (members (words_of kept))))

        -- what is handed over is the table
        pub table_laid : end ≤ length after → {head : ℕ} → head ≡ header_size sort + 2 * r.count → {fits : Bool} → fits ≡ ltb (r.end - (first - head)) 65536
            → (out₀ : List ℕ) {o : Outcome} → o ≡ laid_as fits out₀ (part after 0 head ++ part after first (end - first)) → o ≡ laid_words out₀ (table_of packed sort kept)
        table_laid k {head} u {fits} q out₀ h =
            let p = rw (← e) at done.placed in
            let v = f.table (words_of kept) (length-map kept (λ x. x.1) ∙ done.count) p (omega (arith, f.same)) in
            let many : length (members (words_of kept)) ≡ r.count = length-map (words_of kept) (λ b. Some b) ∙ length-map kept (λ x. x.1) ∙ done.count in
            let second : r.end - (first - head) ≡ get_or (layout_of packed sort (glyphs_of kept) (words_of kept)) 1 0 = omega (arith, cover_word packed (more_of sort) (coverage_words (glyphs_of kept)) (members (words_of kept)), many, done.placed.place, done.few, e, u) in
            let test : fits ≡ ltb (get_or (layout_of packed sort (glyphs_of kept) (words_of kept)) 1 0) 65536 = q ∙ ap (λ (n : ℕ). ltb n 65536) second in
            h ∙ ap (λ (i : ℕ). laid_as fits out₀ (part after 0 i ++ part after first (end - first))) u ∙ ap (laid_as fits out₀) (v ∙ ap (λ (g : List ℕ). flat (layout_of packed sort g (words_of kept))) done.glyphs)
            ∙ ap (λ (t : Bool). laid_as t out₀ (flat (layout_of packed sort (glyphs_of kept) (words_of kept)))) test ∙ sym (laid_some out₀ (layout_of packed sort (glyphs_of kept) (words_of kept))) ∙ ap (laid_words out₀) (sym table_is_some)
