-- Calls: what a kept call leaves is a good source of its kind, and fits any buffer that has room for it.
use Rattle.std.specs.Prelude.{ℕ, ◌/◌, ◌%◌, ◌≤◌, ◌<◌, ◌≡◌, Bool, cond, ◌&&◌, ◌||◌, ltb, eqb, Option, None, Some}
use Rattle.std.proofs.Math.Path.{refl, ap, subst}
use Rattle.std.proofs.Common.{sym, ◌∙◌, arith, take_at}
use Rattle.std.proofs.Math.Bool.{true, false, not}
use mathlib.Core.List.{List, [], ◌∷◌, ◌++◌}
use Rattle.std.proofs.Math.ListN.{length, drop}
use borrow.Author.Tests.{le-ltb, eqb-true, not-false}
use Rattle.meaning.specs.Words.{word, inside, flat, is_some, bind}
use Rattle.meaning.specs.Parts.{coverage, classes}
use Rattle.meaning.specs.Tables.{Table, Pair, table, pair_table, reach, reaches, pair_set, cell_rows, field_count}
use Rattle.meaning.specs.Fault.{fault}
use Rattle.meaning.specs.Cut.{cut, cut_pairs, kept_sets, kept_pairs, new_format, new_second, class_map, covered_map, second_map, kept_rows, kept_class_pairs}
use Rattle.meaning.specs.Subset.{Outcome, left, refused, limit, has_format, has_device, too_big, laid_into, words_in, written_in}
use Rattle.laws.specs.Through.{Opt}
use Rattle.laws.specs.ReadsBack.{table_pairs}
use Rattle.laws.specs.CutGood.{GoodOf, format_small, second_small}
use Rattle.laws.specs.CallBack.{no_fault, left_good, first_format}
use Rattle.promises.specs.Refusals.{Call, answer, glyph_map, lookup_map, words?, laid_words, laid, refusals, kept_exactly, kept_length, kept_bytes}
use Rattle.promises.specs.Tested.{GoodSource, tests, kept_tested}
use Rattle.promises.specs.Promises.{BytesOf, small_says, reads_back, small_within}

-- No value format of what is cut of pairs has a bit of 0x00F0.
NoDevice : Table → Type 0
NoDevice (Table.by_glyph chained cover sets) = Unit {0}
NoDevice (Table.by_class chained cover b i a sets) = Unit {0}
NoDevice (Table.by_cover chained b i a rs) = Unit {0}
NoDevice (Table.ligatures cover sets) = Unit {0}
NoDevice (Table.pairs_of cover f1 f2 sets) = has_device f1 || has_device f2 ≡ false
NoDevice (Table.class_pairs cover first second f1 f2 n rows) = has_device f1 || has_device f2 ≡ false
NoDevice (Table.single_delta cover d) = Unit {0}
NoDevice (Table.single_list cover subs) = Unit {0}

small_no_device : (f : ℕ) → f < 16 → has_device f ≡ false
unfolding has_device
small_no_device f h =
    let z : f / 16 % 16 ≡ 0 = omega arith in
    rw z

new_no_device : (f1 f2 : ℕ) (ks : List (ℕ × List Pair)) → has_device (new_format (λ p. p.first_values) f1 ks) || has_device (new_second f2 ks) ≡ false
new_no_device f1 f2 ks = rw (small_no_device (new_format (λ p. p.first_values) f1 ks) (format_small (λ p. p.first_values) f1 ks), small_no_device (new_second f2 ks) (second_small f2 ks))

module _ (g l : List (ℕ × ℕ)) where
  pairs_no_device : (cover : Option (List ℕ)) (f1 f2 : ℕ) (sets : List (Option (List Pair))) → Opt NoDevice (cut g l (Table.pairs_of cover f1 f2 sets))
  unfolding cut bind kept_pairs NoDevice
  pairs_no_device None f1 f2 sets = tt
  pairs_no_device (Some cov) f1 f2 sets = go (kept_sets (cut_pairs g) g cov sets)
    where
      go : (ks : List (ℕ × List Pair)) → Opt NoDevice (kept_pairs f1 f2 ks)
      go [] = tt
      go (k ∷ ks) = new_no_device f1 f2 (k ∷ ks)

  class_pairs_no_device : (cover : Option (List ℕ)) (first second : Option (List (ℕ × ℕ))) (f1 f2 n : ℕ) (rows : List (List Pair)) → Opt NoDevice (cut g l (Table.class_pairs cover first second f1 f2 n rows))
  unfolding cut bind kept_class_pairs NoDevice
  class_pairs_no_device None first second f1 f2 n rows = tt
  class_pairs_no_device (Some cov) None second f1 f2 n rows = tt
  class_pairs_no_device (Some cov) (Some cs) None f1 f2 n rows = tt
  class_pairs_no_device (Some cov) (Some cs) (Some ds) f1 f2 n rows = go (covered_map g cov)
    where
      go : (h : List (ℕ × ℕ)) → Opt NoDevice (kept_class_pairs g h cs ds f1 f2 rows)
      go [] = tt
      go (e ∷ h) = new_no_device f1 f2 (kept_rows (class_map (e ∷ h) cs) (second_map g ds) 0 rows)

  cut_no_device : (s : List ℕ) → Opt NoDevice (cut g l (pair_table s))
  unfolding pair_table
  cut_no_device s = go (eqb (word s 0) 1)
    where
      go : (b : Bool) → Opt NoDevice (cut g l (cond b (Table.pairs_of (reach (coverage s) s 0 2) (word s 4) (word s 6) (reaches (pair_set (field_count (word s 4)) (field_count (word s 6)) s) s 0 10 (word s 8)))
          (Table.class_pairs (reach (coverage s) s 0 2) (reach (classes s) s 0 8) (reach (classes s) s 0 10) (word s 4) (word s 6) (word s 14) (cell_rows s (field_count (word s 4)) (field_count (word s 6)) (word s 14) 16 (word s 12)))))
      go true = pairs_no_device (reach (coverage s) s 0 2) (word s 4) (word s 6) (reaches (pair_set (field_count (word s 4)) (field_count (word s 6)) s) s 0 10 (word s 8))
      go false = class_pairs_no_device (reach (coverage s) s 0 2) (reach (classes s) s 0 8) (reach (classes s) s 0 10) (word s 4) (word s 6) (word s 14) (cell_rows s (field_count (word s 4)) (field_count (word s 6)) (word s 14) 16 (word s 12))

-- so says a source that says what was cut
says_no_device : (s : List ℕ) → NoDevice (pair_table s) → has_device (word s 4) || has_device (word s 6) ≡ false
unfolding pair_table NoDevice
says_no_device s h = go (eqb (word s 0) 1) h
  where
    go : (b : Bool) → NoDevice (cond b (Table.pairs_of (reach (coverage s) s 0 2) (word s 4) (word s 6) (reaches (pair_set (field_count (word s 4)) (field_count (word s 6)) s) s 0 10 (word s 8)))
        (Table.class_pairs (reach (coverage s) s 0 2) (reach (classes s) s 0 8) (reach (classes s) s 0 10) (word s 4) (word s 6) (word s 14) (cell_rows s (field_count (word s 4)) (field_count (word s 6)) (word s 14) 16 (word s 12))))
        → has_device (word s 4) || has_device (word s 6) ≡ false
    go true h = h
    go false h = h

left_no_device : (g l : List (ℕ × ℕ)) (kind : ℕ) (s u : List ℕ) → cut g l (table kind s) ≡ Some (table kind u) → eqb kind 4 && (has_device (word u 4) || has_device (word u 6)) ≡ false
left_no_device g l kind s u is = go (eqb kind 4) refl
  where
    go : (b : Bool) → eqb kind 4 ≡ b → b && (has_device (word u 4) || has_device (word u 6)) ≡ false
    go false e = refl
    go true e =
        let four = eqb-true kind 4 e in
        let is' : cut g l (pair_table s) ≡ Some (pair_table u) = rw (four, table_pairs s, table_pairs u) at is in
        says_no_device u (subst (Opt NoDevice) is' (cut_no_device g l s))

-- what is written of a table that is not too big, into a buffer that has room for it
written_fits : (packing : ℕ) (t : Table) (buffer : List ℕ) → too_big (words_in packing t) ≡ false → length (flat (words_in packing t)) ≤ length buffer
    → written_in packing buffer (Some t) ≡ record { number = 0; len = length (flat (words_in packing t)); out = flat (words_in packing t) ++ drop (length (flat (words_in packing t))) buffer }
unfolding written_in laid_into
written_fits packing t buffer big room = rw (big, le-ltb (length buffer) (length (flat (words_in packing t))) room)

-- what is refused for what it is, as empty or too big, is refused so into any buffer
pub refused_anywhere : (packing : ℕ) (out out' : List ℕ) (o : Option Table) (n : ℕ) → 0 < n → n < 10 → (written_in packing out o).number ≡ n → (written_in packing out' o).number ≡ n
unfolding written_in laid_into
refused_anywhere packing out out' None n low high h = h
refused_anywhere packing out out' (Some t) n low high h = go (too_big (words_in packing t)) (ltb (length out) (length bs)) (ltb (length out') (length bs)) h
  where
    bs : List ℕ
    bs = flat (words_in packing t)

    -- what is written, by whether it is too big and whether there is no room for it
    at : List ℕ → Bool → Bool → Outcome
    at out big short = cond big (refused out 9) (cond short (record { number = 10; len = length bs; out = out }) (record { number = 0; len = length bs; out = bs ++ drop (length bs) out }))

    go : (big short short' : Bool) → (at out big short).number ≡ n → (at out' big short').number ≡ n
    go true short short' h = h
    go false true short' h = absurd (omega arith)
    go false false short' h = absurd (omega arith)

-- the bytes that a kept call leaves are the layout that it asks for
pub left_laid : (c : Call) → (answer c).number ≡ 0 → left (answer c) ≡ laid c
left_laid c kept = rw (kept_bytes c kept) (take_at (laid c) (drop (answer c).len c.buffer) (answer c).len (sym (kept_length c kept).0))

module _ (c : Call) (bytes : BytesOf c) (kept : (answer c).number ≡ 0) where
  -- the words of its layout are those of the table that its bytes say
  words_left_lem : laid_words c ≡ words_in c.packing (small_says c)
  unfolding words?
  words_left_lem = ap (words? c.packing) (reads_back c bytes kept).0

  bytes_left : left (answer c) ≡ flat (words_in c.packing (small_says c))
  bytes_left = left_laid c kept ∙ ap flat words_left_lem

  pub left_kind : GoodOf c.kind (small_says c)
  left_kind =
      let p = tests c (kept_tested c kept) in
      subst (Opt (GoodOf c.kind)) (reads_back c bytes kept).0
      (left_good c.kind c.form c.source c.glyphs c.lookups bytes.source bytes.glyphs bytes.lookups (not-false _ p.0.kind_good) p.1.glyphs (no_fault (fault c.kind c.source) p.0.sound))

  -- they are a good source of the same kind
  pub left_source : GoodSource c.kind (left (answer c))
  unfolding is_some
  left_source =
      let u = left (answer c) in
      record {
        kind_good = (tests c (kept_tested c kept)).0.kind_good;
        not_long = le-ltb limit (length u) (omega (arith, (kept_length c kept).0, (kept_length c kept).1, ap length (left_laid c kept)));
        has_format_lem = no_other (inside u 0 2) (has_format c.kind (word u 0))
            (subst (λ (s : List ℕ). has_format c.kind (word s 0) ≡ true) (sym bytes_left) (subst (λ (k : ℕ). has_format k (word (flat (words_in c.packing (small_says c))) 0) ≡ true) left_kind.1 (first_format c.packing (small_says c))));
        sound = ap is_some (reads_back c bytes kept).1;
        no_device = left_no_device (glyph_map c) (lookup_map c) c.kind c.source u (reads_back c bytes kept).0;
        within = ap not (small_within c bytes kept);
      }
    where
      no_other : (a b : Bool) → b ≡ true → a && not b ≡ false
      no_other true b e = rw e
      no_other false b e = refl

  -- what it leaves, written into any buffer that has room for it
  pub left_fits : (buffer : List ℕ) → length (left (answer c)) ≤ length buffer
      → written_in c.packing buffer (Some (small_says c)) ≡ record { number = 0; len = length (left (answer c)); out = left (answer c) ++ drop (length (left (answer c))) buffer }
  unfolding refusals
  left_fits buffer room =
      let (n1, (n13, (n14, (n2, (n3, (n4, (n5, (n6, (n7, (n12, (n8, (n9, late)))))))))))) = (kept_exactly c).0 kept in
      subst (λ (s : List ℕ). written_in c.packing buffer (Some (small_says c)) ≡ record { number = 0; len = length s; out = s ++ drop (length s) buffer }) (sym bytes_left)
      (written_fits c.packing (small_says c) buffer (subst (λ (ws : List ℕ). too_big ws ≡ false) words_left_lem n9) (subst (λ (s : List ℕ). length s ≤ length buffer) bytes_left room))
