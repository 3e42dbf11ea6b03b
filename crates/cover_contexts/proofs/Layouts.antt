-- The words of format 3 in either layout, as the definitions say them, and when they fit.
use Prim.Native.Nat.{ℕ, ◌+◌, ◌*◌, ◌<◌}
use mathlib.Core.Path.{◌≡◌, refl, sym, ap, ap₂, ◌∙◌}
use mathlib.Core.Bool.{Bool, true, false, cond, ◌&&◌}
use Rattle.std.specs.Prelude.{Option}
use mathlib.Core.List.{List, [], ◌∷◌, ◌++◌, map}
use native.Mathlib.Omega.{arith}
use lib.ListN.{length, get_or, drop, length-append, length-map}
use lib.Dec.{eqb}
use Rattle.meaning.specs.Tables.{Table, drop_null}
use Rattle.meaning.specs.Layout.{offsets, blocks, block, coverage_words, covers_layout, table_words, words_fit}
use Rattle.meaning.specs.Packed.{first_of_each, together, covers_header, header, packed, packed_words}
use Rattle.meaning.specs.Subset.{words_in}
use Rattle.laws.specs.Through.{offsets_append, blocks_append}
use Rattle.laws.specs.ReadsBack.{Good}
use Rattle.laws.specs.PackedReading.{shared_offset, shared_offsets, shared_blocks, all_covers, covers_at, packed_covers, packed_chained_covers}
use Rattle.laws.specs.FitsExactly.{covers_exactly, chained_covers_exactly}
use Rattle.laws.specs.FitsPacked.{rows_offsets, rows_blocks, packed_by_cover_exactly, packed_chained_cover_exactly}
use Rattle.known_blocks.specs.Shared.{offsets_in, blocks_in}
use Rattle.cover_parts.specs.Behind.{offsets_behind, blocks_behind, behind_length, offsets_after, offsets_split, split_fit, blocks_after, blocks_split}
use Rattle.cover_contexts.specs.Context.{covers_from, covers_words, offsets_fit}

-- with nothing before them
pub no_offsets : (packed : Bool) (p : ℕ) → offsets_in packed p [] ≡ []
unfolding offsets shared_offsets
no_offsets true p = refl
no_offsets false p = refl

pub no_blocks : (packed : Bool) → blocks_in packed [] ≡ []
unfolding blocks shared_blocks drop_null first_of_each together
no_blocks true = refl
no_blocks false = refl

module _ (packed : Bool) (bs : List (Option (List ℕ))) where
  first_offsets : (p : ℕ) → offsets_behind packed p [] bs ≡ offsets_in packed p bs
  first_offsets p = sym (offsets_after packed p [] bs ∙ ap (λ (l : List ℕ). l ++ offsets_behind packed p [] bs) (no_offsets packed p))

  first_blocks : blocks_behind packed [] bs ≡ blocks_in packed bs
  first_blocks = sym (blocks_after packed [] bs ∙ ap (λ (l : List ℕ). l ++ blocks_behind packed [] bs) (no_blocks packed))

-- two lists that are split at the same place
split_same : (xs ys us vs : List ℕ) → length xs ≡ length ys → xs ++ us ≡ ys ++ vs → (xs ≡ ys) × (us ≡ vs)
split_same [] [] us vs l e = (refl, e)
split_same [] (y ∷ ys) us vs l e = absurd (omega arith)
split_same (x ∷ xs) [] us vs l e = absurd (omega arith)
split_same (x ∷ xs) (y ∷ ys) us vs l e =
    let h = split_same xs ys us vs (omega arith) (ap (drop 1) e) in
    (ap₂ ◌∷◌ (ap (λ (r : List ℕ). get_or r 0 0) e) h.0, h.1)

-- the plain layout: each block behind all others
module _ (pre bs : List (Option (List ℕ))) where
  plain_offsets : (p : ℕ) → offsets_behind false p pre bs ≡ offsets (p + 2 * length (blocks pre)) bs
  plain_offsets p = (split_same (offsets p pre) (offsets p pre) (offsets_behind false p pre bs) (offsets (p + 2 * length (blocks pre)) bs) refl (sym (offsets_after false p pre bs) ∙ offsets_append p pre bs)).1

  plain_blocks : blocks_behind false pre bs ≡ blocks bs
  plain_blocks = (split_same (blocks pre) (blocks pre) (blocks_behind false pre bs) (blocks bs) refl (sym (blocks_after false pre bs) ∙ blocks_append pre bs)).1

-- three rows, one after the other
module _ (packed : Bool) (b i a : List (Option (List ℕ))) where
  three_offsets : (p : ℕ) → offsets_in packed p (b ++ (i ++ a)) ≡ offsets_behind packed p [] b ++ (offsets_behind packed p b i ++ offsets_behind packed p (b ++ i) a)
  three_offsets p = sym (first_offsets packed (b ++ (i ++ a)) p) ∙ offsets_split packed p [] b (i ++ a) ∙ ap (λ (l : List ℕ). offsets_behind packed p [] b ++ l) (offsets_split packed p b i a)

  three_blocks : blocks_in packed (b ++ (i ++ a)) ≡ blocks_behind packed [] b ++ (blocks_behind packed b i ++ blocks_behind packed (b ++ i) a)
  three_blocks = sym (first_blocks packed (b ++ (i ++ a))) ∙ blocks_split packed [] b (i ++ a) ∙ ap (λ (l : List ℕ). blocks_behind packed [] b ++ l) (blocks_split packed b i a)

  three_fit : (p : ℕ) → words_fit (offsets_in packed p (b ++ (i ++ a))) ≡ words_fit (offsets_behind packed p [] b) && (words_fit (offsets_behind packed p b i) && words_fit (offsets_behind packed p (b ++ i) a))
  three_fit p = ap words_fit (sym (first_offsets packed (b ++ (i ++ a)) p)) ∙ split_fit packed p [] b (i ++ a) ∙ ap (λ (t : Bool). words_fit (offsets_behind packed p [] b) && t) (split_fit packed p b i a)

module _ (b i a : List (Option (List ℕ))) (rs : List (ℕ × ℕ)) where
  -- the plain layout
  plain_words : (chained : Bool) → covers_layout chained b i a rs ≡ covers_words false chained b i a rs
  unfolding covers_layout covers_words covers_from
  plain_words false = rw (first_offsets false i (6 + 2 * length i + 4 * length rs), first_blocks false i)
  plain_words true =
      let p = 10 + 2 * length b + 2 * length i + 2 * length a + 4 * length rs in
      let e : p + 2 * length (blocks b) + 2 * length (blocks i) ≡ p + 2 * length (blocks (b ++ i)) = omega (arith, ap length (blocks_append b i), length-append (blocks b) (blocks i)) in
      rw (first_offsets false b p, plain_offsets b i p, plain_offsets (b ++ i) a p, first_blocks false b, plain_blocks b i, plain_blocks (b ++ i) a, e)

  -- the packed layout: the offsets and the blocks of the three arrays are those of one
  abbrev at : List (Option (List ℕ)) → List ℕ
  at bs = map (shared_offset (covers_at b i a rs) (all_covers b i a rs)) bs

  shared_rows : (at b ≡ offsets_behind true (covers_at b i a rs) [] b) × (at i ≡ offsets_behind true (covers_at b i a rs) b i) × (at a ≡ offsets_behind true (covers_at b i a rs) (b ++ i) a)
  shared_rows =
      let p = covers_at b i a rs in
      let f = shared_offset p (all_covers b i a rs) in
      let ob = offsets_behind true p [] b in
      let oi = offsets_behind true p b i in
      let oa = offsets_behind true p (b ++ i) a in
      let x = split_same (at b) ob (at i ++ at a) (oi ++ oa) (length-map b f ∙ sym (behind_length true p [] b)) (sym (rows_offsets b i a rs) ∙ three_offsets true b i a p) in
      let y = split_same (at i) oi (at a) oa (length-map i f ∙ sym (behind_length true p b i)) x.1 in
      (x.0, y.0, y.1)

  packed_words_lem : (chained : Bool) → packed (covers_header chained b i a rs) ≡ covers_words true chained b i a rs
  unfolding covers_words covers_from
  packed_words_lem false = packed_covers b i a rs ∙ rw (first_offsets true i (6 + 2 * length i + 4 * length rs), first_blocks true i)
  packed_words_lem true = packed_chained_covers b i a rs ∙ rw (shared_rows.0, shared_rows.1, shared_rows.2, ← three_blocks true b i a, ← rows_blocks b i a rs)

-- the words of a table by coverages
module _ (chained : Bool) (b i a : List (Option (List ℕ))) (rs : List (ℕ × ℕ)) where
  abbrev bb : List (Option (List ℕ))
  bb = map (block coverage_words) b

  abbrev ib : List (Option (List ℕ))
  ib = map (block coverage_words) i

  abbrev ab : List (Option (List ℕ))
  ab = map (block coverage_words) a

  shared_words : packed_words (Table.by_cover chained b i a rs) ≡ covers_words true chained bb ib ab rs
  unfolding packed_words header
  shared_words = packed_words_lem bb ib ab rs chained

  pub words_covers : (packing : ℕ) → words_in packing (Table.by_cover chained b i a rs) ≡ covers_words (eqb packing 1) chained bb ib ab rs
  unfolding words_in table_words
  words_covers packing = step (eqb packing 1)
    where
      step : (t : Bool) → cond t (packed_words (Table.by_cover chained b i a rs)) (covers_layout chained bb ib ab rs) ≡ covers_words t chained bb ib ab rs
      step true = shared_words
      step false = plain_words bb ib ab rs chained

-- where the counts fit: they fit exactly if the offsets do
module _ (b i a : List (Option (List ℕ))) (rs : List (ℕ × ℕ)) where
  plain_fit : (chained : Bool) → Good (Table.by_cover chained b i a rs) → length b < 65536 → length i < 65536 → length a < 65536 → length rs < 65536
      → words_fit (covers_layout chained (bb chained b i a rs) (ib chained b i a rs) (ab chained b i a rs) rs) ≡ offsets_fit false chained (bb chained b i a rs) (ib chained b i a rs) (ab chained b i a rs) rs
  unfolding offsets_fit covers_layout covers_from
  plain_fit false g lb li la lr =
      let bs = map (block coverage_words) i in
      covers_exactly i rs g.1 g.3 li lr ∙ ap words_fit (sym (first_offsets false bs (6 + 2 * length bs + 4 * length rs)))
  plain_fit true g lb li la lr =
      let x = map (block coverage_words) b in
      let y = map (block coverage_words) i in
      let z = map (block coverage_words) a in
      let p = 10 + 2 * length x + 2 * length y + 2 * length z + 4 * length rs in
      let e : p + 2 * length (blocks x) + 2 * length (blocks y) ≡ p + 2 * length (blocks (x ++ y)) = omega (arith, ap length (blocks_append x y), length-append (blocks x) (blocks y)) in
      chained_covers_exactly b i a rs g.0 g.1 g.2 g.3 lb li la lr ∙ rw (first_offsets false x p, plain_offsets x y p, plain_offsets (x ++ y) z p, e)

  packed_fit : (chained : Bool) → Good (Table.by_cover chained b i a rs) → length b < 65536 → length i < 65536 → length a < 65536 → length rs < 65536
      → words_fit (packed_words (Table.by_cover chained b i a rs)) ≡ offsets_fit true chained (bb chained b i a rs) (ib chained b i a rs) (ab chained b i a rs) rs
  unfolding offsets_fit covers_words covers_from
  packed_fit false g lb li la lr =
      let bs = map (block coverage_words) i in
      ap words_fit (shared_words false b i a rs ∙ sym (shared_words false [] i [] rs)) ∙ packed_by_cover_exactly i rs (tt, g.1, tt, g.3, λ e. (refl, refl)) li lr ∙ ap words_fit (sym (first_offsets true bs (6 + 2 * length bs + 4 * length rs)))
  packed_fit true g lb li la lr =
      let x = map (block coverage_words) b in
      let y = map (block coverage_words) i in
      let z = map (block coverage_words) a in
      packed_chained_cover_exactly b i a rs g lb li la lr ∙ three_fit true x y z (covers_at x y z rs)

  pub covers_fit : (packing : ℕ) (chained : Bool) → Good (Table.by_cover chained b i a rs) → length b < 65536 → length i < 65536 → length a < 65536 → length rs < 65536
      → words_fit (words_in packing (Table.by_cover chained b i a rs)) ≡ offsets_fit (eqb packing 1) chained (bb chained b i a rs) (ib chained b i a rs) (ab chained b i a rs) rs
  unfolding words_in table_words
  covers_fit packing chained g lb li la lr = step (eqb packing 1)
    where
      step : (t : Bool) → words_fit (cond t (packed_words (Table.by_cover chained b i a rs)) (covers_layout chained (bb chained b i a rs) (ib chained b i a rs) (ab chained b i a rs) rs)) ≡ offsets_fit t chained (bb chained b i a rs) (ib chained b i a rs) (ab chained b i a rs) rs
      step true = packed_fit chained g lb li la lr
      step false = plain_fit chained g lb li la lr
