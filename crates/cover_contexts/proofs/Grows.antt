-- A table that grows at two places of the area: its header from the start on, and what follows the header from a place on that leaves room for it.
use Prim.Native.Nat.{ℕ, suc, ◌+◌, ◌*◌, ◌≤◌, ◌<◌}
use mathlib.Core.Path.{◌≡◌, refl, sym, ap, ◌∙◌, subst}
use mathlib.Core.Bool.{Bool, true, ◌&&◌}
use Rattle.std.specs.Prelude.{Option, None, Some}
use mathlib.Core.List.{List, [], ◌∷◌, ◌++◌, append_assoc}
use native.Mathlib.Decide.{dec_lt}
use native.Mathlib.Omega.{arith}
use lib.ListN.{length, length-append}
use lib.Seq.{sets, length-sets}
use Rattle.meaning.specs.Words.{bytes2, flat, bind, map_all}
use Rattle.meaning.specs.Parts.{coverage}
use Rattle.meaning.specs.Tables.{reaches}
use Rattle.meaning.specs.Layout.{words_fit}
use Rattle.laws.specs.Runs.{both}
use Rattle.laws.specs.Stands.{flat_length}
use Rattle.laws.specs.SoundGood.{reaches_length}
use Rattle.laws.specs.Written.{Wrote, sets_flat, flat_one}
use Rattle.room.specs.Laid.{enough_area}
use Rattle.area.specs.Extends.{Extends, extends_more, wrote_extends}
use Rattle.area.specs.Stored.{extends_store}
use Rattle.cover_parts.specs.Behind.{offsets_behind, blocks_behind, behind_length}
use Rattle.cover_parts.specs.Rows.{block_left, blocks_left, row_left, Lays}
use Rattle.cover_parts.specs.declared.Row.{Row}
use Rattle.cover_parts.proofs.Lays.{some_none, some_same, and_true}

-- The words `head` stand from the start on, and the words `parts` from `first` on, and the offsets fit, as `fit` says; r is the place after them, or past the area: then it has not enough bytes, or not all offsets fit.
pub record Grows (before : List ℕ) (first : ℕ) (head parts : List ℕ) (fit : Bool) (after : List ℕ) (r : ℕ) : Type 0 where
  pub same : length after ≡ length before
  pub fits : r ≤ length before → Extends (sets before 0 (flat head)) first parts after r
  pub near : r ≤ length before → fit ≡ true
  pub full : length before < r → fit ≡ true → length before < enough_area

-- the same, where the header and what follows it are one row of words from the start on
abbrev pub Ends : List ℕ → List ℕ → Bool → List ℕ → ℕ → Type 0
Ends before ws fit after r = (r ≤ length before → Extends before 0 ws after r) × (r ≤ length before → fit ≡ true) × (length before < r → fit ≡ true → length before < enough_area)

module _ {before : List ℕ} {first : ℕ} where
  -- no header yet
  pub grows_start : {parts after : List ℕ} {r : ℕ} → Extends before first parts after r → Grows before first [] parts true after r
  unfolding flat
  grows_start h = record { same = h.same; fits = λ g. h; near = λ g. refl; full = λ g f. absurd (omega (arith, h.room)) }

  module _ {head parts mid : List ℕ} {fit : Bool} {q : ℕ} (k : Grows before first head parts fit mid q) where
    -- words more in the header
    pub grows_words : (ws : List ℕ) {at : ℕ} {next : List ℕ} → at ≡ 2 * length head → at + 2 * length ws ≤ first → next ≡ sets mid at (flat ws) → Grows before first (head ++ ws) parts fit next q
    grows_words ws {at} {next} e l f = record {
      same = ap length f ∙ length-sets mid at (flat ws) ∙ k.same;
      fits = λ g. step (extends_store at (flat ws) (k.fits g) (omega (arith, flat_length ws)));
      near = k.near;
      full = k.full;
    }
      where
        step : Extends (sets (sets before 0 (flat head)) at (flat ws)) first parts (sets mid at (flat ws)) q → Extends (sets before 0 (flat (head ++ ws))) first parts next q
        step x =
            let n : at ≡ 0 + 2 * length head = omega arith in
            let y = subst (λ (b : List ℕ). Extends (sets (sets before 0 (flat head)) at (flat ws)) first parts b q) (sym f) x in
            subst (λ (a : List ℕ). Extends a first parts next q) (ap (λ (i : ℕ). sets (sets before 0 (flat head)) i (flat ws)) n ∙ sets_flat before 0 head ws) y

    -- offsets in the header, with what their blocks add behind it
    pub grows_row : {packed : Bool} {left : ℕ → Option (List ℕ)} {place : ℕ} {pre : List (Option (List ℕ))} {book : List ℕ} (bs : List (Option (List ℕ))) {slot : ℕ} {after : List ℕ} {r : ℕ} → slot ≡ 2 * length head → slot + 2 * length bs ≤ first → length after ≡ length mid
        → Lays packed left place pre mid slot q bs after r book
        → Grows before first (head ++ offsets_behind packed place pre bs) (parts ++ blocks_behind packed pre bs) (fit && words_fit (offsets_behind packed place pre bs)) after r
    grows_row {packed} {left} {place} {pre} bs {slot} {after} {r} e l s h = record {
      same = s ∙ k.same;
      fits = λ g. joined (h.fits (omega (arith, k.same))) (k.fits (lies g));
      near = λ g. and_true fit (words_fit os) (k.near (lies g)) (h.near (omega (arith, k.same)));
      full = λ g f. over g (both fit (words_fit os) f) (dec_lt (length before) q);
    }
      where
        os : List ℕ
        os = offsets_behind packed place pre bs

        lies : r ≤ length before → q ≤ length before
        lies g =
            let y = h.fits (omega (arith, k.same)) in
            omega (arith, y.place, y.room, length-sets mid slot (flat os), k.same)

        joined : Extends (sets mid slot (flat os)) q (blocks_behind packed pre bs) after r → Extends (sets before 0 (flat head)) first parts mid q → Extends (sets before 0 (flat (head ++ os))) first (parts ++ blocks_behind packed pre bs) after r
        joined y x =
            let z = extends_more (extends_store slot (flat os) x (omega (arith, flat_length os, behind_length packed place pre bs))) y in
            let n : slot ≡ 0 + 2 * length head = omega arith in
            subst (λ (a : List ℕ). Extends a first (parts ++ blocks_behind packed pre bs) after r) (ap (λ (i : ℕ). sets (sets before 0 (flat head)) i (flat os)) n ∙ sets_flat before 0 head os) z

        over : length before < r → (fit ≡ true) × (words_fit os ≡ true) → Dec (length before < q) → length before < enough_area
        over g f (yes d) = k.full d f.0
        over g f (no d) = omega (arith, h.full (omega (arith, k.same)) (omega (arith, k.same)) f.1, k.same)

    -- where what follows begins right after the header, it is one row of words
    pub grows_end : first ≡ 2 * length head → Ends before (head ++ parts) fit mid q
    grows_end e = (λ g. join (k.fits g), λ g. k.near g, λ g f. k.full g f)
      where
        join : Extends (sets before 0 (flat head)) first parts mid q → Extends before 0 (head ++ parts) mid q
        join x =
            let w : Wrote before 0 head (sets before 0 (flat head)) first = record { place = omega arith; bytes = refl } in
            extends_more (wrote_extends w (omega (arith, x.place, x.room, length-sets before 0 (flat head)))) x

module _ {before : List ℕ} {first : ℕ} {head parts mid : List ℕ} {fit : Bool} {q : ℕ} (k : Grows before first head parts fit mid q) where
  -- a row with its count before its offsets
  pub grows_counted : {packed : Bool} {left : ℕ → Option (List ℕ)} {place : ℕ} {pre : List (Option (List ℕ))} {book : List ℕ} (bs : List (Option (List ℕ))) {n slot at : ℕ} {after : List ℕ} {r : ℕ} → slot ≡ 2 * length head → at ≡ slot + 2 → at + 2 * n ≤ first → length bs ≡ n
      → length after ≡ length (sets mid slot (bytes2 n)) → Lays packed left place pre (sets mid slot (bytes2 n)) at q bs after r book
      → Grows before first (head ++ (n ∷ offsets_behind packed place pre bs)) (parts ++ blocks_behind packed pre bs) (fit && words_fit (offsets_behind packed place pre bs)) after r
  grows_counted {packed} {left} {place} {pre} bs {n} {slot} {at} {after} {r} b e l c s h =
      let os = offsets_behind packed place pre bs in
      let a = grows_words k (n ∷ []) b (omega arith) (ap (sets mid slot) (sym (flat_one n))) in
      subst (λ (w : List ℕ). Grows before first w (parts ++ blocks_behind packed pre bs) (fit && words_fit os) after r) (append_assoc head (n ∷ []) os) (grows_row a bs (omega (arith, length-append head (n ∷ []))) (omega arith) s h)

-- how long a header is with a row more
pub head_length : (head : List ℕ) (n : ℕ) (packed : Bool) (place : ℕ) (pre bs : List (Option (List ℕ))) → length (head ++ (n ∷ offsets_behind packed place pre bs)) ≡ length head + 1 + length bs
head_length head n packed place pre bs = omega (arith, length-append head (n ∷ offsets_behind packed place pre bs), behind_length packed place pre bs)

-- the blocks that are left of a row are as many as its offsets
covers_length : (g : List (ℕ × ℕ)) (cs : List (Option (List ℕ))) (bs : List (Option (List ℕ))) → blocks_left g cs ≡ Some bs → length bs ≡ length cs
unfolding blocks_left map_all bind
covers_length g [] bs e = ap length (sym (some_same e))
covers_length g (c ∷ cs) bs e = step (block_left g c) (blocks_left g cs) (covers_length g cs) e
  where
    step : (o : Option (Option (List ℕ))) (p : Option (List (Option (List ℕ)))) → ((bs : List (Option (List ℕ))) → p ≡ Some bs → length bs ≡ length cs) → bind o (λ b. bind p (λ bs. Some (b ∷ bs))) ≡ Some bs → length bs ≡ suc (length cs)
    step None p r q = absurd (some_none (sym q))
    step (Some b) None r q = absurd (some_none (sym q))
    step (Some b) (Some ds) r q = ap length (sym (some_same q)) ∙ ap suc (r ds refl)

pub row_length : (g : List (ℕ × ℕ)) (s : List ℕ) (row : Row) (bs : List (Option (List ℕ))) → row_left g s row ≡ Some bs → length bs ≡ row.len
row_length g s row bs e = covers_length g (reaches (coverage s) s 0 row.at row.len) bs e ∙ reaches_length (coverage s) s 0 row.at row.len
