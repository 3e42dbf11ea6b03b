-- The pairs that stay as a table: what is written, and what is handed over.
use Prim.Native.Nat.{ℕ, suc, ◌+◌, ◌-◌, ◌*◌, ◌/◌, ◌%◌, ◌≤◌, ◌<◌}
use mathlib.Core.Path.{◌≡◌, refl, sym, ap, ◌∙◌, subst}
use mathlib.Core.Bool.{Bool, true, false, cond, true≢false}
use Rattle.std.specs.Prelude.{Some, Result, Err}
use mathlib.Core.List.{List, [], ◌∷◌, ◌++◌, map, append-nil}
use native.Mathlib.Omega.{arith}
use lib.ListN.{length, get_or, length-append, length-map}
use lib.Seq.{sets, length-sets}
use lib.Dec.{leb, ltb}
use borrow.Author.Tests.{leb-false, lt-ltb, le-ltb, ltb-true, ltb-false}
use Rattle.meaning.specs.Words.{bytes2, flat, threes, keys, values}
use Rattle.meaning.specs.Tables.{Table}
use Rattle.meaning.specs.Cut.{delta_of, agree, kept_singles}
use Rattle.meaning.specs.Layout.{offsets, blocks, block, runs, indexed, coverage_words, cover_layout, table_words, words_fit}
use Rattle.meaning.specs.Subset.{Outcome, refused, limit, written}
use Rattle.laws.specs.Stands.{All, Word, threes_length}
use Rattle.laws.specs.Runs.{indexed_length}
use Rattle.laws.specs.Written.{Wrote, wrote_more}
use Rattle.laws.specs.ToWrite.{ToWrite, write_all, write_said, write_one, write_end}
use Rattle.laws.specs.Through.{Opt}
use Rattle.laws.specs.CutGood.{GoodOf}
use Rattle.laws.specs.FitsExactly.{fits_exactly, single_delta_fits, single_list_exactly}
use Rattle.area.specs.Extends.{Tried, extends_more, wrote_extends}
use Rattle.area.specs.Part.{part, part_length, part_all, part_left, part_none, take_part, news}
use Rattle.room.specs.Laid.{outcome_of, laid_as, laid_words_lem, laid_unfit}
use Rattle.room.specs.declared.NotLaid.{NotLaid}
use Rattle.tried.specs.Tries.{became, Tries, tries_became, tries_less}
use Rattle.tried.specs.declared.NotCut.{NotCut}
use Rattle.tried.specs.declared.NotCut.TheVariants.{Short}
use Rattle.single_pairs.specs.Pairs.{pair_of, pairs, subs}
use Rattle.single_tables.specs.Writing.{delta_layout, list_layout, Standing, Stands, Hands, Writes}

-- Substitutes, written one after the other.

module _ (t : List ℕ) (at n : ℕ) where
  -- those from the i-th on
  abbrev pub subs_from : ℕ → List ℕ
  subs_from i = subs t (at + i) (n - i)

  pub subs_length : length (subs t at n) ≡ n
  subs_length = length-map (part t at n) (λ c. c / 65536) ∙ part_length t at n

  pub news_length : length (news t at n) ≡ n
  news_length = length-map (part t at n) (λ c. c % 65536) ∙ part_length t at n

-- What the loop keeps: the substitutes that are left, written from p on, end the row.
pub record Listing (t : List ℕ) (at n : ℕ) (out₀ : List ℕ) (to : ℕ) (out : List ℕ) (p i : ℕ) : Type 0 where
  pub within : i ≤ n
  pub near : p ≡ to + 2 * i
  pub same : length out ≡ length out₀
  pub left : ToWrite out₀ to (subs t at n) out p (subs_from t at n i)

module _ {t : List ℕ} {at n : ℕ} {out₀ : List ℕ} {to : ℕ} where
  pub listing_all : Listing t at n out₀ to out₀ to 0
  listing_all = record { within = omega arith; near = omega arith; same = refl; left = write_said write_all (sym (ap (map (λ c. c / 65536)) (part_all t at n))) }

  pub listing_turn : {out next : List ℕ} {p q i x : ℕ} → Listing t at n out₀ to out p i → i < n
      → x ≡ get_or t (at + i) 0 / 65536 → (q ≡ p + 2) × (next ≡ sets out p (bytes2 x)) → Listing t at n out₀ to next q (i + 1)
  listing_turn {out} {p = p} {i = i} {x} k h e f = record {
    within = omega arith;
    near = omega (arith, k.near);
    same = ap length f.1 ∙ length-sets out p (bytes2 x) ∙ k.same;
    left = write_one (write_said k.left (rw e (ap (map (λ c. c / 65536)) (part_left t at n i h)))) f;
  }

  pub listing_end : {out : List ℕ} {p i : ℕ} → Listing t at n out₀ to out p i → n ≤ i → Wrote out₀ to (subs t at n) out p
  listing_end {i = i} k h = write_end (write_said k.left (ap (map (λ c. c / 65536)) (part_none t at n i h)))

-- A coverage behind words.

-- it has at most two words more than glyphs
pub cover_few : (gs : List ℕ) → length (coverage_words gs) ≤ 2 + length gs
unfolding coverage_words
cover_few gs = step (runs (map (λ g. (g, 0)) gs)) (leb (4 + 2 * length gs) (4 + 6 * length (runs (map (λ g. (g, 0)) gs)))) refl
  where
    step : (rs : List (ℕ × ℕ × ℕ)) (t : Bool) → leb (4 + 2 * length gs) (4 + 6 * length rs) ≡ t → length (cond t (1 ∷ length gs ∷ gs) (2 ∷ length rs ∷ threes (indexed 0 rs))) ≤ 2 + length gs
    step rs true e = omega arith
    step rs false e = omega (arith, leb-false (4 + 2 * length gs) (4 + 6 * length rs) e, threes_length (indexed 0 rs), indexed_length 0 rs)

tried_more : {a vs b : List ℕ} {p : ℕ} {ws c : List ℕ} {r : ℕ} → Wrote a 0 vs b p → p ≤ length a → Tried b p ws c r → Tried a 0 (vs ++ ws) c r
tried_more {a} {vs} {b} {p} {ws} {c} {r} w h t =
    let x = wrote_extends w h in
    record {
      same = t.same ∙ x.same;
      fits = λ l. extends_more x (t.fits (omega (arith, x.same)));
      full = λ l. omega (arith, t.full (omega (arith, x.same)), x.same, x.place, length-append vs ws);
    }

module _ (t : List ℕ) (at n : ℕ) {a b c : List ℕ} {r : ℕ} where
  pub delta_stands : {d p : ℕ} → 6 ≤ length a → d ≡ delta_of (pair_of (get_or t at 0)) → (p ≡ 0 + 6) × (b ≡ sets a 0 (flat (1 ∷ 6 ∷ d ∷ []))) → Tried b p (coverage_words (news t at n)) c r → Stands a (delta_layout t at n) c r
  delta_stands {d} h e w k = rw e at (tried_more (record { place = w.0; bytes = w.1 }) (omega (arith, w.0)) k)

  pub list_stands : {b' : List ℕ} {p q : ℕ} → 6 + 2 * n ≤ length a → (p ≡ 0 + 6) × (b ≡ sets a 0 (flat (2 ∷ (6 + 2 * n) ∷ n ∷ []))) → Wrote b p (subs t at n) b' q → Tried b' q (coverage_words (news t at n)) c r
      → Stands a (list_layout t at n) c r
  list_stands {b'} {p} {q} h w l k =
      let x : Wrote a 0 (2 ∷ (6 + 2 * n) ∷ n ∷ []) b p = record { place = w.0; bytes = w.1 } in
      let y : Wrote a 0 ((2 ∷ (6 + 2 * n) ∷ n ∷ []) ++ subs t at n) b' q = wrote_more (subs t at n) x l.place l.bytes in
      tried_more y (omega (arith, l.place, w.0, subs_length t at n)) k

-- What is handed over.
module _ {area : List ℕ} {end : ℕ} {out : List ℕ} where
  pub hands_short : length area < end → Hands area end (Err Short) out out
  hands_short h = record { handed = λ {before = before} {ws = ws} k. (omega (arith, k.full (omega (arith, k.same))), refl) }

  pub hands_over : (laid : Result ℕ NotLaid) {after : List ℕ} → end ≤ length area → outcome_of laid after ≡ laid_as true out (part area 0 0 ++ part area 0 (end - 0)) → Hands area end (became laid) out after
  unfolding part
  hands_over laid {after} l e = record { handed = λ {before = before} {ws = ws} k. tries_became ⊥ (length before < 2 * length ws) laid out after (laid_as true out (flat ws)) (e ∙ ap (laid_as true out) (stands k)) }
    where
      stands : {before ws : List ℕ} → Stands before ws area end → part area 0 (end - 0) ≡ flat ws
      stands {before} {ws} k =
          let x = k.fits (omega (arith, k.same)) in
          let f : 0 + end ≡ end = omega arith in
          let g : end - 0 ≡ end = omega arith in
          rw g (sym (rw f at (take_part area 0 end (omega arith))) ∙ x.front)

-- Both formats are far shorter than the limit.
module _ {t : List ℕ} {at n : ℕ} (k : Standing t at n) {area next : List ℕ} {end : ℕ} {r : Result ℕ NotCut} {out after : List ℕ} where
  pub delta_tries : Stands area (delta_layout t at n) next end → Hands next end r out after → Tries (⊥) (length area < limit) r out after (laid_as true out (flat (delta_layout t at n)))
  unfolding limit
  delta_tries w h =
      tries_less ⊥ (length area < 2 * length (delta_layout t at n)) ⊥ (length area < 262144) r out after (laid_as true out (flat (delta_layout t at n))) (λ f. f)
      (λ f. omega (arith, f, cover_few (news t at n), news_length t at n, k.few)) (h.handed w)

  -- a coverage's offset that fits
  pub list_tries : 6 + 2 * n ≤ 65535 → Stands area (list_layout t at n) next end → Hands next end r out after → Tries (⊥) (length area < limit) r out after (laid_as (ltb (6 + 2 * n) 65536) out (flat (list_layout t at n)))
  unfolding limit
  list_tries b w h =
      let e : laid_as true out (flat (list_layout t at n)) ≡ laid_as (ltb (6 + 2 * n) 65536) out (flat (list_layout t at n)) = ap (λ (b : Bool). laid_as b out (flat (list_layout t at n))) (sym (lt-ltb (6 + 2 * n) 65536 (omega arith))) in
      tries_less ⊥ (length area < 2 * length (list_layout t at n)) ⊥ (length area < 262144) r out after (laid_as (ltb (6 + 2 * n) 65536) out (flat (list_layout t at n))) (λ f. f)
      (λ f. omega (arith, f, length-append (subs t at n) (coverage_words (news t at n)), cover_few (news t at n), news_length t at n, subs_length t at n))
      (subst (λ (x : Outcome). Tries (⊥) (length area < 2 * length (list_layout t at n)) r out after x) e (h.handed w))

-- one that doesn't
pub list_unfit : (n : ℕ) (out ws : List ℕ) → 65535 < 6 + 2 * n → refused out 9 ≡ laid_as (ltb (6 + 2 * n) 65536) out (flat ws)
list_unfit n out ws h = sym (ap (λ (b : Bool). laid_as b out (flat ws)) (le-ltb (6 + 2 * n) 65536 (omega arith)) ∙ laid_unfit out (flat ws))

-- an area with no room for the header
pub under_limit : (area : List ℕ) (b : ℕ) → b ≤ 65535 → length area < b → length area < limit
unfolding limit
under_limit area b l h = omega arith

-- The table that the pairs make.

keys_pairs : (l : List ℕ) → keys (map pair_of l) ≡ map (λ c. c % 65536) l
unfolding keys
keys_pairs [] = refl
keys_pairs (c ∷ l) = ap (λ (r : List ℕ). c % 65536 ∷ r) (keys_pairs l)

values_pairs : (l : List ℕ) → values (map pair_of l) ≡ map (λ c. c / 65536) l
unfolding values
values_pairs [] = refl
values_pairs (c ∷ l) = ap (λ (r : List ℕ). c / 65536 ∷ r) (values_pairs l)

delta_words : (gs : List ℕ) (d : ℕ) → table_words (Table.single_delta (Some gs) d) ≡ 1 ∷ 6 ∷ d ∷ coverage_words gs
unfolding table_words cover_layout offsets blocks block
delta_words gs d = ap (λ (l : List ℕ). 1 ∷ 6 ∷ d ∷ l) (append-nil (coverage_words gs))

list_words : (gs xs : List ℕ) (n : ℕ) → length xs ≡ n → table_words (Table.single_list (Some gs) xs) ≡ 2 ∷ (6 + 2 * n) ∷ n ∷ (xs ++ coverage_words gs)
unfolding table_words cover_layout offsets blocks block
list_words gs xs n e =
    let f : 4 + 2 * suc (length xs) ≡ 6 + 2 * n = omega arith in
    rw (f, e, append-nil (coverage_words gs)) refl

-- it has a first pair
module _ {t : List ℕ} {at n : ℕ} {same : Bool} (a : Writes t at n same) where
  pub standing : (n ≡ 0 → ⊥) → Standing t at n
  standing z = record { inside = a.inside; some = omega arith; few = a.few }

  pub laid_nothing : (out : List ℕ) → n ≡ 0 → refused out 8 ≡ written out (kept_singles (pairs t at n))
  unfolding part kept_singles written
  laid_nothing out z = rw z refl

  module _ (z : n ≡ 0 → ⊥) where
    abbrev first : ℕ
    first = get_or t at 0

    abbrev others : List ℕ
    others = part t (at + 1) (n - 1)

    all : part t at n ≡ first ∷ others
    unfolding part
    all = let e : n ≡ suc (n - 1) = omega arith in ap (part t at) e

    -- by a delta, and by a list
    kept_is : same ≡ agree (map pair_of (first ∷ others))
    kept_is = a.agreed ∙ ap (λ (l : List ℕ). agree (map pair_of l)) all

    pub kept_delta : same ≡ true → kept_singles (pairs t at n) ≡ Some (Table.single_delta (Some (news t at n)) (delta_of (pair_of first)))
    unfolding kept_singles
    kept_delta e =
        rw (all, ← kept_is, e, ← keys_pairs (first ∷ others)) refl

    pub kept_list : same ≡ false → kept_singles (pairs t at n) ≡ Some (Table.single_list (Some (news t at n)) (subs t at n))
    unfolding kept_singles
    kept_list e =
        rw (all, ← kept_is, e, ← keys_pairs (first ∷ others), ← values_pairs (first ∷ others)) refl

    pub delta_laid : (out : List ℕ) → same ≡ true → laid_as true out (flat (delta_layout t at n)) ≡ written out (kept_singles (pairs t at n))
    unfolding written
    delta_laid out e =
        let g = subst (Opt (GoodOf 5)) (kept_delta e) a.good in
        let w = delta_words (news t at n) (delta_of (pair_of first)) in
        ap (λ (l : List ℕ). laid_as true out (flat l)) (sym w) ∙ laid_words_lem out (table_words (Table.single_delta (Some (news t at n)) (delta_of (pair_of first)))) (single_delta_fits (news t at n) (delta_of (pair_of first)) g.0)
        ∙ sym (ap (written out) (kept_delta e))

    fits_list : same ≡ false → words_fit (table_words (Table.single_list (Some (news t at n)) (subs t at n))) ≡ ltb (6 + 2 * n) 65536
    fits_list e = step (ltb (6 + 2 * n) 65536) refl
      where
        ws : List ℕ
        ws = table_words (Table.single_list (Some (news t at n)) (subs t at n))

        w : ws ≡ list_layout t at n
        w = list_words (news t at n) (subs t at n) n (subs_length t at n)

        step : (b : Bool) → ltb (6 + 2 * n) 65536 ≡ b → words_fit ws ≡ b
        step true f =
            let g = subst (Opt (GoodOf 5)) (kept_list e) a.good in
            single_list_exactly (news t at n) (subs t at n) g.0 (omega (arith, subs_length t at n, ltb-true (6 + 2 * n) 65536 f)) ∙ rw (subs_length t at n) f
        step false f =
            fits_exactly ws false (λ h. absurd (let k = subst (All Word) w h in omega (arith, k.1.0, ltb-false (6 + 2 * n) 65536 f))) (λ h. absurd (true≢false (sym h)))

    pub list_laid : (out : List ℕ) → same ≡ false → laid_as (ltb (6 + 2 * n) 65536) out (flat (list_layout t at n)) ≡ written out (kept_singles (pairs t at n))
    unfolding written
    list_laid out e =
        let w = list_words (news t at n) (subs t at n) n (subs_length t at n) in
        ap (λ (l : List ℕ). laid_as (ltb (6 + 2 * n) 65536) out (flat l)) (sym w) ∙ laid_words_lem out (table_words (Table.single_list (Some (news t at n)) (subs t at n))) (fits_list e)
        ∙ sym (ap (written out) (kept_list e))
