-- Where a coverage is asked for one entry of the map after the other: what the loop keeps, and each way through its turn.
use Prim.Native.Nat.{ℕ, suc, ◌+◌, ◌*◌, ◌/◌, ◌%◌, ◌≤◌, ◌<◌}
use mathlib.Core.Path.{◌≡◌, refl, sym, ap, ◌∙◌}
use mathlib.Core.Bool.{Bool, true, false, cond}
use Rattle.std.specs.Prelude.{Option, None, Some}
use Rattle.std.proofs.lemmas.Option.{none-some, same_Some}
use mathlib.Core.List.{List, [], ◌∷◌, ◌++◌, append-nil, append_assoc}
use native.Mathlib.Decide.{dec_lt}
use native.Mathlib.Nat.{add-zero, zero-add}
use native.Mathlib.Omega.{arith}
use lib.ListN.{length, set}
use lib.Dec.{eqb}
use borrow.Author.Tests.{eq-eqb, ne_eqb, eqb-true}
use Rattle.meaning.specs.Words.{word, keys, find, bind, push}
use Rattle.meaning.specs.Maps.{map_entries}
use Rattle.meaning.specs.Parts.{coverage}
use Rattle.laws.specs.Stands.{All}
use Rattle.laws.specs.Runs.{Up}
use Rattle.laws.specs.SoundGood.{coverage_up}
use Rattle.cell_maps.specs.Cells.{Kept, kept_all, kept_more, kept_set}
use Rattle.area.specs.Part.{part, notes}
use Rattle.coverage_index.specs.Index.{index_of}
use Rattle.range_meets.specs.Met.{met, Met, up_least, entry_below, met_none}
use Rattle.range_meets.specs.Walks.{rest, MeetsEntries}
use Rattle.range_meets.proofs.Entries.{find_below, rest_cons, rest_end, rest_all, rest_up, map_rises}
use Rattle.range_meets.proofs.Lists.{notes_store}

-- what ascends from above a glyph on has not the glyph
index_below : (g low : ℕ) (cov : List ℕ) → g < low → Up low cov → index_of cov g ≡ None
unfolding index_of bind
index_below g low [] h u = refl
index_below g low (c ∷ cov) h u = rw (ne_eqb c g (omega (arith, u.0)), index_below g (c + 1) cov (omega (arith, u.0)) u.1)

-- an index is not above its glyph
index_most : (g low i : ℕ) (cov : List ℕ) → Up low cov → index_of cov g ≡ Some i → low + i ≤ g
unfolding index_of bind
index_most g low i [] u e = absurd (none-some i e)
index_most g low i (c ∷ cov) u e = step (eqb c g) refl (index_of cov g) (λ j q. index_most g (c + 1) j cov u.1 q) e
  where
    step : (b : Bool) → eqb c g ≡ b → (o : Option ℕ) → ((j : ℕ) → o ≡ Some j → c + 1 + j ≤ g) → cond b (Some 0) (bind o (λ j. Some (suc j))) ≡ Some i → low + i ≤ g
    step true q o r f = omega (arith, u.0, eqb-true c g q, same_Some 0 i f)
    step false q None r f = absurd (none-some i f)
    step false q (Some j) r f = omega (arith, u.0, same_Some (suc j) i f, r j refl)

-- what the first entry adds: its glyph's index and its new number, if its glyph is covered
abbrev first : ℕ → Option ℕ → ℕ → Option (ℕ × ℕ)
first j o v = bind o (λ i. Some (j + i, v))

-- an index among the others, counted from the next one on
first_next : (j : ℕ) (o : Option ℕ) (v : ℕ) → first (j + 1) o v ≡ first j (bind o (λ i. Some (suc i))) v
unfolding bind
first_next j None v = refl
first_next j (Some i) v =
    let e : j + 1 + i ≡ j + suc i = omega arith in
    rw e

module _ (o v : ℕ) (es : List (ℕ × ℕ)) (above : Up (o + 1) (keys es)) where
  -- its own glyph is found, and one below it is not
  find_own : find ((o, v) ∷ es) o ≡ Some v
  unfolding find
  find_own = rw (eq-eqb o o refl)

  find_less : (c : ℕ) → c < o → find ((o, v) ∷ es) c ≡ None
  unfolding find
  find_less c h = rw (ne_eqb o c (omega arith)) (find_below c (o + 1) es (omega arith) above)

  -- glyphs above it are met as without it
  others : (j low : ℕ) (cov : List ℕ) → o < low → Up low cov → met (find ((o, v) ∷ es)) j cov ≡ met (find es) j cov
  others j low cov h u = entry_below o v es j cov (more cov (up_least low cov u))
    where
      more : (l : List ℕ) → All (λ c. low ≤ c) l → All (λ c. o < c) l
      more [] a = tt
      more (c ∷ l) a = (omega (arith, a.0), more l a.1)

  -- What is met with it is what it adds, before what is met without it.
  entry_asked : (j low : ℕ) (cov : List ℕ) → Up low cov → met (find ((o, v) ∷ es)) j cov ≡ push (first j (index_of cov o) v) (met (find es) j cov)
  unfolding met index_of push bind
  entry_asked j low [] u = refl
  entry_asked j low (c ∷ cov) u = step (dec_lt c o) (dec_lt o c) (entry_asked (j + 1) (c + 1) cov u.1)
    where
      step : Dec (c < o) → Dec (o < c) → met (find ((o, v) ∷ es)) (j + 1) cov ≡ push (first (j + 1) (index_of cov o) v) (met (find es) (j + 1) cov)
          → met (find ((o, v) ∷ es)) j (c ∷ cov) ≡ push (first j (index_of (c ∷ cov) o) v) (met (find es) j (c ∷ cov))
      step (yes a) b h =
          rw (find_less c a, find_below c (o + 1) es (omega arith) above, ne_eqb c o (omega arith))
          (h ∙ ap (λ (x : Option (ℕ × ℕ)). push x (met (find es) (j + 1) cov)) (first_next j (index_of cov o) v))
      step (no a) (yes b) h =
          others j c (c ∷ cov) b (omega arith, u.1)
          ∙ ap (λ (x : Option ℕ). push (first j x v) (met (find es) j (c ∷ cov))) (sym (index_below o c (c ∷ cov) b (omega arith, u.1)))
      step (no a) (no b) h =
          let q : c ≡ o = omega arith in
          rw (q, find_own, find_below o (o + 1) es (omega arith) above, eq-eqb o o refl, add-zero) (ap (λ (l : List (ℕ × ℕ)). (j, v) ∷ l) (others (j + 1) (o + 1) cov (omega arith) (rw q at u.1)))

-- What the loop keeps: k of the first e entries are noted; they, and what the entries that are left meet, are all.
pub record Asking (s : List ℕ) (at : ℕ) (m t₀ : List ℕ) (to : ℕ) (t : List ℕ) (k e : ℕ) : Type 0 where
  pub within : e ≤ length m / 4
  pub few : k ≤ e
  pub kept : Kept to t₀ t
  pub noted : notes t to k ++ met (find (rest m e)) 0 (coverage s at) ≡ met (find (map_entries m)) 0 (coverage s at)

module _ {s : List ℕ} {at : ℕ} {m t₀ : List ℕ} {to : ℕ} where
  pub asking_all : Asking s at m t₀ to t₀ 0 0
  unfolding part
  asking_all = record { within = omega arith; few = omega arith; kept = kept_all to t₀; noted = rw (rest_all m) }

  module _ {t : List ℕ} {k e old : ℕ} (a : MeetsEntries s at m t₀ to) (c : Asking s at m t₀ to t k e) (h : e < length m / 4) (w : old ≡ word m (4 * e)) where
    -- the entry, and those after it
    this : (new : ℕ) → new ≡ word m (4 * e + 2) → met (find (rest m e)) 0 (coverage s at) ≡ push (first 0 (index_of (coverage s at) old) new) (met (find (rest m (e + 1))) 0 (coverage s at))
    this new x =
        rw (rest_cons m e h, ← w, ← x)
        (entry_asked old new (rest m (e + 1)) (rest_up m a.ascend (e + 1) (old + 1) (omega arith) (λ l. omega (arith, map_rises m a.ascend e (e + 1) (omega arith) l))) 0 0 (coverage s at) (coverage_up s at a.sound))

    -- the index is a word
    pub asking_small : {i : ℕ} → Some i ≡ index_of (coverage s at) old → old < 65536 → i < 65536
    asking_small {i} g l = omega (arith, index_most old 0 i (coverage s at) (coverage_up s at a.sound) (sym g))

    -- there is a cell for one note more
    pub asking_room : to + k < length t
    asking_room = omega (arith, a.room, c.few, c.kept.size)

    pub asking_one : {i new : ℕ} → Some i ≡ index_of (coverage s at) old → new ≡ word m (4 * e + 2) → new < 65536 → Asking s at m t₀ to (set t (to + k) (i * 65536 + new)) (k + 1) (e + 1)
    unfolding push bind
    asking_one {i} {new} g x l =
        let v = i * 65536 + new in
        let left = met (find (rest m (e + 1))) 0 (coverage s at) in
        let d : met (find (rest m e)) 0 (coverage s at) ≡ (i, new) ∷ left = this new x ∙ rw (← g, zero-add i) in
        let q : v / 65536 ≡ i = omega arith in
        let y : v % 65536 ≡ new = omega arith in
        let p : notes (set t (to + k) v) to (k + 1) ≡ notes t to k ++ ((i, new) ∷ []) = notes_store t to k v asking_room ∙ ap (λ (z : ℕ × ℕ). notes t to k ++ (z ∷ [])) (λ j. (q j, y j)) in
        record {
          within = omega arith;
          few = omega (arith, c.few);
          kept = kept_more c.kept (kept_set to t (to + k) v (omega arith));
          noted = ap (λ (z : List (ℕ × ℕ)). z ++ left) p ∙ append_assoc (notes t to k) ((i, new) ∷ []) left ∙ rw d at c.noted;
        }

    pub asking_none : None ≡ index_of (coverage s at) old → Asking s at m t₀ to t k (e + 1)
    unfolding push bind
    asking_none g =
        let d : met (find (rest m e)) 0 (coverage s at) ≡ met (find (rest m (e + 1))) 0 (coverage s at) = this (word m (4 * e + 2)) refl ∙ rw (← g) in
        record { within = omega arith; few = omega (arith, c.few); kept = c.kept; noted = rw d at c.noted }

  pub asking_end : {t : List ℕ} {k e : ℕ} → MeetsEntries s at m t₀ to → Asking s at m t₀ to t k e → length m / 4 ≤ e → Met (find (map_entries m)) (coverage s at) t₀ to t k
  asking_end {t} {k} {e} a c h = record {
    kept = c.kept;
    fits = omega (arith, a.room, c.few, c.within);
    noted = sym (append-nil (notes t to k)) ∙ rw (rest_end m e h, met_none 0 (coverage s at)) at c.noted;
  }
