-- What runs and ranks say, and the ways through the loops that find a run and lay runs.
use Prim.Native.Nat.{ℕ, zero, suc, ◌+◌, ◌-◌, ◌*◌, ◌/◌, ◌%◌, ◌≤◌, ◌<◌}
use mathlib.Core.Path.{◌≡◌, refl, sym, ap, ◌∙◌}
use mathlib.Core.Bool.{Bool, true, false}
use Rattle.std.specs.Prelude.{None}
use mathlib.Core.List.{List, [], ◌∷◌, ◌++◌, append-nil, append_assoc}
use native.Mathlib.Decide.{dec_lt}
use native.Mathlib.Nat.{zero-add}
use native.Mathlib.Omega.{arith}
use lib.ListN.{length, set, length-set}
use lib.Seq.{get_or-set_same, get_or-set_other}
use lib.Dec.{eqb}
use borrow.Author.Tests.{lt-ltb, le-ltb, le-leb, lt-leb, eq-eqb, ne_eqb}
use Rattle.meaning.specs.Words.{word, find, triples, ascends, keys}
use Rattle.meaning.specs.Maps.{map_entries, map_runs, steps, run_pairs, good_glyphs, good_runs, glyph_entries, good_glyph_map}
use Rattle.laws.specs.Runs.{both}
use Rattle.bits.specs.Bits.{marked}
use Rattle.ranks.specs.Ranks.{rank_in}
use Rattle.cell_maps.specs.Cells.{cell_at, cell_entry, run_start, run_end, last_run, no_entry, run_entry, rank_entry, even_entry, ranked_mask, runs_end, Inside, Odd, Holds, RunFound, Kept, kept_all, kept_more, kept_set, entry_even, even_ranks, even_runs, entry_folded}
use Rattle.cell_maps.specs.Laid.{Added, added_kept, added_holds, added_clash, Laid}
use Rattle.cell_maps.specs.Runs.{find_behind, steps_out, steps_last, FirstRun, run_first, runs_before, pairs_last, LaidRun, RunsIn, runs_answer, Spread, LaidRuns, LaidGlyphs}
use Rattle.cell_maps.specs.declared.Map.{Map}

-- An entry of another number.
pub no_entry_zero : (x : ℕ) → x ≡ 0 → 65536 ≡ no_entry x
unfolding no_entry
no_entry_zero x e = rw (eq-eqb x 0 e)

pub no_entry_more : (x : ℕ) → (x ≡ 0 → ⊥) → 0 ≡ no_entry x
unfolding no_entry
no_entry_more x e = rw (ne_eqb x 0 e)

-- What a run says.
module _ (t : List ℕ) (at k x : ℕ) where
  pub run_none : k ≡ 0 → no_entry x ≡ run_entry t at k x
  unfolding run_entry
  run_none e = rw (eq-eqb k 0 e)

  module _ (z : k ≡ 0 → ⊥) where
    pub run_past : run_end t at k % 65536 < x → no_entry x ≡ run_entry t at k x
    unfolding run_entry
    run_past h = rw (ne_eqb k 0 z, lt-ltb _ _ h)

    pub run_has : x ≤ run_end t at k % 65536 → x * 65536 + (run_start t at k % 65536 + 65536 + x - run_start t at k / 65536) % 65536 ≡ run_entry t at k x
    unfolding run_entry
    run_has h = rw (ne_eqb k 0 z, le-ltb _ _ h)

-- What the loop of `last_run` keeps: what is found between lo and hi is found.
pub record Seeking (t : List ℕ) (m : Map) (old lo hi : ℕ) : Type 0 where
  pub inside : Inside t m
  pub most : hi ≤ runs_end m
  pub near : lo ≤ runs_end m
  pub order : (lo ≡ 0 → ⊥) → lo < hi
  pub turns : ℕ
  pub enough : hi ≤ lo + turns + 1
  pub left : last_run t m.at old turns lo hi ≡ last_run t m.at old (runs_end m) 0 (runs_end m)

module _ {t : List ℕ} {m : Map} {old : ℕ} where
  pub seeking_all : Inside t m → Seeking t m old 0 (runs_end m)
  seeking_all i = record { inside = i; most = omega arith; near = omega arith; order = λ z. absurd (z refl); turns = runs_end m; enough = omega arith; left = refl }

  module _ {lo hi : ℕ} (c : Seeking t m old lo hi) where
    module _ (h : lo + 1 < hi) where
      abbrev mid : ℕ
      mid = lo + (hi - lo) / 2

      pub seeking_inside : m.at + 2 * mid < length t
      seeking_inside = omega (arith, c.inside.within, c.most)

      pub seeking_up : run_start t m.at mid / 65536 ≤ old → Seeking t m old mid hi
      unfolding last_run
      seeking_up g = step c.turns c.enough c.left
        where
          step : (n : ℕ) → hi ≤ lo + n + 1 → last_run t m.at old n lo hi ≡ last_run t m.at old (runs_end m) 0 (runs_end m) → Seeking t m old mid hi
          step zero e l = absurd (omega arith)
          step (suc n) e l = record { inside = c.inside; most = c.most; near = omega (arith, c.most); order = λ z. omega arith; turns = n; enough = omega arith; left = rw (lt-ltb (lo + 1) hi h, le-leb _ _ g) at l }

      pub seeking_down : old < run_start t m.at mid / 65536 → Seeking t m old lo mid
      unfolding last_run
      seeking_down g = step c.turns c.enough c.left
        where
          step : (n : ℕ) → hi ≤ lo + n + 1 → last_run t m.at old n lo hi ≡ last_run t m.at old (runs_end m) 0 (runs_end m) → Seeking t m old lo mid
          step zero e l = absurd (omega arith)
          step (suc n) e l = record {
            inside = c.inside;
            most = omega (arith, c.most);
            near = c.near;
            order = λ z. omega arith;
            turns = n;
            enough = omega arith;
            left = rw (lt-ltb (lo + 1) hi h, lt-leb _ _ g) at l;
          }

    pub seeking_end : hi ≤ lo + 1 → RunFound t m old lo
    unfolding last_run
    seeking_end h = record { is = step c.turns c.left; inside = λ z. omega (arith, c.order z, c.most, c.inside.within) }
      where
        step : (n : ℕ) → last_run t m.at old n lo hi ≡ last_run t m.at old (runs_end m) 0 (runs_end m) → lo ≡ last_run t m.at old (runs_end m) 0 (runs_end m)
        step zero l = l
        step (suc n) l = rw (le-ltb (lo + 1) hi h) at l

-- What ranks say.
module _ (t : List ℕ) (at x : ℕ) where
  pub rank_past : 65535 < x → no_entry x ≡ rank_entry t at x
  unfolding rank_entry
  rank_past h = rw (le-ltb x 65536 (omega arith))

  module _ (h : x ≤ 65535) where
    pub rank_none : marked t at x ≡ false → no_entry x ≡ rank_entry t at x
    unfolding rank_entry
    rank_none e = rw (lt-ltb x 65536 (omega arith), e)

    pub rank_has : {r : ℕ} → marked t at x ≡ true → r ≡ rank_in t at x → x * 65536 + r % 65536 ≡ rank_entry t at x
    unfolding rank_entry
    rank_has e f = rw (lt-ltb x 65536 (omega arith), e, f)

-- The entry, by the mask.
module _ (t : List ℕ) (m : Map) (x : ℕ) where
  pub even_by_run : {k e : ℕ} → (m.mask ≡ ranked_mask → ⊥) → RunFound t m x k → e ≡ run_entry t m.at k x → e ≡ even_entry t m x
  even_by_run h f r = r ∙ ap (λ (i : ℕ). run_entry t m.at i x) f.is ∙ sym (even_runs t m h x)

  pub even_by_rank : {e : ℕ} → m.mask ≡ ranked_mask → e ≡ rank_entry t m.at x → e ≡ even_entry t m x
  even_by_rank h r = r ∙ sym (even_ranks t m h x)

  pub entry_by_even : {e : ℕ} → m.mask % 2 ≡ 0 → e ≡ even_entry t m x → e ≡ cell_entry t m x
  entry_by_even h r = r ∙ sym (entry_even t m h x)

  pub entry_by_cell : (m.mask % 2 ≡ 0 → ⊥) → cell_at t m x ≡ cell_entry t m x
  entry_by_cell h = sym (entry_folded t m (record { odd = omega arith }) x)

-- A run of a list of good ones.
pub good_run : (list : List ℕ) → good_runs list ≡ true → (k : ℕ) → k < length list / 6 → FirstRun list (6 * k) (length list / 6 - (k + 1)) 0 0
unfolding good_runs map_runs
good_run list h k l = rw (zero-add (6 * k)) at (run_first list k (length list / 6) 0 0 0 l (both (eqb (length list % 6) 0) _ h).1)

-- What the loop of `lay_runs` keeps: the first k runs stand in the cells.
pub record RunLaying (list t₀ t : List ℕ) (at k : ℕ) : Type 0 where
  pub within : k ≤ length list / 6
  pub kept : Kept at t₀ t
  pub starts : (i : ℕ) → i < k → run_start t at (i + 1) ≡ word list (6 * i) * 65536 + word list (6 * i + 2)
  pub ends : (i : ℕ) → i < k → run_end t at (i + 1) ≡ word list (6 * i) + word list (6 * i + 4) - 1

module _ {list t₀ : List ℕ} {at : ℕ} where
  pub runs_none : RunLaying list t₀ t₀ at 0
  runs_none = record { within = omega arith; kept = kept_all at t₀; starts = λ i l. absurd (omega arith); ends = λ i l. absurd (omega arith) }

  module _ {t : List ℕ} {k : ℕ} (c : RunLaying list t₀ t at k) (h : k < length list / 6) (room : at + 4 * (length list / 6) + 2 < length t₀) where
    abbrev p : ℕ
    p = at + 2 * (k + 1)

    abbrev v : ℕ
    v = word list (6 * k) * 65536 + word list (6 * k + 2)

    abbrev w : ℕ
    w = word list (6 * k) + word list (6 * k + 4) - 1

    pub runs_inside : p + 1 < length t
    runs_inside = omega (arith, c.kept.size)

    pub runs_next : {next : List ℕ} → LaidRun list k t next p → RunLaying list t₀ next at (k + 1)
    runs_next l = rw l.cells (record {
      within = omega arith;
      kept = kept_more c.kept (kept_more (kept_set at t p v (omega arith)) (kept_set at (set t p v) (p + 1) w (omega arith)));
      starts = λ i g. start i g (dec_lt i k);
      ends = λ i g. end i g (dec_lt i k);
    })
      where
        start : (i : ℕ) → i < k + 1 → Dec (i < k) → run_start (set (set t p v) (p + 1) w) at (i + 1) ≡ word list (6 * i) * 65536 + word list (6 * i + 2)
        start i l (yes g) =
            get_or-set_other (set t p v) (p + 1) (at + 2 * (i + 1)) w 0 (λ q. omega arith) ∙ get_or-set_other t p (at + 2 * (i + 1)) v 0 (λ q. omega arith) ∙ c.starts i g
        start i l (no g) =
            let e : i ≡ k = omega arith in
            rw e (get_or-set_other (set t p v) (p + 1) p w 0 (λ q. omega arith) ∙ get_or-set_same t p v 0 (omega (arith, runs_inside)))

        end : (i : ℕ) → i < k + 1 → Dec (i < k) → run_end (set (set t p v) (p + 1) w) at (i + 1) ≡ word list (6 * i) + word list (6 * i + 4) - 1
        end i l (yes g) =
            get_or-set_other (set t p v) (p + 1) (at + 2 * (i + 1) + 1) w 0 (λ q. omega arith) ∙ get_or-set_other t p (at + 2 * (i + 1) + 1) v 0 (λ q. omega arith) ∙ c.ends i g
        end i l (no g) =
            let e : i ≡ k = omega arith in
            rw e (get_or-set_same (set t p v) (p + 1) w 0 (omega (arith, runs_inside, length-set t p v)))

  pub runs_all : {t : List ℕ} {k : ℕ} → RunLaying list t₀ t at k → length list / 6 ≤ k → at + 4 * (length list / 6) + 2 < length t₀ → length list / 6 ≤ 16383 → good_runs list ≡ true
      → LaidRuns list t₀ t at (record { at = at; mask = 4 * (length list / 6) + 2 })
  unfolding good_runs map_runs
  runs_all {t} {k} c h room few good = record {
    place = refl;
    kept = c.kept;
    holds = λ z. record { inside = cells.inside; answers = λ x. runs_answer cells (both (eqb (length list % 6) 0) _ good).1 x };
    few = omega arith;
    room = λ r z. omega arith;
  }
    where
      cells : RunsIn list t (record { at = at; mask = 4 * (length list / 6) + 2 }) (length list / 6)
      cells = record { mask = refl; inside = record { within = omega (arith, c.kept.size) }; starts = λ i l. c.starts i (omega arith); ends = λ i l. c.ends i (omega arith) }

  -- there are too few cells
  pub runs_no_room : length t₀ < at + 65536 → LaidRuns list t₀ t₀ at (record { at = at; mask = 0 })
  runs_no_room h = record {
    place = refl;
    kept = kept_all at t₀;
    holds = λ z. absurd (z refl);
    few = omega arith;
    room = λ r z. omega arith;
  }

-- What the loop of `spread_run` keeps: the cells hold the pairs of the runs before, and the first i of this one.
pub record Spreading (list t₀ t : List ℕ) (m : Map) (k old new i : ℕ) : Type 0 where
  pub within : i ≤ word list (6 * k + 4)
  pub kept : Kept m.at t₀ t
  pub holds : Holds t m (run_pairs (triples list 0 k) ++ steps old new i)

module _ {list t₀ : List ℕ} {m : Map} {k old new count : ℕ} (good : good_runs list ≡ true) (l : k < length list / 6) (s : Spread list t₀ t₀ m k)
    (eo : old ≡ word list (6 * k)) (en : new ≡ word list (6 * k + 2)) (ec : count ≡ word list (6 * k + 4)) where
  spread_odd : Odd m
  spread_odd = record { odd = omega (arith, s.every) }

  pub spreading_none : Spreading list t₀ t₀ m k old new 0
  unfolding steps
  spreading_none = record { within = omega arith; kept = kept_all m.at t₀; holds = rw (append-nil (run_pairs (triples list 0 k))) s.holds }

  module _ {t : List ℕ} {i : ℕ} (c : Spreading list t₀ t m k old new i) where
    pub spreading_asks : i < count → Inside t m × (old + i < 65536) × (new + i < 65536)
    spreading_asks h = let r = good_run list good k l in (c.holds.inside, omega (arith, eo, ec, r.ends), omega (arith, en, ec, r.new_ends))

    -- a pair has a cell of its own, since no number comes twice
    pub spreading_next : {next : List ℕ} {r : Bool} → i < count → Added t next m (old + i) (new + i) r → Spreading list t₀ next m k old new (i + 1)
    unfolding good_runs map_runs
    spreading_next {next} {r} h a = record {
      within = omega (arith, ec);
      kept = kept_more c.kept (added_kept a);
      holds = rw (steps_last old new i, ← append_assoc (run_pairs (triples list 0 k)) (steps old new i) ((old + i, new + i) ∷ [])) (step r refl);
    }
      where
        fresh : find (run_pairs (triples list 0 k) ++ steps old new i) (old + i) ≡ None
        fresh =
            find_behind (run_pairs (triples list 0 k)) (steps old new i) (old + i)
            (runs_before list k (length list / 6) 0 0 0 (old + i) l (both (eqb (length list % 6) 0) _ good).1 (rw (zero-add (6 * k)) (omega (arith, eo))))
            ∙ steps_out old new i (old + i) (λ p q. omega arith)

        step : (b : Bool) → r ≡ b → Holds next m ((run_pairs (triples list 0 k) ++ steps old new i) ++ ((old + i, new + i) ∷ []))
        step true e = added_holds a spread_odd c.holds e (spreading_asks h).2
        step false e = absurd (added_clash a spread_odd c.holds e s.every (spreading_asks h).1 fresh)

    pub spreading_end : count ≤ i → Spread list t₀ t m (k + 1)
    spreading_end h =
        let e : i ≡ word list (6 * k + 4) = omega (arith, ec, c.within) in
        record { every = s.every; kept = c.kept; holds = rw (pairs_last list k 0, zero-add (6 * k), ← eo, ← en, ← e) c.holds }

-- 65,536 cells from `at` on
abbrev pub every_cell : ℕ → Map
every_cell at = record { at = at; mask = 65535 }

-- What the loop of `spread_runs` keeps.
module _ {list t₀ : List ℕ} {m : Map} where
  pub spread_none : m.mask ≡ 65535 → Holds t₀ m [] → Spread list t₀ t₀ m 0
  unfolding triples run_pairs
  spread_none e h = record { every = e; kept = kept_all m.at t₀; holds = h }

  pub spread_next : {t next : List ℕ} {k : ℕ} → Spread list t₀ t m k → Spread list t next m (k + 1) → Spread list t₀ next m (k + 1)
  spread_next c d = record { every = d.every; kept = kept_more c.kept d.kept; holds = d.holds }

pub spread_end : {list first t₀ t : List ℕ} {at k : ℕ} → Kept at first t₀ → Spread list t₀ t (every_cell at) k → k ≡ length list / 6 → LaidRuns list first t at (every_cell at)
unfolding map_runs
spread_end k₀ c e = record { place = refl; kept = kept_more k₀ c.kept; holds = λ z. rw (← e) c.holds; few = omega arith; room = λ h z. omega arith }

-- A glyph map in either form.
pub runs_good : (form : ℕ) (list : List ℕ) → form ≡ 6 → good_glyph_map form list ≡ true → good_runs list ≡ true
unfolding good_glyph_map
runs_good form list e h = rw (eq-eqb form 6 e) at h

module _ {form : ℕ} {list t₀ t : List ℕ} {at : ℕ} {m : Map} where
  pub laid_runs : form ≡ 6 → LaidRuns list t₀ t at m → LaidGlyphs form list t₀ t at m
  unfolding glyph_entries
  laid_runs e l = record {
    place = l.place;
    kept = l.kept;
    holds = λ z. rw (eq-eqb form 6 e) (l.holds z);
    few = l.few;
    room = l.room;
  }

  pub laid_pairs : (form ≡ 6 → ⊥) → good_glyph_map form list ≡ true → Laid list t₀ t at m → LaidGlyphs form list t₀ t at m
  unfolding glyph_entries good_glyph_map good_glyphs
  laid_pairs e good l = record {
    place = l.place;
    kept = l.kept;
    holds = λ z. rw (ne_eqb form 6 e) (l.holds z);
    few = l.few up;
    room = λ r. l.room r up;
  }
    where
      pairs : good_glyphs list ≡ true
      pairs = rw (ne_eqb form 6 e) at good

      up : ascends (keys (map_entries list)) ≡ true
      up = (both (ascends (keys (map_entries list))) _ (both (eqb (length list % 4) 0) _ pairs).1).0
