-- The ways through the loops that mark and rank classes.
use Prim.Native.Nat.{ℕ, ◌+◌, ◌-◌, ◌*◌, ◌/◌, ◌%◌, ◌≤◌, ◌<◌}
use mathlib.Core.Path.{◌≡◌, refl, sym, ap, ◌∙◌}
use Rattle.std.specs.Prelude.{None, Some}
use mathlib.Core.List.{List, [], ◌∷◌, map}
use native.Mathlib.Decide.{dec_lt}
use native.Mathlib.Omega.{arith}
use lib.ListN.{length, get_or, set}
use borrow.Author.Tests.{eq-eqb, ne_eqb}
use Rattle.meaning.specs.Words.{find, is_some, member}
use Rattle.meaning.specs.Cut.{insert_up, numbered}
use Rattle.laws.specs.CutCells.{find_low}
use Rattle.cell_maps.specs.Cells.{answer_in, folded, Holds, kept_all, kept_more, kept_set, answer_own, answer_other}
use Rattle.cell_maps.specs.Laid.{Power}
use Rattle.cell_maps.specs.declared.Map.{Map}
use Rattle.area.specs.Part.{part, news, part_all, part_left, part_none}
use Rattle.class_lists.specs.Elsewhere.{Elsewhere, elsewhere_all, elsewhere_set, elsewhere_more, elsewhere_wide, elsewhere_kept}
use Rattle.ranked_maps.specs.Once.{each_once, same_members}
use Rattle.ranked_maps.specs.Present.{top_of, present_from, present, present_up, present_one, present_none, present_end}
use Rattle.ranked_maps.specs.Mapped.{Direct, ToMark, Marked, Ranked}
use Rattle.ranked_maps.proofs.Direct.{top_mask, folded_own, class_inside, has_entry, has_none, entry_present, direct_set, cell_same, cell_other, present_set}

nothing_found : (x : ℕ) → find [] x ≡ None
unfolding find
nothing_found x = refl

-- Cells that were cleared have no entry.
module _ {t : List ℕ} {m : Map} (h : Holds t m []) where
  pub cleared_direct : Power (m.mask + 1) → m.mask < 65536 → Direct t m
  cleared_direct p f = record { power = p; few = f; inside = h.inside; above = λ x l. h.answers x ∙ nothing_found x }

  pub cleared_free : Direct t m → present t m ≡ []
  unfolding is_some member
  cleared_free d = same_members 0 0 (present t m) [] (present_up t m 0 (top_of m + 1)) tt (λ x. sym (entry_present d x) ∙ ap is_some (h.answers x ∙ nothing_found x))

-- no class is marked yet
pub marked_none : {t : List ℕ} {m : Map} → Direct t m → present t m ≡ [] → Marked t t m []
unfolding each_once
marked_none {t} {m} d e = record { direct = d; classes = e; kept = kept_all m.at t }

-- one class more
pub marked_one : {t₀ t : List ℕ} {m : Map} {cs : List ℕ} (c : ℕ) → Marked t₀ t m cs → c ≤ m.mask → Marked t₀ (set t (m.at + c) (c * 65536)) m (c ∷ cs)
unfolding each_once
marked_one {t₀} {t} {m} {cs} c k h =
    let z : c * 65536 + 0 ≡ c * 65536 = omega arith in
    record {
      direct = rw z at (direct_set k.direct c 0 h (omega arith));
      classes = rw z at (present_set k.direct c 0 h (omega arith)) ∙ ap (insert_up c) k.classes;
      kept = kept_more k.kept (kept_set m.at t (m.at + c) (c * 65536) (omega arith));
    }

-- What the loop of `mark_held` keeps: the classes from the cell e on are marked.
pub record Marking (t₀ t : List ℕ) (m : Map) (list g e : ℕ) : Type 0 where
  pub ready : ToMark t₀ m list g
  pub within : e ≤ g
  pub marked : Marked t₀ t m (news t₀ (list + e) (g - e))

module _ {t₀ : List ℕ} {m : Map} {list g : ℕ} where
  pub marking_all : ToMark t₀ m list g → Marking t₀ t₀ m list g g
  marking_all r = record { ready = r; within = omega arith; marked = rw (part_none t₀ list g g (omega arith)) (marked_none r.direct r.free) }

  module _ {t : List ℕ} {e : ℕ} (k : Marking t₀ t m list g e) (h : 0 < e) where
    -- the cell before e lies inside, and so does that of its class
    pub marking_inside : list + (e - 1) < length t
    marking_inside = omega (arith, k.within, k.ready.place, k.marked.direct.inside.within)

    same : get_or t (list + (e - 1)) 0 ≡ get_or t₀ (list + (e - 1)) 0
    same = k.marked.kept.same (list + (e - 1)) (omega (arith, k.within, k.ready.place))

    pub marking_low : get_or t (list + (e - 1)) 0 % 65536 ≤ m.mask
    marking_low = rw same (k.ready.low (e - 1) (omega (arith, k.within)))

    pub marking_next : Marking t₀ (set t (m.at + get_or t (list + (e - 1)) 0 % 65536) (get_or t (list + (e - 1)) 0 % 65536 * 65536)) m list g (e - 1)
    marking_next =
        let d : e - 1 + 1 ≡ e = omega arith in
        let p : part t₀ (list + (e - 1)) (g - (e - 1)) ≡ get_or t (list + (e - 1)) 0 ∷ part t₀ (list + e) (g - e) =
        part_left t₀ list g (e - 1) (omega (arith, k.within)) ∙ rw (d, same)
        in
        let l : news t₀ (list + (e - 1)) (g - (e - 1)) ≡ get_or t (list + (e - 1)) 0 % 65536 ∷ news t₀ (list + e) (g - e) = ap (map (λ c. c % 65536)) p in
        record { ready = k.ready; within = omega (arith, k.within); marked = rw l (marked_one (get_or t (list + (e - 1)) 0 % 65536) k.marked marking_low) }

  pub marking_end : {t : List ℕ} {e : ℕ} → Marking t₀ t m list g e → e ≤ 0 → Marked t₀ t m (news t₀ list g)
  marking_end {t} {e} k h =
      let z : e ≡ 0 = omega arith in
      rw (z, part_all t₀ list g) at k.marked

-- What the loop of `rank` keeps: the classes up to c have their ranks, and those that are left, with the ranks from `count` on, give the others.
pub record Ranking (t₀ t : List ℕ) (m : Map) (count c : ℕ) : Type 0 where
  pub begin : Direct t₀ m
  pub direct : Direct t m
  pub within : c ≤ m.mask + 1
  pub near : count ≤ c
  pub elsewhere : Elsewhere m.at (m.at + c) t₀ t
  pub done : (x : ℕ) → x < c → folded t m x ≡ find (numbered 0 (present t₀ m)) x
  pub left : (x : ℕ) → c ≤ x → find (numbered count (present_from t₀ m c (m.mask + 1 - c))) x ≡ find (numbered 0 (present t₀ m)) x
  pub total : count + length (present_from t₀ m c (m.mask + 1 - c)) ≡ length (present t₀ m)

-- a rank is found under its number, and not under another
rank_own : (k c : ℕ) (l : List ℕ) → find (numbered k (c ∷ l)) c ≡ Some k
unfolding numbered find
rank_own k c l = rw (eq-eqb c c refl)

rank_other : (k c x : ℕ) (l : List ℕ) → c < x → find (numbered k (c ∷ l)) x ≡ find (numbered (k + 1) l) x
unfolding numbered find
rank_other k c x l h = rw (ne_eqb c x (λ e. omega arith))

no_rank : (k x : ℕ) → find (numbered k []) x ≡ None
unfolding numbered find
no_rank k x = refl

module _ {t₀ : List ℕ} {m : Map} where
  pub ranking_all : Direct t₀ m → Ranking t₀ t₀ m 0 0
  ranking_all d =
      let z : m.mask + 1 - 0 ≡ top_of m + 1 = omega (arith, top_mask d) in
      record {
        begin = d;
        direct = d;
        within = omega arith;
        near = omega arith;
        elsewhere = elsewhere_all;
        done = λ x l. absurd (omega arith);
        left = λ x l. rw z refl;
        total = rw z (omega arith);
      }

  module _ {t : List ℕ} {count c : ℕ} (k : Ranking t₀ t m count c) (h : c < m.mask + 1) where
    pub ranking_inside : m.at + c < length t
    ranking_inside = class_inside k.direct c (omega arith)

    cell_same₀ : get_or t (m.at + c) 0 ≡ get_or t₀ (m.at + c) 0
    cell_same₀ = k.elsewhere.after (m.at + c) (omega arith)

    -- the class has an entry: it gets the next rank
    module _ (e : get_or t (m.at + c) 0 / 65536 ≡ c) where
      abbrev after : List ℕ
      after = set t (m.at + c) (c * 65536 + count)

      first : present_from t₀ m c (m.mask + 1 - c) ≡ c ∷ present_from t₀ m (c + 1) (m.mask + 1 - (c + 1))
      first = present_one t₀ m (m.mask + 1) c h (has_entry k.begin c (omega arith) (ap (λ (w : ℕ). w / 65536) (sym cell_same₀) ∙ e))

      pub ranking_one : Ranking t₀ after m (count + 1) (c + 1)
      ranking_one = record {
        begin = k.begin;
        direct = d;
        within = omega arith;
        near = omega (arith, k.near);
        elsewhere = elsewhere_more (elsewhere_wide (omega arith) (omega arith) k.elsewhere) (elsewhere_set t (m.at + c) (c * 65536 + count) (omega arith) (omega arith));
        done = λ x l. step x l (dec_lt x c);
        left = λ x l. sym (rank_other count c x (present_from t₀ m (c + 1) (m.mask + 1 - (c + 1))) (omega arith)) ∙ rw first at (k.left x (omega arith));
        total = omega (arith, k.total, ap length first);
      }
        where
          small : count < 65536
          small = omega (arith, k.near, k.direct.few)

          d : Direct after m
          d = direct_set k.direct c count (omega arith) small

          value : (c * 65536 + count) % 65536 ≡ count
          value = omega (arith, small)

          step : (x : ℕ) → x < c + 1 → Dec (x < c) → folded after m x ≡ find (numbered 0 (present t₀ m)) x
          step x l (yes p) =
              folded_own d x (omega arith) ∙ ap (λ (w : ℕ). answer_in w x) (cell_other k.direct c count (omega arith) small x (λ q. omega arith))
              ∙ sym (folded_own k.direct x (omega arith)) ∙ k.done x p
          step x l (no p) =
              let q : x ≡ c = omega arith in
              rw q (
              folded_own d c (omega arith) ∙ ap (λ (w : ℕ). answer_in w c) (cell_same k.direct c count (omega arith) small)
              ∙ answer_own (c * 65536 + count) c (omega (arith, small)) ∙ ap Some value
              ∙ sym (rank_own count c (present_from t₀ m (c + 1) (m.mask + 1 - (c + 1)))) ∙ rw first at (k.left c (omega arith)))

    -- it has none
    pub ranking_none : (get_or t (m.at + c) 0 / 65536 ≡ c → ⊥) → Ranking t₀ t m count (c + 1)
    ranking_none e = record {
      begin = k.begin;
      direct = k.direct;
      within = omega arith;
      near = omega (arith, k.near);
      elsewhere = elsewhere_wide (omega arith) (omega arith) k.elsewhere;
      done = λ x l. step x l (dec_lt x c);
      left = λ x l. rw rest at (k.left x (omega arith));
      total = rw rest at k.total;
    }
      where
        rest : present_from t₀ m c (m.mask + 1 - c) ≡ present_from t₀ m (c + 1) (m.mask + 1 - (c + 1))
        rest = present_none t₀ m (m.mask + 1) c h (has_none k.begin c (omega arith) (λ q. e (ap (λ (w : ℕ). w / 65536) cell_same₀ ∙ q)))

        step : (x : ℕ) → x < c + 1 → Dec (x < c) → folded t m x ≡ find (numbered 0 (present t₀ m)) x
        step x l (yes p) = k.done x p
        step x l (no p) =
            let q : x ≡ c = omega arith in
            rw q (
            folded_own k.direct c (omega arith) ∙ answer_other (get_or t (m.at + c) 0) c e
            ∙ sym (find_low count c (present_from t₀ m (c + 1) (m.mask + 1 - (c + 1))) (c + 1) (present_up t₀ m (c + 1) (m.mask + 1 - (c + 1))) (omega arith))
            ∙ rw rest at (k.left c (omega arith)))

  pub ranking_end : {t : List ℕ} {count c : ℕ} → Ranking t₀ t m count c → m.mask + 1 ≤ c → Ranked t₀ t m count
  ranking_end {t} {count} {c} k h = record {
    direct = k.direct;
    holds = record { inside = k.direct.inside; answers = λ x. step x (dec_lt m.mask x) };
    count = omega (arith, k.total, ap length rest);
    kept = elsewhere_kept k.elsewhere;
  }
    where
      rest : present_from t₀ m c (m.mask + 1 - c) ≡ []
      rest = present_end t₀ m (m.mask + 1) c h

      step : (x : ℕ) → Dec (m.mask < x) → folded t m x ≡ find (numbered 0 (present t₀ m)) x
      step x (yes p) = k.direct.above x p ∙ sym (no_rank count x) ∙ rw rest at (k.left x (omega (arith, k.within)))
      step x (no p) = k.done x (omega arith)
