-- Members that are written one after the other, and the set that is made of them.
use Prim.Native.Nat.{ℕ, ◌+◌, ◌-◌, ◌*◌, ◌≤◌}
use mathlib.Core.Path.{◌≡◌, refl, sym, ap, ap₂, ◌∙◌}
use Rattle.std.specs.Prelude.{Option, Some}
use mathlib.Core.List.{List, [], ◌∷◌, ◌++◌, append-nil}
use native.Mathlib.Omega.{arith}
use lib.ListN.{length, length-append}
use lib.Seq.{sets}
use Rattle.meaning.specs.Words.{bytes2, flat}
use Rattle.meaning.specs.Cut.{unless_empty}
use Rattle.meaning.specs.Layout.{offsets, blocks, block}
use Rattle.laws.specs.Stands.{flat_length, flat_append}
use Rattle.laws.specs.Through.{offsets_append, blocks_append}
use Rattle.laws.specs.Written.{flat_one}
use Rattle.area.specs.Extends.{Keeps, Extends, extends_none, extends_more, extends_said, extends_keeps, keeps_none, keeps_more, keeps_less, keeps_extends}
use Rattle.area.specs.Part.{part, part_append}
use Rattle.handing.specs.Closed.{Closed, members, less_by, offsets_less, offsets_most}
use Rattle.handing.proofs.Moved.{part_behind}
use Rattle.numbers.specs.Leaves.{Leaves, leaves_none, leaves_words}
use Rattle.numbers.proofs.Fronts.{part_keeps, extends_part, extends_one}
use Rattle.member_sets.specs.Sets.{Unclosed, set_of, ClosedSet}

-- blocks of lists put together
pub members_append : (xs ys : List (List ℕ)) → members (xs ++ ys) ≡ members xs ++ members ys
members_append [] ys = refl
members_append (x ∷ xs) ys = ap (λ (l : List (Option (List ℕ))). Some x ∷ l) (members_append xs ys)

pub members_blocks : (xs ys : List (List ℕ)) → blocks (members (xs ++ ys)) ≡ blocks (members xs) ++ blocks (members ys)
members_blocks xs ys = ap blocks (members_append xs ys) ∙ blocks_append (members xs) (members ys)

-- one member more
one_block : (w : List ℕ) → blocks (members (w ∷ [])) ≡ w
unfolding blocks
one_block w = append-nil w

one_offset : (p : ℕ) (w : List ℕ) → offsets p (members (w ∷ [])) ≡ p ∷ []
unfolding offsets
one_offset p w = refl

module _ {area₀ : List ℕ} {pos first : ℕ} where
  -- before the first member
  pub unclosed_all : pos ≤ first → first ≤ length area₀ → Unclosed area₀ pos first [] area₀ first
  unfolding offsets blocks flat part
  unclosed_all l h = record { keeps = keeps_none; place = omega arith; room = h; reached = refl; laid = refl }

  module _ {bs : List (List ℕ)} {area : List ℕ} {end : ℕ} (u : Unclosed area₀ pos first bs area end) (l : pos + 2 + 2 * length bs ≤ first) where
    -- what was tried behind them and left nothing
    pub unclosed_kept : {next : List ℕ} → Keeps area end next → Unclosed area₀ pos first bs next end
    unclosed_kept {next} k = record {
      keeps = keeps_more u.keeps (keeps_less (omega (arith, u.place)) k);
      place = u.place;
      room = u.room;
      reached = part_keeps k (pos + 2) (2 * length bs) (omega (arith, u.place)) ∙ u.reached;
      laid = part_keeps k first (2 * length (blocks (members bs))) (omega (arith, u.place)) ∙ u.laid;
    }

    -- a member behind them, and its offset
    pub unclosed_one : {ws one two : List ℕ} {q r : ℕ} → pos + 2 + 2 * length bs + 2 ≤ first → Extends area end ws one q
        → (r ≡ pos + 2 + 2 * length bs + 2) × (two ≡ sets one (pos + 2 + 2 * length bs) (bytes2 (end - pos))) → Unclosed area₀ pos first (bs ++ (ws ∷ [])) two q
    unclosed_one {ws} {one} {two} {q} {r} g x p =
        let slot = pos + 2 + 2 * length bs in
        let long = length (blocks (members bs)) in
        let v : Unclosed area₀ pos first bs one end = unclosed_kept (extends_keeps x) in
        let same₀ : length one ≡ length area₀ = v.keeps.same in
        let off : Extends one slot ((end - pos) ∷ []) two r = extends_one (extends_none (omega (arith, u.place, u.room, same₀))) (end - pos) (omega (arith, u.place, u.room, same₀)) p in
        let k : Keeps one slot two = extends_keeps off in
        let more : blocks (members (bs ++ (ws ∷ []))) ≡ blocks (members bs) ++ ws = members_blocks bs (ws ∷ []) ∙ ap (λ (b : List ℕ). blocks (members bs) ++ b) (one_block ws) in
        let many : length (bs ++ (ws ∷ [])) ≡ length bs + 1 = length-append bs (ws ∷ []) in
        let offs : offsets (first - pos) (members (bs ++ (ws ∷ []))) ≡ offsets (first - pos) (members bs) ++ ((end - pos) ∷ []) =
        let d : first - pos + 2 * long ≡ end - pos = omega (arith, u.place) in
        ap (offsets (first - pos)) (members_append bs (ws ∷ [])) ∙ offsets_append (first - pos) (members bs) (members (ws ∷ []))
        ∙ ap (λ (o : List ℕ). offsets (first - pos) (members bs) ++ o) (one_offset (first - pos + 2 * long) ws ∙ ap (λ (n : ℕ). n ∷ []) d) in
        let two-long : 2 * length (bs ++ (ws ∷ [])) ≡ 2 * length bs + 2 = omega (arith, many) in
        let all-long : 2 * length (blocks (members (bs ++ (ws ∷ [])))) ≡ 2 * long + 2 * length ws = omega (arith, ap length more, length-append (blocks (members bs)) ws) in
        let behind : (i n : ℕ) → slot + 2 ≤ i → part two i n ≡ part one i n = λ i n h. ap (λ (s : List ℕ). part s i n) p.1 ∙ part_behind (bytes2 (end - pos)) one slot i n (omega (arith, ap length (flat_one (end - pos)), flat_length ((end - pos) ∷ []))) in
        record {
          keeps = keeps_more v.keeps (keeps_less (omega arith) k);
          place = omega (arith, u.place, x.place, all-long);
          room = omega (arith, x.room, u.keeps.same);
          reached = ap (part two (pos + 2)) two-long ∙ part_append two (pos + 2) (2 * length bs) 2
              ∙ ap₂ (λ (a b : List ℕ). a ++ b) (part_keeps k (pos + 2) (2 * length bs) (omega arith) ∙ v.reached) (extends_part off)
              ∙ sym (flat_append (offsets (first - pos) (members bs)) ((end - pos) ∷ [])) ∙ ap flat (sym offs);
          laid = ap (part two first) all-long ∙ behind first (2 * long + 2 * length ws) g ∙ part_append one first (2 * long) (2 * length ws)
              ∙ ap₂ (λ (a b : List ℕ). a ++ b) v.laid (ap (λ (i : ℕ). part one i (2 * length ws)) (sym u.place) ∙ extends_part x)
              ∙ sym (flat_append (blocks (members bs)) ws) ∙ ap flat (sym more);
        }

    -- the count is put, and the gap closed
    pub unclosed_closed : {one after : List ℕ} {q r : ℕ} → (q ≡ pos + 2) × (one ≡ sets area pos (bytes2 (length bs))) → Closed one q (length bs) first end after r → Extends area₀ pos (set_of bs) after r
    unfolding set_of
    unclosed_closed {one} {after} {q} {r} p c =
        let k = length bs in
        let gap = first - (q + 2 * k) in
        let same₀ : length area ≡ length area₀ = u.keeps.same in
        let count : Extends area pos (k ∷ []) one q = extends_one (extends_none (omega (arith, u.place, u.room, same₀))) k (omega (arith, u.place, u.room, same₀)) p in
        let wide : first - pos ≡ 2 + 2 * k + gap = omega (arith, p.0) in
        let behind : (i n : ℕ) → pos + 2 ≤ i → part one i n ≡ part area i n = λ i n h. ap (λ (s : List ℕ). part s i n) p.1 ∙ part_behind (bytes2 k) area pos i n (omega (arith, ap length (flat_one k), flat_length (k ∷ []))) in
        let os = offsets (2 + 2 * k + gap) (members bs) in
        let reached : part one q (2 * k) ≡ flat os = ap (λ (i : ℕ). part one i (2 * k)) p.0 ∙ behind (pos + 2) (2 * k) (omega arith) ∙ u.reached ∙ ap (λ (n : ℕ). flat (offsets n (members bs))) wide in
        let long : end - first ≡ 2 * length (blocks (members bs)) = omega (arith, u.place) in
        let laid : part one first (end - first) ≡ flat (blocks (members bs)) = ap (part one first) long ∙ behind first (2 * length (blocks (members bs))) (omega arith) ∙ u.laid in
        let rest = c.closed os (blocks (members bs)) reached laid (offsets_most gap (2 + 2 * k + gap) bs (omega arith)) in
        let said : less_by gap os ++ blocks (members bs) ≡ offsets (2 + 2 * k) (members bs) ++ blocks (members bs) = ap (λ (l : List ℕ). l ++ blocks (members bs)) (offsets_less gap (2 + 2 * k) bs) in
        keeps_extends u.keeps (extends_more count (extends_said rest said))

-- no members, no set; else their set
module _ {before : List ℕ} {pos k first end : ℕ} where
  pub closed_empty : k ≡ 0 → ClosedSet before pos k first end before 0
  unfolding block unless_empty
  closed_empty z = record { same = refl; closed = λ area₀ bs m e u. none_left area₀ bs m (e ∙ z) u }
    where
      none_left : (area₀ : List ℕ) (bs : List (List ℕ)) (m : ℕ) → length bs ≡ 0 → Unclosed area₀ pos first bs before end → Leaves area₀ pos (block set_of (unless_empty bs)) m before 0
      none_left area₀ [] m e u = leaves_none refl u.keeps
      none_left area₀ (b ∷ bs) m e u = absurd (omega arith)

  pub closed_some : {one after : List ℕ} {q r : ℕ} → (k ≡ 0 → ⊥) → pos + 2 + 2 * k ≤ first → (q ≡ pos + 2) × (one ≡ sets before pos (bytes2 k)) → length one ≡ length before
      → Closed one q k first end after r → ClosedSet before pos k first end after r
  unfolding block unless_empty
  closed_some {one} {after} {q} {r} z l p s c = record { same = c.same ∙ s; closed = λ area₀ bs m e u. some_left area₀ bs m e u }
    where
      some_left : (area₀ : List ℕ) (bs : List (List ℕ)) (m : ℕ) → length bs ≡ k → Unclosed area₀ pos first bs before end → Leaves area₀ pos (block set_of (unless_empty bs)) m after r
      some_left area₀ [] m e u = absurd (z (sym e))
      some_left area₀ (b ∷ bs) m e u = leaves_words refl (unclosed_closed u (omega (arith, e)) (rw (← e) at p) (rw (← e) at c))
