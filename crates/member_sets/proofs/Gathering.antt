-- What a loop over the members of a set keeps, for members of any sort.
use Prim.Native.Nat.{ℕ, ◌+◌, ◌-◌, ◌*◌, ◌≤◌, ◌<◌}
use mathlib.Core.Path.{◌≡◌, refl, sym, ap, ◌∙◌}
use Rattle.std.specs.Prelude.{Option, None, Some}
use mathlib.Core.List.{List, [], ◌∷◌, ◌++◌, map, append_assoc, append-nil}
use native.Mathlib.Omega.{arith}
use lib.ListN.{length, length-append}
use lib.Seq.{sets}
use Rattle.meaning.specs.Words.{word, bytes2, push}
use Rattle.meaning.specs.Cut.{unless_empty}
use Rattle.meaning.specs.Layout.{offsets, blocks, block, set_words}
use Rattle.laws.specs.Members.{words_left, member_blocks, members, members_left, members_all, members_none, member_null, member_there}
use Rattle.handing.specs.Closed as closed
use Rattle.numbers.specs.Leaves.{Leaves, none_some, leaves_full, leaves_gone, leaves_stays, leaves_said}
use Rattle.member_sets.specs.Sets.{Unclosed, set_of, ClosedSet, set_most, blocks_are, set_left}
use Rattle.member_sets.proofs.Closing.{unclosed_all, unclosed_kept, unclosed_one, members_blocks}

-- a member that goes, and one that is left, before others
push_gone : {A : Type 0} (f : A → List ℕ) (o : Option A) (r : List A) → block f o ≡ None → push o r ≡ r
unfolding block push
push_gone f None r e = refl
push_gone f (Some a) r e = absurd (none_some e refl)

push_left : {A : Type 0} (f : A → List ℕ) (o : Option A) (r : List A) {ws : List ℕ} → block f o ≡ Some ws → map f (push o r) ≡ ws ∷ map f r
unfolding block push
push_left f None r e = absurd (none_some refl e)
push_left f (Some a) r {ws} e =
    let s : f a ≡ ws = cc in
    ap (λ (w : List ℕ). w ∷ map f r) s

-- a front of members takes no more than what is left of the set
front_most : {A : Type 0} (f : A → List ℕ) (xs : List A) (bs rest : List (List ℕ)) → bs ++ rest ≡ map f xs → length (blocks (closed.members bs)) ≤ length (words_left (set_words f) (unless_empty xs))
unfolding unless_empty words_left set_words blocks
front_most f [] [] rest e = omega arith
front_most f [] (b ∷ bs) rest e = absurd (omega (arith, ap length e))
front_most f (x ∷ xs) bs rest e =
    let all : blocks (closed.members bs) ++ blocks (closed.members rest) ≡ blocks (member_blocks f (x ∷ xs)) = sym (members_blocks bs rest) ∙ ap (λ (l : List (List ℕ)). blocks (closed.members l)) e ∙ ap blocks (blocks_are f (x ∷ xs)) in
    omega (arith, ap length all, length-append (blocks (closed.members bs)) (blocks (closed.members rest)), length-append (offsets (2 + 2 * length (x ∷ xs)) (member_blocks f (x ∷ xs))) (blocks (member_blocks f (x ∷ xs))))

module _ {A : Type 0} (read : ℕ → A) (cutOne : A → Option A) (f : A → List ℕ) (s : List ℕ) (base n : ℕ) where
  -- what is left of the members from the i-th on, and of all
  abbrev from : ℕ → List A
  from i = members read cutOne s base (base + 2 + 2 * i) (n - i)

  abbrev all : List A
  all = members read cutOne s base (base + 2) n

  -- The words `kept` of k members are written, up to p; with those of the members from the i-th on they are the whole.
  pub record Gathering (area₀ : List ℕ) (pos : ℕ) (area : List ℕ) (k p i : ℕ) : Type 0 where
    pub within : i ≤ n
    pub fewer : k ≤ i
    pub inside : base + 2 + 2 * n ≤ length s
    pub behind : pos + 2 + 2 * n ≤ p
    pub room : p ≤ length area
    pub same : length area ≡ length area₀
    pub kept : List (List ℕ)
    pub count : length kept ≡ k
    pub left : kept ++ map f (from i) ≡ map f all
    pub unclosed : Unclosed area₀ pos (pos + 2 + 2 * n) kept area p

  pub gathering_all : {area₀ : List ℕ} {pos : ℕ} → base + 2 + 2 * n ≤ length s → pos + 2 + 2 * n ≤ length area₀ → Gathering area₀ pos area₀ 0 (pos + 2 + 2 * n) 0
  gathering_all b h = record {
    within = omega arith;
    fewer = omega arith;
    inside = b;
    behind = omega arith;
    room = h;
    same = refl;
    kept = [];
    count = refl;
    left = ap (map f) (members_all read cutOne s base (base + 2) n);
    unclosed = unclosed_all (omega arith) h;
  }

  -- there is no room for the count and the offsets
  pub gathering_short : {area₀ : List ℕ} {pos r : ℕ} → n < 65536 → length area₀ < pos + 2 + 2 * n → length area₀ < r
      → Leaves area₀ pos (block (set_words f) (unless_empty all)) (set_most f (unless_empty all) s) area₀ r
  unfolding set_most
  gathering_short b l h = leaves_full refl h (omega arith)

  module _ {area₀ : List ℕ} {pos : ℕ} {area : List ℕ} {k p i : ℕ} (c : Gathering area₀ pos area k p i) where
    module _ (h : i < n) {off : ℕ} (e : off ≡ word s (base + 2 + 2 * i)) where
      -- a null offset reaches no member
      pub gathering_null : off ≡ 0 → Gathering area₀ pos area k p (i + 1)
      unfolding push
      gathering_null z =
          let d : from i ≡ from (i + 1) = members_left read cutOne s base (base + 2) n i h ∙ rw (member_null read cutOne s base (base + 2 + 2 * i) e z) in
          record {
            within = omega arith;
            fewer = omega (arith, c.fewer);
            inside = c.inside;
            behind = c.behind;
            room = c.room;
            same = c.same;
            kept = c.kept;
            count = c.count;
            left = rw d at c.left;
            unclosed = c.unclosed;
          }

      module _ (z : off ≡ 0 → ⊥) {m q : ℕ} {one : List ℕ} (w : Leaves area p (block f (cutOne (read (base + off)))) m one q) where
        here : from i ≡ push (cutOne (read (base + off))) (from (i + 1))
        here = rw (← (member_there read cutOne s base (base + 2 + 2 * i) e z)) (members_left read cutOne s base (base + 2) n i h)

        apart : pos + 2 + 2 * length c.kept + 2 ≤ pos + 2 + 2 * n
        apart = omega (arith, c.fewer, c.count)

        -- a member that goes is written over
        pub gathering_gone : q ≡ 0 → Gathering area₀ pos one k p (i + 1)
        gathering_gone v =
            let g = leaves_gone w (omega (arith, c.behind)) v in
            let d : from i ≡ from (i + 1) = here ∙ push_gone f (cutOne (read (base + off))) (from (i + 1)) g.0 in
            record {
              within = omega arith;
              fewer = omega (arith, c.fewer);
              inside = c.inside;
              behind = c.behind;
              room = omega (arith, c.room, w.same);
              same = w.same ∙ c.same;
              kept = c.kept;
              count = c.count;
              left = rw d at c.left;
              unclosed = unclosed_kept c.unclosed (omega (arith, apart)) g.1;
            }

        -- one that is left gets its offset
        pub gathering_one : {r : ℕ} {two : List ℕ} → (q ≡ 0 → ⊥) → q ≤ length one → (r ≡ pos + 2 + 2 * k + 2) × (two ≡ sets one (pos + 2 + 2 * k) (bytes2 (p - pos)))
            → Gathering area₀ pos two (k + 1) q (i + 1)
        gathering_one {r} {two} v l o =
            let g = leaves_stays w v (omega (arith, w.same)) in
            let d : map f (from i) ≡ g.words ∷ map f (from (i + 1)) = ap (map f) here ∙ push_left f (cutOne (read (base + off))) (from (i + 1)) g.is in
            let next = unclosed_one c.unclosed (omega (arith, apart)) apart g.extends (rw (← c.count) at o) in
            record {
              within = omega arith;
              fewer = omega (arith, c.fewer);
              inside = c.inside;
              behind = omega (arith, c.behind, g.extends.place);
              room = omega (arith, l, w.same, c.same, next.keeps.same);
              same = next.keeps.same;
              kept = c.kept ++ (g.words ∷ []);
              count = omega (arith, length-append c.kept (g.words ∷ []), c.count);
              left = append_assoc c.kept (g.words ∷ []) (map f (from (i + 1))) ∙ rw d at c.left;
              unclosed = next;
            }

        -- there is no room for it, and so none for the set
        pub gathering_full : n < 65536 → m ≤ length s → length one < q → Leaves area₀ pos (block (set_words f) (unless_empty all)) (set_most f (unless_empty all) s) one q
        unfolding set_most
        gathering_full b a v =
            leaves_full (w.same ∙ c.same) (omega (arith, w.same, c.same))
            (omega (arith, w.full (omega (arith, w.same)), w.same, c.same, c.unclosed.place, front_most f all c.kept (map f (from i)) c.left))

    -- the set is put together
    pub gathering_end : {after : List ℕ} {m r : ℕ} → n ≤ i → ClosedSet area pos k (pos + 2 + 2 * n) p after r → Leaves area₀ pos (block (set_words f) (unless_empty all)) m after r
    gathering_end {after} {m} {r} h d =
        let whole : c.kept ≡ map f all = sym (append-nil c.kept) ∙ rw (members_none read cutOne s base (base + 2 + 2 * i) n i h) at c.left in
        leaves_said (d.closed area₀ c.kept m c.count c.unclosed) (ap (λ (b : List (List ℕ)). block set_of (unless_empty b)) whole ∙ set_left f all) (omega arith)
