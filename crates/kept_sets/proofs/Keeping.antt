-- What the loop over the notes keeps, and each way through its turn, for sets of any sort.
use Prim.Native.Nat.{ℕ, ◌+◌, ◌-◌, ◌*◌, ◌/◌, ◌%◌, ◌≤◌, ◌<◌}
use mathlib.Core.Path.{◌≡◌, refl, sym, ap, ◌∙◌}
use Rattle.std.specs.Prelude.{Option, None, Some}
use mathlib.Core.List.{List, [], ◌∷◌, ◌++◌, map, append_assoc, append-nil, map-append}
use native.Mathlib.Omega.{arith}
use lib.ListN.{length, get_or, set, length-append, length-map}
use lib.Seq.{get_or-set_other}
use borrow.Author.Tests.{eq-eqb, ne_eqb}
use Rattle.meaning.specs.Words.{word, bind, push}
use Rattle.meaning.specs.Cut.{glyphs_of}
use Rattle.room.specs.Laid.{enough_area}
use Rattle.cell_maps.specs.Cells.{Kept, kept_all, kept_more, kept_set}
use Rattle.area.specs.Part.{part, part_left, part_all, part_none, news, notes}
use Rattle.area.specs.Stored.{part_store}
use Rattle.handing.specs.Closed.{members}
use Rattle.known_blocks.specs.Shared.{blocks_in}
use Rattle.known_blocks.specs.Book.{packs, Begun}
use Rattle.placed_sets.specs.Kept.{set_at, kept_of, words_of, Roomy, Standing, Small, TurnInside, Next, PlacedSet}
use Rattle.placed_sets.specs.declared.Turn.{Turn}
use Rattle.placed_sets.proofs.Placing.{taken_most}
use Rattle.placed_sets.proofs.Settling.{packs_same, standing_all}

-- glyphs and words of kept sets put together
glyphs_append : (xs ys : List (ℕ × List ℕ)) → glyphs_of (xs ++ ys) ≡ glyphs_of xs ++ glyphs_of ys
unfolding glyphs_of
glyphs_append [] ys = refl
glyphs_append (x ∷ xs) ys = ap (λ (l : List ℕ). x.0 ∷ l) (glyphs_append xs ys)

glyphs_one : (n : ℕ) (ws : List ℕ) → glyphs_of ((n, ws) ∷ []) ≡ n ∷ []
unfolding glyphs_of
glyphs_one n ws = refl

words_append : (xs ys : List (ℕ × List ℕ)) → words_of (xs ++ ys) ≡ words_of xs ++ words_of ys
words_append [] ys = refl
words_append (x ∷ xs) ys = ap (λ (l : List (List ℕ)). x.1 ∷ l) (words_append xs ys)

pub words_length : (xs : List (ℕ × List ℕ)) → length (words_of xs) ≡ length xs
words_length xs = length-map xs (λ e. e.1)

-- a set that is left is the next of them
words_push : (o : Option (List ℕ)) (n : ℕ) (r : List (ℕ × List ℕ)) → words_of (push (bind o (λ ws. Some (n, ws))) r) ≡ push o [] ++ words_of r
unfolding push bind
words_push None n r = refl
words_push (Some ws) n r = refl

module _ (left : ℕ → Option (List ℕ)) (s : List ℕ) (slots : ℕ) (t₀ : List ℕ) (at m : ℕ) where
  -- what is kept from the i-th note on, and in all
  abbrev from : ℕ → List (ℕ × List ℕ)
  from i = kept_of left s slots (notes t₀ (at + i) (m - i))

  abbrev all : List (ℕ × List ℕ)
  all = kept_of left s slots (notes t₀ at m)

  -- The sets `kept` are written, up to p, and their glyphs noted; with those from the i-th note on they are the whole.
  pub record Keeping (area₀ book₀ t area book : List ℕ) (k p i : ℕ) : Type 0 where
    pub within : i ≤ m
    pub fewer : k ≤ i
    pub fits : at + m ≤ length t₀
    pub cells : Kept at t₀ t
    pub ahead : (j : ℕ) → at + i ≤ j → get_or t j 0 ≡ get_or t₀ j 0
    pub same : length area ≡ length area₀
    pub size : length book ≡ length book₀
    pub kept : List (ℕ × List ℕ)
    pub count : length kept ≡ k
    pub glyphs : news t at k ≡ glyphs_of kept
    pub left_over_lem : kept ++ from i ≡ all
    pub standing : Standing left slots (slots + 2 * m) (words_of kept) area book p

  pub keeping_all : {area₀ before book₀ : List ℕ} → at + m ≤ length t₀ → slots + 2 * m ≤ length area₀ → Begun before book₀ → Roomy before → Keeping area₀ book₀ t₀ area₀ book₀ 0 (slots + 2 * m) 0
  unfolding part glyphs_of
  keeping_all f h b r = record {
    within = omega arith;
    fewer = omega arith;
    fits = f;
    cells = kept_all at t₀;
    ahead = λ j l. refl;
    same = refl;
    size = refl;
    kept = [];
    count = refl;
    glyphs = refl;
    left_over_lem = ap (λ (l : List ℕ). kept_of left s slots (map (λ c. (c / 65536, c % 65536)) l)) (part_all t₀ at m);
    standing = standing_all b r h;
  }

  module _ {area₀ book₀ t area book : List ℕ} {k p i : ℕ} (c : Keeping area₀ book₀ t area book k p i) where
    module _ (h : i < m) {note off : ℕ} (n : note ≡ get_or t (at + i) 0) (e : off ≡ word s (slots + 2 * (note / 65536))) where
      here : from i ≡ push (bind (set_at left s slots (note / 65536)) (λ ws. Some (note % 65536, ws))) (from (i + 1))
      unfolding kept_of
      here =
          let v : get_or t₀ (at + i) 0 ≡ note = sym (n ∙ c.ahead (at + i) (omega arith)) in
          rw (part_left t₀ at m i h, v)

      -- a null offset reaches no set
      pub keeping_null : off ≡ 0 → Keeping area₀ book₀ t area book k p (i + 1)
      unfolding push bind set_at
      keeping_null z =
          let d : from i ≡ from (i + 1) = here ∙ rw (eq-eqb (word s (slots + 2 * (note / 65536))) 0 (sym e ∙ z)) in
          record {
            within = omega arith;
            fewer = omega (arith, c.fewer);
            fits = c.fits;
            cells = c.cells;
            ahead = λ j l. c.ahead j (omega arith);
            same = c.same;
            size = c.size;
            kept = c.kept;
            count = c.count;
            glyphs = c.glyphs;
            left_over_lem = rw d at c.left_over_lem;
            standing = c.standing;
          }

      -- where its set comes from and goes to
      abbrev turn : Turn
      turn = record { at = off; slot = slots + 2 * k; first = slots + 2 * m; pos = p }

      many : length (words_of c.kept) ≡ k
      many = words_length c.kept ∙ c.count

      pub turn_inside : off < 65536 → length area₀ ≤ enough_area → TurnInside area book turn
      turn_inside o a = record {
        counted = omega (arith, c.standing.booked.count, c.standing.booked.few);
        from = o;
        slot = omega (arith, c.fewer);
        behind = omega (arith, c.standing.placed.place);
        room = c.standing.placed.room;
        short = omega (arith, c.same);
      }

      module _ (z : off ≡ 0 → ⊥) (small : Small (left off)) {q : ℕ} {one after : List ℕ} (w : PlacedSet left turn area book one after q) where
        there : from i ≡ push (bind (left off) (λ ws. Some (note % 65536, ws))) (from (i + 1))
        unfolding set_at
        there = here ∙ rw (ne_eqb (word s (slots + 2 * (note / 65536))) 0 (λ v. z (e ∙ v)), ← e)

        next_turn : Next left slots (words_of c.kept) area book turn
        next_turn = record { standing = c.standing; slot = omega (arith, many); apart = omega (arith, c.fewer); small = small }

        -- a set that goes is written over
        pub keeping_gone : q ≡ 0 → Keeping area₀ book₀ t one after k p (i + 1)
        unfolding push bind
        keeping_gone v =
            let g = w.gone next_turn v in
            let d : from i ≡ from (i + 1) = there ∙ ap (λ (o : Option (List ℕ)). push (bind o (λ ws. Some (note % 65536, ws))) (from (i + 1))) g.0 in
            record {
              within = omega arith;
              fewer = omega (arith, c.fewer);
              fits = c.fits;
              cells = c.cells;
              ahead = λ j l. c.ahead j (omega arith);
              same = w.same ∙ c.same;
              size = w.size ∙ c.size;
              kept = c.kept;
              count = c.count;
              glyphs = c.glyphs;
              left_over_lem = rw d at c.left_over_lem;
              standing = g.1;
            }

        -- the note of one that is left stays
        pub keeping_one : {next : List ℕ} → (q ≡ 0 → ⊥) → q ≤ length one → next ≡ set t (at + k) note → Keeping area₀ book₀ next one after (k + 1) q (i + 1)
        unfolding push bind
        keeping_one {next} v l f =
            let g = w.next next_turn v (omega (arith, w.same)) in
            let mine : ℕ × List ℕ = (note % 65536, g.words) in
            let d : from i ≡ mine ∷ from (i + 1) = there ∙ ap (λ (o : Option (List ℕ)). push (bind o (λ ws. Some (note % 65536, ws))) (from (i + 1))) g.is in
            let room : at + k < length t = omega (arith, c.fewer, c.fits, c.cells.size) in
            record {
              within = omega arith;
              fewer = omega (arith, c.fewer);
              fits = c.fits;
              cells = rw f (kept_more c.cells (kept_set at t (at + k) note (omega arith)));
              ahead = λ j h. rw f (get_or-set_other t (at + k) j note 0 (λ x. omega (arith, c.fewer)) ∙ c.ahead j (omega arith));
              same = w.same ∙ c.same;
              size = w.size ∙ c.size;
              kept = c.kept ++ (mine ∷ []);
              count = omega (arith, length-append c.kept (mine ∷ []), c.count);
              glyphs = rw f (ap (map (λ x. x % 65536)) (part_store t at k note room) ∙ map-append (λ x. x % 65536) (part t at k) (note ∷ [])
                  ∙ ap (λ (l : List ℕ). l ++ (note % 65536 ∷ [])) c.glyphs ∙ ap (λ (l : List ℕ). glyphs_of c.kept ++ l) (sym (glyphs_one (note % 65536) g.words))
                  ∙ sym (glyphs_append c.kept (mine ∷ [])));
              left_over_lem = append_assoc c.kept (mine ∷ []) (from (i + 1)) ∙ rw d at c.left_over_lem;
              standing = rw (words_append c.kept (mine ∷ [])) g.standing;
            }

        -- there is no room for it
        pub keeping_full : slots + 2 * m ≤ 131080 → length one < q → enough_area ≤ length area₀ → 65528 ≤ 2 * length (blocks_in (packs book₀) (members (words_of all)))
        keeping_full a v b =
            let sofar = words_of c.kept ++ push (left off) [] in
            let rest = words_of (from (i + 1)) in
            let whole : sofar ++ rest ≡ words_of all =
            append_assoc (words_of c.kept) (push (left off) []) rest ∙ ap (λ (l : List (List ℕ)). words_of c.kept ++ l) (sym (ap words_of there ∙ words_push (left off) (note % 65536) (from (i + 1))))
            ∙ sym (words_append c.kept (from i)) ∙ ap words_of c.left_over_lem in
            rw (packs_same book₀ book c.size) (omega (arith, w.full next_turn a (omega (arith, w.same)) (omega (arith, c.same)), taken_most (packs book) sofar rest, ap (λ (l : List (List ℕ)). length (blocks_in (packs book) (members l))) whole))

    -- all is written where the loop ends
    pub keeping_whole : m ≤ i → c.kept ≡ all
    unfolding kept_of
    keeping_whole h = sym (append-nil c.kept) ∙ rw (part_none t₀ at m i h) at c.left_over_lem
