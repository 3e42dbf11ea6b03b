-- A class table more, behind those so far.
use Prim.Native.Nat.{ℕ, suc, ◌+◌, ◌-◌, ◌*◌, ◌/◌, ◌≤◌, ◌<◌}
use mathlib.Core.Path.{◌≡◌, refl, sym, ap, ◌∙◌, subst}
use mathlib.Core.Logic.{◌≢◌}
use mathlib.Core.Bool.{Bool, true, false, cond}
use Rattle.std.specs.Prelude.{Option, Some}
use mathlib.Core.List.{List, [], ◌∷◌, ◌++◌}
use native.Mathlib.Decide.{dec_lt}
use native.Mathlib.Omega.{arith}
use lib.ListN.{length, set, length-append}
use lib.Seq.{sets, length-sets, set-set, set_comm}
use Rattle.meaning.specs.Words.{bytes2, flat}
use Rattle.meaning.specs.Layout.{class_words}
use Rattle.laws.specs.Stands.{All, Word, flat_length}
use Rattle.laws.specs.Written.{sets_flat, flat_one}
use Rattle.area.specs.Extends.{Keeps, Extends, Tried, keeps_none, keeps_more, keeps_less, extends_none, extends_keeps, extends_kept}
use Rattle.area.specs.Part.{notes}
use Rattle.area.specs.Stored.{extends_store}
use Rattle.known_blocks.specs.Shared.{blocks_in, known, blocks_next}
use Rattle.class_spots.specs.Placing.{Gathered, TurnIn, SpotAsked, PlacedSpot}
use Rattle.class_spots.specs.declared.Turn.{Turn}
use Rattle.class_spots.proofs.Halves.{place_least}
use Rattle.class_spots.proofs.Gathering.{gathered_null, set_behind, gathered_set}
use Rattle.remade_classes.specs.Made.{table_block, block_null, block_there, TableIn}
use Rattle.remade_classes.specs.Tail.{tables_fit, Touches, BlockAsked, PlacedTable}
use Rattle.remade_classes.specs.declared.NewTable.{NewTable}
use Rattle.new_class_tables.proofs.Fitting.{class_two, null_fits, next_fits, next_fit, place_new, known_fits}

-- Slots before what is kept.

-- a store before what is kept leaves it
pub keeps_store : {a b : List ℕ} {p : ℕ} (at : ℕ) (xs : List ℕ) → Keeps a p b → p ≤ length a → at + length xs ≤ p → Keeps (sets a at xs) p (sets b at xs)
keeps_store at xs k h l = extends_keeps (extends_store at xs (extends_kept (extends_none h) k) l)

-- no slot
pub touches_none : {a : List ℕ} {slot p : ℕ} → Touches a slot 0 p a
unfolding flat
touches_none = record { words = []; many = refl; keeps = keeps_none }

-- one slot
touches_one : {before after : List ℕ} {slot p : ℕ} (w : ℕ) → Keeps (sets before slot (bytes2 w)) p after → Touches before slot 1 p after
touches_one w k = record { words = w ∷ []; many = refl; keeps = rw (flat_one w) k }

-- one slot more
pub touches_next : {before one two : List ℕ} {slot n p q next m : ℕ} → Touches before slot n p one → Touches one next 1 q two → next ≡ slot + 2 * n → p ≤ q → next + 2 ≤ p → p ≤ length before → m ≡ n + 1 → Touches before slot m p two
touches_next {before} {one} {two} {slot} {n} {p} {q} {next} {m} h k e l g r f =
    let ws = h.words in
    let vs = k.words in
    let kept = keeps_store next (flat vs) h.keeps (omega (arith, r, length-sets before slot (flat ws))) (omega (arith, flat_length vs, k.many)) in
    let at : next ≡ slot + 2 * length ws = omega (arith, h.many) in
    let row : sets (sets before slot (flat ws)) next (flat vs) ≡ sets before slot (flat (ws ++ vs)) = ap (λ (i : ℕ). sets (sets before slot (flat ws)) i (flat vs)) at ∙ sets_flat before slot ws vs in
    record {
      words = ws ++ vs;
      many = omega (arith, length-append ws vs, h.many, k.many);
      keeps = subst (λ (a : List ℕ). Keeps a p two) row (keeps_more kept (keeps_less l k.keeps));
    }

-- stores that are made again
sets_set : (xs l : List ℕ) (i j x : ℕ) → i < j → set (sets l j xs) i x ≡ sets (set l i x) j xs
sets_set [] l i j x h = refl
sets_set (y ∷ xs) l i j x h =
    let n : j ≢ i = omega arith in
    sets_set xs (set l j y) i (suc j) x (omega arith) ∙ ap (λ (k : List ℕ). sets k (suc j) xs) (set_comm l j i y x n)

pub sets_again : (xs ys l : List ℕ) (i : ℕ) → length xs ≡ length ys → sets (sets l i xs) i ys ≡ sets l i ys
sets_again [] [] l i e = refl
sets_again [] (y ∷ ys) l i e = absurd (omega (arith, e))
sets_again (x ∷ xs) [] l i e = absurd (omega (arith, e))
sets_again (x ∷ xs) (y ∷ ys) l i e =
    ap (λ (k : List ℕ). sets k (suc i) ys) (sets_set xs (set l i x) i (suc i) y (omega arith) ∙ ap (λ (k : List ℕ). sets k (suc i) xs) (set-set l i x y))
    ∙ sets_again xs ys (set l i y) (suc i) (omega (arith, e))

-- The ways through the placing of a class table.
module _ {t : List ℕ} {n : NewTable} {turn : Turn} {gap : ℕ} {area book : List ℕ} (in_cells : TableIn t n) (a : BlockAsked (table_block t n) turn gap area book) where
  abbrev b : List ℕ
  b = class_words (notes t n.list n.len)

  abbrev i : TurnIn turn area book
  i = a.turn_in

  -- where the first class table stands, as offsets count it
  abbrev start : ℕ
  start = turn.first - gap

  long : 2 ≤ length b
  long = class_two (notes t n.list n.len)

  -- it is null
  pub placed_null : {two : List ℕ} {r : ℕ} → n.old ≡ 0 → (r ≡ turn.slot + 2) × (two ≡ sets area turn.slot (bytes2 0)) → PlacedTable (table_block t n) turn gap area book two book turn.pos
  placed_null {two} z p = subst (λ (o : Option (List ℕ)). PlacedTable o turn gap area book two book turn.pos) (sym (block_null t n z)) (record {
    same = ap length p.1 ∙ length-sets area turn.slot (bytes2 0);
    touched = λ l. touches_one 0 (subst (λ (x : List ℕ). Keeps x turn.pos two) p.1 keeps_none);
    there = λ g from e l. gathered_null g e i.slot keeps_none p;
    near = λ {packed} {left} {slots} {bs} g from e f l. null_fits packed start bs f;
    full = λ g from e l f. absurd (omega (arith, i.room));
  })

  module _ (z : n.old ≡ 0 → ⊥) {one : List ℕ} {q : ℕ} (w : Tried area turn.pos b one q) where
    is : table_block t n ≡ Some b
    is = block_there t n z

    -- there is no room for it
    pub placed_short : length one < q → PlacedTable (table_block t n) turn gap area book one book q
    placed_short l = subst (λ (o : Option (List ℕ)). PlacedTable o turn gap area book one book q) (sym is) (record {
      same = w.same;
      touched = λ m. absurd (omega (arith, w.same));
      there = λ g from e m. absurd (omega (arith, w.same));
      near = λ g from e f m. absurd (omega (arith, w.same));
      full = λ {packed} {left} {slots} {bs} g from e m f.
          let k = next_fit packed start bs b f in
          omega (arith, w.full m, k.0, k.1, place_least packed bs b start, g.near, a.near);
    })

    module _ (l : q ≤ length one) where
      x : Extends area turn.pos b one q
      x = w.fits (omega (arith, w.same))

      -- it is too long
      pub placed_long : {r : ℕ} → turn.pos + 131076 < q → length one < r → PlacedTable (table_block t n) turn gap area book one book r
      placed_long {r} h m = subst (λ (o : Option (List ℕ)). PlacedTable o turn gap area book one book r) (sym is) (record {
        same = w.same;
        touched = λ k. absurd (omega (arith, w.same));
        there = λ g from e k. absurd (omega (arith, w.same));
        near = λ g from e f k. absurd (omega (arith, w.same));
        full = λ {packed} {left} {slots} {bs} g from e k f. absurd (omega (arith, x.place, (next_fit packed start bs b f).1));
      })

      module _ (h : q ≤ turn.pos + 131076) where
        small : All Word b
        small = in_cells.words (omega (arith, x.place))

        pub spot_asked : SpotAsked turn q one book
        spot_asked = record {
          turn_in = record { source = i.source; slot = i.slot; start = i.start; near = i.near; low = i.low; room = omega (arith, i.room, w.same); count = i.count };
          near = h;
          left = a.left;
          done = a.done;
          block = b;
          behind = set_behind a.gathered x (a.from ∙ is) long h small;
        }

        module _ {two after : List ℕ} {end : ℕ} (s : PlacedSpot turn q one book two after end) where
          touched : end ≤ length area → Touches area turn.slot 1 turn.pos two
          touched m =
              let y = s.near (omega (arith, w.same)) in
              let v = (y.spot.at - turn.first) / 2 + 1 in
              touches_one v (subst (λ (c : List ℕ). Keeps (sets area turn.slot (bytes2 v)) turn.pos c) (sym y.put) (keeps_store turn.slot (bytes2 v) (extends_keeps x) i.room (omega (arith, i.slot, i.start, ap length (flat_one v), flat_length (v ∷ [])))))

          module _ {packed : Bool} {left : ℕ → Option (List ℕ)} {slots : ℕ} {bs : List (Option (List ℕ))} (g : Gathered packed left slots turn.first bs area turn.pos book) (from : left turn.at ≡ Some b) (e : turn.slot ≡ slots + 2 * length bs) where
            -- it has its spot
            gathered : end ≤ length area → Gathered packed left slots turn.first (bs ++ (Some b ∷ [])) two end after
            gathered m =
                let y = s.near (omega (arith, w.same)) in
                rw y.end (gathered_set g x from long h small e i.slot y.settled y.there (refl, y.put))

            -- it takes no bytes if it is among those so far
            grows : end ≤ length area → end ≡ turn.pos + 2 * length (cond (known packed bs b) [] b)
            grows m = omega (arith, (gathered m).noted.place, g.noted.place, ap length (blocks_next packed 0 bs b), length-append (blocks_in packed bs) (cond (known packed bs b) [] b))

            is_known : end ≡ turn.pos → known packed bs b ≡ true
            is_known f = step (known packed bs b) (grows (omega (arith, i.room)))
              where
                step : (u : Bool) → end ≡ turn.pos + 2 * length (cond u [] b) → u ≡ true
                step true k = refl
                step false k = absurd (omega (arith, long))

            is_new : (end ≡ turn.pos → ⊥) → known packed bs b ≡ false
            is_new f = step (dec_lt (length area) end)
              where
                other : (u : Bool) → end ≡ turn.pos + 2 * length (cond u [] b) → u ≡ false
                other true k = absurd (f (omega arith))
                other false k = refl

                step : Dec (length area < end) → known packed bs b ≡ false
                step (yes d) = rw g.mode at (s.far bs b (set_behind g x from long h small) l (omega (arith, w.same))).1
                step (no d) = other (known packed bs b) (grows (omega arith))

            -- then it stands behind them
            behind : (end ≡ turn.pos → ⊥) → tables_fit packed start (bs ++ (Some b ∷ [])) ≡ true → turn.pos - gap ≤ 65535
            behind f k = omega (arith, (next_fit packed start bs b k).0, place_new packed start bs b (is_new f), g.noted.place, a.near)

          -- it is the same as an earlier one
          pub placed_again : end ≡ turn.pos → PlacedTable (table_block t n) turn gap area book two after end
          placed_again f = subst (λ (o : Option (List ℕ)). PlacedTable o turn gap area book two after end) (sym is) (record {
            same = s.same ∙ w.same;
            touched = touched;
            there = λ g from e m. gathered g from e m;
            near = λ {packed} {left} {slots} {bs} g from e k m. next_fits packed start bs b k (known_fits packed start bs b (is_known g from e f) k) (omega (arith, x.place));
            full = λ g from e m k. absurd (omega (arith, i.room));
          })

          module _ (f : end ≡ turn.pos → ⊥) where
            -- its offset doesn't fit a word
            pub placed_far : {r : ℕ} → 65535 < turn.pos - gap → length two < r → PlacedTable (table_block t n) turn gap area book two after r
            placed_far {r} v m =
                let same : length two ≡ length area = s.same ∙ w.same in
                subst (λ (o : Option (List ℕ)). PlacedTable o turn gap area book two after r) (sym is) (record {
                  same = same;
                  touched = λ k. absurd (omega (arith, same));
                  there = λ g from e k. absurd (omega (arith, same));
                  near = λ g from e y k. absurd (omega (arith, same));
                  full = λ g from e k y. absurd (omega (arith, behind g from e f y));
                })

            -- it is new
            pub placed_new : turn.pos - gap ≤ 65535 → PlacedTable (table_block t n) turn gap area book two after end
            placed_new v = subst (λ (o : Option (List ℕ)). PlacedTable o turn gap area book two after end) (sym is) (record {
              same = s.same ∙ w.same;
              touched = touched;
              there = λ g from e m. gathered g from e m;
              near = λ {packed} {left} {slots} {bs} g from e k m. next_fits packed start bs b k (omega (arith, place_new packed start bs b (is_new g from e f), g.noted.place, a.near)) (omega (arith, x.place));
              full = λ {packed} {left} {slots} {bs} g from e m k.
                  absurd (omega (arith, (s.far bs b (set_behind g x from long h small) l (omega (arith, w.same))).0, a.near));
            })
