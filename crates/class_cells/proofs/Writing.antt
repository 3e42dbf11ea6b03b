-- What the loops over cells and over rows keep that write them.
use Prim.Native.Nat.{ℕ, zero, suc, ◌+◌, ◌-◌, ◌*◌, ◌≤◌, ◌<◌}
use mathlib.Core.Path.{◌≡◌, refl, sym, ap, ap₂, ◌∙◌}
use Rattle.std.specs.Prelude.{Option, None, Some}
use mathlib.Core.List.{List, [], ◌∷◌, ◌++◌, map, append_assoc, append-nil}
use native.Mathlib.Omega.{arith}
use lib.ListN.{length, take, length-append}
use Rattle.meaning.specs.Words.{word, find}
use Rattle.area.specs.Extends.{Extends, Tried, extends_none, extends_more, extends_said, tried_over}
use Rattle.pair_fields.specs.Pairs.{value_at, Places, Reads}
use Rattle.pair_places.specs.Formats.{places_of, pair_size, places_inside}
use Rattle.pair_places.specs.Puts.{Puts}
use Rattle.pair_sets.specs.declared.Formats.{Formats}
use Rattle.class_formats.specs.Cells.{if_kept, row_left, rows_left, cells_left, HasRow, HasCells}
use Rattle.class_formats.specs.Kept.{cell_size, AsksRows, kept_cells, cells_left_lem}
use Rattle.class_formats.proofs.Using.{mul_left}

-- Writers that were tried.
module _ {a : List ℕ} {p : ℕ} where
  -- there was room
  pub tried_fits : {ws b : List ℕ} {q : ℕ} → Extends a p ws b q → Tried a p ws b q
  tried_fits x = record { same = x.same; fits = λ h. x; full = λ h. absurd (omega (arith, x.room)) }

  pub tried_said : {ws vs b : List ℕ} {q : ℕ} → Tried a p ws b q → ws ≡ vs → Tried a p vs b q
  tried_said t e = rw e at t

  -- words after words, the last of which had no room
  pub tried_full : {ws vs b c : List ℕ} {q r : ℕ} (us : List ℕ) {all : List ℕ} → Extends a p ws b q → Tried b q vs c r → length c < r → ws ++ (vs ++ us) ≡ all → Tried a p all c r
  tried_full {ws} {vs} us {all} x t h e = record {
    same = t.same ∙ x.same;
    fits = λ l. absurd (omega (arith, t.same, x.same));
    full = λ l. omega (arith, t.full (omega (arith, t.same)), x.place, x.same, t.same, ap length e, length-append ws (vs ++ us), length-append vs us);
  }

-- The three ways through `write_cell`: the class goes, there is no room, the values are written.
module _ (m2 : List (ℕ × ℕ)) (c : ℕ) {a : List ℕ} {p : ℕ} (ws : List ℕ) where
  pub cell_gone : find m2 c ≡ None → p ≤ length a → Tried a p (if_kept (find m2 c) ws) a p
  cell_gone e h = rw e (tried_fits (extends_none h))

  pub cell_full : {y r : ℕ} → find m2 c ≡ Some y → length a < p + 2 * length ws → length a < r → Tried a p (if_kept (find m2 c) ws) a r
  cell_full e h l = rw e (tried_over l h)

  pub cell_fits : {y r : ℕ} {b : List ℕ} → find m2 c ≡ Some y → Extends a p ws b r → Tried a p (if_kept (find m2 c) ws) b r
  cell_fits e x = rw e (tried_fits x)

-- What the loop of `write_row` keeps.
pub record Cells (m2 : List (ℕ × ℕ)) (s : List ℕ) (size : ℕ) (places : List ℕ) (p n : ℕ) (area₀ : List ℕ) (pos : ℕ) (area : List ℕ) (q cell c : ℕ) : Type 0 where
  pub within : c ≤ n
  pub inside : cell + 2 + size * (n - c) ≤ length s
  pub room : q ≤ length area
  pub same : length area ≡ length area₀
  pub done : List ℕ
  pub left : done ++ row_left m2 s size places c cell (n - c) ≡ row_left m2 s size places 0 p (word s 14)
  pub extends : Extends area₀ pos done area q

module _ {m2 : List (ℕ × ℕ)} {s : List ℕ} {size : ℕ} {places : List ℕ} {p n : ℕ} {area₀ : List ℕ} {pos : ℕ} where
  pub cells_all : n ≡ word s 14 → HasRow s size p → pos ≤ length area₀ → Cells m2 s size places p n area₀ pos area₀ pos p 0
  cells_all e h l =
      let z : n - 0 ≡ word s 14 = omega arith in
      record { within = omega arith; inside = rw z h.cells; room = l; same = refl; done = []; left = rw z; extends = extends_none l }

  module _ {area : List ℕ} {q cell c : ℕ} (k : Cells m2 s size places p n area₀ pos area q cell c) where
    pub cells_end : n ≤ c → Tried area₀ pos (row_left m2 s size places 0 p (word s 14)) area q
    unfolding row_left
    cells_end h =
        let e : n - c ≡ 0 = omega arith in
        tried_fits (extends_said k.extends (sym (append-nil k.done) ∙ rw e at k.left))

    module _ (h : c < n) where
      pub cells_inside : cell + 2 + size ≤ length s
      cells_inside = omega (arith, k.inside, mul_left size n c h)

      pub cells_reads : Places places (size + 2) → Reads s cell places
      cells_reads w = record { few = w.few; within = λ i. omega (arith, w.within i, cells_inside) }

      next : k.done ++ (if_kept (find m2 c) (map (value_at s cell) places) ++ row_left m2 s size places (c + 1) (cell + size) (n - (c + 1))) ≡ row_left m2 s size places 0 p (word s 14)
      unfolding row_left
      next =
          let d : n - c ≡ suc (n - (c + 1)) = omega arith in
          rw d at k.left

      module _ {after : List ℕ} {r : ℕ} (t : Tried area q (if_kept (find m2 c) (map (value_at s cell) places)) after r) where
        -- the cell had no room
        pub cells_full : length after < r → Tried area₀ pos (row_left m2 s size places 0 p (word s 14)) after r
        cells_full l = tried_full (row_left m2 s size places (c + 1) (cell + size) (n - (c + 1))) k.extends t l next

        pub cells_turn : r ≤ length after → Cells m2 s size places p n area₀ pos after r (cell + size) (c + 1)
        cells_turn l =
            let x = t.fits (omega (arith, t.same)) in
            let ws = if_kept (find m2 c) (map (value_at s cell) places) in
            record {
              within = omega arith;
              inside = omega (arith, k.inside, mul_left size n c h);
              room = l;
              same = t.same ∙ k.same;
              done = k.done ++ ws;
              left = append_assoc k.done ws (row_left m2 s size places (c + 1) (cell + size) (n - (c + 1))) ∙ next;
              extends = extends_more k.extends x;
            }

-- What the loop of `write_rows` keeps.
pub record Rows (m1 m2 : List (ℕ × ℕ)) (s : List ℕ) (size : ℕ) (places : List ℕ) (n row : ℕ) (area₀ : List ℕ) (pos : ℕ) (area : List ℕ) (q p c : ℕ) : Type 0 where
  pub within : c ≤ n
  pub step : row ≡ size * word s 14
  pub inside : p + 2 + row * (n - c) ≤ length s
  pub room : q ≤ length area
  pub same : length area ≡ length area₀
  pub done : List ℕ
  pub left : done ++ rows_left m1 m2 s size places (word s 14) c p (n - c) ≡ cells_left m1 m2 s size places
  pub extends : Extends area₀ pos done area q

module _ {m1 m2 : List (ℕ × ℕ)} {s : List ℕ} {size : ℕ} {places : List ℕ} {n row : ℕ} {area₀ : List ℕ} {pos : ℕ} where
  pub rows_all : n ≡ word s 12 → row ≡ size * word s 14 → HasCells s size → pos ≤ length area₀ → Rows m1 m2 s size places n row area₀ pos area₀ pos 14 0
  unfolding cells_left
  rows_all e f h l =
      let z : n - 0 ≡ word s 12 = omega arith in
      record { within = omega arith; step = f; inside = rw (z, f) h.cells; room = l; same = refl; done = []; left = rw z; extends = extends_none l }

  module _ {area : List ℕ} {q p c : ℕ} (k : Rows m1 m2 s size places n row area₀ pos area q p c) where
    pub rows_end : n ≤ c → Tried area₀ pos (cells_left m1 m2 s size places) area q
    unfolding rows_left
    rows_end h =
        let e : n - c ≡ 0 = omega arith in
        tried_fits (extends_said k.extends (sym (append-nil k.done) ∙ rw e at k.left))

    module _ (h : c < n) where
      pub rows_row : p + 2 + row ≤ length s
      rows_row = omega (arith, k.inside, mul_left row n c h)

      pub rows_inside : 16 ≤ length s → HasRow s size p
      rows_inside l = record { header = l; cells = rw k.step at rows_row }

      next_row : k.done ++ (if_kept (find m1 c) (row_left m2 s size places 0 p (word s 14)) ++ rows_left m1 m2 s size places (word s 14) (c + 1) (p + row) (n - (c + 1))) ≡ cells_left m1 m2 s size places
      unfolding rows_left
      next_row =
          let d : n - c ≡ suc (n - (c + 1)) = omega arith in
          rw k.step (rw d at k.left)

      -- a row that goes, and one that is kept
      pub row_gone : find m1 c ≡ None → Tried area q (if_kept (find m1 c) (row_left m2 s size places 0 p (word s 14))) area q
      row_gone e = rw e (tried_fits (extends_none k.room))

      pub row_kept : {y r : ℕ} {after : List ℕ} → find m1 c ≡ Some y → Tried area q (row_left m2 s size places 0 p (word s 14)) after r
          → Tried area q (if_kept (find m1 c) (row_left m2 s size places 0 p (word s 14))) after r
      row_kept e t = rw e t

      module _ {after : List ℕ} {r : ℕ} (t : Tried area q (if_kept (find m1 c) (row_left m2 s size places 0 p (word s 14))) after r) where
        pub rows_full : length after < r → Tried area₀ pos (cells_left m1 m2 s size places) after r
        rows_full l = tried_full (rows_left m1 m2 s size places (word s 14) (c + 1) (p + row) (n - (c + 1))) k.extends t l next_row

        pub rows_turn : r ≤ length after → Rows m1 m2 s size places n row area₀ pos after r (p + row) (c + 1)
        rows_turn l =
            let x = t.fits (omega (arith, t.same)) in
            let ws = if_kept (find m1 c) (row_left m2 s size places 0 p (word s 14)) in
            record {
              within = omega arith;
              step = k.step;
              inside = omega (arith, k.inside, mul_left row n c h);
              room = l;
              same = t.same ∙ k.same;
              done = k.done ++ ws;
              left = append_assoc k.done ws (rows_left m1 m2 s size places (word s 14) (c + 1) (p + row) (n - (c + 1))) ∙ next_row;
              extends = extends_more k.extends x;
            }

-- Without places no words are left.
module _ (m1 m2 : List (ℕ × ℕ)) (s : List ℕ) (size : ℕ) where
  silent : (o : Option ℕ) (ws : List ℕ) → if_kept o [] ++ ws ≡ ws
  silent None ws = refl
  silent (Some y) ws = refl

  no_cells : (n c p : ℕ) → row_left m2 s size [] c p n ≡ []
  unfolding row_left
  no_cells zero c p = refl
  no_cells (suc n) c p = silent (find m2 c) (row_left m2 s size [] (c + 1) (p + size) n) ∙ no_cells n (c + 1) (p + size)

  no_rows : (m n c p : ℕ) → rows_left m1 m2 s size [] m c p n ≡ []
  unfolding rows_left
  no_rows m zero c p = refl
  no_rows m (suc n) c p = rw (no_cells m 0 p) (silent (find m1 c) (rows_left m1 m2 s size [] m (c + 1) (p + size * m) n) ∙ no_rows m n (c + 1) (p + size * m))

  pub rows_silent : (places : List ℕ) → length places ≡ 0 → {a : List ℕ} {pos : ℕ} → pos ≤ length a → Tried a pos (cells_left m1 m2 s size places) a pos
  unfolding cells_left
  rows_silent [] e h = tried_said (tried_fits (extends_none h)) (sym (no_rows (word s 14) (word s 12) 0 14))
  rows_silent (x ∷ places) e h = absurd (omega arith)

-- Numbers that are put into an empty front.
take_none : (l : List ℕ) → take 0 l ≡ []
take_none [] = refl
take_none (x ∷ l) = refl

puts_front : {before ns after : List ℕ} {r : ℕ} → Puts before 0 ns after r → take r after ≡ ns
puts_front {before} {ns} p = p.front ∙ ap (λ (l : List ℕ). l ++ ns) (take_none before)

pub puts_length : {before ns after : List ℕ} {r : ℕ} → Puts before 0 ns after r → r ≡ length (take r after)
puts_length p = omega (arith, p.place, ap length (puts_front p))

-- The places of the fields that stay, as the writer of rows asks for them.
module _ {s : List ℕ} {f : Formats} (a : AsksRows s f) {before after : List ℕ} {r : ℕ} (p : Puts before 0 (places_of f.f1 f.f2 f.n1 f.n2) after r) where
  pub has_said : HasCells s (cell_size (word s 4) (word s 6)) → HasCells s f.size
  has_said h = rw a.size h

  pub places_said : Places (take r after) (f.size + 2)
  places_said =
      let same : cell_size f.f1 f.f2 ≡ f.size = ap₂ cell_size a.f1 a.f2 ∙ sym a.size in
      let e : f.size + 2 ≡ pair_size f.f1 f.f2 = omega (arith, same) in
      rw (e, puts_front p) (places_inside f.f1 f.f2 f.n1 f.n2)

  pub rows_said : (m1 m2 : List (ℕ × ℕ)) {area next : List ℕ} {pos q : ℕ} → Tried area pos (cells_left m1 m2 s f.size (take r after)) next q → Tried area pos (kept_cells m1 m2 s f.n1 f.n2) next q
  rows_said m1 m2 t =
      tried_said t
      (ap₂ (cells_left m1 m2 s) a.size (puts_front p ∙ ap₂ (λ (x y : ℕ). places_of x y f.n1 f.n2) a.f1 a.f2) ∙ cells_left_lem m1 m2 s f.n1 f.n2)
