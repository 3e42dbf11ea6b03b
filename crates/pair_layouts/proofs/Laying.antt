-- The parts are written one after the other, and the header before them; then they are handed over.
use Rattle.std.specs.Prelude.{Result}
use Prim.Native.Nat.{ℕ, ◌+◌, ◌-◌, ◌*◌, ◌≤◌, ◌<◌}
use mathlib.Core.Path.{◌≡◌, refl, sym, ap, ◌∙◌}
use mathlib.Core.Bool.{Bool, true, false, cond}
use mathlib.Core.List.{List, [], ◌∷◌, ◌++◌, append-nil}
use native.Mathlib.Omega.{arith}
use lib.ListN.{length, length-append}
use lib.Seq.{sets}
use lib.Dec.{leb}
use borrow.Author.Tests.{le-leb, lt-leb}
use Rattle.meaning.specs.Words.{flat}
use Rattle.meaning.specs.Layout.{coverage_words, class_words}
use Rattle.meaning.specs.Subset.{refused, limit}
use Rattle.laws.specs.Stands.{flat_length}
use Rattle.laws.specs.Written.{Wrote, wrote_none, wrote_two, wrote_three}
use Rattle.room.specs.Laid.{outcome_of, laid_as, laid_over}
use Rattle.room.specs.declared.NotLaid.{NotLaid}
use Rattle.area.specs.Extends.{Extends, Tried, extends_more, extends_said}
use Rattle.area.specs.Stored.{extends_before}
use Rattle.area.specs.Part.{part, take_part, news, notes}
use Rattle.numbers.specs.Entries.{entries_in}
use Rattle.pair_sets.specs.declared.Formats.{Formats}
use Rattle.class_formats.specs.Kept.{NewFormats, kept_cells}
use Rattle.pair_layouts.specs.Kerning.{shared, head_words, fits_at, cover_at, first_at, second_at, last, end_at, kern_words, parts_into, kern_into, left_into}
use Rattle.pair_layouts.specs.Laying.{one_table, Ended, Ordered}
use Rattle.pair_layouts.specs.declared.Noted.{Noted}
use Rattle.pair_layouts.specs.declared.Classed.{Classed}
use Rattle.pair_layouts.specs.declared.Ends.{Ends}

-- The coverage, the first classes, the second classes, if these are not the first ones.
module _ (one : Bool) {a : List ℕ} {p : ℕ} (cover first second : List ℕ) {b : List ℕ} {q : ℕ} (w : Tried a p cover b q) where
  abbrev rest : List ℕ
  rest = cond one [] second

  pub cover_over : length b < q → {e : Ends} → e ≡ one_table p q q → Ended one a p cover first second b e
  cover_over l d = rw d (record {
    same = w.same;
    cover_at_lem = refl;
    first_at_lem = λ h. absurd (omega (arith, w.same));
    second_at_lem = λ h. absurd (omega (arith, w.same));
    fits = λ h. absurd (omega (arith, w.same));
    full = λ h. omega (arith, w.full h, length-append cover (first ++ rest));
  })

  module _ (l : q ≤ length b) {c : List ℕ} {r : ℕ} (v : Tried b q first c r) where
    cover_stands : Extends a p cover b q
    cover_stands = w.fits (omega (arith, w.same))

    pub first_over : length c < r → {e : Ends} → e ≡ one_table p q r → Ended one a p cover first second c e
    first_over k d = rw d (record {
      same = v.same ∙ w.same;
      cover_at_lem = refl;
      first_at_lem = λ h. absurd (omega (arith, w.same, v.same));
      second_at_lem = λ h. absurd (omega (arith, w.same, v.same));
      fits = λ h. absurd (omega (arith, w.same, v.same));
      full = λ h. omega (arith, v.full (omega (arith, w.same)), w.same, cover_stands.place, length-append cover (first ++ rest), length-append first rest);
    })

    module _ (k : r ≤ length c) where
      first_stands : Extends b q first c r
      first_stands = v.fits (omega (arith, v.same))

      pub one_ended : one ≡ true → {e : Ends} → e ≡ one_table p q r → Ended one a p cover first second c e
      one_ended o d = rw (d, o) (record {
        same = v.same ∙ w.same;
        cover_at_lem = refl;
        first_at_lem = λ h. cover_stands.place;
        second_at_lem = λ h. cover_stands.place;
        fits = λ h. extends_more cover_stands (extends_said first_stands (sym (append-nil first)));
        full = λ h. absurd (omega (arith, w.same, v.same));
      })

      pub all_ended : one ≡ false → {d : List ℕ} {e : ℕ} → Tried c r second d e → Ended one a p cover first second d (record { cover = p; first = q; second = r; end = e })
      all_ended o u = rw o (record {
        same = u.same ∙ v.same ∙ w.same;
        cover_at_lem = refl;
        first_at_lem = λ h. cover_stands.place;
        second_at_lem = λ h. omega (arith, cover_stands.place, first_stands.place);
        fits = λ h. extends_more cover_stands (extends_more first_stands (u.fits (omega (arith, w.same, v.same))));
        full = λ h. omega (arith, u.full (omega (arith, w.same, v.same)), w.same, v.same, cover_stands.place, first_stands.place, length-append cover (first ++ second), length-append first second);
      })

-- the header
pub head_written : (a : List ℕ) {b c d : List ℕ} {p q r : ℕ} (n1 n2 rows columns cover first second : ℕ) → (p ≡ 0 + 6) × (b ≡ sets a 0 (flat (2 ∷ cover ∷ n1 ∷ []))) → (q ≡ p + 6) × (c ≡ sets b p (flat (n2 ∷ first ∷ second ∷ [])))
    → (r ≡ q + 4) × (d ≡ sets c q (flat (rows ∷ columns ∷ []))) → d ≡ sets a 0 (flat (head_words n1 n2 rows columns cover first second))
head_written a n1 n2 rows columns cover first second e f g =
    let x : Wrote a 0 (2 ∷ cover ∷ n1 ∷ []) _ _ = wrote_three 2 cover n1 wrote_none e in
    let y = wrote_three n2 first second x f in
    (wrote_two rows columns y g).bytes

-- whether all fits
module _ (e : Ends) where
  pub high_unfit : 65535 < e.second → false ≡ fits_at e.first e.second e.end
  high_unfit h = rw (lt-leb e.second 65535 h)

  pub long_unfit : e.second ≤ 65535 → 131076 < e.second - e.first → false ≡ fits_at e.first e.second e.end
  long_unfit h k = rw (le-leb e.second 65535 h, lt-leb (e.second - e.first) 131076 k)

  pub last_fits : e.second ≤ 65535 → e.second - e.first ≤ 131076 → {b : Bool} → b ≡ leb (e.end - e.second) 131076 → b ≡ fits_at e.first e.second e.end
  last_fits h k d = rw (le-leb e.second 65535 h, le-leb (e.second - e.first) 131076 k) d

-- an area that is not over the limit
pub area_small : (area : List ℕ) → length area ≤ limit → length area ≤ 262144
unfolding limit
area_small area h = h

-- an area with no room for the header
pub no_header : (area : List ℕ) → length area < 16 → length area < limit
unfolding limit
no_header area h = omega arith

-- the second classes stand where the first ones do, or behind them
second_between : (one : Bool) (q a b : ℕ) → (q ≤ cond one q (q + 2 * a)) × (cond one q (q + 2 * a) ≤ q + 2 * a + 2 * b)
second_between true q a b = (omega arith, omega arith)
second_between false q a b = (omega arith, omega arith)

-- What was written, and what becomes of it.
module _ (one : Bool) (cells cover first second : List ℕ) (out : List ℕ) (n1 n2 rows columns : ℕ) where
  abbrev behind : List ℕ
  behind = last one cells cover first second

  words_many : length (kern_words one cells cover first second n1 n2 rows columns) ≡ 8 + length (cells ++ (cover ++ (first ++ behind)))
  unfolding kern_words
  words_many = omega arith

  -- words that are longer than the limit
  over_limit : limit < 2 * (8 + length (cells ++ (cover ++ (first ++ behind)))) → refused out 9 ≡ parts_into one cells cover first second out n1 n2 rows columns
  unfolding parts_into
  over_limit h =
      let ws = kern_words one cells cover first second n1 n2 rows columns in
      sym (laid_over (fits_at (first_at one cells cover first second) (second_at one cells cover first second) (end_at one cells cover first second)) out (flat ws) (omega (arith, flat_length ws, words_many)))

  module _ {a b : List ℕ} {p : ℕ} (w : Tried a 16 cells b p) where
    -- the cells have no room
    pub cells_over : length b < p → limit ≤ length b → refused out 9 ≡ parts_into one cells cover first second out n1 n2 rows columns
    cells_over l h = over_limit (omega (arith, w.full (omega (arith, w.same)), w.same, length-append cells (cover ++ (first ++ behind))))

    module _ (l : p ≤ length b) {c : List ℕ} {e : Ends} (v : Ended one b p cover first second c e) where
      cells_stand : Extends a 16 cells b p
      cells_stand = w.fits (omega (arith, w.same))

      -- what follows them has none
      pub tail_over : length c < e.end → limit ≤ length c → refused out 9 ≡ parts_into one cells cover first second out n1 n2 rows columns
      tail_over k h = over_limit (omega (arith, v.full (omega (arith, v.same)), v.same, w.same, cells_stand.place, length-append cells (cover ++ (first ++ behind))))

      module _ (k : e.end ≤ length c) where
        all_stands : Extends b p (cover ++ (first ++ behind)) c e.end
        all_stands = v.fits (omega (arith, v.same))

        first_is : e.first ≡ first_at one cells cover first second
        first_is = v.first_at_lem (omega (arith, v.same)) ∙ omega (arith, cells_stand.place)

        second_is : e.second ≡ second_at one cells cover first second
        second_is = v.second_at_lem (omega (arith, v.same)) ∙ ap (λ (n : ℕ). cond one (n + 2 * length cover) (n + 2 * length cover + 2 * length first)) cells_stand.place

        end_is : e.end ≡ end_at one cells cover first second
        end_is = omega (arith, all_stands.place, cells_stand.place, length-append cover (first ++ behind), length-append first behind)

        pub in_order_lem : Ordered e
        in_order_lem = let q = second_between one (first_at one cells cover first second) (length first) (length behind) in record { first = omega (arith, first_is, second_is, q.0); second = omega (arith, second_is, end_is, q.1) }

        pub all_laid : {d : List ℕ} {fit : Bool} (laid : Result ℕ NotLaid) (after : List ℕ) → d ≡ sets c 0 (flat (head_words n1 n2 rows columns e.cover e.first e.second)) → fit ≡ fits_at e.first e.second e.end
            → outcome_of laid after ≡ laid_as fit out (part d 0 0 ++ part d 0 (e.end - 0)) → outcome_of laid after ≡ parts_into one cells cover first second out n1 n2 rows columns
        unfolding parts_into kern_words part
        all_laid {d} {fit} laid after headed fitted handed =
            let cover_is : e.cover ≡ cover_at one cells cover first second = v.cover_at_lem ∙ cells_stand.place in
            let h = head_words n1 n2 rows columns e.cover e.first e.second in
            let x = extends_before {p = 0} h (extends_more cells_stand all_stands) (omega arith) in
            let f : 0 + e.end ≡ e.end = omega arith in
            let g : e.end - 0 ≡ e.end = omega arith in
            let whole : part (sets c 0 (flat h)) 0 e.end ≡ flat (h ++ (cells ++ (cover ++ (first ++ behind)))) = sym (rw f at (take_part (sets c 0 (flat h)) 0 e.end (omega (arith, x.room, x.same)))) ∙ x.front in
            handed
            ∙ ap (λ (n : ℕ). laid_as fit out (part d 0 n)) g
            ∙ ap (λ (z : List ℕ). laid_as fit out (part z 0 e.end)) headed
            ∙ ap (laid_as fit out) whole
            ∙ ap (λ (z : Bool). laid_as z out (flat (h ++ (cells ++ (cover ++ (first ++ behind)))))) fitted
            ∙ rw (cover_is, first_is, second_is, end_is) refl

-- What is left, as the cells say it, with the new formats that they ask for.
module _ (packing : ℕ) (s t : List ℕ) (cover : Noted) (first second : Classed) {f : Formats} (n : NewFormats (entries_in t first.map) (entries_in t second.map) s f) (out : List ℕ) where
  abbrev one : Bool
  one = shared packing (notes t first.entries.at first.entries.len) (notes t second.entries.at second.entries.len)

  abbrev cells : List ℕ
  cells = kept_cells (entries_in t first.map) (entries_in t second.map) s f.n1 f.n2

  abbrev glyphs : List ℕ
  glyphs = coverage_words (news t cover.at cover.len)

  abbrev firsts : List ℕ
  firsts = class_words (notes t first.entries.at first.entries.len)

  abbrev seconds : List ℕ
  seconds = class_words (notes t second.entries.at second.entries.len)

  parts_left : parts_into one cells glyphs firsts seconds out f.n1 f.n2 first.count second.count ≡ left_into packing out s t cover first second
  unfolding kern_into
  parts_left = rw (n.n1, n.n2) refl

  module _ {a b : List ℕ} {p : ℕ} (w : Tried a 16 cells b p) where
    pub no_cells : length b < p → limit ≤ length b → refused out 9 ≡ left_into packing out s t cover first second
    no_cells l h = cells_over one cells glyphs firsts seconds out f.n1 f.n2 first.count second.count w l h ∙ parts_left

    module _ (l : p ≤ length b) {c : List ℕ} {e : Ends} (v : Ended one b p glyphs firsts seconds c e) where
      pub no_tail : length c < e.end → limit ≤ length c → refused out 9 ≡ left_into packing out s t cover first second
      no_tail k h = tail_over one cells glyphs firsts seconds out f.n1 f.n2 first.count second.count w l v k h ∙ parts_left

      module _ (k : e.end ≤ length c) where
        pub ordered : Ordered e
        ordered = in_order_lem one cells glyphs firsts seconds out f.n1 f.n2 first.count second.count w l v k

        pub left_laid : {d : List ℕ} {fit : Bool} (laid : Result ℕ NotLaid) (after : List ℕ) → d ≡ sets c 0 (flat (head_words f.n1 f.n2 first.count second.count e.cover e.first e.second)) → fit ≡ fits_at e.first e.second e.end
            → outcome_of laid after ≡ laid_as fit out (part d 0 0 ++ part d 0 (e.end - 0)) → outcome_of laid after ≡ left_into packing out s t cover first second
        left_laid laid after x y z = all_laid one cells glyphs firsts seconds out f.n1 f.n2 first.count second.count w l v k laid after x y z ∙ parts_left
