-- What is left of the coverages of a row, and what the loop over them keeps.
use Prim.Native.Nat.{ℕ, zero, suc, ◌+◌, ◌-◌, ◌*◌, ◌%◌, ◌≤◌, ◌<◌}
use mathlib.Core.Path.{◌≡◌, refl, sym, ap, ◌∙◌, subst}
use mathlib.Core.Bool.{Bool, true, false, cond, true≢false}
use Rattle.std.specs.Prelude.{Option, None, Some}
use mathlib.Core.List.{List, [], ◌∷◌, ◌++◌, append_assoc, append-nil}
use native.Mathlib.Nat.{zero-add}
use native.Mathlib.Decide.{dec_lt}
use native.Mathlib.Omega.{arith}
use lib.ListN.{length, get_or, length-append}
use lib.Seq.{sets, length-sets}
use lib.Dec.{eqb, leb, ltb}
use borrow.Author.Tests.{eq-eqb, ne_eqb, leb-false}
use Rattle.meaning.specs.Words.{word, bytes2, is_some, bind, map_all, find, threes}
use Rattle.meaning.specs.Maps.{glyph_entries}
use Rattle.meaning.specs.Parts.{coverage, coverage_sound}
use Rattle.meaning.specs.Tables.{reach, reaches}
use Rattle.meaning.specs.Fault.{fault_through, coverage_fault}
use Rattle.meaning.specs.Cut.{unless_empty, new_coverage}
use Rattle.meaning.specs.Layout.{runs, indexed, coverage_words}
use Rattle.meaning.specs.Packed.{together}
use Rattle.laws.specs.Stands.{All, Word, Stands, threes_length}
use Rattle.laws.specs.Runs.{indexed_length}
use Rattle.laws.specs.PartsBack.{Glyphs}
use Rattle.laws.specs.Fits.{coverage_fits}
use Rattle.laws.specs.CutGood.{up_length, new_coverage_glyphs}
use Rattle.laws.specs.SoundGood.{part_sound, lowest_none, coverage_good}
use Rattle.laws.specs.PackedReading.{shared_blocks}
use Rattle.glyph_runs.specs.Runs.{map_good}
use Rattle.cell_maps.specs.Cells.{Kept, kept_all, kept_more, holds_kept}
use Rattle.cell_maps.specs.declared.Map.{Map}
use Rattle.area.specs.Extends.{Extends, Tried, extends_none, extends_said, extends_keeps, extends_kept, extends_stands}
use Rattle.area.specs.Part.{news, part, classless}
use Rattle.range_meets.specs.Met.{Met, met_news}
use Rattle.meets.specs.Either.{SeeksGlyphs}
use Rattle.known_blocks.specs.Shared.{blocks_in, known, place_in, blocks_next}
use Rattle.known_blocks.specs.Book.{packs, in_book, Listed, Booked, Repeated, Again, Behind, Settled}
use Rattle.known_blocks.specs.declared.Spot.{Spot}
use Rattle.cover_parts.specs.Behind.{added_by, known_near, place_new}
use Rattle.cover_parts.specs.Rows.{words_left, left_at, block_left, blocks_left, slot_left, row_left, highest_end, Stood, Lays, LaysLeft, Pointed, Placing, Points, Passes, SoundRow, WritesSlot, WritesRow}
use Rattle.cover_parts.specs.declared.Row.{Row}
use Rattle.cover_parts.specs.declared.Slot.{Slot}
use Rattle.cover_parts.specs.declared.Places.{Places}
use Rattle.cover_parts.specs.declared.Held.{Held}
use Rattle.cover_parts.proofs.Lays.{some_none, some_same, fits_one, stood_store, lays_none, lays_one, lays_over, lays_past, stood_more, lays_more, laid_some, laid_none, laid_zero}

-- a part that an offset of a row reaches has no fault if the row's parts have none
through_none : (fault_at : ℕ → Option ℕ) (s : List ℕ) (slot n i : ℕ) → fault_through fault_at s 0 slot n ≡ None → i < n → (word s (slot + 2 * i) ≡ 0 → ⊥) → fault_at (word s (slot + 2 * i)) ≡ None
unfolding fault_through
through_none fault_at s slot zero i h l z = absurd (omega arith)
through_none fault_at s slot (suc n) zero h l z =
    let e : slot + 2 * 0 ≡ slot = omega arith in
    rw e (rw (ne_eqb (word s slot) 0 (rw e at z), zero-add) at (lowest_none (cond (eqb (word s slot) 0) None (fault_at (0 + word s slot))) _ h).0)
through_none fault_at s slot (suc n) (suc i) h l z =
    let e : slot + 2 * suc i ≡ slot + 2 + 2 * i = omega arith in
    rw e (through_none fault_at s (slot + 2) n i (lowest_none (cond (eqb (word s slot) 0) None (fault_at (0 + word s slot))) _ h).1 (omega arith) (rw e at z))

-- the coverage at a non-null offset of a row is sound
pub sound_at : {s : List ℕ} {row : Row} → SoundRow s row → {i at : ℕ} → i < row.len → at ≡ word s (row.at + 2 * i) → (at ≡ 0 → ⊥) → coverage_sound s at ≡ true
unfolding coverage_fault
sound_at {s} {row} k {i} h e z = rw e (part_sound _ _ None (through_none (coverage_fault s) s row.at row.len i k.sound h (λ q. z (e ∙ q)))).0

-- a coverage has two words or more, and at most 65,538
words_two : (gs : List ℕ) → 2 ≤ length (coverage_words gs)
unfolding coverage_words
words_two gs = step (leb (4 + 2 * length gs) (4 + 6 * length (runs (classless gs))))
  where
    step : (t : Bool) → 2 ≤ length (cond t (1 ∷ length gs ∷ gs) (2 ∷ length (runs (classless gs)) ∷ threes (indexed 0 (runs (classless gs)))))
    step true = omega arith
    step false = omega arith

words_most : (gs : List ℕ) → Glyphs gs → length (coverage_words gs) ≤ 65538
unfolding coverage_words
words_most gs k = step (leb (4 + 2 * length gs) (4 + 6 * length rs)) refl
  where
    rs : List (ℕ × ℕ × ℕ)
    rs = runs (classless gs)

    few : length gs ≤ 65536
    few = omega (arith, up_length 0 gs (omega arith) k.0 k.1)

    step : (t : Bool) → leb (4 + 2 * length gs) (4 + 6 * length rs) ≡ t → length (cond t (1 ∷ length gs ∷ gs) (2 ∷ length rs ∷ threes (indexed 0 rs))) ≤ 65538
    step true e = omega (arith, few)
    step false e = omega (arith, few, leb-false (4 + 2 * length gs) (4 + 6 * length rs) e, threes_length (indexed 0 rs), indexed_length 0 rs)

-- One coverage.
module _ (g : List (ℕ × ℕ)) (cov : List ℕ) where
  one_gone : new_coverage g cov ≡ [] → blocks_left g (Some cov ∷ []) ≡ None
  unfolding blocks_left block_left words_left map_all bind unless_empty
  one_gone e = rw e

  words_left_lem : (n : ℕ) (ns : List ℕ) → new_coverage g cov ≡ n ∷ ns → words_left g cov ≡ Some (coverage_words (new_coverage g cov))
  unfolding words_left bind unless_empty
  words_left_lem n ns e = rw e

  left_one : {b : List ℕ} → words_left g cov ≡ Some b → blocks_left g (Some cov ∷ []) ≡ Some (Some b ∷ [])
  unfolding blocks_left block_left map_all bind
  left_one e = rw e

  left_long : {b : List ℕ} → words_left g cov ≡ Some b → 2 ≤ length b
  unfolding words_left bind unless_empty
  left_long {b} e = step (new_coverage g cov) e
    where
      step : (l : List ℕ) → bind (unless_empty l) (λ k. Some (coverage_words k)) ≡ Some b → 2 ≤ length b
      step [] q = absurd (some_none (sym q))
      step (n ∷ ns) q = subst (λ (x : List ℕ). 2 ≤ length x) (some_same q) (words_two (n ∷ ns))

  -- by how many glyphs are noted
  news_gone : (t : List ℕ) (to k : ℕ) → news t to k ≡ new_coverage g cov → k ≡ 0 → blocks_left g (Some cov ∷ []) ≡ None
  unfolding part
  news_gone t to k e z = one_gone (sym e ∙ rw z refl)

  news_left : (t : List ℕ) (to k : ℕ) → news t to k ≡ new_coverage g cov → (k ≡ 0 → ⊥) → words_left g cov ≡ Some (coverage_words (new_coverage g cov))
  unfolding part
  news_left t to zero e z = absurd (z refl)
  news_left t to (suc k) e z = words_left_lem (get_or t to 0 % 65536) (news t (to + 1) k) (sym e)

  -- by whether one is retained
  passes_on : (p : ℕ) → is_some (unless_empty (new_coverage g cov)) ≡ true → Passes (blocks_left g (Some cov ∷ [])) p p
  unfolding is_some unless_empty
  passes_on p h = step (new_coverage g cov) refl h
    where
      step : (l : List ℕ) → new_coverage g cov ≡ l → is_some (unless_empty l) ≡ true → Passes (blocks_left g (Some cov ∷ [])) p p
      step [] e h = absurd (true≢false (sym h))
      step (n ∷ ns) e h = record { gone = λ q. absurd (some_none (sym (left_one (words_left_lem n ns e)) ∙ q)); stays = λ {bs = bs} q. refl }

  passes_gone : (p : ℕ) → is_some (unless_empty (new_coverage g cov)) ≡ false → Passes (blocks_left g (Some cov ∷ [])) p 0
  unfolding is_some unless_empty
  passes_gone p h = step (new_coverage g cov) refl h
    where
      step : (l : List ℕ) → new_coverage g cov ≡ l → is_some (unless_empty l) ≡ false → Passes (blocks_left g (Some cov ∷ [])) p 0
      step [] e h = record { gone = λ q. refl; stays = λ {bs = bs} q. absurd (some_none (sym q ∙ one_gone e)) }
      step (n ∷ ns) e h = absurd (true≢false h)

module _ {form : ℕ} {s : List ℕ} {cover : ℕ} {glyphs : List ℕ} {m : Map} {t : List ℕ} (a : SeeksGlyphs form s cover glyphs m t) (p : ℕ) {r : Bool} (e : r ≡ is_some (unless_empty (new_coverage (glyph_entries form glyphs) (coverage s cover)))) where
  pub over_met : r ≡ true → Passes (slot_left (glyph_entries form glyphs) s cover) p p
  over_met h = passes_on (glyph_entries form glyphs) (coverage s cover) p (sym e ∙ h)

  pub over_gone : r ≡ false → Passes (slot_left (glyph_entries form glyphs) s cover) p 0
  over_gone h = passes_gone (glyph_entries form glyphs) (coverage s cover) p (sym e ∙ h)

-- the blocks of a book, each of two words or more, have at least twice as many words
listed_long : (left : ℕ → Option (List ℕ)) → ((x : ℕ) (d : List ℕ) → left x ≡ Some d → 2 ≤ length d) → (book : List ℕ) (i w : ℕ) (ds : List (List ℕ)) → Listed left book i w ds → 2 * length ds ≤ length (together ds)
unfolding together
listed_long left f book i w [] h = omega arith
listed_long left f book i w (d ∷ ds) h = omega (arith, f _ d h.1, listed_long left f book (i + 1) (w + length d) ds h.2, length-append d (together ds))

-- Where a block stands that was written.
module _ {area : List ℕ} {slot : Slot} {at : Places} {q : ℕ} {book₀ book : List ℕ} {spot : Spot} (a : Placing area slot at q book₀) (s : Settled area at.first at.pos q slot.cover book₀ book spot) where
  same_kind : packs book ≡ packs book₀
  same_kind = ap (λ (n : ℕ). ltb 1 n) s.same

  -- it is new, and too far behind the first
  pub point_far : {r : ℕ} → spot.at ≡ 0 → length area < r → Points area slot at q area r book₀ book
  point_far {r} z l = record {
    same = refl;
    pages = s.same;
    points = λ {left} pre b h. record {
      far = λ g. omega (arith, s.far z a.start, h.place, place_new (packs book₀) at.first pre b (ap (λ (t : Bool). known t pre b) (sym same_kind) ∙ s.unknown pre b h z a.start));
      near = λ g. absurd (omega arith);
      put = λ g. absurd (omega arith);
      end = λ g. absurd (omega arith);
      booked = λ g. absurd (omega arith);
    };
  }

  module _ (z : spot.at ≡ 0 → ⊥) where
    -- no offset can say its place
    pub point_past : {r : ℕ} → 65535 < spot.at → length area < r → Points area slot at q area r book₀ book
    point_past {r} n l = record {
      same = refl;
      pages = s.same;
      points = λ {left} pre b h. record {
        far = λ g. omega (arith, rw same_kind at (s.near pre b h z).0);
        near = λ g. absurd (omega arith);
        put = λ g. absurd (omega arith);
        end = λ g. absurd (omega arith);
        booked = λ g. absurd (omega arith);
      };
    }

    pub point_at : {after : List ℕ} → spot.at ≤ 65535 → after ≡ sets area slot.at (bytes2 spot.at) → Points area slot at q after spot.end book₀ book
    point_at {after} n e = record {
      same = ap length e ∙ length-sets area slot.at (bytes2 spot.at);
      pages = s.same;
      points = λ {left} pre b h. step pre b h (rw same_kind at (s.near pre b h z));
    }
      where
        added_short : (t : Bool) (b : List ℕ) → length (cond t [] b) ≤ length b
        added_short true b = omega arith
        added_short false b = omega arith

        step : {left : ℕ → Option (List ℕ)} (pre : List (Option (List ℕ))) (b : List ℕ) → Behind left pre b area at.first at.pos q slot.cover book₀
            → (spot.at ≡ place_in (packs book₀) at.first pre b) × (spot.end ≡ at.first + 2 * length (blocks_in (packs book₀) (pre ++ (Some b ∷ [])))) × Booked left (in_book (packs book₀) (pre ++ (Some b ∷ []))) book
            → Pointed (packs book₀) left at.first pre b area slot.at after spot.end book
        step pre b h w = record {
          far = λ g. absurd (omega (arith, w.1, a.lies, h.place, h.end, ap length (blocks_next (packs book₀) 0 pre b), length-append (blocks_in (packs book₀) pre) (cond (known (packs book₀) pre b) [] b), added_short (known (packs book₀) pre b) b));
          near = λ g. omega (arith, w.0);
          put = λ g. e ∙ ap (λ (x : ℕ). sets area slot.at (bytes2 x)) w.0;
          end = λ g. w.1;
          booked = λ g. w.2;
        }

module _ {s : List ℕ} {slot : Slot} {glyphs : List ℕ} {h : Held} {t area : List ℕ} {at : Places} {book : List ℕ} (a : WritesSlot s slot glyphs h t area at book) where
  abbrev g : List (ℕ × ℕ)
  g = glyph_entries h.form glyphs

  abbrev cov : List ℕ
  cov = coverage s slot.cover

  abbrev source : ℕ → Option (List ℕ)
  source = left_at g s

  -- the area has ended
  pub slot_over : {r : ℕ} → length area < at.pos → Passes (slot_left g s slot.cover) at.pos r → LaysLeft source (slot_left g s slot.cover) h.map t t area slot.at at area r book book
  slot_over {r} l k = record {
    cells = kept_all (h.map.at + h.map.mask + 1) t;
    same = refl;
    pages = refl;
    gone = k.gone;
    stays = λ {bs = bs} e pre st. lays_over (omega (arith, k.stays e)) bs l;
  }

  module _ (l : at.pos ≤ length area) where
    -- the blocks that stand
    stands : Stood (packs book) source at.first a.standing.pre area at.pos book
    stands = a.standing.stood l

    -- what the search for an earlier one asks
    pub slot_few : get_or book 0 0 < 65536
    slot_few = omega (arith, stands.booked.count, stands.booked.few)

    pub slot_first : at.first < 0x1_0000_0000_0000
    slot_first = omega (arith, stands.laid.place, stands.low)

    -- one from the same place stands already
    pub slot_again : {x : ℕ} {next : List ℕ} → Again book at.first slot.cover x → (x ≡ 0 → ⊥) → next ≡ sets area slot.at (bytes2 x) → LaysLeft source (slot_left g s slot.cover) h.map t t area slot.at at next at.pos book book
    slot_again {x} {next} w z e =
        let y = w.found a.standing.pre stands.booked z in
        laid_some (kept_all (h.map.at + h.map.mask + 1) t) (ap length e ∙ length-sets area slot.at (bytes2 x)) refl (left_one g cov y.is) (λ pre st. step y.words y.is pre (st l) (w.found pre (st l).booked z))
      where
        step : (ws : List ℕ) → source slot.cover ≡ Some ws → (pre : List (Option (List ℕ))) → Stood (packs book) source at.first pre area at.pos book → Repeated source pre book at.first slot.cover x
            → Lays (packs book) source at.first pre area slot.at at.pos (Some ws ∷ []) next at.pos book
        step ws f pre st y =
            let k : added_by (packs book) pre (Some y.words) ≡ [] = ap (λ (b : Bool). cond b [] y.words) y.again in
            subst (λ (v : List ℕ). Lays (packs book) source at.first pre area slot.at at.pos (Some v ∷ []) next at.pos book) (some_same (sym y.is ∙ f))
            (lays_one y.words (omega (arith, a.before, st.laid.place)) (extends_said (extends_none l) (sym k)) (e ∙ ap (λ (n : ℕ). sets area slot.at (bytes2 n)) y.at)
            (omega (arith, known_near (packs book) at.first pre y.words st.near y.again)) (subst (All Word) (sym k) tt) st.low y.booked)

    module _ {next : List ℕ} {k : ℕ} (m : Met (find g) cov t (h.map.at + h.map.mask + 1) next k) where
      -- no glyph is retained
      pub slot_gone : k ≡ 0 → LaysLeft source (slot_left g s slot.cover) h.map t next area slot.at at area 0 book book
      slot_gone z = laid_none m.kept refl refl (news_gone g cov next (h.map.at + h.map.mask + 1) k (met_news g m) z)

      module _ (z : k ≡ 0 → ⊥) {mid : List ℕ} {q : ℕ} (w : Tried area at.pos (coverage_words (news next (h.map.at + h.map.mask + 1) k)) mid q) where
        -- the words of what is left
        abbrev words : List ℕ
        words = coverage_words (new_coverage g cov)

        written : Tried area at.pos words mid q
        written = rw (met_news g m) at w

        is_left : source slot.cover ≡ Some words
        is_left = news_left g cov next (h.map.at + h.map.mask + 1) k (met_news g m) z

        glyphs_left : Glyphs (new_coverage g cov)
        glyphs_left = new_coverage_glyphs g (map_good a.ready.map) cov (coverage_good s a.bytes slot.cover a.sound)

        -- there is no room for them
        pub slot_short : length mid < q → LaysLeft source (slot_left g s slot.cover) h.map t next area slot.at at mid q book book
        slot_short d =
            laid_some m.kept written.same refl (left_one g cov is_left)
            (λ pre st. lays_past (omega (arith, written.same)) (Some words ∷ []) (λ f. omega (arith, written.full (omega (arith, written.same)), stands.low, words_most (new_coverage g cov) glyphs_left)))

        module _ (d : q ≤ length mid) where
          wrote : Extends area at.pos words mid q
          wrote = written.fits (omega (arith, written.same))

          -- they were written, and their place is asked for
          pub slot_placing : Placing mid slot at q book
          slot_placing = record {
            start = omega (arith, a.before);
            behind = omega (arith, stands.laid.place);
            order = omega (arith, wrote.place);
            low = omega (arith, wrote.place, stands.low, words_most (new_coverage g cov) glyphs_left);
            lies = d;
            inside = omega (arith, a.inside, written.same);
            word = a.word;
            few = slot_few;
          }

          module _ (pre : List (Option (List ℕ))) (st : Stood (packs book) source at.first pre area at.pos book) where
            -- they are few, since each has two words or more
            few_stand : packs book ≡ true → at.pos ≤ at.first + 65535 → length (in_book true pre) ≤ 16383
            unfolding shared_blocks
            few_stand e n =
                let ls = listed_long source (λ x b f. left_long g (coverage s x) f) book 1 0 (in_book true pre) (subst (λ (b : Bool). Listed source book 1 0 (in_book b pre)) e st.booked.listed) in
                let p : at.pos ≡ at.first + 2 * length (blocks_in true pre) = subst (λ (b : Bool). at.pos ≡ at.first + 2 * length (blocks_in b pre)) e st.laid.place in
                omega (arith, ls, p)

            behind : Behind source pre words mid at.first at.pos q slot.cover book
            behind = record {
              booked = st.booked;
              place = st.laid.place;
              end = wrote.place;
              some_word = omega (arith, words_two (new_coverage g cov));
              laid = λ e. subst (λ (b : Bool). Stands mid at.first (blocks_in b pre)) e (extends_stands (extends_kept st.laid (extends_keeps wrote)) st.small);
              last = λ e. extends_stands wrote (coverage_fits (new_coverage g cov) glyphs_left);
              from = is_left;
              room = λ e n. omega (arith, few_stand e n, a.standing.room e);
              few = λ e n. omega (arith, few_stand e n);
            }

            -- what they add
            added : {r : ℕ} → r ≡ at.first + 2 * length (blocks_in (packs book) (pre ++ (Some words ∷ []))) → place_in (packs book) at.first pre words ≤ 65535
                → Extends area at.pos (added_by (packs book) pre (Some words)) mid r × All Word (added_by (packs book) pre (Some words)) × (r ≤ highest_end)
            added {r} e n = step (known (packs book) pre words) refl (omega (arith, e, st.laid.place, ap length (blocks_next (packs book) 0 pre words), length-append (blocks_in (packs book) pre) (cond (known (packs book) pre words) [] words)))
              where
                step : (b : Bool) → known (packs book) pre words ≡ b → r ≡ at.pos + 2 * length (cond (known (packs book) pre words) [] words)
                    → Extends area at.pos (cond (known (packs book) pre words) [] words) mid r × All Word (cond (known (packs book) pre words) [] words) × (r ≤ highest_end)
                step true q f =
                    let v : r ≡ at.pos = omega (arith, rw q at f) in
                    rw (q, v) (extends_kept (extends_none l) (extends_keeps wrote), tt, st.low)
                step false x f =
                    let v : r ≡ q = rw x at f ∙ sym wrote.place in
                    rw (x, v) (wrote, coverage_fits (new_coverage g cov) glyphs_left, omega (arith, wrote.place, place_new (packs book) at.first pre words x, st.laid.place, words_most (new_coverage g cov) glyphs_left))

          pub slot_written : {after : List ℕ} {r : ℕ} {book₁ : List ℕ} → Points mid slot at q after r book book₁ → LaysLeft source (slot_left g s slot.cover) h.map t next area slot.at at after r book book₁
          slot_written {after} {r} {book₁} y = laid_some m.kept (y.same ∙ written.same) y.pages (left_one g cov is_left) (λ pre st. step pre (st l) (y.points pre words (behind pre (st l))) (dec_lt (length mid) r))
            where
              step : (pre : List (Option (List ℕ))) → Stood (packs book) source at.first pre area at.pos book → Pointed (packs book) source at.first pre words mid slot.at after r book₁ → Dec (length mid < r)
                  → Lays (packs book) source at.first pre area slot.at at.pos (Some words ∷ []) after r book₁
              step pre st v (yes x) = lays_past (omega (arith, written.same)) (Some words ∷ []) (λ f. absurd (omega (arith, v.far x, fits_one (packs book) at.first pre words f)))
              step pre st v (no x) =
                  let i : r ≤ length mid = omega arith in
                  let u = added pre st (v.end i) (v.near i) in
                  lays_one words (omega (arith, a.before, st.laid.place)) u.0 (v.put i) (v.near i) u.1 u.2 (v.booked i)

-- what a row asks stays where its count is stored before it
pub counted_asks : {s : List ℕ} {row : Row} {glyphs : List ℕ} {h : Held} {t area next : List ℕ} {at : Places} {book : List ℕ} → WritesRow s row glyphs h t area at book → 2 ≤ row.at → next ≡ sets area (row.at - 2) (bytes2 row.len) → WritesRow s row glyphs h t next at book
unfolding bytes2
counted_asks {row = row} {area = area} {next} a l e =
    let xs = bytes2 row.len in
    let n : length next ≡ length area = ap length e ∙ length-sets area (row.at - 2) xs in
    record {
      bytes = a.bytes;
      row = a.row;
      ready = a.ready;
      most = a.most;
      bounds = a.bounds;
      room = a.room;
      inside = omega (arith, a.inside);
      before = a.before;
      start = a.start;
      standing = record { pre = a.standing.pre; stood = λ d. rw e (stood_store (row.at - 2) xs (omega (arith, a.before)) (a.standing.stood (omega arith))); room = a.standing.room };
      short = omega (arith, a.short);
      cells = a.cells;
    }

-- Coverages from the front.
module _ (g : List (ℕ × ℕ)) (s : List ℕ) (slot n : ℕ) where
  -- what is left of those from the i-th on
  abbrev pub left_from : ℕ → Option (List (Option (List ℕ)))
  left_from i = blocks_left g (reaches (coverage s) s 0 (slot + 2 * i) (n - i))

  reaches_left : (i : ℕ) → i < n → reaches (coverage s) s 0 (slot + 2 * i) (n - i) ≡ reach (coverage s) s 0 (slot + 2 * i) ∷ reaches (coverage s) s 0 (slot + 2 * (i + 1)) (n - (i + 1))
  unfolding reaches
  reaches_left i h =
      let e : n - i ≡ suc (n - (i + 1)) = omega arith in
      let f : slot + 2 * (i + 1) ≡ slot + 2 * i + 2 = omega arith in
      rw (e, f)

  module _ {i cover : ℕ} (h : i < n) (e : cover ≡ word s (slot + 2 * i)) where
    null_left : cover ≡ 0 → left_from i ≡ None
    unfolding blocks_left block_left map_all reach bind
    null_left z = rw (reaches_left i h, ← e, eq-eqb cover 0 z)

    there_left : (cover ≡ 0 → ⊥) → left_from i ≡ bind (block_left g (Some (coverage s cover))) (λ b. bind (left_from (i + 1)) (λ bs. Some (b ∷ bs)))
    unfolding blocks_left map_all reach
    there_left z = rw (reaches_left i h, ← e, ne_eqb cover 0 z, zero-add)

-- What the loop over a row keeps: `done` are the blocks that are laid behind those that stood, and with what is left of the others they are what is left of the row.
pub record Rowing (g : List (ℕ × ℕ)) (s : List ℕ) (row : Row) (m : Map) (t₀ before : List ℕ) (at : Places) (book₀ t area book : List ℕ) (p i : ℕ) : Type 0 where
  pub within : i ≤ row.len
  pub cells : Kept (m.at + m.mask + 1) t₀ t
  pub same : length area ≡ length before
  pub pages : length book ≡ length book₀
  pub start : 0 < p
  pub done : List (Option (List ℕ))
  pub count : length done ≡ i
  pub whole : row_left g s row ≡ bind (left_from g s row.at row.len i) (λ bs. Some (done ++ bs))
  pub lays : (pre : List (Option (List ℕ))) → (at.pos ≤ length before → Stood (packs book₀) (left_at g s) at.first pre before at.pos book₀) → Lays (packs book₀) (left_at g s) at.first pre before row.at at.pos done area p book

bind_some : {A : Type 0} (o : Option (List A)) → o ≡ bind o (λ bs. Some ([] ++ bs))
unfolding bind
bind_some None = refl
bind_some (Some bs) = refl

bind_more : {A : Type 0} (done : List A) (b : A) (o : Option (List A)) → bind (bind o (λ bs. Some (b ∷ bs))) (λ bs. Some (done ++ bs)) ≡ bind o (λ bs. Some ((done ++ (b ∷ [])) ++ bs))
unfolding bind
bind_more done b None = refl
bind_more done b (Some bs) = ap Some (sym (append_assoc done (b ∷ []) bs))

module _ {s : List ℕ} {row : Row} {glyphs : List ℕ} {h : Held} {t₀ before : List ℕ} {at : Places} {book₀ : List ℕ} (a : WritesRow s row glyphs h t₀ before at book₀) where
  abbrev gs : List (ℕ × ℕ)
  gs = glyph_entries h.form glyphs

  abbrev from : ℕ → Option (List ℕ)
  from = left_at gs s

  abbrev start : ℕ
  start = row.at

  pub rowing_all : Rowing gs s row h.map t₀ before at book₀ t₀ before book₀ at.pos 0
  rowing_all =
      let e : start + 2 * 0 ≡ start = omega arith in
      let f : row.len - 0 ≡ row.len = omega arith in
      record {
        within = omega arith;
        cells = kept_all (h.map.at + h.map.mask + 1) t₀;
        same = refl;
        pages = refl;
        start = a.start;
        done = [];
        count = refl;
        whole = rw (e, f) (bind_some (row_left gs s row));
        lays = λ pre st. lays_none st;
      }

  module _ {t area book : List ℕ} {p i cover : ℕ} (c : Rowing gs s row h.map t₀ before at book₀ t area book p i) (l : i < row.len) (e : cover ≡ word s (start + 2 * i)) where
    -- a null offset
    pub rowing_null : cover ≡ 0 → LaysLeft from (row_left gs s row) h.map t₀ t before start at area 0 book₀ book
    unfolding bind
    rowing_null z = laid_none c.cells c.same c.pages (c.whole ∙ rw (null_left gs s start row.len l e z))

    -- the layout is the one that was asked for
    same_layout : packs book ≡ packs book₀
    same_layout = ap (λ (n : ℕ). ltb 1 n) c.pages

    -- what stands after what is done
    stood_done : (pre : List (Option (List ℕ))) → (at.pos ≤ length before → Stood (packs book₀) from at.first pre before at.pos book₀) → p ≤ length area → Stood (packs book) from at.first (pre ++ c.done) area p book
    stood_done pre st d = rw same_layout (stood_more st c.same (omega (arith, a.before, c.count)) (c.lays pre st) d)

    -- what the writing of one coverage asks
    pub rowing_asks : (cover ≡ 0 → ⊥) → cover < 65536 → WritesSlot s (record { at = start + 2 * i; cover = cover }) glyphs h t area (record { first = at.first; pos = p }) book
    rowing_asks z w = record {
      bytes = a.bytes;
      sound = sound_at a.row l e z;
      word = w;
      ready = record { map = a.ready.map; holds = holds_kept c.cells (omega arith) a.ready.holds };
      room = rw e (omega (arith, a.bounds i l (λ q. z (e ∙ q)), a.room, c.cells.size));
      inside = omega (arith, a.inside, c.same);
      before = omega (arith, a.before);
      standing = record { pre = a.standing.pre ++ c.done; stood = stood_done a.standing.pre a.standing.stood; room = λ k. omega (arith, a.standing.room (sym same_layout ∙ k), c.pages) };
      short = omega (arith, a.short, c.same);
      cells = omega (arith, a.cells, c.cells.size);
    }

    module _ {next after pages : List ℕ} {r : ℕ} (z : cover ≡ 0 → ⊥) (d : LaysLeft from (slot_left gs s cover) h.map t next area (start + 2 * i) (record { first = at.first; pos = p }) after r book pages) where
      -- what is left of the row, by what is left of this coverage
      row_is : row_left gs s row ≡ bind (bind (block_left gs (Some (coverage s cover))) (λ b. bind (left_from gs s start row.len (i + 1)) (λ bs. Some (b ∷ bs)))) (λ bs. Some (c.done ++ bs))
      row_is = c.whole ∙ ap (λ (o : Option (List (Option (List ℕ)))). bind o (λ bs. Some (c.done ++ bs))) (there_left gs s start row.len l e z)

      slot_is : slot_left gs s cover ≡ bind (block_left gs (Some (coverage s cover))) (λ b. Some (b ∷ []))
      unfolding blocks_left map_all bind
      slot_is = refl

      pub rowing_gone : r ≡ 0 → LaysLeft from (row_left gs s row) h.map t₀ next before start at after 0 book₀ pages
      unfolding bind
      rowing_gone y = laid_none (kept_more c.cells d.cells) (d.same ∙ c.same) (d.pages ∙ c.pages)
          (row_is ∙ step (block_left gs (Some (coverage s cover))) (sym slot_is ∙ laid_zero (slot_left gs s cover) d (a.standing.pre ++ c.done) (stood_done a.standing.pre a.standing.stood) c.start y))
        where
          step : (o : Option (Option (List ℕ))) → bind o (λ b. Some (b ∷ [])) ≡ None → bind (bind o (λ b. bind (left_from gs s start row.len (i + 1)) (λ bs. Some (b ∷ bs)))) (λ bs. Some (c.done ++ bs)) ≡ None
          step None q = refl
          step (Some b) q = absurd (some_none q)

      pub rowing_turn : (r ≡ 0 → ⊥) → Rowing gs s row h.map t₀ before at book₀ next after pages r (i + 1)
      unfolding bind
      rowing_turn y = step (block_left gs (Some (coverage s cover))) slot_is row_is
        where
          step : (o : Option (Option (List ℕ))) → slot_left gs s cover ≡ bind o (λ b. Some (b ∷ []))
              → row_left gs s row ≡ bind (bind o (λ b. bind (left_from gs s start row.len (i + 1)) (λ bs. Some (b ∷ bs)))) (λ bs. Some (c.done ++ bs))
              → Rowing gs s row h.map t₀ before at book₀ next after pages r (i + 1)
          step None q w = absurd (y (d.gone q))
          step (Some b) q w = record {
            within = omega arith;
            cells = kept_more c.cells d.cells;
            same = d.same ∙ c.same;
            pages = d.pages ∙ c.pages;
            start = omega arith;
            done = c.done ++ (b ∷ []);
            count = omega (arith, length-append c.done (b ∷ []), c.count);
            whole = w ∙ bind_more c.done b (left_from gs s start row.len (i + 1));
            lays = λ pre st. lays_more (start + 2 * i) (omega (arith, c.count)) (λ k. omega (arith, a.before, (st k).laid.place)) c.same (c.lays pre st) (rw same_layout at (d.stays q (pre ++ c.done) (stood_done pre st)));
          }

  pub rowing_end : {t area book : List ℕ} {p i : ℕ} → Rowing gs s row h.map t₀ before at book₀ t area book p i → row.len ≤ i → LaysLeft from (row_left gs s row) h.map t₀ t before start at area p book₀ book
  unfolding blocks_left map_all reaches bind
  rowing_end {t} {area} {book} {p} {i} c l =
      let e : row.len - i ≡ 0 = omega arith in
      laid_some c.cells c.same c.pages (rw e at c.whole ∙ ap Some (append-nil c.done)) c.lays
