-- A context that is written: what is asked of its parts, and what stands in the area.
use Prim.Native.Nat.{ℕ, suc, ◌+◌, ◌-◌, ◌*◌, ◌/◌, ◌≤◌, ◌<◌}
use mathlib.Core.Path.{◌≡◌, refl, sym, ap, ◌∙◌, subst}
use mathlib.Core.Bool.{Bool, true, false, ◌&&◌, and_assoc}
use Rattle.std.specs.Prelude.{Option, None, Some}
use mathlib.Core.List.{List, [], ◌∷◌, ◌++◌, append_assoc}
use native.Mathlib.Decide.{dec_lt}
use native.Mathlib.Omega.{arith}
use lib.ListN.{length}
use lib.Seq.{sets, length-sets}
use lib.Dec.{ltb}
use Rattle.meaning.specs.Words.{bytes2, flat, twos, bind, push, map_some, map_all}
use Rattle.meaning.specs.Maps.{glyph_entries}
use Rattle.meaning.specs.Tables.{reaches}
use Rattle.meaning.specs.Cut.{cut_records}
use Rattle.meaning.specs.Layout.{words_fit}
use Rattle.meaning.specs.Subset.{limit}
use Rattle.laws.specs.Stands.{All, Word, twos_length}
use Rattle.laws.specs.Left.{entries_length}
use Rattle.laws.specs.Written.{flat_one}
use Rattle.cell_maps.specs.Cells.{Kept, holds_kept, kept_all, kept_more}
use Rattle.cell_maps.specs.declared.Map.{Map}
use Rattle.area.specs.Extends.{Extends, extends_none, extends_said}
use Rattle.numbers.specs.Entries.{entries_in}
use Rattle.numbers.specs.Leaves.{Leaves, leaves_room}
use Rattle.known_blocks.specs.Book.{packs}
use Rattle.cover_parts.specs.Behind.{offsets_behind, blocks_behind, behind_length}
use Rattle.cover_parts.specs.Rows.{left_at, blocks_left, row_left, highest_end, Stood, Lays, LaysLeft, Standing, SoundRow, WritesRow, Bounds}
use Rattle.cover_parts.specs.Parts.{records_at, Plain, Chained}
use Rattle.cover_contexts.specs.Context.{covers_from, covers_words, context_left, offsets_fit, context_fit, Settles, Asks, Begins, Writes}
use Rattle.cover_parts.specs.declared.Row.{Row}
use Rattle.cover_parts.specs.declared.Places.{Places}
use Rattle.cover_parts.specs.declared.Held.{Held}
use Rattle.cover_parts.specs.declared.CoverParts.{CoverParts}
use Rattle.cover_parts.proofs.Lays.{some_none, some_same, stood_store, stood_more, laid_zero}
use Rattle.cover_contexts.proofs.Grows.{Ends, grows_start, grows_words, grows_row, grows_counted, grows_end, head_length, row_length}
use Rattle.cover_contexts.proofs.Layouts.{no_offsets, no_blocks}

-- What is left, where it is known.
module _ {left : Option (List ℕ)} {fit : Bool} {before after : List ℕ} where
  settles_none : left ≡ None → Settles left fit before after 0
  settles_none e = record {
    gone = λ g. refl;
    kept = λ {ws = ws} g. absurd (some_none (sym g ∙ e));
    fits = λ {ws = ws} g h. absurd (some_none (sym g ∙ e));
    near = λ {ws = ws} g h. absurd (some_none (sym g ∙ e));
    full = λ {ws = ws} g h f. absurd (some_none (sym g ∙ e));
  }

  settles_some : (ws : List ℕ) {r : ℕ} → left ≡ Some ws → 0 < length ws → Ends before ws fit after r → Settles left fit before after r
  settles_some ws {r} e n h = record {
    gone = λ g. absurd (some_none (sym e ∙ g));
    kept = λ {ws = vs} g. step (dec_lt (length before) r);
    fits = λ {ws = vs} g l. subst (λ (w : List ℕ). Extends before 0 w after r) (some_same (sym e ∙ g)) (h.0 l);
    near = λ {ws = vs} g l. h.1 l;
    full = λ {ws = vs} g l f. h.2 l f;
  }
    where
      step : Dec (length before < r) → 0 < r
      step (yes g) = omega arith
      step (no g) = omega (arith, (h.0 (omega arith)).place)

-- a layout has words
layout_long : (packed c : Bool) (b i a : List (Option (List ℕ))) (rs : List (ℕ × ℕ)) → 0 < length (covers_words packed c b i a rs)
unfolding covers_words
layout_long packed true b i a rs = omega arith
layout_long packed false b i a rs = omega arith

-- the words of a plain context, as they were written
plain_layout : (packed : Bool) (i : List (Option (List ℕ))) (rs : List (ℕ × ℕ)) (n first : ℕ) → length i ≡ n → first ≡ covers_from false [] i [] rs
    → ((3 ∷ n ∷ length rs ∷ []) ++ offsets_behind packed first [] i) ++ (twos rs ++ blocks_behind packed [] i) ≡ covers_words packed false [] i [] rs
unfolding covers_words
plain_layout packed i rs n first c e = rw (e, ← c)

-- what is left of a plain context, whose other rows reach nothing
no_covers : (g : List (ℕ × ℕ)) (s : List ℕ) (row : Row) → row.len ≡ 0 → row_left g s row ≡ Some []
unfolding blocks_left map_all reaches
no_covers g s row e = rw e

module _ (packed : Bool) (g l : List (ℕ × ℕ)) (s : List ℕ) (r : CoverParts) (q : Plain r) where
  plain_left : context_left packed false g l s r ≡ bind (row_left g s r.input) (λ i. Some (covers_words packed false [] i [] (cut_records l (records_at s r.records))))
  unfolding context_left bind
  plain_left = rw (no_covers g s r.back q.back, no_covers g s r.ahead q.ahead)

  plain_fit : {i : List (Option (List ℕ))} → row_left g s r.input ≡ Some i → context_fit packed false g l s r ≡ words_fit (offsets_behind packed (covers_from false [] i [] (cut_records l (records_at s r.records))) [] i)
  unfolding context_fit offsets_fit bind
  plain_fit e = rw (no_covers g s r.back q.back, no_covers g s r.ahead q.ahead, e) refl

-- the words of a chained context, as they were written
chained_words : (b i a rs x y z : List ℕ) (k nb ni na : ℕ)
    → ((((3 ∷ []) ++ (nb ∷ x)) ++ (ni ∷ y)) ++ (na ∷ z)) ++ ((((k ∷ rs) ++ b) ++ i) ++ a) ≡ 3 ∷ nb ∷ (x ++ (ni ∷ (y ++ (na ∷ (z ++ (k ∷ (rs ++ (b ++ (i ++ a)))))))))
chained_words b i a rs x y z k nb ni na =
    ap (λ (w : List ℕ). 3 ∷ nb ∷ w)
    (append_assoc (x ++ (ni ∷ y)) (na ∷ z) (((k ∷ rs ++ b) ++ i) ++ a)
    ∙ append_assoc x (ni ∷ y) (na ∷ (z ++ (((k ∷ rs ++ b) ++ i) ++ a)))
    ∙ ap (λ (w : List ℕ). x ++ (ni ∷ (y ++ (na ∷ (z ++ (k ∷ w)))))) (append_assoc (rs ++ b) i a ∙ append_assoc rs b (i ++ a)))

-- the same, by its definition
chained_layout : (packed : Bool) (b i a : List (Option (List ℕ))) (rs : List (ℕ × ℕ)) (ps : List ℕ) (nb ni na p : ℕ) → ps ≡ length rs ∷ twos rs → length b ≡ nb → length i ≡ ni → length a ≡ na → p ≡ covers_from true b i a rs
    → ((((3 ∷ []) ++ (nb ∷ offsets_behind packed p [] b)) ++ (ni ∷ offsets_behind packed p b i)) ++ (na ∷ offsets_behind packed p (b ++ i) a)) ++ (((ps ++ blocks_behind packed [] b) ++ blocks_behind packed b i) ++ blocks_behind packed (b ++ i) a) ≡ covers_words packed true b i a rs
unfolding covers_words
chained_layout packed b i a rs ps nb ni na p ep eb ei ea e =
    rw ep
    (chained_words (blocks_behind packed [] b) (blocks_behind packed b i) (blocks_behind packed (b ++ i) a) (twos rs) (offsets_behind packed p [] b) (offsets_behind packed p b i) (offsets_behind packed p (b ++ i) a) (length rs) nb ni na
    ∙ rw (e, ← eb, ← ei, ← ea))

-- words from the area's start on, and whether they fit, said otherwise
said_otherwise : {area after : List ℕ} {end : ℕ} {f g : Bool} (ws vs : List ℕ) → ws ≡ vs → f ≡ g → Ends area ws f after end → Ends area vs g after end
said_otherwise {area} {after} {end} {f} {g} ws vs e d h = subst (λ (w : List ℕ). Ends area w g after end) e (subst (λ (t : Bool). Ends area ws t after end) d h)

-- a row that is left with nothing leaves nothing of the context
module _ (packed c : Bool) (g l : List (ℕ × ℕ)) (s : List ℕ) (r : CoverParts) where
  first_none : row_left g s r.back ≡ None → context_left packed c g l s r ≡ None
  unfolding context_left bind
  first_none e = rw e

  second_none : row_left g s r.input ≡ None → context_left packed c g l s r ≡ None
  unfolding context_left bind
  second_none e = step (row_left g s r.back)
    where
      step : (o : Option (List (Option (List ℕ)))) → bind o (λ b. bind (row_left g s r.input) (λ i. bind (row_left g s r.ahead) (λ a. Some (covers_words packed c b i a (cut_records l (records_at s r.records)))))) ≡ None
      step None = refl
      step (Some b) = rw e

  third_none : row_left g s r.ahead ≡ None → context_left packed c g l s r ≡ None
  unfolding context_left bind
  third_none e = step (row_left g s r.back) (row_left g s r.input)
    where
      step : (o p : Option (List (Option (List ℕ)))) → bind o (λ b. bind p (λ i. bind (row_left g s r.ahead) (λ a. Some (covers_words packed c b i a (cut_records l (records_at s r.records)))))) ≡ None
      step None p = refl
      step (Some b) None = refl
      step (Some b) (Some i) = rw e

  all_some : {b i a : List (Option (List ℕ))} → row_left g s r.back ≡ Some b → row_left g s r.input ≡ Some i → row_left g s r.ahead ≡ Some a
      → context_left packed c g l s r ≡ Some (covers_words packed c b i a (cut_records l (records_at s r.records)))
  unfolding context_left bind
  all_some e f h = rw (e, f, h)

  all_fit : {b i a : List (Option (List ℕ))} → row_left g s r.back ≡ Some b → row_left g s r.input ≡ Some i → row_left g s r.ahead ≡ Some a
      → context_fit packed c g l s r ≡ offsets_fit packed c b i a (cut_records l (records_at s r.records))
  unfolding context_fit bind
  all_fit e f h = rw (e, f, h) refl

-- the offsets of the three rows fit, one after the other
chained_fit : (packed : Bool) (b i a : List (Option (List ℕ))) (rs : List (ℕ × ℕ)) (p : ℕ) → p ≡ covers_from true b i a rs
    → (words_fit (offsets_behind packed p [] b) && words_fit (offsets_behind packed p b i)) && words_fit (offsets_behind packed p (b ++ i) a) ≡ offsets_fit packed true b i a rs
unfolding offsets_fit
chained_fit packed b i a rs p e = and_assoc (words_fit (offsets_behind packed p [] b)) (words_fit (offsets_behind packed p b i)) (words_fit (offsets_behind packed p (b ++ i) a)) ∙ rw e

-- a chained context's header and what follows it, as they grow
chained_grown : (packed : Bool) {left : ℕ → Option (List ℕ)} (R : ℕ) (area ps : List ℕ) (rs : List (ℕ × ℕ)) (B I A : List (Option (List ℕ))) (ab ai aa nb ni na : ℕ) {mid next a₁ a₂ a₃ b₁ b₂ b₃ : List ℕ} {p q u end : ℕ} → ps ≡ length rs ∷ twos rs
    → ab ≡ 4 → ai ≡ 6 + 2 * nb → aa ≡ ai + 2 * ni + 2 → R ≡ aa + 2 * na → length B ≡ nb → length I ≡ ni → length A ≡ na
    → Extends area R ps mid p → next ≡ sets mid 0 (bytes2 3)
    → length a₁ ≡ length (sets next (ab - 2) (bytes2 nb)) → Lays packed left p [] (sets next (ab - 2) (bytes2 nb)) ab p B a₁ q b₁
    → length a₂ ≡ length (sets a₁ (ai - 2) (bytes2 ni)) → Lays packed left p B (sets a₁ (ai - 2) (bytes2 ni)) ai q I a₂ u b₂
    → length a₃ ≡ length (sets a₂ (aa - 2) (bytes2 na)) → Lays packed left p (B ++ I) (sets a₂ (aa - 2) (bytes2 na)) aa u A a₃ end b₃
    → Ends area (covers_words packed true B I A rs) (offsets_fit packed true B I A rs) a₃ end
unfolding covers_from
chained_grown packed R area ps rs B I A ab ai aa nb ni na {mid} {next} {a₁} {a₂} {a₃} {p = p} ep eb ei ea er cb ci ca x e sb hb si hi sa ha =
    let ob = offsets_behind packed p [] B in
    let oi = offsets_behind packed p B I in
    let oa = offsets_behind packed p (B ++ I) A in
    let g = grows_words (grows_start x) (3 ∷ []) refl (omega arith) (e ∙ ap (sets mid 0) (sym (flat_one 3))) in
    let gb = grows_counted g B (omega arith) (omega arith) (omega arith) cb sb hb in
    let lb = head_length (3 ∷ []) nb packed p [] B in
    let gi = grows_counted gb I (omega arith) (omega arith) (omega arith) ci si hi in
    let li = head_length ((3 ∷ []) ++ (nb ∷ ob)) ni packed p B I in
    let ga = grows_counted gi A (omega arith) (omega arith) (omega arith) ca sa ha in
    let la = head_length (((3 ∷ []) ++ (nb ∷ ob)) ++ (ni ∷ oi)) na packed p (B ++ I) A in
    let lp : length ps ≡ 1 + 2 * length rs = omega (arith, ap length ep, twos_length rs) in
    let f : p ≡ covers_from true B I A rs = omega (arith, x.place) in
    said_otherwise
    (((((3 ∷ []) ++ (nb ∷ ob)) ++ (ni ∷ oi)) ++ (na ∷ oa)) ++ (((ps ++ blocks_behind packed [] B) ++ blocks_behind packed B I) ++ blocks_behind packed (B ++ I) A))
    (covers_words packed true B I A rs)
    (chained_layout packed B I A rs ps nb ni na p ep cb ci ca f)
    (chained_fit packed B I A rs p f)
    (grows_end ga (omega arith))

-- no more records are left than there were
some_length : {A B : Type 0} (f : A → Option B) (xs : List A) → length (map_some f xs) ≤ length xs
unfolding map_some push
some_length f [] = omega arith
some_length f (x ∷ xs) = step (f x) (some_length f xs)
  where
    step : (o : Option _) → length (map_some f xs) ≤ length xs → length (push o (map_some f xs)) ≤ suc (length xs)
    step None h = omega arith
    step (Some y) h = omega arith

pub few_records : (l rs : List (ℕ × ℕ)) → length (cut_records l rs) ≤ length rs
unfolding cut_records
few_records l rs = some_length _ rs

-- the records that stay, by the lookup map that the cells of l hold
abbrev kept_at : List ℕ → Map → List ℕ → CoverParts → List (ℕ × ℕ)
kept_at t l s r = cut_records (entries_in t l) (records_at s r.records)

-- the layout is the one that was asked for
same_kind : (a b : List ℕ) → length a ≡ length b → packs a ≡ packs b
same_kind a b e = ap (λ (n : ℕ). ltb 1 n) e

-- no coverage stands yet
begin_stood : {book : List ℕ} → Begins book → (left : ℕ → Option (List ℕ)) {area : List ℕ} {p : ℕ} → p ≤ highest_end → p ≤ length area → Stood (packs book) left p [] area p book
begin_stood {book} b left {area} {p} l h = record {
  from = area;
  laid = extends_said (extends_none h) (sym (no_blocks (packs book)));
  small = subst (All Word) (sym (no_blocks (packs book))) tt;
  near = subst (All Word) (sym (no_offsets (packs book) p)) tt;
  low = l;
  booked = b.empty left;
}

-- the records end by the limit
records_low : {c : Bool} {s : List ℕ} {r : CoverParts} {glyphs : List ℕ} {h : Held} {l : Map} {t area : List ℕ} → Asks c s r glyphs h l t area → r.records.at + 4 * length (kept_at t l s r) ≤ highest_end
unfolding limit
records_low {s = s} {r} {l = l} {t} a = omega (arith, few_records (entries_in t l) (records_at s r.records), entries_length s r.records.at r.records.len, a.parts.records, a.source)

-- a count that is stored before the coverages leaves them
stored : {packed : Bool} {left : ℕ → Option (List ℕ)} {first : ℕ} {pre : List (Option (List ℕ))} {area : List ℕ} {pos : ℕ} {book : List ℕ} (at v : ℕ) → at + 2 ≤ first → (pos ≤ length area → Stood packed left first pre area pos book)
    → pos ≤ length (sets area at (bytes2 v)) → Stood packed left first pre (sets area at (bytes2 v)) pos book
unfolding bytes2
stored {area = area} at v l st k = stood_store at (bytes2 v) l (st (omega (arith, length-sets area at (bytes2 v))))

module _ {s : List ℕ} {r : CoverParts} {glyphs : List ℕ} {h : Held} {l : Map} {t area book : List ℕ} (n : Begins book) where
  module _ (a : Asks false s r glyphs h l t area) where
    module _ {mid next : List ℕ} {p : ℕ} (w : Extends area r.records.at (twos (kept_at t l s r)) mid p) (f : next ≡ sets mid 0 (flat (3 ∷ r.input.len ∷ (p - r.records.at) / 4 ∷ []))) where
      q : Plain r
      q = a.parts.plain refl

      plain_same : length next ≡ length area
      plain_same = ap length f ∙ length-sets mid 0 (flat (3 ∷ r.input.len ∷ (p - r.records.at) / 4 ∷ [])) ∙ w.same

      plain_stood : p ≤ length next → Stood (packs book) (left_at (glyph_entries h.form glyphs) s) p [] next p book
      plain_stood d = begin_stood n (left_at (glyph_entries h.form glyphs) s) (omega (arith, records_low a, w.place, twos_length (kept_at t l s r))) d

      -- what the row of a plain context asks, after the records and the counts
      pub plain_asks : WritesRow s r.input glyphs h t next (record { first = p; pos = p }) book
      plain_asks = record {
        bytes = a.bytes;
        row = a.parts.input;
        ready = a.ready;
        most = a.most;
        bounds = a.notes.input;
        room = a.room;
        inside = omega (arith, a.header, q.input, q.records, plain_same);
        before = omega (arith, q.input, q.records, w.place);
        start = omega (arith, q.records, w.place);
        standing = record { pre = []; stood = plain_stood; room = n.room };
        short = omega (arith, a.short, plain_same);
        cells = a.cells;
      }

      pub plain_settles : {after t₁ book₁ : List ℕ} {end : ℕ} → LaysLeft (left_at (glyph_entries h.form glyphs) s) (row_left (glyph_entries h.form glyphs) s r.input) h.map t t₁ next r.input.at (record { first = p; pos = p }) after end book book₁ → Writes (packs book) false s r glyphs h l t area after end
      unfolding bind covers_from
      plain_settles {after} {t₁} {book₁} {end} d = record { same = d.same ∙ plain_same; settled = step (row_left (glyph_entries h.form glyphs) s r.input) refl d }
        where
          step : (o : Option (List (Option (List ℕ)))) → row_left (glyph_entries h.form glyphs) s r.input ≡ o → LaysLeft (left_at (glyph_entries h.form glyphs) s) o h.map t t₁ next r.input.at (record { first = p; pos = p }) after end book book₁
              → Settles (context_left (packs book) false (glyph_entries h.form glyphs) (entries_in t l) s r) (context_fit (packs book) false (glyph_entries h.form glyphs) (entries_in t l) s r) area after end
          step None o d = subst (λ (n : ℕ). Settles (context_left (packs book) false (glyph_entries h.form glyphs) (entries_in t l) s r) (context_fit (packs book) false (glyph_entries h.form glyphs) (entries_in t l) s r) area after n) (sym (d.gone refl)) (settles_none (plain_left (packs book) (glyph_entries h.form glyphs) (entries_in t l) s r q ∙ rw o refl))
          step (Some i) o d =
              let rs = kept_at t l s r in
              let c : length i ≡ r.input.len = row_length (glyph_entries h.form glyphs) s r.input i o in
              let k : (p - r.records.at) / 4 ≡ length rs = omega (arith, w.place, twos_length rs) in
              let e : next ≡ sets mid 0 (flat (3 ∷ r.input.len ∷ length rs ∷ [])) = f ∙ ap (λ (n : ℕ). sets mid 0 (flat (3 ∷ r.input.len ∷ n ∷ []))) k in
              let b = grows_words (grows_start w) (3 ∷ r.input.len ∷ length rs ∷ []) refl (omega (arith, q.records)) e in
              let j = grows_row b i (omega (arith, q.input)) (omega (arith, q.input, q.records)) d.same (d.stays refl [] plain_stood) in
              let first : p ≡ covers_from false [] i [] rs = omega (arith, w.place, q.records, twos_length rs) in
              let v = grows_end j (omega (arith, q.records, behind_length (packs book) p [] i)) in
              settles_some (covers_words (packs book) false [] i [] rs) (plain_left (packs book) (glyph_entries h.form glyphs) (entries_in t l) s r q ∙ rw o refl) (layout_long (packs book) false [] i [] rs)
              (said_otherwise _ (covers_words (packs book) false [] i [] rs) (plain_layout (packs book) i rs r.input.len p c first) (ap (λ (n : ℕ). words_fit (offsets_behind (packs book) n [] i)) first ∙ sym (plain_fit (packs book) (glyph_entries h.form glyphs) (entries_in t l) s r q o)) v)

  module _ (a : Asks true s r glyphs h l t area) where
    -- how the parts follow each other
    link : Chained r
    link = a.parts.chain refl

    -- what a row of a chained context asks
    row_asks : (row : Row) → SoundRow s row → Bounds h.form glyphs s row a.most → 2 ≤ row.at → row.at + 2 * row.len + 2 ≤ r.records.at → {t₁ next book₁ : List ℕ} (at : Places) → Kept (h.map.at + h.map.mask + 1) t t₁ → length next ≡ length area → r.records.at - 2 ≤ at.first → 0 < at.pos
        → Standing (left_at (glyph_entries h.form glyphs) s) at next book₁ → WritesRow s row glyphs h t₁ next at book₁ × (2 ≤ row.at)
    row_asks row sound bounds low high at k e i o st = (
      record {
        bytes = a.bytes;
        row = sound;
        ready = record { map = a.ready.map; holds = holds_kept k (omega arith) a.ready.holds };
        most = a.most;
        bounds = bounds;
        room = omega (arith, a.room, k.size);
        inside = omega (arith, a.header);
        before = omega arith;
        start = o;
        standing = st;
        short = omega (arith, a.short);
        cells = omega (arith, a.cells, k.size);
      },
      low,
    )

    -- the records with their number: there is room for them
    pub counted_written : {mid : List ℕ} {p : ℕ} → Leaves area (r.records.at - 2) (Some (length (kept_at t l s r) ∷ twos (kept_at t l s r))) (2 + 4 * r.records.len) mid p → Extends area (r.records.at - 2) (length (kept_at t l s r) ∷ twos (kept_at t l s r)) mid p
    counted_written w = w.stays refl (leaves_room w (omega (arith, a.header, link.records)))

    -- after the records and the format
    module _ {mid next : List ℕ} {p : ℕ} (w : Extends area (r.records.at - 2) (length (kept_at t l s r) ∷ twos (kept_at t l s r)) mid p) (e : next ≡ sets mid 0 (bytes2 3)) where
      next_same : length next ≡ length area
      next_same = ap length e ∙ length-sets mid 0 (bytes2 3) ∙ w.same

      first_stood : p ≤ length next → Stood (packs book) (left_at (glyph_entries h.form glyphs) s) p [] next p book
      first_stood d = begin_stood n (left_at (glyph_entries h.form glyphs) s) (omega (arith, records_low a, w.place, twos_length (kept_at t l s r), link.records)) d

      pub back_asks : WritesRow s r.back glyphs h t next (record { first = p; pos = p }) book × (2 ≤ r.back.at)
      back_asks =
          row_asks r.back a.parts.back a.notes.back (omega (arith, link.back)) (omega (arith, link.back, link.input, link.ahead, link.records)) (record { first = p; pos = p }) (kept_all (h.map.at + h.map.mask + 1) t) next_same (omega (arith, w.place)) (omega (arith, w.place))
          (record { pre = []; stood = first_stood; room = n.room })

      -- the area with the count of the backtrack
      abbrev n₁ : List ℕ
      n₁ = sets next (r.back.at - 2) (bytes2 r.back.len)

      back_before : p ≤ length n₁ → Stood (packs book) (left_at (glyph_entries h.form glyphs) s) p [] n₁ p book
      back_before = stored (r.back.at - 2) r.back.len (omega (arith, link.back, link.input, link.ahead, link.records, w.place)) first_stood

      module _ {t₁ a₁ book₁ : List ℕ} {q : ℕ} (d : LaysLeft (left_at (glyph_entries h.form glyphs) s) (row_left (glyph_entries h.form glyphs) s r.back) h.map t t₁ n₁ r.back.at (record { first = p; pos = p }) a₁ q book book₁) where
        pub back_same : length a₁ ≡ length area
        back_same = d.same ∙ length-sets next (r.back.at - 2) (bytes2 r.back.len) ∙ next_same

        kind₁ : packs book₁ ≡ packs book
        kind₁ = same_kind book₁ book d.pages

        pub back_gone : q ≡ 0 → Writes (packs book) true s r glyphs h l t area a₁ 0
        back_gone z = record {
          same = back_same;
          settled = settles_none (first_none (packs book) true (glyph_entries h.form glyphs) (entries_in t l) s r (laid_zero (row_left (glyph_entries h.form glyphs) s r.back) d [] back_before (omega (arith, w.place)) z));
        }

        back_stood : {B : List (Option (List ℕ))} → row_left (glyph_entries h.form glyphs) s r.back ≡ Some B → q ≤ length a₁ → Stood (packs book₁) (left_at (glyph_entries h.form glyphs) s) p B a₁ q book₁
        back_stood {B} eb k = subst (λ (b : Bool). Stood b (left_at (glyph_entries h.form glyphs) s) p B a₁ q book₁) (sym kind₁) (stood_more back_before d.same (omega (arith, link.back, link.input, link.ahead, link.records, w.place, row_length (glyph_entries h.form glyphs) s r.back B eb)) (d.stays eb [] back_before) k)

        module _ (z : q ≡ 0 → ⊥) where
          back_standing : Standing (left_at (glyph_entries h.form glyphs) s) (record { first = p; pos = q }) a₁ book₁
          back_standing = step (row_left (glyph_entries h.form glyphs) s r.back) refl
            where
              step : (o : Option (List (Option (List ℕ)))) → row_left (glyph_entries h.form glyphs) s r.back ≡ o → Standing (left_at (glyph_entries h.form glyphs) s) (record { first = p; pos = q }) a₁ book₁
              step None o = absurd (z (d.gone o))
              step (Some B) o = record { pre = B; stood = back_stood o; room = λ k. omega (arith, n.room (sym kind₁ ∙ k), d.pages) }

          pub input_asks : WritesRow s r.input glyphs h t₁ a₁ (record { first = p; pos = q }) book₁ × (2 ≤ r.input.at)
          input_asks = row_asks r.input a.parts.input a.notes.input (omega (arith, link.input)) (omega (arith, link.ahead, link.records)) (record { first = p; pos = q }) d.cells back_same (omega (arith, w.place)) (omega arith) back_standing

          -- the area with the count of the input
          abbrev n₂ : List ℕ
          n₂ = sets a₁ (r.input.at - 2) (bytes2 r.input.len)

          input_before : {pre : List (Option (List ℕ))} → (q ≤ length a₁ → Stood (packs book₁) (left_at (glyph_entries h.form glyphs) s) p pre a₁ q book₁) → q ≤ length n₂ → Stood (packs book₁) (left_at (glyph_entries h.form glyphs) s) p pre n₂ q book₁
          input_before st = stored (r.input.at - 2) r.input.len (omega (arith, link.ahead, link.records, w.place)) st

          module _ {t₂ a₂ book₂ : List ℕ} {u : ℕ} (f : LaysLeft (left_at (glyph_entries h.form glyphs) s) (row_left (glyph_entries h.form glyphs) s r.input) h.map t₁ t₂ n₂ r.input.at (record { first = p; pos = q }) a₂ u book₁ book₂) where
            input_same : length a₂ ≡ length area
            input_same = f.same ∙ length-sets a₁ (r.input.at - 2) (bytes2 r.input.len) ∙ back_same

            kind₂ : packs book₂ ≡ packs book
            kind₂ = same_kind book₂ book (f.pages ∙ d.pages)

            pub input_gone : u ≡ 0 → Writes (packs book) true s r glyphs h l t area a₂ 0
            input_gone y = record {
              same = input_same;
              settled = settles_none (second_none (packs book) true (glyph_entries h.form glyphs) (entries_in t l) s r (laid_zero (row_left (glyph_entries h.form glyphs) s r.input) f back_standing.pre (input_before back_standing.stood) (omega arith) y));
            }

            input_stood : {B I : List (Option (List ℕ))} → row_left (glyph_entries h.form glyphs) s r.back ≡ Some B → row_left (glyph_entries h.form glyphs) s r.input ≡ Some I → u ≤ length a₂ → Stood (packs book₂) (left_at (glyph_entries h.form glyphs) s) p (B ++ I) a₂ u book₂
            input_stood {B} {I} eb ei k =
                subst (λ (b : Bool). Stood b (left_at (glyph_entries h.form glyphs) s) p (B ++ I) a₂ u book₂) (sym (same_kind book₂ book₁ f.pages))
                (stood_more (input_before (back_stood eb)) f.same (omega (arith, link.ahead, link.records, w.place, row_length (glyph_entries h.form glyphs) s r.input I ei)) (f.stays ei B (input_before (back_stood eb))) k)

            module _ (y : u ≡ 0 → ⊥) where
              input_standing : Standing (left_at (glyph_entries h.form glyphs) s) (record { first = p; pos = u }) a₂ book₂
              input_standing = step (row_left (glyph_entries h.form glyphs) s r.back) (row_left (glyph_entries h.form glyphs) s r.input) refl refl
                where
                  step : (o v : Option (List (Option (List ℕ)))) → row_left (glyph_entries h.form glyphs) s r.back ≡ o → row_left (glyph_entries h.form glyphs) s r.input ≡ v → Standing (left_at (glyph_entries h.form glyphs) s) (record { first = p; pos = u }) a₂ book₂
                  step None v o x = absurd (z (d.gone o))
                  step (Some B) None o x = absurd (y (f.gone x))
                  step (Some B) (Some I) o x = record { pre = B ++ I; stood = input_stood o x; room = λ k. omega (arith, n.room (sym kind₂ ∙ k), d.pages, f.pages) }

              pub ahead_asks : WritesRow s r.ahead glyphs h t₂ a₂ (record { first = p; pos = u }) book₂ × (2 ≤ r.ahead.at)
              ahead_asks = row_asks r.ahead a.parts.ahead a.notes.ahead (omega (arith, link.ahead)) (omega (arith, link.records)) (record { first = p; pos = u }) (kept_more d.cells f.cells) input_same (omega (arith, w.place)) (omega arith) input_standing

              -- the area with the count of the lookahead
              abbrev n₃ : List ℕ
              n₃ = sets a₂ (r.ahead.at - 2) (bytes2 r.ahead.len)

              module _ {t₃ a₃ book₃ : List ℕ} {end : ℕ} (j : LaysLeft (left_at (glyph_entries h.form glyphs) s) (row_left (glyph_entries h.form glyphs) s r.ahead) h.map t₂ t₃ n₃ r.ahead.at (record { first = p; pos = u }) a₃ end book₂ book₃) where
                ahead_same : length a₃ ≡ length area
                ahead_same = j.same ∙ length-sets a₂ (r.ahead.at - 2) (bytes2 r.ahead.len) ∙ input_same

                -- all three rows are left
                all_rows : (B I A : List (Option (List ℕ))) → row_left (glyph_entries h.form glyphs) s r.back ≡ Some B → row_left (glyph_entries h.form glyphs) s r.input ≡ Some I → row_left (glyph_entries h.form glyphs) s r.ahead ≡ Some A
                    → Settles (context_left (packs book) true (glyph_entries h.form glyphs) (entries_in t l) s r) (context_fit (packs book) true (glyph_entries h.form glyphs) (entries_in t l) s r) area a₃ end
                all_rows B I A eb ei ea =
                    let rs = kept_at t l s r in
                    let hb = d.stays eb [] back_before in
                    let hi = subst (λ (b : Bool). Lays b (left_at (glyph_entries h.form glyphs) s) p B n₂ r.input.at q I a₂ u book₂) kind₁ (f.stays ei B (input_before (back_stood eb))) in
                    let ha = subst (λ (b : Bool). Lays b (left_at (glyph_entries h.form glyphs) s) p (B ++ I) n₃ r.ahead.at u A a₃ end book₃) kind₂ (j.stays ea (B ++ I) (stored (r.ahead.at - 2) r.ahead.len (omega (arith, link.records, w.place)) (input_stood eb ei))) in
                    settles_some (covers_words (packs book) true B I A rs) (all_some (packs book) true (glyph_entries h.form glyphs) (entries_in t l) s r eb ei ea) (layout_long (packs book) true B I A rs)
                    (subst (λ (fit : Bool). Ends area (covers_words (packs book) true B I A rs) fit a₃ end) (sym (all_fit (packs book) true (glyph_entries h.form glyphs) (entries_in t l) s r eb ei ea))
                    (chained_grown (packs book) (r.records.at - 2) area (length rs ∷ twos rs) rs B I A r.back.at r.input.at r.ahead.at r.back.len r.input.len r.ahead.len refl link.back link.input link.ahead (omega (arith, link.records))
                    (row_length (glyph_entries h.form glyphs) s r.back B eb) (row_length (glyph_entries h.form glyphs) s r.input I ei) (row_length (glyph_entries h.form glyphs) s r.ahead A ea) w e d.same hb f.same hi j.same ha))

                pub ahead_settles : Writes (packs book) true s r glyphs h l t area a₃ end
                ahead_settles = record { same = ahead_same; settled = step (row_left (glyph_entries h.form glyphs) s r.back) (row_left (glyph_entries h.form glyphs) s r.input) (row_left (glyph_entries h.form glyphs) s r.ahead) refl refl refl }
                  where
                    step : (o p' v : Option (List (Option (List ℕ)))) → row_left (glyph_entries h.form glyphs) s r.back ≡ o → row_left (glyph_entries h.form glyphs) s r.input ≡ p' → row_left (glyph_entries h.form glyphs) s r.ahead ≡ v
                        → Settles (context_left (packs book) true (glyph_entries h.form glyphs) (entries_in t l) s r) (context_fit (packs book) true (glyph_entries h.form glyphs) (entries_in t l) s r) area a₃ end
                    step None p' v eb ei ea = absurd (z (d.gone eb))
                    step (Some B) None v eb ei ea = absurd (y (f.gone ei))
                    step (Some B) (Some I) None eb ei ea = subst (λ (x : ℕ). Settles (context_left (packs book) true (glyph_entries h.form glyphs) (entries_in t l) s r) (context_fit (packs book) true (glyph_entries h.form glyphs) (entries_in t l) s r) area a₃ x) (sym (j.gone ea)) (settles_none (third_none (packs book) true (glyph_entries h.form glyphs) (entries_in t l) s r ea))
                    step (Some B) (Some I) (Some A) eb ei ea = all_rows B I A eb ei ea
