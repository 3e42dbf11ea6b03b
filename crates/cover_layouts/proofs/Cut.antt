-- What is left of a context, as `cut` and `layout` say it, handed over.
use Prim.Native.Nat.{ℕ, suc, ◌+◌, ◌-◌, ◌*◌, ◌≤◌, ◌<◌}
use mathlib.Core.Path.{◌≡◌, refl, sym, ap, ◌∙◌, subst}
use mathlib.Core.Bool.{Bool, true, false}
use Rattle.std.specs.Prelude.{Option, None, Some, unwrap_or, Result, Err}
use mathlib.Core.List.{List, [], ◌∷◌, ◌++◌, map}
use native.Mathlib.Omega.{arith}
use lib.ListN.{length}
use borrow.Author.Tests.{eq-eqb, ne_eqb, lt-ltb, le-ltb, ltb-true}
use Rattle.meaning.specs.Words.{flat, bind, map_all}
use Rattle.meaning.specs.Parts.{coverage}
use Rattle.meaning.specs.Maps.{glyph_entries}
use Rattle.meaning.specs.Tables.{Table, cover_context}
use Rattle.meaning.specs.Cut.{unless_empty, new_coverage, covers_left, cut_records, cut}
use Rattle.meaning.specs.Layout.{block, coverage_words}
use Rattle.meaning.specs.Subset.{Outcome, refused, limit, words_in, written_in}
use Rattle.laws.specs.Left.{entries_length}
use Rattle.laws.specs.Through.{Opt}
use Rattle.laws.specs.ReadsBack.{Good, kind_of}
use Rattle.laws.specs.CutGood.{GoodMap, Values, GoodOf}
use Rattle.laws.specs.CutTables.{cut_good}
use Rattle.laws.specs.SoundGood.{reaches_length, covers_context_good}
use Rattle.glyph_runs.specs.Runs.{map_good}
use Rattle.cell_maps.specs.Cells.{Holds}
use Rattle.cell_maps.specs.declared.Map.{Map}
use Rattle.area.specs.Part.{part, take_part}
use Rattle.room.specs.Laid.{enough_area, outcome_of, laid_as, laid_words_lem, laid_unfit}
use Rattle.room.specs.declared.NotLaid.{NotLaid}
use Rattle.room.specs.declared.NotLaid.TheVariants.{Nothing}
use Rattle.tried.specs.Tries.{became, Tries, NoRoom, tries_became, tries_less}
use Rattle.tried.specs.declared.NotCut.{NotCut}
use Rattle.tried.specs.declared.NotCut.TheVariants.{FewCells, Short, Refused}
use Rattle.numbers.specs.Entries.{entries_in}
use Rattle.numbers.specs.Alike.{holds_alike, records_alike}
use Rattle.known_blocks.specs.Book.{book_cells, packs, Begun}
use Rattle.cover_parts.specs.Rows.{words_left, block_left, blocks_left, MostRow}
use Rattle.cover_parts.specs.Parts.{covers_at, records_at, IsContext}
use Rattle.cover_contexts.specs.Context.{covers_words, context_left, offsets_fit, context_fit, Settles, MostNotes, Asks, Begins, Writes}
use Rattle.cover_layouts.specs.Cutting.{words_into, HandsOver, Cuts, CutsInto, is_packed}
use Rattle.cover_parts.specs.declared.Row.{Row}
use Rattle.cover_parts.specs.declared.CoverParts.{CoverParts}
use Rattle.cover_parts.specs.declared.Held.{Held}
use Rattle.cover_contexts.proofs.Layouts.{words_covers, covers_fit}
use Rattle.cover_contexts.proofs.Context.{few_records}

-- the blocks that are left are those of the coverages that are left
blocks_are : (g : List (ℕ × ℕ)) (cs : List (Option (List ℕ))) → blocks_left g cs ≡ bind (covers_left g cs) (λ ks. Some (map (block coverage_words) ks))
unfolding blocks_left block_left words_left covers_left map_all bind block
blocks_are g [] = refl
blocks_are g (None ∷ cs) = refl
blocks_are g (Some cov ∷ cs) = step (unless_empty (new_coverage g cov)) (covers_left g cs) (blocks_left g cs) (blocks_are g cs)
  where
    step : (o : Option (List ℕ)) (p q : Option (List (Option (List ℕ)))) → q ≡ bind p (λ ks. Some (map (block coverage_words) ks))
        → bind (bind (bind o (λ k. Some (coverage_words k))) (λ b. Some (Some b))) (λ b. bind q (λ bs. Some (b ∷ bs))) ≡ bind (bind (bind o (λ k. Some (Some k))) (λ c. bind p (λ ks. Some (c ∷ ks)))) (λ ks. Some (map (block coverage_words) ks))
    step None p q e = refl
    step (Some k) None q e = rw e
    step (Some k) (Some ks) q e = rw e

module _ (chained : Bool) (g l : List (ℕ × ℕ)) (b i a : List (Option (List ℕ))) (rs : List (ℕ × ℕ)) where
  cut_covers : cut g l (Table.by_cover chained b i a rs) ≡ bind (covers_left g b) (λ b'. bind (covers_left g i) (λ i'. bind (covers_left g a) (λ a'. Some (Table.by_cover chained b' i' a' (cut_records l rs)))))
  unfolding cut
  cut_covers = refl

-- as many coverages are left as there were
left_length : (g : List (ℕ × ℕ)) (cs : List (Option (List ℕ))) → Opt (λ ks. length ks ≡ length cs) (covers_left g cs)
unfolding covers_left map_all bind
left_length g [] = refl
left_length g (None ∷ cs) = tt
left_length g (Some cov ∷ cs) = step (unless_empty (new_coverage g cov)) (covers_left g cs) (left_length g cs)
  where
    step : (o : Option (List ℕ)) (p : Option (List (Option (List ℕ)))) → Opt (λ ks. length ks ≡ length cs) p → Opt (λ ks. length ks ≡ suc (length cs)) (bind (bind o (λ k. Some (Some k))) (λ c. bind p (λ ks. Some (c ∷ ks))))
    step None p h = tt
    step (Some k) None h = tt
    step (Some k) (Some ks) h = ap suc h

-- what is left of a context is what the definitions say
context_is : {chained : Bool} {s : List ℕ} {r : CoverParts} → IsContext chained s r → Good (cover_context chained s) → (packing : ℕ) (g l : List (ℕ × ℕ)) → GoodMap g → Values l → (out : List ℕ)
    → words_into (context_fit (is_packed packing) chained g l s r) out (context_left (is_packed packing) chained g l s r) ≡ written_in packing out (cut g l (cover_context chained s))
unfolding context_left context_fit written_in bind
context_is {chained} {s} {r} k good packing g l m v out =
    let is = ap (cut g l) k.table ∙ cut_covers chained g l (covers_at s r.back) (covers_at s r.input) (covers_at s r.ahead) (records_at s r.records) in
    let left = subst (Opt (GoodOf (kind_of (cover_context chained s)))) is (cut_good g l m v (cover_context chained s) good) in
    rw (is, blocks_are g (covers_at s r.back), blocks_are g (covers_at s r.input), blocks_are g (covers_at s r.ahead))
    (step (covers_left g (covers_at s r.back)) (covers_left g (covers_at s r.input)) (covers_left g (covers_at s r.ahead)) (left_length g (covers_at s r.back)) (left_length g (covers_at s r.input)) (left_length g (covers_at s r.ahead)) left)
  where
    at : (row : Row) → length (covers_at s row) ≡ row.len
    at row = reaches_length (coverage s) s 0 row.at row.len

    rs : List (ℕ × ℕ)
    rs = cut_records l (records_at s r.records)

    ws : List (Option (List ℕ)) → List (Option (List ℕ))
    ws ks = map (block coverage_words) ks

    step : (b i a : Option (List (Option (List ℕ)))) → Opt (λ ks. length ks ≡ length (covers_at s r.back)) b → Opt (λ ks. length ks ≡ length (covers_at s r.input)) i → Opt (λ ks. length ks ≡ length (covers_at s r.ahead)) a
        → Opt (GoodOf (kind_of (cover_context chained s))) (bind b (λ b'. bind i (λ i'. bind a (λ a'. Some (Table.by_cover chained b' i' a' rs)))))
        → words_into (unwrap_or (bind (bind b (λ ks. Some (ws ks))) (λ b. bind (bind i (λ ks. Some (ws ks))) (λ i. bind (bind a (λ ks. Some (ws ks))) (λ a. Some (offsets_fit (is_packed packing) chained b i a rs))))) true) out
        (bind (bind b (λ ks. Some (ws ks))) (λ b. bind (bind i (λ ks. Some (ws ks))) (λ i. bind (bind a (λ ks. Some (ws ks))) (λ a. Some (covers_words (is_packed packing) chained b i a rs)))))
        ≡ written_in packing out (bind b (λ b'. bind i (λ i'. bind a (λ a'. Some (Table.by_cover chained b' i' a' rs)))))
    step None i a lb li la o = refl
    step (Some b) None a lb li la o = refl
    step (Some b) (Some i) None lb li la o = refl
    step (Some b) (Some i) (Some a) lb li la o =
        ap (λ (w : List ℕ). laid_as (offsets_fit (is_packed packing) chained (ws b) (ws i) (ws a) rs) out (flat w)) (sym (words_covers chained b i a rs packing))
        ∙ laid_words_lem out (words_in packing (Table.by_cover chained b i a rs))
        (covers_fit b i a rs packing chained o.0 (omega (arith, lb, at r.back, k.few.back)) (omega (arith, li, at r.input, k.few.input)) (omega (arith, la, at r.ahead, k.few.ahead))
        (omega (arith, few_records l (records_at s r.records), entries_length s r.records.at r.records.len, k.few.records)))

-- the lookup map that the cells hold, by any list that they are said to hold
held_is : {chained : Bool} {s : List ℕ} {r : CoverParts} → IsContext chained s r → Good (cover_context chained s) → (packing : ℕ) (g : List (ℕ × ℕ)) {t : List ℕ} {l : Map} {es : List (ℕ × ℕ)} → Holds t l es → GoodMap g → Values es → (out : List ℕ)
    → words_into (context_fit (is_packed packing) chained g (entries_in t l) s r) out (context_left (is_packed packing) chained g (entries_in t l) s r) ≡ written_in packing out (cut g es (cover_context chained s))
unfolding context_left context_fit
held_is {s = s} {r} k good packing g {t} {l} {es} h m v out = rw (records_alike (holds_alike h) (records_at s r.records)) (context_is k good packing g es m v out)

-- What is handed over, by what was written.
module _ {before area : List ℕ} {end : ℕ} where
  -- nothing is left
  settled_none : (left : Option (List ℕ)) (fit : Bool) → Settles left fit before area end → end ≡ 0 → (out : List ℕ) → refused out 8 ≡ words_into fit out left
  settled_none None fit k z out = refl
  settled_none (Some ws) fit k z out = absurd (omega (arith, k.kept refl))

  -- an offset doesn't fit, if the area has enough bytes
  settled_big : (left : Option (List ℕ)) (fit : Bool) → Settles left fit before area end → length before < end → enough_area ≤ length before → (out : List ℕ) → refused out 9 ≡ words_into fit out left
  settled_big None fit k l b out = absurd (omega (arith, k.gone refl))
  settled_big (Some ws) false k l b out = sym (laid_unfit out (flat ws))
  settled_big (Some ws) true k l b out = absurd (omega (arith, k.full refl l refl))

  -- it stands at the area's front
  settled_bytes : (left : Option (List ℕ)) (fit : Bool) → Settles left fit before area end → (end ≡ 0 → ⊥) → end ≤ length before → (out : List ℕ) → laid_as true out (part area 0 0 ++ part area 0 (end - 0)) ≡ words_into fit out left
  unfolding part
  settled_bytes None fit k z l out = absurd (z (k.gone refl))
  settled_bytes (Some ws) fit k z l out =
      let x = k.fits refl l in
      let e : end - 0 ≡ end = omega arith in
      let f : 0 + end ≡ end = omega arith in
      let p : part area 0 end ≡ flat ws = sym (rw f at (take_part area 0 end (omega (arith, x.same)))) ∙ x.front in
      ap (laid_as true out) (rw e p) ∙ ap (λ (t : Bool). laid_as t out (flat ws)) (sym (k.near refl l))

module _ {end : ℕ} {area out : List ℕ} where
  pub hands_nothing : end ≡ 0 → HandsOver end area (Err (Refused Nothing)) out out
  hands_nothing z = record { handed = λ {left = left} {fit = fit} {before = before} k s. settled_none left fit k z out }

  pub hands_no_room : {r : NotCut} → length area < end → NoRoom enough_area (length area) r → HandsOver end area (Err r) out out
  hands_no_room l h = record { handed = λ {left = left} {fit = fit} {before = before} k s. h.told (λ b. settled_big left fit k (omega arith) (omega arith) out) }

  pub hands_over : (laid : Result ℕ NotLaid) {after : List ℕ} → (end ≡ 0 → ⊥) → end ≤ length area → outcome_of laid after ≡ laid_as true out (part area 0 0 ++ part area 0 (end - 0)) → HandsOver end area (became laid) out after
  hands_over laid {after} z l e = record { handed = λ {left = left} {fit = fit} {before = before} k s. tries_became ⊥ (length area < enough_area) laid out after (words_into fit out left) (e ∙ settled_bytes left fit k z (omega arith) out) }

-- The rows of a context, one after the other: each bound is no less than the one before it.
pub most_of : {form : ℕ} {glyphs s : List ℕ} {r : CoverParts} {a b n : ℕ} → MostRow form glyphs s r.back 0 a → MostRow form glyphs s r.input a b → MostRow form glyphs s r.ahead b n → MostNotes form glyphs s r n
most_of k l m = record {
  back = λ i h z. omega (arith, k.bounds i h z, l.above, m.above);
  input = λ i h z. omega (arith, l.bounds i h z, m.above);
  ahead = m.bounds;
  small = m.small (l.small (k.small (omega arith)));
}

-- a book that was made for a layout
pub begins_new : {book after : List ℕ} → Begun book after → (1 < length book → book_cells ≤ length book) → Begins after
begins_new {after = after} b h = record { empty = b.empty; room = λ k. omega (arith, h (omega (arith, ltb-true 1 (length after) k, b.same)), b.same) }

-- what it is for
pub made_packed : {chained : Bool} {s : List ℕ} {r : CoverParts} {glyphs : List ℕ} {h : Held} {l : Map} {t before after : List ℕ} {end : ℕ} {book₀ book : List ℕ} → Begun book₀ book → 1 < length book₀
    → Writes (packs book) chained s r glyphs h l t before after end → Writes true chained s r glyphs h l t before after end
made_packed {book = book} b k w = rw (← lt-ltb 1 (length book) (omega (arith, b.same))) w

pub made_asked : {chained : Bool} {s : List ℕ} {r : CoverParts} {glyphs : List ℕ} {h : Held} {l : Map} {t before after : List ℕ} {end packing : ℕ} → packing ≡ 1
    → Writes true chained s r glyphs h l t before after end → Writes (is_packed packing) chained s r glyphs h l t before after end
made_asked {packing = packing} e w = rw (eq-eqb packing 1 e) w

pub made_plain : {chained : Bool} {s : List ℕ} {r : CoverParts} {glyphs : List ℕ} {h : Held} {l : Map} {t before after : List ℕ} {end packing : ℕ} {book₀ book : List ℕ} → (packing ≡ 1 → ⊥) → Begun book₀ book → length book₀ ≤ 1
    → Writes (packs book) chained s r glyphs h l t before after end → Writes (is_packed packing) chained s r glyphs h l t before after end
made_plain {packing = packing} {book = book} e b k w = rw (ne_eqb packing 1 e, ← le-ltb 1 (length book) (omega (arith, b.same))) w

-- A whole cut.
module _ {chained : Bool} {s glyphs : List ℕ} {h : Held} {l : Map} {t area : List ℕ} (a : Cuts chained s glyphs h l t area) {r : CoverParts} (k : IsContext chained s r) {n : ℕ} (c : MostNotes h.form glyphs s r n) where
  pub cut_asks : h.map.at + h.map.mask + 1 + n < length t → r.records.at + 4 * r.records.len ≤ length area → Asks chained s r glyphs h l t area
  cut_asks f i = record { bytes = a.bytes; source = a.source; parts = k; ready = a.ready; most = n; notes = c; room = f; lookups = a.lookups; header = i; short = a.short; cells = a.cells }

  -- there are too few cells for the notes
  pub cut_few : {packing : ℕ} {out : List ℕ} → length t ≤ h.map.at + h.map.mask + 1 + n → CutsInto packing chained s glyphs h l t area (Err FewCells) out out
  cut_few i = record { cuts = λ {es = es} o v. (omega (arith, c.small), refl) }

  -- the header alone is longer than the area
  pub cut_short : {packing : ℕ} {out : List ℕ} → length area < r.records.at + 4 * r.records.len → CutsInto packing chained s glyphs h l t area (Err Short) out out
  unfolding limit
  cut_short i = record { cuts = λ {es = es} o v. (omega (arith, k.records, a.source), refl) }

  pub cut_into : {packing : ℕ} {next out after : List ℕ} {end : ℕ} {x : Result ℕ NotCut} → Writes (is_packed packing) chained s r glyphs h l t area next end → HandsOver end next x out after → CutsInto packing chained s glyphs h l t area x out after
  cut_into {packing} {next} {out} {after} {end} {x} w v = record {
    cuts = λ {es = es} o u.
        let made = written_in packing out (cut (glyph_entries h.form glyphs) es (cover_context chained s)) in
        tries_less ⊥ (length area < enough_area) (length t ≤ h.map.at + h.map.mask + 1 + 65536) (length area < enough_area) x out after made (λ f. absurd f) (λ f. f)
        (subst (λ (y : Outcome). Tries (⊥) (length area < enough_area) x out after y) (held_is k (covers_context_good s a.bytes chained a.sound) packing (glyph_entries h.form glyphs) o (map_good a.ready.map) u out)
        (rw w.same at (v.handed w.settled w.same)));
  }
