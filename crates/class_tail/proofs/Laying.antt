-- Class tables one after the other, and what follows the sets.
use Prim.Native.Nat.{ℕ, ◌+◌, ◌-◌, ◌*◌, ◌%◌, ◌≤◌, ◌<◌}
use mathlib.Core.Path.{◌≡◌, refl, sym, ap, ◌∙◌, subst}
use mathlib.Core.Bool.{Bool, true, false}
use Rattle.std.specs.Prelude.{Option, None}
use mathlib.Core.List.{List, [], ◌∷◌, ◌++◌, map, append-nil}
use native.Mathlib.Omega.{arith}
use lib.ListN.{length, get_or, take, length-append, length-map}
use lib.Seq.{sets, length-sets, take_all}
use lib.Dec.{ltb}
use Rattle.meaning.specs.Words.{bytes2, words, flat}
use Rattle.meaning.specs.Maps.{glyph_entries}
use Rattle.laws.specs.Stands.{flat_length}
use Rattle.laws.specs.Written.{sets_one}
use Rattle.area.specs.Extends.{Keeps, Extends, Tried, keeps_extends, extends_more}
use Rattle.area.specs.Part.{part, part_length, news}
use Rattle.area.specs.Stored.{extends_store}
use Rattle.numbers.proofs.Fronts.{part_extends}
use Rattle.known_blocks.specs.Shared.{offsets_in, blocks_in}
use Rattle.known_blocks.specs.Book.{book_cells, packs, Begun}
use Rattle.class_lists.specs.Elsewhere.{Elsewhere, elsewhere_all, elsewhere_more}
use Rattle.class_spots.specs.Slots.{settled, Noted}
use Rattle.class_spots.specs.Placing.{Gathered}
use Rattle.class_spots.specs.declared.Turn.{Turn}
use Rattle.class_spots.proofs.Halves.{offsets_many}
use Rattle.class_spots.proofs.Gathering.{gathered_all, gathered_count}
use Rattle.class_slots.proofs.Offsets.{offsets_back, noted_settled}
use Rattle.remade_classes.specs.Made.{new_table, OldIn, old_stays, MakeAsked}
use Rattle.remade_classes.specs.Tail.{cover_of, table_blocks, cover_short, tables_fit, tail_offsets, TailIn, Touches, BlockAsked, PlacedTable, NotedTables, LaidTables, Lays, Places, TablesAsked}
use Rattle.remade_classes.specs.declared.OldTable.{OldTable}
use Rattle.remade_classes.specs.declared.Tail.{Tail}
use Rattle.new_class_tables.proofs.Fitting.{none_fits, front_fits, halves_fit, tail_fits, tail_fit_lem}
use Rattle.new_class_tables.proofs.Placing.{keeps_store, touches_none, touches_next, sets_again}

-- what the class tables are, by the places that stand for them in the book
abbrev pub left_of : List (Option (List ℕ)) → ℕ → Option (List ℕ)
left_of all n = get_or all (n - 1) None

-- some of them are gathered, and fit words
pub record Tabled (packed : Bool) (all : List (Option (List ℕ))) (gap p : ℕ) (bs : List (Option (List ℕ))) (before area : List ℕ) (end : ℕ) (book : List ℕ) : Type 0 where
  pub gathered : Gathered packed (left_of all) 4 p bs area end book
  pub fit : tables_fit packed (p - gap) bs ≡ true
  pub same : length area ≡ length before
  pub touched : Touches before 4 (length bs) p area

module _ {gap p : ℕ} {before book₀ : List ℕ} (a : TablesAsked before gap p book₀) (all : List (Option (List ℕ))) where
  -- none so far
  pub tabled_none : {book : List ℕ} → Begun book₀ book → Tabled (packs book₀) all gap p [] before before p book
  tabled_none {book} k =
      let mode : packs book ≡ packs book₀ = ap (ltb 1) k.same in
      record {
        gathered = gathered_all mode a.places.room (rw mode at (k.empty (left_of all))) (λ m. omega (arith, a.enough m, k.same));
        fit = none_fits (packs book₀) (p - gap);
        same = refl;
        touched = touches_none;
      }

  module _ {packed : Bool} {bs : List (Option (List ℕ))} {area : List ℕ} {end : ℕ} {book : List ℕ} (h : Tabled packed all gap p bs before area end book) {at slot : ℕ} (few : length bs ≤ 2) (e : slot ≡ 4 + 2 * length bs) where
    -- one more may be written
    pub block_asked : {o : Option (List ℕ)} → at < 65536 → left_of all at ≡ o → BlockAsked o (record { at = at; slot = slot; first = p; pos = end }) gap area book
    block_asked l from = record {
      turn_in = record {
        source = l;
        slot = omega (arith, a.places.before);
        start = omega (arith, h.gathered.noted.place);
        near = h.gathered.near;
        low = a.low;
        room = h.gathered.noted.room;
        count = gathered_count h.gathered;
      };
      near = a.places.near;
      packed = packed;
      left = left_of all;
      slots = 4;
      done = bs;
      gathered = h.gathered;
      from = from;
    }

    module _ {o : Option (List ℕ)} (from : left_of all at ≡ o) {area' book' : List ℕ} {r : ℕ} (k : PlacedTable o (record { at = at; slot = slot; first = p; pos = end }) gap area book area' book' r) where
      -- it was
      pub tabled_next : r ≤ length area' → Tabled packed all gap p (bs ++ (o ∷ [])) before area' r book'
      tabled_next m =
          let l : r ≤ length area = omega (arith, k.same) in
          record {
            gathered = k.there h.gathered from e l;
            fit = k.near h.gathered from e h.fit l;
            same = k.same ∙ h.same;
            touched = touches_next h.touched (k.touched l) e (omega (arith, h.gathered.noted.place)) (omega (arith, a.places.before)) a.places.room (length-append bs (o ∷ []));
          }

      -- it was the last one that was tried
      pub tables_end : (rest : List (Option (List ℕ))) {tables : List (Option (List ℕ))} → (bs ++ (o ∷ [])) ++ rest ≡ tables → (r ≤ length area' → rest ≡ []) → NotedTables packed gap p tables before area' r
      tables_end rest {tables} said last = record {
        same = k.same ∙ h.same;
        noted = λ l. subst (λ (l : List (Option (List ℕ))). Noted packed 4 p l area' r) (whole l) (tabled_next (inside l)).gathered.noted;
        touched = λ l. subst (λ (l : List (Option (List ℕ))). Touches before 4 (length l) p area') (whole l) (tabled_next (inside l)).touched;
        near = λ l. subst (λ (l : List (Option (List ℕ))). tables_fit packed (p - gap) l ≡ true) (whole l) (tabled_next (inside l)).fit;
        full = λ l f. omega (arith, h.same, k.full h.gathered from e (omega (arith, h.same)) (front_fits packed (p - gap) (bs ++ (o ∷ [])) rest (rw (sym said) at f)));
      }
        where
          inside : r ≤ length before → r ≤ length area'
          inside l = omega (arith, k.same, h.same)

          whole : r ≤ length before → bs ++ (o ∷ []) ≡ tables
          whole l = sym (append-nil (bs ++ (o ∷ []))) ∙ ap (λ (l : List (Option (List ℕ))). (bs ++ (o ∷ [])) ++ l) (sym (last (inside l))) ∙ said

-- The class tables of a chained context, or the one of a plain one.
module _ {s glyphs t : List ℕ} {r : Tail} {gap p : ℕ} {before book₀ book : List ℕ} (i : TailIn s glyphs t r) (a : TablesAsked before gap p book₀) (k : Begun book₀ book) where
  abbrev plain : List (Option (List ℕ))
  plain = table_blocks false s glyphs r

  abbrev chain : List (Option (List ℕ))
  chain = table_blocks true s glyphs r

  -- the block of one of them
  abbrev new : OldTable → Option (List ℕ)
  new o = new_table (glyph_entries r.form glyphs) s o.at

  -- the free cells
  abbrev front : ℕ
  front = r.cover.at

  -- one of them can be made, where only these changed
  make_asked : {o : OldTable} {u : List ℕ} → Elsewhere 0 front t u → OldIn (glyph_entries r.form glyphs) s t front o → MakeAsked s o glyphs r.form u front
  make_asked w q = record { map = i.map; inside = omega (arith, i.cover, w.size); old_in = old_stays w q }

  abbrev first : Turn
  first = record { at = 1; slot = 4; first = p; pos = p }

  pub plain_asked : MakeAsked s r.input glyphs r.form t front × BlockAsked (new r.input) first gap before book
  plain_asked = (make_asked elsewhere_all i.input, block_asked a plain (tabled_none a plain k) (omega arith) refl (omega arith) refl)

  pub plain_noted : {after next : List ℕ} {end : ℕ} → PlacedTable (new r.input) first gap before book after next end → (chained : Bool) → chained ≡ false → NotedTables (packs book₀) gap p (table_blocks chained s glyphs r) before after end
  plain_noted h chained e = rw e (tables_end a plain (tabled_none a plain k) (omega arith) refl refl h [] refl (λ l. refl))

  pub back_asked : MakeAsked s r.back glyphs r.form t front × BlockAsked (new r.back) first gap before book
  back_asked = (make_asked elsewhere_all i.back, block_asked a chain (tabled_none a chain k) (omega arith) refl (omega arith) refl)

  module _ {one next : List ℕ} {q : ℕ} (h : PlacedTable (new r.back) first gap before book one next q) where
    pub back_over : length one < q → (chained : Bool) → chained ≡ true → NotedTables (packs book₀) gap p (table_blocks chained s glyphs r) before one q
    back_over l chained e = rw e (tables_end a chain (tabled_none a chain k) (omega arith) refl refl h (new r.input ∷ new r.ahead ∷ []) refl (λ m. absurd (omega arith)))

    module _ (l : q ≤ length one) where
      abbrev second : Turn
      second = record { at = 2; slot = 6; first = p; pos = q }

      has_back : Tabled (packs book₀) chain gap p (new r.back ∷ []) before one q next
      has_back = tabled_next a chain (tabled_none a chain k) (omega arith) refl refl h l

      pub input_asked : {t₁ : List ℕ} → Elsewhere 0 front t t₁ → MakeAsked s r.input glyphs r.form t₁ front × BlockAsked (new r.input) second gap one next
      input_asked w = (make_asked w i.input, block_asked a chain has_back (omega arith) refl (omega arith) refl)

      module _ {two more : List ℕ} {v : ℕ} (g : PlacedTable (new r.input) second gap one next two more v) where
        pub input_over : length two < v → (chained : Bool) → chained ≡ true → NotedTables (packs book₀) gap p (table_blocks chained s glyphs r) before two v
        input_over m chained e = rw e (tables_end a chain has_back (omega arith) refl refl g (new r.ahead ∷ []) refl (λ w. absurd (omega arith)))

        module _ (m : v ≤ length two) where
          abbrev third : Turn
          third = record { at = 3; slot = 8; first = p; pos = v }

          has_input : Tabled (packs book₀) chain gap p (new r.back ∷ new r.input ∷ []) before two v more
          has_input = tabled_next a chain has_back (omega arith) refl refl g m

          pub ahead_asked : {t₁ t₂ : List ℕ} → Elsewhere 0 front t t₁ → Elsewhere 0 front t₁ t₂ → MakeAsked s r.ahead glyphs r.form t₂ front × BlockAsked (new r.ahead) third gap two more
          ahead_asked w u = (make_asked (elsewhere_more w u) i.ahead, block_asked a chain has_input (omega arith) refl (omega arith) refl)

          pub ahead_noted : {three last : List ℕ} {end : ℕ} → PlacedTable (new r.ahead) third gap two more three last end → (chained : Bool) → chained ≡ true → NotedTables (packs book₀) gap p (table_blocks chained s glyphs r) before three end
          ahead_noted f chained e = rw e (tables_end a chain has_input (omega arith) refl refl f [] refl (λ l. refl))

-- there are three at most
few_tables : (chained : Bool) (s glyphs : List ℕ) (r : Tail) → length (table_blocks chained s glyphs r) ≤ 3
few_tables false s glyphs r = omega arith
few_tables true s glyphs r = omega arith

-- noted slots become offsets
module _ {packed : Bool} {gap p : ℕ} {before book : List ℕ} (chained : Bool) (s glyphs : List ℕ) (r : Tail) (a : TablesAsked before gap p book) {one two : List ℕ} {end n : ℕ} (h : NotedTables packed gap p (table_blocks chained s glyphs r) before one end) (e : n ≡ length (table_blocks chained s glyphs r)) (f : two ≡ sets one 4 (flat (map (settled (p - gap)) (words one 4 n)))) where
  abbrev noted : List (Option (List ℕ))
  noted = table_blocks chained s glyphs r

  abbrev os : List ℕ
  os = offsets_in packed (p - gap) noted

  laid : end ≤ length before → Extends (sets before 4 (flat os)) p (blocks_in packed noted) two end
  laid l =
      let few = few_tables chained s glyphs r in
      let apart : 4 + 2 * length noted ≤ p = omega (arith, few, a.places.before) in
      let back = offsets_back (h.noted l) (halves_fit packed (p - gap) noted (h.near l)) apart n (p - gap) (omega (arith, e)) in
      let all : take n noted ≡ noted = take_all n noted (omega (arith, e)) in
      let put : two ≡ sets one 4 (flat os) = f ∙ ap (λ (l : List ℕ). sets one 4 (flat l)) (back ∙ ap (offsets_in packed (p - gap)) all) in
      let placed = noted_settled (h.noted l) (halves_fit packed (p - gap) noted (h.near l)) apart (omega (arith, e)) f in
      let c = h.touched l in
      let ws = c.words in
      let many : length (flat ws) ≡ length (flat os) = omega (arith, flat_length ws, flat_length os, c.many, offsets_many packed (p - gap) noted) in
      let kept = keeps_store 4 (flat os) c.keeps (omega (arith, a.places.room, length-sets before 4 (flat ws))) (omega (arith, flat_length os, offsets_many packed (p - gap) noted)) in
      let kept-two : Keeps (sets before 4 (flat os)) p two = rw (sets_again (flat ws) (flat os) before 4 many, sym put) at kept in
      keeps_extends kept-two (part_extends (blocks_in packed noted) placed.place placed.room placed.laid)

  pub tables_laid : LaidTables packed gap p noted before two end
  tables_laid = record {
    same = ap length f ∙ length-sets one 4 (flat (map (settled (p - gap)) (words one 4 n))) ∙ h.same;
    fits = laid;
    near = h.near;
    full = h.full;
  }

-- The coverage, and the class tables behind it.
module _ (packed chained : Bool) {s glyphs t : List ℕ} {r : Tail} {before : List ℕ} {gap p : ℕ} (i : TailIn s glyphs t r) (a : Places before 2 4 gap p) where
  abbrev cover : List ℕ
  cover = cover_of t r

  abbrev tables : List (Option (List ℕ))
  tables = table_blocks chained s glyphs r

  -- no offset can say its place
  pub tail_past : {end : ℕ} → 65535 < p - gap → length before < end → Lays packed gap p cover tables before before end
  tail_past h l = record { same = refl; fits = λ g. absurd (omega arith); near = λ g. absurd (omega arith); full = λ g f. absurd (omega (arith, (tail_fit_lem packed (p - gap) cover tables f).0)) }

  short : length cover ≤ 65538
  short =
      let l : length (news t r.cover.at r.cover.len) ≡ r.cover.len = length-map (part t r.cover.at r.cover.len) (λ c. c % 65536) ∙ part_length t r.cover.at r.cover.len in
      cover_short (news t r.cover.at r.cover.len) (omega (arith, i.few, l))

  module _ {one two : List ℕ} {q : ℕ} (h : p - gap ≤ 65535) (o : one ≡ sets before 2 (bytes2 (p - gap))) (w : Tried one p cover two q) where
    same₁ : length one ≡ length before
    same₁ = ap length o ∙ length-sets before 2 (bytes2 (p - gap))

    -- there is no room for it
    pub cover_over : length two < q → Lays packed gap p cover tables before two q
    cover_over l = record {
      same = w.same ∙ same₁;
      fits = λ g. absurd (omega (arith, w.same, same₁));
      near = λ g. absurd (omega (arith, w.same, same₁));
      full = λ g f. omega (arith, w.full (omega (arith, same₁)), short, same₁, a.near);
    }

    module _ (l : q ≤ length two) where
      covered : Extends one p cover two q
      covered = w.fits (omega (arith, w.same))

      -- there may be class tables behind it
      pub tables_asked : {book : List ℕ} → (packs book ≡ true → book_cells ≤ length book) → TablesAsked two gap q book
      tables_asked k = record {
        places = record { before = omega (arith, a.before, covered.place); room = l; near = omega (arith, a.near, covered.place); narrow = a.narrow };
        low = omega (arith, short, covered.place, a.near, a.narrow);
        enough = k;
      }

      -- and they are
      pub tail_laid : {three : List ℕ} {end : ℕ} → LaidTables packed gap q tables two three end → Lays packed gap p cover tables before three end
      tail_laid {three} {end} k =
          let d : q - gap ≡ p - gap + 2 * length cover = omega (arith, covered.place, a.near) in
          let same₂ : length two ≡ length before = w.same ∙ same₁ in
          let os = offsets_in packed (p - gap + 2 * length cover) tables in
          let row : sets one 4 (flat os) ≡ sets before 2 (flat (tail_offsets packed (p - gap) cover tables)) = ap (λ (b : List ℕ). sets b 4 (flat os)) o ∙ sets_one before 2 (p - gap) os in
          record {
            same = k.same ∙ same₂;
            fits = λ g.
                let y = rw d at (k.fits (omega (arith, same₂))) in
                subst (λ (b : List ℕ). Extends b p (cover ++ blocks_in packed tables) three end) row
                (extends_more (extends_store 4 (flat os) covered (omega (arith, flat_length os, offsets_many packed (p - gap + 2 * length cover) tables, few_tables chained s glyphs r, a.before))) y);
            near = λ g. tail_fits packed (p - gap) cover tables h (rw d at (k.near (omega (arith, same₂))));
            full = λ g f. omega (arith, k.full (omega (arith, same₂)) (rw d (tail_fit_lem packed (p - gap) cover tables f).1), same₂);
          }
