-- Two calls on one source, the second of which keeps more: their numbers, and what they answer where both are kept.
use Rattle.std.specs.Prelude.{ℕ, ◌≡◌, Bool, cond, not, ◌⊎◌, List, [], map, length, take, drop, ltb, Option, Some, option_map}
use Rattle.std.proofs.Math.Path.{refl}
use Rattle.std.proofs.Common.{sym, ◌∙◌, ap, ap₂, true≢false}
use Rattle.std.proofs.Math.Bool.{true, false}
use Rattle.std.proofs.Math.Logic.{inl, inr}
use Rattle.std.proofs.lemmas.Bool.{not-true, not-false}
use Rattle.meaning.specs.Words.{bind, values}
use Rattle.meaning.specs.Tables.{Table, table}
use Rattle.meaning.specs.Cut.{cut}
use Rattle.meaning.specs.Matching.{at_place, match, ligate, adjust, second_format, skips, substitute}
use Rattle.meaning.specs.Subset.{too_big}
use Rattle.laws.specs.Stands.{All, all_map}
use Rattle.laws.specs.Runs.{up_ascends}
use Rattle.laws.specs.Through.{opt_map}
use Rattle.laws.specs.CutGood.{GoodMap}
use Rattle.laws.specs.CallBack.{Passed, passed, good_glyph_map_lem}
use Rattle.promises.specs.Strings.{Retained, new, known}
use Rattle.promises.specs.Numbers.{injective}
use Rattle.promises.specs.Rules.{cut_match}
use Rattle.promises.specs.Ligatures.{cut_ligated, Closed}
use Rattle.promises.specs.Singles.{SubstituteRetained}
use Rattle.promises.specs.Survives.{survives}
use Rattle.promises.specs.Walks.{walk}
use Rattle.promises.specs.Refusals.{Call, answer, glyph_map, lookup_map, laid, laid_words, refusals, first, NoneOf, answer_meets, given_exactly, kept_exactly}
use Rattle.promises.specs.Tested.{GoodMaps, tests, tested, kept_tested}
use Rattle.promises.specs.Promises.{BytesOf, says, small_says, reads_back, context_same, ligature_same, pair_same, pair_skipped, single_same, walk_same}
use Rattle.more.specs.Wider.{Wider}
use Rattle.more.proofs.Wider.{table_also}
use Rattle.more.specs.Records.{records_within}
use Rattle.more.specs.Alike.{retained_more, Alike, alike_map, alike_same, SameMatch, SameLigature, SameSubstitute}
use Rattle.more.specs.Formed.{formed_kept}
use Rattle.more.specs.OneClosed.{one_closed_forms}
use Rattle.more.specs.Formats.{first_format, first_stays, second_stays, StandIn, KeepsFields, MoreFields}
use Rattle.more.proofs.Formats.{stays_also, formats_left, fields_wider, second_wider}

-- two calls on one source: the second's maps hold all old ids of the first's. New ids, the forms of the glyph maps and the buffers may differ
pub record KeepsMore (c d : Call) : Type 0 where
  pub kind : d.kind ≡ c.kind
  pub source : d.source ≡ c.source
  pub glyphs : Wider (glyph_map c) (glyph_map d)
  pub lookups : Wider (lookup_map c) (lookup_map d)

-- something survives and is laid out: it is kept (0), too big (9) or there is no room for it (10)
abbrev pub LaidOut : ℕ → Type 0
LaidOut n = (n ≡ 0) ⊎ ((n ≡ 9) ⊎ (n ≡ 10))

-- the refusals before 8 that do not look at a map are the same for calls on one source
tests_same : (c d : Call) → d.kind ≡ c.kind → d.source ≡ c.source → NoneOf (take 10 (refusals c)) → GoodMaps d → NoneOf (take 10 (refusals d))
tests_same c d k s n m = tested d (rw (k, s) (tests c n).0) m

-- refused as empty: nothing survives, and no refusal before 8 applies; and the other way round
empty_is : (c : Call) → (answer c).number ≡ 8 → (not (survives (glyph_map c) (says c)) ≡ true) × NoneOf (take 10 (refusals c))
unfolding refusals
empty_is c e = (given_exactly c (take 10 (refusals c)) 8 (not (survives (glyph_map c) (says c))) (drop 11 (refusals c)) refl).0 e

is_empty : (c : Call) → not (survives (glyph_map c) (says c)) ≡ true → NoneOf (take 10 (refusals c)) → (answer c).number ≡ 8
unfolding refusals
is_empty c e n = (given_exactly c (take 10 (refusals c)) 8 (not (survives (glyph_map c) (says c))) (drop 11 (refusals c)) refl).1 e n

-- kept: something survives
kept_survives : (c : Call) → (answer c).number ≡ 0 → survives (glyph_map c) (says c) ≡ true
unfolding refusals
kept_survives c k = let (n1, (n13, (n14, (n2, (n3, (n4, (n5, (n6, (n7, (n12, (n8, late))))))))))) = (kept_exactly c).0 k in not-false _ n8

module _ (c d : Call) (more : KeepsMore c d) where
  -- both read one table
  same_table : says d ≡ says c
  same_table = ap₂ table more.kind more.source

  -- what survives under the first call's maps survives under the second's
  survives_more : survives (glyph_map c) (says c) ≡ true → survives (glyph_map d) (says d) ≡ true
  survives_more e = rw same_table (table_also (glyph_map c) (glyph_map d) more.glyphs (says c) e)

  pub never_empty : (answer c).number ≡ 0 → (answer d).number ≡ 8 → ⊥
  never_empty k e = true≢false (sym (survives_more (kept_survives c k)) ∙ not-true _ (empty_is d e).0)

  -- the second is kept, too big or short of room
  pub more_kept : (answer c).number ≡ 0 → GoodMaps d → LaidOut (answer d).number
  unfolding refusals first
  more_kept k g =
      let (n1, (n13, (n14, (n2, (n3, (n4, (n5, (n6, (n7, (n12, u)))))))))) = tests_same c d more.kind more.source (kept_tested c k) g in
      rw ((answer_meets d).number, n1, n13, n14, n2, n3, n4, n5, n6, n7, n12, survives_more (kept_survives c k))
      (step (too_big (laid_words d)) (ltb (length d.buffer) (length (laid d))))
    where
      step : (big short : Bool) → LaidOut (cond big 9 (cond short 10 0))
      step true short = inr (inl refl)
      step false true = inr (inr refl)
      step false false = inl refl

  -- if the second is refused as empty, so is the first, if its maps are good
  pub empty_too : (answer d).number ≡ 8 → GoodMaps c → (answer c).number ≡ 8
  empty_too e g = is_empty c (go (survives (glyph_map c) (says c)) refl) (tests_same d c (sym more.kind) (sym more.source) (empty_is d e).1 g)
    where
      go : (t : Bool) → survives (glyph_map c) (says c) ≡ t → not t ≡ true
      go true q = absurd (true≢false (sym (survives_more q) ∙ not-true _ (empty_is d e).0))
      go false q = refl

-- Both are kept.

module _ (c d : Call) (more : KeepsMore c d) (bytes-c : BytesOf c) (bytes-d : BytesOf d) (kept-c : (answer c).number ≡ 0) (kept-d : (answer d).number ≡ 0) where
  abbrev g : List (ℕ × ℕ)
  g = glyph_map c

  abbrev h : List (ℕ × ℕ)
  h = glyph_map d

  abbrev l : List (ℕ × ℕ)
  l = lookup_map c

  abbrev m : List (ℕ × ℕ)
  m = lookup_map d

  wider : (x : ℕ) → Retained g x → Retained h x
  wider = retained_more g h more.glyphs

  -- what the second call has passed, its glyph map, and what it leaves of the table that both read
  passes : Passed d.kind d.form d.packing d.source d.glyphs d.lookups d.buffer
  passes = passed d.kind d.form d.packing d.source d.glyphs d.lookups d.buffer kept-d

  good : GoodMap h
  good = good_glyph_map_lem d.form d.glyphs bytes-d.glyphs passes.glyphs_good

  left_d : cut h m (table d.kind d.source) ≡ Some (small_says d)
  left_d = (reads_back d bytes-d kept-d).0

  same : says d ≡ says c
  same = same_table c d more

  module _ (string : List ℕ) (i : ℕ) (r : All (Retained g) string) where
    abbrev matches : Option (ℕ × List (ℕ × ℕ))
    matches = at_place (match (says c)) [] string i

    pub matches_more : Alike (SameMatch l m matches) (at_place (match (small_says c)) [] (map (new g) string) i) (at_place (match (small_says d)) [] (map (new h) string) i)
    matches_more =
        rw (context_same c bytes-c kept-c string i r, context_same d bytes-d kept-d string i (all_map (Retained g) (Retained h) wider string r), same)
        (alike_map (SameMatch l m matches) matches (cut_match l) (cut_match m)
        (λ x e. record { input = refl; records = x.1; of_source = e; of_first = refl; of_second = refl; less = records_within l m (retained_more l m more.lookups) x.1 }))

    pub places_more : option_map (λ a. a.0) (at_place (match (small_says c)) [] (map (new g) string) i) ≡ option_map (λ a. a.0) (at_place (match (small_says d)) [] (map (new h) string) i)
    places_more =
        alike_same (SameMatch l m matches) (λ a. a.0) (λ a. a.0) (λ a b s. s.input)
        (at_place (match (small_says c)) [] (map (new g) string) i) (at_place (match (small_says d)) [] (map (new h) string) i) matches_more

    abbrev formed : Option (ℕ × ℕ)
    formed = at_place (λ before x after. ligate (says c) x after) [] string i

    -- the second table forms what the source forms, by the first map's condition
    second_forms : c.kind ≡ 3 → Closed g (says c) → at_place (λ before x after. ligate (small_says d) x after) [] (map (new h) string) i ≡ option_map (cut_ligated h) formed
    unfolding bind
    second_forms k closed =
        rw (left_d, same) at
        (one_closed_forms g h m wider (injective h (up_ascends 0 (values h) good.new)) d.kind (more.kind ∙ k) d.source passes.sound (rw same closed) string i r)

    pub ligatures_more : c.kind ≡ 3 → Closed g (says c) → Alike (SameLigature g h formed)
        (at_place (λ before x after. ligate (small_says c) x after) [] (map (new g) string) i) (at_place (λ before x after. ligate (small_says d) x after) [] (map (new h) string) i)
    ligatures_more k closed =
        rw (ligature_same c bytes-c kept-c k closed string i r, second_forms k closed)
        (alike_map (SameLigature g h formed) formed (cut_ligated g) (cut_ligated h)
        (λ x e. record { count = refl; glyph = x.0; of_source = e; of_first = known g x.0 (kept x e); of_second = known h x.0 (wider x.0 (kept x e)) }))
      where
        kept : (x : ℕ × ℕ) → formed ≡ Some x → Retained g x.0
        kept x e = rw e at (formed_kept g (says c) closed [] string i r)

  pub substitutes_more : c.kind ≡ 5 → (x : ℕ) → Retained g x → SubstituteRetained g (says c) x
      → Alike (SameSubstitute g h (substitute (says c) x)) (substitute (small_says c) (new g x)) (substitute (small_says d) (new h x))
  substitutes_more k x rx closed =
      rw (single_same c bytes-c kept-c k x rx closed, second)
      (alike_map (SameSubstitute g h (substitute (says c) x)) (substitute (says c) x) (new g) (new h)
      (λ y e. record { glyph = y; of_source = e; of_first = known g y (kept y e); of_second = known h y (wider y (kept y e)) }))
    where
      kept : (y : ℕ) → substitute (says c) x ≡ Some y → Retained g y
      kept y e = rw e at closed

      both : SubstituteRetained h (says d) x
      both = rw same (opt_map (Retained g) (Retained h) wider (substitute (says c) x) closed)

      second : substitute (small_says d) (new h x) ≡ option_map (new h) (substitute (says c) x)
      second = rw same at (single_same d bytes-d kept-d (more.kind ∙ k) x (wider x rx) both)

  pub pairs_more : c.kind ≡ 4 → (x y : ℕ) → Retained g x → Retained g y → adjust (small_says c) (new g x) (new g y) ≡ adjust (small_says d) (new h x) (new h y)
  pairs_more k x y rx ry =
      pair_same c bytes-c kept-c k x y rx ry
      ∙ sym (pair_same d bytes-d kept-d (more.kind ∙ k) x y (wider x rx) (wider y ry) ∙ ap (λ (t : Table). adjust t x y) same)

  pub skips_more : c.kind ≡ 4 → (x y : ℕ) → Retained g x → Retained g y → skips (small_says c) (new g x) (new g y) ≡ skips (small_says d) (new h x) (new h y)
  skips_more k x y rx ry =
      pair_skipped c bytes-c kept-c k x y rx ry
      ∙ sym (pair_skipped d bytes-d kept-d (more.kind ∙ k) x y (wider x rx) (wider y ry) ∙ ap (λ (t : Table). skips t x y) same)

  pub walks_more : c.kind ≡ 4 → (string : List ℕ) → All (Retained g) string → walk (small_says c) 0 (map (new g) string) ≡ walk (small_says d) 0 (map (new h) string)
  walks_more k string r =
      walk_same c bytes-c kept-c k string r
      ∙ sym (walk_same d bytes-d kept-d (more.kind ∙ k) string (all_map (Retained g) (Retained h) wider string r) ∙ ap (λ (t : Table). walk t 0 string) same)

  -- the value formats that both leave
  pub formats_c : c.kind ≡ 4 → KeepsFields g (says c) (small_says c)
  formats_c k = rw (reads_back c bytes-c kept-c).0 at (formats_left g l c.kind k c.source)

  pub formats_d : c.kind ≡ 4 → KeepsFields h (says c) (small_says d)
  formats_d k = rw (left_d, same) at (formats_left h m d.kind (more.kind ∙ k) d.source)

  pub first_fields_more : c.kind ≡ 4 → MoreFields (first_format (small_says c)) (first_format (small_says d))
  first_fields_more k =
      fields_wider (first_format (small_says c)) (first_format (small_says d)) (first_stays g (says c)) (first_stays h (says c))
      (stays_also g h more.glyphs (λ p. p.first_values) (first_format (says c)) (says c)) (formats_c k).first (formats_d k).first

  pub second_fields_more : c.kind ≡ 4 → MoreFields (second_format (small_says c)) (second_format (small_says d)) ⊎ StandIn (second_format (small_says c)) (second_stays g (says c))
  second_fields_more k =
      second_wider (second_format (small_says c)) (second_format (small_says d)) (second_stays g (says c)) (second_stays h (says c))
      (stays_also g h more.glyphs (λ p. p.second_values) (second_format (says c)) (says c)) (formats_c k).second (formats_d k).second
