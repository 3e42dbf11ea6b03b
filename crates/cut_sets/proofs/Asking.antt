-- What the check of a header says to the cut, and what the parts of the whole answer.
use Prim.Native.Nat.{ℕ, zero, suc, ◌+◌, ◌-◌, ◌*◌, ◌/◌, ◌%◌, ◌≤◌, ◌<◌}
use mathlib.Core.Path.{◌≡◌, refl, sym, ap, ap₂, ◌∙◌}
use mathlib.Core.Bool.{Bool, true, cond, ◌&&◌}
use Rattle.std.specs.Prelude.{Option, None, Some, Result}
use mathlib.Core.List.{List, [], ◌∷◌, ◌++◌}
use mathlib.Core.Logic.{◌⊎◌, inl, inr}
use native.Mathlib.Decide.{dec_lt}
use native.Mathlib.Nat.{zero-add}
use native.Mathlib.Omega.{arith}
use lib.ListN.{length, get_or, take}
use lib.Dec.{eqb}
use borrow.Author.Tests.{ne_eqb, leb-true}
use Rattle.meaning.specs.Words.{word, inside, find, bind, push, keys, ascends}
use Rattle.meaning.specs.Parts.{coverage, coverage_sound}
use Rattle.meaning.specs.Tables.{Table, field_count}
use Rattle.meaning.specs.Fault.{fault_through, coverage_fault, pair_set_fault, enough, header_fault, good_formats}
use Rattle.meaning.specs.Cut.{RuleMaps, cut, stand_in}
use Rattle.meaning.specs.Layout.{block}
use Rattle.laws.specs.Stands.{All}
use Rattle.laws.specs.Through.{Opt}
use Rattle.laws.specs.Runs.{both}
use Rattle.laws.specs.SoundGood.{Bytes, part_sound, lowest_none, header_good}
use Rattle.numbers.specs.Alike.{Alike, holds_alike}
use Rattle.pair_places.specs.Formats.{pair_size, places_of}
use Rattle.pair_places.specs.Puts.{Puts}
use Rattle.pair_sets.specs.declared.Formats.{Formats}
use Rattle.field_uses.specs.New.{format_in, AsksFormats, NewFormats, format_alike}
use Rattle.tried.specs.Tries.{Tries}
use Rattle.tried.specs.declared.NotCut.{NotCut}
use Rattle.member_sets.specs.Sound.{inside_is, through_sound}
use Rattle.area.specs.Part.{part, notes, old_at}
use Rattle.meaning.specs.Maps.{map_entries, glyph_entries}
use Rattle.meaning.specs.Subset.{limit, words_in, written_in}
use Rattle.room.specs.Laid.{enough_area}
use Rattle.cell_maps.specs.Cells.{Holds, holds_kept}
use Rattle.cell_maps.specs.Laid.{Laid}
use Rattle.cell_maps.specs.Runs.{LaidGlyphs}
use Rattle.glyph_runs.specs.Runs.{GlyphMap, form_is}
use Rattle.cell_maps.specs.declared.Map.{Map}
use Rattle.kept_rules.specs.declared.Maps.{Maps}
use Rattle.range_meets.specs.Met.{met, Met, met_count}
use Rattle.meets.specs.Either.{Most, MeetsGlyphs}
use Rattle.meets.proofs.Forms.{met_most}
use Rattle.placed_sets.specs.Sorts.{header_size, set_fault_of, left_in, Told, told_pairs, pairs_sound, left_kept, inside_kept}
use Rattle.placed_sets.specs.Kept.{set_at, kept_of, Ready, kept_in}
use Rattle.placed_sets.specs.declared.Sort.{Sort}
use Rattle.placed_sets.specs.declared.Sort.TheVariants.{Rules, Ligatures, Pairs}
use Rattle.kept_header.specs.Table.{table_of}
use Rattle.cut_sets.specs.Asked.{SoundSets, behind, MapsLaid, kept_from}
use Rattle.kept_header.specs.Answers.{ByCover, Answered, answered_as, answered_said}
use Rattle.cut_sets.specs.Whole.{cells_most}
use Rattle.cut_sets.specs.PairTables.{pair_table, pair_fault, pair_sort, one_map, AnsweredPairs, sound_pairs, pairs_cut}
use Rattle.cut_sets.proofs.Smallness.{small_left}

-- notes name glyphs of the coverage
module _ (f : ℕ → Option ℕ) where
  met_inside : (i : ℕ) (cov : List ℕ) → All (λ e. e.0 < i + length cov) (met f i cov)
  unfolding met push bind
  met_inside i [] = tt
  met_inside i (c ∷ cov) = step (f c) (later (met f (i + 1) cov) (met_inside (i + 1) cov))
    where
      later : (l : List (ℕ × ℕ)) → All (λ e. e.0 < i + 1 + length cov) l → All (λ e. e.0 < i + length (c ∷ cov)) l
      later [] h = tt
      later (e ∷ l) h = (omega (arith, h.0), later l h.1)

      step : (o : Option ℕ) → All (λ e. e.0 < i + length (c ∷ cov)) (met f (i + 1) cov) → All (λ e. e.0 < i + length (c ∷ cov)) (push (bind o (λ n. Some (i, n))) (met f (i + 1) cov))
      step None h = h
      step (Some n) h = (omega arith, h)

all_notes : (P : ℕ × ℕ → Type 0) (t : List ℕ) (at m : ℕ) → All P (notes t at m) → (i : ℕ) → i < m → P (get_or t (at + i) 0 / 65536, get_or t (at + i) 0 % 65536)
unfolding part
all_notes P t at zero h i l = absurd (omega arith)
all_notes P t at (suc m) h zero l =
    let e : at + 0 ≡ at = omega arith in
    rw e h.0
all_notes P t at (suc m) h (suc i) l =
    let e : at + suc i ≡ at + 1 + i = omega arith in
    rw e (all_notes P t (at + 1) m h.1 i (omega arith))

module _ {f : ℕ → Option ℕ} {cov t₀ : List ℕ} {to : ℕ} {t : List ℕ} {m : ℕ} (h : Met f cov t₀ to t m) where
  -- there are at most as many notes as covered glyphs
  pub noted_few : m ≤ length cov
  noted_few = omega (arith, met_count h, met_most f 0 cov)

  -- and each has the index of one
  pub noted_index : (i : ℕ) → i < m → old_at t (to + i) < length cov
  noted_index i l =
      let e : All (λ n. n.0 < 0 + length cov) (notes t to m) = rw h.noted (met_inside f 0 cov) in
      omega (arith, all_notes (λ n. n.0 < 0 + length cov) t to m e i l)

-- A header without a fault.
module _ (good : Bool) (slot : ℕ) (fault_at : ℕ → Option ℕ) (s : List ℕ) (h : header_fault good 0 slot fault_at s ≡ None) where
  -- its count and its offsets lie inside
  pub header_inside : slot + 2 + 2 * word s slot ≤ length s
  unfolding header_fault
  header_inside = inside_is s (slot + 2) (2 * word s slot) (both (inside s (slot + 2) (2 * word s slot)) good (both (inside s 0 (slot + 2)) _ (part_sound 0 (inside s 0 (slot + 2) && (inside s (slot + 2) (2 * word s slot) && good)) _ h).0).1).0

  -- its coverage is sound
  pub cover_sound : {at : ℕ} → at ≡ word s 2 → (at ≡ 0 → ⊥) → coverage_sound s at ≡ true
  unfolding fault_through coverage_fault
  cover_sound {at} e z =
      let q = (lowest_none (cond (eqb (word s 2) 0) None (coverage_fault s (0 + word s 2))) _ (header_good s good 0 slot fault_at h).1).0 in
      rw e (part_sound (word s 2) (coverage_sound s (word s 2)) None (rw (ne_eqb (word s 2) 0 (λ w. z (e ∙ w)), zero-add) at q)).0

  -- the sets that it reaches are sound
  pub reached_sound : (i : ℕ) → i < word s slot → (word s (slot + 2 + 2 * i) ≡ 0 → ⊥) → fault_at (word s (slot + 2 + 2 * i)) ≡ None
  reached_sound i l z = rw zero-add at (through_sound fault_at s 0 (slot + 2) (word s slot) i (header_good s good 0 slot fault_at h).3 l z)

  -- there is a set for each covered glyph, if it judges so
  pub sets_enough : (good ≡ true → enough s (word s slot) ≡ true) → {at : ℕ} → at ≡ word s 2 → (at ≡ 0 → ⊥) → length (coverage s at) ≤ word s slot
  unfolding enough
  sets_enough g {at} e z =
      let c : coverage_sound s (word s 2) ≡ true = rw e at (cover_sound e z) in
      rw e (leb-true (length (coverage s (word s 2))) (word s slot) (rw (ne_eqb (word s 2) 0 (λ w. z (e ∙ w)), c) at (g (header_good s good 0 slot fault_at h).0)))

-- a word is less than 65,536
word_small : (m : List ℕ) → ((i : ℕ) → get_or m i 0 < 256) → (at : ℕ) → word m at < 65536
unfolding word
word_small m h at = omega (arith, h at, h (at + 1))

-- so the source is sound
module _ (s : List ℕ) (bytes : (i : ℕ) → get_or s i 0 < 256) (l : length s ≤ limit) where
  pub rules_asked : (chained : Bool) → header_fault (enough s (word s 4)) 0 4 (set_fault_of (Rules chained) s) s ≡ None → SoundSets (Rules chained) s
  rules_asked chained h = record {
    short = l;
    counted = word_small s bytes 4;
    header = header_inside (enough s (word s 4)) 4 (set_fault_of (Rules chained) s) s h;
    cover = λ z. cover_sound (enough s (word s 4)) 4 (set_fault_of (Rules chained) s) s h refl z;
    enough = λ z. sets_enough (enough s (word s 4)) 4 (set_fault_of (Rules chained) s) s h (λ e. e) refl z;
    sets = reached_sound (enough s (word s 4)) 4 (set_fault_of (Rules chained) s) s h;
  }

  pub ligatures_asked : header_fault (enough s (word s 4)) 0 4 (set_fault_of Ligatures s) s ≡ None → SoundSets Ligatures s
  ligatures_asked h = record {
    short = l;
    counted = word_small s bytes 4;
    header = header_inside (enough s (word s 4)) 4 (set_fault_of Ligatures s) s h;
    cover = λ z. cover_sound (enough s (word s 4)) 4 (set_fault_of Ligatures s) s h refl z;
    enough = λ z. sets_enough (enough s (word s 4)) 4 (set_fault_of Ligatures s) s h (λ e. e) refl z;
    sets = reached_sound (enough s (word s 4)) 4 (set_fault_of Ligatures s) s h;
  }

  pub pairs_asked : pair_fault s ≡ None → SoundSets (pair_sort s) s
  unfolding set_fault_of
  pairs_asked h =
      let good = good_formats s && enough s (word s 8) in
      let fault_at = pair_set_fault (field_count (word s 4)) (field_count (word s 6)) s in
      record {
        short = l;
        counted = word_small s bytes 8;
        header = header_inside good 8 fault_at s h;
        cover = λ z. cover_sound good 8 fault_at s h refl z;
        enough = λ z. sets_enough good 8 fault_at s h (λ e. (both (good_formats s) (enough s (word s 8)) e).1) refl z;
        sets = reached_sound good 8 fault_at s h;
      }

-- kept sets, under what leaves the same
kept_same : (left other : ℕ → Option (List ℕ)) → ((p : ℕ) → left p ≡ other p) → (s : List ℕ) (slots : ℕ) (ns : List (ℕ × ℕ)) → kept_of left s slots ns ≡ kept_of other s slots ns
unfolding kept_of set_at
kept_same left other e s slots [] = refl
kept_same left other e s slots (n ∷ ns) = rw (e (word s (slots + 2 * n.0)), kept_same left other e s slots ns)

-- the mark of a form is not 0
pub form_some : {form : ℕ} {m : List ℕ} → GlyphMap form m → 4 ≤ form
form_some {form} g = pick (form_is g.form_good)
  where
    pick : (form ≡ 4) ⊎ (form ≡ 6) → 4 ≤ form
    pick (inl e) = omega arith
    pick (inr e) = omega arith

-- Sound sources and maps that are laid, before the map meets the coverage and after it.
module _ {sort : Sort} {s : List ℕ} {form : ℕ} {glyphs t₀ : List ℕ} {maps : Maps} (a : SoundSets sort s) (l : MapsLaid form glyphs t₀ maps) (z : word s 2 ≡ 0 → ⊥) {cover : ℕ} (e : cover ≡ word s 2) where
  pub may_count : (coverage_sound s cover ≡ true) × GlyphMap form glyphs
  may_count = (rw e (a.cover z), l.map)

  pub may_meet : {r : ℕ} → Most form glyphs s cover r → behind maps + r < length t₀ → MeetsGlyphs form s cover glyphs maps.input t₀ (behind maps)
  may_meet r h = record { sound = may_count.0; map = l.map; holds = l.holds; behind = l.before.input; room = omega (arith, r.number) }

  module _ {t : List ℕ} {m : ℕ} (h : Met (find (glyph_entries form glyphs)) (coverage s cover) t₀ (behind maps) t m) where
    many : length (coverage s cover) ≤ word s (header_size sort - 2)
    many = rw e (a.enough z)

    pub may_write : Bytes s → Ready sort s t maps (behind maps) m
    may_write b = record {
      short = a.short;
      few = omega (arith, noted_few h, many, a.header);
      counted = omega (arith, noted_few h, many, a.counted);
      fits = omega (arith, h.fits, h.kept.size);
      reaches = λ i j. record {
        inside = omega (arith, noted_index h i j, many, a.header);
        sound = a.sets (old_at t (behind maps + i)) (omega (arith, noted_index h i j, many));
      };
      small = λ p q. small_left sort s b t maps p;
      inside = inside_kept h.kept l.inside;
      before = l.before;
    }

    -- the notes name the glyphs that both have
    pub kept_said : kept_in sort s t maps (behind maps) m ≡ kept_from sort s (glyph_entries form glyphs) t₀ maps
    kept_said =
        kept_same (left_in sort t maps s) (left_in sort t₀ maps s) (left_kept h.kept sort l.before s) s (header_size sort) _
        ∙ ap (kept_of (left_in sort t₀ maps s) s (header_size sort)) (h.noted ∙ ap (λ (i : ℕ). met (find (glyph_entries form glyphs)) 0 (coverage s i)) e)

-- The new formats of a table of pairs: what is asked, and what the notes say of the kept sets.
module _ {s t : List ℕ} {g : Map} {at m : ℕ} (a : Ready (pair_sort s) s t (one_map g) at m) where
  pub asks_formats : AsksFormats s t g at m
  unfolding set_fault_of
  asks_formats = record {
    header = omega (arith, a.few);
    names = record {
      fits = a.fits;
      offset = λ i l. (a.reaches i l).inside;
      inside = λ i l z. pairs_sound s (word s (10 + 2 * old_at t (at + i))) {f = record { f1 = word s 4; f2 = word s 6; n1 = 0; n2 = 0; size = pair_size (word s 4) (word s 6) }} refl refl ((a.reaches i l).sound z);
    };
    inside = a.inside.input;
  }

-- an empty front
take_none : (l : List ℕ) → take 0 l ≡ []
take_none [] = refl
take_none (x ∷ l) = refl

-- numbers that are put into an empty front
puts_front : {before ns after : List ℕ} {r : ℕ} → Puts before 0 ns after r → take r after ≡ ns
puts_front {before} {ns} p = p.front ∙ ap (λ (l : List ℕ). l ++ ns) (take_none before)

pub puts_length : {before ns after : List ℕ} {r : ℕ} → Puts before 0 ns after r → r ≡ length (take r after)
puts_length p = omega (arith, p.place, ap length (puts_front p))

-- the writer of pair sets is told the places of the fields that stay
pub told_new : {g : List (ℕ × ℕ)} {s : List ℕ} {ns : List (ℕ × ℕ)} {f : Formats} {m : RuleMaps} {before after : List ℕ} {r : ℕ} → NewFormats g s ns f → Puts before 0 (places_of f.f1 f.f2 f.n1 f.n2) after r → Told (Pairs f) m s (take r after)
told_new n p = told_pairs (n.size ∙ sym (ap₂ pair_size n.f1 n.f2)) (puts_front p)

-- formats that the same map and the same notes give
formats_same : {g h : List (ℕ × ℕ)} {s : List ℕ} {ns ms : List (ℕ × ℕ)} {f : Formats} → Alike g h → ns ≡ ms → NewFormats g s ns f → NewFormats h s ms f
formats_same {g} {h} {s} {ns} {ms} {f} e n w = record {
  f1 = w.f1;
  f2 = w.f2;
  size = w.size;
  n1 = w.n1 ∙ format_alike e s (pair_size (word s 4) (word s 6)) 2 (word s 4) ns ∙ ap (format_in h s (pair_size (word s 4) (word s 6)) 2 (word s 4)) n;
  n2 = w.n2 ∙ ap (stand_in (word s 6)) (format_alike e s (pair_size (word s 4) (word s 6)) (2 + 2 * field_count (word s 4)) (word s 6) ns ∙ ap (format_in h s (pair_size (word s 4) (word s 6)) (2 + 2 * field_count (word s 4)) (word s 6)) n);
}

-- what is answered of a table of pairs is answered of what is left of it
module _ {s : List ℕ} {form : ℕ} {glyphs t₀ : List ℕ} {g : Map} (a : SoundSets (pair_sort s) s) (l : MapsLaid form glyphs t₀ (one_map g)) (z : word s 2 ≡ 0 → ⊥) {cover : ℕ} (e : cover ≡ word s 2)
    {t : List ℕ} {m : ℕ} (h : Met (find (glyph_entries form glyphs)) (coverage s cover) t₀ (behind (one_map g)) t m) where
  pub pairs_answered : {few : Type 0} {packing : ℕ} {out₀ : List ℕ} {n : ℕ} {r : Result ℕ NotCut} {out : List ℕ} → AnsweredPairs packing s t g (behind (one_map g)) m out₀ n r out
      → Answered few out₀ (block (words_in packing) (cut (glyph_entries form glyphs) [] (pair_table s))) n r out
  pairs_answered {packing = packing} w =
      let f = w.formats in
      let new = formats_same (holds_alike (holds_kept h.kept l.before.input l.holds)) (h.noted ∙ ap (λ (i : ℕ). met (find (glyph_entries form glyphs)) 0 (coverage s i)) e) w.new in
      let sound = sound_pairs s f new.f1 new.f2 a in
      answered_said (λ x. absurd x) (ap (table_of (eqb packing 1) (Pairs f)) (kept_said sound l z e h) ∙ pairs_cut (glyph_entries form glyphs) s (one_map g) l.holds f new z sound packing) w.answered

-- a map that has no room
pub no_room : {list t₀ t : List ℕ} {at : ℕ} {m : Map} → Laid list t₀ t at m → ascends (keys (map_entries list)) ≡ true → m.mask ≡ 0 → length t₀ < at + 65536
no_room {t₀ = t₀} {at = at} l a z = step (dec_lt (length t₀) (at + 65536))
  where
    step : Dec (length t₀ < at + 65536) → length t₀ < at + 65536
    step (yes h) = h
    step (no h) = absurd (l.room (omega arith) a z)

pub glyphs_no_room : {form : ℕ} {list t₀ t : List ℕ} {at : ℕ} {m : Map} → LaidGlyphs form list t₀ t at m → m.mask ≡ 0 → length t₀ < at + 65536
glyphs_no_room {t₀ = t₀} {at = at} l z = step (dec_lt (length t₀) (at + 65536))
  where
    step : Dec (length t₀ < at + 65536) → length t₀ < at + 65536
    step (yes h) = h
    step (no h) = absurd (l.room (omega arith) z)

-- one map for all, and glyphs before lookups
module _ {form : ℕ} {g t₀ t : List ℕ} {m : Map} (a : LaidGlyphs form g t₀ t 0 m) (z : m.mask ≡ 0 → ⊥) (u : GlyphMap form g) where
  pub one_laid : MapsLaid form g t (one_map m)
  one_laid =
      let h = a.holds z in
      record {
        map = u;
        holds = h;
        inside = record { back = h.inside; input = h.inside; ahead = h.inside; lookups = h.inside };
        before = record { back = omega arith; input = omega arith; ahead = omega arith; lookups = omega arith };
        small = omega (arith, a.place, a.few);
      }

  module _ {l t₂ : List ℕ} {n : Map} (b : Laid l t t₂ (m.mask + 1) n) where
    -- it stands as it was
    pub glyphs_stand : Holds t₂ m (glyph_entries form g)
    glyphs_stand = holds_kept b.kept (omega (arith, a.place)) (a.holds z)

    pub two_laid : (n.mask ≡ 0 → ⊥) → ascends (keys (map_entries l)) ≡ true → MapsLaid form g t₂ (record { back = m; input = m; ahead = m; lookups = n })
    two_laid y v =
        let h = glyphs_stand in
        let e : m.at + m.mask < n.at + n.mask + 1 = omega (arith, a.place, b.place) in
        record {
          map = u;
          holds = h;
          inside = record { back = h.inside; input = h.inside; ahead = h.inside; lookups = (b.holds y).inside };
          before = record { back = e; input = e; ahead = e; lookups = omega arith };
          small = omega (arith, b.place, a.few, b.few v);
        }

-- With few cells behind the maps, the lent ones were few; so what is answered behind the maps is answered of all.
module _ {form : ℕ} {g t₀ t : List ℕ} {m : Map} (a : LaidGlyphs form g t₀ t 0 m)
    {out₀ : List ℕ} {words : Option (List ℕ)} {n : ℕ} {r : Result ℕ NotCut} {out : List ℕ} (packing : ℕ) (left : Option Table) (fit : Opt (ByCover packing) left) (e : words ≡ block (words_in packing) left) where
  pub one_answered : Answered (length t ≤ behind (one_map m) + 65536) out₀ words n r out → Tries (length t₀ < cells_most) (n < enough_area) r out₀ out (written_in packing out₀ left)
  one_answered = answered_as (λ h. omega (arith, h, a.kept.size, a.place, a.few)) packing left fit e

  pub two_answered : {l t₂ : List ℕ} {k : Map} → Laid l t t₂ (m.mask + 1) k → ascends (keys (map_entries l)) ≡ true → Answered (length t₂ ≤ k.at + k.mask + 1 + 65536) out₀ words n r out
      → Tries (length t₀ < cells_most) (n < enough_area) r out₀ out (written_in packing out₀ left)
  two_answered b v = answered_as (λ h. omega (arith, h, a.kept.size, b.kept.size, b.place, a.few, b.few v)) packing left fit e
