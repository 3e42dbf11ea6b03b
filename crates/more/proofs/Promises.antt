-- Request 12, keeping more must not spoil anything: every statement in one place, each with its words above it.
-- There are two glyph maps, each in either form, and two lookup maps, and each second one holds all old ids of its first (`Wider`). New ids may differ, and the forms.
-- A reader who believes the definitions of `meaning` and the statements of `promises` needs of this crate what stands here and
-- `Then`, `Also`, `Wider`, `slot_kept`, `first_class_kept`, `second_class_kept` and `cell_survives` (Wider.antt), `field_survives` (Fields.antt), `cell_field_survives` (Cells.antt),
-- `field_stays`, `StandIn`, `KeepsFields` and `MoreFields` (Formats.antt), `Alike`, `SameMatch`, `SameLigature` and `SameSubstitute` (Alike.antt),
-- `KeepsMore` and `LaidOut` (Both.antt), and `GoodMaps` (Tested.antt in `promises`), each a few lines. Needed.antt has the smallest calls that show that each condition is needed.
use Rattle.std.specs.Prelude.{ℕ, ◌≡◌, Bool, ◌⊎◌, List, [], map, Option, Some, option_map}
use Rattle.meaning.specs.Tables.{Rule, Table}
use Rattle.meaning.specs.Matching.{at_place, match, ligate, adjust, second_format, skips, substitute}
use Rattle.laws.specs.Stands.{All}
use Rattle.promises.specs.Strings.{Retained, new}
use Rattle.promises.specs.Ligatures.{Closed}
use Rattle.promises.specs.Singles.{SubstituteRetained, SubstitutesRetained}
use Rattle.promises.specs.Survives.{is_retained, class_survives, glyph_rule_survives, class_rule_survives, set_kept, coverage_survives, ligature_survives, pair_survives, substitute_survives, survives}
use Rattle.promises.specs.Walks.{walk}
use Rattle.promises.specs.Refusals.{Call, answer, glyph_map, lookup_map}
use Rattle.promises.specs.Tested.{GoodMaps}
use Rattle.promises.specs.Promises.{BytesOf, says, small_says}
use Rattle.more.proofs.Wider as Wide
use Rattle.more.specs.Wider.{Also, Wider, slot_kept, first_class_kept, second_class_kept, cell_survives}
use Rattle.more.proofs.Formats as Formats
use Rattle.more.specs.Formats.{first_format, first_stays, second_stays, StandIn, KeepsFields, MoreFields}
use Rattle.more.specs.Alike.{Alike, SameMatch, SameLigature, SameSubstitute}
use Rattle.more.proofs.Both as Both
use Rattle.more.proofs.Both.{KeepsMore, LaidOut}

-- What survives under the first glyph map g survives under the second, h: the whole table and each of its parts, in the words of Survives.antt, without `cut`.
module _ (g h : List (ℕ × ℕ)) (wider : Wider g h) where
  -- `tables`: if something of a table survives under g, something of it survives under h.
  pub tables : Also (survives g) (survives h)
  tables = Wide.table_also g h wider

  -- A class that survives.
  pub classes : (table : Option (List (ℕ × ℕ))) → Also (class_survives g table) (class_survives h table)
  classes = Wide.class_also g h wider

  -- A rule of format 1, and one of format 2; what becomes of its records does not matter.
  pub glyph_rules : (chained : Bool) → Also (glyph_rule_survives chained g) (glyph_rule_survives chained h)
  glyph_rules = Wide.glyph_rule_also g h wider

  pub class_rules : (chained : Bool) (b i a : Option (List (ℕ × ℕ))) → Also (class_rule_survives chained g b i a) (class_rule_survives chained h b i a)
  class_rules = Wide.class_rule_also g h wider

  -- A coverage of format 3.
  pub coverages : Also (coverage_survives g) (coverage_survives h)
  coverages = Wide.coverage_also g h wider

  -- A ligature.
  pub ligatures : Also (ligature_survives g) (ligature_survives h)
  ligatures = Wide.ligature_also g h wider

  -- A pair, with the covered glyph c.
  pub pairs : (c : ℕ) → Also (pair_survives g c) (pair_survives h c)
  pairs = Wide.pair_also g h wider

  -- A single substitution: a glyph and its substitute.
  pub substitutions : Also (substitute_survives g) (substitute_survives h)
  substitutions = Wide.substitution_also g h wider

  -- A set that the covered glyph c indexes: of rules, of ligatures, of pairs.
  pub rule_sets : (chained : Bool) (c : ℕ) → Also (set_kept (λ c. glyph_rule_survives chained g) g c) (set_kept (λ c. glyph_rule_survives chained h) h c)
  rule_sets chained = Wide.set_also g h wider (λ c. glyph_rule_survives chained g) (λ c. glyph_rule_survives chained h) (λ c. glyph_rules chained)

  pub ligature_sets : (c : ℕ) → Also (set_kept (λ c. ligature_survives g) g c) (set_kept (λ c. ligature_survives h) h c)
  ligature_sets = Wide.set_also g h wider (λ c. ligature_survives g) (λ c. ligature_survives h) (λ c. ligatures)

  pub pair_sets : (c : ℕ) → Also (set_kept (pair_survives g) g c) (set_kept (pair_survives h) h c)
  pair_sets = Wide.set_also g h wider (pair_survives g) (pair_survives h) pairs

  -- The slot of a class, in format 2 (`slots_exactly` in Wider.antt: by Survives.antt some slot is kept exactly if the slot of some covered glyph's class is).
  pub class_slots : (chained : Bool) (b a : Option (List (ℕ × ℕ))) (cs : List (ℕ × ℕ)) (cov : List ℕ) (sets : List (Option (List Rule)))
      → Also (slot_kept (class_rule_survives chained g b (Some cs) a) g cs cov sets) (slot_kept (class_rule_survives chained h b (Some cs) a) h cs cov sets)
  class_slots chained b a cs cov sets =
      Wide.slot_also g h wider (class_rule_survives chained g b (Some cs) a) (class_rule_survives chained h b (Some cs) a) (class_rules chained b (Some cs) a) cs cov sets

  -- In pairs by class: a first class, a second class, and a cell in the row of first class c.
  pub first_classes : (cov : List ℕ) (cs : List (ℕ × ℕ)) → Also (first_class_kept g cov cs) (first_class_kept h cov cs)
  first_classes = Wide.first_class_also g h wider

  pub second_classes : (ds : List (ℕ × ℕ)) → Also (second_class_kept g ds) (second_class_kept h ds)
  second_classes = Wide.second_class_also g h wider

  pub cells : (cov : List ℕ) (cs ds : List (ℕ × ℕ)) (c : ℕ) → Also (cell_survives g cov cs ds c) (cell_survives h cov cs ds c)
  cells = Wide.cell_also g h wider

  -- A value field of the first and of the second record of a pair table, by pairs or by class. The stand-in of request 10 is not counted.
  pub first_fields : (t : Table) → Also (first_stays g t) (first_stays h t)
  first_fields t = Formats.stays_also g h wider (λ p. p.first_values) (first_format t) t

  pub second_fields : (t : Table) → Also (second_stays g t) (second_stays h t)
  second_fields t = Formats.stays_also g h wider (λ p. p.second_values) (second_format t) t

-- A record of a rule survives if its lookup is mapped, in the words of document 01; so it survives under a wider lookup map.
pub records : (l m : List (ℕ × ℕ)) → Wider l m → Also (λ (r : ℕ × ℕ). is_retained l r.1) (λ (r : ℕ × ℕ). is_retained m r.1)
records l m wider r = wider r.1

-- Two calls on one source, the second's maps wider than the first's.
module _ (c d : Call) (more : KeepsMore c d) where
  -- `never_empty`: the second is never refused as empty if the first is kept.
  pub never_empty : (answer c).number ≡ 0 → (answer d).number ≡ 8 → ⊥
  never_empty = Both.never_empty c d more

  -- More: the second, if its maps are good, is then kept, too big, or short of room.
  pub more_kept : (answer c).number ≡ 0 → GoodMaps d → LaidOut (answer d).number
  more_kept = Both.more_kept c d more

  -- And if the second is refused as empty, so is the first, if its maps are good.
  pub empty_too : (answer d).number ≡ 8 → GoodMaps c → (answer c).number ≡ 8
  empty_too = Both.empty_too c d more

  -- Both are kept.
  module _ (bytes-c : BytesOf c) (bytes-d : BytesOf d) (kept-c : (answer c).number ≡ 0) (kept-d : (answer d).number ≡ 0) where
    abbrev g : List (ℕ × ℕ)
    g = glyph_map c

    abbrev h : List (ℕ × ℕ)
    h = glyph_map d

    -- A string of glyphs that the first map retains, and so the second; a place in it.
    module _ (string : List ℕ) (i : ℕ) (retained : All (Retained g) string) where
      -- the string as each small table sees it
      abbrev string_c : List ℕ
      string_c = map (new g) string

      abbrev string_d : List ℕ
      string_d = map (new h) string

      -- `same_places`: both small tables match at the same places, with the same input length.
      pub same_places : option_map (λ a. a.0) (at_place (match (small_says c)) [] string_c i) ≡ option_map (λ a. a.0) (at_place (match (small_says d)) [] string_d i)
      same_places = Both.places_more c d more bytes-c bytes-d kept-c kept-d string i retained

      -- `same_records`: where they match, the records of both come from the records of one match of the source, in order: each small table has those whose lookup its map has, renumbered;
      -- and those that the first takes are those that the second takes, less those whose lookup only the second map has (`SameMatch`).
      pub same_records : Alike (SameMatch (lookup_map c) (lookup_map d) (at_place (match (says c)) [] string i)) (at_place (match (small_says c)) [] string_c i) (at_place (match (small_says d)) [] string_d i)
      same_records = Both.matches_more c d more bytes-c bytes-d kept-c kept-d string i retained

      -- what both form at the place is one ligature of the source, or nothing
      abbrev pub SameLigatures : Type 0
      SameLigatures =
          Alike (SameLigature g h (at_place (λ before x after. ligate (says c) x after) [] string i))
          (at_place (λ before x after. ligate (small_says c) x after) [] string_c i) (at_place (λ before x after. ligate (small_says d) x after) [] string_d i)

      -- `same_ligatures`: both form the same ligature of the source, each under its own new number, of as many components,
      -- if under both maps each ligature whose components are all retained has its own glyph retained.
      pub same_ligatures : c.kind ≡ 3 → Closed g (says c) → Closed h (says c) → SameLigatures
      same_ligatures k closed-c closed-d = Both.ligatures_more c d more bytes-c bytes-d kept-c kept-d string i retained k closed-c

      -- The condition under the first map is enough.
      pub same_ligatures_by_first : c.kind ≡ 3 → Closed g (says c) → SameLigatures
      same_ligatures_by_first = Both.ligatures_more c d more bytes-c bytes-d kept-c kept-d string i retained

    -- `same_substitutes`: both give a glyph that the first map retains the same substitute of the source, each under its own new number, or none,
    -- if under both maps each retained glyph has a retained substitute.
    pub same_substitutes : c.kind ≡ 5 → SubstitutesRetained g (says c) → SubstitutesRetained h (says c) → (x : ℕ) → Retained g x
        → Alike (SameSubstitute g h (substitute (says c) x)) (substitute (small_says c) (new g x)) (substitute (small_says d) (new h x))
    same_substitutes k closed-c closed-d x rx = Both.substitutes_more c d more bytes-c bytes-d kept-c kept-d k x rx (closed-c x rx)

    -- The condition under the first map is enough here too, and for a glyph it is only that its own substitute, if it has one, is retained.
    pub same_substitutes_by_first : c.kind ≡ 5 → (x : ℕ) → Retained g x → SubstituteRetained g (says c) x
        → Alike (SameSubstitute g h (substitute (says c) x)) (substitute (small_says c) (new g x)) (substitute (small_says d) (new h x))
    same_substitutes_by_first = Both.substitutes_more c d more bytes-c bytes-d kept-c kept-d

    -- `same_pairs`: both find each pair of glyphs that the first map retains, or not, alike, with equal adjustments, by pairs or by class.
    pub same_pairs : c.kind ≡ 4 → (x y : ℕ) → Retained g x → Retained g y → adjust (small_says c) (new g x) (new g y) ≡ adjust (small_says d) (new h x) (new h y)
    same_pairs = Both.pairs_more c d more bytes-c bytes-d kept-c kept-d

    -- `same_skips`: both skip the second glyph of such a pair, or not, alike.
    pub same_skips : c.kind ≡ 4 → (x y : ℕ) → Retained g x → Retained g y → skips (small_says c) (new g x) (new g y) ≡ skips (small_says d) (new h x) (new h y)
    same_skips = Both.skips_more c d more bytes-c bytes-d kept-c kept-d

    -- `same_walks`: so along a string of glyphs that the first map retains both find, pair by pair, the same pairs at the same places, with equal adjustments.
    pub same_walks : c.kind ≡ 4 → (string : List ℕ) → All (Retained g) string → walk (small_says c) 0 (map (new g) string) ≡ walk (small_says d) 0 (map (new h) string)
    same_walks = Both.walks_more c d more bytes-c bytes-d kept-c kept-d

    -- `just_fields`: the small tables' value formats have just the fields that stay, and in the second 0x0004 stands in where none does; so `first_stays` and `second_stays` are what a call keeps.
    pub just_fields : c.kind ≡ 4 → KeepsFields g (says c) (small_says c) × KeepsFields h (says c) (small_says d)
    just_fields k = (Both.formats_c c d more bytes-c bytes-d kept-c kept-d k, Both.formats_d c d more bytes-c bytes-d kept-c kept-d k)

    -- `more_fields`: each value field of the first small table is one of the second; only the stand-in, which is there where no field of the second record stays, need not be.
    pub more_fields : c.kind ≡ 4 → MoreFields (first_format (small_says c)) (first_format (small_says d)) × (MoreFields (second_format (small_says c)) (second_format (small_says d)) ⊎ StandIn (second_format (small_says c)) (second_stays g (says c)))
    more_fields k = (Both.first_fields_more c d more bytes-c bytes-d kept-c kept-d k, Both.second_fields_more c d more bytes-c bytes-d kept-c kept-d k)
