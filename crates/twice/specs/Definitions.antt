-- What request 6 speaks of: the combined map of two maps, and the identity maps over what was cut.
use Rattle.std.specs.Prelude.{ℕ, ◌≡◌, true, List, [], ◌∷◌, ◌++◌, Option, None, Some}
use Rattle.meaning.specs.Words.{flat, twos, member, keys, values, find, bind, map_some}
use Rattle.meaning.specs.Maps.{map_entries, glyph_entries}
use Rattle.meaning.specs.Tables.{Rule, Table}
use Rattle.meaning.specs.Cut.{insert_up}
use Rattle.laws.specs.Stands.{All}

-- the old ids of the first map whose new id the second one maps, each with that new id
unfoldable pub combined : List (ℕ × ℕ) → List (ℕ × ℕ) → List (ℕ × ℕ)
combined m n = map_some (λ e. bind (find n e.1) (λ v. Some (e.0, v))) m

-- each old id of the second map is a new id of the first
abbrev pub Within : List (ℕ × ℕ) → List (ℕ × ℕ) → Type 0
Within m n = All (λ x. member x (values m) ≡ true) (keys n)

-- a map's entries as its bytes: four an entry, old id then new id
unfoldable pub map_bytes : List (ℕ × ℕ) → List ℕ
map_bytes es = flat (twos es)

-- the combined glyph map of two glyph maps, each in its own form, as the bytes of its pairs
unfoldable pub combined_glyphs : ℕ → List ℕ → ℕ → List ℕ → List ℕ
combined_glyphs form m form₂ n = map_bytes (combined (glyph_entries form m) (glyph_entries form₂ n))

-- the combined lookup map of two lookup maps, from bytes to bytes
unfoldable pub combined_lookups : List ℕ → List ℕ → List ℕ
combined_lookups m n = map_bytes (combined (map_entries m) (map_entries n))

-- each number with itself
unfoldable pub same : List ℕ → List (ℕ × ℕ)
same [] = []
same (v ∷ vs) = (v, v) ∷ same vs

-- a map that takes each of its old ids to itself
abbrev pub Identity : List (ℕ × ℕ) → Type 0
Identity m = All (λ e. e.0 ≡ e.1) m

-- the identity glyph map over the new ids of a glyph map in a form, as the bytes of its pairs
unfoldable pub identity_map : ℕ → List ℕ → List ℕ
identity_map form m = map_bytes (same (values (glyph_entries form m)))

-- the lookups that rules, sets and tables name
unfoldable pub rule_lookups : List Rule → List ℕ
rule_lookups [] = []
rule_lookups (r ∷ rs) = values r.records ++ rule_lookups rs

unfoldable pub set_lookups : List (Option (List Rule)) → List ℕ
set_lookups [] = []
set_lookups (None ∷ ss) = set_lookups ss
set_lookups (Some rs ∷ ss) = rule_lookups rs ++ set_lookups ss

unfoldable pub lookups_of : Table → List ℕ
unfolding values rule_lookups set_lookups
lookups_of (Table.by_glyph chained cover sets) = set_lookups sets
lookups_of (Table.by_class chained cover b i a sets) = set_lookups sets
lookups_of (Table.by_cover chained b i a rs) = values rs
lookups_of (Table.ligatures cover sets) = []
lookups_of (Table.pairs_of cover f1 f2 sets) = []
lookups_of (Table.class_pairs cover first second f1 f2 n rows) = []
lookups_of (Table.single_delta cover d) = []
lookups_of (Table.single_list cover subs) = []

-- numbers in order, each once
unfoldable pub ordered : List ℕ → List ℕ
ordered [] = []
ordered (n ∷ ns) = insert_up n (ordered ns)

-- the identity lookup map over all the lookups that a table names
unfoldable pub identity_lookups : Table → List ℕ
identity_lookups t = map_bytes (same (ordered (lookups_of t)))
