-- Each condition is needed: the smallest calls without it, by computation.
use Rattle.std.specs.Prelude.{ℕ, ◌≡◌, refl, true, false, List, [], ◌∷◌, replicate, None, Some}
use Rattle.meaning.specs.Words.{bytes2, flat, is_some}
use Rattle.meaning.specs.Tables.{table}
use Rattle.meaning.specs.Subset.{subset}
use Rattle.meaning.specs.Matching.{match, ligate, adjust, second_format, substitute}
use Rattle.promises.specs.Refusals.{Call, answer}
use Rattle.promises.specs.Promises.{says, small_says}

-- a call on words, with a glyph map in a form and a buffer of `room` sevens
abbrev calls_in : ℕ → ℕ → List ℕ → List ℕ → List ℕ → ℕ → Call
calls_in form kind source glyphs lookups room =
    record { kind = kind; form = form; packing = 0; source = flat source; glyphs = flat glyphs; lookups = flat lookups; buffer = replicate room 7 }

-- the same with a glyph map of pairs
abbrev calls : ℕ → List ℕ → List ℕ → List ℕ → ℕ → Call
calls = calls_in 4

-- a context by coverage: glyph 5, and a record that runs lookup 4 on it
abbrev one_cover : List ℕ
one_cover = 3 ∷ 1 ∷ 1 ∷ 12 ∷ 0 ∷ 4 ∷ 1 ∷ 1 ∷ 5 ∷ []

-- The second glyph map must hold the old ids of the first: 5 is kept, and 6 is refused as empty.
pub glyphs_needed : ((answer (calls 1 one_cover (5 ∷ 0 ∷ []) [] 14)).number ≡ 0) × ((answer (calls 1 one_cover (6 ∷ 0 ∷ []) [] 14)).number ≡ 8)
unfolding bytes2 flat subset
glyphs_needed = (refl, refl)

-- So must the second lookup map: the record is kept with lookup 4, and lost without it.
abbrev with_lookup : Call
with_lookup = calls 1 one_cover (5 ∷ 0 ∷ []) (4 ∷ 0 ∷ []) 18

abbrev without_lookup : Call
without_lookup = calls 1 one_cover (5 ∷ 0 ∷ []) [] 14

pub lookups_needed : (match (small_says with_lookup) [] 0 [] ≡ Some (1, (0, 0) ∷ [])) × (match (small_says without_lookup) [] 0 [] ≡ Some (1, []))
unfolding bytes2 flat subset table match
lookups_needed = (refl, refl)

-- New ids may differ, and the forms: 5 and 6 to 3 and 4, as one run, and lookup 4 to 9.
abbrev other_ids : Call
other_ids = calls_in 6 1 one_cover (5 ∷ 3 ∷ 2 ∷ []) (2 ∷ 0 ∷ 4 ∷ 9 ∷ []) 18

pub new_ids_differ : ((answer other_ids).number ≡ 0) × (match (small_says other_ids) [] 3 [] ≡ Some (1, (0, 9) ∷ []))
unfolding bytes2 flat subset table match
new_ids_differ = (refl, refl)

-- The string's glyphs must be retained by the first map: 6 is not, and stands there under the number of 5; the source does not match at 6.
pub string_needed : (match (says with_lookup) [] 6 [] ≡ None) × (match (small_says with_lookup) [] 0 [] ≡ Some (1, (0, 0) ∷ []))
unfolding bytes2 flat subset table match
string_needed = (refl, refl)

-- The maps of the second call must be good, and the mark of the form, or it is refused for them: pairs whose old ids fall, a run past 65,535, and the mark 5.
pub good_needed : ((answer (calls 1 one_cover (6 ∷ 0 ∷ 5 ∷ 1 ∷ []) [] 14)).number ≡ 2)
    × ((answer (calls_in 6 1 one_cover (5 ∷ 0 ∷ 65532 ∷ []) [] 14)).number ≡ 2)
    × ((answer (calls_in 5 1 one_cover (5 ∷ 0 ∷ []) [] 14)).number ≡ 13)
unfolding bytes2 flat subset
good_needed = (refl, refl, refl)

-- The second may be short of room where the first is kept.
pub room_differs : (answer (calls 1 one_cover (5 ∷ 0 ∷ []) (4 ∷ 0 ∷ []) 17)).number ≡ 10
unfolding bytes2 flat subset
room_differs = refl

-- Both must be kept: a call that is short of room leaves nothing of its own, and here no bytes at all.
pub kept_needed : ((answer (calls 1 one_cover (5 ∷ 0 ∷ []) (4 ∷ 0 ∷ []) 0)).number ≡ 10) × (match (small_says (calls 1 one_cover (5 ∷ 0 ∷ []) (4 ∷ 0 ∷ []) 0)) [] 0 [] ≡ None)
unfolding bytes2 flat subset table match
kept_needed = (refl, refl)

-- two ligatures of glyph 5: 5, 6, 7 give 20, and 5, 6 give 21
abbrev two_ligatures : List ℕ
two_ligatures = 1 ∷ 28 ∷ 1 ∷ 8 ∷ 2 ∷ 6 ∷ 14 ∷ 20 ∷ 3 ∷ 6 ∷ 7 ∷ 21 ∷ 2 ∷ 6 ∷ 1 ∷ 1 ∷ 5 ∷ []

-- without 20, and with it
abbrev less : Call
less = calls 3 two_ligatures (5 ∷ 0 ∷ 6 ∷ 1 ∷ 7 ∷ 2 ∷ 21 ∷ 3 ∷ []) [] 24

abbrev more : Call
more = calls 3 two_ligatures (5 ∷ 0 ∷ 6 ∷ 1 ∷ 7 ∷ 2 ∷ 20 ∷ 3 ∷ 21 ∷ 4 ∷ []) [] 34

-- The condition on ligatures is needed under the first map: 5, 6 and 7 are retained, 20 is not. Both are kept; the first forms 21, its 3, of two glyphs, and the second 20, its 3 too, of three.
pub closed_needed : ((answer less).number ≡ 0) × ((answer more).number ≡ 0) × (ligate (small_says less) 0 (1 ∷ 2 ∷ []) ≡ Some (3, 2)) × (ligate (small_says more) 0 (1 ∷ 2 ∷ []) ≡ Some (3, 3))
unfolding bytes2 flat subset table ligate
closed_needed = (refl, refl, refl, refl)

-- two single substitutions: 5 by 9, and 6 by 8
abbrev two_singles : List ℕ
two_singles = 2 ∷ 10 ∷ 2 ∷ 9 ∷ 8 ∷ 1 ∷ 2 ∷ 5 ∷ 6 ∷ []

-- without 9, and with it
abbrev less_singles : Call
less_singles = calls 5 two_singles (5 ∷ 0 ∷ 6 ∷ 1 ∷ 8 ∷ 2 ∷ []) [] 12

abbrev more_singles : Call
more_singles = calls 5 two_singles (5 ∷ 0 ∷ 6 ∷ 1 ∷ 8 ∷ 2 ∷ 9 ∷ 3 ∷ []) [] 18

-- The condition on single substitutions is needed under the first map: it keeps 5 as it is, and the second replaces it by 9, its 3.
pub substitutes_needed : ((answer less_singles).number ≡ 0) × ((answer more_singles).number ≡ 0) × (substitute (small_says less_singles) 0 ≡ None) × (substitute (small_says more_singles) 0 ≡ Some 3)
unfolding bytes2 flat subset table substitute
substitutes_needed = (refl, refl, refl, refl)

-- pairs of glyph 4 whose second values are an x placement: 0 for 5, and 3 for 6
abbrev two_pairs : List ℕ
two_pairs = 1 ∷ 22 ∷ 0 ∷ 1 ∷ 1 ∷ 12 ∷ 2 ∷ 5 ∷ 0 ∷ 6 ∷ 3 ∷ 1 ∷ 1 ∷ 4 ∷ []

-- without 6, and with it
abbrev less_pairs : Call
less_pairs = calls 4 two_pairs (4 ∷ 0 ∷ 5 ∷ 1 ∷ []) [] 24

abbrev more_pairs : Call
more_pairs = calls 4 two_pairs (4 ∷ 0 ∷ 5 ∷ 1 ∷ 6 ∷ 2 ∷ []) [] 28

-- The stand-in is no survivor: the first table's second format is 0x0004, and the second's has just the x placement, 0x0001.
pub stand_in_goes : ((answer less_pairs).number ≡ 0) × ((answer more_pairs).number ≡ 0) × (second_format (small_says less_pairs) ≡ 4) × (second_format (small_says more_pairs) ≡ 1)
unfolding bytes2 flat subset table second_format
stand_in_goes = (refl, refl, refl, refl)

-- Both glyphs of a pair must be retained by the first map: 6 is not, and stands there under the number of 4; the second finds the pair 4, 6.
pub pair_needed : (is_some (adjust (small_says less_pairs) 0 0) ≡ false) × (is_some (adjust (small_says more_pairs) 0 2) ≡ true)
unfolding bytes2 flat subset table adjust is_some
pair_needed = (refl, refl)
