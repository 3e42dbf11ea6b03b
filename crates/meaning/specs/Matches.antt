-- Matching on small tables, by computation: what the rows of calls cannot show, since they end with bytes.
use Rattle.std.specs.Prelude.{ℕ, ◌≡◌, refl, true, false, List, [], ◌∷◌, map, replicate, pos, negsuc, Option, None, Some, option_map}
use Rattle.meaning.specs.Words.{bytes2, flat}
use Rattle.meaning.specs.Tables.{table}
use Rattle.meaning.specs.Subset.{Outcome, left, subset}
use Rattle.meaning.specs.Matching.{Move, at_place, match, ligate, adjust, skips, substitute}

-- chained, by glyph: for glyph 5 first a rule with backtrack 1, input 5 and 6, lookahead 7 and the record (1, 4), then one for 5 alone with the record (0, 9)
abbrev two_rules : List ℕ
two_rules = 1 ∷ 44 ∷ 1 ∷ 8 ∷ 2 ∷ 6 ∷ 24 ∷ 1 ∷ 1 ∷ 2 ∷ 6 ∷ 1 ∷ 7 ∷ 1 ∷ 1 ∷ 4 ∷ 0 ∷ 1 ∷ 0 ∷ 1 ∷ 0 ∷ 9 ∷ 1 ∷ 1 ∷ 5 ∷ []

-- chained, by coverage: backtrack 1, input 5 and 6, lookahead 7, the record (0, 3)
abbrev covers : List ℕ
covers = 3 ∷ 1 ∷ 22 ∷ 2 ∷ 28 ∷ 34 ∷ 1 ∷ 40 ∷ 1 ∷ 0 ∷ 3 ∷ 1 ∷ 1 ∷ 1 ∷ 1 ∷ 1 ∷ 5 ∷ 1 ∷ 1 ∷ 6 ∷ 1 ∷ 1 ∷ 7 ∷ []

-- chained, by class, with no backtrack class table: glyph 5, and a rule that names a class before it
abbrev names_null : ℕ → List ℕ
names_null c = 0x0002 ∷ 0x001C ∷ 0x0000 ∷ 0x0022 ∷ 0x0000 ∷ 0x0001 ∷ 0x000E ∷ 0x0001 ∷ 0x0004 ∷ 0x0001 ∷ c ∷ 0x0001 ∷ 0x0000 ∷ 0x0000 ∷ 0x0001 ∷ 0x0001 ∷ 0x0005 ∷ 0x0002 ∷ 0x0000 ∷ []

-- the same with no lookahead class table, and a rule that names a class ahead
abbrev ahead_null : ℕ → List ℕ
ahead_null c = 2 ∷ 28 ∷ 0 ∷ 34 ∷ 0 ∷ 1 ∷ 14 ∷ 1 ∷ 4 ∷ 0 ∷ 1 ∷ 1 ∷ c ∷ 0 ∷ 1 ∷ 1 ∷ 5 ∷ 2 ∷ 0 ∷ []

-- plain, by glyph: for glyph 5 two rules of glyph count 1, the first without records, the second with (0, 9); for glyph 6 one with (0, 4)
abbrev two_sets : List ℕ
two_sets = 1 ∷ 40 ∷ 2 ∷ 10 ∷ 28 ∷ 2 ∷ 6 ∷ 10 ∷ 1 ∷ 0 ∷ 1 ∷ 1 ∷ 0 ∷ 9 ∷ 1 ∷ 4 ∷ 1 ∷ 1 ∷ 0 ∷ 4 ∷ 1 ∷ 2 ∷ 5 ∷ 6 ∷ []

-- chained, by glyph: for glyph 5 a rule with backtrack 2 and then 1, away from the place, and the record (0, 4)
abbrev two_before : List ℕ
two_before = 1 ∷ 28 ∷ 1 ∷ 8 ∷ 1 ∷ 4 ∷ 2 ∷ 2 ∷ 1 ∷ 1 ∷ 0 ∷ 1 ∷ 0 ∷ 4 ∷ 1 ∷ 1 ∷ 5 ∷ []

-- plain, by class: glyph 5 is covered; 5 and 6 hold class 1, 7 holds class 2; after class 1 a rule asks for class 2, with the record (1, 3)
abbrev rules_by_classes : List ℕ
rules_by_classes = 2 ∷ 26 ∷ 32 ∷ 2 ∷ 0 ∷ 12 ∷ 1 ∷ 4 ∷ 2 ∷ 1 ∷ 2 ∷ 1 ∷ 3 ∷ 1 ∷ 1 ∷ 5 ∷ 1 ∷ 5 ∷ 3 ∷ 1 ∷ 1 ∷ 2 ∷ []

-- chained, by class, each of its three class tables with other glyphs: 3 holds class 1 before, 5 holds class 1 in the input, 7 holds class 2 after; glyph 5 is covered, and the record is (0, 4)
abbrev own_classes : List ℕ
own_classes = 2 ∷ 38 ∷ 44 ∷ 52 ∷ 60 ∷ 2 ∷ 0 ∷ 16 ∷ 1 ∷ 4 ∷ 1 ∷ 1 ∷ 2 ∷ 1 ∷ 1 ∷ 2 ∷ 1 ∷ 0 ∷ 4 ∷ 1 ∷ 1 ∷ 5 ∷ 1 ∷ 3 ∷ 1 ∷ 1 ∷ 1 ∷ 5 ∷ 1 ∷ 1 ∷ 1 ∷ 7 ∷ 1 ∷ 2 ∷ []

-- plain, by glyph: a rule of glyph count 0 for glyph 5
abbrev count_none : List ℕ
count_none = 1 ∷ 16 ∷ 1 ∷ 8 ∷ 1 ∷ 4 ∷ 0 ∷ 0 ∷ 1 ∷ 1 ∷ 5 ∷ []

-- where a context is asked, and what it answers: its input length and its records, or nothing
pub record Asked : Type 0 where
  pub kind : ℕ
  pub source : List ℕ
  pub string : List ℕ
  pub place : ℕ
  pub answers : Option (ℕ × List (ℕ × ℕ))

unfoldable pub asked : List Asked
asked =
    -- the first rule fits, and the search stops there
    record { kind = 2; source = two_rules; string = 1 ∷ 5 ∷ 6 ∷ 7 ∷ []; place = 1; answers = Some (2, (1, 4) ∷ []) }
    -- its lookahead, its backtrack or its input fails: the second fits
    ∷ record { kind = 2; source = two_rules; string = 1 ∷ 5 ∷ 6 ∷ 8 ∷ []; place = 1; answers = Some (1, (0, 9) ∷ []) }
    ∷ record { kind = 2; source = two_rules; string = 2 ∷ 5 ∷ 6 ∷ 7 ∷ []; place = 1; answers = Some (1, (0, 9) ∷ []) }
    ∷ record { kind = 2; source = two_rules; string = 5 ∷ []; place = 0; answers = Some (1, (0, 9) ∷ []) }
    -- a glyph that is not covered, and a place past the end
    ∷ record { kind = 2; source = two_rules; string = 1 ∷ 5 ∷ 6 ∷ 7 ∷ []; place = 0; answers = None }
    ∷ record { kind = 2; source = two_rules; string = 1 ∷ 5 ∷ 6 ∷ 7 ∷ []; place = 4; answers = None }
    -- lookahead follows the input
    ∷ record { kind = 2; source = covers; string = 1 ∷ 5 ∷ 6 ∷ 7 ∷ []; place = 1; answers = Some (2, (0, 3) ∷ []) }
    ∷ record { kind = 2; source = covers; string = 1 ∷ 5 ∷ 6 ∷ 6 ∷ []; place = 1; answers = None }
    -- with a null class table every glyph holds class 0, so a rule that names class 0 there fits any glyph, but not no glyph, and a rule that names class 1 fits nowhere
    ∷ record { kind = 2; source = names_null 0; string = 4 ∷ 5 ∷ []; place = 1; answers = Some (1, []) }
    ∷ record { kind = 2; source = names_null 0; string = 5 ∷ []; place = 0; answers = None }
    ∷ record { kind = 2; source = names_null 1; string = 4 ∷ 5 ∷ []; place = 1; answers = None }
    -- so with a null lookahead class table
    ∷ record { kind = 2; source = ahead_null 0; string = 5 ∷ 4 ∷ []; place = 0; answers = Some (1, []) }
    ∷ record { kind = 2; source = ahead_null 0; string = 5 ∷ []; place = 0; answers = None }
    ∷ record { kind = 2; source = ahead_null 1; string = 5 ∷ 4 ∷ []; place = 0; answers = None }
    -- a count of 0 matches nowhere
    ∷ record { kind = 1; source = count_none; string = 5 ∷ []; place = 0; answers = None }
    ∷ record { kind = 1; source = 3 ∷ 0 ∷ 0 ∷ []; string = 5 ∷ []; place = 0; answers = None }
    -- backtrack runs away from the place
    ∷ record { kind = 2; source = two_before; string = 1 ∷ 2 ∷ 5 ∷ []; place = 2; answers = Some (1, (0, 4) ∷ []) }
    ∷ record { kind = 2; source = two_before; string = 2 ∷ 1 ∷ 5 ∷ []; place = 2; answers = None }
    ∷ record { kind = 2; source = covers; string = 2 ∷ 5 ∷ 6 ∷ 7 ∷ []; place = 1; answers = None }
    -- each coverage of the input is asked, that of the place's own glyph too, and a null one has no glyph
    ∷ record { kind = 2; source = covers; string = 1 ∷ 5 ∷ 8 ∷ 7 ∷ []; place = 1; answers = None }
    ∷ record { kind = 2; source = covers; string = 1 ∷ 6 ∷ 6 ∷ 7 ∷ []; place = 1; answers = None }
    ∷ record { kind = 1; source = 3 ∷ 1 ∷ 0 ∷ 0 ∷ []; string = 5 ∷ []; place = 0; answers = None }
    -- a rule without records stops the search too; sets are chosen by coverage index
    ∷ record { kind = 1; source = two_sets; string = 5 ∷ []; place = 0; answers = Some (1, []) }
    ∷ record { kind = 1; source = two_sets; string = 6 ∷ []; place = 0; answers = Some (1, (0, 4) ∷ []) }
    -- with a null input class table a context by class matches nowhere
    ∷ record { kind = 1; source = 2 ∷ 18 ∷ 0 ∷ 1 ∷ 10 ∷ 1 ∷ 4 ∷ 1 ∷ 0 ∷ 1 ∷ 1 ∷ 5 ∷ []; string = 5 ∷ []; place = 0; answers = None }
    -- sets are chosen by the class of the glyph, which must be covered, and each class of the input is asked
    ∷ record { kind = 1; source = rules_by_classes; string = 5 ∷ 7 ∷ []; place = 0; answers = Some (2, (1, 3) ∷ []) }
    ∷ record { kind = 1; source = rules_by_classes; string = 6 ∷ 7 ∷ []; place = 0; answers = None }
    ∷ record { kind = 1; source = rules_by_classes; string = 5 ∷ 6 ∷ []; place = 0; answers = None }
    -- backtrack and lookahead are asked by their own class tables
    ∷ record { kind = 2; source = own_classes; string = 3 ∷ 5 ∷ 5 ∷ 7 ∷ []; place = 1; answers = Some (2, (0, 4) ∷ []) }
    ∷ record { kind = 2; source = own_classes; string = 5 ∷ 5 ∷ 5 ∷ 7 ∷ []; place = 1; answers = None }
    ∷ record { kind = 2; source = own_classes; string = 3 ∷ 5 ∷ 5 ∷ 5 ∷ []; place = 1; answers = None }
    ∷ []

-- each is answered as it says
pub each_asked : map (λ q. at_place (match (table q.kind (flat q.source))) [] q.string q.place) asked ≡ map (λ q. q.answers) asked
unfolding bytes2 flat table match at_place asked
each_asked = refl

-- two ligatures of glyph 5: 5, 6, 7 give 20, and 5, 6 give 21
abbrev pub two_ligatures : List ℕ
two_ligatures = flat (1 ∷ 28 ∷ 1 ∷ 8 ∷ 2 ∷ 6 ∷ 14 ∷ 20 ∷ 3 ∷ 6 ∷ 7 ∷ 21 ∷ 2 ∷ 6 ∷ 1 ∷ 1 ∷ 5 ∷ [])

-- the first ligature that fits is formed, with its count of components
pub first_ligature : (ligate (table 3 two_ligatures) 5 (6 ∷ 7 ∷ []) ≡ Some (20, 3)) × (ligate (table 3 two_ligatures) 5 (6 ∷ 8 ∷ []) ≡ Some (21, 2)) × (ligate (table 3 two_ligatures) 5 (7 ∷ []) ≡ None)
unfolding bytes2 flat table ligate
first_ligature = (refl, refl, refl)

-- not the longest: 5, 6 give 21 before 5, 6, 7 give 20
pub not_longest : ligate (table 3 (flat (1 ∷ 28 ∷ 1 ∷ 8 ∷ 2 ∷ 6 ∷ 12 ∷ 21 ∷ 2 ∷ 6 ∷ 20 ∷ 3 ∷ 6 ∷ 7 ∷ 1 ∷ 1 ∷ 5 ∷ []))) 5 (6 ∷ 7 ∷ []) ≡ Some (21, 2)
unfolding bytes2 flat table ligate
not_longest = refl

-- a ligature of component count 0 for glyph 5 is formed nowhere
pub no_components : ligate (table 3 (flat (1 ∷ 16 ∷ 1 ∷ 8 ∷ 1 ∷ 4 ∷ 20 ∷ 0 ∷ 1 ∷ 1 ∷ 5 ∷ []))) 5 [] ≡ None
unfolding bytes2 flat table ligate
no_components = refl

-- the cut of that table by the map 5 → 0, 6 → 1, 7 → 2, 21 → 3, into a buffer of 24 bytes
abbrev pub less_one : Outcome
less_one = subset 3 4 0 two_ligatures (flat (5 ∷ 0 ∷ 6 ∷ 1 ∷ 7 ∷ 2 ∷ 21 ∷ 3 ∷ [])) [] (replicate 24 0)

-- The condition on ligatures is needed: the components of the first ligature are retained, and its glyph is not.
-- The source forms 20 of the three glyphs; the small table is kept, and forms 21, which is now 3, of the first two.
pub condition_needed : (less_one.number ≡ 0) × (ligate (table 3 two_ligatures) 5 (6 ∷ 7 ∷ []) ≡ Some (20, 3)) × (ligate (table 3 (left less_one)) 0 (1 ∷ 2 ∷ []) ≡ Some (3, 2))
unfolding bytes2 flat table subset ligate
condition_needed = (refl, refl, refl)

-- the pair 5, 6: x placement −32,768 and x advance −1 for the first glyph, x placement 32,767 for the second
abbrev one_pair : List ℕ
one_pair = flat (1 ∷ 22 ∷ 5 ∷ 1 ∷ 1 ∷ 12 ∷ 1 ∷ 6 ∷ 0x8000 ∷ 0xFFFF ∷ 0x7FFF ∷ 1 ∷ 1 ∷ 5 ∷ [])

-- values are signed, absent fields are 0, and a pair that is not listed is not found; -32,768 is `negsuc 32767`
pub signed_values : (adjust (table 4 one_pair) 5 6 ≡ Some (record { x_placement = negsuc 32767; y_placement = pos 0; x_advance = negsuc 0; y_advance = pos 0 }, record { x_placement = pos 32767; y_placement = pos 0; x_advance = pos 0; y_advance = pos 0 }))
    × (adjust (table 4 one_pair) 5 7 ≡ None)
unfolding bytes2 flat table adjust
signed_values = (refl, refl)

-- the pair 5, 6: y placement 3 and y advance −4 for the first glyph, and no second format
abbrev first_only : List ℕ
first_only = flat (1 ∷ 20 ∷ 10 ∷ 0 ∷ 1 ∷ 12 ∷ 1 ∷ 6 ∷ 3 ∷ 0xFFFC ∷ 1 ∷ 1 ∷ 5 ∷ [])

-- each field has its own place
pub own_fields : adjust (table 4 first_only) 5 6 ≡ Some (record { x_placement = pos 0; y_placement = pos 3; x_advance = pos 0; y_advance = negsuc 3 }, record { x_placement = pos 0; y_placement = pos 0; x_advance = pos 0; y_advance = pos 0 })
unfolding bytes2 flat table adjust
own_fields = refl

-- the pairs 4, 5 and 4, 6, whose second values are zeros, and their cut by 4 → 0, 5 → 1
abbrev pub silent_pairs : List ℕ
silent_pairs = flat (1 ∷ 22 ∷ 0 ∷ 1 ∷ 1 ∷ 12 ∷ 2 ∷ 5 ∷ 0 ∷ 6 ∷ 0 ∷ 1 ∷ 1 ∷ 4 ∷ [])

abbrev pub less_silent : Outcome
less_silent = subset 4 4 0 silent_pairs (flat (4 ∷ 0 ∷ 5 ∷ 1 ∷ [])) [] (replicate 24 0)

-- a pair whose second format is not 0 has its second glyph skipped, in the source and in the small table, which keeps a field for it; a pair that is not found, or has no second format, has not
pub still_skipped : (skips (table 4 silent_pairs) 4 5 ≡ true) × (less_silent.number ≡ 0) × (skips (table 4 (left less_silent)) 0 1 ≡ true) × (skips (table 4 silent_pairs) 5 4 ≡ false) × (skips (table 4 first_only) 5 6 ≡ false)
unfolding bytes2 flat table subset skips
still_skipped = (refl, refl, refl, refl, refl)

-- glyph 5 becomes 4 and 0 becomes 65,535 by the delta −1; 5 becomes 9 and 7 becomes 3 by a list
abbrev by_delta : List ℕ
by_delta = flat (1 ∷ 6 ∷ 0xFFFF ∷ 1 ∷ 2 ∷ 0 ∷ 5 ∷ [])

abbrev pub by_list : List ℕ
by_list = flat (2 ∷ 10 ∷ 2 ∷ 9 ∷ 3 ∷ 1 ∷ 2 ∷ 5 ∷ 7 ∷ [])

-- a covered glyph is replaced, modulo 65,536, and one that is not covered is not
pub substitutes : (substitute (table 5 by_delta) 5 ≡ Some 4) × (substitute (table 5 by_delta) 0 ≡ Some 65535) × (substitute (table 5 by_delta) 4 ≡ None) × (substitute (table 5 by_list) 7 ≡ Some 3) × (substitute (table 5 by_list) 9 ≡ None)
unfolding bytes2 flat table substitute
substitutes = (refl, refl, refl, refl, refl)

-- the cut of the list by the map 5 → 0, 7 → 1, 9 → 2, in which 3, the substitute of 7, is not retained
abbrev pub less_substitute : Outcome
less_substitute = subset 5 4 0 by_list (flat (5 ∷ 0 ∷ 7 ∷ 1 ∷ 9 ∷ 2 ∷ [])) [] (replicate 12 0)

-- 5, whose substitute is retained, is replaced as in the source; 7, whose substitute is not, is replaced in the source and not in the small table
pub substitute_needed : (less_substitute.number ≡ 0) × (substitute (table 5 by_list) 5 ≡ Some 9) × (substitute (table 5 (left less_substitute)) 0 ≡ Some 2) × (substitute (table 5 by_list) 7 ≡ Some 3) × (substitute (table 5 (left less_substitute)) 1 ≡ None)
unfolding bytes2 flat table subset substitute
substitute_needed = (refl, refl, refl, refl, refl)

-- pairs by class: glyphs 5 and 6 are covered, 6 holds first class 1; glyph 7 holds second class 1; the cells are 1, 2 and 3, −1 as advance of the first glyph
abbrev by_classes : List ℕ
by_classes = flat (2 ∷ 24 ∷ 4 ∷ 0 ∷ 32 ∷ 40 ∷ 2 ∷ 2 ∷ 1 ∷ 2 ∷ 3 ∷ 0xFFFF ∷ 1 ∷ 2 ∷ 5 ∷ 6 ∷ 1 ∷ 6 ∷ 1 ∷ 1 ∷ 1 ∷ 7 ∷ 1 ∷ 1 ∷ [])

-- the row is that of the first glyph's first class, the cell that of the second glyph's second class; a first glyph that is not covered has no pair
pub class_values : (option_map (λ m. m.0.x_advance) (adjust (table 4 by_classes) 5 5) ≡ Some (pos 1)) × (option_map (λ m. m.0.x_advance) (adjust (table 4 by_classes) 5 7) ≡ Some (pos 2))
    × (option_map (λ m. m.0.x_advance) (adjust (table 4 by_classes) 6 0) ≡ Some (pos 3)) × (option_map (λ m. m.0.x_advance) (adjust (table 4 by_classes) 6 7) ≡ Some (negsuc 0)) × (adjust (table 4 by_classes) 7 7 ≡ None)
unfolding bytes2 flat table adjust
class_values = (refl, refl, refl, refl, refl)

-- pairs by class with a second format: both glyphs are moved, and the second one is skipped, where the first is covered
abbrev both_moved : List ℕ
both_moved = flat (2 ∷ 20 ∷ 4 ∷ 8 ∷ 26 ∷ 30 ∷ 1 ∷ 1 ∷ 3 ∷ 0xFFFB ∷ 1 ∷ 1 ∷ 5 ∷ 2 ∷ 0 ∷ 2 ∷ 0 ∷ [])

pub both_by_class : (option_map (λ m. m.0.x_advance) (adjust (table 4 both_moved) 5 6) ≡ Some (pos 3)) × (option_map (λ m. m.1.y_advance) (adjust (table 4 both_moved) 5 6) ≡ Some (negsuc 4)) × (skips (table 4 both_moved) 5 6 ≡ true) × (skips (table 4 both_moved) 6 5 ≡ false) × (skips (table 4 by_classes) 5 7 ≡ false)
unfolding bytes2 flat table adjust skips
both_by_class = (refl, refl, refl, refl, refl)
