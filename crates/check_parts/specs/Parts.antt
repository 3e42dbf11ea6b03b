-- The fault of a part, by its sort.
use Rattle.std.specs.Prelude.{ℕ, Bool, true, false, cond, ◌&&◌, List, Option, None}
use Rattle.meaning.specs.Words.{word}
use Rattle.meaning.specs.Tables.{field_count}
use Rattle.meaning.specs.Fault.{lowest, part_fault, fault_through, coverage_fault, classes_fault, rule_fault, ligature_fault, set_fault, pair_set_fault, enough, header_fault, good_formats}
use Rattle.covered_between.specs.Header.{good_header}
use Rattle.gsubgpos.specs.Members.{member_fault}
use Rattle.gsubgpos.specs.declared.Member.TheVariants.{Rule, ChainedRule, Ligature}
use Rattle.check_parts.specs.declared.Part.{Part}
use Rattle.check_parts.specs.declared.Part.TheVariants.{Coverage, Classes, Rules, ChainedRules, Ligatures, Pairs}

-- the lowest fault of the part at a place, and of what it reaches
abbrev pub fault_of_part : Part → List ℕ → ℕ → Option ℕ
fault_of_part Coverage s = coverage_fault s
fault_of_part Classes s = classes_fault s
fault_of_part Rules s = set_fault (rule_fault false s) s
fault_of_part ChainedRules s = set_fault (rule_fault true s) s
fault_of_part Ligatures s = set_fault (ligature_fault s) s
fault_of_part Pairs s = pair_set_fault (field_count (word s 4)) (field_count (word s 6)) s

-- the fault of the member at a place of a part that has members; in the others there is none
abbrev pub member_of_part : Part → List ℕ → ℕ → Option ℕ
member_of_part Coverage s at = None
member_of_part Classes s at = None
member_of_part Rules s at = member_fault Rule s at
member_of_part ChainedRules s at = member_fault ChainedRule s at
member_of_part Ligatures s at = member_fault Ligature s at
member_of_part Pairs s at = None

-- the fault of a context by its format, of a ligature table and of a pair table by its format, once the first two bytes stand
abbrev pub by_glyph_fault : Bool → List ℕ → Option ℕ
by_glyph_fault chained s = header_fault (enough s (word s 4)) 0 4 (set_fault (rule_fault chained s) s) s

abbrev pub by_class_fault : Bool → List ℕ → Option ℕ
by_class_fault chained s = cond chained (header_fault true 3 10 (set_fault (rule_fault chained s) s) s) (header_fault true 1 6 (set_fault (rule_fault chained s) s) s)

abbrev pub ligatures_fault : List ℕ → Option ℕ
ligatures_fault s = header_fault (enough s (word s 4)) 0 4 (fault_of_part Ligatures s) s

abbrev pub pair_fields : List ℕ → Bool
pair_fields s = good_formats s && enough s (word s 8)

abbrev pub glyph_pairs_fault : List ℕ → Option ℕ
glyph_pairs_fault s = header_fault (pair_fields s) 0 8 (fault_of_part Pairs s) s

abbrev pub class_pairs_fault : List ℕ → Option ℕ
class_pairs_fault s = part_fault 0 (good_header s) (lowest (fault_through (coverage_fault s) s 0 2 1) (fault_through (classes_fault s) s 0 8 2))
