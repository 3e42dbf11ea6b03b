-- What is asked of a set's members.
use Rattle.std.specs.Prelude.{ℕ, Bool, true, false, List, Option}
use Rattle.meaning.specs.Tables.{rule}
use Rattle.meaning.specs.Fault.{rule_fault, ligature_fault}
use Rattle.meaning.specs.Records.{rule_within}
use Rattle.gsubgpos.specs.declared.Member.{Member}
use Rattle.gsubgpos.specs.declared.Member.TheVariants.{Rule, ChainedRule, Ligature}

-- the fault of the member at a place, by its sort
abbrev pub member_fault : Member → List ℕ → ℕ → Option ℕ
member_fault Rule s = rule_fault false s
member_fault ChainedRule s = rule_fault true s
member_fault Ligature s = ligature_fault s

-- no record of the rule at a place points past it
abbrev pub good_rule : Bool → List ℕ → ℕ → Bool
good_rule chained s at = rule_within (rule chained s at)
