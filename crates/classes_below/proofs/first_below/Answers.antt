use Rattle.std.proofs.Common.{arith}
use Rattle.std.proofs.lemmas.Grind.{common_steps}
use Rattle.meaning.specs.Fault.{first_below, coverage_fault, classes_fault, part_fault}
use Rattle.meaning.specs.Parts.{classes, class_of}
use Rattle.covered_between.proofs.Counting.{empty_only}
use Rattle.classes_below.proofs.first_below.Goals as goal

-- no class is below 0
pub returns-then-n-eq0 : goal.returns-then-n-eq0
unfolding first_below coverage_fault classes_fault part_fault
returns-then-n-eq0 c =
    let e = empty_only (class_of (classes c.args.src.now c.subtable_place-at.result)) in
    grind (arith, common_steps, e)
