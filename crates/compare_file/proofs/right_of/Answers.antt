use native.Mathlib.Omega.{arith}
use Rattle.compare_file.proofs.Files.{is_file, right_is}
use Rattle.compare_file.proofs.right_of.Goals as goal

pub overflow_sub-file : goal.overflow_sub-file
overflow_sub-file c = omega (arith, (is_file c.args.file.now c.requires).long_enough)

pub part_at-requires : goal.part_at-requires
part_at-requires c =
    let f = is_file c.args.file.now c.requires in
    (omega (arith, f.short), f.right)

pub returns : goal.returns
returns c = right_is c.args.file.now c.part_at.ensures
