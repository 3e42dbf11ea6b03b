use native.Mathlib.Omega.{arith}
use Rattle.compare_file.proofs.Files.{is_file, kind_is}
use Rattle.compare_file.proofs.kind_of.Goals as goal

pub overflow_sub-file : goal.overflow_sub-file
overflow_sub-file c = omega (arith, (is_file c.args.file.now c.requires).long_enough)

pub returns : goal.returns
returns c = kind_is c.args.file.now c.word_at.ensures
