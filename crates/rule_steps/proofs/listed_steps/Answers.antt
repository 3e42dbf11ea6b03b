use native.Mathlib.Omega.{arith}
use Rattle.lookup_list.proofs.Parts.{listed_source}
use Rattle.lookup_list.proofs.Readying.{list_short, part_inside}
use Rattle.member_steps.proofs.Tables.{source_taken}
use Rattle.rule_steps.proofs.listed_steps.Goals as goal

pub long_at-requires : goal.long_at-requires
long_at-requires c =
    omega (arith, list_short c.args.list.now c.args.buffer.now c.requires.0, c.requires.1)

pub long_at-requires-2 : goal.long_at-requires-2
long_at-requires-2 c =
    omega (arith, list_short c.args.list.now c.args.buffer.now c.requires.0, c.requires.1)

pub part-src-requires : goal.part-src-requires
part-src-requires c =
    part_inside c.args.list.now c.args.buffer.now c.requires.0 c.args.lookup c.requires.1 c.long_at.ensures.0 c.long_at-2.ensures.0

pub returns : goal.returns
returns c =
    source_taken c.args.steps.now c.args.list.now c.args.buffer.now c.args.lookup (listed_source c.args.list.now c.args.buffer.now c.args.lookup c.long_at.ensures.0 c.long_at-2.ensures.0 c.part-src.ensures) c.word_at.ensures.0 c.table_steps.ensures
