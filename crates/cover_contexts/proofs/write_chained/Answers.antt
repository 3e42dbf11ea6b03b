use Rattle.cover_contexts.proofs.Context.{counted_written, back_asks, back_gone, input_asks, input_gone, ahead_asks, ahead_settles}
use mathlib.Core.Path.{refl}
use native.Mathlib.Omega.{arith}
use Rattle.cover_contexts.proofs.write_chained.Goals as goal

pub overflow_sub-at : goal.overflow_sub-at
overflow_sub-at c = omega (arith, (c.requires.0.parts.chain refl).records)

pub put-requires : goal.put-requires
put-requires c =
    omega (arith, (c.requires.0.parts.chain refl).records, c.write_counted_records-first.ensures.same, c.requires.0.header)

pub write_counted_row-q-requires : goal.write_counted_row-q-requires
write_counted_row-q-requires c =
    back_asks c.requires.1 c.requires.0 (counted_written c.requires.1 c.requires.0 c.write_counted_records-first.ensures) c.put.ensures.1

pub returns-then-q-eq0 : goal.returns-then-q-eq0
returns-then-q-eq0 c =
    back_gone c.requires.1 c.requires.0 (counted_written c.requires.1 c.requires.0 c.write_counted_records-first.ensures) c.put.ensures.1 c.write_counted_row-q.ensures c.if-q-eq0.true

pub write_counted_row-r-requires : goal.write_counted_row-r-requires
write_counted_row-r-requires c =
    input_asks c.requires.1 c.requires.0 (counted_written c.requires.1 c.requires.0 c.write_counted_records-first.ensures) c.put.ensures.1 c.write_counted_row-q.ensures c.if-q-eq0.false

pub returns-then-r-eq0 : goal.returns-then-r-eq0
returns-then-r-eq0 c =
    input_gone c.requires.1 c.requires.0 (counted_written c.requires.1 c.requires.0 c.write_counted_records-first.ensures) c.put.ensures.1 c.write_counted_row-q.ensures c.if-q-eq0.false c.write_counted_row-r.ensures c.if-r-eq0.true

pub write_counted_row-requires : goal.write_counted_row-requires
write_counted_row-requires c =
    ahead_asks c.requires.1 c.requires.0 (counted_written c.requires.1 c.requires.0 c.write_counted_records-first.ensures) c.put.ensures.1 c.write_counted_row-q.ensures c.if-q-eq0.false c.write_counted_row-r.ensures c.if-r-eq0.false

pub returns : goal.returns
returns c =
    ahead_settles c.requires.1 c.requires.0 (counted_written c.requires.1 c.requires.0 c.write_counted_records-first.ensures) c.put.ensures.1 c.write_counted_row-q.ensures c.if-q-eq0.false c.write_counted_row-r.ensures c.if-r-eq0.false c.write_counted_row.ensures

pub shape_of-area : goal.shape_of-area
shape_of-area c = (ahead_settles c.requires.1 c.requires.0 (counted_written c.requires.1 c.requires.0 c.write_counted_records-first.ensures) c.put.ensures.1 c.write_counted_row-q.ensures c.if-q-eq0.false c.write_counted_row-r.ensures c.if-r-eq0.false c.write_counted_row.ensures).same
