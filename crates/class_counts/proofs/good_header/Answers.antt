use Rattle.covered_between.proofs.Counting.{few_cells, few_bytes, header_short, cells_outside, formats_bad, formats_good}
use mathlib.Core.Path.{sym, ◌∙◌}
use native.Mathlib.Omega.{arith}
use Rattle.class_counts.proofs.good_header.Goals as goal

pub returns-then-not-inside : goal.returns-then-not-inside
returns-then-not-inside c =
    header_short c.args.src.now (sym c.inside.ensures ∙ c.if-not-inside.true)

pub overflow_mul-header : goal.overflow_mul-header
overflow_mul-header c =
    omega (arith, few_cells c.header-3.result c.header-4.result c.header-3.ensures.1 c.header-4.ensures.1)

pub overflow_mul-size : goal.overflow_mul-size
overflow_mul-size c =
    omega (arith, few_bytes c.pair_size-size.result c.header-3.result c.header-4.result c.pair_size-size.ensures.1 c.header-3.ensures.1 c.header-4.ensures.1)

pub inside-requires-2 : goal.inside-requires-2
inside-requires-2 c =
    (omega arith, omega (arith, few_bytes c.pair_size-size.result c.header-3.result c.header-4.result c.pair_size-size.ensures.1 c.header-3.ensures.1 c.header-4.ensures.1))

pub returns-then-not-inside-2 : goal.returns-then-not-inside-2
returns-then-not-inside-2 c =
    cells_outside c.args.src.now (sym c.inside.ensures ∙ c.if-not-inside.false) c.header.ensures.0 c.header-2.ensures.0 c.pair_size-size.ensures.0 c.header-3.ensures.0 c.header-4.ensures.0 (sym c.inside-2.ensures ∙ c.if-not-inside-2.true)

pub returns-then-good_formats : goal.returns-then-good_formats
returns-then-good_formats c =
    formats_good c.args.src.now (sym c.inside.ensures ∙ c.if-not-inside.false) c.header.ensures.0 c.header-2.ensures.0 c.pair_size-size.ensures.0 c.header-3.ensures.0 c.header-4.ensures.0 (sym c.inside-2.ensures ∙ c.if-not-inside-2.false) (sym c.good_formats.ensures ∙ c.if-good_formats.true) c.classes_below.ensures

pub returns-else-good_formats : goal.returns-else-good_formats
returns-else-good_formats c =
    c.if-good_formats.false ∙ formats_bad c.args.src.now (sym c.inside.ensures ∙ c.if-not-inside.false) c.header.ensures.0 c.header-2.ensures.0 c.pair_size-size.ensures.0 c.header-3.ensures.0 c.header-4.ensures.0 (sym c.inside-2.ensures ∙ c.if-not-inside-2.false) (sym c.good_formats.ensures ∙ c.if-good_formats.false)
