use Rattle.covered_between.proofs.Counting.{first_format, second_format}
use Rattle.class_counts.proofs.good_formats.Goals as goal

pub returns-then-header-ge256 : goal.returns-then-header-ge256
returns-then-header-ge256 c =
    first_format c.args.src.now c.header.ensures.0 c.if-header-ge256.true

pub returns : goal.returns
returns c =
    second_format c.args.src.now c.header.ensures.0 c.if-header-ge256.false c.header-2.ensures.0
