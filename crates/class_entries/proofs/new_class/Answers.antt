use Rattle.class_entries.proofs.Entering.{reads_none, reads_new}
use Rattle.class_entries.proofs.new_class.Goals as goal

pub returns-then-e-class : goal.returns-then-e-class
returns-then-e-class c =
    reads_none c.args.t.now c.args.m c.entry-e.ensures.0 c.if-e-class.true

pub returns : goal.returns
returns c =
    reads_new c.args.t.now c.args.m c.entry-e.ensures.0 c.if-e-class.false
