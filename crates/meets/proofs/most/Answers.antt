use Rattle.meets.proofs.Forms.{most_runs, most_pairs}
use Rattle.meets.proofs.most.Goals as goal

pub returns-then-form-eq6 : goal.returns-then-form-eq6
returns-then-form-eq6 c = most_runs c.if-form-eq6.true c.count.ensures

pub returns : goal.returns
returns c = most_pairs c.requires.1 c.if-form-eq6.false
