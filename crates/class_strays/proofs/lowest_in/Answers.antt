use Rattle.class_strays.proofs.Walking.{lowest_plain, lowest_more}
use Rattle.class_strays.proofs.lowest_in.Goals as goal

pub returns-then-v-le65536 : goal.returns-then-v-le65536
returns-then-v-le65536 c = lowest_plain c.args.v c.if-v-le65536.true

pub returns : goal.returns
returns c = lowest_more c.args.v c.if-v-le65536.false
