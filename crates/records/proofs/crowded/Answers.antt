use native.Mathlib.Omega.{arith}
use Rattle.records.specs.Crowded.{crowds_short, crowds_long, crowds_by}
use Rattle.records.proofs.crowded.Goals as goal

pub returns-then-src-lt1024 : goal.returns-then-src-lt1024
returns-then-src-lt1024 c =
    crowds_short c.args.src.now c.args.slot c.args.n (omega arith)

pub returns-then-src-gt262144 : goal.returns-then-src-gt262144
returns-then-src-gt262144 c =
    crowds_long c.args.src.now c.args.slot c.args.n (omega arith) (omega arith)

pub returns : goal.returns
returns c =
    crowds_by c.args.src.now c.args.slot c.args.n (omega arith) (omega arith) c.members.ensures.0
