use mathlib.Core.Path.{◌∙◌}
use native.Mathlib.Decide.{dec_lt}
use native.Mathlib.Omega.{arith}
use lib.ListN.{get_or-eq_default}
use Rattle.cells.specs.Filled.{filled}
use Rattle.cells.proofs.clear.Goals as goal

pub returns : goal.returns
returns c =
    let f = filled c.args.t.now 0 c.min-end.result c.min-end.result (omega arith) (omega arith) (c.fill.ensures.after (λ y e. e)) in
    record {
      blank = λ i l. elim (dec_lt i c.min-end.result) [
        | yes h ↦ f.blank i (omega arith) h
        | no h ↦ f.behind i (omega arith) ∙ get_or-eq_default c.args.t.now 0 (omega arith)
      ];
      kept = λ i l. f.behind i (omega arith);
    }
