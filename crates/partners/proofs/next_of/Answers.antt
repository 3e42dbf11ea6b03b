use Rattle.partners.proofs.Chaining.{next_there}
use lib.Seq.{get_or-drop}
use mathlib.Core.Path.{sym, ◌∙◌}
use Prim.Native.Nat.{◌-◌}
use native.Mathlib.Omega.{arith}
use lib.ListN.{drop}
use Rattle.partners.proofs.next_of.Goals as goal

pub returns : goal.returns
returns c =
    (c.cell.ensures.0 ∙ sym (get_or-drop 131072 c.args.links.now (c.args.h - 1) 0) ∙ next_there (drop 131072 c.args.links.now) c.args.h (omega arith), c.cell.ensures.1)
