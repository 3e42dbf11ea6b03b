use Rattle.std.proofs.Common.{sym, ap, ◌∙◌}
use Rattle.meaning.specs.Fault.{lowest}
use Rattle.faults.specs.Low.{none_lower}
use Rattle.check_parts.proofs.Low.{from_start}
use Rattle.check_parts.proofs.Seen.{seen_more}
use Rattle.check_parts.proofs.check_once.Goals as goal

pub returns-then-found_before : goal.returns-then-found_before
returns-then-found_before c =
    (none_lower c.args.low c.args.at _ (from_start c.args.part c.args.src.now c.args.at) (sym c.found_before.ensures ∙ c.if-found_before.true), c.requires.1, c.requires.2)

pub returns : goal.returns
returns c =
    let g = c.lowest.ensures ∙ ap (lowest c.args.low) c.check_part-found.ensures.0 in
    (g, seen_more c.args.at c.requires.1 g c.put_bit.ensures, c.check_part-found.ensures.1)
