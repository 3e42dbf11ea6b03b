use Rattle.listing.specs.Listed.{listed_one}
use Rattle.listing.proofs.put_listed.Goals as goal

pub returns : goal.returns
returns c =
    listed_one c.args.sort c.args.side c.args.first c.args.rank c.args.left c.args.right c.put_record-p.ensures c.put_record.ensures
