use Rattle.holding.proofs.Fitting.{parts_none, parts_input, parts_ahead, parts_back}
use Rattle.holding.proofs.parts_fit.Goals as goal

pub returns-then-r-eq0 : goal.returns-then-r-eq0
returns-then-r-eq0 c =
    parts_none c.args.src.now c.args.how c.args.r _ c.args.place c.args.start c.if-r-eq0.true

pub returns-then-not-fits_on : goal.returns-then-not-fits_on
returns-then-not-fits_on c =
    parts_input c.args.src.now c.args.how c.args.r _ c.args.place c.args.start c.if-r-eq0.false c.held_row-input.ensures c.fits_on.ensures c.if-not-fits_on.true-raw

pub returns-then-not-fits_on-2 : goal.returns-then-not-fits_on-2
returns-then-not-fits_on-2 c =
    parts_ahead c.args.src.now c.args.how c.args.r _ c.args.place c.args.start c.if-r-eq0.false c.held_row-input.ensures c.fits_on.ensures c.if-not-fits_on.false-raw c.held_row-ahead.ensures c.fits_on-2.ensures c.if-not-fits_on-2.true-raw

pub returns : goal.returns
returns c =
    parts_back c.args.src.now c.args.how c.args.r _ c.args.place c.args.start c.if-r-eq0.false c.held_row-input.ensures c.fits_on.ensures c.if-not-fits_on.false-raw c.held_row-ahead.ensures c.fits_on-2.ensures c.if-not-fits_on-2.false-raw c.held_row.ensures c.fits_back.ensures
