use Rattle.cell_maps.proofs.RunLaws.{runs_good, laid_runs, laid_pairs}
use Rattle.fold_glyphs.proofs.lay_glyphs.Goals as goal

pub lay_runs-requires : goal.lay_runs-requires
lay_runs-requires c =
    (c.requires.0, runs_good c.args.form c.args.list.now c.if-form-eq6.true c.requires.1)

pub returns-then-form-eq6 : goal.returns-then-form-eq6
returns-then-form-eq6 c = laid_runs c.if-form-eq6.true c.lay_runs.ensures

pub returns : goal.returns
returns c =
    laid_pairs c.if-form-eq6.false c.requires.1 c.lay.ensures
