use mathlib.Core.Path.{◌∙◌}
use Rattle.map_runs.proofs.Runs.{form_runs, form_pairs}
use Rattle.maps.proofs.good_glyphs.Goals as goal

pub returns-then-form-eq6 : goal.returns-then-form-eq6
returns-then-form-eq6 c = c.good_runs.ensures ∙ form_runs c.args.m.now c.args.form c.if-form-eq6.true

pub returns : goal.returns
returns c = c.good_pairs.ensures ∙ form_pairs c.args.m.now c.args.form c.if-form-eq6.false
