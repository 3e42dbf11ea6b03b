use Rattle.glyph_runs.proofs.Reading.{count_pairs}
use mathlib.Core.Path.{◌≡◌}
use Rattle.glyph_runs.proofs.count_runs.Goals as goal

pub returns-then-form-eq6 : goal.returns-then-form-eq6
returns-then-form-eq6 c =
    let e : c.args.form ≡ 6 = c.if-form-eq6.true in
    rw e

pub returns : goal.returns
returns c = count_pairs c.requires c.if-form-eq6.false
