use Rattle.glyph_runs.specs.Found.{run_inside}
use Rattle.glyph_runs.proofs.Reading.{is_run, size_six, size_one}
use mathlib.Core.Path.{sym, ◌∙◌}
use Prim.Native.Nat.{◌*◌}
use native.Mathlib.Omega.{arith}
use Rattle.glyph_runs.proofs.run_at.Goals as goal

pub overflow_mul-at : goal.overflow_mul-at
overflow_mul-at c =
    let r = run_inside c.requires.0 c.requires.1 in
    omega (arith, r.0)

pub word_inside-old-requires : goal.word_inside-old-requires
word_inside-old-requires c =
    let r = run_inside c.requires.0 c.requires.1 in
    omega (arith, r.0, r.1)

pub overflow_add-at : goal.overflow_add-at
overflow_add-at c =
    let r = run_inside c.requires.0 c.requires.1 in
    omega (arith, r.0, r.1)

pub word_inside-new-requires : goal.word_inside-new-requires
word_inside-new-requires c =
    let r = run_inside c.requires.0 c.requires.1 in
    omega (arith, r.0, r.1)

pub overflow_add-at-then-form-eq6 : goal.overflow_add-at-then-form-eq6
overflow_add-at-then-form-eq6 c =
    let r = run_inside c.requires.0 c.requires.1 in
    omega (arith, r.0, r.1, c.if-form-eq6.true)

pub word_inside-requires : goal.word_inside-requires
word_inside-requires c =
    let r = run_inside c.requires.0 c.requires.1 in
    omega (arith, r.0, r.1, c.if-form-eq6.true)

pub returns-then-form-eq6 : goal.returns-then-form-eq6
returns-then-form-eq6 c =
    is_run c.requires.0 c.requires.1 c.word_inside-old.ensures.0 c.word_inside-new.ensures.0
    (c.word_inside.ensures.0 ∙ sym (size_six c.args.glyphs.now (c.args.form * c.args.i) c.if-form-eq6.true))

pub returns : goal.returns
returns c =
    is_run c.requires.0 c.requires.1 c.word_inside-old.ensures.0 c.word_inside-new.ensures.0
    (sym (size_one c.args.glyphs.now (c.args.form * c.args.i) c.if-form-eq6.false))
