use Prim.Native.Nat.{◌+◌, ◌-◌, ◌/◌}
use native.Mathlib.Omega.{arith}
use Rattle.meaning.specs.Words.{triples}
use Rattle.meaning.specs.Parts.{range_glyphs}
use Rattle.coverage_glyphs.specs.Answers.{Gives}
use Rattle.coverage_glyphs.proofs.Reading.{seeking_all, seeking_up, seeking_down, seeking_end}
use Rattle.coverage_glyphs.proofs.range_glyph.Goals as goal
use Rattle.coverage_glyphs.proofs.range_glyph.Goals.{After-word_at-2}

pub loop-lo-init : goal.loop-lo-init
loop-lo-init c = seeking_all c.requires

pub loop-lo-preserved-then-word_at-i : goal.loop-lo-preserved-then-word_at-i
loop-lo-preserved-then-word_at-i c =
    let mid = c.loop-lo.lo + (c.loop-lo.hi - c.loop-lo.lo) / 2 in
    seeking_up mid c.loop-lo.invariant (omega arith) (omega arith) c.word_at.ensures.0 c.if-word_at-i.true

pub loop-lo-preserved : goal.loop-lo-preserved
loop-lo-preserved c =
    let mid = c.loop-lo.lo + (c.loop-lo.hi - c.loop-lo.lo) / 2 in
    seeking_down mid c.loop-lo.invariant (omega arith) (omega arith) c.word_at.ensures.0 c.if-word_at-i.false

pub overflow_sub-result : goal.overflow_sub-result
overflow_sub-result c = omega (arith, c.loop-lo.invariant.from)

-- what is answered
gives : (c : After-word_at-2)
    → Gives (range_glyphs (triples c.args.src.now c.args.at c.args.n)) c.args.i (c.word_at-2.result + (c.args.i - c.word_at-index.result))
gives c =
    seeking_end c.loop-lo.invariant c.loop-lo-test.false c.word_at-index.ensures.0 c.word_at-2.ensures.0 (λ j. omega (arith, c.type_inv.src j))

pub overflow_add-result : goal.overflow_add-result
overflow_add-result c = omega (arith, (gives (goal.at.overflow_add-result c).After-word_at-2).small)

pub returns : goal.returns
returns c = gives (goal.at.returns c).After-word_at-2
