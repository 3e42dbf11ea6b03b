use mathlib.Core.Path.{◌≡◌, sym, ◌∙◌}
use native.Mathlib.Omega.{arith}
use Rattle.meaning.specs.Words.{inside}
use mathlib.Core.Bool.{true}
use Rattle.coverage.proofs.Checking.{sound_cut, sound_listed, sound_ranged, sound_other}
use Rattle.coverage.proofs.sound.Goals as goal
use Rattle.coverage.proofs.sound.Goals.{Else-not-inside}

-- after the first test the header lies inside
header : (c : Else-not-inside) → inside c.args.src.now c.args.at 4 ≡ true
header c = sym c.inside.ensures ∙ c.if-not-inside.false

pub returns-then-not-inside : goal.returns-then-not-inside
returns-then-not-inside c = sound_cut _ _ (sym c.inside.ensures ∙ c.if-not-inside.true)

pub returns-then-inside : goal.returns-then-inside
returns-then-inside c =
    c.ascending.ensures ∙ (rw (sym c.inside-in-1.ensures ∙ c.if-inside.true) at (sound_listed _ _ (header (goal.at.returns-then-inside c).Else-not-inside) c.word_at-n.ensures.0 (omega arith)))

pub returns-else-inside : goal.returns-else-inside
returns-else-inside c =
    c.if-inside.false ∙ (rw (sym c.inside-in-1.ensures ∙ c.if-inside.false) at (sound_listed _ _ (header (goal.at.returns-else-inside c).Else-not-inside) c.word_at-n.ensures.0 (omega arith)))

pub returns-then-inside-2 : goal.returns-then-inside-2
returns-then-inside-2 c =
    c.ranges_sound.ensures ∙ (rw (sym c.inside-in-2.ensures ∙ c.if-inside-2.true) at (sound_ranged _ _ (header (goal.at.returns-then-inside-2 c).Else-not-inside) c.word_at-n.ensures.0 (omega arith)))

pub returns-else-inside-2 : goal.returns-else-inside-2
returns-else-inside-2 c =
    c.if-inside-2.false ∙ (rw (sym c.inside-in-2.ensures ∙ c.if-inside-2.false) at (sound_ranged _ _ (header (goal.at.returns-else-inside-2 c).Else-not-inside) c.word_at-n.ensures.0 (omega arith)))

pub returns-in_default : goal.returns-in_default
returns-in_default c = sound_other _ _ (header (goal.at.returns-in_default c).Else-not-inside) (omega arith) (omega arith)
