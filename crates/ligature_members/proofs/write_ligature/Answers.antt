use mathlib.Core.Path.{refl}
use Prim.Native.Nat.{◌+◌, ◌-◌, ◌*◌, ◌≤◌}
use native.Mathlib.Omega.{arith}
use lib.ListN.{length}
use Rattle.meaning.specs.Words.{word}
use Rattle.area.specs.Extends.{extends_none, keeps_none}
use Rattle.numbers.specs.Leaves.{leaves_full, leaves_none, leaves_after}
use Rattle.numbers.proofs.Fronts.{extends_two}
use Rattle.numbers.proofs.Numbers.{found_in}
use Rattle.ligature_members.specs.Left.{ligature_size, ligature_inside, ligature_gone, ligature_left_lem}
use Rattle.ligature_members.proofs.write_ligature.Goals as goal
use Rattle.ligature_members.proofs.write_ligature.Goals.{After-slice_known-1}

-- the ligature lies inside the source
inside : (c : After-slice_known-1) → c.args.at + 4 + 2 * (word c.args.src.now (c.args.at + 2) - 1) ≤ length c.args.src.now
unfolding ligature_size
inside c = omega (arith, ligature_inside c.args.src.now c.args.at c.requires.0)

pub word_inside-old-requires : goal.word_inside-old-requires
word_inside-old-requires c = omega (arith, inside (goal.at.word_inside-old-requires c).After-slice_known-1)

pub returns-in_default : goal.returns-in_default
returns-in_default c =
    leaves_none (ligature_gone _ c.args.src.now c.args.at (rw c.word_inside-old.ensures.0 at (found_in _ c.requires.1 c.in_default.ensures.answer))) keeps_none

pub returns-then-area-pos : goal.returns-then-area-pos
unfolding ligature_size
returns-then-area-pos c = leaves_full refl c.over.ensures (omega arith)

pub overflow_add-at : goal.overflow_add-at
overflow_add-at c = omega (arith, inside (goal.at.overflow_add-at c).After-slice_known-1)

pub word_inside-count-requires : goal.word_inside-count-requires
word_inside-count-requires c = omega (arith, inside (goal.at.word_inside-count-requires c).After-slice_known-1)

pub overflow_add-at-2 : goal.overflow_add-at-2
overflow_add-at-2 c = omega (arith, inside (goal.at.overflow_add-at-2 c).After-slice_known-1)

pub renumber-requires : goal.renumber-requires
renumber-requires c = (omega (arith, inside (goal.at.renumber-requires c).After-slice_known-1), c.requires.1, omega arith)

pub returns : goal.returns
returns c =
    ligature_left_lem _ c.args.src.now c.args.at c.word_inside-old.ensures.0 (found_in _ c.requires.1 c.in-Some.ensures.answer) c.word_inside-count.ensures.0 c.saturating_sub.ensures
    (leaves_after (extends_two (extends_none (omega arith)) _ _ (omega arith) c.put_two-p.ensures) c.renumber.ensures)
