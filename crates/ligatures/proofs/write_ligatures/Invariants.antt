use mathlib.Core.Path.{◌≡◌}
use lib.ListN.{length}
use Rattle.meaning.specs.Tables.{ligature}
use Rattle.meaning.specs.Cut.{cut_ligature}
use Rattle.meaning.specs.Layout.{ligature_words}
use Rattle.numbers.specs.Entries.{entries_in}
use Rattle.member_sets.specs.Dead.{Dead}
use Rattle.member_sets.proofs.Gathering.{Gathering}
use Rattle.ligature_members.specs.Left.{ligature_left}
use Rattle.ligatures.proofs.write_ligatures.Given as goal

abbrev pub invariant-loop-i : goal.invariant-loop-i
invariant-loop-i l =
    Gathering (ligature l.src) (cut_ligature (entries_in l.t l.glyphs)) ligature_words l.src l.at l.n l.initial.area l.pos l.area l.k l.p l.i × Dead (ligature_left (entries_in l.t l.glyphs) l.src) l.dead × (length l.dead ≡ length l.initial.dead)
