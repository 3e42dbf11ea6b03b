use mathlib.Core.Path.{refl}
use native.Mathlib.Omega.{arith}
use Rattle.laws.specs.SoundGood.{bytes_all}
use Rattle.cut_sets.proofs.Asking.{may_count, may_meet, may_write, pairs_answered}
use Rattle.pairs_by_glyph.proofs.cut_pair_sets.Goals as goal

pub most-requires : goal.most-requires
most-requires c =
    may_count c.requires.0 c.requires.1 c.requires.3 c.word_inside-cover.ensures.0

pub returns-then-t-notes : goal.returns-then-t-notes
returns-then-t-notes c = record { answer = (omega (arith, c.if-t-notes.true, c.most.ensures.small), refl) }

pub meet-m-requires : goal.meet-m-requires
meet-m-requires c =
    may_meet c.requires.0 c.requires.1 c.requires.3 c.word_inside-cover.ensures.0 c.most.ensures c.if-t-notes.false

pub write_pair_table-requires : goal.write_pair_table-requires
write_pair_table-requires c =
    (may_write c.requires.0 c.requires.1 c.requires.3 c.word_inside-cover.ensures.0 c.meet-m.ensures (bytes_all c.args.src.now (λ i. omega (arith, c.type_inv.src i))), c.requires.2)

pub returns : goal.returns
returns c =
    pairs_answered c.requires.0 c.requires.1 c.requires.3 c.word_inside-cover.ensures.0 c.meet-m.ensures c.write_pair_table.ensures
