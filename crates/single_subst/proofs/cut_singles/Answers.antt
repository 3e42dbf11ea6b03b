use mathlib.Core.Path.{refl}
use native.Mathlib.Omega.{arith}
use Rattle.laws.specs.SoundGood.{bytes_all}
use Rattle.single_checks.proofs.Checking.{good_table}
use Rattle.single_subst.proofs.Cutting.{met_cover, counts, meets, keeps, writes, cut_tries}
use Rattle.single_subst.proofs.cut_singles.Goals as goal

pub word_inside-cover-requires : goal.word_inside-cover-requires
word_inside-cover-requires c =
    omega (arith, (good_table c.args.src.now c.requires.0.sound c.requires.1.cover).head)

pub most-requires : goal.most-requires
most-requires c =
    counts c.requires.0 c.requires.1 c.word_inside-cover.ensures.0

pub meet-n-requires : goal.meet-n-requires
meet-n-requires c =
    meets c.requires.0 c.requires.1 c.word_inside-cover.ensures.0 refl c.most.ensures c.if-t-notes.false

pub keep_pairs-kept-requires : goal.keep_pairs-kept-requires
keep_pairs-kept-requires c =
    keeps c.requires.0 c.requires.1 refl (met_cover c.args.src.now c.word_inside-cover.ensures.0 c.meet-n.ensures)

pub lay_pairs-requires : goal.lay_pairs-requires
lay_pairs-requires c =
    writes c.requires.0 c.requires.1 refl (met_cover c.args.src.now c.word_inside-cover.ensures.0 c.meet-n.ensures) c.keep_pairs-kept.ensures (bytes_all c.args.src.now (λ i. omega (arith, c.type_inv.src i)))

pub returns : goal.returns
returns c =
    cut_tries c.requires.0 c.requires.1 refl (met_cover c.args.src.now c.word_inside-cover.ensures.0 c.meet-n.ensures) c.keep_pairs-kept.ensures c.lay_pairs.result c.args.area.now c.args.out.now c.lay_pairs.new.out c.lay_pairs.ensures
