use native.Mathlib.Omega.{arith}
use Rattle.laws.specs.Left.{words_length}
use Rattle.matching.proofs.Rows.{covers_fine, covers_told, covers_none}
use Rattle.matching.proofs.match_covers.Goals as goal

pub parts_fit-requires : goal.parts_fit-requires
parts_fit-requires c =
    (covers_fine c.cover_parts-r.ensures c.requires.0, c.requires.1, c.requires.2, omega arith)

pub returns-then-parts_fit : goal.returns-then-parts_fit
returns-then-parts_fit c =
    covers_told c.cover_parts-r.ensures _ c.args.place (omega (arith, c.requires.1, words_length c.args.string.now 0 c.args.n)) c.parts_fit.ensures c.if-parts_fit.true

pub returns : goal.returns
returns c =
    covers_none c.cover_parts-r.ensures _ c.args.place (omega (arith, c.requires.1, words_length c.args.string.now 0 c.args.n)) c.parts_fit.ensures c.if-parts_fit.false
