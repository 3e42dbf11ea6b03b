use Rattle.listing.specs.Listed.{through_all, through_turn, through_end, listed_length, listed_said}
use Rattle.first_glyphs.specs.First.{bytes_known}
use Rattle.pair_differences.specs.Whole.{pair_table_lem, whole_list}
use native.Mathlib.Omega.{arith}
use Rattle.pair_differences.proofs.list_pairs.Goals as goal

pub loop-g-init : goal.loop-g-init
loop-g-init c = through_all

pub list_glyph-at-requires : goal.list_glyph-at-requires
list_glyph-at-requires c = (
  pair_table_lem c.args.left.now c.requires.1 c.requires.0 (bytes_known c.args.left.now (λ i. omega (arith, c.type_inv.left i))),
  pair_table_lem c.args.right.now c.requires.3 c.requires.2 (bytes_known c.args.right.now (λ i. omega (arith, c.type_inv.right i))),
  c.loop-g-test.true,
  omega arith,
)

pub loop-g-preserved : goal.loop-g-preserved
loop-g-preserved c =
    through_turn c.loop-g.invariant c.loop-g-test.true c.list_glyph-at.ensures.0 c.list_glyph-at.ensures.1

pub shape_of-out : goal.shape_of-out
shape_of-out c = listed_length (through_end c.loop-g.invariant c.loop-g-test.false).0

pub returns : goal.returns
returns c =
    let b = bytes_known c.args.left.now (λ i. omega (arith, c.type_inv.left i)) in
    let d = bytes_known c.args.right.now (λ i. omega (arith, c.type_inv.right i)) in
    let e = through_end c.loop-g.invariant c.loop-g-test.false in
    (listed_said e.0 (whole_list c.args.left.now c.args.right.now c.requires.1 (pair_table_lem c.args.left.now c.requires.1 c.requires.0 b) b c.requires.3 (pair_table_lem c.args.right.now c.requires.3 c.requires.2 d) d), omega (arith, e.1))
