use Rattle.listing.specs.Laid.{laid_said}
use Rattle.first_glyphs.specs.First.{bytes_known}
use Rattle.set_differences.specs.Said.{scratch_fit}
use Rattle.glyph_differences.specs.Whole.{slot_table, whole_list}
use mathlib.Core.Path.{◌≡◌, ◌∙◌}
use native.Mathlib.Omega.{arith}
use lib.ListN.{length}
use Rattle.gathered.specs.Gathered.{Scratch}
use Rattle.glyph_differences.proofs.lay_rules.Goals as goal

pub lay_numbered-requires : goal.lay_numbered-requires
lay_numbered-requires c =
    let heads : length c.number_all.new.came ≡ length c.args.heads.now = c.heads-1.given in
    let e : Scratch (length c.number_all.new.num) (length c.args.nums.now) (length c.number_all.new.came) (length c.args.links.now) =
    record { codes = c.num-1.given ∙ c.requires.2.codes; rows = c.requires.2.rows; comes = omega (arith, c.requires.2.comes); linked = c.requires.2.linked } in (
      slot_table c.args.left.now (bytes_known c.args.left.now (λ i. omega (arith, c.type_inv.left i))) c.args.kind c.requires.0,
      slot_table c.args.right.now (bytes_known c.args.right.now (λ i. omega (arith, c.type_inv.right i))) c.args.kind c.requires.1,
      scratch_fit e c.number_all.ensures,
    )

pub returns : goal.returns
returns c =
    let b = bytes_known c.args.left.now (λ i. omega (arith, c.type_inv.left i)) in
    let d = bytes_known c.args.right.now (λ i. omega (arith, c.type_inv.right i)) in
    (laid_said c.lay_numbered.ensures.0 (whole_list c.args.kind c.args.left.now c.args.right.now c.args.links.now c.number_all.new.num c.requires.0 b c.requires.1 d c.number_all.ensures), c.lay_numbered.ensures.1)
