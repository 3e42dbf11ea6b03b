use mathlib.Core.Path.{◌≡◌, ◌∙◌}
use lib.ListN.{length}
use native.Mathlib.Omega.{arith}
use Rattle.listing.specs.Laid.{laid_said}
use Rattle.first_glyphs.specs.First.{bytes_known}
use Rattle.gathered.specs.Gathered.{Scratch}
use Rattle.set_differences.specs.Said.{scratch_fit}
use Rattle.class_differences.proofs.Whole.{sound_class, whole_list}
use Rattle.class_differences.proofs.lay_rules.Goals as goal

pub lay_numbered-requires : goal.lay_numbered-requires
lay_numbered-requires c =
    let heads : length c.number_rules.new.came ≡ length c.args.heads.now = c.heads-1.given in
    let links : length c.number_rules.new.t ≡ length c.args.links.now = c.links-1.given in
    let e : Scratch (length c.number_rules.new.num) (length c.args.nums.now) (length c.number_rules.new.came) (length c.number_rules.new.t) =
    record { codes = c.num-1.given ∙ c.requires.2.codes; rows = c.requires.2.rows; comes = omega (arith, c.requires.2.comes); linked = omega (arith, c.requires.2.linked) } in
    (sound_class c.args.chained c.args.left.now c.requires.0, sound_class c.args.chained c.args.right.now c.requires.1, scratch_fit e c.number_rules.ensures)

pub returns : goal.returns
returns c =
    let b = bytes_known c.args.left.now (λ i. omega (arith, c.type_inv.left i)) in
    let d = bytes_known c.args.right.now (λ i. omega (arith, c.type_inv.right i)) in
    (laid_said c.lay_numbered.ensures.0 (whole_list c.args.chained c.args.left.now c.args.right.now c.number_rules.new.num c.requires.0 b c.requires.1 d c.number_rules.ensures), c.lay_numbered.ensures.1)
