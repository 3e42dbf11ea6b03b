use lib.Seq.{length-take-le}
use Rattle.context_classes.proofs.Cutting.{front_inside, form_there, few_lookups, cells_same, may_write, cut_into}
use mathlib.Core.Path.{refl, sym, ◌∙◌}
use Rattle.class_contexts.proofs.cut_noted.Goals as goal

pub returns-then-classed-eq0 : goal.returns-then-classed-eq0
returns-then-classed-eq0 c = (c.lay_classes-classed.ensures.room c.if-classed-eq0.true, refl)

pub slice_bounds-lay-end-2 : goal.slice_bounds-lay-end-2
slice_bounds-lay-end-2 c = sym (length-take-le _ _ (front_inside c.requires c.lay_classes-classed.ensures))

pub returns-then-l-eq0 : goal.returns-then-l-eq0
returns-then-l-eq0 c = (few_lookups c.requires c.lay_classes-classed.ensures c.lay-l.ensures c.if-l-eq0.true, refl)

pub nonzero_rem-glyphs : goal.nonzero_rem-glyphs
nonzero_rem-glyphs c = form_there c.requires

pub write_left-requires : goal.write_left-requires
write_left-requires c = may_write c.requires c.lay_classes-classed.ensures c.lay-l.ensures c.if-classed-eq0.false c.if-l-eq0.false c.prepare-prepared.ensures

pub shape_of-t : goal.shape_of-t
shape_of-t c = c.t-3-1.given ∙ cells_same c.requires c.lay_classes-classed.ensures c.lay-l.ensures

pub returns : goal.returns
returns c = cut_into c.requires c.lay_classes-classed.ensures c.lay-l.ensures c.if-classed-eq0.false c.if-l-eq0.false c.write_left.result c.args.out.now _ c.prepare-prepared.ensures c.write_left.ensures
