use mathlib.Core.Path.{refl}
use native.Mathlib.Omega.{arith}
use Rattle.laws.specs.SoundGood.{bytes_all}
use Rattle.covers.proofs.Maps.{few_lookups, glyphs_near, few_glyphs, maps_ask, maps_cut}
use Rattle.covers.proofs.cut_in.Goals as goal

pub returns-then-l-eq0 : goal.returns-then-l-eq0
returns-then-l-eq0 c = (few_lookups c.requires.0 c.lay-l.ensures c.if-l-eq0.true, refl)

pub overflow_add-l : goal.overflow_add-l
overflow_add-l c = omega (arith, glyphs_near c.requires.0 c.lay-l.ensures)

pub lay_glyphs-g-requires : goal.lay_glyphs-g-requires
lay_glyphs-g-requires c = (omega (arith, glyphs_near c.requires.0 c.lay-l.ensures), c.requires.0.map.good)

pub returns-then-g-eq0 : goal.returns-then-g-eq0
returns-then-g-eq0 c = (few_glyphs c.requires.0 c.lay-l.ensures c.lay_glyphs-g.ensures c.if-g-eq0.true, refl)

pub cut_context-requires : goal.cut_context-requires
cut_context-requires c =
    let bs = bytes_all c.args.src.now (λ i. omega (arith, c.type_inv.src i)) in
    maps_ask c.requires.0 c.lay-l.ensures c.lay_glyphs-g.ensures c.if-l-eq0.false c.if-g-eq0.false bs c.requires.1 c.requires.2

pub returns : goal.returns
returns c =
    let bl = bytes_all c.args.lookups.now (λ i. omega (arith, c.type_inv.lookups i)) in
    maps_cut c.requires.0 c.lay-l.ensures c.lay_glyphs-g.ensures c.if-l-eq0.false c.if-g-eq0.false bl c.cut_context.ensures
