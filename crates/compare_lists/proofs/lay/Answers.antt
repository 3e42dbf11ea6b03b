use mathlib.Core.Path.{sym, ◌∙◌}
use borrow.Author.Tests.{not-false}
use Rattle.faults.specs.Reached.{refused, passed}
use lib.Seq.{length-take-le}
use Rattle.compare_lists.proofs.lay.Goals as goal

pub lay_direct-requires : goal.lay_direct-requires
lay_direct-requires c =
    (c.requires.0, c.requires.1, c.requires.2, refused c.by_rules.ensures c.if-not-by_rules.true-raw)

pub lay_own-requires : goal.lay_own-requires
lay_own-requires c =
    (c.requires.0, c.requires.1, c.requires.2, passed c.by_rules.ensures c.if-not-by_rules.false-raw)

pub slice_bounds-lay_rules-end : goal.slice_bounds-lay_rules-end
slice_bounds-lay_rules-end c = c.codes_in-n.ensures.0

pub slice_bounds-lay_rules-end-2 : goal.slice_bounds-lay_rules-end-2
slice_bounds-lay_rules-end-2 c =
    sym (length-take-le c.codes_in-n.result c.args.num.now c.codes_in-n.ensures.0)

pub lay_rules-requires : goal.lay_rules-requires
lay_rules-requires c =
    let t = not-false c.enough.result c.if-not-enough.false-raw in
    let s = c.enough.ensures.rest t in (
      c.requires.0,
      c.requires.1,
      c.requires.2,
      passed c.by_rules.ensures c.if-not-by_rules.false-raw,
      record { codes = length-take-le c.codes_in-n.result c.args.num.now c.codes_in-n.ensures.0 ∙ c.codes_in-n.ensures.1 (c.enough.ensures.codes t); rows = s.rows; comes = s.comes; linked = s.linked },
    )
