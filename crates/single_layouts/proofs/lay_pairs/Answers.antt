use mathlib.Core.Path.{subst}
use Prim.Native.Nat.{◌<◌}
use lib.ListN.{length}
use Rattle.meaning.specs.Subset.{Outcome, limit}
use Rattle.tried.specs.Tries.{Tries}
use Rattle.single_tables.proofs.Laying.{standing, laid_nothing, delta_laid, list_laid}
use Rattle.single_layouts.proofs.lay_pairs.Goals as goal

pub returns-then-kept-eq0 : goal.returns-then-kept-eq0
returns-then-kept-eq0 c =
    laid_nothing c.requires c.args.out.now c.if-kept-eq0.true

pub lay_delta-requires : goal.lay_delta-requires
lay_delta-requires c =
    standing c.requires c.if-kept-eq0.false

pub returns-then-kept : goal.returns-then-kept
returns-then-kept c =
    subst (λ (x : Outcome). Tries (⊥) (length c.args.area.now < limit) c.lay_delta.result c.args.out.now c.lay_delta.new.out x) (delta_laid c.requires c.if-kept-eq0.false c.args.out.now c.if-kept.true) c.lay_delta.ensures

pub lay_list-requires : goal.lay_list-requires
lay_list-requires c =
    standing c.requires c.if-kept-eq0.false

pub returns : goal.returns
returns c =
    subst (λ (x : Outcome). Tries (⊥) (length c.args.area.now < limit) c.lay_list.result c.args.out.now c.lay_list.new.out x) (list_laid c.requires c.if-kept-eq0.false c.args.out.now c.if-kept.false) c.lay_list.ensures
