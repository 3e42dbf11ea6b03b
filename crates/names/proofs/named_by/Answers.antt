use native.Mathlib.Omega.{arith}
use Prim.Native.Nat.{◌-◌}
use mathlib.Core.Path.{refl, sym, ap, ◌∙◌}
use Rattle.names.proofs.Naming.{zeros, naming_all, naming_none, naming_turn, naming_end}
use Rattle.names.proofs.named_by.Goals as goal

pub loop-lookup-init : goal.loop-lookup-init
loop-lookup-init c = (refl, naming_all)

pub listed_steps-requires : goal.listed_steps-requires
listed_steps-requires c = (c.requires.0, omega (arith, c.loop-lookup.invariant.0))

pub returns-then-listed_steps-ne0 : goal.returns-then-listed_steps-ne0
returns-then-listed_steps-ne0 c =
    naming_none c.loop-lookup.invariant.1 c.loop-lookup-test.true (c.requires.1 ∙ ap zeros (sym c.loop-lookup.invariant.0)) c.listed_steps.ensures c.if-listed_steps-ne0.true

pub loop-lookup-preserved : goal.loop-lookup-preserved
loop-lookup-preserved c =
    (c.loop-lookup.invariant.0, naming_turn c.loop-lookup.invariant.1 c.loop-lookup-test.true (c.requires.1 ∙ ap zeros (sym c.loop-lookup.invariant.0)) c.listed_steps.ensures c.if-listed_steps-ne0.false)

pub returns : goal.returns
returns c = naming_end c.loop-lookup.invariant.1 c.loop-lookup-test.false
