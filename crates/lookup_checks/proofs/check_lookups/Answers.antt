use Rattle.std.proofs.Common.{refl, rules}
use Rattle.lookup_checks.proofs.Refusing.{checking_all, checking_refused, checking_turn, checking_end}
use Rattle.lookup_checks.proofs.check_lookups.Goals as goal

pub loop-lookup-init : goal.loop-lookup-init
loop-lookup-init c = checking_all

pub returns-in_err-check_listed : goal.returns-in_err-check_listed
returns-in_err-check_listed c =
    let first = checking_refused c.loop-lookup.invariant c.loop-lookup-test.true c.in_err-check_listed.ensures refl in
    search rules

pub loop-lookup-preserved : goal.loop-lookup-preserved
loop-lookup-preserved c = checking_turn c.loop-lookup.invariant c.loop-lookup-test.true c.in_ok-check_listed.ensures refl

pub returns : goal.returns
returns c = checking_end c.loop-lookup.invariant c.loop-lookup-test.false
