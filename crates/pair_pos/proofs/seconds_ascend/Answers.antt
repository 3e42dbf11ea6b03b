use mathlib.Core.Path.{◌≡◌, ap, ◌∙◌}
use Prim.Native.Nat.{ℕ, suc, ◌+◌, ◌-◌, ◌*◌, ◌<◌, ◌≤◌}
use native.Mathlib.Nat.{mul-suc}
use native.Mathlib.Omega.{arith}
use Rattle.laws.specs.Ascends.{ascending_all, ascending_turn, ascending_falls, ascending_end}
use Rattle.pair_pos.proofs.seconds_ascend.Goals as goal

-- from the record before the i-th to the i-th
next_place : (at size i : ℕ) → 1 ≤ i → at + size * (i - 1) + size ≡ at + size * i
next_place at size i h =
    let e : i ≡ suc (i - 1) = omega arith in
    omega (arith, ap (λ (k : ℕ). size * k) e ∙ mul-suc size (i - 1))

pub loop-i-init : goal.loop-i-init
loop-i-init c =
    let p : c.args.at + c.args.size * (1 - 1) ≡ c.args.at = omega arith in
    let d : c.args.n - (1 - 1) ≡ c.args.n = omega arith in
    (rw (p, d) ascending_all, rw p c.word_at-last.ensures.0)

pub returns-then-next-last : goal.returns-then-next-last
returns-then-next-last c =
    let q = next_place c.args.at c.args.size c.loop-i.i c.loop-i.auto.i in
    ascending_falls c.loop-i.invariant.0 (omega arith) (rw q c.word_inside-next.ensures.0) c.loop-i.invariant.1 c.if-next-last.true

pub loop-i-preserved : goal.loop-i-preserved
loop-i-preserved c =
    let q = next_place c.args.at c.args.size c.loop-i.i c.loop-i.auto.i in
    let i : c.loop-i.i + 1 - 1 ≡ c.loop-i.i = omega arith in
    let d : c.args.n - (c.loop-i.i - 1) - 1 ≡ c.args.n - c.loop-i.i = omega arith in
    let l : c.loop-i.last < c.word_inside-next.result = omega arith in
    let k = ascending_turn c.loop-i.invariant.0 (omega arith) (rw q c.word_inside-next.ensures.0) c.loop-i.invariant.1 l in
    (rw i (rw (d, q) at k), rw i c.word_inside-next.ensures.0)

pub returns : goal.returns
returns c = ascending_end c.loop-i.invariant.0 (omega arith)
