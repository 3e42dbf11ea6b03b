use native.Mathlib.Omega.{arith}
use Prim.Native.Nat.{◌+◌, ◌≤◌}
use lib.ListN.{length, get_or-eq_default}
use Rattle.meaning.specs.Words.{word}
use Rattle.wire.proofs.word_at.Goals as goal

pub returns-then-s-lt2 : goal.returns-then-s-lt2
unfolding word
returns-then-s-lt2 c =
    let h : length c.args.s.now ≤ c.args.at + 1 = omega arith in
    (omega (arith, c.byte.ensures, get_or-eq_default c.args.s.now 0 h), omega (arith, c.byte.ensures))

pub returns-then-s-at : goal.returns-then-s-at
unfolding word
returns-then-s-at c =
    let h : length c.args.s.now ≤ c.args.at + 1 = omega arith in
    (omega (arith, c.byte-then-s-at.ensures, get_or-eq_default c.args.s.now 0 h), omega (arith, c.byte-then-s-at.ensures))
