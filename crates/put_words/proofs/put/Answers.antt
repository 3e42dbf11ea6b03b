use mathlib.Core.Path.{refl, sym, ◌∙◌}
use native.Mathlib.Numerals.{add-one}
use native.Mathlib.Omega.{arith}
use Prim.Native.Nat.{suc, ◌/◌, ◌%◌, ◌≤◌}
use lib.ListN.{length, set, length-set}
use lib.Seq.{set_out}
use Rattle.meaning.specs.Words.{bytes2}
use Rattle.put_words.proofs.put.Goals as goal

pub returns-then-at-out : goal.returns-then-at-out
unfolding bytes2
returns-then-at-out c = (refl, cc (add-one c.args.at))

-- the second byte has no room
pub returns : goal.returns
unfolding bytes2
returns c =
    let one = set c.args.out.now c.args.at (c.args.w / 256 % 256) in
    let past : length one ≤ suc c.args.at = omega (arith, length-set c.args.out.now c.args.at (c.args.w / 256 % 256), c.if-at-out.false) in
    (refl, c.put_byte.ensures ∙ sym (set_out one (suc c.args.at) (c.args.w % 256) past))
