use mathlib.Core.Path.{refl, ap}
use Prim.Native.Nat.{ℕ, ◌/◌, ◌%◌}
use lib.ListN.{set}
use native.Mathlib.Numerals.{add-one}
use Rattle.meaning.specs.Words.{bytes2}
use Rattle.area.proofs.put.Goals as goal

pub returns : goal.returns
unfolding bytes2
returns c = (refl, ap (λ (i : ℕ). set (set c.args.area.now c.args.at (c.args.w / 256 % 256)) i (c.args.w % 256)) (add-one c.args.at))
