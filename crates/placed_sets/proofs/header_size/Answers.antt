use mathlib.Core.Path.{◌≡◌, refl}
use mathlib.Core.Bool.{Bool}
use Prim.Native.Nat.{◌≤◌}
use native.Mathlib.Omega.{arith}
use Rattle.pair_sets.specs.declared.Formats.{Formats}
use Rattle.placed_sets.specs.Sorts.{header_size}
use Rattle.placed_sets.specs.declared.Sort.{Sort}
use Rattle.placed_sets.specs.declared.Sort.TheVariants.{Rules, Ligatures, Pairs}
use Rattle.placed_sets.proofs.header_size.Goals as goal

-- pairs alone have words between the coverage's offset and the count
rules_six : {sort : Sort} {chained : Bool} → sort ≡ Rules chained → (6 ≡ header_size sort) × (6 ≤ 10)
rules_six e = rw e (refl, omega arith)

ligatures_six : {sort : Sort} → sort ≡ Ligatures → (6 ≡ header_size sort) × (6 ≤ 10)
ligatures_six e = rw e (refl, omega arith)

pairs_ten : {sort : Sort} {f : Formats} → sort ≡ Pairs f → (10 ≡ header_size sort) × (10 ≤ 10)
pairs_ten e = rw e (refl, omega arith)

pub returns-in-Rules : goal.returns-in-Rules
returns-in-Rules c = rules_six c.in-Rules.is

pub returns-in-Ligatures : goal.returns-in-Ligatures
returns-in-Ligatures c = ligatures_six c.in-Ligatures.is

pub returns-in-Pairs : goal.returns-in-Pairs
returns-in-Pairs c = pairs_ten c.in-Pairs.is
