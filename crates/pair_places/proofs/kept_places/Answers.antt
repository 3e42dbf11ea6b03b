use mathlib.Core.Path.{ap}
use mathlib.Core.List.{◌++◌}
use Prim.Native.Nat.{ℕ, ◌+◌, ◌*◌}
use native.Mathlib.Omega.{arith}
use Rattle.pair_places.specs.Formats.{fields, kept_places, places_of}
use Rattle.pair_places.specs.Puts.{puts_more, puts_said}
use Rattle.pair_places.proofs.kept_places.Goals as goal

pub returns : goal.returns
unfolding places_of
returns c =
    (puts_said (puts_more c.put_places-first.ensures.0 c.put_places.ensures.0) (ap (λ (n : ℕ). kept_places 2 c.args.f1 c.args.n1 fields ++ kept_places (2 + 2 * n) c.args.f2 c.args.n2 fields) c.field_count.ensures.0), omega arith)
