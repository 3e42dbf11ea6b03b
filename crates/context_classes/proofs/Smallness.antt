-- The words of what is left of a set fit, if it takes no more than 65,535 bytes.
use Prim.Native.Nat.{ℕ, ◌*◌, ◌≤◌}
use mathlib.Core.Path.{◌≡◌, refl, ap, subst}
use mathlib.Core.Bool.{Bool, true, false, cond}
use Rattle.std.specs.Prelude.{Option, None, Some, unwrap_or}
use mathlib.Core.List.{List, []}
use native.Mathlib.Omega.{arith}
use lib.ListN.{length}
use lib.Dec.{eqb}
use Rattle.meaning.specs.Tables.{Rule, rule_set}
use Rattle.meaning.specs.Cut.{cut_set}
use Rattle.meaning.specs.Layout.{block, rule_words, set_words}
use Rattle.laws.specs.Stands.{All, Word}
use Rattle.laws.specs.Through.{Opt}
use Rattle.laws.specs.SetsBack.{GoodRule}
use Rattle.laws.specs.CutGood.{cut_set_lem}
use Rattle.laws.specs.SoundGood.{Bytes, rule_set_good}
use Rattle.laws.specs.FitsPacked.{rule_set_fits}
use Rattle.numbers.specs.Leaves.{none_some}
use Rattle.kept_rules.specs.Left.{maps_in}
use Rattle.kept_rules.specs.Good.{maps_good}
use Rattle.kept_rules.specs.declared.Maps.{Maps}
use Rattle.class_spots.specs.Sets.{set_left}

-- so the words of a set of good rules fit
block_fits : (chained : Bool) (o : Option (List Rule)) → Opt (All (GoodRule chained)) o → {ws : List ℕ} → block (set_words (rule_words chained)) o ≡ Some ws → 2 * length ws ≤ 65535 → All Word ws
unfolding block
block_fits chained None g e h = absurd (none_some refl e)
block_fits chained (Some rs) g {ws} e h =
    let same : set_words (rule_words chained) rs ≡ ws = ap (λ (o : Option (List ℕ)). unwrap_or o []) e in
    subst (All Word) same (rule_set_fits chained rs g (omega (arith, ap length same)))

pub left_fits : (chained : Bool) (s : List ℕ) → Bytes s → (t : List ℕ) (maps : Maps) (at : ℕ) {ws : List ℕ} → set_left chained (maps_in t maps) s at ≡ Some ws → 2 * length ws ≤ 65535 → All Word ws
unfolding set_left
left_fits chained s bytes t maps at {ws} = step (eqb at 0)
  where
    left : Option (List Rule)
    left = cut_set chained (maps_in t maps) (rule_set chained s at)

    step : (z : Bool) → cond z None (block (set_words (rule_words chained)) left) ≡ Some ws → 2 * length ws ≤ 65535 → All Word ws
    step true e h = absurd (none_some refl e)
    step false e h = block_fits chained left (cut_set_lem chained (maps_in t maps) (maps_good t maps) (rule_set chained s at) (rule_set_good s bytes chained at)) e h
