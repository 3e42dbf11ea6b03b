-- When a rule fits at a place, and what is told of the rule that matches.
use Rattle.std.specs.Prelude.{ℕ, suc, ◌+◌, ◌≤◌, ◌<◌, ◌≡◌, Bool, false, cond, List, drop, eqb, Option, option_map, IfSome}
use Rattle.meaning.specs.Words.{entries}
use Rattle.meaning.specs.Tables.{rule}
use Rattle.meaning.specs.Matching.{Holds, rule_fits}
use Rattle.replay_laws.specs.Places.{backward}
use Rattle.class_stretches.specs.Tables.{NullOrSound}
use Rattle.holding.specs.Held.{held}
use Rattle.holding.specs.declared.How.{How}
use Rattle.matching.specs.declared.Matched.{Matched}

-- how a rule's three sequences are held
unfoldable pub held_by : List ℕ → How → Holds
held_by s h = record { back = held s h.sort h.back; input = held s h.sort h.input; ahead = held s h.sort h.ahead }

-- numbers are glyphs or classes, and the class tables are sound, where they are not null
pub record SoundTables (s : List ℕ) (h : How) : Type 0 where
  pub sort : h.sort < 2
  pub back : h.sort ≡ 1 → NullOrSound s h.back
  pub input : h.sort ≡ 1 → NullOrSound s h.input
  pub ahead : h.sort ≡ 1 → NullOrSound s h.ahead

-- the rule that an offset reaches fits; a null offset reaches none
unfoldable pub reach_fits : Bool → List ℕ → How → ℕ → ℕ → List ℕ → ℕ → Bool
reach_fits chained s h base off text place = cond (eqb off 0) false (rule_fits (held_by s h) (rule chained s (base + off)) (backward text place) (drop (suc place) text))

-- the input length and the records of a rule that matched
abbrev pub told_by : List ℕ → Matched → ℕ × List (ℕ × ℕ)
told_by s m = (m.input_len, entries s m.records.at m.records.len)

-- its numbers are small
abbrev pub Small : Matched → Type 0
Small m = (m.input_len ≤ 65536) × (m.records.at < 0x1_0000_0000) × (m.records.len < 65536)

-- r tells what matched
pub record Told (s : List ℕ) (o : Option (ℕ × List (ℕ × ℕ))) (r : Option Matched) : Type 0 where
  pub says : option_map (told_by s) r ≡ o
  pub small : IfSome r Small
