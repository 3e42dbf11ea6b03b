-- What maps in cells answer are words.
use Rattle.std.specs.Prelude.{ℕ, zero, suc, ◌+◌, ◌/◌, ◌%◌, Bool, true, false, cond, List, [], ◌∷◌, get_or, eqb, Option, None, Some}
use Rattle.std.proofs.Common.{arith}
use Rattle.std.specs.Int.Bits.{bit_and}
use Rattle.meaning.specs.Words.{bind, push, map_some, up_from}
use Rattle.laws.specs.Stands.{Word}
use Rattle.laws.specs.Through.{Opt}
use Rattle.laws.specs.CutGood.{Values, GoodMaps}
use Rattle.cell_maps.specs.Cells.{cell_entry, answer_in, folded, even_mask}
use Rattle.cell_maps.specs.declared.Map.{Map}
use Rattle.numbers.specs.Entries.{entry_in, answered_from, entries_in}
use Rattle.kept_rules.specs.declared.Maps.{Maps}
use Rattle.kept_rules.specs.Left.{maps_in}

-- the numbers that cells answer are words
answer_word : (e x : ℕ) → Opt Word (answer_in e x)
unfolding answer_in
answer_word e x = step (eqb (e / 65536) x)
  where
    step : (t : Bool) → Opt Word (cond t (Some (e % 65536)) None)
    step true = omega arith
    step false = tt

answered_values : (f : ℕ → Option ℕ) → ((x : ℕ) → Opt Word (f x)) → (a n : ℕ) → Values (answered_from f a n)
unfolding answered_from push bind
answered_values f h a zero = tt
answered_values f h a (suc n) = step (f a) (h a) (answered_values f h (a + 1) n)
  where
    step : (o : Option ℕ) → Opt Word o → Values (answered_from f (a + 1) n) → Values (push (bind o (λ v. Some (a, v))) (answered_from f (a + 1) n))
    step None w r = r
    step (Some v) w r = (w, r)

cell_values : (t : List ℕ) (m : Map) (is : List ℕ) → Values (map_some (entry_in t m) is)
unfolding map_some push entry_in
cell_values t m [] = tt
cell_values t m (i ∷ is) = step (eqb (bit_and (get_or t (m.at + i) 0 / 65536) m.mask) i) (cell_values t m is)
  where
    step : (b : Bool) → Values (map_some (entry_in t m) is) → Values (push (cond b (Some (get_or t (m.at + i) 0 / 65536, get_or t (m.at + i) 0 % 65536)) None) (map_some (entry_in t m) is))
    step true r = (omega arith, r)
    step false r = r

pub entries_values : (t : List ℕ) (m : Map) → Values (entries_in t m)
unfolding entries_in
entries_values t m = step (even_mask m)
  where
    step : (b : Bool) → Values (cond b (answered_from (folded t m) 0 65536) (map_some (entry_in t m) (up_from 0 (m.mask + 1))))
    step true = answered_values (folded t m) (λ x. answer_word (cell_entry t m x) x) 0 65536
    step false = cell_values t m (up_from 0 (m.mask + 1))

-- so maps in cells are good maps
pub maps_good : (t : List ℕ) (maps : Maps) → GoodMaps (maps_in t maps)
maps_good t maps = record { back = entries_values t maps.back; input = entries_values t maps.input; ahead = entries_values t maps.ahead; lookups = entries_values t maps.lookups }
