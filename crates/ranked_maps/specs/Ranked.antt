-- Ranks hold a map that numbers the members of an ascending list, from 0 on.
use Rattle.std.specs.Prelude.{ℕ, ◌+◌, ◌*◌, ◌%◌, ◌<◌, ◌≡◌, Bool, cond, ◌&&◌, List, Some}
use Rattle.std.proofs.Math.Path.{refl, sym, ap}
use Rattle.std.proofs.Common.{◌∙◌, arith}
use Rattle.std.proofs.Math.Bool.{true, false}
use Rattle.std.proofs.Math.Dec.{ltb}
use borrow.Author.Tests.{ltb-true, ltb-false}
use Rattle.meaning.specs.Words.{find}
use Rattle.meaning.specs.Cut.{numbered}
use Rattle.bits.specs.Bits.{marked}
use Rattle.ranks.specs.Ranks.{marks_below, rank_in, Counts, marks_few, rank_is}
use Rattle.ranks.specs.Listed.{MarksOf, ranks_found, ranks_past}
use Rattle.cell_maps.specs.Cells.{answer_in, rank_entry, no_entry, ranked_mask, Inside, Holds, entry_even, even_ranks, answer_own, answer_none}
use Rattle.cell_maps.specs.declared.Map.{Map}

module _ {t : List ℕ} {at : ℕ} {l : List ℕ} (c : Counts t at) (s : MarksOf t at l) where
  ranks_answer : (x : ℕ) → answer_in (rank_entry t at x) x ≡ find (numbered 0 l) x
  unfolding rank_entry
  ranks_answer x = step (ltb x 65536) refl (marked t at x) refl
    where
      step : (b : Bool) → ltb x 65536 ≡ b → (d : Bool) → marked t at x ≡ d → answer_in (cond (b && d) (x * 65536 + rank_in t at x % 65536) (no_entry x)) x ≡ find (numbered 0 l) x
      step false e d f = answer_none x ∙ sym (ranks_past s x (ltb-false x 65536 e))
      step true e false f = answer_none x ∙ sym (rw f at (ranks_found s x (ltb-true x 65536 e)))
      step true e true f =
          let h : x < 65536 = ltb-true x 65536 e in
          let r : (x * 65536 + rank_in t at x % 65536) % 65536 ≡ marks_below t at x = omega (arith, rank_is c x h, marks_few t at x) in
          answer_own (x * 65536 + rank_in t at x % 65536) x (omega arith) ∙ ap Some r ∙ sym (rw f at (ranks_found s x h))

-- the cells of m, marks of the list's numbers and right counts, hold the map
pub holds_ranks : {t : List ℕ} {m : Map} {l : List ℕ} → Inside t m → m.mask ≡ ranked_mask → Counts t m.at → MarksOf t m.at l → Holds t m (numbered 0 l)
holds_ranks {t} {m} k e c s = record {
  inside = k;
  answers = λ x. ap (λ (v : ℕ). answer_in v x) (entry_even t m (omega (arith, e)) x ∙ even_ranks t m e x) ∙ ranks_answer c s x;
}
