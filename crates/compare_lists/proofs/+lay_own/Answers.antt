use Rattle.std.proofs.Common.{ℕ, sym}
use Rattle.std.proofs.lemmas.List.{length-replicate}
use Rattle.compare_lists.proofs.Owning.{own_scratch}
use Rattle.compare_lists.proofs.+lay_own.Goals as goal

-- each list of cells is as long as is said: by the lemma, and not by counting them
pub slice_bounds-lay_rules-end : goal.slice_bounds-lay_rules-end
slice_bounds-lay_rules-end t c = sym (length-replicate {A = ℕ} 262144 0)

pub slice_bounds-lay_rules-end-2 : goal.slice_bounds-lay_rules-end-2
slice_bounds-lay_rules-end-2 t c = sym (length-replicate {A = ℕ} 131075 0)

pub slice_bounds-lay_rules-end-3 : goal.slice_bounds-lay_rules-end-3
slice_bounds-lay_rules-end-3 t c = sym (length-replicate {A = ℕ} 589828 0)

pub slice_bounds-lay_rules-end-4 : goal.slice_bounds-lay_rules-end-4
slice_bounds-lay_rules-end-4 t c = sym (length-replicate {A = ℕ} 458752 0)

pub lay_rules-requires : goal.lay_rules-requires
lay_rules-requires t c = (c.requires.0, c.requires.1, c.requires.2, c.requires.3, own_scratch)
