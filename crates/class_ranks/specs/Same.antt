-- Cells of a stretch that a function leaves alone, and what stands there.
use Rattle.std.specs.Prelude.{ℕ, ◌+◌, ◌≤◌, ◌<◌, ◌≡◌, List, length, get_or}
use Rattle.std.proofs.Common.{ap, ◌∙◌, arith}
use Rattle.cell_maps.specs.Cells.{answer_in, folded, Inside, Holds, Kept, entry_same}
use Rattle.cell_maps.specs.declared.Map.{Map}
use Rattle.area.specs.Part.{part}
use Rattle.area.specs.Stored.{part_same}
use Rattle.class_lists.specs.Elsewhere.{Elsewhere}
use Rattle.ranked_maps.specs.Present.{top_of, present, present_alike}

-- the cells from `from` up to `to` are as before, and so is how many there are
pub record Same (from to : ℕ) (t u : List ℕ) : Type 0 where
  pub size : length u ≡ length t
  pub each : (i : ℕ) → from ≤ i → i < to → get_or u i 0 ≡ get_or t i 0

pub kept_same : {at : ℕ} {t u : List ℕ} → Kept at t u → Same 0 at t u
kept_same k = record { size = k.size; each = λ i l h. k.same i h }

pub after_same : {from to : ℕ} (end : ℕ) {t u : List ℕ} → Elsewhere from to t u → Same to end t u
after_same end k = record { size = k.size; each = λ i l h. k.after i l }

module _ {from to : ℕ} {t u : List ℕ} (k : Same from to t u) where
  pub part_alike : (at n : ℕ) → from ≤ at → at + n ≤ to → part u at n ≡ part t at n
  part_alike at n a b = part_same u t at n (λ j l g. k.each j (omega arith) (omega arith))

  module _ (m : Map) (a : from ≤ m.at) (b : m.at + m.mask < to) where
    pub inside_same : Inside t m → Inside u m
    inside_same o = record { within = omega (arith, k.size, o.within) }

    folded_same : (x : ℕ) → folded u m x ≡ folded t m x
    folded_same x = ap (λ (e : ℕ). answer_in e x) (entry_same t u m (λ i c d. k.each i (omega arith) (omega arith)) x)

    pub holds_same : {es : List (ℕ × ℕ)} → Holds t m es → Holds u m es
    holds_same o = record { inside = inside_same o.inside; answers = λ x. folded_same x ∙ o.answers x }

    pub present_same : present u m ≡ present t m
    present_same = present_alike t u m folded_same 0 (top_of m + 1)
