-- What the loop over the notes keeps.
use Prim.Native.Nat.{ℕ, ◌+◌, ◌-◌, ◌*◌, ◌/◌, ◌%◌, ◌≤◌, ◌<◌}
use mathlib.Core.Path.{◌≡◌, refl, ap, ◌∙◌}
use mathlib.Core.List.{List, [], ◌∷◌}
use native.Mathlib.Omega.{arith}
use lib.ListN.{length, get_or, length-map}
use lib.Seq.{sets, length-sets}
use Rattle.meaning.specs.Words.{flat, twos}
use Rattle.laws.specs.Written.{Wrote, sets_two}
use Rattle.area.specs.Part.{part, notes, part_length, part_all, part_left, part_none}
use Rattle.covered_map.specs.Named.{named}

-- how many words the entries have
twos_named : (cov : List ℕ) (ns : List (ℕ × ℕ)) → length (twos (named cov ns)) ≡ 2 * length ns
unfolding named twos
twos_named cov [] = refl
twos_named cov (e ∷ r) = omega (arith, twos_named cov r)

-- the words of the notes from the i-th on
abbrev words_from : List ℕ → List ℕ → ℕ → ℕ → List ℕ
words_from cov t at n = twos (named cov (notes t at n))

-- the entries of the notes that are left give, with those so far, the whole
pub record Naming (cov t : List ℕ) (at n : ℕ) (area₀ area : List ℕ) (p i : ℕ) : Type 0 where
  pub within : i ≤ n
  pub place : p ≡ 4 * i
  pub size : length area ≡ length area₀
  pub left : sets area p (flat (words_from cov t (at + i) (n - i))) ≡ sets area₀ 0 (flat (words_from cov t at n))

module _ {cov t : List ℕ} {at n : ℕ} {area₀ : List ℕ} where
  pub naming_all : Naming cov t at n area₀ area₀ 0 0
  naming_all = record { within = omega arith; place = omega arith; size = refl; left = rw (part_all t at n) }

  pub naming_turn : {area next : List ℕ} {p q i note old : ℕ} → Naming cov t at n area₀ area p i → i < n → note ≡ get_or t (at + i) 0 → old ≡ get_or cov (note / 65536) 0
      → (q ≡ p + 4) × (next ≡ sets area p (flat (old ∷ note % 65536 ∷ []))) → Naming cov t at n area₀ next q (i + 1)
  unfolding named twos
  naming_turn {area} {next} {p} {q} {i} {note} {old} k h e f g = record {
    within = omega arith;
    place = omega (arith, k.place, g.0);
    size = ap length g.1 ∙ length-sets area p (flat (old ∷ note % 65536 ∷ [])) ∙ k.size;
    left = rw (g.0, g.1) (sets_two area p old (note % 65536) (words_from cov t (at + (i + 1)) (n - (i + 1))) ∙ rw (f, e) (rw (part_left t at n i h) at k.left));
  }

  pub naming_end : {area : List ℕ} {p i : ℕ} → Naming cov t at n area₀ area p i → n ≤ i → Wrote area₀ 0 (words_from cov t at n) area p
  unfolding named twos flat
  naming_end {area} {p} {i} k h =
      let count : length (notes t at n) ≡ n = length-map {B = ℕ × ℕ} (part t at n) (λ c. (c / 65536, c % 65536)) ∙ part_length t at n in
      record { place = omega (arith, k.place, k.within, twos_named cov (notes t at n)); bytes = rw (part_none t at n i h) at k.left }
