-- The new value formats, by the fields that the sets use that notes name.
use Rattle.std.specs.Prelude.{ℕ, ◌+◌, ◌*◌, ◌≤◌, ◌≡◌, List, length}
use Rattle.meaning.specs.Words.{word, find}
use Rattle.meaning.specs.Tables.{Pair, field_count, reaches, pair_set}
use Rattle.meaning.specs.Cut.{cut_pairs, keep_if, kept_sets, new_format, stand_in, new_second}
use Rattle.cell_maps.specs.Cells.{Inside}
use Rattle.cell_maps.specs.declared.Map.{Map}
use Rattle.numbers.specs.Alike.{Alike}
use Rattle.range_meets.specs.Met.{met}
use Rattle.pair_places.specs.Formats.{field_place, pair_size, below, used_first, used_second}
use Rattle.pair_sets.specs.declared.Formats.{Formats}
use Rattle.field_uses.specs.Used.{used_in, NamesSets, used_alike, used_met}

-- the format with just the fields that are used, of the format f, whose value record starts at `start` in a pair record
unfoldable pub format_in : List (ℕ × ℕ) → List ℕ → ℕ → ℕ → ℕ → List (ℕ × ℕ) → ℕ
format_in g s size start f ns =
    keep_if (used_in g s size (field_place start f 1) ns) 1 + keep_if (used_in g s size (field_place start f 2) ns) 2 + keep_if (used_in g s size (field_place start f 4) ns) 4 + keep_if (used_in g s size (field_place start f 8) ns) 8

-- what is asked of n notes from `at` on: the pair sets that they name lie inside, and so do the source's formats
pub record AsksFormats (s t : List ℕ) (glyphs : Map) (at n : ℕ) : Type 0 where
  pub header : 10 ≤ length s
  pub names : NamesSets s t at n (pair_size (word s 4) (word s 6))
  pub inside : Inside t glyphs

-- r has the formats of the source, and the new ones under the map g, of the pair sets that the notes ns name
pub record NewFormats (g : List (ℕ × ℕ)) (s : List ℕ) (ns : List (ℕ × ℕ)) (r : Formats) : Type 0 where
  pub f1 : r.f1 ≡ word s 4
  pub f2 : r.f2 ≡ word s 6
  pub size : r.size ≡ pair_size (word s 4) (word s 6)
  pub n1 : r.n1 ≡ format_in g s (pair_size (word s 4) (word s 6)) 2 (word s 4) ns
  pub n2 : r.n2 ≡ stand_in (word s 6) (format_in g s (pair_size (word s 4) (word s 6)) (2 + 2 * field_count (word s 4)) (word s 6) ns)

-- maps that answer alike
pub format_alike : {g h : List (ℕ × ℕ)} → Alike g h → (s : List ℕ) (size start f : ℕ) (ns : List (ℕ × ℕ)) → format_in g s size start f ns ≡ format_in h s size start f ns
unfolding format_in
format_alike e s size start f ns =
    rw (used_alike e s size (field_place start f 1) ns, used_alike e s size (field_place start f 2) ns, used_alike e s size (field_place start f 4) ns, used_alike e s size (field_place start f 8) ns)

-- They are those of the kept sets.
module _ (g : List (ℕ × ℕ)) (s : List ℕ) (f1 f2 : ℕ) (cov : List ℕ) (n : ℕ) (h : length cov ≤ n) where
  -- the kept pair sets of a coverage
  abbrev kept : List (ℕ × List Pair)
  kept = kept_sets (cut_pairs g) g cov (reaches (pair_set (field_count f1) (field_count f2) s) s 0 10 n)

  pub first_format : format_in g s (pair_size f1 f2) 2 f1 (met (find g) 0 cov) ≡ new_format (λ p. p.first_values) f1 kept
  unfolding format_in new_format
  first_format =
      let b = below f1 in
      rw (
        used_met g s (pair_size f1 f2) (field_place 2 f1 1) (field_count f1) (field_count f2) (λ p. p.first_values) f1 1 (λ m r at. used_first f1 f2 g s 1 m r at b.0) 0 cov n h,
        used_met g s (pair_size f1 f2) (field_place 2 f1 2) (field_count f1) (field_count f2) (λ p. p.first_values) f1 2 (λ m r at. used_first f1 f2 g s 2 m r at b.1.0) 0 cov n h,
        used_met g s (pair_size f1 f2) (field_place 2 f1 4) (field_count f1) (field_count f2) (λ p. p.first_values) f1 4 (λ m r at. used_first f1 f2 g s 4 m r at b.1.1.0) 0 cov n h,
        used_met g s (pair_size f1 f2) (field_place 2 f1 8) (field_count f1) (field_count f2) (λ p. p.first_values) f1 8 (λ m r at. used_first f1 f2 g s 8 m r at b.1.1.1.0) 0 cov n h,
      )

  pub second_format : stand_in f2 (format_in g s (pair_size f1 f2) (2 + 2 * field_count f1) f2 (met (find g) 0 cov)) ≡ new_second f2 kept
  unfolding format_in new_format new_second
  second_format =
      let b = below f2 in
      let start = 2 + 2 * field_count f1 in
      rw (
        used_met g s (pair_size f1 f2) (field_place start f2 1) (field_count f1) (field_count f2) (λ p. p.second_values) f2 1 (λ m r at. used_second f1 f2 g s 1 m r at b.0) 0 cov n h,
        used_met g s (pair_size f1 f2) (field_place start f2 2) (field_count f1) (field_count f2) (λ p. p.second_values) f2 2 (λ m r at. used_second f1 f2 g s 2 m r at b.1.0) 0 cov n h,
        used_met g s (pair_size f1 f2) (field_place start f2 4) (field_count f1) (field_count f2) (λ p. p.second_values) f2 4 (λ m r at. used_second f1 f2 g s 4 m r at b.1.1.0) 0 cov n h,
        used_met g s (pair_size f1 f2) (field_place start f2 8) (field_count f1) (field_count f2) (λ p. p.second_values) f2 8 (λ m r at. used_second f1 f2 g s 8 m r at b.1.1.1.0) 0 cov n h,
      )
