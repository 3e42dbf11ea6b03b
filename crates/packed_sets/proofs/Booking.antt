-- The book of the sets: with room for them where they are packed, and of one cell else.
use Prim.Native.Nat.{ℕ, ◌≤◌, ◌<◌}
use mathlib.Core.Path.{◌≡◌, sym, ◌∙◌}
use mathlib.Core.Bool.{Bool, true}
use mathlib.Core.List.{List}
use native.Mathlib.Omega.{arith}
use lib.ListN.{length, replicate, length-replicate}
use lib.Dec.{eqb}
use borrow.Author.Tests.{lt-ltb, le-ltb, eq-eqb, ne_eqb}
use Rattle.known_blocks.specs.Book.{book_cells, packs}
use Rattle.kept_rules.specs.declared.Maps.{Maps}
use Rattle.placed_sets.specs.Kept.{Roomy, WroteKept}
use Rattle.placed_sets.specs.declared.Sort.{Sort}
use Rattle.placed_sets.specs.declared.Sets.{Sets}

pub book_roomy : (n : ℕ) → book_cells ≤ n → Roomy (replicate n 0)
book_roomy n h = λ k. omega (arith, length-replicate {A = ℕ} n 0)

module _ {sort : Sort} {s t₀ : List ℕ} {maps : Maps} {at m : ℕ} {area₀ t area : List ℕ} {r : Sets} where
  wrote_as : {packed other : Bool} → packed ≡ other → WroteKept sort s t₀ maps at m packed area₀ t area r → WroteKept sort s t₀ maps at m other area₀ t area r
  wrote_as e w = rw e at w

  pub wrote_asked : {packing : ℕ} → packing ≡ 1 → WroteKept sort s t₀ maps at m true area₀ t area r → WroteKept sort s t₀ maps at m (eqb packing 1) area₀ t area r
  wrote_asked {packing} e = wrote_as (sym (eq-eqb packing 1 e))

  pub wrote_packed : (n : ℕ) → 1 < n → WroteKept sort s t₀ maps at m (packs (replicate n 0)) area₀ t area r → WroteKept sort s t₀ maps at m true area₀ t area r
  wrote_packed n h = wrote_as (lt-ltb 1 (length (replicate n 0)) (omega (arith, length-replicate {A = ℕ} n 0)))

  pub wrote_plain : {packing : ℕ} (n : ℕ) → n ≤ 1 → (packing ≡ 1 → ⊥) → WroteKept sort s t₀ maps at m (packs (replicate n 0)) area₀ t area r → WroteKept sort s t₀ maps at m (eqb packing 1) area₀ t area r
  wrote_plain {packing} n h e = wrote_as (le-ltb 1 (length (replicate n 0)) (omega (arith, length-replicate {A = ℕ} n 0)) ∙ sym (ne_eqb packing 1 e))
