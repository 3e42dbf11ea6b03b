-- Whether each part that offsets reach passes a test, as a loop over the offsets finds it.
use Prim.Native.Nat.{ℕ, suc, ◌+◌, ◌-◌, ◌*◌, ◌≤◌, ◌<◌}
use Rattle.std.specs.Prelude.{◌≡◌, Bool, ◌&&◌, List, [], ◌∷◌, eqb, None, Some}
use Rattle.std.proofs.Math.Path.{refl}
use Rattle.std.proofs.Math.Bool.{true, false, cond}
use native.Mathlib.Omega.{arith}
use Rattle.meaning.specs.Words.{word, every}
use Rattle.meaning.specs.Tables.{reach, reaches, drop_null}

-- what the offset at `slot` reaches from `base` passes the test; a null offset reaches nothing
abbrev pub passes : {A : Type 0} → (A → Bool) → (ℕ → A) → List ℕ → ℕ → ℕ → Bool
passes test read s base slot = cond (eqb (word s slot) 0) true (test (read (base + word s slot)))

-- and so does what each of n offsets reaches
abbrev pub all_pass : {A : Type 0} → (A → Bool) → (ℕ → A) → List ℕ → ℕ → ℕ → ℕ → Bool
all_pass test read s base slot n = every test (drop_null (reaches read s base slot n))

-- What a loop over the offsets keeps: whether those from the i-th on pass is whether all do.
pub record Each {A : Type 0} (test : A → Bool) (read : ℕ → A) (s : List ℕ) (base slot n i : ℕ) : Type 0 where
  pub within : i ≤ n
  pub left : all_pass test read s base (slot + 2 * i) (n - i) ≡ all_pass test read s base slot n

module _ {A : Type 0} (test : A → Bool) (read : ℕ → A) (s : List ℕ) (base slot n : ℕ) where
  -- the first and the others
  each_turn : (i : ℕ) → i < n → all_pass test read s base (slot + 2 * i) (n - i) ≡ passes test read s base (slot + 2 * i) && all_pass test read s base (slot + 2 * (i + 1)) (n - (i + 1))
  unfolding every drop_null reach reaches
  each_turn i h =
      let e : n - i ≡ suc (n - (i + 1)) = omega arith in
      let f : slot + 2 * (i + 1) ≡ slot + 2 * i + 2 = omega arith in
      rw (e, f) (step (eqb (word s (slot + 2 * i)) 0))
    where
      step : (b : Bool) → every test (drop_null (cond b None (Some (read (base + word s (slot + 2 * i)))) ∷ reaches read s base (slot + 2 * i + 2) (n - (i + 1))))
          ≡ cond b true (test (read (base + word s (slot + 2 * i)))) && every test (drop_null (reaches read s base (slot + 2 * i + 2) (n - (i + 1))))
      step true = refl
      step false = refl

module _ {A : Type 0} {test : A → Bool} {read : ℕ → A} {s : List ℕ} {base slot n : ℕ} where
  pub each_all : Each test read s base slot n 0
  each_all =
      let e : slot + 2 * 0 ≡ slot = omega arith in
      let f : n - 0 ≡ n = omega arith in
      record { within = omega arith; left = rw (e, f) }

  module _ {i : ℕ} {b : Bool} (k : Each test read s base slot n i) (h : i < n) (e : b ≡ passes test read s base (slot + 2 * i)) where
    pub each_next : b ≡ true → Each test read s base slot n (i + 1)
    each_next t = record { within = omega arith; left = rw (each_turn test read s base slot n i h, ← e, t) at k.left }

    -- one that does not pass settles it
    pub each_fails : b ≡ false → false ≡ all_pass test read s base slot n
    each_fails t = rw (each_turn test read s base slot n i h, ← e, t) at k.left

  pub each_end : {i : ℕ} → Each test read s base slot n i → n ≤ i → true ≡ all_pass test read s base slot n
  unfolding every drop_null reaches
  each_end {i} k h =
      let e : n - i ≡ 0 = omega arith in
      rw e at k.left
