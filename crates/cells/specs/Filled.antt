-- Cells of which a part is filled with 0.
use Rattle.std.specs.Prelude.{ℕ, ◌+◌, ◌-◌, ◌≤◌, ◌<◌, ◌≡◌, List, ◌++◌, length, get_or}
use Rattle.std.proofs.Common.{take, drop, replicate, arith, rules, ap, ◌∙◌, length-append, length-drop}
use Rattle.std.proofs.lemmas.List.{places, length-replicate, get_or-replicate, get_or-append_right, get_or_append_left, length-take-le}
use borrow.Rule.Slice.PartMut.{put_mid}

-- The cells from the place a up to e are 0, and the others are as they were.
pub record Filled (a e : ℕ) (old new : List ℕ) : Type 0 where
  pub size : length new ≡ length old
  pub blank : (i : ℕ) → a ≤ i → i < e → get_or new i 0 ≡ 0
  pub before : (i : ℕ) → i < a → get_or new i 0 ≡ get_or old i 0
  pub behind : (i : ℕ) → e ≤ i → get_or new i 0 ≡ get_or old i 0

-- what a slice's `fill` leaves of the k cells from a on, which end at e
pub filled : (t : List ℕ) (a k e : ℕ) {ys : List ℕ} → e ≡ a + k → e ≤ length t → ys ≡ replicate (length (take k (drop a t))) 0 → Filled a e t (put_mid a k t ys)
filled t a k e {ys} d f z = record {
  size = omega (arith, long, length-append (take a t) (ys ++ drop k (drop a t)), length-append ys (drop k (drop a t)), length-take-le a t (omega arith), length-drop k (drop a t), length-drop a t);
  blank = λ i l m.
      get_or-append_right (take a t) (ys ++ drop k (drop a t)) a i 0 (length-take-le a t (omega arith)) l
      ∙ get_or_append_left ys (drop k (drop a t)) 0 (i - a) (omega (arith, long))
      ∙ rw z (get_or-replicate (length (take k (drop a t))) (i - a) 0 0 (omega (arith, part)));
  before = λ i l. search (rules, places);
  behind = λ i l. search (rules, places);
}
  where
    part : length (take k (drop a t)) ≡ k
    part = length-take-le k (drop a t) (omega (arith, length-drop a t))

    long : length ys ≡ k
    long = ap length z ∙ length-replicate (length (take k (drop a t))) 0 ∙ part
