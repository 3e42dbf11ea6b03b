-- Noted slots become offsets: what the loop keeps, and what it comes to.
use Prim.Native.Nat.{ℕ, ◌+◌, ◌-◌, ◌*◌, ◌≤◌, ◌<◌}
use mathlib.Core.Path.{◌≡◌, refl, ap, ◌∙◌}
use mathlib.Core.List.{List, map}
use native.Mathlib.Omega.{arith}
use lib.ListN.{length, get_or}
use lib.Seq.{sets, length-sets}
use borrow.Author.Tests.{eq-eqb, ne_eqb}
use Rattle.meaning.specs.Words.{word, words, bytes2, flat}
use Rattle.laws.specs.Left.{words_left_lem, words_all, words_none}
use Rattle.laws.specs.Written.{sets_one}
use Rattle.handing.proofs.Moved.{get_d_sets_behind}
use Rattle.class_spots.specs.Slots.{settled}

-- the ways to an offset
pub settled_null : (p : ℕ) {w : ℕ} → w ≡ 0 → 0 ≡ settled p w
unfolding settled
settled_null p {w} e = rw (eq-eqb w 0 e) refl

pub settled_there : (p : ℕ) {w : ℕ} → (w ≡ 0 → ⊥) → p + 2 * (w - 1) ≡ settled p w
unfolding settled
settled_there p {w} e = rw (ne_eqb w 0 e) refl

-- the slots that are left, settled, end the run; and they stand where they stood
pub record Settling (p at n : ℕ) (out₀ out : List ℕ) (i : ℕ) : Type 0 where
  pub within : i ≤ n
  pub same : length out ≡ length out₀
  pub behind : (j : ℕ) → at + 2 * i ≤ j → get_or out j 0 ≡ get_or out₀ j 0
  pub left : sets out (at + 2 * i) (flat (map (settled p) (words out₀ (at + 2 * i) (n - i)))) ≡ sets out₀ at (flat (map (settled p) (words out₀ at n)))

module _ {p at n : ℕ} {out₀ : List ℕ} where
  pub settling_all : Settling p at n out₀ out₀ 0
  settling_all =
      let e : at + 2 * 0 ≡ at = omega arith in
      record { within = omega arith; same = refl; behind = λ j h. refl; left = rw (words_all out₀ at n, e) }

  -- the slot that is read is the one that stood there
  settling_word : {out : List ℕ} {i : ℕ} → Settling p at n out₀ out i → word out (at + 2 * i) ≡ word out₀ (at + 2 * i)
  unfolding word
  settling_word {out} {i} k = rw (k.behind (at + 2 * i) (omega arith), k.behind (at + 2 * i + 1) (omega arith))

  pub settling_turn : {out next : List ℕ} {i slot w v r : ℕ} → Settling p at n out₀ out i → i < n → slot ≡ at + 2 * i → w ≡ word out slot → v ≡ settled p w
      → (r ≡ slot + 2) × (next ≡ sets out slot (bytes2 v)) → Settling p at n out₀ next (i + 1)
  unfolding bytes2
  settling_turn {out} {next} {i} {slot} {w} {v} k h es e s f =
      let g : at + 2 * (i + 1) ≡ at + 2 * i + 2 = omega arith in
      let v₀ : v ≡ settled p (word out₀ (at + 2 * i)) = s ∙ ap (settled p) (e ∙ ap (word out) es ∙ settling_word k) in
      record {
        within = omega arith;
        same = ap length f.1 ∙ length-sets out slot (bytes2 v) ∙ k.same;
        behind = λ j m. ap (λ (b : List ℕ). get_or b j 0) f.1 ∙ get_d_sets_behind (bytes2 v) out slot j (omega arith) ∙ k.behind j (omega arith);
        left = rw (f.1, es, g) (sets_one out (at + 2 * i) v (map (settled p) (words out₀ (at + 2 * i + 2) (n - (i + 1)))) ∙ rw (v₀, ← g) (rw (words_left_lem out₀ at n i h) at k.left));
      }

  pub settling_end : {out : List ℕ} {i : ℕ} → Settling p at n out₀ out i → n ≤ i → out ≡ sets out₀ at (flat (map (settled p) (words out₀ at n)))
  unfolding flat
  settling_end {out} {i} k h = rw (words_none out₀ (at + 2 * i) n i h) at k.left
