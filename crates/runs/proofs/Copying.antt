-- The ways through copying words.
use Prim.Native.Nat.{ℕ, suc, ◌+◌, ◌*◌, ◌≤◌, ◌<◌}
use mathlib.Core.Path.{◌≡◌, refl, sym, ap, ◌∙◌}
use mathlib.Core.List.{List, [], ◌∷◌}
use native.Mathlib.Decide.{dec_lt}
use native.Mathlib.Omega.{arith}
use lib.ListN.{length, get_or, set}
use lib.Seq.{sets, length-sets, get_or-set_same, get_or-set_other}
use Rattle.meaning.specs.Words.{word, words, bytes2}
use Rattle.laws.specs.Left.{words_length, words_at}
use Rattle.replay_laws.specs.Places.{put_glyph}

-- lists of one length that are the same at each place are the same
same_list : (xs ys : List ℕ) → length xs ≡ length ys → ((k : ℕ) → k < length xs → get_or xs k 0 ≡ get_or ys k 0) → xs ≡ ys
same_list [] [] e h = refl
same_list [] (y ∷ ys) e h = absurd (omega arith)
same_list (x ∷ xs) [] e h = absurd (omega arith)
same_list (x ∷ xs) (y ∷ ys) e h = rw (h 0 (omega arith), same_list xs ys (omega arith) (λ k l. h (suc k) (omega arith)))

-- What the loop of `copy_words` keeps: the first i words are copied.
pub record Copied (s : List ℕ) (at n : ℕ) (out₀ out : List ℕ) (i : ℕ) : Type 0 where
  pub within : i ≤ n
  pub long : length out ≡ length out₀
  pub done : (k : ℕ) → k < i → get_or (words out 0 n) k 0 ≡ word s (at + 2 * k)

module _ {s : List ℕ} {at n : ℕ} {out₀ : List ℕ} where
  pub copied_none : Copied s at n out₀ out₀ 0
  copied_none = record { within = omega arith; long = refl; done = λ k l. absurd (omega arith) }

  pub copied_turn : {out next : List ℕ} {i w : ℕ} → Copied s at n out₀ out i → i < n → 2 * n ≤ length out₀ → (w ≡ word s (at + 2 * i)) × (w < 65536) → next ≡ sets out (2 * i) (bytes2 w) → Copied s at n out₀ next (i + 1)
  copied_turn {out} {next} {i} {w} c h l e f = record {
    within = omega arith;
    long = ap length f ∙ length-sets out (2 * i) (bytes2 w) ∙ c.long;
    done = λ k m. rw stored (there k m (dec_lt k i));
  }
    where
      stored : words next 0 n ≡ set (words out 0 n) i w
      stored =
          let z : 0 + 2 * i ≡ 2 * i = omega arith in
          ap (λ (x : List ℕ). words x 0 n) f ∙ (rw z at (put_glyph out 0 n i w h e.1 (omega (arith, c.long))))

      there : (k : ℕ) → k < i + 1 → Dec (k < i) → get_or (set (words out 0 n) i w) k 0 ≡ word s (at + 2 * k)
      there k m (yes q) =
          let d : k ≡ i → ⊥ = λ x. omega arith in
          get_or-set_other (words out 0 n) i k w 0 d ∙ c.done k q
      there k m (no q) =
          let d : k ≡ i = omega arith in
          rw d (get_or-set_same (words out 0 n) i w 0 (omega (arith, words_length out 0 n)) ∙ e.0)

  pub copied_all : {out : List ℕ} {i : ℕ} → Copied s at n out₀ out i → n ≤ i → words out 0 n ≡ words s at n
  copied_all {out} {i} c h =
      same_list (words out 0 n) (words s at n) (words_length out 0 n ∙ sym (words_length s at n))
      (λ k l. let m : k < n = omega (arith, words_length out 0 n) in c.done k (omega arith) ∙ sym (words_at s at n k m))
