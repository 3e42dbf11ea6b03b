-- Stretches of the area: what is kept of them, what is written into them, and words that are put before others.
use Prim.Native.Nat.{ℕ, zero, suc, ◌+◌, ◌*◌, ◌≤◌}
use mathlib.Core.Path.{◌≡◌, refl, sym, ap, ◌∙◌}
use mathlib.Core.List.{List, [], ◌∷◌, ◌++◌}
use native.Mathlib.Omega.{arith}
use lib.ListN.{length, get_or, take, drop}
use lib.Seq.{sets, drop-append_seam}
use Rattle.meaning.specs.Words.{bytes2, flat}
use Rattle.laws.specs.Stands.{flat_length}
use Rattle.laws.specs.Written.{Wrote, flat_one}
use Rattle.area.specs.Extends.{Keeps, Extends, extends_more, extends_keeps, keeps_less, keeps_byte, keeps_extends, wrote_extends}
use Rattle.area.specs.Part.{part, take_part}
use Rattle.handing.proofs.Moved.{part_behind}

-- a stretch of a front that stays
pub part_keeps : {a b : List ℕ} {n : ℕ} → Keeps a n b → (at m : ℕ) → at + m ≤ n → part b at m ≡ part a at m
unfolding part
part_keeps k at zero h = refl
part_keeps {a} k at (suc m) h = rw (keeps_byte at k (omega arith)) (ap (λ (l : List ℕ). get_or a at 0 ∷ l) (part_keeps k (at + 1) m (omega arith)))

-- lists with the same front go on alike
same_after : (xs : List ℕ) {ys zs : List ℕ} → xs ++ ys ≡ xs ++ zs → ys ≡ zs
same_after xs {ys} {zs} e = sym (drop-append_seam xs ys) ∙ ap (drop (length xs)) e ∙ drop-append_seam xs zs

-- the stretch of words that were written
pub extends_part : {a ws b : List ℕ} {p q : ℕ} → Extends a p ws b q → part b p (2 * length ws) ≡ flat ws
extends_part {a} {ws} {b} {p} {q} x =
    let k = extends_keeps x in
    same_after (take p a)
    (ap (λ (l : List ℕ). l ++ part b p (2 * length ws)) (sym k.front) ∙ sym (take_part b p (2 * length ws) (omega (arith, x.place, x.room, x.same)))
    ∙ ap (λ (i : ℕ). take i b) (sym x.place) ∙ x.front)

-- words that stand already
pub part_extends : {c : List ℕ} {q r : ℕ} (ws : List ℕ) → r ≡ q + 2 * length ws → r ≤ length c → part c q (2 * length ws) ≡ flat ws → Extends c q ws c r
part_extends {c} {q} ws e h f = record {
  place = e;
  room = h;
  same = refl;
  front = ap (λ (i : ℕ). take i c) e ∙ take_part c q (2 * length ws) (omega arith) ∙ ap (λ (l : List ℕ). take q c ++ l) f;
}

-- words put into the place that was left for them, before those that were written
pub extends_before : {a b c : List ℕ} {p q r : ℕ} (vs : List ℕ) {ws : List ℕ} → Extends a q ws b r → q ≡ p + 2 * length vs → c ≡ sets b p (flat vs) → Extends a p (vs ++ ws) c r
extends_before {a} {b} {c} {p} {q} {r} vs {ws} x e f =
    let first : Wrote b p vs c q = record { place = e; bytes = f } in
    let y : Extends b p vs c q = wrote_extends first (omega (arith, x.place, x.room, x.same)) in
    let rest : part c q (2 * length ws) ≡ flat ws =
    ap (λ (s : List ℕ). part s q (2 * length ws)) f ∙ part_behind (flat vs) b p q (2 * length ws) (omega (arith, flat_length vs)) ∙ extends_part x in
    keeps_extends (keeps_less (omega arith) (extends_keeps x)) (extends_more y (part_extends ws x.place (omega (arith, x.room, x.same, y.same)) rest))

-- words after words, as they are put
module _ {a ws b c : List ℕ} {p q r : ℕ} (x : Extends a p ws b q) where
  extends_put : (vs : List ℕ) → q + 2 * length vs ≤ length a → r ≡ q + 2 * length vs → c ≡ sets b q (flat vs) → Extends a p (ws ++ vs) c r
  extends_put vs h e f =
      let w : Wrote b q vs c r = record { place = e; bytes = f } in
      extends_more x (wrote_extends w (omega (arith, x.same)))

  pub extends_one : (w : ℕ) → q + 2 ≤ length a → (r ≡ q + 2) × (c ≡ sets b q (bytes2 w)) → Extends a p (ws ++ (w ∷ [])) c r
  extends_one w h e = extends_put (w ∷ []) h e.0 (rw (flat_one w) e.1)

  pub extends_two : (v w : ℕ) → q + 4 ≤ length a → (r ≡ q + 4) × (c ≡ sets b q (flat (v ∷ w ∷ []))) → Extends a p (ws ++ (v ∷ w ∷ [])) c r
  extends_two v w h e = extends_put (v ∷ w ∷ []) h e.0 e.1
