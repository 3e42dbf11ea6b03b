-- A plain rule: its numbers and its records are written behind the place for its two counts, which are put last.
use Prim.Native.Nat.{ℕ, ◌+◌, ◌-◌, ◌*◌, ◌/◌, ◌≤◌}
use mathlib.Core.Path.{◌≡◌, refl, sym, ap, ◌∙◌}
use mathlib.Core.Bool.{false}
use Rattle.std.specs.Prelude.{Some}
use mathlib.Core.List.{List, [], ◌∷◌, ◌++◌}
use native.Mathlib.Omega.{arith}
use lib.ListN.{length}
use lib.Seq.{sets}
use Rattle.meaning.specs.Words.{word, words, entries, twos, flat, find, map_all}
use Rattle.meaning.specs.Tables.{rule}
use Rattle.meaning.specs.Cut.{RuleMaps, cut_records, cut_rule}
use Rattle.meaning.specs.Layout.{block, rule_words}
use Rattle.laws.specs.Stands.{twos_length}
use Rattle.area.specs.Extends.{Extends, extends_more, keeps_less}
use Rattle.laws.specs.Left.{words_length}
use Rattle.numbers.specs.Leaves.{Leaves, Stays, leaves_none, leaves_words, leaves_gone, leaves_stays, leaves_room, map_length}
use Rattle.numbers.proofs.Fronts.{extends_before}
use Rattle.kept_rules.specs.Left.{rule_size, plain_gone, plain_is}

-- what is left of it, in the numbers that were read
plain_said : (m : RuleMaps) (s : List ℕ) (at : ℕ) {count n k : ℕ} {ns : List ℕ} → count ≡ word s at → (count ≡ 0 → ⊥) → n ≡ count - 1 → k ≡ word s (at + 2)
    → map_all (find m.input) (words s (at + 4) n) ≡ Some ns
    → block (rule_words false) (cut_rule false m (rule false s at))
    ≡ Some (count ∷ length (cut_records m.lookups (entries s (at + 4 + 2 * n) k)) ∷ (ns ++ twos (cut_records m.lookups (entries s (at + 4 + 2 * n) k))))
plain_said m s at e z d f h =
    let g = ap (λ (i : ℕ). map_all (find m.input) (words s (at + 4) i)) (sym (d ∙ ap (λ (i : ℕ). i - 1) e)) ∙ h in
    rw (f, d, e) (plain_is m s at (λ w. z (e ∙ w)) g)

module _ (m : RuleMaps) (s : List ℕ) (at : ℕ) {count n : ℕ} (e : count ≡ word s at) (z : count ≡ 0 → ⊥) (d : n ≡ count - 1) {a b : List ℕ} (pos : ℕ) {q : ℕ}
    (l : Leaves a (pos + 4) (map_all (find m.input) (words s (at + 4) n)) (2 * n) b q) where
  -- a number of its input goes
  pub plain_ends : q ≡ 0 → Leaves a pos (block (rule_words false) (cut_rule false m (rule false s at))) (rule_size false s at) b 0
  plain_ends v =
      let g = leaves_gone l (omega arith) v in
      leaves_none (plain_gone m s at (λ w. z (e ∙ w)) (ap (λ (i : ℕ). map_all (find m.input) (words s (at + 4) i)) (sym (d ∙ ap (λ (i : ℕ). i - 1) e)) ∙ g.0)) (keeps_less (omega arith) g.1)

  module _ (h : pos + 4 + 2 * n ≤ length a) (v : q ≡ 0 → ⊥) where
    input : Stays a (pos + 4) (map_all (find m.input) (words s (at + 4) n)) b q
    input = leaves_stays l v (leaves_room l (omega arith))

    -- where its records come to stand
    pub plain_place : q ≡ pos + 4 + 2 * n
    plain_place = omega (arith, input.extends.place, map_length (find m.input) (words s (at + 4) n) input.is, words_length s (at + 4) n)

    -- they follow, and then the counts
    pub plain_left : {k end r : ℕ} {c after : List ℕ} → k ≡ word s (at + 2) → Extends b q (twos (cut_records m.lookups (entries s (at + 4 + 2 * n) k))) c end
        → (r ≡ pos + 4) × (after ≡ sets c pos (flat (count ∷ (end - q) / 4 ∷ []))) → Leaves a pos (block (rule_words false) (cut_rule false m (rule false s at))) (rule_size false s at) after end
    plain_left {k} {end} {r} {c} {after} f y o =
        let rs = cut_records m.lookups (entries s (at + 4 + 2 * n) k) in
        let many : (end - q) / 4 ≡ length rs = omega (arith, y.place, twos_length rs) in
        let whole : block (rule_words false) (cut_rule false m (rule false s at)) ≡ Some (count ∷ length rs ∷ (input.words ++ twos rs)) = plain_said m s at e z d f input.is in
        leaves_words whole (extends_before (count ∷ length rs ∷ []) (extends_more input.extends y) refl (o.1 ∙ ap (λ (i : ℕ). sets c pos (flat (count ∷ i ∷ []))) many))
