-- Rules, cut twice.
use Prim.Native.Nat.{ℕ}
use Rattle.std.specs.Prelude.{◌≡◌, Bool, true, false, cond, ◌&&◌, not, Option, None, Some}
use Rattle.std.proofs.Math.Path.{refl, ap}
use Rattle.std.proofs.Common.{sym, ◌∙◌}
use mathlib.Core.List.{List}
use Rattle.std.proofs.Math.Dec.{eqb}
use Rattle.meaning.specs.Words.{find, bind, map_all}
use Rattle.meaning.specs.Tables.{Rule}
use Rattle.meaning.specs.Cut.{RuleMaps, cut_records, cut_rule, cut_set}
use Rattle.twice.specs.Answers.{Then, bind_none, all_twice, some_twice, left_twice}

-- records
module _ (l₁ l₂ l : List (ℕ × ℕ)) (e : Then (find l₁) (find l₂) (find l)) where
  pub records_twice : (rs : List (ℕ × ℕ)) → cut_records l₂ (cut_records l₁ rs) ≡ cut_records l rs
  unfolding cut_records bind
  records_twice rs = some_twice (λ r. bind (find l₁ r.1) (λ n. Some (r.0, n))) (λ r. bind (find l₂ r.1) (λ n. Some (r.0, n))) (λ r. bind (find l r.1) (λ n. Some (r.0, n)))
      (λ r. go r.0 (find l₁ r.1) ∙ ap (λ (o : Option ℕ). bind o (λ n. Some (r.0, n))) (e r.1)) rs
    where
      go : (p : ℕ) (o : Option ℕ) → bind {A = ℕ × ℕ} {B = ℕ × ℕ} (bind o (λ n. Some (p, n))) (λ r. bind (find l₂ r.1) (λ n. Some (r.0, n))) ≡ bind (bind o (find l₂)) (λ n. Some (p, n))
      go p None = refl
      go p (Some n) = refl

-- the maps of a rule: one after the other they do what the third ones do
pub record Combine (m₁ m₂ m : RuleMaps) : Type 0 where
  pub back : Then (find m₁.back) (find m₂.back) (find m.back)
  pub input : Then (find m₁.input) (find m₂.input) (find m.input)
  pub ahead : Then (find m₁.ahead) (find m₂.ahead) (find m.ahead)
  pub lookups : Then (find m₁.lookups) (find m₂.lookups) (find m.lookups)

-- a rule of three sequences, taken apart
abbrev rule_of : Bool → ℕ → List (ℕ × ℕ) → Option (List ℕ) → Option (List ℕ) → Option (List ℕ) → Option Rule
rule_of gone n rs b i a = cond gone None (bind b (λ b. bind i (λ i. bind a (λ a. Some (record { back = b; count = n; input = i; ahead = a; records = rs })))))

module _ (chained : Bool) (m₁ m₂ m : RuleMaps) (k : Combine m₁ m₂ m) where
  pub rule_twice : Then (cut_rule chained m₁) (cut_rule chained m₂) (cut_rule chained m)
  unfolding cut_rule bind
  rule_twice r =
      go (not chained && eqb r.count 0) refl (map_all (find m₁.back) r.back) (map_all (find m₁.input) r.input) (map_all (find m₁.ahead) r.ahead)
      ∙ rw (
        all_twice (find m₁.back) (find m₂.back) (find m.back) k.back r.back,
        all_twice (find m₁.input) (find m₂.input) (find m.input) k.input r.input,
        all_twice (find m₁.ahead) (find m₂.ahead) (find m.ahead) k.ahead r.ahead,
        records_twice m₁.lookups m₂.lookups m.lookups k.lookups r.records,
      )
    where
      rs : List (ℕ × ℕ)
      rs = cut_records m₁.lookups r.records

      go : (z : Bool) → not chained && eqb r.count 0 ≡ z → (b i a : Option (List ℕ))
          → bind (rule_of z r.count rs b i a) (cut_rule chained m₂)
          ≡ rule_of z r.count (cut_records m₂.lookups rs) (bind b (map_all (find m₂.back))) (bind i (map_all (find m₂.input))) (bind a (map_all (find m₂.ahead)))
      go true e b i a = refl
      go false e None i a = refl
      go false e (Some b) None a = sym (bind_none (map_all (find m₂.back) b))
      go false e (Some b) (Some i) None = inner (map_all (find m₂.back) b) (map_all (find m₂.input) i)
        where
          inner : (p q : Option (List ℕ)) → None ≡ bind {A = List ℕ} {B = Rule} p (λ b. bind q (λ i. None))
          inner None q = refl
          inner (Some b) None = refl
          inner (Some b) (Some i) = refl
      go false e (Some b) (Some i) (Some a) = rw e

  pub set_twice : Then (cut_set chained m₁) (cut_set chained m₂) (cut_set chained m)
  unfolding cut_set
  set_twice rs = left_twice (cut_rule chained m₁) (cut_rule chained m₂) (cut_rule chained m) rule_twice rs
