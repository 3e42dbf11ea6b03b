-- The ways through a lookup's step and through a rule's records.
use Prim.Native.Nat.{ℕ, zero, suc, ◌+◌, ◌-◌, ◌*◌, ◌≤◌, ◌<◌}
use mathlib.Core.Path.{◌≡◌, refl, sym, ap, ◌∙◌}
use Rattle.std.specs.Prelude.{Option, None, Some, Result, Ok, Err, IsErr}
use mathlib.Core.List.{List}
use native.Mathlib.Omega.{arith}
use lib.ListN.{length}
use lib.Seq.{sets}
use Rattle.meaning.specs.Words.{word, words, entries, bytes2, bind}
use Rattle.meaning.specs.Tables.{Table}
use Rattle.replaying.specs.Asking.{Answer, ask}
use Rattle.replaying.specs.Applying.{Step, lookup_at, run_records, act, apply}
use Rattle.replay_laws.specs.Places.{put_glyph}
use Rattle.replay_laws.specs.Turns.{records_turn, records_end}
use Rattle.asking.specs.Asks.{answer_by, Asks}
use Rattle.steps.specs.Stepping.{Stepped, Ruled}
use Rattle.asking.specs.declared.Asked.{Asked}
use Rattle.asking.specs.declared.Asked.TheVariants.{Nothing, Instead, Rule}
use Rattle.matching.specs.Fitting.{Small}
use Rattle.matching.specs.declared.Matched.{Matched}
use Rattle.steps.specs.declared.TooDeep.{TooDeep}

-- A lookup.

apply_one : (depth : ℕ) (ts : List Table) (k : ℕ) (s : List ℕ) (p : ℕ) → (depth ≡ 0 → ⊥) → apply depth ts k s p ≡ act (apply (depth - 1) ts) (ask (lookup_at ts k) s p) s p
unfolding apply
apply_one zero ts k s p h = absurd (h refl)
apply_one (suc d) ts k s p h =
    let e : suc d - 1 ≡ d = omega arith in
    rw e

-- with no level left it is too deep
pub step_deep : (depth : ℕ) (ts : List Table) (k : ℕ) (s : List ℕ) (p n : ℕ) (t : List ℕ) {x : TooDeep} → depth ≡ 0 → Stepped (apply depth ts k s p) n (Err x) t
unfolding apply
step_deep depth ts k s p n t e = rw e refl

module _ {src : List ℕ} (depth : ℕ) (ts : List Table) (k : ℕ) (string : List ℕ) (n p : ℕ) {a : Asked} (left : depth ≡ 0 → ⊥) (q : Asks src p n (ask (lookup_at ts k) (words string 0 n) p) a) where
  one : apply depth ts k (words string 0 n) p ≡ act (apply (depth - 1) ts) (answer_by src a) (words string 0 n) p
  one = apply_one depth ts k (words string 0 n) p left ∙ ap (λ (x : Answer). act (apply (depth - 1) ts) x (words string 0 n) p) (sym q.says)

  pub step_nothing : a ≡ Nothing → Stepped (apply depth ts k (words string 0 n) p) n (Ok 0) string
  unfolding act
  step_nothing e = rw (one, e) (refl, refl, omega arith)

  -- a glyph stands instead
  instead_small : {g : ℕ} → a ≡ Instead g → (g < 65536) × (p < n)
  instead_small e = rw e at q.small

  pub step_instead : {g : ℕ} {t : List ℕ} → a ≡ Instead g → t ≡ sets string (2 * p) (bytes2 g) → 2 * n ≤ length string → Stepped (apply depth ts k (words string 0 n) p) n (Ok 1) t
  unfolding act
  step_instead {g} {t} e f l =
      let m = instead_small e in
      let z : 0 + 2 * p ≡ 2 * p = omega arith in
      let w = rw z at (put_glyph string 0 n p g m.1 m.0 (omega arith)) in
      rw (one, e) (refl, ap (λ (x : List ℕ). words x 0 n) f ∙ w, omega arith)

  -- a rule matches
  rule_small : {m : Matched} → a ≡ Rule m → Small m
  rule_small e = rw e at q.small

  module _ {m : Matched} (t : List ℕ) (e : a ≡ Rule m) where
    abbrev ran : Option (List ℕ)
    ran = run_records (apply (depth - 1) ts) (entries src m.records.at m.records.len) (words string 0 n) p

    pub step_rule : {u : Unit {0}} → Ruled ran n (Ok u) t → Stepped (apply depth ts k (words string 0 n) p) n (Ok m.input_len) t
    unfolding act bind
    step_rule {u} f = rw (one, e) (go ran f)
      where
        go : (o : Option (List ℕ)) → Ruled o n (Ok u) t → Stepped (bind o (λ s. Some (record { string = s; took = m.input_len }))) n (Ok m.input_len) t
        go None h = absurd (cc)
        go (Some v) h = (refl, h.1, (rule_small e).0)

    pub step_rule_deep : {x : TooDeep} (r : Result ℕ TooDeep) → Ruled ran n (Err x) t → IsErr r → Stepped (apply depth ts k (words string 0 n) p) n r t
    unfolding act bind
    step_rule_deep {x} r f z = rw (one, e) (go ran f)
      where
        go : (o : Option (List ℕ)) → Ruled o n (Err x) t → Stepped (bind o (λ s. Some (record { string = s; took = m.input_len }))) n r t
        go None h = z
        go (Some v) h = absurd (cc)

-- What the loop over a rule's records keeps: the rest of the records on the string as it stands is the whole rule on the string as it was.
pub record Running (ts : List Table) (src string₀ : List ℕ) (n at count place depth : ℕ) (string : List ℕ) (i : ℕ) : Type 0 where
  pub within : i ≤ count
  pub long : length string ≡ length string₀
  pub left : run_records (apply depth ts) (entries src (at + 4 * i) (count - i)) (words string 0 n) place ≡ run_records (apply depth ts) (entries src at count) (words string₀ 0 n) place

module _ {ts : List Table} {src string₀ : List ℕ} {n at count place depth : ℕ} where
  module _ {string : List ℕ} {i : ℕ} (c : Running ts src string₀ n at count place depth string i) {index lookup : ℕ} (h : i < count) (e : index ≡ word src (at + 4 * i)) (f : lookup ≡ word src (at + 4 * i + 2)) where
    on : bind (apply depth ts lookup (words string 0 n) (place + index)) (λ step. run_records (apply depth ts) (entries src (at + 4 * (i + 1)) (count - (i + 1))) step.string place)
        ≡ run_records (apply depth ts) (entries src at count) (words string₀ 0 n) place
    on = rw (e, f) (sym (records_turn (apply depth ts) src at count i (words string 0 n) place h) ∙ c.left)

    pub running_turn : (k : ℕ) {t : List ℕ} → Stepped (apply depth ts lookup (words string 0 n) (place + index)) n (Ok k) t → length t ≡ length string → Running ts src string₀ n at count place depth t (i + 1)
    unfolding bind
    running_turn k {t} g m = go (apply depth ts lookup (words string 0 n) (place + index)) g on
      where
        go : (o : Option Step) → Stepped o n (Ok k) t → bind o (λ step. run_records (apply depth ts) (entries src (at + 4 * (i + 1)) (count - (i + 1))) step.string place) ≡ run_records (apply depth ts) (entries src at count) (words string₀ 0 n) place
            → Running ts src string₀ n at count place depth t (i + 1)
        go None p z = absurd (cc)
        go (Some u) p z = record { within = omega arith; long = m ∙ c.long; left = ap (λ (x : List ℕ). run_records (apply depth ts) (entries src (at + 4 * (i + 1)) (count - (i + 1))) x place) p.1 ∙ z }

    pub running_deep : {x : TooDeep} (t : List ℕ) (r : Result (Unit {0}) TooDeep) → Stepped (apply depth ts lookup (words string 0 n) (place + index)) n (Err x) t → IsErr r → Ruled (run_records (apply depth ts) (entries src at count) (words string₀ 0 n) place) n r t
    unfolding bind
    running_deep {x} t r g y = go (apply depth ts lookup (words string 0 n) (place + index)) g on
      where
        go : (o : Option Step) → Stepped o n (Err x) t → bind o (λ step. run_records (apply depth ts) (entries src (at + 4 * (i + 1)) (count - (i + 1))) step.string place) ≡ run_records (apply depth ts) (entries src at count) (words string₀ 0 n) place
            → Ruled (run_records (apply depth ts) (entries src at count) (words string₀ 0 n) place) n r t
        go None p z = rw (← z) y
        go (Some u) p z = absurd (cc)

  pub running_end : {string : List ℕ} {i : ℕ} → Running ts src string₀ n at count place depth string i → count ≤ i → {u : Unit {0}} → Ruled (run_records (apply depth ts) (entries src at count) (words string₀ 0 n) place) n (Ok u) string
  running_end {string} {i} c h = rw (← c.left, records_end (apply depth ts) src at count i (words string 0 n) place h) (refl, refl)
