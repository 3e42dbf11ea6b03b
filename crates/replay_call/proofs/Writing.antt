-- The ways through the writing of a tally and of a cost.
use Prim.Native.Nat.{ℕ, ◌+◌, ◌*◌, ◌/◌, ◌≤◌}
use mathlib.Core.Path.{◌≡◌, ap, ◌∙◌}
use mathlib.Core.List.{List, [], ◌∷◌, ◌++◌}
use native.Mathlib.Omega.{arith}
use lib.Seq.{sets}
use Rattle.meaning.specs.Words.{bytes2, flat}
use Rattle.laws.specs.Written.{sets_sets}
use Rattle.tallies.specs.Counting.{tally_of, replayed_of}
use Rattle.tallies.specs.declared.Tally.{Tally}
use Rattle.tallies.specs.declared.Replayed.{Replayed}
use Rattle.replaying.specs.Replay.{Replayed as ReplayedOf, replay}
use Rattle.replaying.specs.Cost.{replay_cost, Cost as CostOf}
use Rattle.replay_cost.specs.Costing.{cost_of}
use Rattle.replay_cost.specs.declared.Cost.{Cost}
use Rattle.replay_call.specs.Given.{bytes8, tally_bytes, Gives, Costs}

pub eight_written : (out : List ℕ) (at n : ℕ) {p r : ℕ} {one two : List ℕ}
    → (p ≡ at + 4) × (one ≡ sets out at (flat (n / 0x1_0000_0000_0000 ∷ n / 0x1_0000_0000 ∷ [])))
    → (r ≡ p + 4) × (two ≡ sets one p (flat (n / 0x1_0000 ∷ n ∷ [])))
    → (r ≡ at + 8) × (two ≡ sets out at (bytes8 n))
unfolding bytes8 flat bytes2
eight_written out at n e f =
    (omega (arith, e.0, f.0), rw (f.1, e.1, e.0) (sets_sets out at (flat (n / 0x1_0000_0000_0000 ∷ n / 0x1_0000_0000 ∷ [])) (flat (n / 0x1_0000 ∷ n ∷ []))))

pub tally_written : (out : List ℕ) (t : Tally) {p q : ℕ} {one two three : List ℕ}
    → (p ≡ 0 + 8) × (one ≡ sets out 0 (bytes8 t.runs))
    → (q ≡ p + 8) × (two ≡ sets one p (bytes8 t.agreements))
    → three ≡ sets two q (bytes8 t.first)
    → three ≡ sets out 0 (tally_bytes (tally_of t))
unfolding tally_bytes bytes8 flat bytes2
tally_written out t {p} {q} e f g =
    let d : q ≡ 16 = omega (arith, e.0, f.0) in
    let b : p ≡ 8 = omega (arith, e.0) in
    let x = sets_sets out 0 (bytes8 t.runs) (bytes8 t.agreements) in
    let y = sets_sets out 0 (bytes8 t.runs ++ bytes8 t.agreements) (bytes8 t.first) in
    rw (g, d, f.1, b, e.1) (ap (λ (l : List ℕ). sets l 16 (bytes8 t.first)) x ∙ y)

pub given : {a : ReplayedOf} {before after : List ℕ} {v : ℕ} (r : Replayed) → replayed_of r ≡ a → a.place ≤ 131070 → v ≡ r.number * 0x100_0000_0000_0000 + r.place
    → after ≡ sets before 0 (tally_bytes (tally_of r.tally)) → Gives a before v after
given r e l f g =
    let n = ap (λ (x : ReplayedOf). x.number) e in
    let p = ap (λ (x : ReplayedOf). x.place) e in
    let t = ap (λ (x : ReplayedOf). x.tally) e in
    record { answer = rw (← n, ← p) f; fits = omega (arith, l); tally = rw (← t) g }

pub small_by : {a : ReplayedOf} (r : Replayed) → replayed_of r ≡ a → (a.number ≤ 18) × (a.place ≤ 131070) → (r.number ≤ 18) × (r.place ≤ 131070)
small_by r e l = (omega (arith, l.0, ap (λ (x : ReplayedOf). x.number) e), omega (arith, l.1, ap (λ (x : ReplayedOf). x.place) e))

-- a cost's number and place are those of a replay without runs
pub cost_small : (list buffer : List ℕ) → ((replay list buffer []).number ≤ 18) × ((replay list buffer []).place ≤ 131070)
    → ((replay_cost list buffer).number ≤ 18) × ((replay_cost list buffer).place ≤ 131070)
unfolding replay_cost
cost_small list buffer l = l

pub cost_small_by : {a : CostOf} (r : Cost) → cost_of r ≡ a → (a.number ≤ 18) × (a.place ≤ 131070) → (r.number ≤ 18) × (r.place ≤ 131070)
cost_small_by r e l = (omega (arith, l.0, ap (λ (x : CostOf). x.number) e), omega (arith, l.1, ap (λ (x : CostOf). x.place) e))

pub cost_given : {a : CostOf} {before after : List ℕ} {v : ℕ} (r : Cost) → cost_of r ≡ a → a.place ≤ 131070 → v ≡ r.number * 0x100_0000_0000_0000 + r.place
    → after ≡ sets before 0 (bytes8 r.steps) → Costs a before v after
cost_given r e l f g =
    let n = ap (λ (x : CostOf). x.number) e in
    let p = ap (λ (x : CostOf). x.place) e in
    let s = ap (λ (x : CostOf). x.steps) e in
    record { answer = rw (← n, ← p) f; fits = omega (arith, l); steps = rw (← s) g }
