-- What the search keeps, and each way through its turn.
use Prim.Native.Nat.{ℕ, ◌+◌, ◌*◌, ◌≤◌, ◌<◌}
use mathlib.Core.Path.{◌≡◌}
use mathlib.Core.List.{List}
use native.Mathlib.Decide.{dec_lt}
use native.Mathlib.Omega.{arith}
use Rattle.meaning.specs.Words.{word}
use Rattle.halving.specs.Rising.{Rising, Reached}

-- The words from the `from`-th up to lo are below v, and the one at hi is not.
pub record Searching (s : List ℕ) (at step n from v lo hi : ℕ) : Type 0 where
  pub least : from ≤ lo
  pub order : lo ≤ hi
  pub most : hi ≤ n
  pub below : (k : ℕ) → from ≤ k → k < lo → word s (at + step * k) < v
  pub above : hi < n → v ≤ word s (at + step * hi)

module _ {s : List ℕ} {at step n from v : ℕ} where
  pub searching_all : from ≤ n → Searching s at step n from v from n
  searching_all h = record { least = omega arith; order = h; most = omega arith; below = λ k l g. absurd (omega arith); above = λ l. absurd (omega arith) }

  module _ {lo hi mid w : ℕ} (c : Searching s at step n from v lo hi) (p : (lo ≤ mid) × (mid < hi)) (e : w ≡ word s (at + step * mid)) where
    -- the word is below v, and so are those before it
    pub searching_up : Rising s at step n → w < v → Searching s at step n from v (mid + 1) hi
    searching_up a h = record {
      least = omega (arith, c.least, p.0);
      order = omega (arith, p.1);
      most = c.most;
      below = λ k l g. upto k g (dec_lt k mid);
      above = c.above;
    }
      where
        upto : (k : ℕ) → k < mid + 1 → Dec (k < mid) → word s (at + step * k) < v
        upto k g (yes l) = omega (arith, a.rise k mid l (omega (arith, p.1, c.most)))
        upto k g (no l) =
            let q : k ≡ mid = omega arith in
            rw q (omega arith)

    -- it is not
    pub searching_down : v ≤ w → Searching s at step n from v lo mid
    searching_down h = record { least = c.least; order = p.0; most = omega (arith, p.1, c.most); below = c.below; above = λ l. omega arith }

  -- nothing is left between the two
  pub searching_end : {lo hi : ℕ} → Searching s at step n from v lo hi → hi ≤ lo → Reached s at step n from v lo
  searching_end {lo} {hi} c h =
      let e : lo ≡ hi = omega (arith, c.order) in
      record { least = c.least; most = omega (arith, c.most); below = c.below; above = rw e c.above }
