-- What the loops over numbers and over records keep, and what they come to.
use Prim.Native.Nat.{ℕ, ◌+◌, ◌-◌, ◌*◌, ◌/◌, ◌≤◌, ◌<◌}
use mathlib.Core.Path.{◌≡◌, refl, sym, ap, ◌∙◌}
use Rattle.std.specs.Prelude.{Option, None, Some}
use Rattle.std.specs.Option as option
use mathlib.Core.List.{List, [], ◌∷◌, ◌++◌, append_assoc, append-nil}
use native.Mathlib.Omega.{arith}
use lib.ListN.{length}
use lib.Seq.{sets}
use Rattle.meaning.specs.Words.{word, words, entries, twos, bytes2, flat, find, is_some, bind, map_all, push, map_some}
use Rattle.meaning.specs.Cut.{cut_records}
use Rattle.laws.specs.Left.{words_left_lem, words_all, words_none, entries_left, entries_all, entries_none}
use Rattle.laws.specs.Stands.{twos_length}
use Rattle.laws.specs.Written.{twos_append, flat_one}
use Rattle.cell_maps.specs.Cells.{Inside, folded}
use Rattle.cell_maps.specs.declared.Map.{Map}
use Rattle.area.specs.Extends.{Extends, extends_none, extends_said, extends_keeps}
use Rattle.numbers.specs.Entries.{entries_in, entries_hold}
use Rattle.numbers.specs.Leaves.{Leaves, joined, leaves_none, leaves_words}
use Rattle.numbers.proofs.Fronts.{extends_one, extends_two, extends_before}

-- what the map's cells answer is what the map's entries do
pub found_in : {t : List ℕ} {m : Map} (x : ℕ) {o : Option ℕ} → Inside t m → o ≡ folded t m x → find (entries_in t m) x ≡ o
found_in x k e = sym (e ∙ (entries_hold k).answers x)

pub found_some : {t : List ℕ} {m : Map} (x : ℕ) {o : Option ℕ} → Inside t m → o ≡ folded t m x → option.is_some o ≡ is_some (find (entries_in t m) x)
unfolding is_some
found_some x {o} k e = rw (found_in x k e) (step o)
  where
    step : (o : Option ℕ) → option.is_some o ≡ is_some o
    step None = refl
    step (Some n) = refl

-- nothing before a part, and a number that moves from the part to what stands before it
joined_none : (o : Option (List ℕ)) → joined (Some []) o ≡ o
unfolding joined bind
joined_none None = refl
joined_none (Some ws) = refl

joined_moved : (done : List ℕ) (y : ℕ) (o : Option (List ℕ)) → joined (Some done) (bind o (λ bs. Some (y ∷ bs))) ≡ joined (Some (done ++ (y ∷ []))) o
unfolding joined bind
joined_moved done y None = refl
joined_moved done y (Some bs) = ap Some (sym (append_assoc done (y ∷ []) bs))

-- What the loop of `renumber` keeps: what is done and what is left are the whole.
pub record Renumbering (f : ℕ → Option ℕ) (s : List ℕ) (at n : ℕ) (area₀ : List ℕ) (pos : ℕ) (area : List ℕ) (i : ℕ) : Type 0 where
  pub within : i ≤ n
  pub room : pos + 2 * n ≤ length area₀
  pub done : List ℕ
  pub left : joined (Some done) (map_all f (words s (at + 2 * i) (n - i))) ≡ map_all f (words s at n)
  pub extends : Extends area₀ pos done area (pos + 2 * i)

module _ {f : ℕ → Option ℕ} {s : List ℕ} {at n : ℕ} {area₀ : List ℕ} {pos : ℕ} where
  pub renumbering_all : pos + 2 * n ≤ length area₀ → Renumbering f s at n area₀ pos area₀ 0
  renumbering_all h =
      let e : pos + 2 * 0 ≡ pos = omega arith in
      record {
        within = omega arith;
        room = h;
        done = [];
        left = joined_none (map_all f (words s (at + 2 * 0) (n - 0))) ∙ ap (map_all f) (words_all s at n);
        extends = rw e (extends_none {a = area₀} {p = pos} (omega arith));
      }

  module _ {area : List ℕ} {i : ℕ} (c : Renumbering f s at n area₀ pos area i) (h : i < n) where
    abbrev rest : List ℕ
    rest = words s (at + 2 * (i + 1)) (n - (i + 1))

    front : {x : ℕ} → x ≡ word s (at + 2 * i) → joined (Some c.done) (map_all f (x ∷ rest)) ≡ map_all f (words s at n)
    front e = ap (λ (l : List ℕ). joined (Some c.done) (map_all f l)) (ap (λ (w : ℕ). w ∷ rest) e ∙ sym (words_left_lem s at n i h)) ∙ c.left

    pub renumbering_turn : {x y q : ℕ} {next : List ℕ} → x ≡ word s (at + 2 * i) → f x ≡ Some y → (q ≡ pos + 2 * i + 2) × (next ≡ sets area (pos + 2 * i) (bytes2 y))
        → Renumbering f s at n area₀ pos next (i + 1)
    unfolding map_all bind
    renumbering_turn {x} {y} {q} {next} e g p =
        let d : q ≡ pos + 2 * (i + 1) = omega (arith, p.0) in
        record {
          within = omega arith;
          room = c.room;
          done = c.done ++ (y ∷ []);
          left = sym (joined_moved c.done y (map_all f rest)) ∙ rw g at (front e);
          extends = rw d at (extends_one c.extends y (omega (arith, c.room)) p);
        }

    -- a number that is gone settles it
    pub renumbering_gone : {x m : ℕ} → x ≡ word s (at + 2 * i) → f x ≡ None → Leaves area₀ pos (map_all f (words s at n)) m area 0
    unfolding map_all bind joined
    renumbering_gone e g = leaves_none (sym (front e) ∙ rw g) (extends_keeps c.extends)

  pub renumbering_end : {area : List ℕ} {i m : ℕ} → Renumbering f s at n area₀ pos area i → n ≤ i → Leaves area₀ pos (map_all f (words s at n)) m area (pos + 2 * n)
  unfolding map_all joined bind
  renumbering_end {area} {i} c h =
      let e : pos + 2 * i ≡ pos + 2 * n = omega (arith, c.within) in
      leaves_words (sym c.left ∙ rw (words_none s (at + 2 * i) n i h)) (extends_said (rw e at c.extends) (sym (append-nil c.done)))

-- What the loop of `write_records` keeps.
pub record Recording (l : List (ℕ × ℕ)) (s : List ℕ) (at n : ℕ) (area₀ : List ℕ) (pos : ℕ) (area : List ℕ) (p i : ℕ) : Type 0 where
  pub within : i ≤ n
  pub room : pos + 4 * n ≤ length area₀
  pub near : p ≤ pos + 4 * i
  pub done : List (ℕ × ℕ)
  pub left : done ++ cut_records l (entries s (at + 4 * i) (n - i)) ≡ cut_records l (entries s at n)
  pub extends : Extends area₀ pos (twos done) area p

module _ {l : List (ℕ × ℕ)} {s : List ℕ} {at n : ℕ} {area₀ : List ℕ} {pos : ℕ} where
  pub recording_all : pos + 4 * n ≤ length area₀ → Recording l s at n area₀ pos area₀ pos 0
  unfolding twos
  recording_all h = record {
    within = omega arith;
    room = h;
    near = omega arith;
    done = [];
    left = ap (cut_records l) (entries_all s at n);
    extends = extends_none (omega arith);
  }

  module _ {area : List ℕ} {p i : ℕ} (c : Recording l s at n area₀ pos area p i) (h : i < n) where
    abbrev others : List (ℕ × ℕ)
    others = cut_records l (entries s (at + 4 * (i + 1)) (n - (i + 1)))

    first : {x : ℕ} → x ≡ word s (at + 4 * i + 2) → c.done ++ push (bind (find l x) (λ y. Some (word s (at + 4 * i), y))) others ≡ cut_records l (entries s at n)
    unfolding cut_records map_some
    first e = rw e (ap (λ (r : List (ℕ × ℕ)). c.done ++ cut_records l r) (sym (entries_left s at n i h)) ∙ c.left)

    pub recording_one : {x v y q : ℕ} {next : List ℕ} → x ≡ word s (at + 4 * i + 2) → find l x ≡ Some y → v ≡ word s (at + 4 * i)
        → (q ≡ p + 4) × (next ≡ sets area p (flat (v ∷ y ∷ []))) → Recording l s at n area₀ pos next q (i + 1)
    unfolding bind push twos
    recording_one {x} {v} {y} e g w k = record {
      within = omega arith;
      room = c.room;
      near = omega (arith, c.near, k.0);
      done = c.done ++ ((v, y) ∷ []);
      left = append_assoc c.done ((v, y) ∷ []) others ∙ rw w (rw g at (first e));
      extends = extends_said (extends_two c.extends v y (omega (arith, c.room, c.near)) k) (sym (twos_append c.done ((v, y) ∷ [])));
    }

    pub recording_none : {x : ℕ} → x ≡ word s (at + 4 * i + 2) → find l x ≡ None → Recording l s at n area₀ pos area p (i + 1)
    unfolding bind push
    recording_none e g = record { within = omega arith; room = c.room; near = omega (arith, c.near); done = c.done; left = rw g at (first e); extends = c.extends }

  pub recording_end : {area : List ℕ} {p i : ℕ} → Recording l s at n area₀ pos area p i → n ≤ i → Extends area₀ pos (twos (cut_records l (entries s at n))) area p
  unfolding cut_records map_some
  recording_end {area} {p} {i} c h = extends_said c.extends (ap twos (sym (append-nil c.done) ∙ rw (entries_none s (at + 4 * i) n i h) at c.left))

-- records with their count before them
pub counted_records : {a b c : List ℕ} {pos m end q : ℕ} (rs : List (ℕ × ℕ)) → Extends a (pos + 2) (twos rs) b end → (q ≡ pos + 2) × (c ≡ sets b pos (bytes2 ((end - pos - 2) / 4)))
    → Leaves a pos (Some (length rs ∷ twos rs)) m c end
counted_records {a} {b} {c} {pos} {m} {end} rs x f =
    let k : (end - pos - 2) / 4 ≡ length rs = omega (arith, x.place, twos_length rs) in
    leaves_words refl (extends_before (length rs ∷ []) x refl (f.1 ∙ ap (sets b pos) (ap bytes2 k ∙ sym (flat_one (length rs)))))
