-- What is left of rules, part by part, and what the check says of one.
use Prim.Native.Nat.{ℕ, ◌+◌, ◌-◌, ◌*◌, ◌≤◌, ◌<◌}
use Rattle.std.specs.Prelude.{◌≡◌, refl, Bool, ◌||◌, List, [], ◌∷◌, ◌++◌, length, eqb, ltb, Option, None, Some}
use Rattle.std.proofs.Common.{sym, ◌∙◌, arith, eq-eqb, ne_eqb}
use Rattle.std.proofs.Math.Path.{ap}
use Rattle.std.proofs.Math.Bool.{true, false}
use Rattle.meaning.specs.Words.{word, words, entries, twos, inside, find, bind, map_all}
use Rattle.meaning.specs.Tables.{Rule, plain_rule, chained_rule, rule, rule_set}
use Rattle.meaning.specs.Fault.{part_fault, rule_sound, rule_fault}
use Rattle.meaning.specs.Cut.{RuleMaps, cut_records, cut_rule, unless_empty, cut_set}
use Rattle.meaning.specs.Layout.{block, rule_words, set_words}
use Rattle.laws.specs.Runs.{both}
use Rattle.laws.specs.Left.{words_length}
use Rattle.laws.specs.SoundGood.{part_sound}
use Rattle.laws.specs.Members.{members}
use Rattle.cell_maps.specs.Cells.{Inside}
use Rattle.numbers.specs.Entries.{entries_in}
use Rattle.numbers.specs.Leaves.{Leaves, Fits, joined, leaves_ended, leaves_next, fits_joined, fits_words, map_length}
use Rattle.member_sets.specs.Sets.{set_most}
use Rattle.member_sets.specs.Sound.{inside_is}
use Rattle.kept_rules.specs.declared.Maps.{Maps}

-- the cells of the four maps lie inside
pub record AllInside (t : List ℕ) (m : Maps) : Type 0 where
  pub back : Inside t m.back
  pub input : Inside t m.input
  pub ahead : Inside t m.ahead
  pub lookups : Inside t m.lookups

-- the entries that they hold
abbrev pub maps_in : List ℕ → Maps → RuleMaps
maps_in t m = record { back = entries_in t m.back; input = entries_in t m.input; ahead = entries_in t m.ahead; lookups = entries_in t m.lookups }

-- the words of what is left of the rule at a place
abbrev pub rule_left : Bool → RuleMaps → List ℕ → ℕ → Option (List ℕ)
rule_left chained m s at = block (rule_words chained) (cut_rule chained m (rule chained s at))

-- a count, and as many numbers, or one less, that stand at `at`: the count and the new numbers, if each has one
abbrev pub counted : List (ℕ × ℕ) → List ℕ → ℕ → ℕ → Option (List ℕ)
counted g s at n = joined (Some (word s at ∷ [])) (map_all (find g) (words s (at + 2) n))

-- the records with their count before them
abbrev pub records_on : List (ℕ × ℕ) → List ℕ → ℕ → List ℕ
records_on l s at = length (cut_records l (entries s (at + 2) (word s at))) ∷ twos (cut_records l (entries s (at + 2) (word s at)))

-- what is left of a chained rule from its lookahead on, from its input on, and of the whole
unfoldable pub ahead_on : RuleMaps → List ℕ → ℕ → Option (List ℕ)
ahead_on m s at = joined (counted m.ahead s at (word s at)) (Some (records_on m.lookups s (at + 2 + 2 * word s at)))

unfoldable pub input_on : RuleMaps → List ℕ → ℕ → Option (List ℕ)
input_on m s at = joined (counted m.input s at (word s at - 1)) (ahead_on m s (at + 2 + 2 * (word s at - 1)))

unfoldable pub chained_on : RuleMaps → List ℕ → ℕ → Option (List ℕ)
chained_on m s at = joined (counted m.back s at (word s at)) (input_on m s (at + 2 + 2 * word s at))

-- how many bytes they take in the source
unfoldable pub ahead_size : List ℕ → ℕ → ℕ
ahead_size s at = 2 + 2 * word s at + (2 + 4 * word s (at + 2 + 2 * word s at))

unfoldable pub input_size : List ℕ → ℕ → ℕ
input_size s at = 2 + 2 * (word s at - 1) + ahead_size s (at + 2 + 2 * (word s at - 1))

-- and a rule
unfoldable pub rule_size : Bool → List ℕ → ℕ → ℕ
rule_size false s at = 4 + 2 * (word s at - 1) + 4 * word s (at + 2)
rule_size true s at = 2 + 2 * word s at + input_size s (at + 2 + 2 * word s at)

-- a rule that is sound lies inside
pub rule_inside : (chained : Bool) (s : List ℕ) (at : ℕ) → rule_fault chained s at ≡ None → at + rule_size chained s at ≤ length s
unfolding rule_fault rule_sound rule_size input_size ahead_size
rule_inside false s at h = omega (arith, inside_is s (at + 4) (2 * (word s at - 1) + 4 * word s (at + 2)) (both (inside s at 4) _ (part_sound at _ _ h).0).1)
rule_inside true s at h =
    let i = at + 2 + 2 * word s at in
    let a = i + 2 + 2 * (word s i - 1) in
    let r = a + 2 + 2 * word s a in
    let k = (both (inside s at 2) _ (part_sound at _ _ h).0).1 in
    omega (arith, inside_is s (r + 2) (4 * word s r) (both (inside s r 2) _ (both (inside s a 2) _ (both (inside s i 2) _ k).1).1).1)

-- where the parts of a rule that lies inside end
module _ (s : List ℕ) (at : ℕ) where
  pub ahead_inside : at + ahead_size s at ≤ length s → {n k : ℕ} → n ≡ word s at → k ≡ word s (at + 2 + 2 * n) → at + 2 + 2 * n + 2 + 4 * k ≤ length s
  unfolding ahead_size
  ahead_inside h e f =
      let g = f ∙ ap (λ (n : ℕ). word s (at + 2 + 2 * n)) e in
      omega (arith, h, e, g)

  pub input_inside : at + input_size s at ≤ length s → {c n : ℕ} → c ≡ word s at → n ≡ c - 1 → at + 2 + 2 * n + ahead_size s (at + 2 + 2 * n) ≤ length s
  unfolding input_size
  input_inside h {c} {n} e f =
      let g : n ≡ word s at - 1 = omega (arith, e, f) in
      omega (arith, h, g, ap (λ (n : ℕ). ahead_size s (at + 2 + 2 * n)) g)

  pub chained_inside : rule_fault true s at ≡ None → {n : ℕ} → n ≡ word s at → at + 2 + 2 * n + input_size s (at + 2 + 2 * n) ≤ length s
  unfolding rule_size
  chained_inside h e = omega (arith, rule_inside true s at h, e, ap (λ (n : ℕ). input_size s (at + 2 + 2 * n)) e)

  pub plain_inside : rule_fault false s at ≡ None → at + 4 + 2 * (word s at - 1) + 4 * word s (at + 2) ≤ length s
  unfolding rule_size
  plain_inside h = omega (arith, rule_inside false s at h)

-- a count and its numbers take no more than in the source
counted_fits : (g : List (ℕ × ℕ)) (s : List ℕ) (at c n : ℕ) → Fits (joined (Some (c ∷ [])) (map_all (find g) (words s at n))) (2 + 2 * n)
counted_fits g s at c n = fits_joined (fits_words (omega arith)) (record { within = λ e. omega (arith, map_length (find g) (words s at n) e, words_length s at n) })

-- as many new numbers as the count says
counted_length : (g : List (ℕ × ℕ)) (s : List ℕ) (at n : ℕ) (vs : List ℕ) → map_all (find g) (words s at n) ≡ Some vs → length vs ≡ n
counted_length g s at n vs e = map_length (find g) (words s at n) e ∙ words_length s at n

module _ (m : RuleMaps) (s : List ℕ) (at : ℕ) where
  -- what is left of a chained rule is what is left of its parts
  chained_is : chained_on m s at ≡ block (rule_words true) (cut_rule true m (rule true s at))
  unfolding chained_on input_on ahead_on joined bind block cut_rule rule chained_rule rule_words
  chained_is = step (map_all (find m.back) (words s (at + 2) (word s at))) (counted_length m.back s (at + 2) (word s at)) (map_all (find m.input) (words s (i + 2) (word s i - 1)))
      (map_all (find m.ahead) (words s (a + 2) (word s a))) (counted_length m.ahead s (a + 2) (word s a))
    where
      i : ℕ
      i = at + 2 + 2 * word s at

      a : ℕ
      a = i + 2 + 2 * (word s i - 1)

      rs : List (ℕ × ℕ)
      rs = cut_records m.lookups (entries s (a + 2 + 2 * word s a + 2) (word s (a + 2 + 2 * word s a)))

      step : (b : Option (List ℕ)) → ((vs : List ℕ) → b ≡ Some vs → length vs ≡ word s at) → (n : Option (List ℕ)) → (f : Option (List ℕ)) → ((vs : List ℕ) → f ≡ Some vs → length vs ≡ word s a)
          → joined (joined (Some (word s at ∷ [])) b) (joined (joined (Some (word s i ∷ [])) n) (joined (joined (Some (word s a ∷ [])) f) (Some (length rs ∷ twos rs))))
          ≡ block (rule_words true) (bind b (λ bs. bind n (λ ns. bind f (λ fs. Some (record { back = bs; count = word s i; input = ns; ahead = fs; records = rs })))))
      step None x n f y = refl
      step (Some bs) x None f y = refl
      step (Some bs) x (Some ns) None y = refl
      step (Some bs) x (Some ns) (Some fs) y = rw (x bs refl, y fs refl)

  chained_left : {a b : List ℕ} {p n r : ℕ} → n ≡ word s at → Leaves a p (joined (joined (Some (n ∷ [])) (map_all (find m.back) (words s (at + 2) n))) (input_on m s (at + 2 + 2 * n))) (2 + 2 * n + input_size s (at + 2 + 2 * n)) b r
      → Leaves a p (block (rule_words true) (cut_rule true m (rule true s at))) (rule_size true s at) b r
  unfolding chained_on rule_size
  chained_left e l = rw (← chained_is, ← e) l

  ahead_left : {a b : List ℕ} {p n k r : ℕ} → n ≡ word s at → k ≡ word s (at + 2 + 2 * n)
      → Leaves a p (joined (joined (Some (n ∷ [])) (map_all (find m.ahead) (words s (at + 2) n))) (Some (length (cut_records m.lookups (entries s (at + 2 + 2 * n + 2) k)) ∷ twos (cut_records m.lookups (entries s (at + 2 + 2 * n + 2) k))))) (2 + 2 * n + (2 + 4 * k)) b r
      → Leaves a p (ahead_on m s at) (ahead_size s at) b r
  unfolding ahead_on ahead_size
  ahead_left e f l = rw (← e, ← f) l

  input_left : {a b : List ℕ} {p c n r : ℕ} → c ≡ word s at → n ≡ c - 1
      → Leaves a p (joined (joined (Some (c ∷ [])) (map_all (find m.input) (words s (at + 2) n))) (ahead_on m s (at + 2 + 2 * n))) (2 + 2 * n + ahead_size s (at + 2 + 2 * n)) b r
      → Leaves a p (input_on m s at) (input_size s at) b r
  unfolding input_on input_size
  input_left e f l = rw (← e, ← f) l

  -- each of these where its count and numbers came to an end, and where the rest follows them
  module _ {a b : List ℕ} {p q n : ℕ} where
    pub chained_ended : n ≡ word s at → Leaves a p (joined (Some (n ∷ [])) (map_all (find m.back) (words s (at + 2) n))) (2 + 2 * n) b q → 0 < p → eqb q 0 || ltb (length b) q ≡ true
        → Leaves a p (block (rule_words true) (cut_rule true m (rule true s at))) (rule_size true s at) b q
    chained_ended e l z t = chained_left e (leaves_ended (input_on m s (at + 2 + 2 * n)) (input_size s (at + 2 + 2 * n)) l z t)

    pub chained_next : {c : List ℕ} {r : ℕ} → n ≡ word s at → Leaves a p (joined (Some (n ∷ [])) (map_all (find m.back) (words s (at + 2) n))) (2 + 2 * n) b q → eqb q 0 || ltb (length b) q ≡ false
        → Leaves b q (input_on m s (at + 2 + 2 * n)) (input_size s (at + 2 + 2 * n)) c r → Leaves a p (block (rule_words true) (cut_rule true m (rule true s at))) (rule_size true s at) c r
    chained_next e l t k = chained_left e (leaves_next l (counted_fits m.back s (at + 2) n n) t k)

    pub ahead_ended : n ≡ word s at → Leaves a p (joined (Some (n ∷ [])) (map_all (find m.ahead) (words s (at + 2) n))) (2 + 2 * n) b q → 0 < p → eqb q 0 || ltb (length b) q ≡ true
        → Leaves a p (ahead_on m s at) (ahead_size s at) b q
    ahead_ended e l z t = ahead_left e refl (leaves_ended (Some (records_on m.lookups s (at + 2 + 2 * n))) (2 + 4 * word s (at + 2 + 2 * n)) l z t)

    pub ahead_next : {c : List ℕ} {k r : ℕ} → n ≡ word s at → k ≡ word s (at + 2 + 2 * n) → Leaves a p (joined (Some (n ∷ [])) (map_all (find m.ahead) (words s (at + 2) n))) (2 + 2 * n) b q
        → eqb q 0 || ltb (length b) q ≡ false
        → Leaves b q (Some (length (cut_records m.lookups (entries s (at + 2 + 2 * n + 2) k)) ∷ twos (cut_records m.lookups (entries s (at + 2 + 2 * n + 2) k)))) (2 + 4 * k) c r
        → Leaves a p (ahead_on m s at) (ahead_size s at) c r
    ahead_next e f l t k = ahead_left e f (leaves_next l (counted_fits m.ahead s (at + 2) n n) t k)

    pub input_ended : {c : ℕ} → c ≡ word s at → n ≡ c - 1 → Leaves a p (joined (Some (c ∷ [])) (map_all (find m.input) (words s (at + 2) n))) (2 + 2 * n) b q → 0 < p → eqb q 0 || ltb (length b) q ≡ true
        → Leaves a p (input_on m s at) (input_size s at) b q
    input_ended e f l z t = input_left e f (leaves_ended (ahead_on m s (at + 2 + 2 * n)) (ahead_size s (at + 2 + 2 * n)) l z t)

    pub input_next : {d : List ℕ} {c r : ℕ} → c ≡ word s at → n ≡ c - 1 → Leaves a p (joined (Some (c ∷ [])) (map_all (find m.input) (words s (at + 2) n))) (2 + 2 * n) b q
        → eqb q 0 || ltb (length b) q ≡ false → Leaves b q (ahead_on m s (at + 2 + 2 * n)) (ahead_size s (at + 2 + 2 * n)) d r → Leaves a p (input_on m s at) (input_size s at) d r
    input_next {d} {c} e f l t k = input_left e f (leaves_next l (counted_fits m.input s (at + 2) c n) t k)

  -- a plain rule goes with a count of 0, or if a number of its input goes
  pub plain_none : word s at ≡ 0 → block (rule_words false) (cut_rule false m (rule false s at)) ≡ None
  unfolding block cut_rule rule plain_rule
  plain_none e = rw (eq-eqb (word s at) 0 e)

  pub plain_gone : (word s at ≡ 0 → ⊥) → map_all (find m.input) (words s (at + 4) (word s at - 1)) ≡ None → block (rule_words false) (cut_rule false m (rule false s at)) ≡ None
  unfolding block cut_rule rule plain_rule bind map_all
  plain_gone z e = rw (ne_eqb (word s at) 0 z, e)

  -- else it is its two counts, its new numbers and its records that stay
  pub plain_is : {ns : List ℕ} → (word s at ≡ 0 → ⊥) → map_all (find m.input) (words s (at + 4) (word s at - 1)) ≡ Some ns
      → block (rule_words false) (cut_rule false m (rule false s at))
      ≡ Some (word s at ∷ length (cut_records m.lookups (entries s (at + 4 + 2 * (word s at - 1)) (word s (at + 2)))) ∷ (ns ++ twos (cut_records m.lookups (entries s (at + 4 + 2 * (word s at - 1)) (word s (at + 2))))))
  unfolding block cut_rule rule plain_rule rule_words bind map_all
  plain_is z e = rw (ne_eqb (word s at) 0 z, e)

  -- what is left of a set, as its members
  pub rules_said : (chained : Bool) {a b : List ℕ} {p n r : ℕ} → n ≡ word s at
      → Leaves a p (block (set_words (rule_words chained)) (unless_empty (members (rule chained s) (cut_rule chained m) s at (at + 2) n))) (set_most (rule_words chained) (unless_empty (members (rule chained s) (cut_rule chained m) s at (at + 2) n)) s) b r
      → Leaves a p (block (set_words (rule_words chained)) (cut_set chained m (rule_set chained s at))) (set_most (rule_words chained) (cut_set chained m (rule_set chained s at)) s) b r
  unfolding members cut_set rule_set
  rules_said chained e l = rw e at l
