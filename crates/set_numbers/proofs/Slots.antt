-- What the walks over the slots of a set, and over the sets of a side, keep.
use Prim.Native.Nat.{ℕ, suc, ◌+◌, ◌-◌, ◌*◌, ◌≤◌, ◌<◌}
use mathlib.Core.Path.{◌≡◌, refl, sym, ◌∙◌}
use mathlib.Core.List.{List, [], ◌∷◌}
use native.Mathlib.Decide.{dec_lt}
use native.Mathlib.Omega.{arith}
use lib.ListN.{length, get_or}
use borrow.Author.Tests.{eq-eqb, ne_eqb}
use Rattle.meaning.specs.Words.{word}
use Rattle.differences.specs.Content.{Says}
use Rattle.cells.specs.Cleared.{Cleared}
use Rattle.cells.proofs.Clearing.{cleared_whole}
use Rattle.rule_numbers.specs.Book.{Book, Numbered}
use Rattle.rule_numbers.proofs.Telling.{numbers_tell, number_few, book_blank}
use Rattle.set_numbers.specs.Sets.{codes_from, codes_of, AllNumbered, SetNumbered, SideNumbered, Cells, Told}

-- the codes from the slot i on
abbrev pub rest : List ℕ → ℕ → ℕ → ℕ → ℕ → List ℕ
rest s side at n i = codes_from s side at (at + 2 + 2 * i) (n - i)

module _ (s : List ℕ) (side at n i : ℕ) (h : i < n) where
  next_slot : (n - i ≡ suc (n - (i + 1))) × (at + 2 + 2 * (i + 1) ≡ at + 2 + 2 * i + 2)
  next_slot = (omega arith, omega arith)

  pub rest_null : word s (at + 2 + 2 * i) ≡ 0 → rest s side at n i ≡ rest s side at n (i + 1)
  unfolding codes_from
  rest_null e = rw (next_slot.0, next_slot.1, eq-eqb (word s (at + 2 + 2 * i)) 0 e)

  pub rest_there : (word s (at + 2 + 2 * i) ≡ 0 → ⊥) → rest s side at n i ≡ (2 * (at + word s (at + 2 + 2 * i)) + side) ∷ rest s side at n (i + 1)
  unfolding codes_from
  rest_there e = rw (next_slot.0, next_slot.1, ne_eqb (word s (at + 2 + 2 * i)) 0 e)

pub rest_all : (s : List ℕ) (side at : ℕ) {n : ℕ} → (at ≡ 0 → ⊥) → n ≡ word s at → rest s side at n 0 ≡ codes_of s side at
unfolding codes_of
rest_all s side at {n} z e =
    let p : at + 2 + 2 * 0 ≡ at + 2 = omega arith in
    let q : n - 0 ≡ n = omega arith in
    rw (ne_eqb at 0 z, p, q, e)

pub rest_end : (s : List ℕ) (side at n i : ℕ) → n ≤ i → rest s side at n i ≡ []
unfolding codes_from
rest_end s side at n i h = let e : n - i ≡ 0 = omega arith in rw e

-- what has a number keeps it
pub all_stay : (num next : List ℕ) → ((d : ℕ) → (get_or num d 0 ≡ 0 → ⊥) → get_or next d 0 ≡ get_or num d 0) → (codes : List ℕ) → AllNumbered num codes → AllNumbered next codes
all_stay num next s [] h = tt
all_stay num next s (c ∷ codes) h = (λ z. h.0 (sym (s c h.0) ∙ z), all_stay num next s codes h.1)

module _ {A : Type 0} (says : ℕ → A) (print : A → ℕ) where
  -- what the loop of `number_set` keeps: if those that are left get numbers, all have numbers
  pub record Numbering (all num₀ came₀ : List ℕ) (left num came : List ℕ) : Type 0 where
    pub book : Book says print num came
    pub size : length num ≡ length num₀
    pub came_size : length came ≡ length came₀
    pub stay : (d : ℕ) → (get_or num₀ d 0 ≡ 0 → ⊥) → get_or num d 0 ≡ get_or num₀ d 0
    pub done : (next : List ℕ) → ((d : ℕ) → (get_or num d 0 ≡ 0 → ⊥) → get_or next d 0 ≡ get_or num d 0) → AllNumbered next left → AllNumbered next all

  -- what the loop of `number_side` keeps: the sets before i have numbers, and so has the last one
  pub record Siding (s : List ℕ) (side first : ℕ) (num₀ came₀ : List ℕ) (n last i : ℕ) (num came : List ℕ) : Type 0 where
    pub within : i ≤ n
    pub count : n ≡ word s (first - 2)
    pub book : Book says print num came
    pub size : length num ≡ length num₀
    pub came_size : length came ≡ length came₀
    pub stay : (d : ℕ) → (get_or num₀ d 0 ≡ 0 → ⊥) → get_or num d 0 ≡ get_or num₀ d 0
    pub before : (k : ℕ) → k < i → AllNumbered num (codes_of s side (word s (first + 2 * k)))
    pub latest : AllNumbered num (codes_of s side last)

module _ {A : Type 0} {says : ℕ → A} {print : A → ℕ} {num₀ came₀ : List ℕ} where
  -- a null set
  pub null_numbered : (s : List ℕ) (side at : ℕ) → at ≡ 0 → Book says print num₀ came₀ → SetNumbered says print (codes_of s side at) num₀ num₀ came₀
  unfolding codes_of
  null_numbered s side at e b = rw (eq-eqb at 0 e) (record { book = b; all = tt; stay = λ d n. refl })

  pub numbering_none : {all left : List ℕ} → left ≡ all → Book says print num₀ came₀ → Numbering says print all num₀ came₀ left num₀ came₀
  numbering_none e b = record { book = b; size = refl; came_size = refl; stay = λ d n. refl; done = λ next s h. rw e at h }

  module _ {all left num came : List ℕ} (k : Numbering says print all num₀ came₀ left num came) where
    -- a null slot
    pub numbering_null : {more : List ℕ} → left ≡ more → Numbering says print all num₀ came₀ more num came
    numbering_null e = rw e at k

    pub numbering_there : {more next after : List ℕ} {c r : ℕ} → left ≡ c ∷ more → Numbered says print num c next after r → length next ≡ length num → length after ≡ length came
        → Numbering says print all num₀ came₀ more next after
    numbering_there {more} {next} {after} {c} {r} e w g h = record {
      book = w.book;
      size = g ∙ k.size;
      came_size = h ∙ k.came_size;
      stay = λ d n. let o = k.stay d n in w.stay d (λ z. n (sym o ∙ z)) ∙ o;
      done = λ last s q. k.done last (λ d n. s d (λ z. n (sym (w.stay d n) ∙ z)) ∙ w.stay d n) (rw e (λ z. here (sym (s c here) ∙ z), q));
    }
      where
        here : get_or next c 0 ≡ 0 → ⊥
        here z = omega (arith, w.here, w.some)

    pub numbering_end : left ≡ [] → SetNumbered says print all num₀ num came
    numbering_end e = record { book = k.book; all = k.done num (λ d n. refl) (rw e tt); stay = k.stay }

  pub siding_none : (s : List ℕ) (side first : ℕ) {n : ℕ} → n ≡ word s (first - 2) → Book says print num₀ came₀ → Siding says print s side first num₀ came₀ n 0 0 num₀ came₀
  unfolding codes_of
  siding_none s side first e b = record { within = omega arith; count = e; book = b; size = refl; came_size = refl; stay = λ d n. refl; before = λ k h. absurd (omega arith); latest = tt }

  module _ {s : List ℕ} {side first n last i : ℕ} {num came : List ℕ} (k : Siding says print s side first num₀ came₀ n last i num came) (h : i < n) {at : ℕ} (e : at ≡ word s (first + 2 * i)) where
    -- the same set again
    pub siding_same : at ≡ last → Siding says print s side first num₀ came₀ n last (i + 1) num came
    siding_same f = record {
      within = omega arith;
      count = k.count;
      book = k.book;
      size = k.size;
      came_size = k.came_size;
      stay = k.stay;
      before = λ j l. step j l (dec_lt j i);
      latest = k.latest;
    }
      where
        step : (j : ℕ) → j < i + 1 → Dec (j < i) → AllNumbered num (codes_of s side (word s (first + 2 * j)))
        step j l (yes q) = k.before j q
        step j l (no q) =
            let d : j ≡ i = omega arith in
            rw (d, ← e, f) k.latest

    -- another set
    pub siding_turn : {next after : List ℕ} → SetNumbered says print (codes_of s side at) num next after → length next ≡ length num → length after ≡ length came → Siding says print s side first num₀ came₀ n at (i + 1) next after
    siding_turn {next} {after} w p q = record {
      within = omega arith;
      count = k.count;
      book = w.book;
      size = p ∙ k.size;
      came_size = q ∙ k.came_size;
      stay = λ d n. let o = k.stay d n in w.stay d (λ z. n (sym o ∙ z)) ∙ o;
      before = λ j l. step j l (dec_lt j i);
      latest = w.all;
    }
      where
        step : (j : ℕ) → j < i + 1 → Dec (j < i) → AllNumbered next (codes_of s side (word s (first + 2 * j)))
        step j l (yes q) = all_stay num next w.stay (codes_of s side (word s (first + 2 * j))) (k.before j q)
        step j l (no q) =
            let d : j ≡ i = omega arith in
            rw (d, ← e) w.all

  pub siding_end : {s : List ℕ} {side first n last i : ℕ} {num came : List ℕ} → Siding says print s side first num₀ came₀ n last i num came → n ≤ i → SideNumbered says print s side first num₀ num came
  siding_end k h = record { book = k.book; sets = record { all = λ j l. k.before j (omega (arith, k.count)) }; stay = k.stay }

-- before the first rule
pub book_first : {says : ℕ → Says} {print : Says → ℕ} {num₀ num came₀ came : List ℕ} → Cells (length num₀) (length came₀) → Cleared (length num₀) num₀ num → Cleared 65537 came₀ came → length num ≡ length num₀ → length came ≡ length came₀
    → Book says print num came
book_first c n k e f = book_blank (omega (arith, c.codes, c.comes)) (omega (arith, c.codes)) (cleared_whole n (omega arith)) k.blank

-- both sides, one after the other
pub both_told : {says : ℕ → Says} {print : Says → ℕ} {l r num one came two after : List ℕ} {first : ℕ} → SideNumbered says print l 0 first num one came → SideNumbered says print r 1 first one two after → Told says l r first two
both_told {l = l} {one = one} {two = two} {first = first} a b = record {
  tells = numbers_tell b.book;
  few = number_few b.book;
  lefts = record { all = λ i h. all_stay one two b.stay (codes_of l 0 (word l (first + 2 * i))) (a.sets.all i h) };
  rights = b.sets;
}
