-- The tests for equal contents tell equality.
use Rattle.std.specs.Prelude.{ℕ, ◌≡◌, Bool, true, eqb}
use Rattle.std.proofs.Math.Path.{refl, ap₂}
use Rattle.std.proofs.Common.{sym, true≢false, eqb-true, eq-eqb}
use mathlib.Core.List.{List, [], ◌∷◌}
use Rattle.laws.specs.Runs.{both}
use Rattle.differences.specs.Content.{Says}
use Rattle.differences.specs.Entries.{same_list, same_two, same_says}

-- a test that is true of equals and of nothing else
pub record Tells {A : Type 0} (same : A → A → Bool) : Type 0 where
  pub equal : (a b : A) → same a b ≡ true → a ≡ b
  pub itself : (a : A) → same a a ≡ true

pub tells_number : Tells eqb
tells_number = record { equal = eqb-true; itself = λ a. eq-eqb a a refl }

pub tells_two : Tells same_two
unfolding same_two
tells_two = record {
  equal = λ a b h. let k = both (eqb a.0 b.0) _ h in ap₂ (λ (x y : ℕ). (x, y)) (eqb-true a.0 b.0 k.0) (eqb-true a.1 b.1 k.1);
  itself = λ a. rw (eq-eqb a.0 a.0 refl, eq-eqb a.1 a.1 refl);
}

module _ {A : Type 0} {same : A → A → Bool} (t : Tells same) where
  list_equal : (l r : List A) → same_list same l r ≡ true → l ≡ r
  unfolding same_list
  list_equal [] [] h = refl
  list_equal [] (b ∷ r) h = absurd (true≢false (sym h))
  list_equal (a ∷ l) [] h = absurd (true≢false (sym h))
  list_equal (a ∷ l) (b ∷ r) h =
      let k = both (same a b) (same_list same l r) h in
      ap₂ (λ (x : A) (y : List A). x ∷ y) (t.equal a b k.0) (list_equal l r k.1)

  list_itself : (l : List A) → same_list same l l ≡ true
  unfolding same_list
  list_itself [] = refl
  list_itself (a ∷ l) = rw (t.itself a) (list_itself l)

  pub tells_list : Tells (same_list same)
  tells_list = record { equal = list_equal; itself = list_itself }

abbrev places : Tells (same_list (same_list same_two))
places = tells_list (tells_list tells_two)

says_equal : (x y : Says) → same_says x y ≡ true → x ≡ y
unfolding same_says
says_equal x y h =
    let b = both (same_list (same_list same_two) x.back y.back) _ h in
    let c = both (eqb x.count y.count) _ b.1 in
    let i = both (same_list (same_list same_two) x.input y.input) _ c.1 in
    let a = both (same_list (same_list same_two) x.ahead y.ahead) _ i.1 in
    let r = both (same_list same_two x.records y.records) _ a.1 in
    let back = places.equal x.back y.back b.0 in
    let count = eqb-true x.count y.count c.0 in
    let input = places.equal x.input y.input i.0 in
    let ahead = places.equal x.ahead y.ahead a.0 in
    let records = (tells_list tells_two).equal x.records y.records r.0 in
    let forms = eqb-true x.forms y.forms r.1 in
    λ k. record { back = back k; count = count k; input = input k; ahead = ahead k; records = records k; forms = forms k }

says_itself : (x : Says) → same_says x x ≡ true
unfolding same_says
says_itself x =
    rw (places.itself x.back, eq-eqb x.count x.count refl, places.itself x.input, places.itself x.ahead, (tells_list tells_two).itself x.records, eq-eqb x.forms x.forms refl)

pub tells_says : Tells same_says
tells_says = record { equal = says_equal; itself = says_itself }
