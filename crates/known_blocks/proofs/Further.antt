-- Further places of the source that lead to blocks of the book.
use Prim.Native.Nat.{ℕ, ◌+◌, ◌-◌, ◌*◌, ◌/◌, ◌%◌, ◌≤◌, ◌<◌}
use mathlib.Core.Path.{◌≡◌, refl, sym, ap, ◌∙◌}
use mathlib.Core.Bool.{Bool, true, false, cond, ◌||◌, true≢false}
use mathlib.Core.Logic.{◌⊎◌, inl, inr}
use Rattle.std.specs.Prelude.{Option}
use mathlib.Core.List.{List, [], ◌∷◌, ◌++◌}
use native.Mathlib.Omega.{arith}
use lib.ListN.{length, get_or, set, length-set}
use lib.Seq.{get_or-set_same, get_or-set_other}
use lib.Dec.{eqb}
use borrow.Author.Tests.{eqb-true, eqb-false}
use Rattle.meaning.specs.Words.{eq_list}
use Rattle.laws.specs.Repeats.{has}
use Rattle.known_blocks.specs.Book.{words_before, Leads, further_in, NotedPlace, Again}
use Rattle.known_blocks.proofs.Coming.{found_leading}

-- more blocks behind them
has_more : (ds es : List (List ℕ)) (b : List ℕ) → has b ds ≡ true → has b (ds ++ es) ≡ true
unfolding has
has_more [] es b h = absurd (true≢false (sym h))
has_more (d ∷ ds) es b h = step (eq_list d b) h (has_more ds es b)
  where
    step : (t : Bool) → t || has b ds ≡ true → (has b ds ≡ true → has b (ds ++ es) ≡ true) → t || has b (ds ++ es) ≡ true
    step true e i = refl
    step false e i = i e

before_stays : (ds es : List (List ℕ)) (b : List ℕ) → has b ds ≡ true → words_before (ds ++ es) b ≡ words_before ds b
unfolding has words_before
before_stays [] es b h = absurd (true≢false (sym h))
before_stays (d ∷ ds) es b h = step (eq_list d b) h (before_stays ds es b)
  where
    step : (t : Bool) → t || has b ds ≡ true → (has b ds ≡ true → words_before (ds ++ es) b ≡ words_before ds b) → cond t 0 (length d + words_before (ds ++ es) b) ≡ cond t 0 (length d + words_before ds b)
    step true e i = refl
    step false e i = ap (λ (n : ℕ). length d + n) (i e)

pub leads_more : {left : ℕ → Option (List ℕ)} (ds es : List (List ℕ)) {c : ℕ} → Leads left ds c → Leads left (ds ++ es) c
leads_more ds es h = record { words = h.words; is = h.is; among = has_more ds es h.words h.among; before = h.before ∙ sym (before_stays ds es h.words h.among) }

-- a further place was found
pub found_elsewhere : {book : List ℕ} {first source c : ℕ} (i : ℕ) → i < further_in book → 3 + get_or book 0 0 + i ≤ length book → c ≡ get_or book (length book - 2 - i) 0 → c % 65536 ≡ source → Again book first source (first + 2 * (c / 65536))
found_elsewhere i h l e = found_leading (λ left ds k d. rw e (k.further i h (omega (arith, k.count))))

-- two cells counted from the end are one if they have one number
one_index : (long i n z : ℕ) → z ≡ long - 1 → i + 3 ≤ long → n + 3 ≤ long → long - 2 - i ≡ z - 1 - n → i ≡ n
one_index long i n z e u v x = omega arith

-- there was no room for one more
pub no_place : {offset source : ℕ} {book : List ℕ} → NotedPlace offset source book book
no_place = record { same = refl; kept = λ j h. refl; cells = λ i h l. inr (h, refl) }

-- there was, and it is noted
pub place_noted : {offset source n z : ℕ} {before one after : List ℕ} → z ≡ length before - 1 → n ≡ get_or before z 0 → 3 + get_or before 0 0 + n ≤ length before → one ≡ set before (z - 1 - n) (offset / 2 * 65536 + source) → after ≡ set one z (n + 1)
    → NotedPlace offset source before after
place_noted {offset} {source} {n} {z} {before} {one} {after} e f l g h = record {
  same = long;
  kept = λ j u. other j (omega (arith, e)) (omega (arith, e));
  cells = λ i u w. by_index_lem i (omega (arith, count)) w (eqb i n) refl;
}
  where
    v : ℕ
    v = offset / 2 * 65536 + source

    many : length one ≡ length before
    many = ap length g ∙ length-set before (z - 1 - n) v

    long : length after ≡ length before
    long = ap length h ∙ length-set one z (n + 1) ∙ many

    count : further_in after ≡ n + 1
    count = ap (λ (j : ℕ). get_or after j 0) (omega (arith, e, long)) ∙ ap (λ (x : List ℕ). get_or x z 0) h ∙ get_or-set_same one z (n + 1) 0 (omega (arith, e, many))

    past : (j : ℕ) → j < z → get_or after j 0 ≡ get_or one j 0
    past j u = ap (λ (x : List ℕ). get_or x j 0) h ∙ get_or-set_other one z j (n + 1) 0 (omega arith)

    other : (j : ℕ) → j < z → (j ≡ z - 1 - n → ⊥) → get_or after j 0 ≡ get_or before j 0
    other j u w = past j u ∙ ap (λ (x : List ℕ). get_or x j 0) g ∙ get_or-set_other before (z - 1 - n) j v 0 w

    by_index_lem : (i : ℕ) → i < n + 1 → 3 + get_or before 0 0 + i ≤ length before → (t : Bool) → eqb i n ≡ t
        → (get_or after (length before - 2 - i) 0 ≡ offset / 2 * 65536 + source) ⊎ ((i < further_in before) × (get_or after (length before - 2 - i) 0 ≡ get_or before (length before - 2 - i) 0))
    by_index_lem i u w true q =
        let k : i ≡ n = eqb-true i n q in
        let at : length before - 2 - i ≡ z - 1 - n = omega (arith, e, k) in
        inl (ap (λ (j : ℕ). get_or after j 0) at ∙ past (z - 1 - n) (omega (arith, e)) ∙ ap (λ (x : List ℕ). get_or x (z - 1 - n) 0) g ∙ get_or-set_same before (z - 1 - n) v 0 (omega (arith, e)))
    by_index_lem i u w false q =
        let k = eqb-false i n q in
        let m : further_in before ≡ n = ap (λ (j : ℕ). get_or before j 0) (sym e) ∙ sym f in
        inr (omega (arith, m, k), other (length before - 2 - i) (omega (arith, e)) (λ x. k (one_index (length before) i n z e (omega arith) (omega arith) x)))
