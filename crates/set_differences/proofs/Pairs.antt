-- Two gathered sets, paired and listed, and the pair that is remembered.
use Prim.Native.Nat.{ℕ, zero, suc, ◌+◌, ◌-◌, ◌*◌, ◌≤◌, ◌<◌}
use mathlib.Core.Path.{◌≡◌, refl, sym, ap, ap₂, ◌∙◌}
use mathlib.Core.Bool.{Bool, true, false, cond, true≢false}
use mathlib.Core.Logic.{◌⊎◌, inl, inr}
use Rattle.std.specs.Prelude.{Option, None, Some}
use Rattle.std.proofs.lemmas.Option.{none-some}
use mathlib.Core.List.{List, [], ◌∷◌, map}
use native.Mathlib.Nat.{zero-add}
use native.Mathlib.Omega.{arith}
use lib.ListN.{length, get_or, set, drop, length-set, length-append}
use lib.Seq.{sets, set_out, get_or-drop, get_or-set_same, get_or-set_other}
use lib.Dec.{eqb}
use Rattle.meaning.specs.Words.{flat, up_from}
use Rattle.laws.specs.Stands.{All}
use Rattle.differences.specs.Entries.{Entry, each, ranked, partner, left_rule, right_rule, if_there, at_rank, longer, rule_entries}
use Rattle.differences.specs.Compare.{entry_words}
use Rattle.listing.specs.Listed.{entry_of, Listed, listed_said}
use Rattle.rule_differences.specs.Ranked.{both_at, ranks_are}
use Rattle.partners.specs.Chains.{numbers_from, Paired}
use Rattle.set_numbers.specs.Sets.{codes_of}
use Rattle.gathered.specs.Gathered.{number_in, numbers_at, Gathered, Rowed, PairedRows, Remembered, Known}

-- numbers in a part of the cells
pub numbers_drop : (t : List ℕ) (k i n : ℕ) → numbers_from (drop k t) i n ≡ numbers_from t (k + i) n
unfolding numbers_from
numbers_drop t k i zero = refl
numbers_drop t k i (suc n) =
    let e : k + i + 1 ≡ k + (i + 1) = omega arith in
    rw e (ap₂ (λ (x : ℕ) (l : List ℕ). x ∷ l) (get_or-drop k t i 0) (numbers_drop t k (i + 1) n))

pub numbers_length : (t : List ℕ) (i n : ℕ) → length (numbers_from t i n) ≡ n
unfolding numbers_from
numbers_length t i zero = refl
numbers_length t i (suc n) = ap suc (numbers_length t (i + 1) n)

-- what is said of all of them is said of each
all_from : (P : ℕ → Type 0) (t : List ℕ) (i n k : ℕ) → All P (numbers_from t i n) → k < n → P (get_or t (i + k) 0)
unfolding numbers_from
all_from P t i zero k a h = absurd (omega arith)
all_from P t i (suc n) zero a h = let e : i + 0 ≡ i = omega arith in rw e a.0
all_from P t i (suc n) (suc k) a h = let e : i + suc k ≡ i + 1 + k = omega arith in rw e (all_from P t (i + 1) n k a.1 (omega arith))

-- each number has a head
pub numbers_below : (num s : List ℕ) (side at b : ℕ) → ((c : ℕ) → get_or num c 0 < b) → All (λ x. x < b) (numbers_at num s side at)
unfolding numbers_at
numbers_below num s side at b f = below (codes_of s side at)
  where
    below : (codes : List ℕ) → All (λ x. x < b) (map (number_in num) codes)
    below [] = tt
    below (c ∷ codes) = (f c, below codes)

-- cells before the row are as they were
numbers_kept : (old new : List ℕ) (i n : ℕ) → ((j : ℕ) → j < i + n → get_or new j 0 ≡ get_or old j 0) → numbers_from new i n ≡ numbers_from old i n
unfolding numbers_from
numbers_kept old new i zero k = refl
numbers_kept old new i (suc n) k = ap₂ (λ (x : ℕ) (l : List ℕ). x ∷ l) (k i (omega arith)) (numbers_kept old new (i + 1) n (λ j h. k j (omega arith)))

-- the ranks of a row of n numbers are below n
ranked_below : (t : List ℕ) (i n k x : ℕ) → ranked (numbers_from t i n) k ≡ Some x → k < n
unfolding numbers_from ranked
ranked_below t i zero k x e = absurd (none-some _ e)
ranked_below t i (suc n) zero x e = omega arith
ranked_below t i (suc n) (suc k) x e = omega (arith, ranked_below t (i + 1) n k x e)

-- Both rows paired, one after the other. The second row stands in a part of the cells.
pub rows_paired : {nums rights old mid new : List ℕ} {m n : ℕ} → m < 65536 → rights ≡ drop 65536 nums → Paired nums m rights n 0 old mid → Paired rights n nums m 65536 mid new
    → PairedRows (numbers_from nums 0 m) (numbers_from nums 65536 n) new
rows_paired {nums} {rights} {old} {mid} {new} {m} {n} h e a b = record {
  lefts = record { stand = λ i x q. rw (b.kept.same i (omega (arith, ranked_below nums 0 m i x q))) (rw d at (a.partners.stand i x q)) };
  rights = rw d at b.partners;
}
  where
    d : numbers_from rights 0 n ≡ numbers_from nums 65536 n
    d = rw e (numbers_drop nums 65536 0 n)

-- Both rows, once they are gathered.
module _ {xs ys old mid new : List ℕ} {m n : ℕ} (a : Gathered xs 0 old mid m) (b : Gathered ys 65536 mid new n) where
  left_row : numbers_from new 0 m ≡ xs
  left_row = numbers_kept mid new 0 m (λ j h. b.kept.same j (omega (arith, a.few))) ∙ a.stand

  pub rows_gathered : {heads links : ℕ} → All (λ x. x < heads) xs → All (λ x. x < heads) ys → 131072 ≤ length new → 196608 ≤ links → Rowed m n new heads links
  rows_gathered {heads} {links} p q c d = record {
    lefts = a.few;
    rights = b.few;
    cells = c;
    linked = d;
    left_below = record { below = λ k h. rw zero-add at (all_from (λ x. x < heads) new 0 m k (rw left_row p) h) };
    right_below = record { below = λ k h. rw (get_or-drop 65536 new k 0) (all_from (λ x. x < heads) new 65536 n k (rw b.stand q) h) };
  }

  -- their list
  pub rows_listed : (g : ℕ) {links rows : List ℕ} → PairedRows (numbers_from new 0 m) (numbers_from new 65536 n) links → rows ≡ drop 65536 links
      → {out next : List ℕ} {pos q : ℕ} → Listed (each (both_at links m rows n g) (up_from 0 (longer m n))) out pos next q × (q ≤ pos + 0x18_0000) → Listed (rule_entries eqb g xs ys) out pos next q × (q ≤ pos + 0x18_0000)
  rows_listed g {links} {rows} p d k =
      let e = ranks_are eqb g (numbers_from new 0 m) (numbers_from new 65536 n) links (drop 65536 links) p.lefts p.rights in
      let f = rw (numbers_length new 0 m, numbers_length new 65536 n) at e in
      let h = rw (left_row, b.stand) at f in
      (listed_said k.0 (rw d h), k.1)

-- The length of a list does not depend on the first glyph.

left_length : (g i : ℕ) (o : Option ℕ) → length (left_rule g i o) ≡ length (left_rule 0 i o)
unfolding left_rule
left_length g i None = refl
left_length g i (Some j) = one (eqb i j) (entry_of 4 0 g i i j) (entry_of 4 0 0 i i j)
  where
    one : (b : Bool) (x y : Entry) → length (cond b [] (x ∷ [])) ≡ length (cond b [] (y ∷ []))
    one true x y = refl
    one false x y = refl

right_length : (g i : ℕ) (o : Option ℕ) → length (right_rule g i o) ≡ length (right_rule 0 i o)
unfolding right_rule
right_length g i None = refl
right_length g i (Some j) = refl

there_length : (f h : ℕ → List Entry) → ((x : ℕ) → length (f x) ≡ length (h x)) → (o : Option ℕ) → length (if_there f o) ≡ length (if_there h o)
unfolding if_there
there_length f h e None = refl
there_length f h e (Some x) = e x

each_length : (f h : ℕ → List Entry) → ((i : ℕ) → length (f i) ≡ length (h i)) → (ks : List ℕ) → length (each f ks) ≡ length (each h ks)
unfolding each
each_length f h e [] = refl
each_length f h e (i ∷ ks) = length-append (f i) (each f ks) ∙ ap₂ (λ (a b : ℕ). a + b) (e i) (each_length f h e ks) ∙ sym (length-append (h i) (each h ks))

pub entries_length : (g : ℕ) (l r : List ℕ) → length (rule_entries eqb g l r) ≡ length (rule_entries eqb 0 l r)
unfolding rule_entries at_rank
entries_length g l r = each_length (at_rank eqb g l r) (at_rank eqb 0 l r) (λ i. two i) (up_from 0 (longer (length l) (length r)))
  where
    two : (i : ℕ) → length (at_rank eqb g l r i) ≡ length (at_rank eqb 0 l r i)
    two i =
        length-append (if_there (λ x. left_rule g i (partner eqb l r i x)) (ranked l i)) (if_there (λ x. right_rule g i (partner eqb r l i x)) (ranked r i))
        ∙ ap₂ (λ (a b : ℕ). a + b)
        (there_length (λ x. left_rule g i (partner eqb l r i x)) (λ x. left_rule 0 i (partner eqb l r i x)) (λ x. left_length g i (partner eqb l r i x)) (ranked l i))
        (there_length (λ x. right_rule g i (partner eqb r l i x)) (λ x. right_rule 0 i (partner eqb r l i x)) (λ x. right_length g i (partner eqb r l i x)) (ranked r i))
        ∙ sym (length-append (if_there (λ x. left_rule 0 i (partner eqb l r i x)) (ranked l i)) (if_there (λ x. right_rule 0 i (partner eqb r l i x)) (ranked r i)))

-- where there is no room nothing is written
sets_past : (xs l : List ℕ) (at : ℕ) → length l ≤ at → sets l at xs ≡ l
sets_past [] l at h = refl
sets_past (x ∷ xs) l at h = rw (set_out l at x h) (sets_past xs l (suc at) (omega arith))

none_there : (es : List Entry) → length es ≡ 0 → es ≡ []
none_there [] h = refl
none_there (e ∷ es) h = absurd (omega arith)

-- the pair that is remembered: its list is written nowhere
pub known_listed : (g : ℕ) {num left right nums out : List ℕ} {l r pos : ℕ} → Remembered num left right nums → Known nums l r pos (length out) true
    → {q : ℕ} → q ≡ pos + get_or nums 131074 0
    → Listed (rule_entries eqb g (numbers_at num left 0 l) (numbers_at num right 1 r)) out pos out q × (q ≤ pos + 0x18_0000)
unfolding flat entry_words
known_listed g {num} {left} {right} {nums} {out} {l} {r} {pos} m k {q} e = (record { place = omega (arith, b); bytes = step (k.nothing refl) }, omega (arith, m.few))
  where
    es : List Entry
    es = rule_entries eqb g (numbers_at num left 0 l) (numbers_at num right 1 r)

    b : get_or nums 131074 0 ≡ 12 * length es
    b = rw (k.left_is refl, k.right_is refl) at m.bytes ∙ ap (λ (n : ℕ). 12 * n) (sym (entries_length g (numbers_at num left 0 l) (numbers_at num right 1 r)))

    step : (get_or nums 131074 0 ≡ 0) ⊎ (length out ≤ pos) → out ≡ sets out pos (flat (entry_words es))
    step (inl z) = rw (none_there es (omega (arith, b)))
    step (inr z) = sym (sets_past (flat (entry_words es)) out pos z)

-- the pair is remembered
pub remembered : (g : ℕ) {num left right nums out next : List ℕ} {l r pos q d : ℕ} → Listed (rule_entries eqb g (numbers_at num left 0 l) (numbers_at num right 1 r)) out pos next q × (q ≤ pos + 0x18_0000) → d ≡ q - pos
    → (get_or nums 131072 0 ≡ l) × (get_or nums 131073 0 ≡ r) × (get_or nums 131074 0 ≡ d) → Remembered num left right nums
remembered g {num} {left} {right} {l = l} {r} k e h = record { few = omega (arith, h.2, k.1); bytes = rw (h.0, h.1) (omega (arith, h.2, k.0.place, entries_length g (numbers_at num left 0 l) (numbers_at num right 1 r))) }

-- the three ways through `is_known` that say no or yes
module _ {nums : List ℕ} {l r pos room : ℕ} where
  pub known_no : Known nums l r pos room false
  known_no = record { left_is = λ e. absurd (true≢false (sym e)); right_is = λ e. absurd (true≢false (sym e)); nothing = λ e. absurd (true≢false (sym e)) }

  pub known_if : {b : Bool} → get_or nums 131072 0 ≡ l → get_or nums 131073 0 ≡ r → (b ≡ true → (get_or nums 131074 0 ≡ 0) ⊎ (room ≤ pos)) → Known nums l r pos room b
  known_if e f g = record { left_is = λ q. e; right_is = λ q. f; nothing = g }

-- the three cells that `remember` writes
pub remembers : (nums : List ℕ) {one two three : List ℕ} {l r d : ℕ} → 131075 ≤ length nums → one ≡ set nums 131072 l → two ≡ set one 131073 r → three ≡ set two 131074 d
    → (get_or three 131072 0 ≡ l) × (get_or three 131073 0 ≡ r) × (get_or three 131074 0 ≡ d)
remembers nums {one} {two} {three} {l} {r} {d} h e f g = (
  read 131072 g ∙ get_or-set_other two 131074 131072 d 0 (λ q. omega arith) ∙ read 131072 f ∙ get_or-set_other one 131073 131072 r 0 (λ q. omega arith) ∙ read 131072 e ∙ get_or-set_same nums 131072 l 0 (omega arith),
  read 131073 g ∙ get_or-set_other two 131074 131073 d 0 (λ q. omega arith) ∙ read 131073 f ∙ get_or-set_same one 131073 r 0 (omega (arith, size1)),
  read 131074 g ∙ get_or-set_same two 131074 d 0 (omega (arith, size1, size2)),
)
  where
    read : {t u : List ℕ} (i : ℕ) → t ≡ u → get_or t i 0 ≡ get_or u i 0
    read i q = ap (λ (t : List ℕ). get_or t i 0) q

    size1 : length one ≡ length nums
    size1 = ap length e ∙ length-set nums 131072 l

    size2 : length two ≡ length one
    size2 = ap length f ∙ length-set one 131073 r
