-- A block that was written behind those of the book: it is one of them, or it is noted.
use Prim.Native.Nat.{ℕ, zero, suc, ◌+◌, ◌-◌, ◌*◌, ◌/◌, ◌%◌, ◌≤◌, ◌<◌}
use mathlib.Core.Path.{◌≡◌, refl, sym, ap, ◌∙◌, subst}
use mathlib.Core.Bool.{Bool, true, false, cond, ◌||◌, true≢false}
use mathlib.Core.Logic.{◌⊎◌, inl, inr}
use Rattle.std.specs.Prelude.{Option, Some}
use mathlib.Core.List.{List, [], ◌∷◌, ◌++◌, append-nil}
use native.Mathlib.Omega.{arith}
use lib.ListN.{length, get_or, set, length-set, length-append}
use lib.Seq.{get_or-set_same, get_or-set_other}
use borrow.Author.Tests.{lt-ltb, le-ltb}
use Rattle.meaning.specs.Words.{words, eq_list}
use Rattle.meaning.specs.Tables.{drop_null}
use Rattle.meaning.specs.Packed.{first_of_each, together, offset_in}
use Rattle.laws.specs.Stands.{words_back}
use Rattle.laws.specs.Repeats.{list_same, has}
use Rattle.laws.specs.PackedReading.{shared_blocks}
use Rattle.known_blocks.specs.Shared.{blocks_in, known, place_in, firsts_next, blocks_next}
use Rattle.known_blocks.specs.Book.{packs, in_book, Listed, further_in, words_before, Leads, Booked, Begun, Noted, NotedPlace, where_in, Found, Fresh, Behind, Settled}
use Rattle.known_blocks.specs.declared.Spot.{Spot}
use Rattle.known_blocks.proofs.Coming.{offset_words}
use Rattle.known_blocks.proofs.Further.{leads_more}

-- an empty book
pub begun : {before one after : List ℕ} {z : ℕ} → one ≡ set before 0 0 → z ≡ length one - 1 → after ≡ set one z 0 → Begun before after
unfolding first_of_each drop_null
begun {before} {one} {after} {z} e f g = record { same = long; empty = λ left. empty left (packs after) }
  where
    long : length after ≡ length before
    long = ap length g ∙ length-set one z 0 ∙ ap length e ∙ length-set before 0 0

    -- a cell that 0 is put into reads as 0, wherever it is, and stays so
    put_zero : (l : List ℕ) (i : ℕ) → get_or (set l i 0) i 0 ≡ 0
    put_zero [] i = refl
    put_zero (x ∷ l) zero = refl
    put_zero (x ∷ l) (suc i) = put_zero l i

    stays_zero : (l : List ℕ) (i j : ℕ) → get_or l j 0 ≡ 0 → get_or (set l i 0) j 0 ≡ 0
    stays_zero [] i j h = refl
    stays_zero (x ∷ l) zero zero h = refl
    stays_zero (x ∷ l) zero (suc j) h = h
    stays_zero (x ∷ l) (suc i) zero h = h
    stays_zero (x ∷ l) (suc i) (suc j) h = stays_zero l i j h

    none : get_or after 0 0 ≡ 0
    none = ap (λ (l : List ℕ). get_or l 0 0) g ∙ stays_zero one z 0 (ap (λ (l : List ℕ). get_or l 0 0) e ∙ put_zero before 0)

    no_further : further_in after ≡ 0
    no_further = ap (λ (i : ℕ). get_or after i 0) (ap (λ (n : ℕ). n - 1) (ap length g ∙ length-set one z 0) ∙ sym f) ∙ ap (λ (l : List ℕ). get_or l z 0) g ∙ put_zero one z

    empty : (left : ℕ → Option (List ℕ)) (packed : Bool) → Booked left (in_book packed []) after
    empty left false = record { count = none; few = omega arith; listed = tt; further = λ i h l. absurd (omega (arith, no_further)) }
    empty left true = record { count = none; few = omega arith; listed = tt; further = λ i h l. absurd (omega (arith, no_further)) }

-- one block more, store by store, unless it is too far
pub noted_by : {offset source k : ℕ} {book one two : List ℕ} → k ≡ get_or book 0 0 → one ≡ set book (1 + k) (offset / 2 * 65536 + source) → two ≡ set one 0 (k + 1) → Noted offset source book two
noted_by {offset} {source} {k} {book} e f g = record { is = λ near. g ∙ ap (λ (l : List ℕ). set l 0 (k + 1)) f ∙ ap (λ (i : ℕ). set (set book (1 + i) (offset / 2 * 65536 + source)) 0 (i + 1)) e }

pub not_noted : {offset source : ℕ} {book : List ℕ} → 65535 < offset → Noted offset source book book
not_noted far = record { is = λ near. absurd (omega arith) }

-- the place that is found: the offset of the block if it is among those of the book, and else p
where_has : (p at : ℕ) (ds : List (List ℕ)) (b : List ℕ) → has b ds ≡ true → where_in p at ds b ≡ offset_in at ds b
unfolding has where_in offset_in
where_has p at [] b h = absurd (true≢false (sym h))
where_has p at (d ∷ ds) b h = step (eq_list d b) h (where_has p (at + 2 * length d) ds b)
  where
    step : (t : Bool) → t || has b ds ≡ true → (has b ds ≡ true → where_in p (at + 2 * length d) ds b ≡ offset_in (at + 2 * length d) ds b)
        → cond t at (where_in p (at + 2 * length d) ds b) ≡ cond t at (offset_in (at + 2 * length d) ds b)
    step true e i = refl
    step false e i = i e

where_none : (p at : ℕ) (ds : List (List ℕ)) (b : List ℕ) → has b ds ≡ false → where_in p at ds b ≡ p
unfolding has where_in
where_none p at [] b h = refl
where_none p at (d ∷ ds) b h = step (eq_list d b) h (where_none p (at + 2 * length d) ds b)
  where
    step : (t : Bool) → t || has b ds ≡ false → (has b ds ≡ false → where_in p (at + 2 * length d) ds b ≡ p) → cond t at (where_in p (at + 2 * length d) ds b) ≡ p
    step true e i = absurd (true≢false e)
    step false e i = i e

-- a block that is among them ends by their end
ends_inside : (at : ℕ) (ds : List (List ℕ)) (b : List ℕ) → has b ds ≡ true → offset_in at ds b + 2 * length b ≤ at + 2 * length (together ds)
unfolding has offset_in together
ends_inside at [] b h = absurd (true≢false (sym h))
ends_inside at (d ∷ ds) b h = step (eq_list d b) refl h (ends_inside (at + 2 * length d) ds b)
  where
    step : (t : Bool) → eq_list d b ≡ t → t || has b ds ≡ true → (has b ds ≡ true → offset_in (at + 2 * length d) ds b + 2 * length b ≤ at + 2 * length d + 2 * length (together ds))
        → cond t at (offset_in (at + 2 * length d) ds b) + 2 * length b ≤ at + 2 * length (d ++ together ds)
    step true e f i = omega (arith, ap length (list_same d b e), length-append d (together ds))
    step false e f i = omega (arith, i f, length-append d (together ds))

-- blocks in other cells stay, and one more is in the cell behind theirs
listed_more : (left : ℕ → Option (List ℕ)) (before after : List ℕ) (j v i w : ℕ) (ds : List (List ℕ)) (b : List ℕ) → ((k : ℕ) → i ≤ k → k < i + length ds → get_or after k 0 ≡ get_or before k 0) → Listed left before i w ds
    → j ≡ i + length ds → v ≡ w + length (together ds) → Listed left after j v (b ∷ []) → Listed left after i w (ds ++ (b ∷ []))
unfolding together
listed_more left before after j v i w [] b k h e f l =
    let there : j ≡ i = omega (arith, e) in
    let behind : v ≡ w = omega (arith, f) in
    rw (there, behind) at l
listed_more left before after j v i w (d ∷ ds) b k h e f l =
    let c = k i (omega arith) (omega arith) in
    (ap (λ (x : ℕ). x / 65536) c ∙ h.0, ap (λ (x : ℕ). left (x % 65536)) c ∙ h.1, listed_more left before after j v (i + 1) (w + length d) ds b (λ x u y. k x (omega arith) (omega arith)) h.2 (omega (arith, e)) (omega (arith, f, length-append d (together ds))) l)

pub booked_more : (left : ℕ → Option (List ℕ)) (ds : List (List ℕ)) (b : List ℕ) {before after : List ℕ} {offset source : ℕ} → Booked left ds before → Noted offset source before after → offset ≤ 65535 → offset ≡ 2 * length (together ds) → source < 65536
    → left source ≡ Some b → 3 + length ds ≤ length before → length ds < 65535 → Booked left (ds ++ (b ∷ [])) after
booked_more left ds b {before} {after} {offset} {source} k n near place f o r w = record {
  count = ap (λ (l : List ℕ). get_or l 0 0) (n.is near) ∙ get_or-set_same one 0 (c + 1) 0 (omega (arith, many)) ∙ omega (arith, k.count, more);
  few = omega (arith, more);
  listed = listed_more left before after (1 + c) (offset / 2) 1 0 ds b (λ j u y. stays j (omega arith) (omega (arith, k.count))) k.listed (omega (arith, k.count)) (omega (arith, place)) (ap (λ (x : ℕ). x / 65536) here ∙ omega arith, ap (λ (x : ℕ). left (x % 65536)) here ∙ ap left (omega arith) ∙ o, tt);
  further = λ i u y.
      let last : further_in after ≡ further_in before = stays (length after - 1) (omega (arith, k.count, more, all)) (omega (arith, k.count, more, all)) ∙ ap (λ (x : ℕ). get_or before (x - 1) 0) all in
      let cell : get_or after (length after - 2 - i) 0 ≡ get_or before (length before - 2 - i) 0 = stays (length after - 2 - i) (omega (arith, k.count, more)) (omega (arith, k.count, more)) ∙ ap (λ (x : ℕ). get_or before (x - 2 - i) 0) all in
      rw cell (leads_more ds (b ∷ []) (k.further i (omega (arith, last)) (omega (arith, all, more))));
}
  where
    c : ℕ
    c = get_or before 0 0

    mark : ℕ
    mark = offset / 2 * 65536 + source

    one : List ℕ
    one = set before (1 + c) mark

    many : length one ≡ length before
    many = length-set before (1 + c) mark

    more : length (ds ++ (b ∷ [])) ≡ length ds + 1
    more = length-append ds (b ∷ [])

    all : length after ≡ length before
    all = ap length (n.is near) ∙ length-set one 0 (c + 1) ∙ many

    behind : (j : ℕ) → 0 < j → get_or after j 0 ≡ get_or one j 0
    behind j l = ap (λ (l : List ℕ). get_or l j 0) (n.is near) ∙ get_or-set_other one 0 j (c + 1) 0 (omega arith)

    here : get_or after (1 + c) 0 ≡ mark
    here = behind (1 + c) (omega arith) ∙ get_or-set_same before (1 + c) mark 0 (omega (arith, k.count))

    stays : (j : ℕ) → 0 < j → (j ≡ 1 + c → ⊥) → get_or after j 0 ≡ get_or before j 0
    stays j l x = behind j l ∙ get_or-set_other before (1 + c) j mark 0 x

-- a further place that leads to a block of the book
listed_same : (left : ℕ → Option (List ℕ)) (before after : List ℕ) (i w : ℕ) (ds : List (List ℕ)) → ((j : ℕ) → i ≤ j → j < i + length ds → get_or after j 0 ≡ get_or before j 0) → Listed left before i w ds → Listed left after i w ds
listed_same left before after i w [] k h = tt
listed_same left before after i w (d ∷ ds) k h =
    let e = k i (omega arith) (omega arith) in
    (ap (λ (x : ℕ). x / 65536) e ∙ h.0, ap (λ (x : ℕ). left (x % 65536)) e ∙ h.1, listed_same left before after (i + 1) (w + length d) ds (λ j u v. k j (omega arith) (omega arith)) h.2)

booked_further : {left : ℕ → Option (List ℕ)} (ds : List (List ℕ)) (b : List ℕ) {offset source : ℕ} {before after : List ℕ} → Booked left ds before → NotedPlace offset source before after → source < 65536 → left source ≡ Some b → has b ds ≡ true
    → offset ≡ 2 * words_before ds b → Booked left ds after
booked_further {left} ds b {offset} {source} {before} {after} k n f o h e = record {
  count = n.kept 0 (omega arith) ∙ k.count;
  few = k.few;
  listed = listed_same left before after 1 0 ds (λ j u v. n.kept j (omega (arith, k.count))) k.listed;
  further = λ i u v. leads i (n.cells i u (omega (arith, k.count, n.same))) (omega (arith, n.same));
}
  where
    leads : (i : ℕ) → (get_or after (length before - 2 - i) 0 ≡ offset / 2 * 65536 + source) ⊎ ((i < further_in before) × (get_or after (length before - 2 - i) 0 ≡ get_or before (length before - 2 - i) 0)) → 3 + length ds + i ≤ length before
        → Leads left ds (get_or after (length after - 2 - i) 0)
    leads i (inl q) l =
        let here : get_or after (length after - 2 - i) 0 ≡ offset / 2 * 65536 + source = ap (λ (m : ℕ). get_or after (m - 2 - i) 0) n.same ∙ q in
        rw here (record { words = b; is = ap left (omega arith) ∙ o; among = h; before = omega (arith, e) })
    leads i (inr q) l =
        let here : get_or after (length after - 2 - i) 0 ≡ get_or before (length before - 2 - i) 0 = ap (λ (m : ℕ). get_or after (m - 2 - i) 0) n.same ∙ q.1 in
        rw here (k.further i q.0 l)

-- what is said of a block that is not too far
abbrev NearIn : Bool → (ℕ → Option (List ℕ)) → List (Option (List ℕ)) → List ℕ → ℕ → List ℕ → Spot → Type 0
NearIn packed left bs b first book r = (r.at ≡ place_in packed first bs b) × (r.end ≡ first + 2 * length (blocks_in packed (bs ++ (Some b ∷ [])))) × Booked left (in_book packed (bs ++ (Some b ∷ []))) book

module _ {area : List ℕ} {first p : ℕ} (q source : ℕ) {book : List ℕ} where
  -- a book of one cell: each block is new
  pub settled_plain : {r : Spot} → Fresh first p q r → length book < 2 → Settled area first p q source book book r
  unfolding place_in
  settled_plain {r} f l =
      let e : packs book ≡ false = le-ltb 1 (length book) (omega arith) in
      record {
        same = refl;
        far = f.far;
        near = λ {left} bs b h z.
            subst (λ (t : Bool). NearIn t left bs b first book r) (sym e)
            (plain left bs b (f.near z).0 (subst (λ (t : Bool). Booked left (in_book t bs) book) e h.booked) (subst (λ (t : Bool). p ≡ first + 2 * length (blocks_in t bs)) e h.place) h.end);
        new = λ {left} bs b h far z. absurd (omega (arith, (f.near z).1));
        unknown = λ {left} bs b h z c. ap (λ (t : Bool). known t bs b) e;
      }
    where
      plain : (left : ℕ → Option (List ℕ)) (bs : List (Option (List ℕ))) (b : List ℕ) → r.at ≡ p → Booked left [] book → p ≡ first + 2 * length (blocks_in false bs) → q ≡ p + 2 * length b → NearIn false left bs b first book r
      plain left bs b a k u v = (a ∙ u, f.end ∙ omega (arith, u, v, ap length (blocks_next false first bs b), length-append (blocks_in false bs) b), k)

  -- what the search found, for a book of more
  module _ (l : 1 < length book) {at n : ℕ} (g : Found area book first p n at) (m : n ≡ (q - p) / 2) where
    e : packs book ≡ true
    e = lt-ltb 1 (length book) l

    module _ {left : ℕ → Option (List ℕ)} (bs : List (Option (List ℕ))) (b : List ℕ) (h : Behind left bs b area first p q source book) where
      ds : List (List ℕ)
      ds = first_of_each (drop_null bs)

      in_book_lem : Booked left (first_of_each (drop_null bs)) book
      in_book_lem = subst (λ (t : Bool). Booked left (in_book t bs) book) e h.booked

      place : p ≡ first + 2 * length (together (first_of_each (drop_null bs)))
      unfolding shared_blocks
      place = subst (λ (t : Bool). p ≡ first + 2 * length (blocks_in t bs)) e h.place

      read : words area p n ≡ b
      read = ap (words area p) (m ∙ omega (arith, h.end)) ∙ words_back b (h.last e)

      found : at ≡ where_in p first (first_of_each (drop_null bs)) b
      unfolding shared_blocks
      found = g.is in_book_lem (h.laid e) place ∙ ap (where_in p first (first_of_each (drop_null bs))) read

      -- it is among them exactly if another place than p was found
      is_known : (at ≡ p → ⊥) → has b (first_of_each (drop_null bs)) ≡ true
      is_known z = step (has b (first_of_each (drop_null bs))) refl
        where
          step : (t : Bool) → has b (first_of_each (drop_null bs)) ≡ t → t ≡ true
          step true k = refl
          step false k = absurd (z (found ∙ where_none p first (first_of_each (drop_null bs)) b k))

      is_new : at ≡ p → has b (first_of_each (drop_null bs)) ≡ false
      is_new z = step (has b (first_of_each (drop_null bs))) refl
        where
          step : (t : Bool) → has b (first_of_each (drop_null bs)) ≡ t → t ≡ false
          step true k = absurd (omega (arith, place, z, found ∙ where_has p first (first_of_each (drop_null bs)) b k, ends_inside first (first_of_each (drop_null bs)) b k, h.some_word))
          step false k = refl

      near_known : {after : List ℕ} → (at ≡ p → ⊥) → NotedPlace (at - first) source book after → source < 65536 → NearIn true left bs b first after (record { at = at; end = p })
      unfolding place_in shared_blocks
      near_known {after} z o c =
          let ds = first_of_each (drop_null bs) in
          let k = is_known z in
          let same : first_of_each (drop_null (bs ++ (Some b ∷ []))) ≡ ds = firsts_next true 0 bs b ∙ rw k (append-nil ds) in
          let there : at ≡ offset_in first ds b = found ∙ where_has p first ds b k in
          let booked : Booked left ds after = booked_further ds b in_book_lem o c h.from k (omega (arith, there, offset_words first ds b k)) in
          (rw k there, place ∙ ap (λ (x : List (List ℕ)). first + 2 * length (together x)) (sym same), subst (λ (x : List (List ℕ)). Booked left x after) (sym same) booked)

      near_new : {after : List ℕ} {r : Spot} → at ≡ p → r.at ≡ p → r.end ≡ q → Noted (p - first) source book after → source < 65536 → p ≤ first + 65535 → NearIn true left bs b first after r
      unfolding place_in shared_blocks
      near_new {after} {r} z a f o c y =
          let k = is_new z in
          let more : first_of_each (drop_null (bs ++ (Some b ∷ []))) ≡ first_of_each (drop_null bs) ++ (b ∷ []) = firsts_next true 0 bs b ∙ rw k refl in
          let words_more : together (first_of_each (drop_null (bs ++ (Some b ∷ [])))) ≡ together (first_of_each (drop_null bs)) ++ b = blocks_next true 0 bs b ∙ rw k refl in
          (rw k (a ∙ place), f ∙ omega (arith, place, h.end, ap length words_more, length-append (together (first_of_each (drop_null bs))) b), subst (λ (x : List (List ℕ)). Booked left x after) (sym more) (booked_more left (first_of_each (drop_null bs)) b in_book_lem o (omega arith) (omega (arith, place)) c h.from (h.room e y) (h.few e y)))

    pub settled_known : {after : List ℕ} → (at ≡ p → ⊥) → NotedPlace (at - first) source book after → source < 65536 → Settled area first p q source book after (record { at = at; end = p })
    settled_known {after} z o c =
        let e' : packs after ≡ true = lt-ltb 1 (length after) (omega (arith, o.same)) in
        record {
          same = o.same;
          far = λ a c. absurd (omega (arith, g.above));
          near = λ {left} bs b h y. subst (λ (t : Bool). NearIn t left bs b first after (record { at = at; end = p })) (sym e') (near_known bs b h z o c);
          new = λ {left} bs b h f y. subst (λ (t : Bool). known t bs b ≡ true) (sym e') (is_known bs b h z);
          unknown = λ {left} bs b h a y. absurd (omega (arith, g.above));
        }

    pub settled_new : {after : List ℕ} {r : Spot} → at ≡ p → Fresh first p q r → Noted (p - first) source book after → source < 65536 → length after ≡ length book → Settled area first p q source book after r
    settled_new {after} {r} z f o c v =
        let e' : packs after ≡ true = lt-ltb 1 (length after) (omega (arith, v)) in
        record {
          same = v;
          far = f.far;
          near = λ {left} bs b h y. subst (λ (t : Bool). NearIn t left bs b first after r) (sym e') (near_new bs b h z (f.near y).0 f.end o c (f.near y).1);
          new = λ {left} bs b h u y. absurd (omega (arith, (f.near y).1));
          unknown = λ {left} bs b h y u. subst (λ (t : Bool). known t bs b ≡ false) (sym e') (is_new bs b h z);
        }
