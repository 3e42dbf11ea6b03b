-- What a writer leaves in the area, and parts written one after the other.
use Rattle.std.specs.Prelude.{ℕ, ◌+◌, ◌*◌, ◌≤◌, ◌<◌, ◌≡◌, Bool, ◌||◌, List, [], ◌∷◌, ◌++◌, Option, None, Some}
use Rattle.std.proofs.Math.Path.{refl}
use Rattle.std.proofs.Common.{sym, ap, ◌∙◌, true≢false, arith, length-append}
use Rattle.std.proofs.Math.Bool.{true, false}
use Rattle.std.proofs.Math.ListN.{length}
use Rattle.std.proofs.Math.Dec.{eqb, ltb}
use borrow.Author.Tests.{eqb-true, eqb-false, ltb-true, ltb-false}
use Rattle.meaning.specs.Words.{bind, is_some, map_all}
use Rattle.area.specs.Extends.{Keeps, Extends, extends_more, extends_said, extends_keeps, keeps_more, keeps_less}

-- The answer r of a writer from `pos` on, of what may be left as words:
-- the place after the words; 0, where nothing is left, and what stood before `pos` is as before;
-- or more than the length of the area, which is then too short for `most` bytes from `pos` on.
pub record Leaves (before : List ℕ) (pos : ℕ) (left : Option (List ℕ)) (most : ℕ) (after : List ℕ) (r : ℕ) : Type 0 where
  pub same : length after ≡ length before
  pub gone : left ≡ None → r ≤ length before → (r ≡ 0) × Keeps before pos after
  pub stays : {ws : List ℕ} → left ≡ Some ws → r ≤ length before → Extends before pos ws after r
  pub full : length before < r → length before < pos + most

-- what is left takes no more than `most` bytes
pub record Fits (left : Option (List ℕ)) (most : ℕ) : Type 0 where
  pub within : {ws : List ℕ} → left ≡ Some ws → 2 * length ws ≤ most

-- words are left, and stand from `pos` on
pub record Stays (before : List ℕ) (pos : ℕ) (left : Option (List ℕ)) (after : List ℕ) (r : ℕ) : Type 0 where
  pub words : List ℕ
  pub is : left ≡ Some words
  pub extends : Extends before pos words after r

-- two parts, one after the other: nothing is left where one of them goes
unfoldable pub joined : Option (List ℕ) → Option (List ℕ) → Option (List ℕ)
joined o u = bind o (λ ws. bind u (λ vs. Some (ws ++ vs)))

-- an answer is there, or it is not
pub none_some : {A : Type 0} {o : Option A} {x : A} → o ≡ None → o ≡ Some x → ⊥
unfolding is_some
none_some {A} e f = true≢false (sym (ap is_some f) ∙ ap is_some e)

-- What a writer answers.
module _ {a : List ℕ} {p : ℕ} {left : Option (List ℕ)} {m : ℕ} {b : List ℕ} {r : ℕ} where
  -- there is no room
  pub leaves_full : length b ≡ length a → length a < r → length a < p + m → Leaves a p left m b r
  leaves_full e h l = record { same = e; gone = λ f k. absurd (omega arith); stays = λ f k. absurd (omega arith); full = λ k. l }

  -- words
  pub leaves_words : {ws : List ℕ} → left ≡ Some ws → Extends a p ws b r → Leaves a p left m b r
  leaves_words e x = record {
    same = x.same;
    gone = λ f k. absurd (none_some f e);
    stays = λ f k. extends_said x (cc);
    full = λ k. absurd (omega (arith, x.room));
  }

  -- the same, said otherwise
  pub leaves_said : {other : Option (List ℕ)} {n : ℕ} → Leaves a p left m b r → left ≡ other → m ≤ n → Leaves a p other n b r
  leaves_said l e h = record { same = l.same; gone = λ f k. l.gone (e ∙ f) k; stays = λ f k. l.stays (e ∙ f) k; full = λ k. omega (arith, l.full k) }

  -- the answer 0 says that nothing is left
  pub leaves_gone : Leaves a p left m b r → 0 < p → r ≡ 0 → (left ≡ None) × Keeps a p b
  leaves_gone l h z = step left refl
    where
      step : (o : Option (List ℕ)) → left ≡ o → (left ≡ None) × Keeps a p b
      step None e = (e, (l.gone e (omega arith)).1)
      step (Some ws) e = absurd (omega (arith, (l.stays e (omega arith)).place))

  -- another one, that words are, if it lies inside
  pub leaves_stays : Leaves a p left m b r → (r ≡ 0 → ⊥) → r ≤ length a → Stays a p left b r
  leaves_stays l n h = step left refl
    where
      step : (o : Option (List ℕ)) → left ≡ o → Stays a p left b r
      step None e = absurd (n (l.gone e h).0)
      step (Some ws) e = record { words = ws; is = e; extends = l.stays e h }

-- nothing
pub leaves_none : {a : List ℕ} {p : ℕ} {left : Option (List ℕ)} {m : ℕ} {b : List ℕ} → left ≡ None → Keeps a p b → Leaves a p left m b 0
leaves_none e k = record { same = k.same; gone = λ f h. (refl, k); stays = λ f h. absurd (none_some e f); full = λ h. absurd (omega arith) }

-- there is room for as much as it may take
pub leaves_room : {a : List ℕ} {p : ℕ} {left : Option (List ℕ)} {m : ℕ} {b : List ℕ} {r : ℕ} → Leaves a p left m b r → p + m ≤ length a → r ≤ length a
leaves_room {a} {p} {left} {m} {b} {r} l h = step (ltb (length a) r) refl
  where
    step : (t : Bool) → ltb (length a) r ≡ t → r ≤ length a
    step true e = absurd (omega (arith, l.full (ltb-true (length a) r e)))
    step false e = ltb-false (length a) r e

-- the answer of a writer that did not come to an end
pub went_on : (q n : ℕ) → eqb q 0 || ltb n q ≡ false → (0 < q) × (q ≤ n)
went_on q n t = step (eqb q 0) refl t
  where
    step : (z : Bool) → eqb q 0 ≡ z → z || ltb n q ≡ false → (0 < q) × (q ≤ n)
    step true e t = absurd (true≢false t)
    step false e t =
        let z : q ≡ 0 → ⊥ = eqb-false q 0 e in
        (omega arith, ltb-false n q t)

-- One part after the other.
module _ {a : List ℕ} {p : ℕ} {b : List ℕ} {q : ℕ} where
  -- after words
  pub leaves_after : {ws : List ℕ} {k : Option (List ℕ)} {n : ℕ} {c : List ℕ} {r : ℕ} → Extends a p ws b q → Leaves b q k n c r
      → Leaves a p (joined (Some ws) k) (2 * length ws + n) c r
  unfolding joined bind
  leaves_after {ws} {k} {n} {c} {r} x l = record { same = l.same ∙ x.same; gone = λ e h. none_left k refl e h; stays = λ e h. some_left k refl e h; full = λ h. omega (arith, x.place, x.same, l.full (omega (arith, x.same))) }
    where
      none_left : (o : Option (List ℕ)) → k ≡ o → joined (Some ws) o ≡ None → r ≤ length a → (r ≡ 0) × Keeps a p c
      none_left None f e h =
          let g = l.gone f (omega (arith, x.same)) in
          (g.0, keeps_more (extends_keeps x) (keeps_less (omega (arith, x.place)) g.1))
      none_left (Some vs) f e h = absurd (none_some e refl)

      some_left : (o : Option (List ℕ)) → k ≡ o → {us : List ℕ} → joined (Some ws) o ≡ Some us → r ≤ length a → Extends a p us c r
      some_left None f e h = absurd (none_some refl e)
      some_left (Some vs) f e h = extends_said (extends_more x (l.stays f (omega (arith, x.same)))) (cc)

  module _ {l : Option (List ℕ)} {m : ℕ} where
    -- the first came to an end, and so does the whole
    pub leaves_ended : (k : Option (List ℕ)) (n : ℕ) → Leaves a p l m b q → 0 < p → eqb q 0 || ltb (length b) q ≡ true → Leaves a p (joined l k) (m + n) b q
    unfolding joined bind
    leaves_ended k n f h t = step (eqb q 0) refl t
      where
        step : (z : Bool) → eqb q 0 ≡ z → z || ltb (length b) q ≡ true → Leaves a p (joined l k) (m + n) b q
        step true e t =
            let z : q ≡ 0 = eqb-true q 0 e in
            let g = leaves_gone f h z in
            rw z (leaves_none (ap (λ (o : Option (List ℕ)). joined o k) g.0) g.1)
        step false e t =
            let o = ltb-true (length b) q t in
            leaves_full f.same (omega (arith, f.same)) (omega (arith, f.full (omega (arith, f.same))))

    -- it did not, and the second follows
    pub leaves_next : {k : Option (List ℕ)} {n : ℕ} {c : List ℕ} {r : ℕ} → Leaves a p l m b q → Fits l m → eqb q 0 || ltb (length b) q ≡ false → Leaves b q k n c r
        → Leaves a p (joined l k) (m + n) c r
    leaves_next {k} {n} {c} {r} f w t g = step (eqb q 0) refl t
      where
        step : (z : Bool) → eqb q 0 ≡ z → z || ltb (length b) q ≡ false → Leaves a p (joined l k) (m + n) c r
        step true e t = absurd (true≢false t)
        step false e t =
            let s = leaves_stays f (eqb-false q 0 e) (omega (arith, f.same, ltb-false (length b) q t)) in
            leaves_said (leaves_after s.extends g) (ap (λ (o : Option (List ℕ)). joined o k) (sym s.is)) (omega (arith, w.within s.is))

-- what parts take together
pub fits_joined : {l k : Option (List ℕ)} {m n : ℕ} → Fits l m → Fits k n → Fits (joined l k) (m + n)
unfolding joined bind
fits_joined {l} {k} {m} {n} f g = record { within = λ e. step l refl k refl e }
  where
    step : (o : Option (List ℕ)) → l ≡ o → (u : Option (List ℕ)) → k ≡ u → {ws : List ℕ} → joined o u ≡ Some ws → 2 * length ws ≤ m + n
    step None x u y e = absurd (none_some refl e)
    step (Some vs) x None y e = absurd (none_some refl e)
    step (Some vs) x (Some us) y {ws} e =
        let s : vs ++ us ≡ ws = cc in
        omega (arith, ap length s, length-append vs us, f.within x, g.within y)

pub fits_words : {ws : List ℕ} {m : ℕ} → 2 * length ws ≤ m → Fits (Some ws) m
fits_words {ws} {m} h = record { within = λ e. more e }
  where
    more : {vs : List ℕ} → Some ws ≡ Some vs → 2 * length vs ≤ m
    more {vs} e =
        let s : ws ≡ vs = cc in
        omega (arith, ap length s)

-- as many numbers as there were
pub map_length : (f : ℕ → Option ℕ) (ws : List ℕ) {vs : List ℕ} → map_all f ws ≡ Some vs → length vs ≡ length ws
unfolding map_all bind
map_length f [] {vs} e =
    let s : [] ≡ vs = cc in
    sym (ap length s)
map_length f (w ∷ ws) {vs} e = step (f w) (map_all f ws) (λ bs g. map_length f ws g) e
  where
    step : (o : Option ℕ) (u : Option (List ℕ)) → ((bs : List ℕ) → u ≡ Some bs → length bs ≡ length ws) → bind o (λ b. bind u (λ bs. Some (b ∷ bs))) ≡ Some vs → length vs ≡ length (w ∷ ws)
    step None u g e = absurd (none_some refl e)
    step (Some b) None g e = absurd (none_some refl e)
    step (Some b) (Some bs) g e =
        let s : b ∷ bs ≡ vs = cc in
        omega (arith, ap length s, g bs refl)
