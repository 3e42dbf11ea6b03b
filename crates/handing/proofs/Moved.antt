-- What the loops that copy and lessen keep, and what they and a move come to.
use Prim.Native.Nat.{ℕ, zero, suc, ◌+◌, ◌-◌, ◌*◌, ◌/◌, ◌%◌, ◌≤◌, ◌<◌}
use mathlib.Core.Path.{◌≡◌, refl, sym, ap, ap₂, ◌∙◌}
use mathlib.Core.Logic.{◌≢◌}
use mathlib.Core.Bool.{Bool}
use mathlib.Core.List.{List, [], ◌∷◌, ◌++◌}
use native.Mathlib.Omega.{arith}
use lib.ListN.{length, get_or, set, take, drop, length-append, length-set, length-map}
use lib.Seq.{sets, length-sets, paste, get_or-set_other}
use Rattle.std.proofs.lemmas.List.Edits.{sets-eq}
use Rattle.meaning.specs.Words.{word, words, bytes2, flat}
use Rattle.laws.specs.Stands.{All, flat_length, flat_append}
use Rattle.laws.specs.Left.{words_left_lem, words_all, words_none}
use Rattle.laws.specs.Written.{Wrote, wrote_more, sets_sets, sets_one}
use Rattle.room.specs.Laid.{laid_for, laid_as, outcome_of, refused_room, kept_room}
use Rattle.room.specs.declared.NotLaid.{NotLaid}
use Rattle.std.specs.Prelude.{Ok, Err}
use Rattle.area.specs.Extends.{Extends, wrote_extends}
use Rattle.area.specs.Part.{part, part_length, part_all, part_left, part_none, part_append, part_take, take_part}
use Rattle.handing.specs.Closed.{lessened, less_by, Closed}

-- a run of stores leaves what stands behind it
pub get_d_sets_behind : (xs l : List ℕ) (at j : ℕ) → at + length xs ≤ j → get_or (sets l at xs) j 0 ≡ get_or l j 0
get_d_sets_behind [] l at j h = refl
get_d_sets_behind (x ∷ xs) l at j h =
    let n : j ≢ at = omega arith in
    get_d_sets_behind xs (set l at x) (suc at) j (omega arith) ∙ get_or-set_other l at j x 0 n

pub part_behind : (xs l : List ℕ) (at j n : ℕ) → at + length xs ≤ j → part (sets l at xs) j n ≡ part l j n
unfolding part
part_behind xs l at j zero h = refl
part_behind xs l at j (suc n) h = rw (get_d_sets_behind xs l at j h) (ap (λ (r : List ℕ). get_or l j 0 ∷ r) (part_behind xs l at (j + 1) n (omega arith)))

-- What the loop of `copy` keeps: the bytes that are left, stored from the i-th on, end the run.
pub record Copying (s : List ℕ) (from n : ℕ) (out₀ : List ℕ) (to : ℕ) (out : List ℕ) (i : ℕ) : Type 0 where
  pub within : i ≤ n
  pub same : length out ≡ length out₀
  pub left : sets out (to + i) (part s (from + i) (n - i)) ≡ sets out₀ to (part s from n)

module _ {s : List ℕ} {from n : ℕ} {out₀ : List ℕ} {to : ℕ} where
  pub copying_all : Copying s from n out₀ to out₀ 0
  copying_all =
      let e : to + 0 ≡ to = omega arith in
      record { within = omega arith; same = refl; left = rw (part_all s from n, e) }

  pub copying_turn : {out next : List ℕ} {i x : ℕ} → Copying s from n out₀ to out i → i < n → x ≡ get_or s (from + i) 0
      → next ≡ set out (to + i) x → Copying s from n out₀ to next (i + 1)
  copying_turn {out} {next} {i} {x} k h e f =
      let g : to + (i + 1) ≡ suc (to + i) = omega arith in
      record {
        within = omega arith;
        same = ap length f ∙ length-set out (to + i) x ∙ k.same;
        left = rw (g, f, e) (ap (sets out (to + i)) (sym (part_left s from n i h)) ∙ k.left);
      }

  pub copying_end : {out : List ℕ} {i : ℕ} → Copying s from n out₀ to out i → n ≤ i → out ≡ sets out₀ to (part s from n)
  copying_end {out} {i} k h = sym (ap (sets out (to + i)) (part_none s from n i h)) ∙ k.left

-- bytes that are moved are a run of stores
pub moved : (area : List ℕ) (from to n : ℕ) → from + n ≤ length area → to + n ≤ length area → paste area to (drop from area) (from + n - from) ≡ sets area to (part area from n)
moved area from to n f t =
    let a : from + n - from ≡ n = omega arith in
    let l = part_length area from n in
    rw a (ap (λ (xs : List ℕ). take to area ++ xs ++ drop (to + n) area) (sym (part_take area from n f)) ∙ sym (rw l at (sets-eq (part area from n) area to (omega (arith, l)))))

-- What the loop of `lessen` keeps: the words that are left, lessened, end the run; and they stand where they stood.
pub record Lessening (d at n : ℕ) (out₀ out : List ℕ) (i : ℕ) : Type 0 where
  pub within : i ≤ n
  pub same : length out ≡ length out₀
  pub behind : (j : ℕ) → at + 2 * i ≤ j → get_or out j 0 ≡ get_or out₀ j 0
  pub left : sets out (at + 2 * i) (flat (lessened d (words out₀ (at + 2 * i) (n - i)))) ≡ sets out₀ at (flat (lessened d (words out₀ at n)))

module _ {d at n : ℕ} {out₀ : List ℕ} where
  pub lessening_all : Lessening d at n out₀ out₀ 0
  lessening_all =
      let e : at + 2 * 0 ≡ at = omega arith in
      record { within = omega arith; same = refl; behind = λ j h. refl; left = rw (words_all out₀ at n, e) }

  -- the word that is read is the one that stood there
  lessening_word : {out : List ℕ} {i : ℕ} → Lessening d at n out₀ out i → word out (at + 2 * i) ≡ word out₀ (at + 2 * i)
  unfolding word
  lessening_word {out} {i} k = rw (k.behind (at + 2 * i) (omega arith), k.behind (at + 2 * i + 1) (omega arith))

  pub lessening_turn : {out next : List ℕ} {i p x : ℕ} → Lessening d at n out₀ out i → i < n → p ≡ at + 2 * i → x ≡ word out p
      → next ≡ sets out p (bytes2 (x + 262144 - d)) → Lessening d at n out₀ next (i + 1)
  unfolding lessened bytes2
  lessening_turn {out} {next} {i} {p} {x} k h ep e f =
      let g : at + 2 * (i + 1) ≡ at + 2 * i + 2 = omega arith in
      let x₀ : x ≡ word out₀ (at + 2 * i) = e ∙ ap (word out) ep ∙ lessening_word k in
      record {
        within = omega arith;
        same = ap length f ∙ length-sets out p (bytes2 (x + 262144 - d)) ∙ k.same;
        behind = λ j m. ap (λ (b : List ℕ). get_or b j 0) f ∙ get_d_sets_behind (bytes2 (x + 262144 - d)) out p j (omega arith) ∙ k.behind j (omega arith);
        left = rw (f, ep, g) (sets_one out (at + 2 * i) (x + 262144 - d) (lessened d (words out₀ (at + 2 * i + 2) (n - (i + 1)))) ∙ rw (x₀, ← g) (rw (words_left_lem out₀ at n i h) at k.left));
      }

  pub lessening_end : {out : List ℕ} {i : ℕ} → Lessening d at n out₀ out i → n ≤ i → out ≡ sets out₀ at (flat (lessened d (words out₀ at n)))
  unfolding lessened flat
  lessening_end {out} {i} k h = rw (words_none out₀ (at + 2 * i) n i h) at k.left

-- The offsets that are read are those that were written, modulo 65,536.

-- a word's bytes are those modulo 65,536
bytes_around : (x j : ℕ) → bytes2 (x + 65536 * j) ≡ bytes2 x
unfolding bytes2
bytes_around x j =
    let high : (x + 65536 * j) / 256 % 256 ≡ x / 256 % 256 = omega arith in
    let low : (x + 65536 * j) % 256 ≡ x % 256 = omega arith in
    rw (high, low)

-- a word that is read modulo 65,536 and lessened has the bytes of the number that is lessened
less_bytes : (d o : ℕ) → d ≤ 262144 → d ≤ o → bytes2 (o / 256 % 256 * 256 + o % 256 + 262144 - d) ≡ bytes2 (o - d)
less_bytes d o h l =
    let q = o / 256 / 256 in
    let whole : o / 256 % 256 * 256 + o % 256 + 65536 * q ≡ o = omega arith in
    let x = o / 256 % 256 * 256 + o % 256 + 262144 - d in
    let e : x + 65536 * q ≡ o - d + 65536 * 4 = omega (arith, whole) in
    sym (bytes_around x q) ∙ ap bytes2 e ∙ bytes_around (o - d) 4

pub less_flat : (d : ℕ) (os s : List ℕ) (at : ℕ) → d ≤ 262144 → part s at (2 * length os) ≡ flat os → All (λ o. d ≤ o) os
    → flat (lessened d (words s at (length os))) ≡ flat (less_by d os)
unfolding flat lessened words word part bytes2
less_flat d [] s at h e l = refl
less_flat d (o ∷ os) s at h e l =
    let two : 2 * suc (length os) ≡ suc (suc (2 * length os)) = omega arith in
    let all = rw two at e in
    let a : get_or s at 0 ≡ o / 256 % 256 = ap (λ (x : List ℕ). get_or x 0 0) all in
    let b : get_or s (at + 1) 0 ≡ o % 256 = ap (λ (x : List ℕ). get_or x 1 0) all in
    let next : at + 1 + 1 ≡ at + 2 = omega arith in
    let rest = rw next at (ap (drop 2) all) in
    rw (a, b) (ap₂ (λ (x y : List ℕ). x ++ y) (less_bytes d o h l.0) (less_flat d os s (at + 2) h rest l.1))

-- numbers less by nothing
less_none : (os : List ℕ) → less_by 0 os ≡ os
less_none [] = refl
less_none (o ∷ os) =
    let e : o - 0 ≡ o = omega arith in
    rw e (ap (λ (l : List ℕ). o ∷ l) (less_none os))

-- as many words as their bytes say
flat_count : (s os : List ℕ) (at n : ℕ) → part s at n ≡ flat os → 2 * length os ≡ n
flat_count s os at n e = sym (flat_length os) ∙ ap length (sym e) ∙ part_length s at n

-- The gap is closed.
module _ {before : List ℕ} {at k first end : ℕ} where
  -- there was no gap
  pub closed_none : at + 2 * k ≡ first → first ≤ end → end ≤ length before → Closed before at k first end before end
  closed_none e f g = record { same = refl; closed = λ os ms a b l. whole os ms a b }
    where
      whole : (os ms : List ℕ) → part before at (2 * k) ≡ flat os → part before first (end - first) ≡ flat ms → Extends before at (less_by (first - (at + 2 * k)) os ++ ms) before end
      whole os ms a b =
          let zero-gap : first - (at + 2 * k) ≡ 0 = omega (arith, e) in
          let stretch : end ≡ at + (2 * k + (end - first)) = omega (arith, e, f) in
          let both = part_append before at (2 * k) (end - first) ∙ ap₂ (λ (x y : List ℕ). x ++ y) a (ap (λ (i : ℕ). part before i (end - first)) e ∙ b) ∙ sym (flat_append os ms) in
          rw (zero-gap, less_none os) (record {
            place = omega (arith, flat_count before os at (2 * k) a, flat_count before ms first (end - first) b, length-append os ms, e, f);
            room = g;
            same = refl;
            front = ap (λ (i : ℕ). take i before) stretch ∙ take_part before at (2 * k + (end - first)) (omega (arith, e, f, g)) ∙ ap (λ (l : List ℕ). take at before ++ l) both;
          })

  -- the offsets were lessened and the members moved down
  pub closed_gap : {mid after : List ℕ} → at + 2 * k ≤ first → first ≤ end → end ≤ length before → first - (at + 2 * k) ≤ 262144
      → mid ≡ sets before at (flat (lessened (first - (at + 2 * k)) (words before at k))) → after ≡ sets mid (at + 2 * k) (part mid first (end - first))
      → Closed before at k first end after (end - (first - (at + 2 * k)))
  closed_gap {mid} {after} f g h m low down = record {
    same = ap length down ∙ length-sets mid (at + 2 * k) (part mid first (end - first)) ∙ ap length low ∙ length-sets before at (flat (lessened (first - (at + 2 * k)) (words before at k)));
    closed = whole;
  }
    where
      whole : (os ms : List ℕ) → part before at (2 * k) ≡ flat os → part before first (end - first) ≡ flat ms
          → All (λ o. first - (at + 2 * k) ≤ o) os → Extends before at (less_by (first - (at + 2 * k)) os ++ ms) after (end - (first - (at + 2 * k)))
      whole os ms a b l =
          let d = first - (at + 2 * k) in
          let many : length os ≡ k = omega (arith, flat_count before os at (2 * k) a) in
          let same : length (less_by d os) ≡ k = length-map os (λ o. o - d) ∙ many in
          let bytes : flat (lessened d (words before at k)) ≡ flat (less_by d os) = ap (λ (n : ℕ). flat (lessened d (words before at n))) (sym many) ∙ less_flat d os before at m (ap (λ (n : ℕ). part before at (2 * n)) many ∙ a) l in
          let low₁ : mid ≡ sets before at (flat (less_by d os)) = low ∙ ap (sets before at) bytes in
          let offs : Wrote before at (less_by d os) mid (at + 2 * k) = record { place = omega (arith, same); bytes = low₁ } in
          let moved : part mid first (end - first) ≡ flat ms = ap (λ (x : List ℕ). part x first (end - first)) low₁ ∙ part_behind (flat (less_by d os)) before at first (end - first) (omega (arith, flat_length (less_by d os), same, f)) ∙ b in
          wrote_extends (wrote_more ms offs (omega (arith, flat_count before ms first (end - first) b, f, g)) (down ∙ ap (sets mid (at + 2 * k)) moved)) (omega (arith, h))

-- What is handed over: the head and the rest are the layout.
module _ (area : List ℕ) (head first n : ℕ) (fits : Bool) (out : List ℕ) where
  -- as bytes
  abbrev pub handed : List ℕ
  handed = part area 0 head ++ part area first n

  handed_length : length handed ≡ head + n
  handed_length = omega (arith, length-append (part area 0 head) (part area first n), part_length area 0 head, part_length area first n)

  pub hand_refused : {x : NotLaid} → Err x ≡ laid_for (head + n) fits (length out) → outcome_of (Err x) out ≡ laid_as fits out handed
  hand_refused {x} e = refused_room fits out handed (rw handed_length e)

  pub hand_kept : {m : ℕ} {mid after : List ℕ} → Ok m ≡ laid_for (head + n) fits (length out) → mid ≡ sets out 0 (part area 0 head) → after ≡ sets mid head (part area first n) → outcome_of (Ok m) after ≡ laid_as fits out handed
  hand_kept {m} {mid} {after} e a b =
      let long : 0 + length (part area 0 head) ≡ head = omega (arith, part_length area 0 head) in
      kept_room fits out handed (rw handed_length e) (b ∙ ap₂ (λ (l : List ℕ) (i : ℕ). sets l i (part area first n)) a (sym long) ∙ sets_sets out 0 (part area 0 head) (part area first n))
