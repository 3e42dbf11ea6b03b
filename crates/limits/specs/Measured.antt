-- What 9 and 10 measure, by the number of words and by whether each fits.
use Rattle.std.specs.Prelude.{ℕ, ◌*◌, ◌≡◌, true, false, List, length, take, drop, replicate, leb, ltb}
use Rattle.std.proofs.Common.{arith, sym, ap, ◌∙◌, take-append-drop, leb-true, le-ltb}
use Rattle.std.proofs.Math.Bool.{or-true}
use Rattle.std.proofs.lemmas.List.{length-replicate}
use Rattle.meaning.specs.Words.{flat}
use Rattle.meaning.specs.Layout.{words_fit}
use Rattle.meaning.specs.Subset.{limit, too_big, laid_into}
use Rattle.laws.specs.Stands.{flat_length}
use Rattle.laws.specs.Fits.{fit_append}

-- words whose front does not fit do not fit
pub unfit_front : (n : ℕ) (ws front : List ℕ) → take n ws ≡ front → words_fit front ≡ false → words_fit ws ≡ false
unfit_front n ws front e h = ap words_fit (sym (take-append-drop n ws)) ∙ fit_append (take n ws) (drop n ws) ∙ rw (e, h)

-- words of which one does not fit are 9, however many they are
pub unfit_is_9 : (out ws : List ℕ) → words_fit ws ≡ false → (laid_into out ws).number ≡ 9
unfolding too_big laid_into
unfit_is_9 out ws h = rw (h, or-true (ltb limit (length (flat ws))))

-- n words that each fit are not too big where 2n bytes are within the limit
pub not_big : (ws : List ℕ) (n : ℕ) → length ws ≡ n → leb (2 * n) limit ≡ true → words_fit ws ≡ true → too_big ws ≡ false
unfolding too_big
not_big ws n l h f =
    let e : length (flat ws) ≡ 2 * n = omega (arith, flat_length ws) in
    let g : ltb limit (2 * n) ≡ false = le-ltb limit (2 * n) (leb-true (2 * n) limit h) in
    rw (e, g, f)

-- n words that are not too big, in a buffer of `room` sevens: 10 and the length that is needed, where the buffer is shorter than 2n
pub laid_short : (ws : List ℕ) (n room : ℕ) → length ws ≡ n → too_big ws ≡ false → ltb room (2 * n) ≡ true
    → ((laid_into (replicate room 7) ws).number ≡ 10) × ((laid_into (replicate room 7) ws).len ≡ 2 * n)
unfolding laid_into
laid_short ws n room l h g =
    let e : length (flat ws) ≡ 2 * n = omega (arith, flat_length ws) in
    let k = length-replicate {A = ℕ} room 7 in
    (rw (h, e, k, g), rw (h, e, k, g))

-- and 0 where it is not
pub laid_whole : (ws : List ℕ) (n room : ℕ) → length ws ≡ n → too_big ws ≡ false → ltb room (2 * n) ≡ false → (laid_into (replicate room 7) ws).number ≡ 0
unfolding laid_into
laid_whole ws n room l h g =
    let e : length (flat ws) ≡ 2 * n = omega (arith, flat_length ws) in
    rw (h, e, length-replicate {A = ℕ} room 7, g)
