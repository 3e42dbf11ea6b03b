-- What was laid, as 01's number, length and buffer.
use Rattle.std.specs.Prelude.{ℕ, ◌≤◌, ◌<◌, ◌≡◌, Bool, ◌||◌, Result, Ok, Err}
use Rattle.std.proofs.Math.Path.{refl, ap}
use Rattle.std.proofs.Common.{◌∙◌, ltb-false, lt-ltb}
use Rattle.std.proofs.Math.Bool.{true, false, cond, not}
use mathlib.Core.List.{List, ◌++◌}
use Rattle.std.proofs.Math.ListN.{length, drop}
use Rattle.std.proofs.lemmas.List.Edits.{sets}
use Rattle.std.proofs.Math.Dec.{ltb}
use Rattle.meaning.specs.Words.{flat}
use Rattle.meaning.specs.Layout.{words_fit}
use Rattle.meaning.specs.Subset.{Outcome, refused, limit, too_big, laid_into}
use Rattle.laws.specs.Written.{sets_front}
use Rattle.room.specs.declared.NotLaid.{NotLaid}
use Rattle.room.specs.declared.NotLaid.TheVariants.{Nothing, TooBig, NoRoom}

-- the bytes of an area that are enough for any source: where they are too few an offset or a count of the layout doesn't fit a word, or it is over the limit
abbrev pub enough_area : ℕ
enough_area = 655360

-- what becomes of a layout of `size` bytes, whose words fit or not, in a buffer of `len` bytes
unfoldable pub laid_for : ℕ → Bool → ℕ → Result ℕ NotLaid
laid_for size fits len = cond (ltb limit size || not fits) (Err TooBig) (cond (ltb len size) (Err (NoRoom size)) (Ok size))

-- the bytes of a layout, whose words fit or not, laid into the buffer
unfoldable pub laid_as : Bool → List ℕ → List ℕ → Outcome
laid_as fits out bytes =
    cond (ltb limit (length bytes) || not fits) (refused out 9)
    (cond (ltb (length out) (length bytes)) (record { number = 10; len = length bytes; out = out })
    (record { number = 0; len = length bytes; out = bytes ++ drop (length bytes) out }))

-- words are laid as their bytes, where it is known whether they fit
pub laid_words_lem : (out ws : List ℕ) {fits : Bool} → words_fit ws ≡ fits → laid_as fits out (flat ws) ≡ laid_into out ws
unfolding laid_as laid_into too_big
laid_words_lem out ws e = rw e refl

-- bytes over the limit, or words that don't fit, are refused as 9
pub laid_over : (fits : Bool) (out bytes : List ℕ) → limit < length bytes → laid_as fits out bytes ≡ refused out 9
unfolding laid_as
laid_over fits out bytes h = rw (lt-ltb limit (length bytes) h) refl

pub laid_unfit : (out bytes : List ℕ) → laid_as false out bytes ≡ refused out 9
unfolding laid_as
laid_unfit out bytes = step (ltb limit (length bytes))
  where
    step : (a : Bool) → cond (a || true) (refused out 9) (cond (ltb (length out) (length bytes)) (record { number = 10; len = length bytes; out = out }) (record { number = 0; len = length bytes; out = bytes ++ drop (length bytes) out })) ≡ refused out 9
    step true = refl
    step false = refl

-- 01's number and length for each case, with the buffer as it is left
abbrev pub outcome_of : Result ℕ NotLaid → List ℕ → Outcome
outcome_of (Err Nothing) out = refused out 8
outcome_of (Err TooBig) out = refused out 9
outcome_of (Err (NoRoom n)) out = record { number = 10; len = n; out = out }
outcome_of (Ok n) out = record { number = 0; len = n; out = out }

-- where a layout is laid, the buffer is not shorter
pub room_enough : (size : ℕ) (fits : Bool) (len : ℕ) {n : ℕ} → Ok n ≡ laid_for size fits len → size ≤ len
unfolding laid_for
room_enough size fits len {n} e = step (ltb limit size || not fits) (ltb len size) refl e
  where
    step : (a b : Bool) → ltb len size ≡ b → Ok n ≡ cond a (Err TooBig) (cond b (Err (NoRoom size)) (Ok size)) → size ≤ len
    step true b t h = absurd (cc)
    step false true t h = absurd (cc)
    step false false t h = ltb-false len size t

module _ (fits : Bool) (out bytes : List ℕ) where
  -- the layout is too big, or there is no room: nothing is written
  pub refused_room : {e : NotLaid} → Err e ≡ laid_for (length bytes) fits (length out) → outcome_of (Err e) out ≡ laid_as fits out bytes
  unfolding laid_for laid_as
  refused_room {e} = step (ltb limit (length bytes) || not fits) (ltb (length out) (length bytes))
    where
      step : (a b : Bool) → Err e ≡ cond a (Err TooBig) (cond b (Err (NoRoom (length bytes))) (Ok (length bytes)))
          → outcome_of (Err e) out ≡ cond a (refused out 9) (cond b (record { number = 10; len = length bytes; out = out }) (record { number = 0; len = length bytes; out = bytes ++ drop (length bytes) out }))
      step true b h = ap (λ (r : Result ℕ NotLaid). outcome_of r out) h
      step false true h = ap (λ (r : Result ℕ NotLaid). outcome_of r out) h
      step false false h = absurd (cc)

  -- there is room, and the layout is written from the front
  pub kept_room : {n : ℕ} {after : List ℕ} → Ok n ≡ laid_for (length bytes) fits (length out) → after ≡ sets out 0 bytes → outcome_of (Ok n) after ≡ laid_as fits out bytes
  unfolding laid_for laid_as
  kept_room {n} {after} e f = rw f (step (ltb limit (length bytes) || not fits) (ltb (length out) (length bytes)) refl e)
    where
      step : (a b : Bool) → ltb (length out) (length bytes) ≡ b → Ok n ≡ cond a (Err TooBig) (cond b (Err (NoRoom (length bytes))) (Ok (length bytes)))
          → outcome_of (Ok n) (sets out 0 bytes) ≡ cond a (refused out 9) (cond b (record { number = 10; len = length bytes; out = out }) (record { number = 0; len = length bytes; out = bytes ++ drop (length bytes) out }))
      step true b t h = absurd (cc)
      step false true t h = absurd (cc)
      step false false t h = ap (λ (r : Result ℕ NotLaid). outcome_of r (sets out 0 bytes)) h ∙ ap (λ (l : List ℕ). record { number = 0; len = length bytes; out = l }) (sets_front out bytes (ltb-false (length out) (length bytes) t))
