-- A part of the area that is written at once.
use Rattle.std.specs.Prelude.{ℕ, ◌+◌, ◌≤◌, ◌≡◌, refl, List, length}
use Rattle.std.proofs.Common.{sym, ◌∙◌, take, drop, append_assoc, arith}
use Rattle.std.proofs.lemmas.List.Edits.{sets, sets-eq, paste_all}
use Rattle.std.proofs.lemmas.Slice.{put_mid-paste}
use borrow.Rule.Slice.PartMut.{put_mid}

-- what it leaves is what a run of stores leaves
pub at_once : (at n : ℕ) (area ys : List ℕ) → length ys ≡ n → at + n ≤ length area → put_mid at n area ys ≡ sets area at ys
at_once at n area ys l h =
    put_mid-paste at n area ys ys n refl refl (sym l) ∙ paste_all area at ys n (sym l) ∙ sym (append_assoc (take at area) ys (drop (at + n) area))
    ∙ sym (rw l at (sets-eq ys area at (omega (arith, l))))
