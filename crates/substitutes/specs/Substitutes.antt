-- What a single substitution asks of its source.
use Rattle.std.specs.Prelude.{ℕ, ◌≡◌, true, List, ◌≢◌}
use Rattle.meaning.specs.Words.{word}
use Rattle.meaning.specs.Parts.{coverage_sound}

-- the coverage whose offset stands at 2 is sound, where it is not null
abbrev pub SoundCover : List ℕ → Type 0
SoundCover s = (word s 2 ≢ 0) → coverage_sound s (word s 2) ≡ true
