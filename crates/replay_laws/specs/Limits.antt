-- A lookup over the limit, by computation.
use Rattle.std.specs.Prelude.{◌≡◌, refl, [], ◌∷◌, replicate}
use Rattle.meaning.specs.Words.{bytes2, flat}
use Rattle.replaying.specs.Replay.{replay}

-- a lookup of 262,145 bytes is refused as 4
pub too_long : (replay (flat (1 ∷ 0 ∷ 0 ∷ 4 ∷ 1 ∷ [])) (replicate 262145 0) []).number ≡ 4
unfolding bytes2 flat replay
too_long = refl
