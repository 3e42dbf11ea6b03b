use mathlib.Core.Path.{refl}
use Rattle.replaying.specs.Replay.{agreeing, first_out, counted, refusing}
use Rattle.replay.proofs.refusing.Goals as goal

pub returns : goal.returns
unfolding refusing counted agreeing first_out
returns c = refl
