-- The tally of the code.
use Rattle.replaying.specs.Replay.{Tally as TallyOf, Replayed as ReplayedOf}
use Rattle.tallies.specs.declared.Tally.{Tally}
use Rattle.tallies.specs.declared.Replayed.{Replayed}

-- the tally of the definition
abbrev pub tally_of : Tally → TallyOf
tally_of t = record { runs = t.runs; agreements = t.agreements; first = t.first }

-- what is given back, by the definition
abbrev pub replayed_of : Replayed → ReplayedOf
replayed_of r = record { number = r.number; place = r.place; tally = tally_of r.tally }
