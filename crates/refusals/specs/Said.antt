-- What is printed of a refusal.
use Rattle.std.specs.Prelude.{ℕ, List, ◌++◌, decimal, codes}
use Rattle.refusals.specs.declared.Refusal.{Refusal}
use Rattle.refusals.specs.declared.Refusal.TheVariants.{BadKind, BadForm, BadLayout, BadGlyphs, BadLookups, LongSource, BadFormat, Malformed, Device, PastRule, Nothing, TooBig, NoRoom, BadJob}

-- a refusal in the documents' words
abbrev pub said : Refusal → List ℕ
said BadKind = codes "the kind is none of 1 to 5"
said BadForm = codes "glyph maps have no such form"
said BadLayout = codes "there is no such layout"
said BadGlyphs = codes "the glyph map is not good"
said BadLookups = codes "the lookup map is not good"
said LongSource = codes "the source is over 262,144 bytes"
said BadFormat = codes "the kind has no such format"
said (Malformed place) = codes "the source is malformed, in the part at " ++ decimal place
said Device = codes "a value format asks for a device table"
said PastRule = codes "a record points past its rule"
said Nothing = codes "nothing survives"
said TooBig = codes "the result is over 262,144 bytes, or an offset or a count in it over 65,535"
said (NoRoom needed) = codes "the buffer is too short: it takes " ++ decimal needed
said BadJob = codes "the job file is faulty"
