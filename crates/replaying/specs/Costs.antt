-- Costs of lists with their whole answers: one table, one statement over all its rows, by computation.
use Rattle.std.specs.Prelude.{ℕ, ◌≡◌, refl, List, [], ◌∷◌, map}
use Rattle.meaning.specs.Words.{bytes2, flat}
use Rattle.replaying.specs.Cost.{Cost, replay_cost}

-- a list and a buffer, as words, and what their cost is: number, place, steps
pub record Row : Type 0 where
  pub list : List ℕ
  pub buffer : List ℕ
  pub number : ℕ
  pub place : ℕ
  pub steps : ℕ

abbrev pub call : Row → Cost
call r = replay_cost (flat r.list) (flat r.buffer)

abbrev pub stated : Row → Cost
stated r = record { number = r.number; place = r.place; steps = r.steps }

unfoldable pub rows : List Row
rows =
    -- an empty list asks nothing
    record { list = []; buffer = []; number = 0; place = 0; steps = 0 }
    -- a substitution is asked once; two are asked one after the other
    ∷ record { list = (5 ∷ 0 ∷ 0 ∷ 0 ∷ 12 ∷ []); buffer = (1 ∷ 6 ∷ 1 ∷ 1 ∷ 1 ∷ 5 ∷ []); number = 0; place = 0; steps = 1 }
    ∷ record { list = (5 ∷ 0 ∷ 0 ∷ 0 ∷ 12 ∷ 5 ∷ 0 ∷ 0 ∷ 0 ∷ 12 ∷ []); buffer = (1 ∷ 6 ∷ 1 ∷ 1 ∷ 1 ∷ 5 ∷ []); number = 0; place = 0; steps = 2 }
    -- a context without records is asked once; one with two records runs both, and the listed substitution is asked besides: 3 + 1
    ∷ record { list = (1 ∷ 0 ∷ 0 ∷ 0 ∷ 14 ∷ []); buffer = (3 ∷ 1 ∷ 0 ∷ 8 ∷ 1 ∷ 1 ∷ 5 ∷ []); number = 0; place = 0; steps = 1 }
    ∷ record { list = (1 ∷ 0 ∷ 0 ∷ 0 ∷ 22 ∷ 5 ∷ 0 ∷ 22 ∷ 0 ∷ 16 ∷ []); buffer = (3 ∷ 1 ∷ 2 ∷ 16 ∷ 0 ∷ 1 ∷ 0 ∷ 1 ∷ 1 ∷ 1 ∷ 5 ∷ 1 ∷ 6 ∷ 1 ∷ 1 ∷ 3 ∷ 5 ∷ 6 ∷ 7 ∷ []); number = 0; place = 0; steps = 4 }
    -- of two rules of one set, without records and with one, the dearer counts, and their order does not matter
    ∷ record { list = (1 ∷ 0 ∷ 0 ∷ 0 ∷ 26 ∷ []); buffer = (1 ∷ 0 ∷ 1 ∷ 8 ∷ 2 ∷ 6 ∷ 10 ∷ 1 ∷ 0 ∷ 1 ∷ 1 ∷ 0 ∷ 0 ∷ []); number = 0; place = 0; steps = 8 }
    ∷ record { list = (1 ∷ 0 ∷ 0 ∷ 0 ∷ 26 ∷ []); buffer = (1 ∷ 0 ∷ 1 ∷ 8 ∷ 2 ∷ 10 ∷ 6 ∷ 1 ∷ 0 ∷ 1 ∷ 1 ∷ 0 ∷ 0 ∷ []); number = 0; place = 0; steps = 8 }
    -- and so of two sets, here of classes
    ∷ record { list = (1 ∷ 0 ∷ 0 ∷ 0 ∷ 32 ∷ []); buffer = (2 ∷ 0 ∷ 0 ∷ 2 ∷ 12 ∷ 20 ∷ 1 ∷ 4 ∷ 1 ∷ 0 ∷ 1 ∷ 4 ∷ 1 ∷ 1 ∷ 0 ∷ 0 ∷ []); number = 0; place = 0; steps = 8 }
    -- a lookup that names itself runs to depth 8: 8; one that does so twice: 2⁸ − 1
    ∷ record { list = (1 ∷ 0 ∷ 0 ∷ 0 ∷ 18 ∷ []); buffer = (3 ∷ 1 ∷ 1 ∷ 12 ∷ 0 ∷ 0 ∷ 1 ∷ 1 ∷ 5 ∷ []); number = 0; place = 0; steps = 8 }
    ∷ record { list = (1 ∷ 0 ∷ 0 ∷ 0 ∷ 22 ∷ []); buffer = (3 ∷ 1 ∷ 2 ∷ 16 ∷ 0 ∷ 0 ∷ 0 ∷ 0 ∷ 1 ∷ 1 ∷ 5 ∷ []); number = 0; place = 0; steps = 255 }
    -- a chained one too
    ∷ record { list = (2 ∷ 0 ∷ 0 ∷ 0 ∷ 22 ∷ []); buffer = (3 ∷ 0 ∷ 1 ∷ 16 ∷ 0 ∷ 1 ∷ 0 ∷ 0 ∷ 1 ∷ 1 ∷ 5 ∷ []); number = 0; place = 0; steps = 8 }
    -- refusals: 15, 5, 6 with its place, 12, 17
    ∷ record { list = (3 ∷ 0 ∷ 0 ∷ 0 ∷ 6 ∷ []); buffer = (3 ∷ 0 ∷ 0 ∷ []); number = 15; place = 0; steps = 0 }
    ∷ record { list = (1 ∷ 0 ∷ 0 ∷ 0 ∷ 6 ∷ []); buffer = (4 ∷ 0 ∷ 0 ∷ []); number = 5; place = 0; steps = 0 }
    ∷ record { list = (5 ∷ 0 ∷ 0 ∷ 0 ∷ 6 ∷ []); buffer = (1 ∷ 8 ∷ 0 ∷ []); number = 6; place = 8; steps = 0 }
    ∷ record { list = (1 ∷ 0 ∷ 0 ∷ 0 ∷ 10 ∷ []); buffer = (3 ∷ 0 ∷ 1 ∷ 0 ∷ 0 ∷ []); number = 12; place = 0; steps = 0 }
    ∷ record { list = (1 ∷ 0 ∷ 0 ∷ 0 ∷ 18 ∷ []); buffer = (3 ∷ 1 ∷ 1 ∷ 12 ∷ 0 ∷ 1 ∷ 1 ∷ 1 ∷ 4 ∷ []); number = 17; place = 0; steps = 0 }
    ∷ []

-- each list costs what its row states
pub each_cost : map call rows ≡ map stated rows
unfolding bytes2 flat replay_cost rows
each_cost = refl
