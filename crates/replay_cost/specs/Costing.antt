-- The cost of the code, as the definition has it.
use Rattle.replaying.specs.Cost.{Cost as CostOf}
use Rattle.replay_cost.specs.declared.Cost.{Cost}

-- what is given back, by the definition
abbrev pub cost_of : Cost → CostOf
cost_of c = record { number = c.number; place = c.place; steps = c.steps }
