use Rattle.flows.proofs.Results.{some_flow_exactly_if_consistent}
use Rattle.flows.proofs.theorems.some_flow_exactly_if_consistent.Goals as goal

pub returns : goal.returns
returns g c = some_flow_exactly_if_consistent g.Q.Quantity.model.group
