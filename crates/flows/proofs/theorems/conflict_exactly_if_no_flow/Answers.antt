use Rattle.flows.proofs.Results.{conflict_exactly_if_no_flow}
use Rattle.flows.proofs.theorems.conflict_exactly_if_no_flow.Goals as goal

pub returns : goal.returns
returns g c = conflict_exactly_if_no_flow g.Q.Quantity.model.group
