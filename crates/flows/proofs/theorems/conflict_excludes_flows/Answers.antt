use Rattle.flows.proofs.Results.{conflict_excludes_flows}
use Rattle.flows.proofs.theorems.conflict_excludes_flows.Goals as goal

pub returns : goal.returns
returns g c = conflict_excludes_flows g.Q.Quantity.model.group
