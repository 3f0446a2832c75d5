use Rattle.flows.proofs.Results.{flow_or_conflict}
use Rattle.flows.proofs.theorems.flow_or_conflict.Goals as goal

pub returns : goal.returns
returns g c = flow_or_conflict g.Q.Quantity.model.group
