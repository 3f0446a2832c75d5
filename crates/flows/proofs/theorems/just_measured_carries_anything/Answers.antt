use Rattle.flows.proofs.Results.{just_measured_carries_anything}
use Rattle.flows.proofs.theorems.just_measured_carries_anything.Goals as goal

pub returns : goal.returns
returns g c = just_measured_carries_anything g.Q.Quantity.model.group
