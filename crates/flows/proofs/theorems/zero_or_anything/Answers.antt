use Rattle.flows.proofs.Results.{zero_or_anything}
use Rattle.flows.proofs.theorems.zero_or_anything.Goals as goal

pub returns : goal.returns
returns g c = zero_or_anything g.Q.Quantity.model.group
