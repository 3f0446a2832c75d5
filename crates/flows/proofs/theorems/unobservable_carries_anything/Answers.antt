use Rattle.flows.proofs.Results.{unobservable_carries_anything}
use Rattle.flows.proofs.theorems.unobservable_carries_anything.Goals as goal

pub returns : goal.returns
returns g c = unobservable_carries_anything g.Q.Quantity.model.group
