use Rattle.flows.proofs.Results.{observable_carries_its_cut_sum}
use Rattle.flows.proofs.theorems.observable_carries_its_cut_sum.Goals as goal

pub returns : goal.returns
returns g c = observable_carries_its_cut_sum g.Q.Quantity.model.group
