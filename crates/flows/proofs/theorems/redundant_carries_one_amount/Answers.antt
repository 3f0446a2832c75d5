use Rattle.flows.proofs.Results.{redundant_carries_one_amount}
use Rattle.flows.proofs.theorems.redundant_carries_one_amount.Goals as goal

pub returns : goal.returns
returns g c = redundant_carries_one_amount g.Q.Quantity.model.group
