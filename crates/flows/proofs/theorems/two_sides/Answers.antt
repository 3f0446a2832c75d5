use Rattle.flows.proofs.Results.{two_sides}
use Rattle.flows.proofs.theorems.two_sides.Goals as goal

pub returns : goal.returns
returns c = two_sides
