use Rattle.flows.proofs.Paths.{on_a_path_exactly_if_linked}
use Rattle.flows.proofs.theorems.on_a_path_exactly_if_linked.Goals as goal

pub returns : goal.returns
returns c = on_a_path_exactly_if_linked
