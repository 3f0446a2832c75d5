use Rattle.flows.proofs.Agreement.{value_answers_agree}
use Rattle.flows.proofs.theorems.value_answers_agree.Goals as goal

pub returns : goal.returns
returns g c = value_answers_agree g.Q.Quantity.model
