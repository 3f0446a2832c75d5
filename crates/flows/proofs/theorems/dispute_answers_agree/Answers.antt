use Rattle.flows.proofs.Agreement.{dispute_answers_agree}
use Rattle.flows.proofs.theorems.dispute_answers_agree.Goals as goal

pub returns : goal.returns
returns g c = dispute_answers_agree g.Q.Quantity.model
