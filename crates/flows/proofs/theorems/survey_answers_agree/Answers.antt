use Rattle.flows.proofs.Agreement.{survey_answers_agree}
use Rattle.flows.proofs.theorems.survey_answers_agree.Goals as goal

pub returns : goal.returns
returns g c = survey_answers_agree g.Q.Quantity.model
