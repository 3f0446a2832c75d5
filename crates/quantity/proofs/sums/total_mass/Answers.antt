use Rattle.std.proofs.Common.{rules}
use Rattle.quantity.proofs.MassSums.{sum_exact}
use Rattle.quantity.proofs.sums.total_mass.Goals as goal

pub returns-clause-exact : goal.returns-clause-exact
returns-clause-exact c = λ few each. sum_exact (λ m. m.0) c.args.masses.now few each c.total.result.0 (search rules) c.total.ensures
