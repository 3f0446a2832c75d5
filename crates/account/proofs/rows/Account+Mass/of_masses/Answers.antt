use Rattle.std.proofs.Common.{rules, FitsSigned, w64}
use Rattle.std.proofs.lemmas.Result.{IfOk-weaker}
use Rattle.quantity.proofs.MassSums.{sum_exact}
use Rattle.quantity.specs.Masses.{mass_model}
use Rattle.account.specs.Rows.{Keeps}
use Rattle.account.proofs.rows.Account+Mass.of_masses.Goals as goal

pub returns-clause-exact : goal.returns-clause-exact
returns-clause-exact c =
    IfOk-weaker c.new.result (λ a. FitsSigned w64 a.total.0 × Keeps mass_model c.args.entries.now a.rows.items a.total) _
    (λ a h few each. sum_exact (λ e. e.amount.0) c.args.entries.now few each a.total.0 h.0 h.1.all)
    (search rules)
