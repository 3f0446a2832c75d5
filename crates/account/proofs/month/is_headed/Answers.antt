use Rattle.std.proofs.Common.{rules}
use Rattle.std.proofs.lemmas.Option.{slice_get-map}
use Rattle.account.proofs.month.is_headed.Goals as goal

pub returns : goal.returns
returns g c = simp slice_get-map (search rules)
