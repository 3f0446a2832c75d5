use Rattle.std.proofs.Common.{rules}
use Rattle.quantity.proofs.SheetForms.{mass_bytes}
use Rattle.quantity.proofs.sheet.MassSheetQuantity.to_bytes.Goals as goal

pub returns : goal.returns
returns c = mass_bytes c.args.self c.then_some.result (search rules) (search rules)
