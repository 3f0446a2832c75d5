use Rattle.std.proofs.Common.{rules}
use Rattle.quantity.proofs.SheetForms.{advance_bytes}
use Rattle.quantity.proofs.sheet.TotaliserSheetQuantity.to_bytes.Goals as goal

pub returns : goal.returns
returns c = advance_bytes c.args.self c.to_le_bytes.result (search rules)
