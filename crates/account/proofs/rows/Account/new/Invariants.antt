use Rattle.std.proofs.Common.{vec_items}
use Rattle.account.proofs.Rowing.{Sofar}
use Rattle.account.proofs.rows.Account.new.Given as goal

abbrev pub invariant-loop-day : goal.invariant-loop-day
invariant-loop-day g l = Sofar g.Q.Quantity.model l.entries l.day-index (vec_items l.rows) l.total
