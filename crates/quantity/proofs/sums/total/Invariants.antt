use Rattle.std.proofs.Common.{◌≡◌, map, take}
use Rattle.quantity.specs.Sums.{sum_all}
use Rattle.quantity.proofs.sums.total.Given as goal

abbrev pub invariant-loop-amount : goal.invariant-loop-amount
invariant-loop-amount g l =
    let m = g.Q.Quantity.model in m.means l.sum ≡ sum_all m.group (map m.means (take l.amount-index l.amounts))
