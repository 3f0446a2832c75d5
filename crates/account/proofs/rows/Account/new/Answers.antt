use Rattle.account.proofs.Rowing.{sofar_more}
use Rattle.account.proofs.rows.Account.new.Goals as goal

pub loop-day-preserved : goal.loop-day-preserved
loop-day-preserved g c =
    sofar_more g.Q.Quantity.model c.args.entries.now c.loop-day.day-index _ c.loop-day.total c.loop-day.invariant c.loop-day-item.result c.plus-total.result c.loop-day-test.true c.loop-day-item.is c.plus-total.ensures _ c.in_ok-push.ensures.items
