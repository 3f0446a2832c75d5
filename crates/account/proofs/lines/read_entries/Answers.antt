use Rattle.std.proofs.Common.{rules}
use Rattle.std.proofs.lemmas.Bool.Decides.{not_from_Decides}
use Rattle.std.proofs.lemmas.Result.{err_from_is_err_and}
use Rattle.account.proofs.Steps.{reads_passed, reads_entry, stops_with}
use Rattle.account.proofs.lines.read_entries.Goals as goal

pub returns-in_err-entry-clause-refused : goal.returns-in_err-entry-clause-refused
returns-in_err-entry-clause-refused g c =
    let p = err_from_is_err_and c.from_residual.result c.from_residual.ensures.1 in
    rw (p.1, p.2) (stops_with g.Q.Metered.writes g.Q.Metered.heading c.args.lines.now c.loop-place.place-counter _ c.loop-place-test.true _ _ c.loop-place.invariant (not_from_Decides _ c.is_passed_over.ensures c.if-is_passed_over.false) c.read_entry.result c.map_err.result _ c.read_entry.ensures.refused (search rules) c.in_err-entry.was)

pub loop-place-preserved-then-is_passed_over : goal.loop-place-preserved-then-is_passed_over
loop-place-preserved-then-is_passed_over g c =
    reads_passed g.Q.Metered.writes g.Q.Metered.heading c.args.lines.now c.loop-place.place-counter _ c.loop-place-test.true _ _ c.loop-place.invariant (c.is_passed_over.ensures.0 c.if-is_passed_over.true)

pub loop-place-preserved : goal.loop-place-preserved
loop-place-preserved g c =
    reads_entry g.Q.Metered.writes g.Q.Metered.heading c.args.lines.now c.loop-place.place-counter _ c.loop-place-test.true _ _ c.loop-place.invariant (not_from_Decides _ c.is_passed_over.ensures c.if-is_passed_over.false) c.in_ok-entry.entry (search rules) _ (search rules)
