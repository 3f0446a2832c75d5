use Rattle.std.proofs.Common.{vec_items}
use Rattle.account.specs.Lines.{Reads, texts}
use Rattle.account.proofs.lines.read_entries.Given as goal

abbrev pub invariant-loop-place : goal.invariant-loop-place
invariant-loop-place g l = Reads g.Q.Metered.writes g.Q.Metered.heading (texts l.lines) l.place-counter (vec_items l.entries) l.latest
