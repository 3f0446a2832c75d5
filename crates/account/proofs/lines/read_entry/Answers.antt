use Rattle.std.proofs.Common.{rules}
use Rattle.account.proofs.lines.read_entry.Goals as goal

-- the entry that the line gives, for a day that is not later
pub returns-then-day-latest-clause-refused : goal.returns-then-day-latest-clause-refused
returns-then-day-latest-clause-refused g c =
    (record { day = c.in_ok-day-2.day; amount = c.in_ok-amount.amount }, search rules, search rules)
