-- What lines of text are as the account of a month. Assumes nothing.
--
-- Headed H ls    the first of the lines ls is the heading H
-- MonthOf ls m   m holds what the lines give: masses under the heading of masses, else advances of a counter
-- NoMonth ls e   e says why the lines are not read, under the same rule
use Rattle.std.specs.Prelude.{◌≡◌, ℕ, List, Some, slice_get, vec_items}
use Rattle.account.specs.declared.fault.ReadError.{ReadError}
use Rattle.account.specs.declared.month.Month.{Month}
use Rattle.account.specs.declared.month.Month.TheVariants.{Masses, Advances}
use Rattle.account.specs.Headings.{mass_heading, totaliser_heading}
use Rattle.account.specs.Lines.{Entries, NotRead}
use Rattle.account.specs.Texts.{WritesMass, WritesAdvance}

abbrev pub Headed : List ℕ → List (List ℕ) → Type 0
Headed H ls = slice_get ls 0 ≡ Some H

abbrev pub MonthOf : List (List ℕ) → Month → Type 0
MonthOf ls (Masses v) = Headed mass_heading ls × Entries WritesMass mass_heading ls (vec_items v)
MonthOf ls (Advances v) = (¬ Headed mass_heading ls) × Entries WritesAdvance totaliser_heading ls (vec_items v)

pub record NoMonth (ls : List (List ℕ)) (e : ReadError) : Type 0 where
  pub masses : Headed mass_heading ls → NotRead WritesMass mass_heading ls e
  pub advances : ¬ Headed mass_heading ls → NotRead WritesAdvance totaliser_heading ls e
