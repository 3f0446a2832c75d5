-- What is written of an account that is not read. Assumes nothing.
--
-- reason_of f  why a line gives no next entry, in words
-- message e    the number of the line and the reason, or that there is no memory
use Rattle.std.specs.Prelude.{ℕ, List, ◌++◌, codes, decimal}
use Rattle.account.specs.declared.fault.Fault.{Fault}
use Rattle.account.specs.declared.fault.Fault.TheVariants.{NoSpace, BadDay, BadAmount, NotLater}
use Rattle.account.specs.declared.fault.ReadError.{ReadError}
use Rattle.account.specs.declared.fault.ReadError.TheVariants.{Line, Memory}

abbrev pub reason_of : Fault → List ℕ
reason_of NoSpace = codes "there is no space between a day and an amount"
reason_of BadDay = codes "the day is not a number from 1 to 31"
reason_of BadAmount = codes "the amount is not a number within the bounds: 0 to 999999 for an advance, 1000000000000 grams either way for a mass"
reason_of NotLater = codes "the day is not later than the one before"

abbrev pub message : ReadError → List ℕ
message (Line n f) = codes "line " ++ (decimal n ++ (codes ": " ++ reason_of f))
message Memory = codes "there is not enough memory"
