-- Refusals and their numbers. Assumes nothing.
--
-- number f   the number of each refusal of enter, strike, post, withdraw, isolate, restore and the four questions
use Rattle.std.specs.Prelude.{ℕ}
use Rattle.flows.specs.Refusals as questions
use Rattle.calls.specs.declared.fault.Fault.{Fault}
use Rattle.calls.specs.declared.fault.Fault.TheVariants.{OfPlant, OfSource, OfIsolation, OfQuestion}
use Rattle.calls.specs.declared.fault.PlantFault.TheVariants as plant
use Rattle.calls.specs.declared.fault.SourceFault.TheVariants as source
use Rattle.calls.specs.declared.fault.IsolationFault.TheVariants as isolation

abbrev pub number : Fault → ℕ
number (OfPlant plant.NumberOutside) = 1
number (OfPlant plant.UnitOutside) = 2
number (OfPlant plant.InUse) = 21
number (OfPlant plant.NotInUse) = 22
number (OfSource source.OutOfReach) = 1
number (OfSource source.Held) = 23
number (OfSource source.NoReading) = 24
number (OfSource source.NoLines) = 25
number (OfIsolation isolation.OutOfReach) = 1
number (OfIsolation isolation.Held) = 23
number (OfIsolation isolation.ForeignSlip) = 29
number (OfQuestion f) = questions.number f
