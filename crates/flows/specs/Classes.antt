-- The classes of streams. Assumes nothing.
--
-- They see the drawing D and the set R of read streams, and no amount.
--
-- EndsInOnePart D R n      unread streams join the two ends of n
-- Is D R c n               stream n has class c
-- byte c                   the byte that stands for class c
use Rattle.std.specs.Prelude.{ℕ, Bool}
use Rattle.flows.specs.Drawings.{Drawing, InUse}
use Rattle.flows.specs.Parts.{Read, Unread, Joined}
use Rattle.flows.specs.Paths.{ClosedPath}
use Rattle.flows.specs.declared.class.Class.{Class}
use Rattle.flows.specs.declared.class.Class.TheVariants.{OutOfUse, Observable, Unobservable, Redundant, JustMeasured}

abbrev pub EndsInOnePart : Drawing → (ℕ → Bool) → ℕ → Type 0
EndsInOnePart D R n = Joined D (Unread D R) (D.from n) (D.to n)

abbrev pub Is : Drawing → (ℕ → Bool) → Class → ℕ → Type 0
Is D R OutOfUse n = ¬ InUse D n
Is D R Observable n = Unread D R n × ¬ ClosedPath D (Unread D R) n
Is D R Unobservable n = Unread D R n × ClosedPath D (Unread D R) n
Is D R Redundant n = Read D R n × ¬ EndsInOnePart D R n
Is D R JustMeasured n = Read D R n × EndsInOnePart D R n

abbrev pub byte : Class → ℕ
byte OutOfUse = 0
byte Observable = 1
byte Unobservable = 2
byte Redundant = 3
byte JustMeasured = 4
