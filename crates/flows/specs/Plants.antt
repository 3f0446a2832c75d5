-- The drawing and the readings of a plant. Assumes nothing.
--
-- last_unit           the largest unit that a plant may have: 256
-- last_number         the largest stream number: 1,024
-- Number n            n is a stream number: from 1 to 1,024
-- from_unit e         the unit that a stream leaves; it means nothing where there are no ends
-- to_unit e           the unit that it enters
-- drawing u ends      the drawing of the plant with units 0 to u and the ends that each number has; a number with ends is in
--                     use, and unit v is place v. This alone says at which places a stream ends.
-- readings_of i a     the reading of each number: its amount by a, or none while i says that the number is isolated
use Rattle.std.specs.Prelude.{ℕ, suc, ◌≤◌, Bool, if◌then◌else◌, ◌&&◌, is_some, Some, None, Option, nat_le}
use Rattle.flows.specs.declared.ends.Ends.{Ends}
use Rattle.flows.specs.Drawings.{Drawing}

abbrev pub last_unit : ℕ
last_unit = 256

abbrev pub last_number : ℕ
last_number = 1024

abbrev pub Number : ℕ → Type 0
Number n = (1 ≤ n) × (n ≤ last_number)

abbrev pub from_unit : Option Ends → ℕ
from_unit (Some e) = e.from
from_unit None = 0

abbrev pub to_unit : Option Ends → ℕ
to_unit (Some e) = e.to
to_unit None = 0

abbrev pub drawing : ℕ → (ℕ → Option Ends) → Drawing
drawing u ends = record {
  size = suc last_number;
  units = u;
  used = λ n. nat_le 1 n && is_some (ends n);
  from = λ n. from_unit (ends n);
  to = λ n. to_unit (ends n);
}

abbrev pub readings_of : {X : Type 0} → (ℕ → Bool) → (ℕ → Option X) → ℕ → Option X
readings_of isolated amounts n = if isolated n then None else amounts n
