-- Tables by stream number: functions from numbers to entries. Assumes nothing.
--
-- put t n v   the table t with v at number n
use Rattle.std.specs.Prelude.{ℕ, if◌then◌else◌, ◌==◌}

abbrev pub put : {X : Type 0} → (ℕ → X) → ℕ → X → ℕ → X
put t n v k = if k == n then v else t k
