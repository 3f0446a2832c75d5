-- Refusals: their numbers, and how a call answers. Assumes nothing.
--
-- number f       the number of a question's refusal
-- Answer number Fits Done Kept r
--                the answer r of a call whose refusals fit as Fits says: where it is accepted, no refusal fits and Done holds
--                of what it answers; where it is refused, the refusal given fits, none with a smaller number does, and Kept holds
-- accepted f r   what f makes of an accepted answer; a refusal stays as it is
use Rattle.std.specs.Prelude.{ℕ, ◌≤◌, Ok, Err, Result}
use Rattle.std.specs.Result.{result_map_both}
use Rattle.flows.specs.declared.fault.QuestionFault.{QuestionFault}
use Rattle.flows.specs.declared.fault.QuestionFault.TheVariants.{NumberOutside, TableTooShort, NotInUse, Inconsistent, Determined, Consistent}

abbrev pub number : QuestionFault → ℕ
number NumberOutside = 1
number TableTooShort = 3
number NotInUse = 22
number Inconsistent = 26
number Determined = 27
number Consistent = 28

abbrev pub Answer : {T F : Type 0} → (F → ℕ) → (F → Type 0) → (T → Type 0) → Type 0 → Result T F → Type 0
Answer {T} {F} number Fits Done Kept (Ok x) = ((f : F) → ¬ Fits f) × Done x
Answer {T} {F} number Fits Done Kept (Err f) = Fits f × ((g : F) → Fits g → number f ≤ number g) × Kept

abbrev pub accepted : {T U F : Type 0} → (T → U) → Result T F → Result U F
accepted f r = result_map_both f (λ e. e) r
