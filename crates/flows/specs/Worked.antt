-- Worked plants: that the definitions give what each shows. Assumes nothing.
--
-- A worked plant, a row of the table, shows the numbers from 1 to the count of its streams, number n at place n - 1; further
-- numbers are out of use.
--
-- at_number d xs n         what the list xs has at number n, or d
-- ends, amounts, isolated  what is given of each number, in a list
-- value_at row k           what the row shows of value for number k + 1; a number past its streams is not in use
-- rival_at row k           .. of rival
-- plan row                 the drawing of the plant
-- shown_readings m row     its readings, as what they mean
-- classes_over r old       a table with the classes that the row shows, written over what it had
-- marks_over r old         .. with the marks that it shows
-- flow_over D xs old       .. with the amounts xs at the places of streams in use
-- first_over, second_over  .. with the first or the second flow that it shows of rival
-- Shown m row              the row is a plant, and for all tables that are long enough it shows what the four questions give
-- Right w                  .. for a worked plant of either quantity
-- given w                  what is given of a worked plant
-- Shows g w                w is the plant g, and it is right
-- WorkedOut gs ws          the rows ws are the plants gs, in order, and each is right
use Rattle.std.specs.Prelude.{⊤, ◌≡◌, ℕ, zero, suc, ◌<◌, ◌≤◌, Bool, false, if◌then◌else◌, List, [], ◌∷◌, map, Some, None, Ok, Err, Option, Result, nat_lt, slice_index_or}
use Rattle.std.specs.Option.{option_map}
use Rattle.std.specs.List.{slice_get}
use Rattle.quantity.specs.Masses.{mass_model}
use Rattle.quantity.specs.Model.{Model}
use Rattle.quantity.specs.Totalisers.{totaliser_model}
use Rattle.flows.specs.Classes.{byte}
use Rattle.flows.specs.declared.class.Class.TheVariants.{OutOfUse}
use Rattle.flows.specs.declared.ends.Ends.{Ends}
use Rattle.flows.specs.declared.fault.QuestionFault.{QuestionFault}
use Rattle.flows.specs.declared.fault.QuestionFault.TheVariants.{NotInUse}
use Rattle.flows.specs.declared.worked.Dispute.{Dispute}
use Rattle.flows.specs.declared.worked.Flows.{Flows}
use Rattle.flows.specs.declared.worked.Survey.{Survey}
use Rattle.flows.specs.declared.worked.Worked.{Worked}
use Rattle.flows.specs.declared.worked.Worked.TheVariants.{OfMasses, OfTotalisers}
use Rattle.flows.specs.declared.worked.WorkedPlant.{WorkedPlant}
use Rattle.flows.specs.Drawings.{Drawing, Within}
use Rattle.flows.specs.Examples.{Given, masses, totalisers}
use Rattle.flows.specs.Plants.{last_unit, last_number, drawing, readings_of}
use Rattle.flows.specs.Refusals.{accepted}
use Rattle.flows.specs.Questions.{meant, unit_places, Surveys, Values, Rivals, Disputes}

abbrev pub at_number : {X : Type 0} → X → List X → ℕ → X
at_number d xs zero = d
at_number d xs (suc k) = slice_index_or xs k d

abbrev pub ends : {Q : Type 0} → WorkedPlant Q → List (Option Ends)
ends row = map (λ s. s.ends) row.streams

abbrev pub amounts : {Q : Type 0} → WorkedPlant Q → List (Option Q)
amounts row = map (λ s. s.amount) row.streams

abbrev pub isolated : {Q : Type 0} → WorkedPlant Q → List Bool
isolated row = map (λ s. s.isolated) row.streams

abbrev pub value_at : {Q : Type 0} → WorkedPlant Q → ℕ → Result (Option Q) QuestionFault
value_at row k = slice_index_or (map (λ s. s.value) row.streams) k (Err NotInUse)

abbrev pub rival_at : {Q : Type 0} → WorkedPlant Q → ℕ → Result (Flows Q) QuestionFault
rival_at row k = slice_index_or (map (λ s. s.rival) row.streams) k (Err NotInUse)

abbrev pub plan : {Q : Type 0} → WorkedPlant Q → Drawing
plan row = drawing row.units (at_number None (ends row))

abbrev pub shown_readings : {Q : Type 0} (m : Model Q) → WorkedPlant Q → ℕ → Option m.group.Element
shown_readings m row = readings_of (at_number false (isolated row)) (λ n. meant m (at_number None (amounts row) n))

abbrev pub classes_over : Result Survey QuestionFault → (ℕ → Option ℕ) → ℕ → Option ℕ
classes_over (Ok s) old k = if nat_lt k last_number then Some (byte (slice_index_or s.classes k OutOfUse)) else old k
classes_over (Err f) old k = old k

abbrev pub flow_over : {Q : Type 0} → Drawing → List Q → (ℕ → Option Q) → ℕ → Option Q
flow_over D xs old k = if D.used (suc k) then slice_get xs k else old k

abbrev pub first_over : {Q : Type 0} → Drawing → Result (Flows Q) QuestionFault → (ℕ → Option Q) → ℕ → Option Q
first_over D (Ok f) old k = flow_over D f.first old k
first_over D (Err e) old k = old k

abbrev pub second_over : {Q : Type 0} → Drawing → Result (Flows Q) QuestionFault → (ℕ → Option Q) → ℕ → Option Q
second_over D (Ok f) old k = flow_over D f.second old k
second_over D (Err e) old k = old k

abbrev pub marks_over : {Q : Type 0} → Result (Dispute Q) QuestionFault → (ℕ → Option ℕ) → ℕ → Option ℕ
marks_over (Ok d) old w = if nat_lt w unit_places then Some (if slice_index_or d.marks w false then 1 else 0) else old w
marks_over (Err f) old w = old w

pub record Shown {Q : Type 0} (m : Model Q) (row : WorkedPlant Q) : Type 0 where
  pub units : row.units ≤ last_unit
  pub within : Within (plan row)
  pub survey : (places : ℕ) → last_number ≤ places → (old : ℕ → Option ℕ)
      → Surveys m (plan row) (shown_readings m row) places old (accepted (λ s. s.counts) row.survey) (classes_over row.survey old)
  pub value : (k : ℕ) → k < last_number → Values m (plan row) (shown_readings m row) (suc k) (value_at row k)
  pub rival : (k : ℕ) → k < last_number → (first second : ℕ) → last_number ≤ first → last_number ≤ second → (old_first old_second : ℕ → Option Q)
      → Rivals m (plan row) (shown_readings m row) (suc k) first old_first second old_second (accepted (λ _. tt) (rival_at row k))
      (first_over (plan row) (rival_at row k) old_first) (second_over (plan row) (rival_at row k) old_second)
  pub dispute : (places : ℕ) → unit_places ≤ places → (old : ℕ → Option ℕ)
      → Disputes m (plan row) (shown_readings m row) places old (accepted (λ d. d.net) row.dispute) (marks_over row.dispute old)

abbrev pub Right : Worked → Type 0
Right (OfMasses row) = Shown mass_model row
Right (OfTotalisers row) = Shown totaliser_model row

abbrev pub given : Worked → Given
given (OfMasses row) = masses row.units (ends row) (map (option_map (λ a. a.0)) (amounts row)) (isolated row)
given (OfTotalisers row) = totalisers row.units (ends row) (map (option_map (λ a. a.0)) (amounts row)) (isolated row)

abbrev pub Shows : Given → Worked → Type 0
Shows g w = (given w ≡ g) × Right w

abbrev pub WorkedOut : List Given → List Worked → Type 0
WorkedOut [] [] = ⊤
WorkedOut [] (w ∷ ws) = ⊥
WorkedOut (g ∷ gs) [] = ⊥
WorkedOut (g ∷ gs) (w ∷ ws) = Shows g w × WorkedOut gs ws
