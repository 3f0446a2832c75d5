-- What survey, value, rival and dispute give, on a drawing D and a table t of readings. Assumes nothing.
--
-- Amounts are of a type Q with model m; readings are the elements that they mean. A table that is handed in is a count of
-- places and a function, what stands at each place: some value at the places below that count, and none at the others. `old` and
-- `new` are a table before and after the call. A call on a plant uses these definitions at the plant's own drawing, whose
-- streams lie within its units.
--
-- unit_places           the places that dispute asks of its table: 257
-- meant m a             what an amount means, if there is one
-- how_many p n          how many numbers below n pass p
-- holds o b             whether a place has the byte b
-- count b table n       how often the byte b stands at places below n
-- SurveyFits, ValueFits, RivalFits, DisputeFits       when each refusal fits
-- Surveyed              what an accepted survey answers and writes: the plant is consistent
-- Valued n answer       what an accepted value answers; Values adds that the plant is consistent
-- Written n f old new   the table holds the flow f: balanced, and agreeing with the readings other than that of n; places of
--                       numbers out of use are kept
-- Rivalled              what an accepted rival writes: the plant is consistent, and the two such flows differ at n
-- Disputed              what an accepted dispute answers and marks
-- Surveys, Values, Rivals, Disputes   the whole answer of each question, refusals included; a refusal leaves the tables
use Rattle.std.specs.Prelude.{⊤, ◌≡◌, ◌≢◌, ℕ, zero, suc, ◌+◌, ◌<◌, ◌≤◌, Bool, false, if◌then◌else◌, ◌⊎◌, Some, None, Option, Result, ◌==◌}
use Rattle.std.specs.Option.{option_map}
use Rattle.quantity.specs.Model.{Model}
use Rattle.flows.specs.Classes.{Is, byte}
use Rattle.flows.specs.Consistency as plant
use Rattle.flows.specs.declared.class.Class.{Class}
use Rattle.flows.specs.declared.class.Class.TheVariants.{Observable, Unobservable, Redundant, JustMeasured}
use Rattle.flows.specs.declared.fault.QuestionFault.{QuestionFault}
use Rattle.flows.specs.declared.fault.QuestionFault.TheVariants.{NumberOutside, TableTooShort, NotInUse, Inconsistent, Determined, Consistent}
use Rattle.flows.specs.Drawings.{Drawing, InUse}
use Rattle.flows.specs.Flows.{PossibleBut, read_set}
use Rattle.flows.specs.Parts.{Unread, Joined}
use Rattle.flows.specs.Plants.{last_unit, last_number, Number}
use Rattle.flows.specs.Refusals.{number, Answer}

-- dispute's table has a place for each unit that a plant may have
abbrev pub unit_places : ℕ
unit_places = suc last_unit

abbrev pub meant : {Q : Type 0} (m : Model Q) → Option Q → Option m.group.Element
meant m a = option_map m.means a

abbrev pub how_many : (ℕ → Bool) → ℕ → ℕ
how_many p zero = 0
how_many p (suc n) = how_many p n + (if p n then 1 else 0)

abbrev pub holds : Option ℕ → ℕ → Bool
holds (Some x) b = x == b
holds None b = false

unfoldable pub count : ℕ → (ℕ → Option ℕ) → ℕ → ℕ
count b table n = how_many (λ k. holds (table k) b) n

module _ {Q : Type 0} (m : Model Q) (D : Drawing) (t : ℕ → Option m.group.Element) where
  abbrev pub SurveyFits : ℕ → QuestionFault → Type 0
  SurveyFits places TableTooShort = places < last_number
  SurveyFits places Inconsistent = plant.Inconsistent m.group D t
  SurveyFits places NumberOutside = ⊥
  SurveyFits places NotInUse = ⊥
  SurveyFits places Determined = ⊥
  SurveyFits places Consistent = ⊥

  abbrev pub ValueFits : ℕ → QuestionFault → Type 0
  ValueFits n NumberOutside = ¬ Number n
  ValueFits n NotInUse = ¬ InUse D n
  ValueFits n Inconsistent = plant.Inconsistent m.group D t
  ValueFits n TableTooShort = ⊥
  ValueFits n Determined = ⊥
  ValueFits n Consistent = ⊥

  abbrev pub RivalFits : ℕ → ℕ → ℕ → QuestionFault → Type 0
  RivalFits n first second NumberOutside = ¬ Number n
  RivalFits n first second TableTooShort = (first < last_number) ⊎ (second < last_number)
  RivalFits n first second NotInUse = ¬ InUse D n
  RivalFits n first second Inconsistent = plant.Inconsistent m.group D t
  RivalFits n first second Determined = Is D (read_set t) Observable n ⊎ Is D (read_set t) Redundant n
  RivalFits n first second Consistent = ⊥

  abbrev pub DisputeFits : ℕ → QuestionFault → Type 0
  DisputeFits places TableTooShort = places < unit_places
  DisputeFits places Consistent = plant.Consistent m.group D t
  DisputeFits places NumberOutside = ⊥
  DisputeFits places NotInUse = ⊥
  DisputeFits places Inconsistent = ⊥
  DisputeFits places Determined = ⊥

  -- the class of number k + 1 at place k, and the counts of the four classes
  pub record Surveyed (old : ℕ → Option ℕ) (counts : ℕ × ℕ × ℕ × ℕ) (new : ℕ → Option ℕ) : Type 0 where
    pub consistent : plant.Consistent m.group D t
    pub classes : (k : ℕ) → k < last_number → (c : Class) × Is D (read_set t) c (suc k) × (new k ≡ Some (byte c))
    pub kept : (k : ℕ) → last_number ≤ k → new k ≡ old k
    pub observable : counts.0 ≡ count (byte Observable) new last_number
    pub unobservable : counts.1 ≡ count (byte Unobservable) new last_number
    pub redundant : counts.2 ≡ count (byte Redundant) new last_number
    pub just_measured : counts.3 ≡ count (byte JustMeasured) new last_number

  -- a read stream has its reading, an observable one its cut sum, an unobservable one no amount
  pub data Valued (n : ℕ) : Option Q → Type 0 where
    by_reading : {a : Q} → InUse D n → t n ≡ Some (m.means a) → Valued n (Some a)
    by_cut_sum : {a : Q} → Is D (read_set t) Observable n → plant.CutSum m.group D t n (m.means a) → Valued n (Some a)
    no_amount : Is D (read_set t) Unobservable n → Valued n None

  -- the amount of stream k + 1 at place k
  pub record Written (n : ℕ) (f : ℕ → m.group.Element) (old new : ℕ → Option Q) : Type 0 where
    pub possible : PossibleBut m.group D n t f
    pub amounts : (k : ℕ) → InUse D (suc k) → (a : Q) × (new k ≡ Some a) × (m.means a ≡ f (suc k))
    pub kept : (k : ℕ) → ¬ InUse D (suc k) → new k ≡ old k

  pub record Rivalled (n : ℕ) (old_first new_first old_second new_second : ℕ → Option Q) : Type 0 where
    pub consistent : plant.Consistent m.group D t
    pub one : ℕ → m.group.Element
    pub other : ℕ → m.group.Element
    pub first : Written n one old_first new_first
    pub second : Written n other old_second new_second
    pub differ : one n ≢ other n

  -- the lowest unit whose part is in dispute; 1 at the units of that part, 0 at the other units that a plant may have
  pub record Disputed (old : ℕ → Option ℕ) (answer : Q) (new : ℕ → Option ℕ) : Type 0 where
    pub lowest : ℕ
    pub part : ℕ → Bool
    pub in_dispute : plant.InDispute m.group D t lowest part
    pub none_lower : (v : ℕ) (C : ℕ → Bool) → plant.InDispute m.group D t v C → lowest ≤ v
    pub marked : (w : ℕ) → w < unit_places → Joined D (Unread D (read_set t)) lowest w → new w ≡ Some 1
    pub unmarked : (w : ℕ) → w < unit_places → ¬ Joined D (Unread D (read_set t)) lowest w → new w ≡ Some 0
    pub kept : (w : ℕ) → unit_places ≤ w → new w ≡ old w
    pub net : m.means answer ≡ plant.net_reading m.group D t part

  abbrev pub Surveys : ℕ → (ℕ → Option ℕ) → Result (ℕ × ℕ × ℕ × ℕ) QuestionFault → (ℕ → Option ℕ) → Type 0
  Surveys places old r new = Answer number (SurveyFits places) (λ counts. Surveyed old counts new) (new ≡ old) r

  abbrev pub Values : ℕ → Result (Option Q) QuestionFault → Type 0
  Values n r = Answer number (ValueFits n) (λ answer. plant.Consistent m.group D t × Valued n answer) ⊤ r

  abbrev pub Rivals : ℕ → ℕ → (ℕ → Option Q) → ℕ → (ℕ → Option Q) → Result (Unit {0}) QuestionFault → (ℕ → Option Q) → (ℕ → Option Q) → Type 0
  Rivals n first old_first second old_second r new_first new_second =
      Answer number (RivalFits n first second) (λ _. Rivalled n old_first new_first old_second new_second) ((new_first ≡ old_first) × (new_second ≡ old_second)) r

  abbrev pub Disputes : ℕ → (ℕ → Option ℕ) → Result Q QuestionFault → (ℕ → Option ℕ) → Type 0
  Disputes places old r new = Answer number (DisputeFits places) (λ answer. Disputed old answer new) (new ≡ old) r
