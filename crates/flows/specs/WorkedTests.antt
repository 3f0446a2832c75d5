-- The test by which worked plants are proved. Assumes nothing.
--
-- It computes what the definitions give on a row and compares it with what the row shows. Nothing here has to be believed: a
-- row that passes is proved to show what the definitions give.
--
-- all_below p n         p holds at each number below n
-- every p               p holds of each refusal
-- none_fits fits        no refusal fits
-- smallest fits f       f fits, and none with a smaller number does
-- within_test u o       both ends lie within the units 0 to u
-- first_mark marks      the lowest unit that is marked
--
-- These take the model m of the amounts, a comparison s of what they mean, and the row:
-- top                   a number above all streams in use
-- is_consistent         each part without place 0 has net zero
-- has_class c n         stream n has class c
-- shape                 the row is a plant with at most 256 units and 1,024 numbers
-- survey_fits, value_fits, rival_fits, dispute_fits   which refusals fit where the tables are long enough
-- counted v b           how often the byte b stands among the classes that the row shows
-- reads o x             a reading has the amount x
-- allows o x            a flow with the amount x agrees with a reading, if there is one
-- flow_of xs            the flow that a list of amounts shows
-- flow_right n xs       it is balanced and agrees with the readings other than that of n
-- survey_right, value_right, rival_right, dispute_right   what the row shows of each question is what it gives
-- row_right             all of these
--
-- passes w              the row shows what the definitions give, for a worked plant of either quantity
use Rattle.std.specs.Prelude.{ℕ, zero, suc, ◌^◌, Bool, true, false, not, ◌&&◌, ◌||◌, List, [], ◌∷◌, map, length, Some, None, Ok, Err, Option, Result, ◌==◌, nat_le, nat_lt, slice_index_or}
use Rattle.std.proofs.Common.{lit<}
use Rattle.std.proofs.lemmas.Bool.{agree_below}
use Rattle.quantity.specs.Masses.{mass_model}
use Rattle.quantity.specs.Model.{Model}
use Rattle.quantity.specs.Totalisers.{modulus, totaliser_model}
use Rattle.flows.specs.Classes.{byte}
use Rattle.flows.specs.Comparisons.{Comparison, compare_residues}
use Rattle.flows.specs.Decisions.{class, part, undisputed, all_undisputed, consistent, cut_sum}
use Rattle.flows.specs.declared.class.Class.{Class}
use Rattle.flows.specs.declared.class.Class.TheVariants.{OutOfUse, Observable, Unobservable, Redundant, JustMeasured}
use Rattle.flows.specs.declared.ends.Ends.{Ends}
use Rattle.flows.specs.declared.fault.QuestionFault.{QuestionFault}
use Rattle.flows.specs.declared.fault.QuestionFault.TheVariants.{NumberOutside, TableTooShort, NotInUse, Inconsistent, Determined, Consistent}
use Rattle.flows.specs.declared.worked.Dispute.{Dispute}
use Rattle.flows.specs.declared.worked.Flows.{Flows}
use Rattle.flows.specs.declared.worked.Survey.{Survey}
use Rattle.flows.specs.declared.worked.Worked.{Worked}
use Rattle.flows.specs.declared.worked.Worked.TheVariants.{OfMasses, OfTotalisers}
use Rattle.flows.specs.declared.worked.WorkedPlant.{WorkedPlant}
use Rattle.flows.specs.Drawings.{Drawing}
use Rattle.flows.specs.Flows.{total_below, read_set, readings, net_below}
use Rattle.flows.specs.Plants.{last_unit, last_number}
use Rattle.flows.specs.Questions.{how_many}
use Rattle.flows.specs.Refusals.{number}
use Rattle.flows.specs.Worked.{at_number, ends, value_at, rival_at, plan, shown_readings}

abbrev pub all_below : (ℕ → Bool) → ℕ → Bool
all_below p zero = true
all_below p (suc n) = p n && all_below p n

abbrev pub every : (QuestionFault → Bool) → Bool
every p = p NumberOutside && (p TableTooShort && (p NotInUse && (p Inconsistent && (p Determined && p Consistent))))

abbrev pub none_fits : (QuestionFault → Bool) → Bool
none_fits fits = every (λ f. not (fits f))

abbrev pub smallest : (QuestionFault → Bool) → QuestionFault → Bool
smallest fits f = fits f && every (λ g. not (fits g) || nat_le (number f) (number g))

abbrev pub within_test : ℕ → Option Ends → Bool
within_test units (Some e) = nat_le e.from units && nat_le e.to units
within_test units None = true

abbrev pub first_mark : List Bool → ℕ
first_mark [] = 0
first_mark (true ∷ bs) = 0
first_mark (false ∷ bs) = suc (first_mark bs)

module _ {Q : Type 0} (m : Model Q) (s : Comparison m.group) (row : WorkedPlant Q) where
  abbrev D : Drawing
  D = plan row

  abbrev t : ℕ → Option m.group.Element
  t = shown_readings m row

  -- a number above all streams in use
  abbrev pub top : ℕ
  top = suc (length row.streams)

  abbrev pub is_consistent : Bool
  is_consistent = consistent m.group s D t top

  abbrev pub has_class : Class → ℕ → Bool
  has_class c n = byte (class D (read_set t) top n) == byte c

  abbrev pub shape : Bool
  shape = nat_le row.units last_unit && (nat_le (length row.streams) last_number && all_below (λ k. within_test row.units (slice_index_or (ends row) k None)) (length row.streams))

  abbrev pub survey_fits : QuestionFault → Bool
  survey_fits Inconsistent = not is_consistent
  survey_fits NumberOutside = false
  survey_fits TableTooShort = false
  survey_fits NotInUse = false
  survey_fits Determined = false
  survey_fits Consistent = false

  abbrev pub value_fits : ℕ → QuestionFault → Bool
  value_fits n NotInUse = not (D.used n)
  value_fits n Inconsistent = not is_consistent
  value_fits n NumberOutside = false
  value_fits n TableTooShort = false
  value_fits n Determined = false
  value_fits n Consistent = false

  abbrev pub rival_fits : ℕ → QuestionFault → Bool
  rival_fits n NotInUse = not (D.used n)
  rival_fits n Inconsistent = not is_consistent
  rival_fits n Determined = has_class Observable n || has_class Redundant n
  rival_fits n NumberOutside = false
  rival_fits n TableTooShort = false
  rival_fits n Consistent = false

  abbrev pub dispute_fits : QuestionFault → Bool
  dispute_fits Consistent = is_consistent
  dispute_fits NumberOutside = false
  dispute_fits TableTooShort = false
  dispute_fits NotInUse = false
  dispute_fits Inconsistent = false
  dispute_fits Determined = false

  abbrev pub counted : Survey → ℕ → ℕ
  counted v b = how_many (λ k. byte (slice_index_or v.classes k OutOfUse) == b) (length v.classes)

  abbrev pub survey_right : Result Survey QuestionFault → Bool
  survey_right (Ok v) = none_fits survey_fits && (is_consistent && (length v.classes == length row.streams
      && (all_below (λ k. has_class (slice_index_or v.classes k OutOfUse) (suc k)) (length row.streams)
      && (v.counts.0 == counted v (byte Observable) && (v.counts.1 == counted v (byte Unobservable) && (v.counts.2 == counted v (byte Redundant) && v.counts.3 == counted v (byte JustMeasured)))))))
  survey_right (Err f) = smallest survey_fits f

  -- whether a reading has the amount x
  abbrev pub reads : Option m.group.Element → m.group.Element → Bool
  reads (Some y) x = s.same y x
  reads None x = false

  abbrev pub value_right : ℕ → Result (Option Q) QuestionFault → Bool
  value_right n (Ok (Some a)) = none_fits (value_fits n) && (is_consistent && (reads (t n) (m.means a) || (has_class Observable n && s.same (cut_sum m.group D t top n) (m.means a))))
  value_right n (Ok None) = none_fits (value_fits n) && (is_consistent && has_class Unobservable n)
  value_right n (Err f) = smallest (value_fits n) f

  -- the flow that a list of amounts shows
  abbrev pub flow_of : List Q → ℕ → m.group.Element
  flow_of xs n = at_number m.group.zero (map m.means xs) n

  abbrev pub allows : Option m.group.Element → m.group.Element → Bool
  allows (Some y) x = s.same x y
  allows None x = true

  abbrev pub flow_right : ℕ → List Q → Bool
  flow_right n xs = length xs == length row.streams
      && (all_below (λ v. s.same (total_below m.group D top (λ k. D.to k == suc v) (flow_of xs)) (total_below m.group D top (λ k. D.from k == suc v) (flow_of xs))) row.units
      && all_below (λ k. (suc k == n) || (not (D.used (suc k)) || allows (t (suc k)) (flow_of xs (suc k)))) (length row.streams))

  abbrev pub rival_right : ℕ → Result (Flows Q) QuestionFault → Bool
  rival_right n (Ok f) = none_fits (rival_fits n) && (is_consistent && (flow_right n f.first && (flow_right n f.second && not (s.same (flow_of f.first n) (flow_of f.second n)))))
  rival_right n (Err f) = smallest (rival_fits n) f

  abbrev pub dispute_right : Result (Dispute Q) QuestionFault → Bool
  dispute_right (Ok d) = none_fits dispute_fits && (nat_lt row.units (length d.marks) && (nat_le (first_mark d.marks) row.units
      && (not (undisputed m.group s D t top (first_mark d.marks)) && (all_undisputed m.group s D t top (first_mark d.marks)
      && (agree_below (λ w. slice_index_or d.marks w false) (λ w. nat_le w row.units && part D (read_set t) top (first_mark d.marks) w) (length d.marks)
      && s.same (m.means d.net) (net_below m.group D top (part D (read_set t) top (first_mark d.marks)) (readings m.group t)))))))
  dispute_right (Err f) = smallest dispute_fits f

  abbrev pub row_right : Bool
  row_right = shape && (survey_right row.survey && (all_below (λ k. value_right (suc k) (value_at row k)) (length row.streams)
      && (all_below (λ k. rival_right (suc k) (rival_at row k)) (length row.streams) && dispute_right row.dispute)))

abbrev pub passes : Worked → Bool
passes (OfMasses row) = row_right mass_model (compare_residues (2 ^ 64) (lit< tt)) row
passes (OfTotalisers row) = row_right totaliser_model (compare_residues modulus (lit< tt)) row
