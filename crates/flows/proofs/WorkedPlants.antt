-- A row that passes the test shows what the definitions give. Assumes nothing.
use Rattle.std.proofs.Common.{◌≡◌, ℕ, zero, suc, ◌^◌, ◌<◌, ◌≤◌, Bool, true, false, cond, not, ◌&&◌, ◌||◌, eqb, ltb, leb, List, [], ◌∷◌, map, length, get_or, is_some, Some, None, Ok, Err, Decides, Option, Result, sym, refl, ap, ◌∙◌, subst, ⊎_elim, true≢false, arith, lit<}
use mathlib.Core.Bool.{false≢true}
use Rattle.std.specs.List.{slice_get}
use Rattle.std.proofs.lemmas.List.{get_or_past, length-map}
use Rattle.std.proofs.lemmas.Bool.{cases_Bool, cases_lt, and_parts, and_from, or_cases, not-true, false_from_ne_true, agree_below, agree_below_at, eqb-true, ne_eqb, leb-true, le-leb, ltb-true, lt-ltb, le-ltb, cond-true, cond-false}
use Rattle.std.proofs.lemmas.Bool.Decides.{Decides-eqb, not_from_Decides, Decides-like, Decides-not, Decides-or, Decides-below_and}
use Rattle.quantity.specs.Masses.{mass_model}
use Rattle.quantity.specs.Model.{Model}
use Rattle.quantity.specs.Totalisers.{modulus, totaliser_model}
use Rattle.flows.specs.Classes.{Is, byte}
use Rattle.flows.specs.Comparisons.{Comparison, compare_residues}
use Rattle.flows.specs.Consistency as plant
use Rattle.flows.specs.Decisions.{Above, part, undisputed, all_undisputed, cut_sum}
use Rattle.flows.specs.declared.class.Class.{Class}
use Rattle.flows.specs.declared.class.Class.TheVariants.{OutOfUse, Observable, Unobservable, Redundant, JustMeasured}
use Rattle.flows.specs.declared.ends.Ends.{Ends}
use Rattle.flows.specs.declared.fault.QuestionFault.{QuestionFault}
use Rattle.flows.specs.declared.fault.QuestionFault.TheVariants.{NumberOutside, TableTooShort, NotInUse, Inconsistent, Determined, Consistent}
use Rattle.flows.specs.declared.worked.Dispute.{Dispute}
use Rattle.flows.specs.declared.worked.Flows.{Flows}
use Rattle.flows.specs.declared.worked.Survey.{Survey}
use Rattle.flows.specs.declared.worked.Worked.{Worked}
use Rattle.flows.specs.declared.worked.Worked.TheVariants.{OfMasses, OfTotalisers}
use Rattle.flows.specs.declared.worked.WorkedPlant.{WorkedPlant}
use Rattle.flows.specs.Drawings.{Drawing, InUse, Within}
use Rattle.flows.specs.Flows.{total_below, arriving, departing, read_set, readings}
use Rattle.flows.specs.Parts.{Unread, Joined}
use Rattle.flows.specs.Plants.{last_unit, last_number, from_unit, to_unit}
use Rattle.flows.specs.Questions.{unit_places, holds, count, SurveyFits, ValueFits, RivalFits, DisputeFits, by_reading, by_cut_sum, no_amount, Written, Surveys, Values, Rivals, Disputes}
use Rattle.flows.specs.Refusals.{number, accepted}
use Rattle.flows.specs.Worked.{ends, value_at, rival_at, plan, shown_readings, classes_over, flow_over, first_over, second_over, marks_over, Shown, Right}
use Rattle.flows.specs.Theorems.{Decided}
use Rattle.flows.specs.WorkedTests.{all_below, every, none_fits, smallest, within_test, first_mark, top, is_consistent, has_class, shape, survey_fits, value_fits, rival_fits, dispute_fits, counted, survey_right, reads, value_right, flow_of, allows, flow_right, rival_right, dispute_right, row_right, passes}
use Rattle.flows.proofs.Cuts.{ends_within}
use Rattle.flows.proofs.Decisions.{part_is, total_short, net_short}
use Rattle.flows.proofs.Agreement.{decisions_are_right}
use Rattle.flows.proofs.PartNets.{undisputed_part, disputed_part, all_undisputed_each}
use Rattle.flows.proofs.Joins.{joined_within}
use Rattle.flows.proofs.Tallies.{how_many_same, how_many_short, count_is}

-- tests of rows

pub each_below : (p : ℕ → Bool) (n : ℕ) → all_below p n ≡ true → (k : ℕ) → k < n → p k ≡ true
each_below p n = (Decides-below_and p (λ k. p k ≡ true) (all_below p) (λ k. (λ e. e, λ e. e)) refl (λ _. refl) n).0

every_each : (p : QuestionFault → Bool) → every p ≡ true → (f : QuestionFault) → p f ≡ true
every_each p h f =
    let a = and_parts (p NumberOutside) _ h in
    let b = and_parts (p TableTooShort) _ a.1 in
    let c = and_parts (p NotInUse) _ b.1 in
    let d = and_parts (p Inconsistent) _ c.1 in
    let e = and_parts (p Determined) _ d.1 in
    at a.0 b.0 c.0 d.0 e.0 e.1 f
  where
    at : p NumberOutside ≡ true → p TableTooShort ≡ true → p NotInUse ≡ true → p Inconsistent ≡ true → p Determined ≡ true → p Consistent ≡ true → (f : QuestionFault) → p f ≡ true
    at a b c d e g NumberOutside = a
    at a b c d e g TableTooShort = b
    at a b c d e g NotInUse = c
    at a b c d e g Inconsistent = d
    at a b c d e g Determined = e
    at a b c d e g Consistent = g

module _ (fits : QuestionFault → Bool) (Fits : QuestionFault → Type 0) (decides : (f : QuestionFault) → Decides (fits f) (Fits f)) where
  none_holds : none_fits fits ≡ true → (f : QuestionFault) → ¬ Fits f
  none_holds h f = not_from_Decides (fits f) (decides f) (not-true (fits f) (every_each (λ f. not (fits f)) h f))

  -- a refusal that fits, with the smallest number, and what it keeps
  smallest_holds : {Kept : Type 0} → Kept → (f : QuestionFault) → smallest fits f ≡ true → Fits f × ((g : QuestionFault) → Fits g → number f ≤ number g) × Kept
  smallest_holds kept f h =
      let parts = and_parts (fits f) _ h in (
        (decides f).0 parts.0,
        λ g y. ⊎_elim
            (λ e. absurd (not_from_Decides (fits g) (decides g) (not-true (fits g) e) y))
            (λ e. leb-true (number f) (number g) e)
            (or_cases (not (fits g)) _ (every_each (λ g. not (fits g) || leb (number f) (number g)) parts.1 g)),
        kept,
      )

-- where neither 1 nor 3 fits, no number below 22 does
least : (Fits : QuestionFault → Type 0) → ¬ Fits NumberOutside → ¬ Fits TableTooShort → (g : QuestionFault) → Fits g → 22 ≤ number g
least Fits a b NumberOutside y = absurd (a y)
least Fits a b TableTooShort y = absurd (b y)
least Fits a b NotInUse y = omega arith
least Fits a b Inconsistent y = omega arith
least Fits a b Determined y = omega arith
least Fits a b Consistent y = omega arith

never : {P : Type 0} → ¬ P → Decides false P
never not_so = (λ e. absurd (false≢true e), λ y. absurd (not_so y))

class_of : ℕ → Class
class_of zero = OutOfUse
class_of (suc zero) = Observable
class_of (suc (suc zero)) = Unobservable
class_of (suc (suc (suc zero))) = Redundant
class_of (suc (suc (suc (suc n)))) = JustMeasured

class_of_byte : (c : Class) → class_of (byte c) ≡ c
unfolding class_of
class_of_byte OutOfUse = refl
class_of_byte Observable = refl
class_of_byte Unobservable = refl
class_of_byte Redundant = refl
class_of_byte JustMeasured = refl

pub byte_same : (c d : Class) → byte c ≡ byte d → c ≡ d
byte_same c d e = sym (class_of_byte c) ∙ ap class_of e ∙ class_of_byte d

within_holds : (units : ℕ) (o : Option Ends) → within_test units o ≡ true → (from_unit o ≤ units) × (to_unit o ≤ units)
within_holds units (Some e) h = let p = and_parts (leb e.from units) (leb e.to units) h in (leb-true e.from units p.0, leb-true e.to units p.1)
within_holds units None h = (omega arith, omega arith)

nth_holds : {Q : Type 0} (m : Model Q) (xs : List Q) (k : ℕ) → k < length xs → (a : Q) × (slice_get xs k ≡ Some a) × (m.means a ≡ get_or (map m.means xs) k m.group.zero)
nth_holds m [] k lt = absurd (omega arith)
nth_holds m (x ∷ xs) zero lt = (x, refl, refl)
nth_holds m (x ∷ xs) (suc k) lt = nth_holds m xs k (omega arith)

-- what holds at each place of a list, and of d past its end, holds at every place
each_place : {X : Type 0} (xs : List X) (d : X) (n : ℕ) → length xs ≡ n → (P : ℕ → X → Type 0) → ((k : ℕ) → k < n → P k (get_or xs k d)) → ((k : ℕ) → n ≤ k → P k d) → (k : ℕ) → P k (get_or xs k d)
each_place xs d n long P within past k = ⊎_elim (λ l. within k l) (λ le. subst (P k) (sym (get_or_past xs k d (omega arith))) (past k le)) (cases_lt k n)

module _ {Q : Type 0} (m : Model Q) (s : Comparison m.group) (row : WorkedPlant Q) (well : shape m s row ≡ true) where
  abbrev D : Drawing
  D = plan row

  abbrev t : ℕ → Option m.group.Element
  t = shown_readings m row

  abbrev R : ℕ → Bool
  R = read_set t

  sized : (leb (length row.streams) last_number && all_below (λ k. within_test row.units (get_or (ends row) k None)) (length row.streams)) ≡ true
  sized = (and_parts (leb row.units last_unit) _ well).1

  few : length row.streams ≤ last_number
  few = leb-true (length row.streams) last_number (and_parts (leb (length row.streams) last_number) _ sized).0

  -- a number in use is among the streams
  listed : (k : ℕ) → D.used (suc k) ≡ true → k < length row.streams
  listed k us = ⊎_elim
      (λ l. l)
      (λ le. absurd (true≢false (sym (and_parts (leb 1 (suc k)) _ us).1 ∙ ap is_some (get_or_past (ends row) k None (omega (arith, length-map row.streams (λ s. s.ends)))))))
      (cases_lt k (length row.streams))

  zero_unused : D.used 0 ≡ true → ⊥
  zero_unused e = true≢false (sym e)

  in_use : (k : ℕ) → D.used (suc k) ≡ true → InUse D (suc k)
  in_use k us = let l = listed k us in (let f = few in omega arith, us)

  pub above : Above D (top m s row)
  above = record { size = let f = few in omega arith; unused = unused }
    where
      unused : (n : ℕ) → top m s row ≤ n → ¬ InUse D n
      unused zero le us = zero_unused us.1
      unused (suc k) le us = let l = listed k us.1 in omega arith

  pub within_row : Within D
  within_row = record { from = λ n _. (at n).0; to = λ n _. (at n).1 }
    where
      at : (n : ℕ) → (D.from n ≤ row.units) × (D.to n ≤ row.units)
      at zero = (omega arith, omega arith)
      at (suc k) = each_place (ends row) None (length row.streams) (length-map row.streams _) (λ _ o. (from_unit o ≤ row.units) × (to_unit o ≤ row.units))
          (λ k l. within_holds row.units (get_or (ends row) k None) (each_below _ (length row.streams) (and_parts (leb (length row.streams) last_number) _ sized).1 k l))
          (λ k le. (omega arith, omega arith))
          k

  decided : Decided m.group D t (top m s row)
  decided = decisions_are_right m.group D within_row t (top m s row) above

  consistent_decides : Decides (is_consistent m s row) (plant.Consistent m.group D t)
  consistent_decides = decided.consistent s

  inconsistent_decides : Decides (not (is_consistent m s row)) (plant.Inconsistent m.group D t)
  inconsistent_decides = decided.inconsistent s

  unused_decides : (k : ℕ) → k < last_number → Decides (not (D.used (suc k))) (¬ InUse D (suc k))
  unused_decides k lt = Decides-not (D.used (suc k)) (λ us. in_use k us, λ us. us.1)

  class_decides : (c : Class) (n : ℕ) → n < D.size → Decides (has_class m s row c n) (Is D R c n)
  class_decides c n lt = Decides-like _ (λ e. (decided.class n lt c).1 (sym (byte_same _ c e))) (λ h. ap byte (sym ((decided.class n lt c).0 h))) (Decides-eqb _ (byte c))

  survey_decides : (places : ℕ) → last_number ≤ places → (f : QuestionFault) → Decides (survey_fits m s row f) (SurveyFits m D t places f)
  survey_decides places le Inconsistent = inconsistent_decides
  survey_decides places le TableTooShort = never (λ lt. omega arith)
  survey_decides places le NumberOutside = never (λ y. y)
  survey_decides places le NotInUse = never (λ y. y)
  survey_decides places le Determined = never (λ y. y)
  survey_decides places le Consistent = never (λ y. y)

  value_decides : (k : ℕ) → k < last_number → (f : QuestionFault) → Decides (value_fits m s row (suc k) f) (ValueFits m D t (suc k) f)
  value_decides k lt NotInUse = unused_decides k lt
  value_decides k lt Inconsistent = inconsistent_decides
  value_decides k lt NumberOutside = never (λ out. out (omega arith, omega arith))
  value_decides k lt TableTooShort = never (λ y. y)
  value_decides k lt Determined = never (λ y. y)
  value_decides k lt Consistent = never (λ y. y)

  rival_decides : (k : ℕ) → k < last_number → (first second : ℕ) → last_number ≤ first → last_number ≤ second → (f : QuestionFault) → Decides (rival_fits m s row (suc k) f) (RivalFits m D t (suc k) first second f)
  rival_decides k lt first second lf ls NotInUse = unused_decides k lt
  rival_decides k lt first second lf ls Inconsistent = inconsistent_decides
  rival_decides k lt first second lf ls Determined =
      Decides-or (has_class m s row Observable (suc k)) (has_class m s row Redundant (suc k)) (class_decides Observable (suc k) (omega arith)) (class_decides Redundant (suc k) (omega arith))
  rival_decides k lt first second lf ls NumberOutside = never (λ out. out (omega arith, omega arith))
  rival_decides k lt first second lf ls TableTooShort = never (λ y. ⊎_elim (λ l. omega arith) (λ l. omega arith) y)
  rival_decides k lt first second lf ls Consistent = never (λ y. y)

  dispute_decides : (places : ℕ) → unit_places ≤ places → (f : QuestionFault) → Decides (dispute_fits m s row f) (DisputeFits m D t places f)
  dispute_decides places le Consistent = consistent_decides
  dispute_decides places le TableTooShort = never (λ lt. omega arith)
  dispute_decides places le NumberOutside = never (λ y. y)
  dispute_decides places le NotInUse = never (λ y. y)
  dispute_decides places le Inconsistent = never (λ y. y)
  dispute_decides places le Determined = never (λ y. y)

  -- a number past the streams is not in use, and no smaller refusal fits
  unlisted : (k : ℕ) → length row.streams ≤ k → ¬ InUse D (suc k)
  unlisted k past us = let l = listed k us.1 in omega arith

  value_past : (k : ℕ) → k < last_number → length row.streams ≤ k → Values m D t (suc k) (Err NotInUse)
  value_past k lt past = (unlisted k past, least (ValueFits m D t (suc k)) (λ out. out (omega arith, omega arith)) (λ y. y), tt)

  -- where the test of an accepted answer holds, no refusal fits, the plant is consistent, and the rest of the test holds
  accepted_holds : (fits : QuestionFault → Bool) (Fits : QuestionFault → Type 0) → ((f : QuestionFault) → Decides (fits f) (Fits f)) → (rest : Bool)
      → (none_fits fits && (is_consistent m s row && rest)) ≡ true → ((f : QuestionFault) → ¬ Fits f) × plant.Consistent m.group D t × (rest ≡ true)
  accepted_holds fits Fits decides rest h =
      let a = and_parts (none_fits fits) _ h in
      let b = and_parts (is_consistent m s row) rest a.1 in
      (none_holds fits Fits decides a.0, consistent_decides.0 b.0, b.1)

  survey_shown : (r : Result Survey QuestionFault) → survey_right m s row r ≡ true → (places : ℕ) → last_number ≤ places → (old : ℕ → Option ℕ)
      → Surveys m D t places old (accepted (λ v. v.counts) r) (classes_over r old)
  survey_shown (Err f) h places le old = smallest_holds (survey_fits m s row) _ (survey_decides places le) refl f h
  survey_shown (Ok v) h places le old =
      let a = accepted_holds (survey_fits m s row) _ (survey_decides places le) _ h in
      let c = and_parts (eqb (length v.classes) (length row.streams)) _ a.2 in
      let d = and_parts (all_below _ (length row.streams)) _ c.1 in
      let e = and_parts (eqb v.counts.0 (counted m s row v 1)) _ d.1 in
      let f = and_parts (eqb v.counts.1 (counted m s row v 2)) _ e.1 in
      let g = and_parts (eqb v.counts.2 (counted m s row v 3)) _ f.1 in
      let long = eqb-true (length v.classes) (length row.streams) c.0 in (
        a.0,
        record {
          consistent = a.1;
          classes = λ k lt. (shown k, is_shown long d.0 k lt, written k lt);
          kept = λ k past. cond-false (ltb k last_number) (Some (byte (shown k))) (old k) (le-ltb k last_number past);
          observable = counted_is long 1 (λ z. omega arith) v.counts.0 e.0;
          unobservable = counted_is long 2 (λ z. omega arith) v.counts.1 f.0;
          redundant = counted_is long 3 (λ z. omega arith) v.counts.2 g.0;
          just_measured = counted_is long 4 (λ z. omega arith) v.counts.3 g.1;
        },
      )
    where
      shown : ℕ → Class
      shown k = get_or v.classes k OutOfUse

      new : ℕ → Option ℕ
      new = classes_over (Ok v) old

      written : (k : ℕ) → k < last_number → new k ≡ Some (byte (shown k))
      written k lt = cond-true (ltb k last_number) (Some (byte (shown k))) (old k) (lt-ltb k last_number lt)

      is_shown : length v.classes ≡ length row.streams → all_below (λ k. has_class m s row (shown k) (suc k)) (length row.streams) ≡ true → (k : ℕ) → k < last_number → Is D R (shown k) (suc k)
      is_shown long each = each_place v.classes OutOfUse (length row.streams) long (λ k c. k < last_number → Is D R c (suc k))
          (λ k l lt. (class_decides (shown k) (suc k) (omega arith)).0 (each_below _ (length row.streams) each k l))
          (λ k le lt. unlisted k le)

      counted_is : length v.classes ≡ length row.streams → (b : ℕ) → ¬ (0 ≡ b) → (n : ℕ) → eqb n (counted m s row v b) ≡ true → n ≡ count b new last_number
      counted_is long b some n e =
          eqb-true n (counted m s row v b) e
          ∙ sym (how_many_short (length v.classes) last_number (λ k. eqb (byte (shown k)) b) (let l = few in omega arith)
          (λ k lo _. ap (λ c. eqb (byte c) b) (get_or_past v.classes k OutOfUse lo) ∙ ne_eqb 0 b some))
          ∙ how_many_same last_number _ _ (λ k lt. ap (λ o. holds o b) (sym (written k lt)))
          ∙ sym (count_is b new last_number)

  reads_is : (o : Option m.group.Element) (x : m.group.Element) → reads m s row o x ≡ true → o ≡ Some x
  reads_is (Some y) x e = ap Some ((s.decides y x).0 e)
  reads_is None x e = absurd (false≢true e)

  value_shown : (k : ℕ) → k < last_number → (r : Result (Option Q) QuestionFault) → value_right m s row (suc k) r ≡ true → Values m D t (suc k) r
  value_shown k lt (Err f) h = smallest_holds (value_fits m s row (suc k)) _ (value_decides k lt) tt f h
  value_shown k lt (Ok None) h =
      let a = accepted_holds (value_fits m s row (suc k)) _ (value_decides k lt) _ h in
      (a.0, (a.1, no_amount ((class_decides Unobservable (suc k) (omega arith)).0 a.2)))
  value_shown k lt (Ok (Some x)) h =
      let a = accepted_holds (value_fits m s row (suc k)) _ (value_decides k lt) _ h in (
        a.0,
        (
          a.1,
          ⊎_elim
              (λ e. by_reading (used a.0) (reads_is (t (suc k)) (m.means x) e))
              (λ e.
              let c = and_parts (has_class m s row Observable (suc k)) _ e in
              by_cut_sum ((class_decides Observable (suc k) (omega arith)).0 c.0) (cut_shown (used a.0) c.1))
              (or_cases (reads m s row (t (suc k)) (m.means x)) _ a.2),
        ),
      )
    where
      used : ((f : QuestionFault) → ¬ ValueFits m D t (suc k) f) → InUse D (suc k)
      used none = (omega arith, ⊎_elim (λ e. e) (λ e. absurd (none NotInUse (λ us. true≢false (sym us.1 ∙ e)))) (cases_Bool (D.used (suc k))))

      cut_shown : InUse D (suc k) → s.same (cut_sum m.group D t (top m s row) (suc k)) (m.means x) ≡ true → plant.CutSum m.group D t (suc k) (m.means x)
      cut_shown us e = (decided.cut_sum (suc k) us (m.means x)).1 (sym ((s.decides _ _).0 e))

  allows_is : (o : Option m.group.Element) (x y : m.group.Element) → allows m s row o x ≡ true → o ≡ Some y → x ≡ y
  allows_is o x y h e = (s.decides x y).0 (sym (ap (λ o. allows m s row o x) e) ∙ h)

  flow_shown : (n : ℕ) (xs : List Q) → flow_right m s row n xs ≡ true → (old : ℕ → Option Q) → Written m D t n (flow_of m s row xs) old (flow_over D xs old)
  flow_shown n xs h old =
      let a = and_parts (eqb (length xs) (length row.streams)) _ h in
      let b = and_parts (all_below _ row.units) _ a.1 in
      let long = eqb-true (length xs) (length row.streams) a.0 in
      record {
        possible = record { balanced = λ v lo hi. balanced b.0 v lo hi; agrees = λ k us but x e. agrees b.1 k us but x e };
        amounts = λ k us. amounts long k us;
        kept = λ k out. cond-false (D.used (suc k)) (slice_get xs k) (old k) (false_from_ne_true (D.used (suc k)) (λ us. out (in_use k us)));
      }
    where
      f : ℕ → m.group.Element
      f = flow_of m s row xs

      balanced : all_below (λ v. s.same (total_below m.group D (top m s row) (λ k. eqb (D.to k) (suc v)) f) (total_below m.group D (top m s row) (λ k. eqb (D.from k) (suc v)) f)) row.units ≡ true
          → (v : ℕ) → 1 ≤ v → v ≤ row.units → arriving m.group D f v ≡ departing m.group D f v
      balanced each zero lo hi = absurd (omega arith)
      balanced each (suc v) lo hi =
          total_short m.group D (top m s row) above _ f
          ∙ (s.decides _ _).0 (each_below _ row.units each v (omega arith))
          ∙ sym (total_short m.group D (top m s row) above _ f)

      agrees : all_below (λ k. eqb (suc k) n || (not (D.used (suc k)) || allows m s row (t (suc k)) (f (suc k)))) (length row.streams) ≡ true
          → (k : ℕ) → InUse D k → ¬ (k ≡ n) → (x : m.group.Element) → t k ≡ Some x → f k ≡ x
      agrees each zero us but x e = absurd (zero_unused us.1)
      agrees each (suc k) us but x e = ⊎_elim
          (λ q. absurd (but (eqb-true (suc k) n q)))
          (λ y. ⊎_elim
          (λ o. absurd (true≢false (sym us.1 ∙ not-true (D.used (suc k)) o)))
          (λ z. allows_is (t (suc k)) (f (suc k)) x z e)
          (or_cases (not (D.used (suc k))) _ y))
          (or_cases (eqb (suc k) n) _ (each_below _ (length row.streams) each k (listed k us.1)))

      amounts : length xs ≡ length row.streams → (k : ℕ) → InUse D (suc k) → (a : Q) × (flow_over D xs old k ≡ Some a) × (m.means a ≡ f (suc k))
      amounts long k us =
          let l = listed k us.1 in
          let p = nth_holds m xs k (omega arith) in
          (p.0, cond-true (D.used (suc k)) (slice_get xs k) (old k) us.1 ∙ p.1, p.2)

  rival_past : (k : ℕ) → k < last_number → length row.streams ≤ k → (first second : ℕ) → last_number ≤ first → last_number ≤ second → (old_first old_second : ℕ → Option Q)
      → Rivals m D t (suc k) first old_first second old_second (Err NotInUse) old_first old_second
  rival_past k lt past first second lf ls old_first old_second =
      (unlisted k past, least (RivalFits m D t (suc k) first second) (λ out. out (omega arith, omega arith)) (λ y. ⊎_elim (λ l. omega arith) (λ l. omega arith) y), (refl, refl))

  rival_shown : (k : ℕ) → k < last_number → (r : Result (Flows Q) QuestionFault) → rival_right m s row (suc k) r ≡ true → (first second : ℕ) → last_number ≤ first → last_number ≤ second → (old_first old_second : ℕ → Option Q)
      → Rivals m D t (suc k) first old_first second old_second (accepted (λ _. tt) r) (first_over D r old_first) (second_over D r old_second)
  rival_shown k lt (Err f) h first second lf ls old_first old_second = smallest_holds (rival_fits m s row (suc k)) _ (rival_decides k lt first second lf ls) (refl, refl) f h
  rival_shown k lt (Ok f) h first second lf ls old_first old_second =
      let a = accepted_holds (rival_fits m s row (suc k)) _ (rival_decides k lt first second lf ls) _ h in
      let c = and_parts (flow_right m s row (suc k) f.first) _ a.2 in
      let d = and_parts (flow_right m s row (suc k) f.second) _ c.1 in (
        a.0,
        record {
          consistent = a.1;
          one = flow_of m s row f.first;
          other = flow_of m s row f.second;
          first = flow_shown (suc k) f.first c.0 old_first;
          second = flow_shown (suc k) f.second d.0 old_second;
          differ = λ q. true≢false (sym ((s.decides _ _).1 q) ∙ not-true _ d.1);
        },
      )

  dispute_shown : (r : Result (Dispute Q) QuestionFault) → dispute_right m s row r ≡ true → (places : ℕ) → unit_places ≤ places → (old : ℕ → Option ℕ)
      → Disputes m D t places old (accepted (λ d. d.net) r) (marks_over r old)
  dispute_shown (Err f) h places le old = smallest_holds (dispute_fits m s row) _ (dispute_decides places le) refl f h
  dispute_shown (Ok d) h places le old =
      let a = and_parts (none_fits (dispute_fits m s row)) _ h in
      let b = and_parts (ltb row.units (length d.marks)) _ a.1 in
      let c = and_parts (leb v row.units) _ b.1 in
      let e = and_parts (not (undisputed m.group s D t (top m s row) v)) _ c.1 in
      let f = and_parts (all_undisputed m.group s D t (top m s row) v) _ e.1 in
      let g = and_parts (agree_below mark inside (length d.marks)) _ f.1 in
      let lv = leb-true v row.units c.0 in
      let long = ltb-true row.units (length d.marks) b.0 in (
        none_holds (dispute_fits m s row) _ (dispute_decides places le) a.0,
        record {
          lowest = v;
          part = C;
          in_dispute = disputed_part m.group D within_row t s (top m s row) above v lv (not-true _ e.0);
          none_lower = λ w B u. lowest lv f.0 w B u;
          marked = λ w lt j. written w lt true (marked_at lv long g.0 w j);
          unmarked = λ w lt off. written w lt false (false_from_ne_true (mark w) (λ i. off (joined_at lv long g.0 w i)));
          kept = λ w past. cond-false (ltb w unit_places) (Some (cond (mark w) 1 0)) (old w) (le-ltb w unit_places past);
          net = (s.decides _ _).0 g.1 ∙ sym (net_short m.group D (top m s row) above C (readings m.group t));
        },
      )
    where
      v : ℕ
      v = first_mark d.marks

      C : ℕ → Bool
      C = part D R (top m s row) v

      mark : ℕ → Bool
      mark w = get_or d.marks w false

      inside : ℕ → Bool
      inside w = leb w row.units && C w

      written : (w : ℕ) → w < unit_places → (b : Bool) → mark w ≡ b → marks_over (Ok d) old w ≡ Some (cond b 1 0)
      written w lt b e = cond-true (ltb w unit_places) (Some (cond (mark w) 1 0)) (old w) (lt-ltb w unit_places lt) ∙ ap (λ i. Some (cond i 1 0)) e

      lowest : v ≤ row.units → all_undisputed m.group s D t (top m s row) v ≡ true → (w : ℕ) (B : ℕ → Bool) → plant.InDispute m.group D t w B → v ≤ w
      lowest lv each w B u = ⊎_elim
          (λ (lt : w < v). absurd (u.not_zero (undisputed_part m.group D within_row t s (top m s row) above w u.unit (all_undisputed_each m.group D within_row t s (top m s row) above v each w lt) B u.part u.without_0)))
          (λ ge. ge)
          (cases_lt w v)

      in_part : v ≤ row.units → (w : ℕ) → w ≤ row.units → (C w ≡ true → Joined D (Unread D R) v w) × (Joined D (Unread D R) v w → C w ≡ true)
      in_part lv w lw = part_is D R (top m s row) above within_row v lv w lw

      marked_at : v ≤ row.units → row.units < length d.marks → agree_below mark inside (length d.marks) ≡ true → (w : ℕ) → Joined D (Unread D R) v w → mark w ≡ true
      marked_at lv long each w j =
          let lw : w ≤ row.units = joined_within (ends_within D within_row (Unread D R) (λ _ u. u.0)) lv j in
          agree_below_at mark inside (length d.marks) w each (omega arith) ∙ and_from (leb w row.units) (C w) (le-leb w row.units lw) ((in_part lv w lw).1 j)

      joined_at : v ≤ row.units → row.units < length d.marks → agree_below mark inside (length d.marks) ≡ true → (w : ℕ) → mark w ≡ true → Joined D (Unread D R) v w
      joined_at lv long each w i = ⊎_elim
          (λ lt.
          let p = and_parts (leb w row.units) (C w) (sym (agree_below_at mark inside (length d.marks) w each lt) ∙ i) in
          (in_part lv w (leb-true w row.units p.0)).0 p.1)
          (λ past. absurd (true≢false (sym i ∙ get_or_past d.marks w false past)))
          (cases_lt w (length d.marks))

pub row_shown : {Q : Type 0} (m : Model Q) (s : Comparison m.group) (row : WorkedPlant Q) → row_right m s row ≡ true → Shown m row
row_shown m s row h =
    let a = and_parts (shape m s row) _ h in
    let b = and_parts (survey_right m s row row.survey) _ a.1 in
    let c = and_parts (all_below _ (length row.streams)) _ b.1 in
    let d = and_parts (all_below _ (length row.streams)) _ c.1 in
    record {
      units = leb-true row.units last_unit (and_parts (leb row.units last_unit) _ a.0).0;
      within = within_row m s row a.0;
      survey = survey_shown m s row a.0 row.survey b.0;
      value = value_of a.0 c.0;
      rival = rival_of a.0 d.0;
      dispute = dispute_shown m s row a.0 row.dispute d.1;
    }
  where
    value_of : shape m s row ≡ true → all_below (λ k. value_right m s row (suc k) (value_at row k)) (length row.streams) ≡ true → (k : ℕ) → k < last_number
        → Values m (plan row) (shown_readings m row) (suc k) (value_at row k)
    value_of well each = each_place (map (λ s. s.value) row.streams) (Err NotInUse) (length row.streams) (length-map row.streams _) (λ k r. k < last_number → Values m (plan row) (shown_readings m row) (suc k) r)
        (λ k l lt. value_shown m s row well k lt _ (each_below _ (length row.streams) each k l))
        (λ k le lt. value_past m s row well k lt le)

    rival_of : shape m s row ≡ true → all_below (λ k. rival_right m s row (suc k) (rival_at row k)) (length row.streams) ≡ true → (k : ℕ) → k < last_number
        → (first second : ℕ) → last_number ≤ first → last_number ≤ second → (old_first old_second : ℕ → Option _)
        → Rivals m (plan row) (shown_readings m row) (suc k) first old_first second old_second (accepted (λ _. tt) (rival_at row k))
        (first_over (plan row) (rival_at row k) old_first) (second_over (plan row) (rival_at row k) old_second)
    rival_of well each = each_place (map (λ s. s.rival) row.streams) (Err NotInUse) (length row.streams) (length-map row.streams _)
        (λ k r. k < last_number → (first second : ℕ) → last_number ≤ first → last_number ≤ second → (old_first old_second : ℕ → Option _)
        → Rivals m (plan row) (shown_readings m row) (suc k) first old_first second old_second (accepted (λ _. tt) r) (first_over (plan row) r old_first) (second_over (plan row) r old_second))
        (λ k l lt. rival_shown m s row well k lt _ (each_below _ (length row.streams) each k l))
        (λ k le lt. rival_past m s row well k lt le)

pub passing_shown : (w : Worked) → passes w ≡ true → Right w
passing_shown (OfMasses row) h = row_shown mass_model (compare_residues (2 ^ 64) (lit< tt)) row h
passing_shown (OfTotalisers row) h = row_shown totaliser_model (compare_residues modulus (lit< tt)) row h
