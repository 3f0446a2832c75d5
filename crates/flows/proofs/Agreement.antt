-- The definitions leave each question one answer, rival's flows apart. Assumes nothing.
use Rattle.std.proofs.Common.{◌≡◌, ℕ, suc, ◌⊎◌, Some, None, Ok, Option, sym, refl, ap, ◌∙◌, inr, ⊎_elim, arith}
use Rattle.std.proofs.lemmas.Bool.{cases_lt, not-true, not_from_false, false_from_ne_true, true_from_ne_false}
use Rattle.quantity.specs.Group.{Group}
use Rattle.quantity.specs.Model.{Model}
use Rattle.flows.specs.Consistency.{CutSum}
use Rattle.flows.specs.Decisions.{cut_sum}
use Rattle.flows.specs.Drawings.{Drawing, Within}
use Rattle.flows.specs.Flows.{net, read_set, readings}
use Rattle.flows.specs.Parts.{Unread, Others, Joined}
use Rattle.flows.specs.Plants.{last_number}
use Rattle.flows.specs.Questions.{unit_places, meant, holds, count, Surveyed, Valued, by_reading, by_cut_sum, no_amount, Disputed}
use Rattle.flows.specs.Theorems.{DecisionsAreRight, SurveyAnswersAgree, ValueAnswersAgree, RivalAnswersAgree, DisputeAnswersAgree}
use Rattle.flows.proofs.Cuts.{ends_within}
use Rattle.flows.proofs.Decisions.{class_decides}
use Rattle.flows.proofs.PartNets.{part_net, consistent_if, inconsistent_if, not_both}
use Rattle.flows.proofs.Groups.{minus_difference}
use Rattle.flows.proofs.Joins.{joined_within}
use Rattle.flows.proofs.Results.{cut_sum_is, exactly_one_class}
use Rattle.flows.proofs.Tallies.{how_many_same, count_is}

-- a stream has one cut sum
pub cut_sum_only : (G : Group) (D : Drawing) → Within D → (t : ℕ → Option G.Element) (n : ℕ) (x y : G.Element) → CutSum G D t n x → CutSum G D t n y → x ≡ y
unfolding net
cut_sum_only G D w t n x y a b =
    a.sum ∙ sym (minus_difference G _ _)
    ∙ ap G.minus (part_net G D w (Others (Unread D (read_set t)) n) (readings G t) (D.from n) a.side b.side a.from_side b.from_side)
    ∙ minus_difference G _ _ ∙ sym b.sum

pub decisions_are_right : (G : Group) → DecisionsAreRight G
decisions_are_right G D w t m above = record {
  class = class_decides D (read_set t) w m above;
  consistent = λ s. (consistent_if G D w t s m above, λ h. true_from_ne_false _ (λ e. not_both G D w t h (inconsistent_if G D w t s m above e)));
  inconsistent = λ s. (λ e. inconsistent_if G D w t s m above (not-true _ e), λ i. not_from_false _ (false_from_ne_true _ (λ e. not_both G D w t (consistent_if G D w t s m above e) i)));
  cut_sum = λ n us x. (λ c. cut_sum_only G D w t n x (cut_sum G D t m n) c (cut_sum_is G D t m above w n us _ refl), cut_sum_is G D t m above w n us x);
}

module _ {Q : Type 0} (m : Model Q) (D : Drawing) (w : Within D) (t : ℕ → Option m.group.Element) where
  surveyed_table : (old new other : ℕ → Option ℕ) (a b : ℕ × ℕ × ℕ × ℕ) → Surveyed m D t old a new → Surveyed m D t old b other → (k : ℕ) → new k ≡ other k
  surveyed_table old new other a b x y k = grind (arith, cases_lt k last_number, (exactly_one_class D w (read_set t) (suc k)).2, x.classes k, y.classes k, x.kept k, y.kept k)

  surveyed_counts : (old new other : ℕ → Option ℕ) (a b : ℕ × ℕ × ℕ × ℕ) → Surveyed m D t old a new → Surveyed m D t old b other → a ≡ b
  surveyed_counts old new other a b x y = grind (arith, x, y, alike 1, alike 2, alike 3, alike 4)
    where
      alike : (c : ℕ) → count c new last_number ≡ count c other last_number
      alike c = count_is c new last_number ∙ how_many_same last_number _ _ (λ k _. ap (λ o. holds o c) (surveyed_table old new other a b x y k)) ∙ sym (count_is c other last_number)

  valued_same : (n : ℕ) (a b : Option Q) → Valued m D t n a → Valued m D t n b → meant m a ≡ meant m b
  valued_same n (Some a) (Some b) (by_reading _ e) (by_reading _ f) = sym e ∙ f
  valued_same n (Some a) (Some b) (by_reading _ e) (by_cut_sum o _) = grind arith
  valued_same n (Some a) (Some b) (by_cut_sum o _) (by_reading _ e) = grind arith
  valued_same n (Some a) (Some b) (by_cut_sum _ c) (by_cut_sum _ d) = ap Some (cut_sum_only m.group D w t n (m.means a) (m.means b) c d)
  valued_same n (Some a) None (by_reading _ e) (no_amount u) = grind arith
  valued_same n (Some a) None (by_cut_sum o _) (no_amount u) = absurd (o.1 u.1)
  valued_same n None (Some b) (no_amount u) (by_reading _ e) = grind arith
  valued_same n None (Some b) (no_amount u) (by_cut_sum o _) = absurd (o.1 u.1)
  valued_same n None None _ _ = refl

  module _ (old new other : ℕ → Option ℕ) (a b : Q) (x : Disputed m D t old a new) (y : Disputed m D t old b other) where
    one_unit : x.lowest ≡ y.lowest
    one_unit = let p = x.none_lower y.lowest y.part y.in_dispute in let q = y.none_lower x.lowest x.part x.in_dispute in omega arith

    disputed_net : m.means a ≡ m.means b
    disputed_net =
        x.net
        ∙ part_net m.group D w (Unread D (read_set t)) (readings m.group t) y.lowest x.part y.part (rw one_unit at x.in_dispute.part) y.in_dispute.part
        ∙ sym y.net

    -- whether unread streams join the unit to a place is decided
    joined_or_not : (k : ℕ) → Joined D (Unread D (read_set t)) x.lowest k ⊎ ¬ Joined D (Unread D (read_set t)) x.lowest k
    joined_or_not k = ⊎_elim
        (λ lt. grind (arith, x.in_dispute.part k))
        (λ past. inr (λ j. let l = joined_within (ends_within D w (Unread D (read_set t)) (λ _ u. u.0)) x.in_dispute.unit j in omega arith))
        (cases_lt k (suc D.units))

    disputed_table : (k : ℕ) → new k ≡ other k
    disputed_table k = grind (arith, one_unit, joined_or_not k, cases_lt k unit_places, x.marked k, y.marked k, x.unmarked k, y.unmarked k, x.kept k, y.kept k)

pub survey_answers_agree : {Q : Type 0} (m : Model Q) → SurveyAnswersAgree m
survey_answers_agree m D w t places old new other (Ok a) (Ok b) x y = (ap Ok (surveyed_counts m D w t old new other a b x.1 y.1), surveyed_table m D w t old new other a b x.1 y.1)
survey_answers_agree m D w t places old new other _ _ x y = grind arith

pub value_answers_agree : {Q : Type 0} (m : Model Q) → ValueAnswersAgree m
value_answers_agree m D w t n r q x y = grind (arith, valued_same m D w t n)

pub rival_answers_agree : {Q : Type 0} (m : Model Q) → RivalAnswersAgree m
rival_answers_agree m D t n first old_first second old_second r q new_first new_second other_first other_second x y = grind arith

pub dispute_answers_agree : {Q : Type 0} (m : Model Q) → DisputeAnswersAgree m
dispute_answers_agree m D w t places old new other r q x y = grind (arith, disputed_net m D w t old new other, disputed_table m D w t old new other)
