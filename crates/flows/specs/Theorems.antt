-- What is true of every drawing, every table of readings and every flow. Assumes nothing.
--
-- The statements that speak of amounts hold for every drawing whose streams lie within its places. A flow is possible if it is
-- balanced and agrees with the readings.
--
-- BalancedFlowsHaveNoNet G                 a balanced flow has net zero over every set of places
-- SomeFlowExactlyIfConsistent G            some flow is possible exactly if each part without place 0 has net zero
-- SomeConflict G D t                       some set of places is in conflict
-- ConflictExcludesFlows G                  where a set is in conflict no flow is possible, nor where the plant is inconsistent
-- FlowOrConflict G                         it cannot be that no flow is possible and no set is in conflict, nor that no flow is
--                                          possible and the plant is not inconsistent
-- ConflictExactlyIfNoFlow G                some set is in conflict exactly if no flow is possible, and some flow is possible
--                                          exactly if the plant is not inconsistent, where amounts can be told apart by a test
-- ZeroAt G D S n                           all balanced flows that are zero on S are zero at n
-- AnythingAt G D S n                       for each amount, some balanced flow that is zero on S carries it at n
-- ZeroOrAnything G                         for a stream n in use outside S it is one or the other: anything if streams outside
--                                          S other than n join the ends of n, and zero if they do not
-- TwoSides                                 without an observable stream its part falls into two sides: each place of the part
--                                          is on one of them, and none on both
-- ObservableCarriesItsCutSum G             an observable stream has a cut sum, and carries it in every possible flow
-- RedundantCarriesOneAmount G              a redundant stream carries one amount in all balanced flows that agree with the
--                                          other readings
-- UnobservableCarriesAnything G            where some flow is possible, for each amount one carries it at an unobservable stream
-- JustMeasuredCarriesAnything G            .. of the balanced flows that agree with the other readings, at a just-measured one
-- OnAPathExactlyIfLinked                   an unread stream is on a closed path of unread streams exactly if unread streams
--                                          other than itself join its ends
-- ExactlyOneClass                          every number has exactly one class
-- Decided G D t m                          the computed class, cut sum and consistency are those of the definitions
-- DecisionsAreRight G                      .. always
-- SurveyAnswersAgree m                     two answers that survey may give are one, and so are the tables
-- ValueAnswersAgree m                      two answers that value may give mean the same
-- RivalAnswersAgree m                      two answers that rival may give are both accepted or refused by one number, and the
--                                          places of numbers out of use hold the same
-- DisputeAnswersAgree m                    two answers that dispute may give mean the same, and the tables are one
use Rattle.std.specs.Prelude.{◌≡◌, ℕ, suc, ◌<◌, ◌≤◌, Bool, true, false, not, ◌⊎◌, ◌↔◌, IsTrue, Option, Result}
use Rattle.quantity.specs.Group.{Group}
use Rattle.quantity.specs.Model.{Model}
use Rattle.flows.specs.Classes.{Is}
use Rattle.flows.specs.Comparisons.{Comparison}
use Rattle.flows.specs.Consistency.{Inconsistent, Consistent, Conflict, CutSum}
use Rattle.flows.specs.Decisions as computed
use Rattle.flows.specs.declared.class.Class.{Class}
use Rattle.flows.specs.declared.class.Class.TheVariants.{Observable, Unobservable, Redundant, JustMeasured}
use Rattle.flows.specs.declared.fault.QuestionFault.{QuestionFault}
use Rattle.flows.specs.Drawings.{Drawing, InUse, Within}
use Rattle.flows.specs.Flows.{net, Balanced, ZeroOn, Possible, PossibleBut, SomeFlow, read_set}
use Rattle.flows.specs.Parts.{Unread, Part, Linked, FromSide, ToSide}
use Rattle.flows.specs.Paths.{ClosedPath}
use Rattle.flows.specs.Questions.{meant, Surveys, Values, Rivals, Disputes}
use Rattle.flows.specs.Refusals.{accepted}

abbrev pub BalancedFlowsHaveNoNet : Group → Type 0
BalancedFlowsHaveNoNet G = (D : Drawing) → Within D → (f : ℕ → G.Element) → Balanced G D f → (C : ℕ → Bool) → net G D C f ≡ G.zero

abbrev pub SomeFlowExactlyIfConsistent : Group → Type 0
SomeFlowExactlyIfConsistent G = (D : Drawing) → Within D → (t : ℕ → Option G.Element) → SomeFlow G D t ↔ Consistent G D t

abbrev pub SomeConflict : (G : Group) → Drawing → (ℕ → Option G.Element) → Type 0
SomeConflict G D t = (C : ℕ → Bool) × Conflict G D t C

abbrev pub ConflictExcludesFlows : Group → Type 0
ConflictExcludesFlows G = (D : Drawing) → Within D → (t : ℕ → Option G.Element)
    → (SomeConflict G D t → ¬ SomeFlow G D t) × (Inconsistent G D t → ¬ SomeFlow G D t)

abbrev pub FlowOrConflict : Group → Type 0
FlowOrConflict G = (D : Drawing) → Within D → (t : ℕ → Option G.Element)
    → (¬ SomeFlow G D t → ¬ ¬ SomeConflict G D t) × (¬ SomeFlow G D t → ¬ ¬ Inconsistent G D t)

abbrev pub ConflictExactlyIfNoFlow : Group → Type 0
ConflictExactlyIfNoFlow G = Comparison G → (D : Drawing) → Within D → (t : ℕ → Option G.Element)
    → (SomeConflict G D t ↔ ¬ SomeFlow G D t) × (SomeFlow G D t ↔ ¬ Inconsistent G D t)

abbrev pub ZeroAt : (G : Group) → Drawing → (ℕ → Bool) → ℕ → Type 0
ZeroAt G D S n = (f : ℕ → G.Element) → Balanced G D f → ZeroOn G D S f → f n ≡ G.zero

abbrev pub AnythingAt : (G : Group) → Drawing → (ℕ → Bool) → ℕ → Type 0
AnythingAt G D S n = (x : G.Element) → (f : ℕ → G.Element) × Balanced G D f × ZeroOn G D S f × (f n ≡ x)

-- S stands for the set of read streams in `Linked`
abbrev pub ZeroOrAnything : Group → Type 0
ZeroOrAnything G = (D : Drawing) → Within D → (S : ℕ → Bool) (n : ℕ) → InUse D n → S n ≡ false
    → (¬ Linked D S n × ZeroAt G D S n) ⊎ (Linked D S n × AnythingAt G D S n)

abbrev pub TwoSides : Type 0
TwoSides = (D : Drawing) (R : ℕ → Bool) (n : ℕ) → Is D R Observable n
    → (C A B : ℕ → Bool) → Part D (Unread D R) (D.from n) C → FromSide D R n A → ToSide D R n B → (w : ℕ) → w ≤ D.units
    → ((C w ≡ true) ↔ ((A w ≡ true) ⊎ (B w ≡ true))) × ¬ ((A w ≡ true) × (B w ≡ true))

abbrev pub ObservableCarriesItsCutSum : Group → Type 0
ObservableCarriesItsCutSum G = (D : Drawing) → Within D → (t : ℕ → Option G.Element) (n : ℕ) → Is D (read_set t) Observable n
    → ((x : G.Element) × CutSum G D t n x) × ((x : G.Element) → CutSum G D t n x → (f : ℕ → G.Element) → Possible G D t f → f n ≡ x)

abbrev pub RedundantCarriesOneAmount : Group → Type 0
RedundantCarriesOneAmount G = (D : Drawing) → Within D → (t : ℕ → Option G.Element) (n : ℕ) → Is D (read_set t) Redundant n
    → (f g : ℕ → G.Element) → PossibleBut G D n t f → PossibleBut G D n t g → f n ≡ g n

abbrev pub UnobservableCarriesAnything : Group → Type 0
UnobservableCarriesAnything G = (D : Drawing) → Within D → (t : ℕ → Option G.Element) (n : ℕ) → Is D (read_set t) Unobservable n
    → SomeFlow G D t → (x : G.Element) → (f : ℕ → G.Element) × Possible G D t f × (f n ≡ x)

abbrev pub JustMeasuredCarriesAnything : Group → Type 0
JustMeasuredCarriesAnything G = (D : Drawing) → Within D → (t : ℕ → Option G.Element) (n : ℕ) → Is D (read_set t) JustMeasured n
    → ((f : ℕ → G.Element) × PossibleBut G D n t f) → (x : G.Element) → (f : ℕ → G.Element) × PossibleBut G D n t f × (f n ≡ x)

abbrev pub OnAPathExactlyIfLinked : Type 0
OnAPathExactlyIfLinked = (D : Drawing) (R : ℕ → Bool) (n : ℕ) → Unread D R n → ClosedPath D (Unread D R) n ↔ Linked D R n

abbrev pub ExactlyOneClass : Type 0
ExactlyOneClass = (D : Drawing) → Within D → (R : ℕ → Bool) (n : ℕ) → (c : Class) × Is D R c n × ((d : Class) → Is D R d n → d ≡ c)

-- consistency is decided where amounts can be compared; class and cut sum always
pub record Decided (G : Group) (D : Drawing) (t : ℕ → Option G.Element) (m : ℕ) : Type 0 where
  pub class : (n : ℕ) → n < D.size → (c : Class) → Is D (read_set t) c n ↔ (c ≡ computed.class D (read_set t) m n)
  pub cut_sum : (n : ℕ) → InUse D n → (x : G.Element) → CutSum G D t n x ↔ (x ≡ computed.cut_sum G D t m n)
  pub consistent : (s : Comparison G) → IsTrue (computed.consistent G s D t m) ↔ Consistent G D t
  pub inconsistent : (s : Comparison G) → IsTrue (not (computed.consistent G s D t m)) ↔ Inconsistent G D t

abbrev pub DecisionsAreRight : Group → Type 0
DecisionsAreRight G = (D : Drawing) → Within D → (t : ℕ → Option G.Element) (m : ℕ) → computed.Above D m → Decided G D t m

abbrev pub SurveyAnswersAgree : {Q : Type 0} → Model Q → Type 0
SurveyAnswersAgree m = (D : Drawing) → Within D → (t : ℕ → Option m.group.Element) (places : ℕ) (old new other : ℕ → Option ℕ) (r q : Result (ℕ × ℕ × ℕ × ℕ) QuestionFault)
    → Surveys m D t places old r new → Surveys m D t places old q other → (r ≡ q) × ((k : ℕ) → new k ≡ other k)

abbrev pub ValueAnswersAgree : {Q : Type 0} → Model Q → Type 0
ValueAnswersAgree {Q} m = (D : Drawing) → Within D → (t : ℕ → Option m.group.Element) (n : ℕ) (r q : Result (Option Q) QuestionFault)
    → Values m D t n r → Values m D t n q → accepted (meant m) r ≡ accepted (meant m) q

abbrev pub RivalAnswersAgree : {Q : Type 0} → Model Q → Type 0
RivalAnswersAgree {Q} m = (D : Drawing) (t : ℕ → Option m.group.Element) (n : ℕ) (first : ℕ) (old_first : ℕ → Option Q) (second : ℕ) (old_second : ℕ → Option Q)
    (r q : Result (Unit {0}) QuestionFault) (new_first new_second other_first other_second : ℕ → Option Q)
    → Rivals m D t n first old_first second old_second r new_first new_second → Rivals m D t n first old_first second old_second q other_first other_second
    → (r ≡ q) × ((k : ℕ) → ¬ InUse D (suc k) → (new_first k ≡ other_first k) × (new_second k ≡ other_second k))

abbrev pub DisputeAnswersAgree : {Q : Type 0} → Model Q → Type 0
DisputeAnswersAgree {Q} m = (D : Drawing) → Within D → (t : ℕ → Option m.group.Element) (places : ℕ) (old new other : ℕ → Option ℕ) (r q : Result Q QuestionFault)
    → Disputes m D t places old r new → Disputes m D t places old q other → (accepted m.means r ≡ accepted m.means q) × ((w : ℕ) → new w ≡ other w)
