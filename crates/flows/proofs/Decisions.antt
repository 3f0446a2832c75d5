-- The computed parts, sides, links and classes are those of the definitions. Assumes nothing.
use Rattle.std.proofs.Common.{◌≡◌, ℕ, ◌<◌, ◌≤◌, Bool, true, false, ◌↔◌, IsTrue, ap₂, arith}
use Rattle.std.proofs.lemmas.Bool.Decides.{nat_tests}
use Rattle.quantity.specs.Group.{Group}
use Rattle.flows.specs.Classes.{EndsInOnePart, Is}
use Rattle.flows.specs.Decisions.{Above, unread, unread_but, label, linked, class, part, from_side}
use Rattle.flows.specs.declared.class.Class.{Class}
use Rattle.flows.specs.declared.class.Class.TheVariants.{Observable, Unobservable, Redundant, JustMeasured}
use Rattle.flows.specs.Drawings.{Drawing, InUse, Within}
use Rattle.flows.specs.Flows.{total_below, total, net, net_below}
use Rattle.flows.specs.Labels.{Below, Labels}
use Rattle.flows.specs.Parts.{Unread, Others, Part, Linked, FromSide}
use Rattle.flows.specs.Paths.{ClosedPath}
use Rattle.flows.proofs.Computed.{label_is}
use Rattle.flows.proofs.Joins.{joined_map}
use Rattle.flows.proofs.Merging.{labels_decide, labels_map, labels_part}
use Rattle.flows.proofs.Paths.{joined_from_closed_path, on_a_path_exactly_if_linked}
use Rattle.flows.proofs.Sums.{sum_short}

-- a drawing's own size is above all its streams
pub above_size : (D : Drawing) → Above D D.size
above_size D = record { size = omega arith; unused = λ k le us. omega arith }

module _ (D : Drawing) (R : ℕ → Bool) where
  -- streams that pass the tests are in use
  pub unread_used : (k : ℕ) → unread D R k ≡ true → D.used k ≡ true
  unread_used k e = grind arith

  pub unread_but_used : (n k : ℕ) → unread_but D R n k ≡ true → D.used k ≡ true
  unread_but_used n k e = grind arith

  module _ (m : ℕ) (above : Above D m) where
    -- a stream in use is below m
    pub below : (k : ℕ) → InUse D k → k < m
    below k us = grind (arith, above.unused k)

    -- the streams below m that pass the tests are the unread ones, and those other than n
    pub to_unread : (k : ℕ) → Below m (unread D R) k → Unread D R k
    to_unread k b = grind arith

    pub from_unread : (k : ℕ) → Unread D R k → Below m (unread D R) k
    from_unread k u = grind arith

    pub to_others : (n k : ℕ) → Below m (unread_but D R n) k → Others (Unread D R) n k
    to_others n k b = grind (arith, nat_tests)

    pub from_others : (n k : ℕ) → Others (Unread D R) n k → Below m (unread_but D R n) k
    from_others n k o = grind (arith, nat_tests)

module _ (D : Drawing) (R : ℕ → Bool) (m : ℕ) (above : Above D m) (within : Within D) where
  others_labels : (n : ℕ) → Labels D (Others (Unread D R) n) (label D (unread_but D R n) m)
  others_labels n = labels_map D (label D (unread_but D R n) m) (to_others D R m above n) (from_others D R m above n) (label_is D (unread_but D R n) within (λ k _. unread_but_used D R n k) m above.size)

  pub part_is : (v : ℕ) → v ≤ D.units → Part D (Unread D R) v (part D R m v)
  part_is = labels_part D (Unread D R) (label D (unread D R) m)
      (labels_map D (label D (unread D R) m) (to_unread D R m above) (from_unread D R m above) (label_is D (unread D R) within (λ k _. unread_used D R k) m above.size))

  pub side_is : (n : ℕ) → InUse D n → FromSide D R n (from_side D R m n)
  side_is n us = labels_part D (Others (Unread D R) n) (label D (unread_but D R n) m) (others_labels n) (D.from n) (within.from n us)

  -- the ends of n have one label exactly if the other unread streams join them
  pub linked_decides : (n : ℕ) → InUse D n → IsTrue (linked D R m n) ↔ Linked D R n
  linked_decides n us = labels_decide D (Others (Unread D R) n) (label D (unread_but D R n) m) (others_labels n) (D.from n) (D.to n) (within.from n us) (within.to n us)

-- a link joins the ends of n in its part
pub one_part_from_linked : (D : Drawing) (R : ℕ → Bool) (n : ℕ) → Linked D R n → EndsInOnePart D R n
one_part_from_linked D R n j = joined_map (λ k o. o.0) j

-- a read stream is none of the unread ones
pub one_part_exactly_if_linked : (D : Drawing) (R : ℕ → Bool) (n : ℕ) → R n ≡ true → EndsInOnePart D R n ↔ Linked D R n
one_part_exactly_if_linked D R n i = (λ j. joined_map (λ k u. (u, grind arith)) j, one_part_from_linked D R n)

-- the rest of a closed path links n, read or not
pub linked_from_path : (D : Drawing) (R : ℕ → Bool) (n : ℕ) → ClosedPath D (Unread D R) n → Linked D R n
linked_from_path D R n c = joined_from_closed_path n c

-- a link decides the class of a stream in use
module _ (D : Drawing) (R : ℕ → Bool) (n : ℕ) (us : InUse D n) where
  pub class_unlinked : ¬ Linked D R n → (R n ≡ true → Is D R Redundant n) × (R n ≡ false → Is D R Observable n)
  class_unlinked off = grind (arith, one_part_exactly_if_linked D R n, on_a_path_exactly_if_linked D R n)

  pub class_linked : Linked D R n → (R n ≡ true → Is D R JustMeasured n) × (R n ≡ false → Is D R Unobservable n)
  class_linked j = grind (arith, one_part_exactly_if_linked D R n, on_a_path_exactly_if_linked D R n)

-- the computed class is the class, and the only one
pub class_decides : (D : Drawing) (R : ℕ → Bool) → Within D → (m : ℕ) → Above D m → (n : ℕ) → n < D.size → (c : Class) → Is D R c n ↔ (c ≡ class D R m n)
class_decides D R within m above n known c = grind (arith, linked_decides D R m above within n, one_part_exactly_if_linked D R n, on_a_path_exactly_if_linked D R n)

module _ (G : Group) (D : Drawing) (m : ℕ) (above : Above D m) where
  open G use {Element}

  -- streams from m on add nothing
  pub total_short : (test : ℕ → Bool) (f : ℕ → Element) → total G D test f ≡ total_below G D m test f
  unfolding total
  total_short test f = sum_short G m D.size _ above.size (λ k le lt. grind (arith, above.unused k le))

  pub net_short : (C : ℕ → Bool) (f : ℕ → Element) → net G D C f ≡ net_below G D m C f
  unfolding net
  net_short C f = ap₂ (λ x y. G.plus x (G.minus y)) (total_short _ f) (total_short _ f)
