-- What the definitions say, computed. Assumes nothing.
--
-- These are not definitions of the subject: a theorem says that they give what the definitions say, so that what a small plant
-- shows can be proved by computing. m is a number above all streams in use.
--
-- Above D m            m is at most the size of D, and no stream from m on is in use
-- unread D R k         whether stream k is unread
-- unread_but D R n k   .. and is not n
-- merged a b xs        the labels xs, with the label of place a in place of that of place b
-- labels D e n         a label for each place: its own number, merged along each stream below n that passes e
-- label D e n w        the label of place w
-- linked D R m n       whether unread streams other than n join the two ends of n
-- class D R m n        the class of stream n
-- part D R m v         the part of unit v
-- from_side D R m n    the side of the from unit of n
-- cut_sum G D t m n    the cut sum of n
--
-- These compare amounts by s:
-- undisputed G s D t m v      whether the part of v has place 0, or the net amount zero
-- all_undisputed G s D t m n  .. for each unit below n
-- consistent G s D t m        .. for every unit
use Rattle.std.specs.Prelude.{ℕ, zero, suc, ◌≤◌, Bool, true, if◌then◌else◌, not, ◌&&◌, ◌||◌, List, map, Option, ◌==◌, slice_index}
use Rattle.std.specs.List.{range_with_len}
use Rattle.quantity.specs.Group.{Group}
use Rattle.flows.specs.Comparisons.{Comparison}
use Rattle.flows.specs.declared.class.Class.{Class}
use Rattle.flows.specs.declared.class.Class.TheVariants.{OutOfUse, Observable, Unobservable, Redundant, JustMeasured}
use Rattle.flows.specs.Drawings.{Drawing, InUse}
use Rattle.flows.specs.Flows.{net_below, read_set, readings}

pub record Above (D : Drawing) (m : ℕ) : Type 0 where
  pub size : m ≤ D.size
  pub unused : (k : ℕ) → m ≤ k → ¬ InUse D k

abbrev pub unread : Drawing → (ℕ → Bool) → ℕ → Bool
unread D R k = D.used k && not (R k)

abbrev pub unread_but : Drawing → (ℕ → Bool) → ℕ → ℕ → Bool
unread_but D R n k = unread D R k && not (k == n)

abbrev pub merged : ℕ → ℕ → List ℕ → List ℕ
merged a b xs = map (λ x. if x == slice_index xs b then slice_index xs a else x) xs

abbrev pub labels : Drawing → (ℕ → Bool) → ℕ → List ℕ
labels D e zero = range_with_len 0 (suc D.units)
labels D e (suc n) = if e n then merged (D.from n) (D.to n) (labels D e n) else labels D e n

abbrev pub label : Drawing → (ℕ → Bool) → ℕ → ℕ → ℕ
label D e n w = slice_index (labels D e n) w

abbrev pub linked : Drawing → (ℕ → Bool) → ℕ → ℕ → Bool
linked D R m n = label D (unread_but D R n) m (D.from n) == label D (unread_but D R n) m (D.to n)

abbrev pub class : Drawing → (ℕ → Bool) → ℕ → ℕ → Class
class D R m n =
    if D.used n then (if R n then (if linked D R m n then JustMeasured else Redundant) else (if linked D R m n then Unobservable else Observable))
    else OutOfUse

abbrev pub part : Drawing → (ℕ → Bool) → ℕ → ℕ → ℕ → Bool
part D R m v w = label D (unread D R) m w == label D (unread D R) m v

abbrev pub from_side : Drawing → (ℕ → Bool) → ℕ → ℕ → ℕ → Bool
from_side D R m n w = label D (unread_but D R n) m w == label D (unread_but D R n) m (D.from n)

abbrev pub cut_sum : (G : Group) (D : Drawing) (t : ℕ → Option G.Element) → ℕ → ℕ → G.Element
cut_sum G D t m n = G.minus (net_below G D m (from_side D (read_set t) m n) (readings G t))

module _ (G : Group) (s : Comparison G) (D : Drawing) (t : ℕ → Option G.Element) (m : ℕ) where
  abbrev pub undisputed : ℕ → Bool
  undisputed v = part D (read_set t) m v 0 || s.same (net_below G D m (part D (read_set t) m v) (readings G t)) G.zero

  abbrev pub all_undisputed : ℕ → Bool
  all_undisputed zero = true
  all_undisputed (suc v) = all_undisputed v && undisputed v

  abbrev pub consistent : Bool
  consistent = all_undisputed (suc D.units)
