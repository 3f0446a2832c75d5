-- The theorems about flows. Assumes nothing.
use Rattle.std.proofs.Common.{◌≡◌, ℕ, Bool, false, not, ◌&&◌, ◌⊎◌, ◌==◌, Option, sym, refl, ap, ◌∙◌, inl, inr, ⊎_elim, arith}
use Rattle.std.proofs.lemmas.Bool.{cases_Bool, cases_eq, cases_lt, iff_false}
use Rattle.std.proofs.lemmas.Bool.Decides.{nat_tests}
use Rattle.quantity.specs.Group.{Group}
use Rattle.flows.specs.Consistency.{net_reading, Inconsistent, Consistent, CutSum}
use Rattle.flows.specs.Decisions.{Above, unread, linked, from_side, class, cut_sum}
use Rattle.flows.specs.declared.class.Class.TheVariants.{OutOfUse}
use Rattle.flows.specs.Drawings.{Drawing, InUse, Within}
use Rattle.flows.specs.Filling.{Fillable}
use Rattle.flows.specs.Flows.{net, Possible, PossibleBut, SomeFlow, read_set, readings}
use Rattle.flows.specs.Parts.{Unread, Others, Joined, here, along, Uncrossed, Linked}
use Rattle.flows.specs.Theorems.{SomeFlowExactlyIfConsistent, SomeConflict, ConflictExcludesFlows, FlowOrConflict, ConflictExactlyIfNoFlow, ZeroOrAnything, TwoSides, ObservableCarriesItsCutSum, RedundantCarriesOneAmount, UnobservableCarriesAnything, JustMeasuredCarriesAnything, ExactlyOneClass}
use Rattle.flows.proofs.Balances.{balanced_net, balanced_plus, balanced_difference}
use Rattle.flows.proofs.Cuts.{ends_within, side_amount, zero_at, anything_at}
use Rattle.flows.proofs.Decisions.{above_size, side_is, linked_decides, class_decides, net_short, one_part_exactly_if_linked}
use Rattle.flows.proofs.PartNets.{fill_consistent, not_both, not_neither, one_of_both}
use Rattle.flows.proofs.Filling.{flow_exists, fill_free}
use Rattle.flows.proofs.Groups.{made_up, minus_difference, same_from_difference, unit_r}
use Rattle.flows.proofs.Joins.{joined_map, joined_trans, joined_sym, joined_ends, part_uncrossed}
use Rattle.flows.proofs.Nets.{net_same}
use Rattle.flows.proofs.Paths.{on_a_path_exactly_if_linked}

-- a possible flow is possible but for the reading of n, and the other way round where n has none
module _ (G : Group) (D : Drawing) (t : ℕ → Option G.Element) where
  open G use {Element}

  pub possible_from_but : (n : ℕ) → read_set t n ≡ false → (f : ℕ → Element) → PossibleBut G D n t f → Possible G D t f
  possible_from_but n o f p = record { balanced = p.balanced; agrees = λ k us x e. grind (arith, p.agrees k us) }

  pub but_from_possible : (n : ℕ) (f : ℕ → Element) → Possible G D t f → PossibleBut G D n t f
  but_from_possible n f p = record { balanced = p.balanced; agrees = λ k us _. p.agrees k us }

-- the computed cut sum is the cut sum
pub cut_sum_is : (G : Group) (D : Drawing) (t : ℕ → Option G.Element) (m : ℕ) → Above D m → Within D → (n : ℕ) → InUse D n → (x : G.Element) → x ≡ cut_sum G D t m n → CutSum G D t n x
unfolding net
cut_sum_is G D t m above w n us x e = record {
  side = from_side D (read_set t) m n;
  from_side = side_is D (read_set t) m above w n us;
  sum = e ∙ ap G.minus (sym (net_short G D m above (from_side D (read_set t) m n) (readings G t))) ∙ minus_difference G _ _;
}

module _ (G : Group) where
  open G use {Element, plus, minus}

  flow_net : (D : Drawing) → Within D → (t : ℕ → Option Element) → SomeFlow G D t → (C : ℕ → Bool) → Uncrossed D (Unread D (read_set t)) C → net_reading G D t C ≡ G.zero
  flow_net D w t (f, p) C c = net_same G D C (readings G t) f (λ k us. grind (arith, p.agrees k us, c k)) ∙ balanced_net G D w f p.balanced C

  pub some_flow_exactly_if_consistent : SomeFlowExactlyIfConsistent G
  some_flow_exactly_if_consistent D w t = (
    λ s v _ C p _. flow_net D w t s C (part_uncrossed (Unread D (read_set t)) (ends_within D w (Unread D (read_set t)) (λ _ u. u.0)) v C p),
    λ h.
        let s = flow_exists G D w (unread D (read_set t)) (λ k _ e. grind arith) (readings G t) (λ C c. fill_consistent G D w t h C (λ k u. c k (grind arith))) in
        (s.0, record { balanced = s.1; agrees = λ k us x e. grind (arith, s.2 k) }),
  )

  -- the readings of a consistent plant, with any amount at a linked stream n, can be filled in on the unread streams other than n
  pub fill_rival : (D : Drawing) → Within D → (t : ℕ → Option Element) → Consistent G D t → (n : ℕ) → InUse D n → Linked D (read_set t) n
      → (r : ℕ → Element) → ((k : ℕ) → InUse D k → ¬ (n ≡ k) → r k ≡ readings G t k) → Fillable G D (Others (Unread D (read_set t)) n) r
  fill_rival D w t h n us j r same =
      fill_free G D (Unread D (read_set t)) (Others (Unread D (read_set t)) n) n (λ k u. ⊎_elim inr (λ d. inl (u, d)) (cases_eq k n)) us (readings G t) r j same (fill_consistent G D w t h)

  conflict_excludes : (D : Drawing) → Within D → (t : ℕ → Option Element) → SomeConflict G D t → ¬ SomeFlow G D t
  conflict_excludes D w t (C, c) flow = c.not_zero (flow_net D w t flow C c.only_read_cross)

  -- a part in dispute is a set in conflict
  conflict_from_part : (D : Drawing) → Within D → (t : ℕ → Option Element) → Inconsistent G D t → SomeConflict G D t
  conflict_from_part D w t (v, C, d) = (C, record { without_0 = d.without_0; only_read_cross = part_uncrossed (Unread D (read_set t)) (ends_within D w (Unread D (read_set t)) (λ _ u. u.0)) v C d.part; not_zero = d.not_zero })

  pub conflict_excludes_flows : ConflictExcludesFlows G
  conflict_excludes_flows D w t = (conflict_excludes D w t, λ i. conflict_excludes D w t (conflict_from_part D w t i))

  pub flow_or_conflict : FlowOrConflict G
  flow_or_conflict D w t = (λ none away. parts none (λ i. away (conflict_from_part D w t i)), parts)
    where
      parts : ¬ SomeFlow G D t → ¬ ¬ Inconsistent G D t
      parts none = not_neither G D w t (λ h. none ((some_flow_exactly_if_consistent D w t).1 h))

  pub conflict_exactly_if_no_flow : ConflictExactlyIfNoFlow G
  conflict_exactly_if_no_flow s D w t = ⊎_elim
      (λ h. let flow = (some_flow_exactly_if_consistent D w t).1 h in ((conflict_excludes D w t, λ none. absurd (none flow)), (λ _. not_both G D w t h, λ _. flow)))
      (λ i. let c = conflict_from_part D w t i in let none = conflict_excludes D w t c in ((λ _. none, λ _. c), (λ flow. absurd (none flow), λ never. absurd (never i))))
      (one_of_both G D w t s)

  pub zero_or_anything : ZeroOrAnything G
  zero_or_anything D w S n us out =
      let decides = linked_decides D S D.size (above_size D) w n us in
      ⊎_elim (λ e. inr (decides.0 e, anything_at G D w S n us out (decides.0 e))) (λ e. inl (iff_false decides e, zero_at G D w S n us (iff_false decides e))) (cases_Bool (linked D S D.size n))

  pub observable_carries_its_cut_sum : ObservableCarriesItsCutSum G
  unfolding net
  observable_carries_its_cut_sum D w t n h = (
    (_, cut_sum_is G D t D.size (above_size D) w n h.0.0 _ refl),
    λ x c f p.
        side_amount G D w (read_set t) n h.0.0 c.side c.from_side (λ j. h.1 ((on_a_path_exactly_if_linked D (read_set t) n h.0).1 j)) f (readings G t) p.balanced
        (grind arith) (λ k us _ i. grind (arith, p.agrees k us))
        ∙ minus_difference G _ _ ∙ sym c.sum,
  )

  -- by the difference of two flows, from what is said of flows that are zero on the other read streams
  module _ (D : Drawing) (w : Within D) (t : ℕ → Option Element) (n : ℕ) (us : InUse D n) where
    -- the streams read, other than n
    abbrev S : ℕ → Bool
    S k = read_set t k && not (k == n)

    one_amount : ¬ Linked D (read_set t) n → (f g : ℕ → Element) → PossibleBut G D n t f → PossibleBut G D n t g → f n ≡ g n
    one_amount off f g p q = same_from_difference G (f n) (g n) (
        zero_at G D w S n us (λ j. off (joined_map (λ k o. grind (arith, nat_tests)) j)) (λ k. plus (f k) (minus (g k))) (balanced_difference G D w f g p.balanced q.balanced)
        (λ k u i. grind (arith, nat_tests, G.inverse, p.agrees k u, q.agrees k u)))

    any_amount : Linked D (read_set t) n → (f : ℕ → Element) → PossibleBut G D n t f → (x : Element) → (g : ℕ → Element) × PossibleBut G D n t g × (g n ≡ x)
    any_amount j f p x =
        let d = anything_at G D w S n us (grind (arith, nat_tests)) (joined_map (λ k o. grind (arith, nat_tests)) j) (plus x (minus (f n))) in (
          λ k. plus (f k) (d.0 k),
          record {
            balanced = balanced_plus G D w f d.0 p.balanced d.1;
            agrees = λ k u no y e. grind (arith, nat_tests, unit_r G, p.agrees k u no y e, d.2 k u);
          },
          ap (plus (f n)) d.3 ∙ made_up G x (f n),
        )

  pub redundant_carries_one_amount : RedundantCarriesOneAmount G
  redundant_carries_one_amount D w t n h = one_amount D w t n h.0.0 (λ j. h.1 ((one_part_exactly_if_linked D (read_set t) n h.0.1).1 j))

  pub unobservable_carries_anything : UnobservableCarriesAnything G
  unobservable_carries_anything D w t n h (f, p) x =
      let g = any_amount D w t n h.0.0 ((on_a_path_exactly_if_linked D (read_set t) n h.0).0 h.1) f (but_from_possible G D t n f p) x in
      (g.0, possible_from_but G D t n h.0.1 g.0 g.1, g.2)

  pub just_measured_carries_anything : JustMeasuredCarriesAnything G
  just_measured_carries_anything D w t n h (f, p) x = any_amount D w t n h.0.0 ((one_part_exactly_if_linked D (read_set t) n h.0.1).0 h.1) f p x

-- a way along streams of S goes without n, or from an end of n without n
after_last : (D : Drawing) (S : ℕ → Type 0) (n a w : ℕ) → Joined D S a w → Joined D (Others S n) a w ⊎ (Joined D (Others S n) (D.from n) w ⊎ Joined D (Others S n) (D.to n) w)
after_last D S n a w here = inl here
after_last D S n a w (along {b = b} k s e j) = ⊎_elim (λ i. grind (arith, along)) inr (after_last D S n b w j)

pub two_sides : TwoSides
two_sides D R n h C A B c a b w lw = (
  (
    λ i. ⊎_elim (λ j. inl ((a w lw).1 j)) (λ e. ⊎_elim (λ j. inl ((a w lw).1 j)) (λ j. inr ((b w lw).1 j)) e) (after_last D (Unread D R) n (D.from n) w ((c w lw).0 i)),
    λ e. (c w lw).1 (⊎_elim (λ i. joined_map (λ _ o. o.0) ((a w lw).0 i)) (λ i. joined_trans (joined_ends n h.0) (joined_map (λ _ o. o.0) ((b w lw).0 i))) e),
  ),
  λ (i, j). h.1 ((on_a_path_exactly_if_linked D R n h.0).1 (joined_trans ((a w lw).0 i) (joined_sym ((b w lw).0 j)))),
)

pub exactly_one_class : ExactlyOneClass
exactly_one_class D w R n = ⊎_elim
    (λ known. let is = class_decides D R w D.size (above_size D) n known in (class D R D.size n, (is _).1 refl, λ d. (is d).0))
    (λ past. (OutOfUse, (λ us. omega arith), λ d h. grind arith))
    (cases_lt n D.size)
