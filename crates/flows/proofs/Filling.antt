-- Amounts filled in one stream at a time. Assumes nothing.
--
-- A loop over the streams without an amount starts with `fill_start`, takes `fill_skip` or `fill_next` at each, in any
-- order, and ends with `fill_done`.
use Rattle.std.proofs.Common.{◌≡◌, ℕ, zero, suc, ◌<◌, ◌≤◌, Bool, true, false, not, ◌&&◌, ◌⊎◌, ◌==◌, sym, refl, ap, ◌∙◌, ⊎_elim, arith}
use Rattle.std.proofs.lemmas.Bool.{cases_Bool, eqb-true}
use Rattle.std.proofs.lemmas.Bool.Decides.{nat_tests}
use Rattle.quantity.specs.Group.{Group}
use Rattle.quantity.proofs.GroupSums.{sum_same}
use Rattle.flows.specs.Decisions.{label}
use Rattle.flows.specs.Drawings.{Drawing, InUse, Within}
use Rattle.flows.specs.Filling.{Fillable, FillSide}
use Rattle.flows.specs.Flows.{pick, net, Balanced}
use Rattle.flows.specs.Labels.{Below, Labels}
use Rattle.flows.specs.Parts.{Joined, Uncrossed}
use Rattle.flows.proofs.Computed.{label_is}
use Rattle.flows.proofs.Groups.{unit_r, minus_zero}
use Rattle.flows.proofs.Joins.{joined_uncrossed}
use Rattle.flows.proofs.Nets.{crossing, net_is, net_plus, net_same, net_from_not, net_less, balanced_from_nets}
use Rattle.flows.proofs.Sums.{sum_one}

-- labels by the streams of S give the side of the from place of n
pub labels_side : (D : Drawing) (S : ℕ → Type 0) → Within D → (n : ℕ) (label : ℕ → ℕ) → D.from n ≤ D.units → Labels D S label → FillSide D S n (λ w. label w == label (D.from n))
labels_side D S within n label fl h = record {
  self = grind (arith, nat_tests);
  uncrossed = λ k b. grind (arith, h.alike k b);
  from = λ k us y. h.joined _ _ fl (within.from k us) (sym (eqb-true _ _ y));
  to = λ k us y. h.joined _ _ fl (within.to k us) (sym (eqb-true _ _ y));
}

module _ (G : Group) (D : Drawing) where
  open G use {Element, plus, minus, unit, inverse}

  -- x more at stream n
  abbrev pub bump : (ℕ → Element) → ℕ → Element → ℕ → Element
  bump r n x k = plus (r k) (pick G (n == k) x)

  -- at the other streams nothing is added, and at n, where it had zero, x stands
  pub bump_other : (r : ℕ → Element) (n : ℕ) (x : Element) (k : ℕ) → ¬ (n ≡ k) → bump r n x k ≡ r k
  bump_other r n x k d = grind (arith, nat_tests, unit_r G)

  pub bump_same : (r : ℕ → Element) (n : ℕ) (x : Element) (k : ℕ) → n ≡ k → r n ≡ G.zero → bump r n x k ≡ x
  bump_same r n x k e free = grind (arith, nat_tests, unit)

  pub net_bump : (C : ℕ → Bool) (r : ℕ → Element) (n : ℕ) (x : Element) → InUse D n
      → net G D C (bump r n x) ≡ plus (net G D C r) (plus (pick G (C (D.from n)) x) (minus (pick G (C (D.to n)) x)))
  unfolding crossing
  net_bump C r n x us =
      net_plus G D C r (λ k. pick G (n == k) x)
      ∙ ap (plus (net G D C r)) (
      net_is G D C (λ k. pick G (n == k) x)
      ∙ sum_same G D.size _ (λ k. pick G (n == k) (crossing G D C (λ _. x) k)) (λ k _. grind (arith, unit, minus_zero G))
      ∙ sum_one G D.size n (crossing G D C (λ _. x)) us.0
      ∙ grind (arith, us.1))

  -- of a set and its complement one has place v, and one has not
  from_one_side : (S : ℕ → Type 0) (r : ℕ → Element) (v : ℕ) (b : Bool) → ((C : ℕ → Bool) → Uncrossed D S C → C v ≡ b → net G D C r ≡ G.zero) → Fillable G D S r
  from_one_side S r v b h C c = ⊎_elim (h C c) (λ q. net_from_not G D C r (h (λ w. not (C w)) (λ k s. ap not (c k s)) q)) (grind arith)

  -- sets with the surroundings need no condition of their own
  pub fill_start : (S : ℕ → Type 0) (r : ℕ → Element) → ((C : ℕ → Bool) → Uncrossed D S C → C 0 ≡ false → net G D C r ≡ G.zero) → Fillable G D S r
  fill_start S r = from_one_side S r 0 false

  -- a set that n alone of S may cross is uncrossed where n has both ends in it or both outside
  uncrossed_more : (S T : ℕ → Type 0) (n : ℕ) → ((k : ℕ) → S k → T k ⊎ (k ≡ n)) → (C : ℕ → Bool) → Uncrossed D T C → C (D.from n) ≡ C (D.to n) → Uncrossed D S C
  uncrossed_more S T n but C c flat k s = grind (arith, but k s, c k)

  -- S is T, and n besides
  module _ (S T : ℕ → Type 0) (n : ℕ) (but : (k : ℕ) → S k → T k ⊎ (k ≡ n)) (us : InUse D n) where
    bump_with : (r : ℕ → Element) → Fillable G D S r → (B : ℕ → Bool) → FillSide D T n B
        → (C : ℕ → Bool) → Uncrossed D T C → C (D.from n) ≡ true → net G D C (bump r n (minus (net G D B r))) ≡ G.zero
    bump_with r h B side C c i = net_bump C r n _ us ∙ ⊎_elim
        (λ q. grind (arith, unit, inverse, h C (uncrossed_more S T n but C c (i ∙ sym q))))
        (λ q. grind (arith, unit, unit_r G, minus_zero G, inverse, whole, h E (uncrossed_more S T n but E (λ k b. grind (arith, c k b, side.uncrossed k b)) (grind (arith, side.self)))))
        (cases_Bool (C (D.to n)))
      where
        E : ℕ → Bool
        E w = C w && not (B w)

        whole : plus (net G D E r) (net G D B r) ≡ net G D C r
        whole = net_less G D B C r (λ k u. (λ y. sym (joined_uncrossed C c (side.from k u y)) ∙ i, λ y. sym (joined_uncrossed C c (side.to k u y)) ∙ i))

    fill_bump : (r : ℕ → Element) → Fillable G D S r → (B : ℕ → Bool) → FillSide D T n B → Fillable G D T (bump r n (minus (net G D B r)))
    fill_bump r h B side = from_one_side T _ (D.from n) true (bump_with r h B side)

    -- n is given the amount that makes the net of the side of its from place zero
    pub fill_next : (r filled : ℕ → Element) (B : ℕ → Bool) → FillSide D T n B → r n ≡ G.zero → filled n ≡ minus (net G D B r)
        → ((k : ℕ) → InUse D k → ¬ (n ≡ k) → filled k ≡ r k) → Fillable G D S r → Fillable G D T filled
    fill_next r filled B side free new old h C c =
        net_same G D C filled (bump r n (minus (net G D B r))) (λ k u. grind (arith, nat_tests, unit, unit_r G, old k u)) ∙ fill_bump r h B side C c

    -- n may be given any amount where streams of T join its ends
    pub fill_free : (r filled : ℕ → Element) → Joined D T (D.from n) (D.to n)
        → ((k : ℕ) → InUse D k → ¬ (n ≡ k) → filled k ≡ r k) → Fillable G D S r → Fillable G D T filled
    fill_free r filled j old h C c =
        let flat : C (D.from n) ≡ C (D.to n) = joined_uncrossed C c j in
        net_same G D C filled r (λ k u. grind (arith, old k u)) ∙ h C (uncrossed_more S T n but C c flat)

  pub fill_skip : (S T : ℕ → Type 0) → ((k : ℕ) → S k → T k) → (r : ℕ → Element) → Fillable G D S r → Fillable G D T r
  fill_skip S T more r h C c = h C (λ k s. c k (more k s))

  pub fill_done : (S : ℕ → Type 0) (r : ℕ → Element) → ((k : ℕ) → ¬ S k) → Fillable G D S r → Balanced G D r
  fill_done S r none h = balanced_from_nets G D r (λ C. h C (λ k s. absurd (none k s)))

-- r can be filled in: a balanced flow has its amounts wherever e fails
module _ (G : Group) (D : Drawing) (within : Within D) (e : ℕ → Bool) (used : (k : ℕ) → k < D.size → e k ≡ true → D.used k ≡ true) where
  open G use {Element, minus}

  abbrev pub Filled : (ℕ → Element) → Type 0
  Filled r = (f : ℕ → Element) × Balanced G D f × ((k : ℕ) → e k ≡ false → f k ≡ r k)

  fill_below : (n : ℕ) → n ≤ D.size → (r : ℕ → Element) → Fillable G D (Below n e) r → Filled r
  fill_below zero le r h = (r, fill_done G D (Below 0 e) r (λ k b. omega (arith, b.0)) h, λ k _. refl)
  fill_below (suc n) le r h = ⊎_elim
      (λ i.
      let us : InUse D n = (omega arith, used n (omega arith) i) in
      let side = labels_side D (Below n e) within n (label D e n) (within.from n us) (label_is D e within used n (omega arith)) in
      let s = fill_below n (omega arith) _ (fill_bump G D (Below (suc n) e) (Below n e) n (λ k b. grind arith) us r h _ side) in
      (s.0, s.1, λ k o. grind (arith, nat_tests, unit_r G, s.2 k o)))
      (λ o. fill_below n (omega arith) r (fill_skip G D (Below (suc n) e) (Below n e) (λ k b. grind arith) r h))
      (cases_Bool (e n))

  pub flow_exists : (r : ℕ → Element) → Fillable G D (Below D.size e) r → Filled r
  flow_exists = fill_below D.size (omega arith)
