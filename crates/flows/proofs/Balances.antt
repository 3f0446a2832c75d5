-- A balanced flow has no net amount over any set of places. Assumes nothing.
use Rattle.std.proofs.Common.{◌≡◌, ℕ, zero, suc, ◌≤◌, Bool, true, false, not, ◌&&◌, ◌==◌, sym, refl, ap, ◌∙◌, ap₂, inl, inr, ⊎_elim, arith}
use Rattle.std.proofs.lemmas.Bool.{cases_Bool, and_left}
use Rattle.quantity.specs.Group.{Group}
use Rattle.quantity.specs.Sums.{sum}
use Rattle.quantity.proofs.GroupSums.{sum_same}
use Rattle.flows.specs.Drawings.{Drawing, InUse, Within}
use Rattle.flows.specs.Filling.{Fillable}
use Rattle.flows.specs.Flows.{pick, net, Balanced}
use Rattle.flows.specs.Labels.{Below}
use Rattle.flows.specs.Parts.{here, Part, Uncrossed}
use Rattle.flows.proofs.Filling.{fill_start}
use Rattle.flows.proofs.Groups.{minus_zero}
use Rattle.flows.proofs.Joins.{joined_uncrossed, part_uncrossed}
use Rattle.flows.proofs.Merging.{labels_start, labels_part}
use Rattle.flows.proofs.Nets.{crossing, net_is, net_none, net_plus, net_less, alone, alone_from_balanced, balanced_from_nets}
use Rattle.flows.proofs.Sums.{sum_difference, sum_pick, sum_swap, sum_one}

module _ (G : Group) (D : Drawing) (within : Within D) where
  open G use {Element, plus, minus, unit, inverse}

  -- a set without places has no net amount
  pub net_empty : (C : ℕ → Bool) (f : ℕ → Element) → ((v : ℕ) → v ≤ D.units → C v ≡ false) → net G D C f ≡ G.zero
  net_empty C f out = net_none G D C f (λ k us. inr (out (D.from k) (within.from k us) ∙ sym (out (D.to k) (within.to k us))))

  -- a set's net amount, place by place
  pub net_places : (C : ℕ → Bool) (f : ℕ → Element) → net G D C f ≡ sum G (suc D.units) (λ v. pick G (C v) (net G D (alone v) f))
  unfolding crossing
  net_places C f =
      net_is G D C f
      ∙ sum_same G D.size _ _ (λ k lt.
      grind (arith, within.from k, within.to k, sum_one G (suc D.units) (D.from k) (λ v. pick G (C v) (f k)), sum_one G (suc D.units) (D.to k) (λ v. pick G (C v) (f k)))
      ∙ sym (
      sum_same G (suc D.units) _ _ (λ v _. grind (arith, unit, minus_zero G))
      ∙ sum_pick G (suc D.units) (D.used k) _
      ∙ ap (pick G (D.used k)) (sum_difference G (suc D.units) (λ v. pick G (D.from k == v) (pick G (C v) (f k))) (λ v. pick G (D.to k == v) (pick G (C v) (f k))))))
      ∙ sum_swap G D.size (suc D.units) (λ k v. pick G (C v) (crossing G D (alone v) f k))
      ∙ sum_same G (suc D.units) _ _ (λ v _. sum_pick G D.size (C v) (crossing G D (alone v) f) ∙ ap (pick G (C v)) (sym (net_is G D (alone v) f)))

  -- where each part without place 0 has net zero, so has each set that no stream of S crosses: it is made of whole parts
  module _ (S : ℕ → Type 0) (used : (k : ℕ) → S k → InUse D k) (own : ℕ → ℕ → Bool) (own_is : (v : ℕ) → v ≤ D.units → Part D S v (own v))
      (r : ℕ → Element) (none : (v : ℕ) → v ≤ D.units → own v 0 ≡ false → net G D (own v) r ≡ G.zero) where
    -- a set with places below m alone is taken apart, one part at a time
    strip : (m : ℕ) → m ≤ suc D.units → (C : ℕ → Bool) → Uncrossed D S C → C 0 ≡ false → ((w : ℕ) → w ≤ D.units → m ≤ w → C w ≡ false) → net G D C r ≡ G.zero
    strip zero le C c o low = net_empty C r (λ w lw. low w lw (omega arith))
    strip (suc m) le C c o low = ⊎_elim
        (λ i.
        let lm : m ≤ D.units = omega arith in
        let inside : (w : ℕ) → w ≤ D.units → own m w ≡ true → C w ≡ true = λ w lw b. sym (joined_uncrossed C c ((own_is m lm w lw).0 b)) ∙ i in
        sym (net_less G D (own m) C r (λ k us. (inside (D.from k) (within.from k us), inside (D.to k) (within.to k us))))
        ∙ ap₂ plus
        (strip m (omega arith) (λ w. C w && not (own m w)) (λ k s. grind (arith, c k s, part_uncrossed S (λ k s. (within.from k (used k s), within.to k (used k s))) m (own m) (own_is m lm) k s)) (and_left (C 0) _ o)
        (λ w lw b. grind (arith, low w, (own_is m lm m lm).1 here)))
        (none m lm (grind (arith, inside 0)))
        ∙ unit _)
        (λ q. strip m (omega arith) C c o (λ w lw b. grind (arith, low w)))
        (cases_Bool (C m))

    pub parts_fillable : Fillable G D S r
    parts_fillable = fill_start G D S r (λ C c o. strip (suc D.units) (omega arith) C c o (λ w lw b. absurd (omega arith)))

  -- a balanced flow has no net amount over any set, with or without the surroundings: without streams each place is a part
  pub balanced_net : (f : ℕ → Element) → Balanced G D f → (C : ℕ → Bool) → net G D C f ≡ G.zero
  balanced_net f h C = parts_fillable (Below 0 D.used) (λ k b. absurd (omega arith)) alone
      (labels_part D (Below 0 D.used) (λ w. w) (labels_start D D.used (λ w. w) (λ w _. refl)))
      f (λ v lv o. alone_from_balanced G D f h v (grind arith) lv) C (λ k b. absurd (omega arith))

  pub balanced_plus : (f g : ℕ → Element) → Balanced G D f → Balanced G D g → Balanced G D (λ k. plus (f k) (g k))
  balanced_plus f g bf bg = balanced_from_nets G D _ (λ C. net_plus G D C f g ∙ ap₂ plus (balanced_net f bf C) (balanced_net g bg C) ∙ unit _)

  pub balanced_difference : (f g : ℕ → Element) → Balanced G D f → Balanced G D g → Balanced G D (λ k. plus (f k) (minus (g k)))
  balanced_difference f g bf bg = balanced_plus f (λ k. minus (g k)) bf (balanced_from_nets G D _ (λ C.
      grind (arith, unit, balanced_net g bg C, net_plus G D C g (λ k. minus (g k)), net_none G D C (λ k. plus (g k) (minus (g k))) (λ k _. inl (inverse (g k))))))
