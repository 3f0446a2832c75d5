-- Net amounts of sets of places. Assumes nothing.
use Rattle.std.proofs.Common.{◌≡◌, ℕ, ◌≤◌, Bool, true, not, ◌&&◌, ◌⊎◌, ◌==◌, sym, refl, ◌∙◌, ap₂, inr, arith}
use Rattle.quantity.specs.Group.{Group}
use Rattle.quantity.specs.Sums.{sum}
use Rattle.quantity.proofs.GroupSums.{sum_same}
use Rattle.flows.specs.Drawings.{Drawing, InUse}
use Rattle.flows.specs.Flows.{pick, total, arriving, departing, net, net_below, Balanced}
use Rattle.flows.proofs.Groups.{unit_r, middle, minus_zero, minus_plus, same_from_difference}
use Rattle.flows.proofs.Sums.{sum_none, sum_plus, sum_difference}

-- a place alone
abbrev pub alone : ℕ → ℕ → Bool
alone v w = w == v

module _ (G : Group) (D : Drawing) where
  open G use {Element, plus, minus, comm, unit, inverse}

  -- what stream k takes out of C, less what it brings in: a stream with both ends in C counts twice, and cancels
  unfoldable pub crossing : (ℕ → Bool) → (ℕ → Element) → ℕ → Element
  crossing C f k = pick G (D.used k) (plus (pick G (C (D.from k)) (f k)) (minus (pick G (C (D.to k)) (f k))))

  -- a net amount as one sum over the streams
  pub net_below_is : (n : ℕ) (C : ℕ → Bool) (f : ℕ → Element) → net_below G D n C f ≡ sum G n (crossing C f)
  unfolding crossing
  net_below_is n C f = sym (sum_same G n _ _ (λ k _. grind (arith, unit, inverse, minus_zero G)) ∙ sum_difference G n _ _)

  pub net_is : (C : ℕ → Bool) (f : ℕ → Element) → net G D C f ≡ sum G D.size (crossing C f)
  unfolding net total
  net_is C f = net_below_is D.size C f

  -- two nets are equal where each stream in use crosses alike
  pub net_by_streams : (B C : ℕ → Bool) (f g : ℕ → Element)
      → ((k : ℕ) → InUse D k → plus (pick G (B (D.from k)) (f k)) (minus (pick G (B (D.to k)) (f k))) ≡ plus (pick G (C (D.from k)) (g k)) (minus (pick G (C (D.to k)) (g k))))
      → net G D B f ≡ net G D C g
  unfolding crossing
  net_by_streams B C f g h = net_is B f ∙ sum_same G D.size _ _ (λ k lt. grind (arith, h k)) ∙ sym (net_is C g)

  -- sets that are alike at the ends of streams in use
  pub net_alike : (B C : ℕ → Bool) (f : ℕ → Element)
      → ((k : ℕ) → InUse D k → (B (D.from k) ≡ C (D.from k)) × (B (D.to k) ≡ C (D.to k))) → net G D B f ≡ net G D C f
  net_alike B C f h = net_by_streams B C f f (λ k us. grind (arith, h k us))

  -- flows that differ only where C is not crossed
  pub net_same : (C : ℕ → Bool) (f g : ℕ → Element)
      → ((k : ℕ) → InUse D k → (f k ≡ g k) ⊎ (C (D.from k) ≡ C (D.to k))) → net G D C f ≡ net G D C g
  net_same C f g h = net_by_streams C C f g (λ k us. grind (arith, inverse, h k us))

  -- a flow that is zero wherever C is crossed
  pub net_none : (C : ℕ → Bool) (f : ℕ → Element)
      → ((k : ℕ) → InUse D k → (f k ≡ G.zero) ⊎ (C (D.from k) ≡ C (D.to k))) → net G D C f ≡ G.zero
  unfolding crossing
  net_none C f h = net_is C f ∙ sum_none G D.size _ (λ k lt. grind (arith, unit, inverse, minus_zero G, h k))

  pub net_plus : (C : ℕ → Bool) (f g : ℕ → Element) → net G D C (λ k. plus (f k) (g k)) ≡ plus (net G D C f) (net G D C g)
  unfolding crossing
  net_plus C f g =
      net_is C (λ k. plus (f k) (g k))
      ∙ sum_same G D.size _ _ (λ k _. grind (arith, unit, minus_zero G, minus_plus G, middle G))
      ∙ sum_plus G D.size (crossing C f) (crossing C g)
      ∙ sym (ap₂ plus (net_is C f) (net_is C g))

  -- a set and what is left without it
  pub net_less : (B C : ℕ → Bool) (f : ℕ → Element)
      → ((k : ℕ) → InUse D k → (B (D.from k) ≡ true → C (D.from k) ≡ true) × (B (D.to k) ≡ true → C (D.to k) ≡ true))
      → plus (net G D (λ w. C w && not (B w)) f) (net G D B f) ≡ net G D C f
  unfolding crossing
  net_less B C f sub =
      ap₂ plus (net_is _ f) (net_is B f)
      ∙ sym (sum_plus G D.size (crossing (λ w. C w && not (B w)) f) (crossing B f))
      ∙ sum_same G D.size _ _ (λ k lt. grind (arith, comm, unit, unit_r G, minus_zero G, sub k))
      ∙ sym (net_is C f)

  -- a set and its complement
  pub net_not : (C : ℕ → Bool) (f : ℕ → Element) → plus (net G D C f) (net G D (λ w. not (C w)) f) ≡ G.zero
  net_not C f = comm _ _ ∙ net_less C (λ _. true) f (λ _ _. (λ _. refl, λ _. refl)) ∙ net_none (λ _. true) f (λ _ _. inr refl)

  pub net_from_not : (C : ℕ → Bool) (f : ℕ → Element) → net G D (λ w. not (C w)) f ≡ G.zero → net G D C f ≡ G.zero
  net_from_not C f h = grind (arith, unit_r G, net_not C f)

  -- what streams take away from a place, less what they bring
  pub net_alone : (f : ℕ → Element) (v : ℕ) → net G D (alone v) f ≡ plus (departing G D f v) (minus (arriving G D f v))
  unfolding crossing total
  net_alone f v = net_is (alone v) f ∙ sum_same G D.size _ _ (λ k _. grind (arith, unit, minus_zero G)) ∙ sum_difference G D.size _ _

  pub alone_from_balanced : (f : ℕ → Element) → Balanced G D f → (v : ℕ) → 1 ≤ v → v ≤ D.units → net G D (alone v) f ≡ G.zero
  alone_from_balanced f h v lo hi = rw (net_alone f v, h v lo hi, inverse)

  pub balanced_from_nets : (f : ℕ → Element) → ((C : ℕ → Bool) → net G D C f ≡ G.zero) → Balanced G D f
  balanced_from_nets f h v lo hi = sym (same_from_difference G _ _ (sym (net_alone f v) ∙ h (alone v)))
