-- Net amounts, summed one stream at a time. Assumes nothing.
--
-- A loop over the streams starts with `net_start`, takes one of `net_unused`, `net_inside`, `net_leaves` and `net_enters`
-- at each, and ends with `net_end`.
use Rattle.std.proofs.Common.{◌≡◌, ℕ, ◌+◌, Bool, true, false, sym, refl, ◌∙◌, ap₂, arith}
use Rattle.quantity.specs.Group.{Group}
use Rattle.quantity.proofs.GroupSums.{sum_more}
use Rattle.flows.specs.Drawings.{Drawing}
use Rattle.flows.specs.Flows.{total, net}
use Rattle.flows.specs.Summing.{net_so_far}
use Rattle.flows.proofs.Groups.{unit_r, minus_zero}
use Rattle.flows.proofs.Nets.{crossing, net_below_is}

module _ (G : Group) (D : Drawing) (C : ℕ → Bool) (f : ℕ → G.Element) where
  open G use {Element, plus, minus, unit, inverse}

  pub net_start : net_so_far G D 0 C f ≡ G.zero
  unfolding net_so_far
  net_start = inverse G.zero

  pub net_end : net_so_far G D D.size C f ≡ net G D C f
  unfolding net_so_far net total
  net_end = refl

  net_step : (n : ℕ) (x : Element) → crossing G D C f n ≡ x → net_so_far G D (n + 1) C f ≡ plus (net_so_far G D n C f) x
  unfolding net_so_far
  net_step n x e = net_below_is G D (n + 1) C f ∙ sum_more G n (crossing G D C f) ∙ ap₂ plus (sym (net_below_is G D n C f)) e

  pub net_unused : (n : ℕ) → D.used n ≡ false → net_so_far G D (n + 1) C f ≡ net_so_far G D n C f
  unfolding crossing
  net_unused n e = net_step n G.zero (grind arith) ∙ unit_r G _

  pub net_inside : (n : ℕ) → C (D.from n) ≡ C (D.to n) → net_so_far G D (n + 1) C f ≡ net_so_far G D n C f
  unfolding crossing
  net_inside n e = net_step n G.zero (grind (arith, inverse)) ∙ unit_r G _

  pub net_leaves : (n : ℕ) → D.used n ≡ true → C (D.from n) ≡ true → C (D.to n) ≡ false → net_so_far G D (n + 1) C f ≡ plus (net_so_far G D n C f) (f n)
  unfolding crossing
  net_leaves n u i o = net_step n (f n) (grind (arith, unit_r G, minus_zero G))

  pub net_enters : (n : ℕ) → D.used n ≡ true → C (D.from n) ≡ false → C (D.to n) ≡ true → net_so_far G D (n + 1) C f ≡ plus (net_so_far G D n C f) (minus (f n))
  unfolding crossing
  net_enters n u o i = net_step n (minus (f n)) (grind (arith, unit))
