-- What a cut says of the amount of the one stream that crosses it. Assumes nothing.
use Rattle.std.proofs.Common.{◌≡◌, ℕ, ◌≤◌, Bool, true, false, ◌⊎◌, ◌==◌, sym, refl, ap, ◌∙◌, inl, arith}
use Rattle.std.proofs.lemmas.Bool.{false_from_ne_true}
use Rattle.std.proofs.lemmas.Bool.Decides.{nat_tests}
use Rattle.quantity.specs.Group.{Group}
use Rattle.flows.specs.Decisions.{unread_but}
use Rattle.flows.specs.Drawings.{Drawing, InUse, Within}
use Rattle.flows.specs.Flows.{pick, net, Balanced}
use Rattle.flows.specs.Parts.{Unread, Others, here, Part, Linked}
use Rattle.flows.specs.Theorems.{ZeroAt, AnythingAt}
use Rattle.flows.proofs.Balances.{balanced_net}
use Rattle.flows.proofs.Decisions.{above_size, side_is}
use Rattle.flows.proofs.Filling.{bump, net_bump, flow_exists}
use Rattle.flows.proofs.Groups.{unit_r, minus_zero, negative_only}
use Rattle.flows.proofs.Joins.{joined_uncrossed, part_uncrossed}
use Rattle.flows.proofs.Nets.{net_same, net_none}

-- the ends of the streams of a set lie within the drawing
pub ends_within : (D : Drawing) → Within D → (S : ℕ → Type 0) → ((k : ℕ) → S k → InUse D k) → (k : ℕ) → S k → (D.from k ≤ D.units) × (D.to k ≤ D.units)
ends_within D within S used k s = (within.from k (used k s), within.to k (used k s))

module _ (G : Group) (D : Drawing) (within : Within D) where
  open G use {Element, minus, unit}

  -- n leaves C, and wherever another stream crosses it the flow has the amount of r: n carries what r owes
  pub cut_amount : (n : ℕ) → InUse D n → (C : ℕ → Bool) → C (D.from n) ≡ true → C (D.to n) ≡ false → (f r : ℕ → Element) → Balanced G D f → r n ≡ G.zero
      → ((k : ℕ) → InUse D k → ¬ (n ≡ k) → (r k ≡ f k) ⊎ (C (D.from k) ≡ C (D.to k))) → f n ≡ minus (net G D C r)
  cut_amount n us C i o f r b free same = negative_only G (f n) (net G D C r) (grind (
    arith,
    G.comm,
    unit_r G,
    minus_zero G,
    net_bump G D C r n (f n) us,
    net_same G D C (bump G D r n (f n)) f (λ k u. grind (arith, nat_tests, unit, unit_r G, same k u)),
    balanced_net G D within f b C,
  ))

module _ (G : Group) (D : Drawing) (within : Within D) (S : ℕ → Bool) (n : ℕ) (us : InUse D n) where
  open G use {Element, minus}

  -- the side of the from place: n leaves it, and no other stream outside S crosses it
  pub side_holds : (C : ℕ → Bool) → Part D (Others (Unread D S) n) (D.from n) C → ¬ Linked D S n
      → (C (D.from n) ≡ true) × (C (D.to n) ≡ false) × ((k : ℕ) → InUse D k → ¬ (n ≡ k) → S k ≡ false → C (D.from k) ≡ C (D.to k))
  side_holds C p off = (
    (p (D.from n) (within.from n us)).1 here,
    false_from_ne_true (C (D.to n)) (λ i. off ((p (D.to n) (within.to n us)).0 i)),
    λ k u d o. part_uncrossed (Others (Unread D S) n) (ends_within D within (Others (Unread D S) n) (λ _ s. s.0.0)) (D.from n) C p k ((u, o), grind arith),
  )

  -- wherever another stream crosses that side the flow has the amount of r: n carries what r owes
  pub side_amount : (C : ℕ → Bool) → Part D (Others (Unread D S) n) (D.from n) C → ¬ Linked D S n → (f r : ℕ → Element) → Balanced G D f → r n ≡ G.zero
      → ((k : ℕ) → InUse D k → ¬ (n ≡ k) → S k ≡ true → r k ≡ f k) → f n ≡ minus (net G D C r)
  side_amount C p off f r b free same =
      let h = side_holds C p off in
      cut_amount G D within n us C h.0 h.1 f r b free (λ k u d. grind (arith, same k u d, h.2 k u d))

  pub zero_at : ¬ Linked D S n → ZeroAt G D S n
  zero_at off f b z =
      side_amount _ (side_is D S D.size (above_size D) within n us) off f (λ _. G.zero) b refl (λ k u _ i. sym (z k u i))
      ∙ ap minus (net_none G D _ (λ _. G.zero) (λ _ _. inl refl)) ∙ minus_zero G

  pub anything_at : S n ≡ false → Linked D S n → AnythingAt G D S n
  anything_at out j x =
      let s = flow_exists G D within (unread_but D S n) (λ k _ e. grind arith) (λ k. pick G (n == k) x)
      (λ C c. let flat = joined_uncrossed C (λ k o. c k (grind (arith, nat_tests))) j in net_none G D C _ (λ k _. grind (arith, nat_tests, flat))) in
      (s.0, s.1, λ k u i. grind (arith, nat_tests, s.2 k), grind (arith, nat_tests, s.2 n))
