-- Sums by index. Assumes nothing.
use Rattle.std.proofs.Common.{◌≡◌, ℕ, zero, suc, ◌<◌, ◌≤◌, Bool, true, false, ◌==◌, sym, refl, ap, ◌∙◌, ⊎_elim, arith}
use Rattle.std.proofs.lemmas.Bool.{cases_eq}
use Rattle.std.proofs.lemmas.Bool.Decides.{nat_tests}
use Rattle.quantity.specs.Group.{Group}
use Rattle.quantity.specs.Sums.{sum}
use Rattle.quantity.proofs.GroupSums.{sum_carried}
use Rattle.flows.specs.Flows.{pick}
use Rattle.flows.proofs.Groups.{unit_r, middle, minus_zero, minus_plus}

module _ (G : Group) where
  open G use {Element, plus, minus, unit, inverse}

  -- zero is picked or not, alike
  pub pick_zero : (b : Bool) → pick G b G.zero ≡ G.zero
  pick_zero b = grind arith

  pub sum_none : (n : ℕ) (h : ℕ → Element) → ((k : ℕ) → k < n → h k ≡ G.zero) → sum G n h ≡ G.zero
  sum_none zero h e = refl
  sum_none (suc n) h e = grind (arith, unit, sum_none n h)

  pub sum_plus : (n : ℕ) (g h : ℕ → Element) → sum G n (λ k. plus (g k) (h k)) ≡ plus (sum G n g) (sum G n h)
  sum_plus zero g h = sym (unit G.zero)
  sum_plus (suc n) g h = ap (λ s. plus s (plus (g n) (h n))) (sum_plus n g h) ∙ middle G _ _ _ _

  -- a sum of negatives is the negative of the sum
  pub sum_minus : (n : ℕ) (h : ℕ → Element) → sum G n (λ k. minus (h k)) ≡ minus (sum G n h)
  sum_minus n h = sym (sum_carried G G minus (minus_zero G) (minus_plus G) n h)

  pub sum_difference : (n : ℕ) (g h : ℕ → Element) → sum G n (λ k. plus (g k) (minus (h k))) ≡ plus (sum G n g) (minus (sum G n h))
  sum_difference n g h = sum_plus n g (λ k. minus (h k)) ∙ ap (plus _) (sum_minus n h)

  -- picked or not, each term or the sum
  pub sum_pick : (n : ℕ) (b : Bool) (h : ℕ → Element) → sum G n (λ k. pick G b (h k)) ≡ pick G b (sum G n h)
  sum_pick n true h = refl
  sum_pick n false h = sum_none n _ (λ _ _. refl)

  -- the order of two sums is free
  pub sum_swap : (n m : ℕ) (h : ℕ → ℕ → Element) → sum G n (λ i. sum G m (h i)) ≡ sum G m (λ j. sum G n (λ i. h i j))
  sum_swap zero m h = sym (sum_none m _ (λ _ _. refl))
  sum_swap (suc n) m h = ap (λ s. plus s (sum G m (h n))) (sum_swap n m h) ∙ sym (sum_plus m _ (h n))

  -- a sum with one place
  pub sum_one : (n : ℕ) (w : ℕ) (h : ℕ → Element) → w < n → sum G n (λ v. pick G (w == v) (h v)) ≡ h w
  sum_one zero w h b = absurd (omega arith)
  sum_one (suc n) w h b = grind (arith, nat_tests, unit, unit_r G, sum_one n w h, sum_none n (λ v. pick G (w == v) (h v)))

  -- places past m that hold zero add nothing
  pub sum_short : (m n : ℕ) (h : ℕ → Element) → m ≤ n → ((k : ℕ) → m ≤ k → k < n → h k ≡ G.zero) → sum G n h ≡ sum G m h
  sum_short m zero h le e = grind arith
  sum_short m (suc n) h le e = ⊎_elim (λ q. ap (λ i. sum G i h) (sym q)) (λ d. grind (arith, unit_r G, sum_short m n h)) (cases_eq m (suc n))
