-- Counts. Assumes nothing.
use Rattle.std.proofs.Common.{◌≡◌, ℕ, zero, suc, ◌<◌, ◌≤◌, Bool, false, Option, sym, refl, ap, ⊎_elim, arith}
use Rattle.std.proofs.lemmas.Bool.{cases_eq}
use Rattle.flows.specs.Questions.{how_many, holds, count}

pub how_many_same : (n : ℕ) (p q : ℕ → Bool) → ((k : ℕ) → k < n → p k ≡ q k) → how_many p n ≡ how_many q n
how_many_same zero p q e = refl
how_many_same (suc n) p q e = grind (arith, how_many_same n p q)

-- numbers from m on that do not pass add nothing
pub how_many_short : (m n : ℕ) (p : ℕ → Bool) → m ≤ n → ((k : ℕ) → m ≤ k → k < n → p k ≡ false) → how_many p n ≡ how_many p m
how_many_short m zero p le e = grind arith
how_many_short m (suc n) p le e = ⊎_elim (λ q. ap (how_many p) (sym q)) (λ d. grind (arith, how_many_short m n p)) (cases_eq m (suc n))

pub count_is : (b : ℕ) (table : ℕ → Option ℕ) (n : ℕ) → count b table n ≡ how_many (λ k. holds (table k) b) n
unfolding count
count_is b table n = refl
