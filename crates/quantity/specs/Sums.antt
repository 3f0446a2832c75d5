-- Sums of elements of a group. Assumes nothing.
--
-- sum G n f      f 0 + f 1 + .. + f (n - 1), and zero where n is 0
-- sum_all G xs   the sum of all elements of the list xs, from the first on
use Rattle.std.specs.Prelude.{ℕ, zero, suc, List}
use Rattle.std.specs.List.{fold}
use Rattle.quantity.specs.Group.{Group}

abbrev pub sum : (G : Group) → ℕ → (ℕ → G.Element) → G.Element
sum G zero f = G.zero
sum G (suc n) f = G.plus (sum G n f) (f n)

abbrev pub sum_all : (G : Group) → List G.Element → G.Element
sum_all G xs = fold G.plus G.zero xs
