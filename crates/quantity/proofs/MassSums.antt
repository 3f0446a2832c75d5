-- Sums of masses that do not wrap. Assumes nothing.
use Rattle.std.proofs.Common.{All, ◌≡◌, ℕ, suc, ◌+◌, ◌*◌, ◌^◌, ◌≤◌, List, [], ◌∷◌, map, length, ℤ, pos, neg_ℤ, ◌+ℤ◌, ◌≤ℤ◌, sym, refl, ap, ◌∙◌, arith, lit<, w64, FitsSigned}
use mathlib.Core.List.{map-map}
use Rattle.std.specs.List.{fold}
use Rattle.std.proofs.lemmas.List.{length-map}
use Rattle.std.proofs.lemmas.List.Elements.{All-map}
use Rattle.std.proofs.lemmas.Int.{ints}
use Rattle.quantity.specs.Group.{whole}
use Rattle.quantity.specs.Masses.{counts, grams, bound, Bounded}
use Rattle.quantity.specs.Modulo.{residue_path}
use Rattle.quantity.specs.Sums.{sum_all}
use Rattle.quantity.proofs.Residues.{residue_plus, grams_same}

-- at most m, either way
abbrev Within : ℕ → ℤ → Type 0
Within m z = (neg_ℤ (pos m) ≤ℤ z) × (z ≤ℤ pos m)

bounded_within : (z : ℤ) → Bounded z → Within bound z
bounded_within z h = grind (arith, ints)

sum_within : (zs : List ℤ) (n : ℕ) (a : ℤ) → Within (n * bound) a → All Bounded zs → Within ((n + length zs) * bound) (fold ◌+ℤ◌ a zs)
sum_within [] n a h each = omega (arith, ints)
sum_within (z ∷ zs) n a h each =
    let here = bounded_within z (each 0 z (omega arith)) in
    let more = sum_within zs (n + 1) (a +ℤ z) (omega (arith, ints)) (λ k d h. each (suc k) d (omega arith)) in
    omega (arith, ints)

within_fits : (n : ℕ) (z : ℤ) → n ≤ 1024 → Within (n * bound) z → FitsSigned w64 z
within_fits n z few h = omega (arith, ints)

grams_sum : (zs : List ℤ) (a : ℤ) → grams (fold ◌+ℤ◌ a zs) ≡ fold counts.plus (grams a) (map grams zs)
grams_sum [] a = refl
grams_sum (z ∷ zs) a = grams_sum zs (a +ℤ z) ∙ ap (λ g. fold counts.plus g (map grams zs)) (residue_plus (2 ^ 64) (lit< tt) a z)

-- a 64-bit number that is the sum of few bounded numbers modulo 2^64 is their sum
bounded_sum : (zs : List ℤ) → length zs ≤ 1024 → All Bounded zs → (r : ℤ) → FitsSigned w64 r → grams r ≡ sum_all counts (map grams zs) → r ≡ sum_all whole zs
bounded_sum zs few each r fits e =
    let none : grams (pos 0) ≡ counts.zero = residue_path refl in
    let within = sum_within zs 0 (pos 0) (omega (arith, ints)) each in
    grams_same r fits (sum_all whole zs) (within_fits (0 + length zs) _ (omega arith) within)
    (e ∙ sym (grams_sum zs (pos 0) ∙ ap (λ g. fold counts.plus g (map grams zs)) none))

-- the same of the counts of grams that f gives
pub sum_exact : {X : Type 0} (f : X → ℤ) (xs : List X) → length xs ≤ 1024 → All (λ x. Bounded (f x)) xs → (r : ℤ) → FitsSigned w64 r → grams r ≡ sum_all counts (map (λ x. grams (f x)) xs) → r ≡ sum_all whole (map f xs)
sum_exact f xs few each r fits e =
    bounded_sum (map f xs) (simp length-map few) (All-map Bounded f xs each) r fits (e ∙ ap (sum_all counts) (sym (map-map grams f xs)))
