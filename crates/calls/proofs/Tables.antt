-- Tables by number that lists hold, and tables with one entry changed. Assumes nothing.
use Rattle.std.proofs.Common.{◌≡◌, ◌≢◌, ℕ, zero, suc, ◌-◌, ◌<◌, ◌≤◌, List, length, slice_index_or, set, replicate, refl, ap, ◌∙◌, arith}
use mathlib.Core.Path.{fun_ext}
use Rattle.std.proofs.lemmas.List.{get_or-set_same, get_or-set_other, get_or_past}
use Rattle.std.proofs.lemmas.Bool.Decides.{nat_tests}
use Rattle.flows.specs.Worked.{at_number}
use Rattle.calls.specs.Tables.{put}

-- the entry that was changed, and the others
pub put_here : {X : Type 0} (t : ℕ → X) (n k : ℕ) (v : X) → k ≡ n → put t n v k ≡ v
put_here t n k v e = grind (arith, nat_tests)

pub put_apart : {X : Type 0} (t : ℕ → X) (n k : ℕ) (v : X) → k ≢ n → put t n v k ≡ t k
put_apart t n k v ne = grind (arith, nat_tests)

-- a table that has v at n and is t elsewhere
pub is_put : {X : Type 0} (s t : ℕ → X) (n : ℕ) (v : X) → s n ≡ v → ((k : ℕ) → k ≢ n → s k ≡ t k) → s ≡ put t n v
is_put s t n v here rest = fun_ext (λ k. grind (arith, nat_tests, here, rest k))

-- number n of a list stands at place n - 1
pub at_place : {X : Type 0} (d : X) (xs : List X) (n : ℕ) → 1 ≤ n → at_number d xs n ≡ slice_index_or xs (n - 1) d
at_place d xs zero low = absurd (omega arith)
at_place d xs (suc k) low = let e : k ≡ suc k - 1 = omega arith in ap (λ i. slice_index_or xs i d) e

pub at_past : {X : Type 0} (d : X) (xs : List X) (n : ℕ) → length xs < n → at_number d xs n ≡ d
at_past d xs zero past = refl
at_past d xs (suc k) past = let h : length xs ≤ k = omega arith in get_or_past xs k d h

-- one place written
pub at_set : {X : Type 0} (d : X) (xs : List X) (n : ℕ) (v : X) → 1 ≤ n → n ≤ length xs
    → at_number d (set xs (n - 1) v) ≡ put (at_number d xs) n v
at_set d xs n v low high = is_put (at_number d (set xs (n - 1) v)) (at_number d xs) n v here rest
  where
    here : at_number d (set xs (n - 1) v) n ≡ v
    here = let h : n - 1 < length xs = omega arith in at_place d (set xs (n - 1) v) n low ∙ get_or-set_same xs (n - 1) v d h

    rest : (k : ℕ) → k ≢ n → at_number d (set xs (n - 1) v) k ≡ at_number d xs k
    rest zero ne = refl
    rest (suc k) ne = let apart : k ≢ n - 1 = λ e. ne (omega arith) in get_or-set_other xs (n - 1) k v d apart

-- a list of one repeated entry
same_all : {X : Type 0} (n i : ℕ) (x : X) → slice_index_or (replicate n x) i x ≡ x
same_all zero i x = refl
same_all (suc n) zero x = refl
same_all (suc n) (suc i) x = same_all n i x

pub at_repeated : {X : Type 0} (n : ℕ) (x : X) → ◌≡◌ {A = ℕ → X} (at_number x (replicate n x)) (λ _. x)
at_repeated {X} n x = fun_ext each
  where
    each : (k : ℕ) → at_number x (replicate n x) k ≡ x
    each zero = refl
    each (suc k) = same_all n k x
