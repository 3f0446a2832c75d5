-- The whole numbers modulo m. Assumes nothing.
--
-- Residue m       the numbers below m
-- residue_path    residues are equal where their numbers are
--
-- These take m and a proof h that it is above 0:
-- rest m h n      what n leaves when divided by m
-- modulo m h      the residues as a group: the sum is the remainder of the plain sum
-- residue m h z   the residue of a whole number of either sign
use Rattle.std.specs.Prelude.{◌≡◌, ℕ, ◌+◌, ◌-◌, ◌%◌, ◌<◌, ℤ, pos, unsigned_abs}
use Rattle.std.proofs.Common.{ap, mod-lt, add_comm}
use mathlib.Core.HLevel.{Σ_prop_path}
use Rattle.std.proofs.Math.Bridge.{le_prop}
use Rattle.std.specs.Int.{int_rem_euclid}
use Rattle.quantity.specs.Group.{Group}
use Rattle.quantity.specs.Remainders.{assoc_remainder, unit_remainder, inverse_remainder}

abbrev pub Residue : ℕ → Type 0
Residue m = (n : ℕ) × (n < m)

pub residue_path : {m : ℕ} {x y : Residue m} → x.0 ≡ y.0 → x ≡ y
residue_path = Σ_prop_path (λ _. le_prop)

module _ (m : ℕ) (some : 0 < m) where
  abbrev pub rest : ℕ → Residue m
  rest n = (n % m, mod-lt n some)

  abbrev pub modulo : Group
  modulo = record {
    Element = Residue m;
    zero = rest 0;
    plus = λ x y. rest (x.0 + y.0);
    minus = λ x. rest (m - x.0);
    assoc = λ x y z. residue_path (assoc_remainder m x.0 y.0 z.0);
    comm = λ x y. residue_path (ap (λ n. n % m) (add_comm x.0 y.0));
    unit = λ x. residue_path (unit_remainder m x.0 x.1);
    inverse = λ x. residue_path (inverse_remainder m x.0 x.1);
  }

  abbrev pub residue : ℤ → Residue m
  residue z = rest (unsigned_abs (int_rem_euclid z (pos m)))
