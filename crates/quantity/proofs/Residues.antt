-- Residues of whole numbers, of 64-bit numbers and of six-digit numbers. Assumes nothing.
use Rattle.std.proofs.Common.{◌≡◌, ◌≢◌, ℕ, ◌+◌, ◌-◌, ◌*◌, ◌%◌, ◌^◌, ◌<◌, ◌≤◌, ◌==◌, nat_lt, ℤ, int_eq, pos, negsuc, ◌+ℤ◌, nat_abs, IsTrue, ◌↔◌, sym, refl, ap, ◌∙◌, ap₂, mod-lt, mod-eq_of_lt, add-mul, mul-le-mul_left, arith, lit<, w64, FitsSigned, to_z, of_z}
use native.Mathlib.Nat.{mod-mod, add-mod}
use mir.Facts.{sfits_to_z}
use borrow.Author.Differences.{up, down}
use Rattle.std.proofs.lemmas.Int.{ints, of_z-to_z, to_z-of_z, int_rem_euclid_is}
use Rattle.std.proofs.lemmas.Bool.Decides.{Decides-int_eq, Decides-like}
use Rattle.std.proofs.lemmas.Bool.{eqb-true, eq-eqb, cond-true, cond_both, lt-ltb, ltb-true}
use Rattle.quantity.specs.Modulo.{Residue, residue_path, residue, modulo}
use Rattle.quantity.specs.Masses.{counts, grams}
use Rattle.quantity.specs.Totalisers.{modulus, taken, advances, advance_of}

module _ (m : ℕ) (some : 0 < m) where
  -- z plus k times m is the natural n
  lifted : (z : ℤ) (k n : ℕ) → z +ℤ pos (k * m) ≡ pos n → (residue m some z).0 ≡ n % m
  lifted z k n e = ap (λ r. nat_abs r % m) (int_rem_euclid_is z (pos m) m k n some refl e) ∙ mod-mod n m

  -- z plus (down z) times m, which is a natural
  lift : ℤ → ℕ
  lift z = up z + down z * m - down z

  lift_is : (z : ℤ) → z +ℤ pos (down z * m) ≡ pos (lift z)
  unfolding lift
  lift_is z = let far : down z * 1 ≤ down z * m = mul-le-mul_left (down z) some in omega (arith, ints)

  pub residue_plus : (a b : ℤ) → residue m some (a +ℤ b) ≡ (modulo m some).plus (residue m some a) (residue m some b)
  residue_plus a b =
      let more = add-mul (down a) (down b) m in
      let from = lift_is a in
      let to = lift_is b in
      residue_path
      (lifted (a +ℤ b) (down a + down b) (lift a + lift b) (omega (arith, ints)) ∙ add-mod (lift a) (lift b) m
      ∙ ap₂ (λ x y. (x + y) % m) (sym (lifted a (down a) (lift a) from)) (sym (lifted b (down b) (lift b) to)))

-- what the numbers of residues tell of their sum, their negative and their sameness
module _ {m : ℕ} (some : 0 < m) where
  pub residue_sum : (x y r : Residue m) (a b : ℕ) → a ≡ x.0 → b ≡ y.0 → r.0 ≡ (a + b) % m → r ≡ (modulo m some).plus x y
  residue_sum x y r a b p q e = residue_path (e ∙ ap₂ (λ k n. (k + n) % m) p q)

  pub residue_negative : (x r : Residue m) (a : ℕ) → a ≡ x.0 → r.0 ≡ (m - a) % m → r ≡ (modulo m some).minus x
  residue_negative x r a p e = residue_path (e ∙ ap (λ n. (m - n) % m) p)

pub residue_test : {m : ℕ} (x y : Residue m) (a b : ℕ) → a ≡ x.0 → b ≡ y.0 → IsTrue (a == b) ↔ (x ≡ y)
residue_test x y a b p q =
    (λ e. residue_path (sym p ∙ eqb-true a b e ∙ q), λ e. eq-eqb a b (p ∙ ap (λ r. r.0) e ∙ sym q))

pub grams_bits : (z : ℤ) → FitsSigned w64 z → (grams z).0 ≡ of_z w64 z
grams_bits (pos n) f = omega arith
grams_bits (negsuc n) f = omega arith

grams_of_bits : (n : ℕ) → n < 2 ^ 64 → (grams (to_z w64 n)).0 ≡ n
grams_of_bits n h = grams_bits (to_z w64 n) (sfits_to_z (record { fits = h })) ∙ of_z-to_z w64 n h

-- what the wrapping operations on 64 bits say of counts
module _ (a : ℤ) (fits : FitsSigned w64 a) where
  pub grams_minus : grams (to_z w64 ((2 ^ 64 - of_z w64 a) % 2 ^ 64)) ≡ counts.minus (grams a)
  grams_minus = residue_negative (lit< tt) (grams a) _ (of_z w64 a) (sym (grams_bits a fits)) (grams_of_bits _ (mod-lt _ (lit< tt)))

  module _ (b : ℤ) (fits_b : FitsSigned w64 b) where
    pub grams_plus : grams (to_z w64 ((of_z w64 a + of_z w64 b) % 2 ^ 64)) ≡ counts.plus (grams a) (grams b)
    grams_plus =
        residue_sum (lit< tt) (grams a) (grams b) _ (of_z w64 a) (of_z w64 b) (sym (grams_bits a fits)) (sym (grams_bits b fits_b))
        (grams_of_bits _ (mod-lt _ (lit< tt)))

    -- 64-bit numbers that mean one count are equal
    pub grams_same : grams a ≡ grams b → a ≡ b
    grams_same e =
        sym (to_z-of_z w64 a fits) ∙ ap (to_z w64) (sym (grams_bits a fits) ∙ ap (λ x. x.0) e ∙ grams_bits b fits_b)
        ∙ to_z-of_z w64 b fits_b

    pub grams_test : IsTrue (int_eq a b) ↔ (grams a ≡ grams b)
    grams_test = Decides-like _ (ap grams) grams_same (Decides-int_eq a b)

-- a 64-bit number other than 0 means no count of zero
pub grams_some : (a : ℤ) → FitsSigned w64 a → a ≢ pos 0 → grams a ≢ counts.zero
grams_some a fits some e = some (grams_same a fits (pos 0) (omega (arith, ints)) e)

-- one gram is not zero
pub one_gram : grams (pos 1) ≢ counts.zero
one_gram e = absurd (omega (arith, ap (λ x. x.0) e))

-- six digits are taken as they stand
pub taken_small : (n : ℕ) → n < modulus → taken n ≡ n
taken_small n h = cond-true (nat_lt n modulus) n 0 (lt-ltb n modulus h)

pub taken_below : (n : ℕ) → taken n < modulus
taken_below n = cond_both (nat_lt n modulus) n 0 (λ d. d < modulus) (ltb-true n modulus) (λ _. lit< tt)

-- the advance that a number means, as a number
pub advance_taken : (n : ℕ) → (advance_of n).0 ≡ taken n
advance_taken n = mod-eq_of_lt (taken_below n)

-- what the remainder by 1,000,000 means
pub advance_rest : (n : ℕ) → (advance_of (n % modulus)).0 ≡ n % modulus
advance_rest n = advance_taken (n % modulus) ∙ taken_small (n % modulus) (mod-lt n (lit< tt))

pub advance_plus : (a b x y : ℕ) → x ≡ taken a → y ≡ taken b → advance_of ((x + y) % modulus) ≡ advances.plus (advance_of a) (advance_of b)
advance_plus a b x y p q =
    residue_sum (lit< tt) (advance_of a) (advance_of b) (advance_of ((x + y) % modulus)) x y (p ∙ sym (advance_taken a)) (q ∙ sym (advance_taken b))
    (advance_rest (x + y))

pub advance_minus : (a x : ℕ) → x ≡ taken a → advance_of ((modulus - x) % modulus) ≡ advances.minus (advance_of a)
advance_minus a x p =
    residue_negative (lit< tt) (advance_of a) (advance_of ((modulus - x) % modulus)) x (p ∙ sym (advance_taken a)) (advance_rest (modulus - x))

pub advance_test : (a b x y : ℕ) → x ≡ taken a → y ≡ taken b → IsTrue (x == y) ↔ (advance_of a ≡ advance_of b)
advance_test a b x y p q = residue_test (advance_of a) (advance_of b) x y (p ∙ sym (advance_taken a)) (q ∙ sym (advance_taken b))

-- a number from 1 to 999,999 means no advance of zero
pub advance_some : (n : ℕ) → 0 < n → n < modulus → advance_of n ≢ advances.zero
advance_some n some below e =
    let is : n ≡ 0 = sym (taken_small n below) ∙ sym (advance_taken n) ∙ ap (λ x. x.0) e in
    omega arith

-- one step is not zero
pub one_step : advance_of 1 ≢ advances.zero
one_step = advance_some 1 (lit< tt) (lit< tt)
