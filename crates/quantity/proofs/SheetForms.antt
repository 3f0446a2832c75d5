-- What eight bytes hold. Assumes nothing.
use Rattle.std.proofs.Common.{◌≡◌, ℕ, ◌%◌, ◌^◌, ◌<◌, Bool, true, false, if◌then◌else◌, nat_lt, List, ℤ, Some, None, sym, refl, ap, ◌∙◌, rules, arith, w64, FitsSigned, to_z, of_z, MatchOption, Option, subst}
use Rattle.std.specs.Bool.{then_some}
use Rattle.std.specs.Int.{to_le_bytes}
use mir.Facts.{sfits_to_z}
use Rattle.std.proofs.lemmas.Bool.{lt-ltb, ltb-true, both_ways}
use Rattle.std.proofs.lemmas.Int.{of_z-to_z, to_z-of_z}
use Rattle.quantity.specs.declared.mass.Mass.{Mass}
use Rattle.quantity.specs.declared.totaliser.Totaliser.{Totaliser}
use Rattle.quantity.specs.Bytes.{Eight, little, signed_little}
use Rattle.quantity.specs.Masses.{grams, mass_model, bounded}
use Rattle.quantity.specs.Modulo.{residue_path}
use Rattle.quantity.specs.Sheet.{StandFor, OnlyFor, BytesOf, mass_form, totaliser_form}
use Rattle.quantity.specs.Totalisers.{modulus, taken, totaliser_model}
use Rattle.quantity.proofs.EightBytes.{written_eight, written_little, little_below, little_same}
use Rattle.quantity.proofs.Residues.{grams_same, taken_small, taken_below, advance_taken}

held_if : {X : Type 0} (t : Bool) (x : X) (P : X → Type 0) → t ≡ true → P x → MatchOption (if t then Some x else None) ⊥ P
held_if true x P e h = h
held_if false x P e h = absurd (both_ways false refl e)

held_both : {X : Type 0} (t : Bool) (x : X) (P : X → Type 0) → MatchOption (if t then Some x else None) ⊥ P → (t ≡ true) × P x
held_both true x P h = (refl, h)
held_both false x P h = absurd h

-- bytes that stand for a mass write it, and it is within the bounds
mass_written : (z : ℤ) → FitsSigned w64 z → (bs : List ℕ) → Eight bs → StandFor mass_model mass_form bs (record { 0 = z }) → (signed_little bs ≡ z) × (bounded (signed_little bs) ≡ true)
mass_written z fits bs eight h =
    let bits : FitsSigned w64 (signed_little bs) = sfits_to_z (record { fits = little_below bs eight }) in
    let held = held_both (bounded (signed_little bs)) (record { 0 = signed_little bs }) (λ b. mass_model.means b ≡ grams z) h in
    (grams_same (signed_little bs) bits z fits held.1, held.0)

-- no eight bytes within the bounds stand for a mass outside them
pub mass_outside : (z : ℤ) → FitsSigned w64 z → bounded z ≡ false → (bs : List ℕ) → Eight bs → ¬ StandFor mass_model mass_form bs (record { 0 = z })
mass_outside z fits out bs eight h =
    let written = mass_written z fits bs eight h in
    both_ways (bounded z) out (ap bounded (sym written.0) ∙ written.1)

-- the bytes that write a mass within the bounds are the only ones that stand for it
pub mass_only : (z : ℤ) → FitsSigned w64 z → bounded z ≡ true → (bs : List ℕ) → Eight bs → signed_little bs ≡ z → OnlyFor mass_model mass_form (record { 0 = z }) bs
mass_only z fits inside bs eight e = (
  held_if (bounded (signed_little bs)) (record { 0 = signed_little bs }) (λ b. mass_model.means b ≡ grams z) (ap bounded e ∙ inside) (ap grams e),
  λ cs eight_cs h.
      let same : signed_little cs ≡ signed_little bs = (mass_written z fits cs eight_cs h).0 ∙ sym e in
      little_same cs bs eight_cs eight
      (sym (of_z-to_z w64 (little cs) (little_below cs eight_cs)) ∙ ap (of_z w64) same ∙ of_z-to_z w64 (little bs) (little_below bs eight)),
)

-- a mass outside the bounds has no bytes; within them it has only those that write it
pub mass_bytes : (a : Mass) (r : Option (List ℕ)) → FitsSigned w64 a.0 → r ≡ then_some (bounded a.0) (to_le_bytes w64 (of_z w64 a.0)) → BytesOf mass_model mass_form a r
mass_bytes a r fits is = subst (BytesOf mass_model mass_form a) (sym is) (by_bound (bounded z) refl)
  where
    z : ℤ
    z = a.0

    bs : List ℕ
    bs = to_le_bytes w64 (of_z w64 z)

    below : of_z w64 z < 2 ^ 64
    below = search rules

    by_bound : (t : Bool) → bounded z ≡ t → BytesOf mass_model mass_form (record { 0 = z }) (then_some t bs)
    by_bound false out = mass_outside z fits out
    by_bound true inside = mass_only z fits inside bs (written_eight (of_z w64 z)) (ap (to_z w64) (written_little (of_z w64 z) below) ∙ to_z-of_z w64 z fits)

-- the bytes that write an advance are the only ones that stand for it
pub totaliser_only : (n : ℕ) (bs : List ℕ) → Eight bs → little bs ≡ taken n → OnlyFor totaliser_model totaliser_form (record { 0 = n }) bs
totaliser_only n bs eight e =
    let means : Totaliser → Type 0 = λ b. totaliser_model.means b ≡ totaliser_model.means (record { 0 = n }) in
    let below : little bs < modulus = rw e (taken_below n) in (
      held_if (nat_lt (little bs) modulus) (record { 0 = little bs }) means (lt-ltb (little bs) modulus below) (residue_path (ap (λ n. n % modulus) (taken_small (little bs) below ∙ e))),
      λ cs eight_cs h.
          let held = held_both (nat_lt (little cs) modulus) (record { 0 = little cs }) means h in
          let small : little cs < modulus = ltb-true (little cs) modulus held.0 in
          little_same cs bs eight_cs eight
          (sym (taken_small (little cs) small) ∙ sym (advance_taken (little cs)) ∙ ap (λ x. x.0) held.1 ∙ advance_taken n ∙ sym e),
    )

-- the library's bytes write an advance
pub advance_bytes : (a : Totaliser) (r : List ℕ) → r ≡ to_le_bytes w64 (taken a.0) → OnlyFor totaliser_model totaliser_form a r
advance_bytes a r is =
    let below = taken_below a.0 in
    subst (OnlyFor totaliser_model totaliser_form a) (sym is) (totaliser_only a.0 (to_le_bytes w64 (taken a.0)) (written_eight (taken a.0)) (written_little (taken a.0) (omega arith)))
