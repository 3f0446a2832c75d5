-- How a quantity stands in a sheet. Assumes nothing.
--
-- SheetForm          a quantity's code, and the amount that eight bytes hold, none where they are outside its bounds
-- StandFor m f bs a  the bytes bs are within the bounds of the form f and stand for what the amount a means
-- OnlyFor m f a bs   bs, and no other eight bytes, stand for the amount a
-- BytesOf m f a r    r is the one list of eight bytes that stands for the amount a, or none where no list does
-- mass_form          masses: code 1, a signed number within 10^12 either way
-- totaliser_form     totalisers: code 2, an unsigned number up to 999,999
use Rattle.std.specs.Prelude.{◌≡◌, ℕ, if◌then◌else◌, List, Some, None, Option, MatchOption, nat_lt}
use Rattle.quantity.specs.declared.mass.Mass.{Mass}
use Rattle.quantity.specs.declared.totaliser.Totaliser.{Totaliser}
use Rattle.quantity.specs.Bytes.{Eight, little, signed_little}
use Rattle.quantity.specs.Masses.{bounded}
use Rattle.quantity.specs.Model.{Model}
use Rattle.quantity.specs.Totalisers.{modulus}

pub record SheetForm (Q : Type 0) : Type 0 where
  pub code : ℕ
  pub holds : List ℕ → Option Q

abbrev pub StandFor : {Q : Type 0} → Model Q → SheetForm Q → List ℕ → Q → Type 0
StandFor m f bs a = MatchOption (f.holds bs) ⊥ (λ b. m.means b ≡ m.means a)

abbrev pub OnlyFor : {Q : Type 0} → Model Q → SheetForm Q → Q → List ℕ → Type 0
OnlyFor m f a bs = StandFor m f bs a × ((cs : List ℕ) → Eight cs → StandFor m f cs a → cs ≡ bs)

abbrev pub BytesOf : {Q : Type 0} → Model Q → SheetForm Q → Q → Option (List ℕ) → Type 0
BytesOf m f a r = MatchOption r ((bs : List ℕ) → Eight bs → ¬ StandFor m f bs a) (λ bs. OnlyFor m f a bs)

abbrev pub mass_form : SheetForm Mass
mass_form = record {
  code = 1;
  holds = λ bs. if bounded (signed_little bs) then Some (record { 0 = signed_little bs }) else None;
}

abbrev pub totaliser_form : SheetForm Totaliser
totaliser_form = record {
  code = 2;
  holds = λ bs. if nat_lt (little bs) modulus then Some (record { 0 = little bs }) else None;
}
