-- Masses and components: counts of grams modulo 2^64. Assumes nothing.
--
-- counts            the group of the counts modulo 2^64
-- grams z           the count that z grams mean
-- mass_model        what a mass means
-- components_model  what a record of four masses means
-- components_text   the four counts of a record in decimal, a space (the byte 32) between two
-- bound             the largest count of grams, either way, that a sheet holds: 10^12
-- bounded z         whether z grams are within the bound
-- Bounded z         they are
use Rattle.std.specs.Prelude.{◌≡◌, ℕ, ◌^◌, Bool, true, ◌&&◌, List, [], ◌∷◌, map, ℤ, pos, neg_ℤ, int_le}
use Rattle.std.specs.List.{join_with_byte}
use Rattle.std.specs.Fmt.{signed_decimal}
use Rattle.std.proofs.Common.{lit<}
use Rattle.quantity.specs.declared.components.Components.{Components}
use Rattle.quantity.specs.declared.mass.Mass.{Mass}
use Rattle.quantity.specs.Group.{Group, product}
use Rattle.quantity.specs.Model.{Model}
use Rattle.quantity.specs.Modulo.{modulo, residue}

abbrev pub counts : Group
counts = modulo (2 ^ 64) (lit< tt)

abbrev pub grams : ℤ → counts.Element
grams z = residue (2 ^ 64) (lit< tt) z

abbrev pub mass_model : Model Mass
mass_model = record { group = counts; means = λ m. grams m.0 }

abbrev pub components_model : Model Components
components_model = record {
  group = product (product counts counts) (product counts counts);
  means = λ c. ((grams c.first.0, grams c.second.0), (grams c.third.0, grams c.fourth.0));
}

abbrev pub components_text : Components → List ℕ
components_text c =
    join_with_byte 32 (map (λ m. signed_decimal m.0) (c.first ∷ c.second ∷ c.third ∷ c.fourth ∷ []))

abbrev pub bound : ℕ
bound = 1000000000000

abbrev pub bounded : ℤ → Bool
bounded z = int_le (neg_ℤ (pos bound)) z && int_le z (pos bound)

abbrev pub Bounded : ℤ → Type 0
Bounded z = bounded z ≡ true
