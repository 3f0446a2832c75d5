-- Abelian groups. Assumes nothing.
--
-- Group     the elements, zero, sum and negative, with the laws that they obey
-- product   two groups side by side, each with its own sum
-- whole     the whole numbers, of either sign, under addition
use Rattle.std.specs.Prelude.{◌≡◌, ℤ, pos, ◌+ℤ◌, neg_ℤ}
use Rattle.std.proofs.Math.IntN.{+ℤ_assoc, +ℤ_comm, +ℤ_idl, +ℤ_invr}

-- An abelian group.
pub record Group : Type 1 where
  pub Element : Type 0
  pub zero : Element
  pub plus : Element → Element → Element
  pub minus : Element → Element
  pub assoc : (x y z : Element) → plus (plus x y) z ≡ plus x (plus y z)
  pub comm : (x y : Element) → plus x y ≡ plus y x
  pub unit : (x : Element) → plus zero x ≡ x
  pub inverse : (x : Element) → plus x (minus x) ≡ zero

-- Pairs of elements: zero, sum and negative are taken part by part.
abbrev pub product : Group → Group → Group
product G H = record {
  Element = G.Element × H.Element;
  zero = (G.zero, H.zero);
  plus = λ x y. (G.plus x.0 y.0, H.plus x.1 y.1);
  minus = λ x. (G.minus x.0, H.minus x.1);
  assoc = λ x y z i. (G.assoc x.0 y.0 z.0 i, H.assoc x.1 y.1 z.1 i);
  comm = λ x y i. (G.comm x.0 y.0 i, H.comm x.1 y.1 i);
  unit = λ x i. (G.unit x.0 i, H.unit x.1 i);
  inverse = λ x i. (G.inverse x.0 i, H.inverse x.1 i);
}

-- The whole numbers under addition.
abbrev pub whole : Group
whole = record {
  Element = ℤ;
  zero = pos 0;
  plus = ◌+ℤ◌;
  minus = neg_ℤ;
  assoc = +ℤ_assoc;
  comm = +ℤ_comm;
  unit = +ℤ_idl;
  inverse = +ℤ_invr;
}
