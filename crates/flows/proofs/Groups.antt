-- What the laws of an abelian group give. Assumes nothing.
use Rattle.std.proofs.Common.{◌≡◌, ◌∙◌, arith}
use Rattle.quantity.specs.Group.{Group}

module _ (G : Group) where
  open G use {Element, zero, plus, minus, assoc, comm, unit, inverse}

  pub unit_r : (x : Element) → plus x zero ≡ x
  unit_r x = comm x zero ∙ unit x

  pub left_comm : (x y z : Element) → plus x (plus y z) ≡ plus y (plus x z)
  left_comm x y z = grind (arith, assoc, comm x y)

  pub middle : (a b c d : Element) → plus (plus a b) (plus c d) ≡ plus (plus a c) (plus b d)
  middle a b c d = simp (assoc, left_comm b c d)

  -- a sum with an element and its negative
  pub cancel : (x y : Element) → plus x (plus (minus x) y) ≡ y
  cancel x y = grind (arith, assoc x (minus x) y, inverse, unit)

  -- the negative on the left
  pub inverse_l : (x : Element) → plus (minus x) x ≡ zero
  inverse_l x = comm (minus x) x ∙ inverse x

  -- what sums to zero with y is its negative
  pub negative_only : (x y : Element) → plus x y ≡ zero → x ≡ minus y
  negative_only x y e = grind (arith, assoc x y (minus y), unit, unit_r, inverse)

  pub minus_zero : minus zero ≡ zero
  minus_zero = grind (arith, unit (minus zero), inverse)

  pub minus_minus : (x : Element) → minus (minus x) ≡ x
  minus_minus x = grind (arith, negative_only x (minus x), inverse)

  pub minus_plus : (x y : Element) → minus (plus x y) ≡ plus (minus x) (minus y)
  minus_plus x y = grind (arith, negative_only (plus (minus x) (minus y)) (plus x y), assoc, left_comm, comm, inverse, unit)

  -- the negative of a difference is the difference the other way round
  pub minus_difference : (x y : Element) → minus (plus x (minus y)) ≡ plus y (minus x)
  minus_difference x y = grind (arith, minus_plus, minus_minus, comm)

  -- two whose difference is zero are the same
  pub same_from_difference : (x y : Element) → plus x (minus y) ≡ zero → x ≡ y
  same_from_difference x y e = negative_only x (minus y) e ∙ minus_minus y

  -- a sum with what is missing to it
  pub made_up : (x y : Element) → plus y (plus x (minus y)) ≡ x
  made_up x y = grind (arith, left_comm y x (minus y), unit_r, inverse)
