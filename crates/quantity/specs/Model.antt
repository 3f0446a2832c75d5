-- What the values of an amount type mean. Assumes nothing.
--
-- Model   a group, and the element of it that each value means
use Rattle.quantity.specs.Group.{Group}

-- Two values may mean one element; amounts are compared by what they mean.
pub record Model (Q : Type 0) : Type 1 where
  pub group : Group
  pub means : Q → group.Element
