-- Totalisers: advances of a six-digit roll-over counter. Assumes nothing.
--
-- modulus          the number of steps after which the counter shows the same six digits again: 1,000,000
-- taken n          the advance, from 0 to 999,999, that the number n is taken as: n itself, or 0 where n is larger
-- advances         the group of the advances modulo 1,000,000
-- advance_of n     the element of that group that the number n means
-- totaliser_model  what a totaliser means
-- RollsOver n k    a counter that stands at n passes 999,999 when it moves on by k
use Rattle.std.specs.Prelude.{ℕ, ◌+◌, ◌≤◌, if◌then◌else◌, nat_lt}
use Rattle.std.proofs.Common.{lit<}
use Rattle.quantity.specs.declared.totaliser.Totaliser.{Totaliser}
use Rattle.quantity.specs.Group.{Group}
use Rattle.quantity.specs.Model.{Model}
use Rattle.quantity.specs.Modulo.{modulo, rest}

abbrev pub modulus : ℕ
modulus = 1000000

abbrev pub taken : ℕ → ℕ
taken n = if nat_lt n modulus then n else 0

abbrev pub advances : Group
advances = modulo modulus (lit< tt)

abbrev pub advance_of : ℕ → advances.Element
advance_of n = rest modulus (lit< tt) (taken n)

abbrev pub totaliser_model : Model Totaliser
totaliser_model = record { group = advances; means = λ t. advance_of t.0 }

abbrev pub RollsOver : Totaliser → Totaliser → Type 0
RollsOver n k = modulus ≤ taken n.0 + taken k.0
