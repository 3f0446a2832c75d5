-- Numbers as an account's text writes them. Assumes nothing.
--
-- Writes bs n         the bytes bs write the number n in decimal, perhaps after a plus
-- WritesSigned bs z   the bytes bs write the whole number z in decimal, perhaps after a plus or a minus
-- WritesDay bs n      the bytes bs write the day n of a month, from 1 to 31
-- WritesAdvance bs t  the bytes bs write the advance t of a six-digit counter, at most 999,999
-- WritesMass bs m     the bytes bs write the mass m, at most 10^12 grams either way
-- Finds P r           r is a value of which P holds, or none where P holds of no value
use Rattle.std.specs.Prelude.{◌≡◌, ℕ, ◌<◌, ◌≤◌, List, ℤ, Option, MatchOption}
use Rattle.std.specs.Str.Parse.{IsNumeral, digits_value, without_leading_plus, without_leading_sign, signed_digits_value}
use Rattle.quantity.specs.declared.mass.Mass.{Mass}
use Rattle.quantity.specs.declared.totaliser.Totaliser.{Totaliser}
use Rattle.quantity.specs.Masses.{Bounded}
use Rattle.quantity.specs.Totalisers.{modulus}

abbrev pub Writes : List ℕ → ℕ → Type 0
Writes bs n = IsNumeral 10 (without_leading_plus bs) × (digits_value 10 (without_leading_plus bs) ≡ n)

abbrev pub WritesSigned : List ℕ → ℤ → Type 0
WritesSigned bs z = IsNumeral 10 (without_leading_sign bs) × (signed_digits_value 10 bs ≡ z)

abbrev pub WritesDay : List ℕ → ℕ → Type 0
WritesDay bs n = Writes bs n × (1 ≤ n) × (n ≤ 31)

abbrev pub WritesAdvance : List ℕ → Totaliser → Type 0
WritesAdvance bs t = Writes bs t.0 × (t.0 < modulus)

abbrev pub WritesMass : List ℕ → Mass → Type 0
WritesMass bs m = WritesSigned bs m.0 × Bounded m.0

abbrev pub Finds : {A : Type 0} → (A → Type 0) → Option A → Type 0
Finds {A} P r = MatchOption r ((a : A) → ¬ P a) P
