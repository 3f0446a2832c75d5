-- Numbers as bytes, the lowest byte first. Assumes nothing.
--
-- Eight bs          bs are eight bytes
-- little bs         the number that bs write, without a sign
-- signed_little bs  the number that eight bytes write with a sign, in two's complement
use Rattle.std.specs.Prelude.{All, ◌≡◌, ℕ, ◌+◌, ◌*◌, ◌<◌, List, [], ◌∷◌, length, ℤ}
use Rattle.std.specs.Int.{w64}
use Rattle.std.proofs.Common.{to_z}

abbrev pub Eight : List ℕ → Type 0
Eight bs = (length bs ≡ 8) × All (λ b. b < 256) bs

abbrev pub little : List ℕ → ℕ
little [] = 0
little (b ∷ bs) = b + 256 * little bs

abbrev pub signed_little : List ℕ → ℤ
signed_little bs = to_z w64 (little bs)
