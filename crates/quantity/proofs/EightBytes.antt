-- The number that eight bytes write. Assumes nothing.
use Rattle.std.proofs.Common.{All, ◌≡◌, ℕ, suc, ◌+◌, ◌*◌, ◌^◌, ◌<◌, List, [], ◌∷◌, length, get_or, sym, refl, ap, ◌∙◌, subst, ap₂, pow-suc, arith, lit<, rules, w64}
use Rattle.std.specs.Int.{to_le_bytes}
use Rattle.std.proofs.ByRecursion.{All-get_or}
use Rattle.std.proofs.NetLemmas.Arrays.{eight_items}
use Rattle.std.proofs.lemmas.Nat.{from_le_bytes-to_le_bytes_8}
use Rattle.quantity.specs.Bytes.{Eight, little}

-- the number of eight places, each by its weight
pub little_eight : (bs : List ℕ) → length bs ≡ 8 → get_or bs 0 0 + get_or bs 1 0 * 256 + get_or bs 2 0 * 65536 + get_or bs 3 0 * 16777216 + get_or bs 4 0 * 4294967296 + get_or bs 5 0 * 1099511627776 + get_or bs 6 0 * 281474976710656 + get_or bs 7 0 * 72057594037927936 ≡ little bs
little_eight bs e = let same = ap little (eight_items bs e) in omega arith

-- the bytes that the library writes for a 64-bit number
pub written_eight : (n : ℕ) → Eight (to_le_bytes w64 n)
written_eight n = (refl, λ k d h. All-get_or (λ b. b < 256) (to_le_bytes w64 n) k d h (search rules))

pub written_little : (n : ℕ) → n < 2 ^ 64 → little (to_le_bytes w64 n) ≡ n
written_little n h = let back = from_le_bytes-to_le_bytes_8 n h in omega arith

-- bytes write a number below 256 to the power of their count
below_power : (bs : List ℕ) → All (λ b. b < 256) bs → little bs < 256 ^ length bs
below_power [] each = lit< tt
below_power (b ∷ bs) each =
    let small = each 0 0 (omega arith) in
    let rest = below_power bs (λ k d h. each (suc k) d (omega arith)) in
    let power = pow-suc 256 (length bs) in
    omega arith

pub little_below : (bs : List ℕ) → Eight bs → little bs < 2 ^ 64
little_below bs eight = let P : ℕ → Type 0 = λ n. little bs < 256 ^ n in subst P eight.0 (below_power bs eight.1)

-- bytes that write one number are the same bytes
same_length : (bs cs : List ℕ) → length bs ≡ length cs → All (λ b. b < 256) bs → All (λ c. c < 256) cs → little bs ≡ little cs → bs ≡ cs
same_length [] [] long each_b each_c e = refl
same_length [] (c ∷ cs) long each_b each_c e = absurd (omega arith)
same_length (b ∷ bs) [] long each_b each_c e = absurd (omega arith)
same_length (b ∷ bs) (c ∷ cs) long each_b each_c e =
    let small_b = each_b 0 0 (omega arith) in
    let small_c = each_c 0 0 (omega arith) in
    let low : b ≡ c = omega arith in
    let high : little bs ≡ little cs = omega arith in
    ap₂ ◌∷◌ low (same_length bs cs (omega arith) (λ k d h. each_b (suc k) d (omega arith)) (λ k d h. each_c (suc k) d (omega arith)) high)

pub little_same : (bs cs : List ℕ) → Eight bs → Eight cs → little bs ≡ little cs → bs ≡ cs
little_same bs cs b c e = same_length bs cs (b.0 ∙ sym c.0) b.1 c.1 e
