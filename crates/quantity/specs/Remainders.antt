-- Facts of remainders that the definitions of groups modulo m carry with them. Assumes nothing.
use Rattle.std.specs.Prelude.{◌≡◌, ℕ, ◌+◌, ◌-◌, ◌%◌, ◌<◌}
use Rattle.std.proofs.Common.{sym, ap, ◌∙◌, mod-eq_of_lt, add_assoc, zero-add, arith}
use Rattle.std.proofs.Math.Nat.{mod_self, mod-add-mod, add-mod-mod}

pub assoc_remainder : (m x y z : ℕ) → ((x + y) % m + z) % m ≡ (x + (y + z) % m) % m
assoc_remainder m x y z =
    mod-add-mod (x + y) m z ∙ ap (λ n. n % m) (add_assoc x y z) ∙ sym (add-mod-mod x (y + z) m)

pub unit_remainder : (m x : ℕ) → x < m → (0 % m + x) % m ≡ x
unit_remainder m x h = mod-add-mod 0 m x ∙ ap (λ n. n % m) (zero-add x) ∙ mod-eq_of_lt h

pub inverse_remainder : (m x : ℕ) → x < m → (x + (m - x) % m) % m ≡ 0 % m
inverse_remainder m x h =
    let whole : x + (m - x) ≡ m = omega arith in
    let some : 0 < m = omega arith in
    add-mod-mod x (m - x) m ∙ ap (λ n. n % m) whole ∙ mod_self m ∙ sym (mod-eq_of_lt some)
