-- Labels of places, by which a program may know the parts. Assumes nothing.
--
-- Below n e k       stream k has a number below n and passes the test e
-- Labels D S label  two places have one label exactly if streams of S join them
use Rattle.std.specs.Prelude.{◌≡◌, ℕ, ◌<◌, ◌≤◌, Bool, true}
use Rattle.flows.specs.Drawings.{Drawing}
use Rattle.flows.specs.Parts.{Joined}

abbrev pub Below : ℕ → (ℕ → Bool) → ℕ → Type 0
Below n e k = (k < n) × (e k ≡ true)

pub record Labels (D : Drawing) (S : ℕ → Type 0) (label : ℕ → ℕ) : Type 0 where
  pub alike : (k : ℕ) → S k → label (D.from k) ≡ label (D.to k)
  pub joined : (a b : ℕ) → a ≤ D.units → b ≤ D.units → label a ≡ label b → Joined D S a b
