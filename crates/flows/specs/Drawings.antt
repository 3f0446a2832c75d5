-- Drawings of plants: streams by number, each between two places. Assumes nothing.
--
-- Drawing           places 0 to units, place 0 being the surroundings, and streams by number with their two ends;
--                   both ends may be one place, and several streams may join the same two
-- InUse D k         stream k is in use
-- Within D          both ends of each stream in use are places of the drawing
-- Between D k a b   stream k joins the places a and b, in one direction or the other
use Rattle.std.specs.Prelude.{◌≡◌, ℕ, ◌<◌, ◌≤◌, Bool, true, ◌⊎◌}

-- Stream numbers are below size. The ends of a number that is not in use mean nothing.
pub record Drawing : Type 0 where
  pub size : ℕ
  pub units : ℕ
  pub used : ℕ → Bool
  pub from : ℕ → ℕ
  pub to : ℕ → ℕ

abbrev pub InUse : Drawing → ℕ → Type 0
InUse D k = (k < D.size) × (D.used k ≡ true)

pub record Within (D : Drawing) : Type 0 where
  pub from : (k : ℕ) → InUse D k → D.from k ≤ D.units
  pub to : (k : ℕ) → InUse D k → D.to k ≤ D.units

abbrev pub Between : Drawing → ℕ → ℕ → ℕ → Type 0
Between D k a b = ((D.from k ≡ a) × (D.to k ≡ b)) ⊎ ((D.from k ≡ b) × (D.to k ≡ a))
