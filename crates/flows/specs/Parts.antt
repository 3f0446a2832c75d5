-- Parts of a plant: places that streams join. Assumes nothing.
--
-- These see the drawing and sets of streams, and no amount. A set of read streams is a test R on numbers; other sets of
-- streams are predicates S.
--
-- Read D R k         stream k is in use and read
-- Unread D R k       stream k is in use and not read
-- Others S n k       stream k is one of S, and not n
-- Joined D S a b     streams of S join the places a and b, directions ignored
-- Part D S v C       C is the part of v: of the places 0 to units, the test C holds exactly those that streams of S join to v
-- Uncrossed D S C    no stream of S has one end in C and one outside
-- Linked D R n       unread streams other than n join the two ends of n
-- FromSide D R n C   C is the side of the from end of n: what unread streams other than n join to it
-- ToSide D R n C     C is the side of its to end
use Rattle.std.specs.Prelude.{◌≡◌, ◌≢◌, ℕ, ◌≤◌, Bool, true, false, ◌↔◌}
use Rattle.flows.specs.Drawings.{Drawing, InUse, Between}

abbrev pub Read : Drawing → (ℕ → Bool) → ℕ → Type 0
Read D R k = InUse D k × (R k ≡ true)

abbrev pub Unread : Drawing → (ℕ → Bool) → ℕ → Type 0
Unread D R k = InUse D k × (R k ≡ false)

abbrev pub Others : (ℕ → Type 0) → ℕ → ℕ → Type 0
Others S n k = S k × (k ≢ n)

-- A walk from place to place along streams of S.
pub data Joined (D : Drawing) (S : ℕ → Type 0) : ℕ → ℕ → Type 0 where
  here : {a : ℕ} → Joined D S a a
  along : {a b c : ℕ} (k : ℕ) → S k → Between D k a b → Joined D S b c → Joined D S a c

abbrev pub Part : Drawing → (ℕ → Type 0) → ℕ → (ℕ → Bool) → Type 0
Part D S v C = (w : ℕ) → w ≤ D.units → (C w ≡ true) ↔ Joined D S v w

abbrev pub Uncrossed : Drawing → (ℕ → Type 0) → (ℕ → Bool) → Type 0
Uncrossed D S C = (k : ℕ) → S k → C (D.from k) ≡ C (D.to k)

abbrev pub Linked : Drawing → (ℕ → Bool) → ℕ → Type 0
Linked D R n = Joined D (Others (Unread D R) n) (D.from n) (D.to n)

abbrev pub FromSide : Drawing → (ℕ → Bool) → ℕ → (ℕ → Bool) → Type 0
FromSide D R n C = Part D (Others (Unread D R) n) (D.from n) C

abbrev pub ToSide : Drawing → (ℕ → Bool) → ℕ → (ℕ → Bool) → Type 0
ToSide D R n C = Part D (Others (Unread D R) n) (D.to n) C
