-- Flows, over any abelian group. Assumes nothing.
--
-- A flow f gives an amount to each stream number; only those in use count. C is a set of places. t is a table of
-- readings: an amount at each read stream, and none at the others.
--
-- pick G b x            x where b is true, else zero
-- total_below G D m p f the sum of f over the streams in use below m that pass the test p
-- total G D p f         the sum of f over all streams in use that pass p
-- arriving G D f v      what f brings to place v
-- departing G D f v     what f takes away from place v
-- leaving G D C f       what f carries from a place in C to one outside
-- entering G D C f      what f carries from a place outside C to one in C
-- net G D C f           leaving less entering
-- net_below G D m C f   .. over the streams below m alone
-- Balanced G D f        at each place from 1 to units, f brings as much as it takes away
-- Agrees G D t f        f has the reading of each read stream
-- AgreesBut G D n t f   .. of each other than n
-- ZeroOn G D S f        f is zero on the streams of the set S
-- Possible G D t f      f is balanced and agrees: it may have run
-- PossibleBut G D n t f    f is balanced and agrees with the readings other than that of n
-- SomeFlow G D t        some balanced flow agrees
-- read_set t            the numbers that have a reading
-- amount G o            a reading as an amount, zero where there is none
-- readings G t          the readings as amounts
use Rattle.std.specs.Prelude.{◌≡◌, ◌≢◌, ℕ, ◌≤◌, Bool, true, if◌then◌else◌, not, ◌&&◌, is_some, Some, None, Option, ◌==◌}
use Rattle.quantity.specs.Group.{Group}
use Rattle.quantity.specs.Sums.{sum}
use Rattle.flows.specs.Drawings.{Drawing, InUse}

abbrev pub pick : (G : Group) → Bool → G.Element → G.Element
pick G b x = if b then x else G.zero

abbrev pub total_below : (G : Group) → Drawing → ℕ → (ℕ → Bool) → (ℕ → G.Element) → G.Element
total_below G D m test f = sum G m (λ k. pick G (D.used k && test k) (f k))

unfoldable pub total : (G : Group) → Drawing → (ℕ → Bool) → (ℕ → G.Element) → G.Element
total G D test f = total_below G D D.size test f

abbrev pub arriving : (G : Group) → Drawing → (ℕ → G.Element) → ℕ → G.Element
arriving G D f v = total G D (λ k. D.to k == v) f

abbrev pub departing : (G : Group) → Drawing → (ℕ → G.Element) → ℕ → G.Element
departing G D f v = total G D (λ k. D.from k == v) f

abbrev pub leaving : (G : Group) → Drawing → (ℕ → Bool) → (ℕ → G.Element) → G.Element
leaving G D C f = total G D (λ k. C (D.from k) && not (C (D.to k))) f

abbrev pub entering : (G : Group) → Drawing → (ℕ → Bool) → (ℕ → G.Element) → G.Element
entering G D C f = total G D (λ k. C (D.to k) && not (C (D.from k))) f

unfoldable pub net : (G : Group) → Drawing → (ℕ → Bool) → (ℕ → G.Element) → G.Element
net G D C f = G.plus (leaving G D C f) (G.minus (entering G D C f))

abbrev pub net_below : (G : Group) → Drawing → ℕ → (ℕ → Bool) → (ℕ → G.Element) → G.Element
net_below G D m C f = G.plus (total_below G D m (λ k. C (D.from k) && not (C (D.to k))) f) (G.minus (total_below G D m (λ k. C (D.to k) && not (C (D.from k))) f))

abbrev pub Balanced : (G : Group) → Drawing → (ℕ → G.Element) → Type 0
Balanced G D f = (v : ℕ) → 1 ≤ v → v ≤ D.units → arriving G D f v ≡ departing G D f v

abbrev pub Agrees : (G : Group) → Drawing → (ℕ → Option G.Element) → (ℕ → G.Element) → Type 0
Agrees G D t f = (k : ℕ) → InUse D k → (x : G.Element) → t k ≡ Some x → f k ≡ x

abbrev pub AgreesBut : (G : Group) → Drawing → ℕ → (ℕ → Option G.Element) → (ℕ → G.Element) → Type 0
AgreesBut G D n t f = (k : ℕ) → InUse D k → k ≢ n → (x : G.Element) → t k ≡ Some x → f k ≡ x

abbrev pub ZeroOn : (G : Group) → Drawing → (ℕ → Bool) → (ℕ → G.Element) → Type 0
ZeroOn G D S f = (k : ℕ) → InUse D k → S k ≡ true → f k ≡ G.zero

pub record Possible (G : Group) (D : Drawing) (t : ℕ → Option G.Element) (f : ℕ → G.Element) : Type 0 where
  pub balanced : Balanced G D f
  pub agrees : Agrees G D t f

pub record PossibleBut (G : Group) (D : Drawing) (n : ℕ) (t : ℕ → Option G.Element) (f : ℕ → G.Element) : Type 0 where
  pub balanced : Balanced G D f
  pub agrees : AgreesBut G D n t f

abbrev pub SomeFlow : (G : Group) → Drawing → (ℕ → Option G.Element) → Type 0
SomeFlow G D t = (f : ℕ → G.Element) × Possible G D t f

abbrev pub read_set : {X : Type 0} → (ℕ → Option X) → ℕ → Bool
read_set t k = is_some (t k)

abbrev pub amount : (G : Group) → Option G.Element → G.Element
amount G (Some x) = x
amount G None = G.zero

abbrev pub readings : (G : Group) → (ℕ → Option G.Element) → ℕ → G.Element
readings G t k = amount G (t k)
