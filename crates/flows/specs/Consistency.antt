-- Net amounts of parts, and cut sums. Assumes nothing.
--
-- D is a drawing, t a table of readings, over any abelian group G. Place 0 is the surroundings.
--
-- net_reading G D t C   readings of the streams in use that leave C, less readings of those that enter it
-- InDispute G D t v C   C is the part of unit v, is without place 0, and has a net amount other than zero
-- Inconsistent G D t    some part without place 0 has a net amount other than zero
-- Consistent G D t      each part without place 0 has the net amount zero
-- Conflict G D t C      a set C without place 0 that no unread stream crosses has a net amount other than zero
-- CutSum G D t n x      x is the cut sum of n: the readings that enter the side of its from unit, less those that leave it
use Rattle.std.specs.Prelude.{◌≡◌, ◌≢◌, ℕ, ◌≤◌, Bool, false, Option}
use Rattle.quantity.specs.Group.{Group}
use Rattle.flows.specs.Drawings.{Drawing}
use Rattle.flows.specs.Flows.{leaving, entering, net, read_set, readings}
use Rattle.flows.specs.Parts.{Unread, Part, Uncrossed, FromSide}

module _ (G : Group) (D : Drawing) (t : ℕ → Option G.Element) where
  abbrev pub net_reading : (ℕ → Bool) → G.Element
  net_reading C = net G D C (readings G t)

  pub record InDispute (v : ℕ) (C : ℕ → Bool) : Type 0 where
    pub unit : v ≤ D.units
    pub part : Part D (Unread D (read_set t)) v C
    pub without_0 : C 0 ≡ false
    pub not_zero : net_reading C ≢ G.zero

  abbrev pub Inconsistent : Type 0
  Inconsistent = (v : ℕ) × (C : ℕ → Bool) × InDispute v C

  abbrev pub Consistent : Type 0
  Consistent = (v : ℕ) → v ≤ D.units → (C : ℕ → Bool) → Part D (Unread D (read_set t)) v C → C 0 ≡ false → net_reading C ≡ G.zero

  pub record Conflict (C : ℕ → Bool) : Type 0 where
    pub without_0 : C 0 ≡ false
    pub only_read_cross : Uncrossed D (Unread D (read_set t)) C
    pub not_zero : net_reading C ≢ G.zero

  pub record CutSum (n : ℕ) (x : G.Element) : Type 0 where
    pub side : ℕ → Bool
    pub from_side : FromSide D (read_set t) n side
    pub sum : x ≡ G.plus (entering G D side (readings G t)) (G.minus (leaving G D side (readings G t)))
