-- Amounts filled in one stream at a time, until a flow is balanced. Assumes nothing.
--
-- Fillable G D S r   every set of places that no stream of S crosses has net zero under r, so that r can be made a
--                    balanced flow by other amounts on S alone
-- FillSide D S n B   B holds the places that streams of S join to the from place of n, among the ends of streams in use
use Rattle.std.specs.Prelude.{◌≡◌, ℕ, Bool, true}
use Rattle.quantity.specs.Group.{Group}
use Rattle.flows.specs.Drawings.{Drawing, InUse}
use Rattle.flows.specs.Flows.{net}
use Rattle.flows.specs.Parts.{Joined, Uncrossed}

abbrev pub Fillable : (G : Group) → Drawing → (ℕ → Type 0) → (ℕ → G.Element) → Type 0
Fillable G D S r = (C : ℕ → Bool) → Uncrossed D S C → net G D C r ≡ G.zero

pub record FillSide (D : Drawing) (S : ℕ → Type 0) (n : ℕ) (B : ℕ → Bool) : Type 0 where
  pub self : B (D.from n) ≡ true
  pub uncrossed : Uncrossed D S B
  pub from : (k : ℕ) → InUse D k → B (D.from k) ≡ true → Joined D S (D.from n) (D.from k)
  pub to : (k : ℕ) → InUse D k → B (D.to k) ≡ true → Joined D S (D.from n) (D.to k)
