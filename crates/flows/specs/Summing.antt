-- Net amounts summed one stream at a time, as a loop over the streams does. Assumes nothing.
--
-- net_so_far G D n C f   the net amount of C over the streams below n; it is net_below, not unfolded in a loop
use Rattle.std.specs.Prelude.{ℕ, Bool}
use Rattle.quantity.specs.Group.{Group}
use Rattle.flows.specs.Drawings.{Drawing}
use Rattle.flows.specs.Flows.{net_below}

unfoldable pub net_so_far : (G : Group) → Drawing → ℕ → (ℕ → Bool) → (ℕ → G.Element) → G.Element
net_so_far G D n C f = net_below G D n C f
