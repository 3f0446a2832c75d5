-- The headings of an account. Assumes nothing.
--
-- mass_heading       the line that heads an account of masses
-- totaliser_heading  the line that may head an account of a counter's advances
use Rattle.std.specs.Prelude.{ℕ, List, codes}

abbrev pub mass_heading : List ℕ
mass_heading = codes "quantity mass"

abbrev pub totaliser_heading : List ℕ
totaliser_heading = codes "quantity totaliser"
