-- Closed paths. Assumes nothing.
--
-- Member x xs         x stands in the list xs
-- Distinct xs         no number stands in the list twice
-- Route D S a b ks vs a way from a to b along streams of S: ks are its streams in order, vs the places met after each
-- ClosedPath D S n    a way along streams of S, n among them, that leaves a place and returns to it,
--                     uses no stream twice and meets no other place twice
use Rattle.std.specs.Prelude.{⊤, ◌≡◌, ℕ, ◌⊎◌, List, [], ◌∷◌}
use Rattle.flows.specs.Drawings.{Drawing, Between}

abbrev pub Member : ℕ → List ℕ → Type 0
Member x [] = ⊥
Member x (y ∷ ys) = (x ≡ y) ⊎ Member x ys

abbrev pub Distinct : List ℕ → Type 0
Distinct [] = ⊤
Distinct (x ∷ xs) = ¬ Member x xs × Distinct xs

pub data Route (D : Drawing) (S : ℕ → Type 0) : ℕ → ℕ → List ℕ → List ℕ → Type 0 where
  stop : {a : ℕ} → Route D S a a [] []
  next : {a b c : ℕ} {ks vs : List ℕ} (k : ℕ) → S k → Between D k a b → Route D S b c ks vs → Route D S a c (k ∷ ks) (b ∷ vs)

-- The start is met last, and so only once: two parallel streams form a closed path, a stream from a place to itself
-- is one alone, and there is none without a stream. Directions are ignored.
pub record ClosedPath (D : Drawing) (S : ℕ → Type 0) (n : ℕ) : Type 0 where
  pub start : ℕ
  pub streams : List ℕ
  pub met : List ℕ
  pub route : Route D S start start streams met
  pub no_stream_twice : Distinct streams
  pub no_place_twice : Distinct met
  pub through : Member n streams
