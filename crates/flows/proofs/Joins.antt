-- Places that streams join. Assumes nothing.
use Rattle.std.proofs.Common.{◌≡◌, ℕ, ◌≤◌, Bool, refl, inl, inr, ⊎_elim, arith}
use Rattle.std.proofs.lemmas.Bool.Decides.{same_from_decides, Decides-like}
use Rattle.flows.specs.Drawings.{Drawing}
use Rattle.flows.specs.Parts.{Joined, here, along, Part, Uncrossed}

module _ {D : Drawing} where
  pub joined_map : {S T : ℕ → Type 0} {a b : ℕ} → ((k : ℕ) → S k → T k) → Joined D S a b → Joined D T a b
  joined_map f here = here
  joined_map f (along k s e j) = along k (f k s) e (joined_map f j)

  pub joined_trans : {S : ℕ → Type 0} {a b c : ℕ} → Joined D S a b → Joined D S b c → Joined D S a c
  joined_trans here j = j
  joined_trans (along k s e i) j = along k s e (joined_trans i j)

  pub joined_sym : {S : ℕ → Type 0} {a b : ℕ} → Joined D S a b → Joined D S b a
  joined_sym here = here
  joined_sym (along k s e j) = joined_trans (joined_sym j) (along k s (⊎_elim inr inl e) here)

  -- an uncrossed set holds both of two joined places or neither
  pub joined_uncrossed : {S : ℕ → Type 0} {a b : ℕ} (C : ℕ → Bool) → Uncrossed D S C → Joined D S a b → C a ≡ C b
  joined_uncrossed C h here = refl
  joined_uncrossed C h (along k s e j) = grind (arith, h k s, joined_uncrossed C h j)

  -- the ends of a stream
  pub joined_ends : {S : ℕ → Type 0} (k : ℕ) → S k → Joined D S (D.from k) (D.to k)
  joined_ends k s = along k s (inl (refl, refl)) here

  -- a part is uncrossed
  pub part_uncrossed : (S : ℕ → Type 0) → ((k : ℕ) → S k → (D.from k ≤ D.units) × (D.to k ≤ D.units)) → (v : ℕ) (C : ℕ → Bool) → Part D S v C → Uncrossed D S C
  part_uncrossed S w v C p k s = same_from_decides (C (D.from k)) (C (D.to k)) (p (D.from k) (w k s).0)
      (Decides-like (C (D.to k)) (λ j. joined_trans j (joined_sym (joined_ends k s))) (λ j. joined_trans j (joined_ends k s)) (p (D.to k) (w k s).1))

  -- a place that streams join to a place within the drawing is within it
  pub joined_within : {S : ℕ → Type 0} {a b : ℕ} → ((k : ℕ) → S k → (D.from k ≤ D.units) × (D.to k ≤ D.units)) → a ≤ D.units → Joined D S a b → b ≤ D.units
  joined_within w la here = la
  joined_within w la (along k s e j) = joined_within w (grind (arith, w k s)) j
