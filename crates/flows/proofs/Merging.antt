-- Labels of places, merged one stream at a time. Assumes nothing.
--
-- A loop over the streams starts with `labels_start`, takes `labels_skip` or `labels_merge` at each, and ends with labels for
-- all streams that pass.
use Rattle.std.proofs.Common.{◌≡◌, ℕ, ◌+◌, ◌<◌, ◌≤◌, Bool, true, false, if◌then◌else◌, ◌⊎◌, ◌↔◌, IsTrue, ◌==◌, sym, ap, ◌∙◌, ⊎_elim, arith}
use Rattle.std.proofs.lemmas.Bool.{eqb-true}
use Rattle.std.proofs.lemmas.Bool.Decides.{nat_tests}
use Rattle.flows.specs.Drawings.{Drawing, Within}
use Rattle.flows.specs.Labels.{Below, Labels}
use Rattle.flows.specs.Parts.{Joined, here, Part}
use Rattle.flows.proofs.Joins.{joined_map, joined_trans, joined_sym, joined_ends, joined_uncrossed}

-- two places have one label exactly if streams of S join them, as a test
pub labels_decide : (D : Drawing) (S : ℕ → Type 0) (label : ℕ → ℕ) → Labels D S label → (a b : ℕ) → a ≤ D.units → b ≤ D.units → IsTrue (label a == label b) ↔ Joined D S a b
labels_decide D S label h a b la lb = (
  λ e. h.joined a b la lb (eqb-true (label a) (label b) e),
  λ j. grind (arith, nat_tests, joined_uncrossed (λ w. label w == label b) (λ k s. ap (λ x. x == label b) (h.alike k s)) j),
)

-- sets of streams with the same members have the same labels
pub labels_map : (D : Drawing) {S T : ℕ → Type 0} (label : ℕ → ℕ) → ((k : ℕ) → S k → T k) → ((k : ℕ) → T k → S k) → Labels D S label → Labels D T label
labels_map D label f g h = record { alike = λ k t. h.alike k (g k t); joined = λ a b la lb q. joined_map f (h.joined a b la lb q) }

-- the places with the label of v are its part
pub labels_part : (D : Drawing) (S : ℕ → Type 0) (label : ℕ → ℕ) → Labels D S label → (v : ℕ) → v ≤ D.units → Part D S v (λ w. label w == label v)
labels_part D S label h v lv w lw = let d = labels_decide D S label h w v lw lv in (λ e. joined_sym (d.0 e), λ j. d.1 (joined_sym j))

module _ (D : Drawing) (e : ℕ → Bool) where
  pub labels_start : (label : ℕ → ℕ) → ((w : ℕ) → w ≤ D.units → label w ≡ w) → Labels D (Below 0 e) label
  labels_start label own = record {
    alike = λ k b. absurd (omega arith);
    joined = λ a b la lb q. let same : a ≡ b = sym (own a la) ∙ q ∙ own b lb in rw same here;
  }

  pub labels_skip : (n : ℕ) (label : ℕ → ℕ) → e n ≡ false → Labels D (Below n e) label → Labels D (Below (n + 1) e) label
  labels_skip n label o h = record { alike = λ k b. h.alike k (grind arith); joined = λ a b la lb q. joined_map (λ k b. grind arith) (h.joined a b la lb q) }

  -- the labels of the two ends of n are lo and hi, either way round, and lo takes the place of hi
  pub labels_merge : Within D → ((k : ℕ) → k < D.size → e k ≡ true → D.used k ≡ true) → (n : ℕ) (label merged : ℕ → ℕ) (lo hi : ℕ) → n < D.size → e n ≡ true
      → ((label (D.from n) ≡ lo) × (label (D.to n) ≡ hi)) ⊎ ((label (D.from n) ≡ hi) × (label (D.to n) ≡ lo))
      → ((w : ℕ) → w ≤ D.units → merged w ≡ if label w == hi then lo else label w)
      → Labels D (Below n e) label → Labels D (Below (n + 1) e) merged
  labels_merge within used n label merged lo hi lt us two new h = record {
    alike = alike;
    joined = λ a b la lb q. ⊎_elim (was a b la lb) (λ p. joined_trans (near a la p.0) (joined_sym (near b lb p.1))) (apart a b la lb q);
  }
    where
      alike : (k : ℕ) → Below (n + 1) e k → merged (D.from k) ≡ merged (D.to k)
      alike k b = grind (arith, nat_tests)

      -- places with one new label had one before, or each had that of an end of n
      apart : (a b : ℕ) → a ≤ D.units → b ≤ D.units → merged a ≡ merged b
          → (label a ≡ label b) ⊎ (((label a ≡ label (D.from n)) ⊎ (label a ≡ label (D.to n))) × ((label b ≡ label (D.from n)) ⊎ (label b ≡ label (D.to n))))
      apart a b la lb q = grind (arith, nat_tests, new a la, new b lb)

      was : (a b : ℕ) → a ≤ D.units → b ≤ D.units → label a ≡ label b → Joined D (Below (n + 1) e) a b
      was a b la lb q = joined_map (λ k b. grind arith) (h.joined a b la lb q)

      near : (w : ℕ) → w ≤ D.units → (label w ≡ label (D.from n)) ⊎ (label w ≡ label (D.to n)) → Joined D (Below (n + 1) e) w (D.from n)
      near w lw = ⊎_elim
          (was w (D.from n) lw (within.from n (lt, used n lt us)))
          (λ q. joined_trans (was w (D.to n) lw (within.to n (lt, used n lt us)) q) (joined_sym (joined_ends n (omega arith, us))))
