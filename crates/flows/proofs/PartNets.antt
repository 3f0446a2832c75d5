-- Net amounts of parts: a plant is consistent, or a part is in dispute. Assumes nothing.
use Rattle.std.proofs.Common.{◌≡◌, ℕ, zero, suc, ◌<◌, ◌≤◌, ◌==◌, Bool, true, false, ◌⊎◌, Option, sym, ◌∙◌, inl, inr, ⊎_elim, arith}
use Rattle.std.proofs.lemmas.Bool.{cases_eq, cases_Bool, or_cases, or_parts}
use Rattle.std.proofs.lemmas.Bool.Decides.{same_from_decides}
use Rattle.quantity.specs.Group.{Group}
use Rattle.flows.specs.Comparisons.{Comparison}
use Rattle.flows.specs.Consistency.{net_reading, InDispute, Inconsistent, Consistent}
use Rattle.flows.specs.Decisions.{Above, part, undisputed, all_undisputed, consistent}
use Rattle.flows.specs.Drawings.{Drawing, Within}
use Rattle.flows.specs.Filling.{Fillable}
use Rattle.flows.specs.Flows.{net, read_set, readings}
use Rattle.flows.specs.Labels.{Labels}
use Rattle.flows.specs.Parts.{Unread, Part}
use Rattle.flows.proofs.Balances.{parts_fillable}
use Rattle.flows.proofs.Decisions.{above_size, part_is, net_short}
use Rattle.flows.proofs.Merging.{labels_part}
use Rattle.flows.proofs.Nets.{net_alike}

-- what cannot fail at any number below n cannot fail at all of them
none_fails : (P : ℕ → Type 0) (n : ℕ) → ((v : ℕ) → v < n → ¬ ¬ P v) → ¬ ¬ ((v : ℕ) → v < n → P v)
none_fails P zero h never = never (λ v lt. absurd (omega arith))
none_fails P (suc n) h never = none_fails P n (λ v lt. h v (omega arith)) (λ each. h n (omega arith) (λ last. never (λ v lt. ⊎_elim (λ q. rw q last) (λ d. each v (omega arith)) (cases_eq v n))))

module _ (G : Group) (D : Drawing) (within : Within D) where
  open G use {Element}

  -- two parts of a place are alike
  part_alike : (S : ℕ → Type 0) (v : ℕ) (B C : ℕ → Bool) → Part D S v B → Part D S v C → (w : ℕ) → w ≤ D.units → B w ≡ C w
  part_alike S v B C p q w lw = same_from_decides (B w) (C w) (p w lw) (q w lw)

  pub part_net : (S : ℕ → Type 0) (r : ℕ → Element) (v : ℕ) (B C : ℕ → Bool) → Part D S v B → Part D S v C → net G D B r ≡ net G D C r
  part_net S r v B C p q = net_alike G D B C r (λ k us. (part_alike S v B C p q (D.from k) (within.from k us), part_alike S v B C p q (D.to k) (within.to k us)))

  module _ (t : ℕ → Option Element) where
    abbrev own : ℕ → ℕ → Bool
    own = part D (read_set t) D.size

    own_is : (v : ℕ) → v ≤ D.units → Part D (Unread D (read_set t)) v (own v)
    own_is = part_is D (read_set t) D.size (above_size D) within

    -- the readings of a consistent plant can be filled in on the unread streams
    pub fill_consistent : Consistent G D t → Fillable G D (Unread D (read_set t)) (readings G t)
    fill_consistent h = parts_fillable G D within (Unread D (read_set t)) (λ _ u. u.0) own own_is (readings G t) (λ v lv o. h v lv (own v) (own_is v lv) o)

    pub not_both : Consistent G D t → ¬ Inconsistent G D t
    not_both h i = i.2.not_zero (h i.0 i.2.unit i.1 i.2.part i.2.without_0)

    -- without a test the parts cannot be told apart, yet it cannot be that neither holds
    pub not_neither : ¬ Consistent G D t → ¬ ¬ Inconsistent G D t
    not_neither no_flow no_part = none_fails (λ v. own v 0 ≡ false → net_reading G D t (own v) ≡ G.zero) (suc D.units)
        (λ v lt never. never (λ o. absurd (no_part (v, own v, record { unit = omega arith; part = own_is v (omega arith); without_0 = o; not_zero = λ e. never (λ _. e) }))))
        (λ each. no_flow (λ v lv C p o.
        part_net (Unread D (read_set t)) (readings G t) v C (own v) p (own_is v lv)
        ∙ each v (omega arith) (sym (part_alike (Unread D (read_set t)) v C (own v) p (own_is v lv) 0 (omega arith)) ∙ o)))

    -- the test by labels
    pub consistent_from_labels : (label : ℕ → ℕ) → Labels D (Unread D (read_set t)) label
        → ((v : ℕ) → v ≤ D.units → (label 0 == label v) ≡ false → net_reading G D t (λ w. label w == label v) ≡ G.zero) → Consistent G D t
    consistent_from_labels label h e v lv C p o =
        let q = labels_part D (Unread D (read_set t)) label h v lv in
        part_net (Unread D (read_set t)) (readings G t) v C (λ w. label w == label v) p q
        ∙ e v lv (sym (part_alike (Unread D (read_set t)) v C (λ w. label w == label v) p q 0 (omega arith)) ∙ o)

    -- the computed test
    module _ (s : Comparison G) (m : ℕ) (above : Above D m) where
      pub undisputed_part : (v : ℕ) → v ≤ D.units → undisputed G s D t m v ≡ true → (C : ℕ → Bool) → Part D (Unread D (read_set t)) v C → C 0 ≡ false → net_reading G D t C ≡ G.zero
      undisputed_part v lv e C p o =
          let q = part_is D (read_set t) m above within v lv in
          ⊎_elim
          (λ i. absurd (grind (arith, part_alike (Unread D (read_set t)) v C (part D (read_set t) m v) p q 0 (omega arith))))
          (λ i. part_net (Unread D (read_set t)) (readings G t) v C (part D (read_set t) m v) p q ∙ net_short G D m above _ _ ∙ (s.decides _ _).0 i)
          (or_cases (part D (read_set t) m v 0) _ e)

      pub disputed_part : (v : ℕ) → v ≤ D.units → undisputed G s D t m v ≡ false → InDispute G D t v (part D (read_set t) m v)
      disputed_part v lv e =
          let parts = or_parts (part D (read_set t) m v 0) _ e in
          record {
            unit = lv;
            part = part_is D (read_set t) m above within v lv;
            without_0 = parts.0;
            not_zero = λ q. let same = (s.decides _ _).1 (sym (net_short G D m above _ _) ∙ q) in grind (arith, same, parts.1);
          }

      pub all_undisputed_each : (n : ℕ) → all_undisputed G s D t m n ≡ true → (v : ℕ) → v < n → undisputed G s D t m v ≡ true
      all_undisputed_each zero h v lt = absurd (omega arith)
      all_undisputed_each (suc n) h v lt = grind (arith, all_undisputed_each n)

      all_undisputed_not : (n : ℕ) → all_undisputed G s D t m n ≡ false → (v : ℕ) × (v < n) × (undisputed G s D t m v ≡ false)
      all_undisputed_not zero h = absurd (grind arith)
      all_undisputed_not (suc n) h = grind (arith, all_undisputed_not n)

      pub consistent_if : consistent G s D t m ≡ true → Consistent G D t
      consistent_if h v lv = undisputed_part v lv (all_undisputed_each (suc D.units) h v (omega arith))

      pub inconsistent_if : consistent G s D t m ≡ false → Inconsistent G D t
      inconsistent_if h = let r = all_undisputed_not (suc D.units) h in (r.0, part D (read_set t) m r.0, disputed_part r.0 (let l = r.1 in omega arith) r.2)

    pub one_of_both : Comparison G → Consistent G D t ⊎ Inconsistent G D t
    one_of_both s = ⊎_elim (λ e. inl (consistent_if s D.size (above_size D) e)) (λ e. inr (inconsistent_if s D.size (above_size D) e)) (cases_Bool (consistent G s D t D.size))
