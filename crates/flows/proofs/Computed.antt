-- The computed labels are labels. Assumes nothing.
use Rattle.std.proofs.Common.{◌≡◌, ℕ, zero, suc, ◌+◌, ◌<◌, ◌≤◌, Bool, true, false, cond, eqb, length, get_or, sym, refl, ap, ◌∙◌, subst, inl, ⊎_elim, zero-add, add-one, arith}
use Rattle.std.proofs.lemmas.List.FromFn.{length-range_with_len, get_or-range_with_len}
use Rattle.std.proofs.lemmas.List.{get_or-map, length-map}
use Rattle.std.proofs.lemmas.Bool.{cases_Bool}
use Rattle.flows.specs.Decisions.{merged, labels, label}
use Rattle.flows.specs.Drawings.{Drawing, Within}
use Rattle.flows.specs.Labels.{Below, Labels}
use Rattle.flows.proofs.Merging.{labels_start, labels_skip, labels_merge}

module _ (D : Drawing) (e : ℕ → Bool) where
  labels_length : (n : ℕ) → length (labels D e n) ≡ suc D.units
  labels_length zero = length-range_with_len 0 (suc D.units)
  labels_length (suc n) = at (e n) (labels_length n)
    where
      at : (b : Bool) → length (labels D e n) ≡ suc D.units → length (cond b (merged (D.from n) (D.to n) (labels D e n)) (labels D e n)) ≡ suc D.units
      at true h = length-map (labels D e n) _ ∙ h
      at false h = h

  pub label_start : (w : ℕ) → w ≤ D.units → label D e 0 w ≡ w
  label_start w lw = get_or-range_with_len 0 (suc D.units) w 0 (omega arith) ∙ zero-add w

  label_skip : (n w : ℕ) → e n ≡ false → label D e (suc n) w ≡ label D e n w
  label_skip n w o = ap (λ b. get_or (cond b (merged (D.from n) (D.to n) (labels D e n)) (labels D e n)) w 0) o

  label_merge : (n w : ℕ) → e n ≡ true → w ≤ D.units → label D e (suc n) w ≡ cond (eqb (label D e n w) (label D e n (D.to n))) (label D e n (D.from n)) (label D e n w)
  label_merge n w i lw =
      ap (λ b. get_or (cond b (merged (D.from n) (D.to n) (labels D e n)) (labels D e n)) w 0) i
      ∙ get_or-map (λ x. cond (eqb x (get_or (labels D e n) (D.to n) 0)) (get_or (labels D e n) (D.from n) 0) x) (labels D e n) w 0 0
      (let l = labels_length n in omega arith)

  one_more : (n : ℕ) (l : ℕ → ℕ) → Labels D (Below (n + 1) e) l → Labels D (Below (suc n) e) l
  one_more n l h = subst (λ i. Labels D (Below i e) l) (add-one n) h

  -- labels of the streams below n that pass e, where all that pass are in use
  pub label_is : Within D → ((k : ℕ) → k < D.size → e k ≡ true → D.used k ≡ true) → (n : ℕ) → n ≤ D.size → Labels D (Below n e) (label D e n)
  label_is within used zero le = labels_start D e (label D e 0) label_start
  label_is within used (suc n) le =
      let before : Labels D (Below n e) (label D e n) = label_is within used n (omega arith) in
      ⊎_elim
      (λ (i : e n ≡ true). one_more n (label D e (suc n)) (labels_merge D e within used n (label D e n) (label D e (suc n)) (label D e n (D.from n)) (label D e n (D.to n)) (omega arith) i (inl (refl, refl)) (λ w lw. label_merge n w i lw) before))
      (λ (o : e n ≡ false). one_more n (label D e (suc n)) (labels_skip D e n (label D e (suc n)) o (record {
        alike = λ k b. label_skip n (D.from k) o ∙ before.alike k b ∙ sym (label_skip n (D.to k) o);
        joined = λ a b la lb q. before.joined a b la lb (sym (label_skip n a o) ∙ q ∙ label_skip n b o);
      })))
      (cases_Bool (e n))
