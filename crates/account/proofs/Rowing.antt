-- One more row of an account. Assumes nothing.
use Rattle.std.proofs.Common.{◌≡◌, ℕ, ◌+◌, ◌<◌, List, [], ◌∷◌, ◌++◌, Some, length, slice_index_or, slice_get, refl, ◌∙◌, ⊎_elim, arith, length-append}
use Rattle.std.proofs.lemmas.Bool.{cases_lt}
use Rattle.std.proofs.lemmas.Grind.{common_steps}
use Rattle.std.proofs.lemmas.Option.{gets}
use Rattle.quantity.specs.Model.{Model}
use Rattle.quantity.proofs.GroupSums.{sum_take_more, sum_take_all}
use Rattle.account.specs.declared.entry.Entry.{Entry}
use Rattle.account.specs.declared.rows.Row.{Row}
use Rattle.account.specs.Rows.{running, RowOf, Keeps}

-- the rows of the first i entries, and their sum
pub record Sofar {Q : Type 0} (m : Model Q) (es : List (Entry Q)) (i : ℕ) (rs : List (Row Q)) (t : Q) : Type 0 where
  pub as_many : length rs ≡ i
  pub each : (k : ℕ) (e : Entry Q) (r : Row Q) → slice_get es k ≡ Some e → slice_get rs k ≡ Some r → RowOf m es k e r
  pub sum : m.means t ≡ running m es i

module _ {Q : Type 0} (m : Model Q) (es : List (Entry Q)) (i : ℕ) (rs : List (Row Q)) (t : Q) (old : Sofar m es i rs t) (e : Entry Q) (u : Q) (inside : i < length es) (read : e ≡ slice_index_or es i e) (new : m.means u ≡ m.group.plus (m.means t) (m.means e.amount)) where
  abbrev row : Row Q
  row = record { day = e.day; amount = e.amount; before = t; total = u }

  all : m.means u ≡ running m es (i + 1)
  all = sum_take_more m.group (λ e. m.means e.amount) es i e (m.means t) (m.means u) inside read old.sum new

  latest : (k : ℕ) (f : Entry Q) (r : Row Q) → (k ≡ i) × (f ≡ e) × (r ≡ row) → RowOf m es k f r
  latest k f r h = rw (h.0, h.1, h.2) record { day = refl; amount = refl; before = old.sum; total = all }

  -- the row of the entry e, with the total u
  pub sofar_more : (more : List (Row Q)) → more ≡ rs ++ (row ∷ []) → Sofar m es (i + 1) more u
  sofar_more more is = rw is record {
    as_many = simp length-append (omega (arith, old.as_many));
    each = λ k f r at made. ⊎_elim (λ low. old.each k f r at (grind (arith, common_steps, gets))) (λ past. latest k f r (grind (arith, common_steps, gets, old.as_many))) (cases_lt k (length rs));
    sum = all;
  }

-- the rows of all entries, and their total
pub sofar_all : {Q : Type 0} (m : Model Q) (es : List (Entry Q)) (i : ℕ) (rs : List (Row Q)) (t : Q) → Sofar m es i rs t → i ≡ length es → Keeps m es rs t
sofar_all m es i rs t h is = record {
  as_many = h.as_many ∙ is;
  each = h.each;
  all = h.sum ∙ sum_take_all m.group (λ e. m.means e.amount) es i (omega (arith, is));
}
