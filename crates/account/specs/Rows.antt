-- The rows of an account. Assumes nothing.
--
-- amounts m es       what the amounts of the entries mean
-- running m es k     the sum of the amounts of the first k entries
-- RowOf m es k e r   r is the row of the entry e at place k: its day and amount, and the running totals around it
-- Keeps m es rs t    rs has a row for each entry, in order, and t is the sum of all amounts
use Rattle.std.specs.Prelude.{◌≡◌, ℕ, ◌+◌, List, Some, map, length, take, slice_get}
use Rattle.quantity.specs.Model.{Model}
use Rattle.quantity.specs.Sums.{sum_all}
use Rattle.account.specs.declared.entry.Entry.{Entry}
use Rattle.account.specs.declared.rows.Row.{Row}

module _ {Q : Type 0} (m : Model Q) where
  abbrev pub amounts : List (Entry Q) → List m.group.Element
  amounts es = map (λ e. m.means e.amount) es

  abbrev pub running : List (Entry Q) → ℕ → m.group.Element
  running es k = sum_all m.group (amounts (take k es))

  pub record RowOf (es : List (Entry Q)) (k : ℕ) (e : Entry Q) (r : Row Q) : Type 0 where
    pub day : r.day ≡ e.day
    pub amount : r.amount ≡ e.amount
    pub before : m.means r.before ≡ running es k
    pub total : m.means r.total ≡ running es (k + 1)

  pub record Keeps (es : List (Entry Q)) (rs : List (Row Q)) (t : Q) : Type 0 where
    pub as_many : length rs ≡ length es
    pub each : (k : ℕ) (e : Entry Q) (r : Row Q) → slice_get es k ≡ Some e → slice_get rs k ≡ Some r → RowOf es k e r
    pub all : m.means t ≡ sum_all m.group (amounts es)
