-- Whether the first line is a heading. Assumes nothing.
use Rattle.std.proofs.Common.{◌≡◌, ℕ, ◌<◌, ◌≤◌, Bool, false, List, [], ◌∷◌, Some, length, slice_index_or, ◌↔◌, IsTrue, sym, ap, ◌∙◌, arith, Bor}
use Rattle.std.proofs.lemmas.Bool.{false≢true}
use Rattle.account.specs.Lines.{texts}
use Rattle.account.specs.Months.{Headed}

-- where there is a first line, a test of it against the heading decides
pub headed_first : (H h : List ℕ) (xs : List (Bor (List ℕ))) (d : Bor (List ℕ)) (r : Bool) → 0 < length xs → h ≡ H → IsTrue r ↔ ((slice_index_or xs 0 d).now ≡ h) → IsTrue r ↔ Headed H (texts xs)
headed_first H h [] d r some is test = absurd (omega arith)
headed_first H h (x ∷ xs) d r some is test = (
  λ yes. ap Some (test.0 yes ∙ is),
  λ headed. let same : x.now ≡ H = cc in test.1 (same ∙ sym is),
)

-- without a line there is no heading
pub headed_none : (H : List ℕ) (xs : List (Bor (List ℕ))) → length xs ≤ 0 → IsTrue false ↔ Headed H (texts xs)
headed_none H [] none = (λ e. absurd (false≢true e), λ headed. absurd cc)
headed_none H (x ∷ xs) none = absurd (omega arith)
