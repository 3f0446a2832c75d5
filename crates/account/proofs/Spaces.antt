-- A line cut at its first space. Assumes nothing.
use Rattle.std.proofs.Common.{◌≢◌, ℕ, List, Bor, Some, None, Option, MatchOption, lit<}
use Rattle.std.proofs.lemmas.List.Elements.{All-from_get_or}
use Rattle.std.proofs.lemmas.Str.Pattern.{IsSplitOnceResult, split_parts}
use Rattle.account.specs.Lines.{Spaceless, Cut}

-- the parts round the first space of a line
pub cut_from_split : (l : List ℕ) (r : Option (Bor (List ℕ) × Bor (List ℕ))) → IsSplitOnceResult 32 l r → MatchOption r (Spaceless l) (λ x. Cut l x.0.now x.1.now)
cut_from_split l None found = All-from_get_or (λ b. b ≢ 32) l 0 (split_parts 32 l None found (lit< tt))
cut_from_split l (Some x) found =
    let cut = split_parts 32 l (Some x) found (lit< tt) in
    record { whole = cut.0; first = All-from_get_or (λ b. b ≢ 32) x.0.now 0 cut.1 }
