-- One more line of an account. Assumes nothing.
use Rattle.std.proofs.Common.{◌≡◌, ℕ, ◌+◌, ◌<◌, List, [], ◌∷◌, ◌++◌, length, slice_index_or, refl, Bor, Ok, Err, Result, MatchResult}
use Rattle.std.specs.Prelude.{IsErrAnd, IfErr}
use Rattle.std.proofs.lemmas.List.{get_or-map, length-map}
use Rattle.account.specs.declared.entry.Entry.{Entry}
use Rattle.account.specs.declared.fault.Fault.{Fault}
use Rattle.account.specs.declared.fault.ReadError.{ReadError}
use Rattle.account.specs.declared.fault.ReadError.TheVariants.{Line}
use Rattle.account.specs.Lines.{texts, Passed, Gives, NoEntry, Reads, Entries, Stops, NotRead, none, passed, entry}

-- before the first line nothing is read
pub reads_none : {Q : Type 0} (W : List ℕ → Q → Type 0) (H : List ℕ) (ls : List (List ℕ)) (es : List (Entry Q)) (c : ℕ) → es ≡ [] → c ≡ 0 → Reads W H ls 0 es c
reads_none W H ls es c no_entry no_day = rw (no_entry, no_day) none

module _ {Q : Type 0} (W : List ℕ → Q → Type 0) (H : List ℕ) (xs : List (Bor (List ℕ))) (n : ℕ) (d : Bor (List ℕ)) (inside : n < length xs) (es : List (Entry Q)) (c : ℕ) (before : Reads W H (texts xs) n es c) where
  -- the line at place n, and its text
  text_at : slice_index_or (texts xs) n [] ≡ (slice_index_or xs n d).now
  text_at = get_or-map (λ x. x.now) xs n d [] inside

  pub reads_passed : Passed H n (slice_index_or xs n d).now → Reads W H (texts xs) (n + 1) es c
  reads_passed pass = passed before (rw text_at pass)

  module _ (no_pass : ¬ Passed H n (slice_index_or xs n d).now) where
    pub reads_entry : (e : Entry Q) → Gives W (slice_index_or xs n d).now e × (c < e.day) → (fs : List (Entry Q)) → fs ≡ es ++ (e ∷ []) → Reads W H (texts xs) (n + 1) fs e.day
    reads_entry e h fs is =
        rw is (entry e before (rw text_at no_pass) (rw text_at h.0) h.1)

    -- reading stops at place n, for the fault f
    pub stops_here : (f : Fault) → NoEntry W (slice_index_or xs n d).now c f → Stops W H (texts xs) n f
    stops_here f h = record {
      inside = simp length-map inside;
      not_passed = rw text_at no_pass;
      entries = es;
      latest = c;
      before = before;
      reason = rw text_at h;
    }

    -- the error that s has is made of the fault that r has
    pub stops_with : (r : Result (Entry Q) Fault) (s : Result (Entry Q) ReadError) (e : ReadError) → IfErr r (NoEntry W (slice_index_or xs n d).now c) → MatchResult r (λ x. s ≡ Ok x) (λ f. IsErrAnd s (λ e. e ≡ Line (n + 1) f)) → s ≡ Err e → NotRead W H (texts xs) e
    stops_with (Ok x) s e h made is = absurd cc
    stops_with (Err f) (Ok x) e h made is = absurd cc
    stops_with (Err f) (Err d) e h made is = let same : e ≡ Line (n + 1) f = cc in rw same (n, refl, stops_here f h)

-- the lines, once each of them is read
pub reads_all : {Q : Type 0} (W : List ℕ → Q → Type 0) (H : List ℕ) (xs : List (Bor (List ℕ))) (n : ℕ) (es : List (Entry Q)) (c : ℕ) → Reads W H (texts xs) n es c → n ≡ length xs → Entries W H (texts xs) es
reads_all W H xs n es c h is = (c, rw (length-map, ← is) h)
