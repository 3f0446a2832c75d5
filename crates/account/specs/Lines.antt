-- The lines of an account. Assumes nothing.
--
-- A line is the list of its bytes; a space is 32, and # is 35. H is the heading of the account,
-- and W bs a is for: the bytes bs write the amount a.
--
-- texts xs             what the references xs point to
-- Passed H n l         the line l at place n is passed over: it is empty, begins with #, or is the heading in the first place
-- Spaceless l          the line has no space
-- Cut l d a            the first space of the line l stands between d and a
-- Gives W l e          the line gives the entry e: its day, a space, its amount
-- NoEntry W l c f      the line gives no entry for a day after c; f is the first reason, in the order of the cases
-- Reads W H ls n es c  the first n of the lines ls give the entries es, each for a later day than the one before;
--                      c is the day of the last, 0 where there is none
-- Entries W H ls es    all of the lines are read, and give the entries es
-- Stops W H ls n f     the line at place n is not passed over and gives no next entry, for the reason f;
--                      the lines before it are read
-- NotRead W H ls e     what an error says of the lines: the number of the one that stops, counted from 1;
--                      nothing where memory failed
use Rattle.std.specs.Prelude.{All, ⊤, ◌≡◌, ℕ, ◌+◌, ◌<◌, ◌≤◌, ◌⊎◌, List, [], ◌∷◌, ◌++◌, map, length, codes, ◌≢◌, slice_index, slice_index_or}
use Rattle.std.specs.Borrow.{Bor}
use Rattle.account.specs.declared.entry.Entry.{Entry}
use Rattle.account.specs.declared.fault.Fault.{Fault}
use Rattle.account.specs.declared.fault.Fault.TheVariants.{NoSpace, BadDay, BadAmount, NotLater}
use Rattle.account.specs.declared.fault.ReadError.{ReadError}
use Rattle.account.specs.declared.fault.ReadError.TheVariants.{Line, Memory}
use Rattle.account.specs.Texts.{WritesDay}

abbrev pub texts : List (Bor (List ℕ)) → List (List ℕ)
texts xs = map (λ x. x.now) xs

abbrev pub Passed : List ℕ → ℕ → List ℕ → Type 0
Passed H n l = (l ≡ []) ⊎ ((slice_index l 0 ≡ 35) ⊎ ((n ≡ 0) × (l ≡ H)))

abbrev pub Spaceless : List ℕ → Type 0
Spaceless l = All (λ b. b ≢ 32) l

pub record Cut (l d a : List ℕ) : Type 0 where
  pub whole : l ≡ d ++ (codes " " ++ a)
  pub first : Spaceless d

module _ {Q : Type 0} (W : List ℕ → Q → Type 0) where
  pub record Gives (l : List ℕ) (e : Entry Q) : Type 0 where
    pub d : List ℕ
    pub a : List ℕ
    pub cut : Cut l d a
    pub day : WritesDay d e.day
    pub amount : W a e.amount

  abbrev pub NoEntry : List ℕ → ℕ → Fault → Type 0
  NoEntry l c NoSpace = Spaceless l
  NoEntry l c BadDay = (d a : List ℕ) × Cut l d a × ((n : ℕ) → ¬ WritesDay d n)
  NoEntry l c BadAmount = (d a : List ℕ) × Cut l d a × ((n : ℕ) × WritesDay d n) × ((q : Q) → ¬ W a q)
  NoEntry l c NotLater = (e : Entry Q) × Gives l e × (e.day ≤ c)

  module _ (H : List ℕ) where
    pub data Reads (ls : List (List ℕ)) : ℕ → List (Entry Q) → ℕ → Type 0 where
      none : Reads ls 0 [] 0
      passed : {n c : ℕ} {es : List (Entry Q)} → Reads ls n es c → Passed H n (slice_index_or ls n []) → Reads ls (n + 1) es c
      entry : {n c : ℕ} {es : List (Entry Q)} (e : Entry Q) → Reads ls n es c → ¬ Passed H n (slice_index_or ls n [])
          → Gives (slice_index_or ls n []) e → c < e.day → Reads ls (n + 1) (es ++ (e ∷ [])) e.day

    abbrev pub Entries : List (List ℕ) → List (Entry Q) → Type 0
    Entries ls es = (c : ℕ) × Reads ls (length ls) es c

    pub record Stops (ls : List (List ℕ)) (n : ℕ) (f : Fault) : Type 0 where
      pub inside : n < length ls
      pub not_passed : ¬ Passed H n (slice_index_or ls n [])
      pub entries : List (Entry Q)
      pub latest : ℕ
      pub before : Reads ls n entries latest
      pub reason : NoEntry (slice_index_or ls n []) latest f

    abbrev pub NotRead : List (List ℕ) → ReadError → Type 0
    NotRead ls (Line n f) = (p : ℕ) × (n ≡ p + 1) × Stops ls p f
    NotRead ls Memory = ⊤
