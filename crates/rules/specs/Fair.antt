-- What is proved of every run of a sale.
use Rattle.std.specs.List.{AllByRecursion}
use Rattle.std.specs.Prelude.{◌≡◌, ℕ, zero, suc, ◌+◌, ◌<◌, ◌≤◌, List, ◌∷◌, ◌++◌, map, length}
use Rattle.sheets.specs.Figures.{Figures, Lawful}
use Rattle.steps.specs.declared.record.StepRecord.{StepRecord}
use Rattle.rules.specs.Books.{won, of_market, weighted}
use Rattle.rules.specs.Sales.{State, fresh, account, standing_weight, won_in, Call, start, changeover, opening, enter, raise, close, verdict, passed, after, run}
use Rattle.rules.specs.Tallies.{Tally, Entry, blank, tally, gets}

abbrev pub entry_of : StepRecord → Entry
entry_of x = record { bid = x.bid; shares = x.shares.standing + x.shares.rejected }

abbrev pub Seated : State → Type 0
Seated s = 0 < length s.accounts

-- at every point once the sale has a seat
pub record Kept (s : State) (t : Tally) : Type 0 where
  pub mirrored : t.entries ≡ map entry_of s.steps
  pub covered : (k : ℕ) → standing_weight s (suc k) ≤ (account s k).eligible
  pub within : (k : ℕ) → (account s k).eligible ≤ (account s k).bought
  pub falls : (c : Call) (k : ℕ) → (account (after s c) k).eligible ≤ (account s k).eligible

-- after an accepted closing
abbrev pub WonAsTallied : State → Tally → Type 0
WonAsTallied s t = map won s.steps ≡ map (gets t) t.entries

pub record FairRun (s : State) (t : Tally) : Type 0 where
  pub kept : Seated s → Kept s t
  pub won_fairly : verdict s close ≡ passed → WonAsTallied (after s close) t

abbrev pub RunsFair : Type 0
RunsFair =
    (f : Figures) → Lawful f → (size : ℕ) (book : List StepRecord) (calls : List Call) →
    FairRun (run (fresh f size book) calls) (tally (fresh f size book) blank calls)

-- s is what some run of a fresh sale leaves; a first sale that it names is so too, and so on at most n deep
abbrev pub RealCall : (State → Type 0) → Call → Type 0
RealCall R (start deposits) = Unit {0}
RealCall R (changeover first) = R first
RealCall R (opening row) = Unit {0}
RealCall R (enter seat market shares discount stamp) = Unit {0}
RealCall R (raise seat number shares discount stamp) = Unit {0}
RealCall R close = Unit {0}

abbrev pub Real : ℕ → State → Type 0
Real zero s = ⊥
Real (suc n) s =
    (f : Figures) × Lawful f × (size : ℕ) × (book : List StepRecord) × (calls : List Call) × AllByRecursion (RealCall (Real n)) calls × (s ≡ run (fresh f size book) calls)

-- a second sale s, after an accepted closing, beside the first
pub record Shared (first s : State) : Type 0 where
  pub lots_shared : (m : ℕ) → of_market m won s.steps + won_in first ≤ 100
  pub paid : (k : ℕ) →
      weighted first.figures.weight (suc k) won first.steps + weighted s.figures.weight (suc k) won s.steps ≤ (account first k).bought

abbrev pub ChangeoversFair : Type 0
ChangeoversFair =
    (f : Figures) → Lawful f → (size : ℕ) (book : List StepRecord) (calls rest : List Call) (first : State) (n : ℕ) → Real n first →
    let s = run (fresh f size book) calls in
    verdict s (changeover first) ≡ passed →
    let later = run (after s (changeover first)) rest in
    verdict later close ≡ passed → Shared first (after later close)

abbrev pub RunsAreFair : Type 0
RunsAreFair = RunsFair × ChangeoversFair

-- s is what the calls leave of a new sale of its sheet and size, with the book that it was given
abbrev pub new_sale : State → List StepRecord → State
new_sale s book = fresh s.figures s.size book

abbrev pub Reached : State → List StepRecord → List Call → Type 0
Reached s book calls = s ≡ run (new_sale s book) calls

-- a closing of s would be fair beside each first sale that it was changed over from
abbrev pub Shares : State → List StepRecord → List Call → Type 0
Shares s book calls =
    (earlier rest : List Call) (first : State) (n : ℕ) → Real n first → calls ≡ earlier ++ (changeover first ∷ rest) →
    verdict (run (new_sale s book) earlier) (changeover first) ≡ passed → verdict s close ≡ passed → Shared first (after s close)

pub record FairOutcome (s : State) (book : List StepRecord) (calls : List Call) : Type 0 where
  pub reached : Reached s book calls
  pub fair : FairRun s (tally (new_sale s book) blank calls)
  pub shares : Shares s book calls
  -- so that a round's number stays below the largest, and its next is one more
  pub rounds : s.round ≤ length calls
  pub real : (n : ℕ) → AllByRecursion (RealCall (Real n)) calls → Real (suc n) s

-- whatever calls led to s, these more lead fairly to s'
unfoldable pub StaysFair : State → List Call → State → Type 0
StaysFair s more s' = (book : List StepRecord) (calls : List Call) → Reached s book calls → FairOutcome s' book (calls ++ more)
