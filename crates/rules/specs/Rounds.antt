-- How many rounds a sale can have.
use Rattle.std.specs.List.{AllByRecursion}
use Rattle.std.specs.Prelude.{ℕ, ◌+◌, ◌≤◌, max, List}
use Rattle.sheets.specs.Figures.{Figures}
use Rattle.steps.specs.declared.record.StepRecord.{StepRecord}
use Rattle.rules.specs.Sales.{State, fresh, Call, run}
use Rattle.rules.specs.Fair.{RealCall, Real}

-- past the opening rounds each round but the last has a raise, and a raise adds a step to at least one that was there
abbrev pub most_rounds : State → ℕ
most_rounds s = s.figures.openings + max 1 s.size

abbrev pub RoundsBounded : Type 0
RoundsBounded =
    (f : Figures) (size : ℕ) (book : List StepRecord) (calls : List Call) (n : ℕ) → AllByRecursion (RealCall (Real n)) calls →
    (run (fresh f size book) calls).round ≤ most_rounds (run (fresh f size book) calls)
