-- What every book keeps.
use Rattle.std.specs.Prelude.{◌≡◌, ℕ, ◌+◌, ◌<◌, ◌≤◌, Bool, true, ◌&&◌, List, length, ◌==◌, slice_index_or}
use Rattle.steps.specs.declared.record.StepRecord.{StepRecord}
use Rattle.steps.specs.Rule.{step_ok, no_step}

-- a record at place i is numbered from 1 and keeps the step's rule
abbrev pub entry_ok : ℕ → StepRecord → Bool
entry_ok i r = r.bid.number == i + 1 && step_ok r

-- the first n records do
abbrev pub SoundBelow : List StepRecord → ℕ → Type 0
SoundBelow list n = (i : ℕ) → i < n → entry_ok i (slice_index_or list i no_step) ≡ true

-- a book has at most 1,024 places and no more steps than places; each step is numbered by its place and keeps the rule
pub record Lawful (size : ℕ) (steps : List StepRecord) : Type 0 where
  pub small : size ≤ 1024
  pub room : length steps ≤ size
  pub sound : SoundBelow steps (length steps)
