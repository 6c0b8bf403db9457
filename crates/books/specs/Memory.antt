-- What a memory of steps answers when a record is appended, and what it holds then.
use Rattle.std.specs.Prelude.{ℕ, cond, List, [], ◌∷◌, ◌++◌, length, Ok, Err, Result, ◌==◌}
use Rattle.steps.specs.declared.record.StepRecord.{StepRecord}
use Rattle.steps.specs.declared.fault.BookFault.{BookFault}
use Rattle.steps.specs.declared.fault.BookFault.TheVariants.{Full}

-- a full memory refuses
abbrev pub append_reply : ℕ → List StepRecord → Result (Unit {0}) BookFault
append_reply size steps = cond (length steps == size) (Err Full) (Ok tt)

-- else the record comes last
abbrev pub append_after : ℕ → List StepRecord → StepRecord → List StepRecord
append_after size steps new = cond (length steps == size) steps (steps ++ new ∷ [])
