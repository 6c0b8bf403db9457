-- What no call of a book alters.
use Rattle.std.specs.Prelude.{ℕ, List}
use Rattle.steps.specs.declared.record.StepRecord.{StepRecord}

-- a book's frame: its size and, where its memory is lent, the loan's name and what lies past the size, by which the lender knows the memory again
pub record Frame : Type 0 where
  pub size : ℕ
  pub lent : ℕ
  pub beyond : List StepRecord
