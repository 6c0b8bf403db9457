-- The number of each refusal of a book.
use Rattle.std.specs.Prelude.{ℕ}
use Rattle.steps.specs.declared.fault.BookFault.{BookFault}
use Rattle.steps.specs.declared.fault.BookFault.TheVariants.{Full, NoStep, BadStep}

abbrev pub fault_number : BookFault → ℕ
fault_number Full = 1
fault_number NoStep = 2
fault_number BadStep = 3
