-- The number of each refusal of one event.
use Rattle.std.specs.Prelude.{ℕ}
use Rattle.faults.specs.declared.record.RecordFault.{RecordFault}
use Rattle.faults.specs.declared.record.RecordFault.TheVariants.{RowLength, UnknownKind, NotZero}

abbrev pub record_number : RecordFault → ℕ
record_number RowLength = 9
record_number UnknownKind = 33
record_number NotZero = 34
