-- What a flat book holds of the records lent to it.
use Rattle.std.specs.Prelude.{ℕ, min, List, length, take, drop}
use Rattle.steps.specs.declared.record.StepRecord.{StepRecord}
use Rattle.books.specs.declared.flat.FlatBook.{FlatBook}
use Rattle.books.specs.Frames.{Frame}
use Rattle.books.specs.Lawful.{Lawful}
use Rattle.books.specs.Keeps.{taken_lawful}

-- it has room for as many steps as records were lent, and for 1,024 at most
abbrev pub flat_size : FlatBook → ℕ
flat_size b = min (length b.records.now) 1024

-- its steps are the first of the records
abbrev pub flat_steps : FlatBook → List StepRecord
flat_steps b = take b.count b.records.now

-- the name of the loan: what the lender has back is what the book of that name held last
abbrev pub flat_lent : FlatBook → ℕ
flat_lent b = b.records.ghost_name

-- the records past its size
abbrev pub flat_beyond : FlatBook → List StepRecord
flat_beyond b = drop (flat_size b) b.records.now

-- what no call alters
abbrev pub flat_frame : FlatBook → Frame
flat_frame b = record { size = flat_size b; lent = flat_lent b; beyond = flat_beyond b }

-- it keeps a book's laws
abbrev pub flat_lawful : (b : FlatBook) → Lawful (flat_size b) (flat_steps b)
flat_lawful b = taken_lawful b.records.now b.count b.room b.small b.sound
