-- What a book that owns its records holds.
use Rattle.std.specs.Prelude.{ℕ, List, [], vec_items}
use Rattle.std.proofs.Common.{arith}
use Rattle.steps.specs.declared.record.StepRecord.{StepRecord}
use Rattle.books.specs.Frames.{Frame}
use Rattle.books.specs.Lawful.{Lawful}
use Rattle.books.specs.declared.owned.VecBook.{VecBook}

-- the size that it was made with
abbrev pub owned_size : VecBook → ℕ
owned_size b = b.size

-- its steps are its rows
abbrev pub owned_steps : VecBook → List StepRecord
owned_steps b = vec_items b.rows

-- nothing was lent to it
abbrev pub owned_frame : VecBook → Frame
owned_frame b = record { size = owned_size b; lent = 0; beyond = [] }

-- it keeps a book's laws
abbrev pub owned_lawful : (b : VecBook) → Lawful (owned_size b) (owned_steps b)
owned_lawful b = record { small = b.small; room = omega (arith, b.rows.ok.0); sound = λ i h. b.sound i (omega (arith, b.rows.ok.0)) }
