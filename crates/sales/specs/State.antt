-- A sale as the rules see it, and what its calls keep.
use Rattle.std.specs.Prelude.{[], ◌∷◌, Result}
use Rattle.sheets.specs.declared.sheet.PhaseSheet.{Ghosts as SheetGhosts}
use Rattle.books.specs.declared.book.StepBook.{Ghosts as BookGhosts}
use Rattle.sale_parts.specs.State.{Obeys, state_of as parts_state}
use Rattle.rules.specs.declared.answer.Answer.{Answer}
use Rattle.rules.specs.declared.fault.SaleFault.{SaleFault}
use Rattle.rules.specs.Sales.{State, Call}
use Rattle.rules.specs.Fair.{StaysFair}
use Rattle.sales.specs.declared.sale.Sale.{Sale}

-- the state that the rules speak of
abbrev pub state_of : {S B : Type 0} → SheetGhosts S → BookGhosts B → Sale S B → State
state_of sheet book s = parts_state sheet book s.parts

-- a call of a sale that was `before` and is `later` answers and leaves what the rules say
abbrev pub Does : {S B : Type 0} → SheetGhosts S → BookGhosts B → Sale S B → Call → Result Answer SaleFault → Sale S B → Type 0
Does sheet book before c r later = Obeys (state_of sheet book before) c r (state_of sheet book later)

-- whatever calls led to the sale as it was, the run that this one makes longer is fair
abbrev pub GoesOnFairly : {S B : Type 0} → SheetGhosts S → BookGhosts B → Sale S B → Call → Sale S B → Type 0
GoesOnFairly sheet book before c later = StaysFair (state_of sheet book before) (c ∷ []) (state_of sheet book later)
