-- A call as the rules see it, and the calls that a run has made.
use Rattle.std.specs.Prelude.{List, [], map, Ok, Err, Result}
use Rattle.sheets.specs.declared.sheet.PhaseSheet.{Ghosts as SheetGhosts}
use Rattle.books.specs.declared.book.StepBook.{Ghosts as BookGhosts}
use Rattle.rules.specs.Sales.{Call, start, changeover, opening, close}
use Rattle.sale_parts.specs.State.{entering, raising}
use Rattle.runs.specs.declared.call.Call.{Call as CodeCall}
use Rattle.runs.specs.declared.call.Call.TheVariants.{Start, Changeover, Open, Enter, Raise, Close}
use Rattle.sales.specs.State.{state_of}

abbrev pub call_of : {S B : Type 0} → SheetGhosts S → BookGhosts B → CodeCall S B → Call
call_of sheet book (Start deposits) = start deposits.now
call_of sheet book (Changeover first) = changeover (state_of sheet book first.now)
call_of sheet book (Open row) = opening row.now
call_of sheet book (Enter step) = entering step
call_of sheet book (Raise asked) = raising asked
call_of sheet book Close = close

-- a list of calls
abbrev pub calls_of : {S B : Type 0} → SheetGhosts S → BookGhosts B → List (CodeCall S B) → List Call
calls_of sheet book calls = map (call_of sheet book) calls

-- the calls that a run made: all of them, or none where there was no memory for the replies
abbrev pub made_of : {X E : Type 0} → Result X E → List Call → List Call
made_of (Ok _) calls = calls
made_of (Err _) calls = []
