-- What a line says, apart from how the code holds it.
use Rattle.std.specs.Prelude.{ℕ, ◌^◌, ◌<◌, List, cond, length, Some, None, Ok, Err, Option, Result, ◌==◌, slice_index}
use Rattle.std.specs.Option.{option_map}
use Rattle.faults.specs.declared.record.RecordFault.{RecordFault}
use Rattle.faults.specs.declared.record.RecordFault.TheVariants.{RowLength}
use Rattle.records.specs.declared.event.Event.{Event}
use Rattle.records.specs.Event.{EventValue, opening, new_step, raise, close, changeover, value_with, Sized}
use Rattle.lines.specs.declared.line.Line.{Line}
use Rattle.lines.specs.declared.line.Line.TheVariants.{Deposit, Event as OfEvent}

-- what a line says: a deposit of so many dollars, or an event
pub data Record : Type 0 where
  deposit : (dollars : ℕ) → Record
  event : EventValue → Record

-- the value of an event that has its row itself
abbrev pub own_value : Event (List ℕ) → EventValue
own_value e = value_with (λ row. row) e

-- what a line that the code holds says
abbrev pub record_of : Line → Record
record_of (Deposit dollars) = deposit dollars
record_of (OfEvent e) = event (own_value e)

-- the same of an answer that is a line
abbrev pub kept_as : {F : Type 0} → Result Line F → Result Record F
kept_as (Ok l) = Ok (record_of l)
kept_as (Err f) = Err f

-- and of one that may be no line
abbrev pub seen : {F : Type 0} → Result (Option Line) F → Result (Option Record) F
seen (Ok l) = Ok (option_map record_of l)
seen (Err f) = Err f

-- the event that a line stands for, which a deposit does not
abbrev pub event_in : Record → Option EventValue
event_in (deposit dollars) = None
event_in (event e) = Some e

-- what the line of an event says, which is refused where an opening's row does not have 14 bytes
abbrev pub line_of : EventValue → Result Record RecordFault
line_of (opening row) = cond (length row == 14) (Ok (event (opening row))) (Err RowLength)
line_of (new_step seat market shares discount stamp) = Ok (event (new_step seat market shares discount stamp))
line_of (raise seat shares step discount stamp) = Ok (event (raise seat shares step discount stamp))
line_of close = Ok (event close)
line_of changeover = Ok (event changeover)

-- an event whose numbers of one byte, its row's bytes among them, are such
abbrev pub InBytes : EventValue → Type 0
InBytes (opening row) = (k : ℕ) → slice_index row k < 256
InBytes (new_step seat market shares discount stamp) = (seat < 256) × (market < 256) × (shares < 256)
InBytes (raise seat shares step discount stamp) = (seat < 256) × (shares < 256)
InBytes close = Unit {0}
InBytes changeover = Unit {0}

-- a record whose figures have their widths: every one that the code holds
abbrev pub Fits : Record → Type 0
Fits (deposit dollars) = dollars < 2 ^ 32
Fits (event e) = Sized e × InBytes e
