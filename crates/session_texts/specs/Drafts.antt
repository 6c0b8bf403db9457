-- What a draft holds, and what hearing a line answers.
use Rattle.std.specs.Prelude.{◌≡◌, ℕ, ◌+◌, ◌≤◌, false, List, map, Some, None, Ok, Err, vec_items, Option, Result, Vec}
use Rattle.records.specs.declared.event.Event.{Event}
use Rattle.lines.specs.declared.line.Line.{Line}
use Rattle.lines.specs.declared.fault.LineFault.{LineFault}
use Rattle.lines.specs.Record.{Record, own_value, record_of}
use Rattle.std.specs.declared.alloc.Global.{Global}
use Rattle.session_texts.specs.Records.{record_size, file_size, file_of}
use Rattle.session_texts.specs.Again.{records_from}
use Rattle.session_texts.specs.Told.{late, heard, told}
use Rattle.session_texts.specs.declared.fault.TextFault.{TextFault}
use Rattle.session_texts.specs.declared.fault.MakeFault.{MakeFault}
use Rattle.session_texts.specs.declared.fault.MakeFault.TheVariants.{Line as AtLine, Memory}

-- the records of a draft that has these deposits, and these events behind them
abbrev pub records_of : List ℕ → List (Event (List ℕ)) → List Record
records_of deposits events = records_from deposits (map own_value events)

-- what a line says to a draft of these records: a record that has a place there, nothing, or a refusal
abbrev pub Taken : Result (Option Line) TextFault → List Record → Result (Option Record) LineFault → Type 0
Taken (Ok (Some l)) rs said = (said ≡ Ok (Some (record_of l))) × (late rs (record_of l) ≡ false) × (file_size rs + record_size (record_of l) ≤ 65536)
Taken (Ok None) rs said = heard rs said ≡ Ok rs
Taken (Err f) rs said = heard rs said ≡ Err f

-- the answer on the line n, where `after` says what the records are then, or why not; want of memory says nothing
abbrev pub Heard : Result (Unit {0}) MakeFault → ℕ → Result (List Record) TextFault → List Record → Type 0
Heard (Ok _) n after new = after ≡ Ok new
Heard (Err (AtLine k f)) n after new = (k ≡ n) × (after ≡ Err f)
Heard (Err Memory) n after new = Unit {0}

-- the answer on a whole text
abbrev pub ToldBy : Result (List Record) MakeFault → List ℕ → Type 0
ToldBy (Ok rs) text = told text ≡ Ok rs
ToldBy (Err (AtLine n f)) text = told text ≡ Err (n, f)
ToldBy (Err Memory) text = Unit {0}

-- the file made of a text is that of what it tells; a line at fault is the first that is
abbrev pub MadeFrom : Result (Vec ℕ Global) MakeFault → List ℕ → Type 0
MadeFrom (Ok file) text = (rs : List Record) × (told text ≡ Ok rs) × (vec_items file ≡ file_of rs)
MadeFrom (Err (AtLine n f)) text = told text ≡ Err (n, f)
MadeFrom (Err Memory) text = Unit {0}
