-- Lists of records: their file, its size, and what is among them.
use Rattle.std.specs.Prelude.{ℕ, ◌+◌, Bool, true, false, ◌||◌, List, [], ◌∷◌, ◌++◌}
use Rattle.std.specs.Option.{option_to_list}
use Rattle.records.specs.Event.{EventValue}
use Rattle.lines.specs.Record.{Record, deposit, event, event_in}
use Rattle.session_writer.specs.Writing.{session_bytes}

-- how many bytes a record takes in a file
abbrev pub record_size : Record → ℕ
record_size (deposit dollars) = 4
record_size (event e) = 16

-- how many bytes a file of these records has
abbrev pub file_size : List Record → ℕ
file_size [] = 16
file_size (r ∷ rs) = record_size r + file_size rs

abbrev pub is_event : Record → Bool
is_event (deposit dollars) = false
is_event (event e) = true

-- whether an event is among them
abbrev pub has_event : List Record → Bool
has_event [] = false
has_event (r ∷ rs) = is_event r || has_event rs

-- the deposits and the events among them
abbrev pub deposits_in : List Record → List ℕ
deposits_in [] = []
deposits_in (deposit dollars ∷ rs) = dollars ∷ deposits_in rs
deposits_in (event e ∷ rs) = deposits_in rs

abbrev pub events_in : List Record → List EventValue
events_in [] = []
events_in (r ∷ rs) = option_to_list (event_in r) ++ events_in rs

-- their file, in the standard layout
abbrev pub file_of : List Record → List ℕ
file_of rs = session_bytes (deposits_in rs) (events_in rs)
