-- What a write to a session file leaves in the memory lent for it.
use Rattle.std.specs.Prelude.{◌≡◌, ℕ, ◌+◌, ◌<◌, ◌≤◌, cond, not, ◌&&◌, List, [], ◌∷◌, ◌++◌, length, take, drop, Ok, Err, Result, nat_le, nat_lt}
use Rattle.std.specs.List.{flat_map}
use Rattle.faults.specs.declared.record.RecordFault.TheVariants.{RowLength}
use Rattle.records.specs.Bytes.{bytes_of}
use Rattle.records.specs.Event.{EventValue, encoded, row_fits}
use Rattle.faults.specs.declared.section.Section.{Section}
use Rattle.faults.specs.declared.section.Section.TheVariants.{Deposits, Events}
use Rattle.faults.specs.declared.file.FileFault.{FileFault}
use Rattle.faults.specs.declared.file.FileFault.TheVariants.{Record, NoRoom, TooMany}
use Rattle.sessions.specs.Layout.{header_of, size_of}
use Rattle.sessions.specs.Reading.{first_of, located, next}

-- the memory ms with the bytes bs written from a place on
abbrev pub written : List ℕ → ℕ → List ℕ → List ℕ
written ms at bs = take at ms ++ (bs ++ drop (length bs) (drop at ms))

-- a record put under the number n of a section
abbrev pub record_put : Section → List ℕ → ℕ → List ℕ → Result (List ℕ) FileFault
record_put s ms n bs = next (located s ms n) (λ at. Ok (written ms at bs))

abbrev pub deposit_put : List ℕ → ℕ → ℕ → Result (List ℕ) FileFault
deposit_put ms n dollars = record_put Deposits ms n (bytes_of 4 dollars)

abbrev pub event_put : List ℕ → ℕ → EventValue → Result (List ℕ) FileFault
event_put ms n e = next (record_put Events ms n (encoded e)) (λ new. cond (row_fits e) (Ok new) (Err (Record n RowLength)))

-- whether c deposits and m events have room in a memory of so many bytes
abbrev pub room_for : ℕ → ℕ → ℕ → Result (Unit {0}) FileFault
room_for size c m = first_of ((not (nat_le c 65535 && nat_le m 65535), TooMany) ∷ (nat_lt size (size_of c m), NoRoom) ∷ [])

-- what that says: counts of two bytes, and all the bytes
pub record Room (size c m : ℕ) : Type 0 where
  pub deposits : c < 65536
  pub events : m < 65536
  pub fits : size_of c m ≤ size

abbrev pub header_put : List ℕ → ℕ → ℕ → Result (List ℕ) FileFault
header_put ms c m = next (room_for (length ms) c m) (λ _. Ok (written ms 0 (header_of c m)))

-- the bytes of a whole file in the standard layout
abbrev pub session_bytes : List ℕ → List EventValue → List ℕ
session_bytes ds es = header_of (length ds) (length es) ++ (flat_map (bytes_of 4) ds ++ flat_map encoded es)

-- the first event, counted from n, whose row hasn't 14 bytes is refused
abbrev pub rows_fit : ℕ → List EventValue → Result (Unit {0}) FileFault
rows_fit n [] = Ok tt
rows_fit n (e ∷ es) = cond (row_fits e) (rows_fit (n + 1) es) (Err (Record n RowLength))

-- whether a session of c deposits and these events can be written into a memory of so many bytes
abbrev pub session_fits : ℕ → ℕ → List EventValue → Result (Unit {0}) FileFault
session_fits size c es = next (room_for size c (length es)) (λ _. rows_fit 1 es)

abbrev pub session_put : List ℕ → List ℕ → List EventValue → Result (List ℕ) FileFault
session_put ms ds es = next (session_fits (length ms) (length ds) es) (λ _. Ok (written ms 0 (session_bytes ds es)))

-- the writer's answer, and the memory that it leaves: as it was where it refuses
abbrev pub Wrote : Result (Unit {0}) FileFault → List ℕ → List ℕ → Result (List ℕ) FileFault → Type 0
Wrote (Ok _) old new put = put ≡ Ok new
Wrote (Err f) old new put = (put ≡ Err f) × (new ≡ old)
