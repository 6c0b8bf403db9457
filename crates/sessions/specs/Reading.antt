-- Which bytes are a session file, and what its records are.
use Rattle.std.specs.Prelude.{ℕ, ◌+◌, Bool, cond, not, ◌&&◌, ◌||◌, List, [], ◌∷◌, length, take, is_ok, Ok, Err, Result, nat_le, nat_lt}
use Rattle.std.specs.List.{between}
use Rattle.std.specs.Str.{bytes_eq}
use Rattle.faults.specs.declared.record.RecordFault.{RecordFault}
use Rattle.records.specs.Bytes.{be}
use Rattle.records.specs.Event.{EventValue, decoded}
use Rattle.faults.specs.declared.section.Section.{Section}
use Rattle.faults.specs.declared.section.Section.TheVariants.{Deposits, Events}
use Rattle.faults.specs.declared.file.FileFault.{FileFault}
use Rattle.faults.specs.declared.file.FileFault.TheVariants.{Short, Letters, Section as BadSection, Overlap, NoRecord, Record, Oversize}
use Rattle.sessions.specs.Layout.{letters, count, start, finish, place, width}

-- the tests in their order, each with its refusal: the first that applies is the answer
abbrev pub first_of : List (Bool × FileFault) → Result (Unit {0}) FileFault
first_of [] = Ok tt
first_of (test ∷ tests) = cond test.0 (Err test.1) (first_of tests)

-- a section starts before byte 16 or passes the end
abbrev pub outside : Section → List ℕ → Bool
outside s bs = nat_lt (start s bs) 16 || nat_lt (length bs) (finish s bs)

-- the parts from a to b and from c to d have a byte in common; an empty part has none
abbrev pub overlap : ℕ → ℕ → ℕ → ℕ → Bool
overlap a b c d = nat_lt a b && (nat_lt c d && (nat_lt a d && nat_lt c b))

-- whether these bytes are a session file, and why not
abbrev pub opened : List ℕ → Result (Unit {0}) FileFault
opened bs =
    first_of
    ((nat_lt (length bs) 16, Short (length bs))
    ∷ (not (bytes_eq (take 4 bs) letters), Letters)
    ∷ (outside Deposits bs, BadSection Deposits)
    ∷ (outside Events bs, BadSection Events)
    ∷ (overlap (start Deposits bs) (finish Deposits bs) (start Events bs) (finish Events bs), Overlap)
    ∷ [])

-- the same of what is handed to a program, 65,536 bytes at most
abbrev pub admitted : List ℕ → Result (Unit {0}) FileFault
admitted bs = cond (nat_lt 65536 (length bs)) (Err Oversize) (opened bs)

-- how many records there are to read: none in what is no session file
abbrev pub count_in : Section → List ℕ → ℕ
count_in s bs = cond (is_ok (opened bs)) (count s bs) 0

-- there is a record of the number n, of so many
abbrev pub numbered : ℕ → ℕ → Bool
numbered n many = nat_le 1 n && nat_le n many

-- an answer made from another, whose refusal stays
abbrev pub next : {A B : Type 0} → Result A FileFault → (A → Result B FileFault) → Result B FileFault
next (Ok a) f = f a
next (Err e) f = Err e

-- where the header bs says that the record of the number n begins, and where it begins in the file bs
abbrev pub placed : Section → List ℕ → ℕ → Result ℕ FileFault
placed s bs n = cond (numbered n (count s bs)) (Ok (place s bs n)) (Err (NoRecord n))

abbrev pub located : Section → List ℕ → ℕ → Result ℕ FileFault
located s bs n = next (opened bs) (λ _. placed s bs n)

-- its bytes
abbrev pub record_at : Section → List ℕ → ℕ → Result (List ℕ) FileFault
record_at s bs n = next (located s bs n) (λ at. Ok (between at (at + width s) bs))

-- an event's own refusal is told with its number
abbrev pub of_number : {A : Type 0} → ℕ → Result A RecordFault → Result A FileFault
of_number n (Ok a) = Ok a
of_number n (Err f) = Err (Record n f)

-- the deposit, and the event, of the number n
abbrev pub deposit_at : List ℕ → ℕ → Result ℕ FileFault
deposit_at bs n = next (record_at Deposits bs n) (λ r. Ok (be 4 r 0))

abbrev pub event_at : List ℕ → ℕ → Result EventValue FileFault
event_at bs n = next (record_at Events bs n) (λ r. of_number n (decoded r))
