-- The text of a session file.
use Rattle.std.specs.Prelude.{ℕ, List, ◌++◌, Ok, Err, codes, decimal, Result}
use Rattle.faults.specs.declared.file.FileFault.{FileFault}
use Rattle.faults.specs.declared.section.Section.{Section}
use Rattle.faults.specs.declared.section.Section.TheVariants.{Deposits, Events}
use Rattle.faults.specs.Files.{fault_number, fault_place}
use Rattle.lines.specs.Record.{Record, deposit, line_of}
use Rattle.lines.specs.Shown.{shown_record}
use Rattle.sessions.specs.Reading.{admitted, count_in, deposit_at, event_at, next, of_number}
use Rattle.listings.specs.Texts.{ended_line, up_to}

-- what is said of a file that can't be read: the refusal's number and place
abbrev pub refusal_text : ℕ → ℕ → List ℕ
refusal_text number at = codes "F " ++ (decimal number ++ (codes " " ++ decimal at))

abbrev pub refusal_line : FileFault → List ℕ
refusal_line f = refusal_text (fault_number f) (fault_place f)

-- what a record of a section is called
abbrev pub section_name : Section → List ℕ
section_name Deposits = codes "deposit"
section_name Events = codes "event"

-- a remark in the place of a record that can't be read
abbrev pub remark : Section → ℕ → FileFault → List ℕ
remark s n f = codes "# " ++ (section_name s ++ (codes " " ++ (decimal n ++ (codes ": NO " ++ (decimal (fault_number f) ++ codes " file")))))

-- the record of the number n, as lines say it
abbrev pub record_in : Section → List ℕ → ℕ → Result Record FileFault
record_in Deposits bs n = next (deposit_at bs n) (λ dollars. Ok (deposit dollars))
record_in Events bs n = next (event_at bs n) (λ e. of_number n (line_of e))

-- its line, or the remark
abbrev pub line_or : Section → ℕ → Result Record FileFault → List ℕ
line_or s n (Ok r) = shown_record r
line_or s n (Err f) = remark s n f

abbrev pub record_line : Section → List ℕ → ℕ → List ℕ
record_line s bs n = line_or s n (record_in s bs n)

-- the lines of a section
abbrev pub section_lines : Section → List ℕ → List ℕ
section_lines s bs = up_to (record_line s bs) (count_in s bs)

-- the text of what is handed to the program: the deposits, then the events, or the refusal
abbrev pub listed_or : Result (Unit {0}) FileFault → List ℕ → List ℕ
listed_or (Ok _) bs = section_lines Deposits bs ++ section_lines Events bs
listed_or (Err f) bs = ended_line (refusal_line f)

abbrev pub listed : List ℕ → List ℕ
listed bs = listed_or (admitted bs) bs
