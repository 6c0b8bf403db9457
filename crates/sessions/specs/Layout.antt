-- Where the header and the records of a session file stand. Numbers are big-endian.
use Rattle.std.specs.Prelude.{ℕ, ◌+◌, ◌-◌, ◌*◌, List, ◌++◌, codes}
use Rattle.records.specs.Bytes.{be, bytes_of}
use Rattle.faults.specs.declared.section.Section.{Section}
use Rattle.faults.specs.declared.section.Section.TheVariants.{Deposits, Events}
use Rattle.faults.specs.Sections.{offset_at, width as record_width}

-- the letters that begin a file
abbrev pub letters : List ℕ
letters = codes "SOSA"

-- where the header keeps the number of a section's records, in two bytes
abbrev pub count_at : Section → ℕ
count_at Deposits = 4
count_at Events = 6

-- how many bytes a record has
abbrev pub width : Section → ℕ
width s = record_width s

-- how many records a section of the file bs has, where it starts, and where it ends
abbrev pub count : Section → List ℕ → ℕ
count s bs = be 2 bs (count_at s)

abbrev pub start : Section → List ℕ → ℕ
start s bs = be 4 bs (offset_at s)

abbrev pub finish : Section → List ℕ → ℕ
finish s bs = start s bs + width s * count s bs

-- where the record of the number n begins; the first is 1
abbrev pub place : Section → List ℕ → ℕ → ℕ
place s bs n = start s bs + width s * (n - 1)

-- the standard layout of c deposits and m events: the header, the deposits at 16, the events right behind them
abbrev pub header_of : ℕ → ℕ → List ℕ
header_of c m = letters ++ (bytes_of 2 c ++ (bytes_of 2 m ++ (bytes_of 4 16 ++ bytes_of 4 (16 + 4 * c))))

abbrev pub size_of : ℕ → ℕ → ℕ
size_of c m = 16 + 4 * c + 16 * m
