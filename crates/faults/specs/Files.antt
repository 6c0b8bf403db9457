-- The number and the place of each refusal of a file.
use Rattle.std.specs.Prelude.{ℕ}
use Rattle.faults.specs.Records.{record_number}
use Rattle.faults.specs.declared.file.FileFault.{FileFault}
use Rattle.faults.specs.declared.file.FileFault.TheVariants.{Short, Letters, Section, Overlap, NoRecord, Record, NoRoom, TooMany, Oversize}
use Rattle.faults.specs.Sections.{offset_at}

abbrev pub fault_number : FileFault → ℕ
fault_number (Short _) = 28
fault_number Letters = 29
fault_number (Section _) = 30
fault_number Overlap = 31
fault_number (NoRecord _) = 32
fault_number (Record _ f) = record_number f
fault_number NoRoom = 35
fault_number TooMany = 36
fault_number Oversize = 38

-- the length of a short file, where the header keeps the offset of the section at fault, the number of the record, else 0
abbrev pub fault_place : FileFault → ℕ
fault_place (Short n) = n
fault_place Letters = 0
fault_place (Section s) = offset_at s
fault_place Overlap = 12
fault_place (NoRecord n) = n
fault_place (Record n _) = n
fault_place NoRoom = 0
fault_place TooMany = 0
fault_place Oversize = 0
