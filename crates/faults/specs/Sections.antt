-- The two sections of a session file: where the header keeps their offsets, and how wide their records are.
use Rattle.std.specs.Prelude.{ℕ}
use Rattle.faults.specs.declared.section.Section.{Section}
use Rattle.faults.specs.declared.section.Section.TheVariants.{Deposits, Events}

-- where the header keeps the section's offset, in four bytes
abbrev pub offset_at : Section → ℕ
offset_at Deposits = 8
offset_at Events = 12

-- how many bytes a record of the section has
abbrev pub width : Section → ℕ
width Deposits = 4
width Events = 16
