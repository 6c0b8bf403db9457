use Rattle.std.proofs.Common.{◌≡◌, ◌+◌, ◌-◌, ◌≤◌, string_bytes}
use Rattle.sessions.specs.Lent.{lent}
use Rattle.listings.specs.Texts.{up_to}
use Rattle.listings.specs.Listed.{record_line}
use Rattle.listings.proofs.list.section_lines.Given as goal

-- the records before this one are listed
abbrev pub invariant-loop-number : goal.invariant-loop-number
invariant-loop-number l = record { listed : string_bytes l.text ≡ up_to (record_line l.section (lent l.reader)) (l.number - 1); numbered : l.number ≤ l.number-end + 1 }
