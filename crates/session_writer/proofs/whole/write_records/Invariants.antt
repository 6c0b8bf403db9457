use Rattle.std.proofs.Common.{◌≡◌, ◌*◌, length, take}
use Rattle.std.specs.List.{flat_map}
use Rattle.session_writer.specs.Writing.{written}
use Rattle.session_writer.proofs.whole.write_records.Given as goal

-- the first records are written, N bytes each
abbrev pub invariant-loop-i : goal.invariant-loop-i
invariant-loop-i g l =
    (l.memory ≡ written l.initial.memory l.start (flat_map g.R.Record.bytes (take l.i l.records)))
    × (length (flat_map g.R.Record.bytes (take l.i l.records)) ≡ g.row.N * l.i)
