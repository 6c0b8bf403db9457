use Rattle.std.proofs.Common.{take}
use Rattle.std.specs.Fmt.{HasWritten, IsPlainFormatter}
use Rattle.lines.specs.Shown.{listed}
use Rattle.lines.proofs.line.LineDisplay.fmt.Given as goal

-- the increments before this one are written
abbrev pub invariant-loop-step : goal.invariant-loop-step
invariant-loop-step g l =
    IsPlainFormatter l.initial.f → HasWritten g.W.Write.write_str_gives l.initial.f (listed (take l.step-index l.step-items)) l.f
