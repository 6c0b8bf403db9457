use Rattle.std.proofs.Common.{◌≡◌, ◌≤◌, length, take, vec_items, vec_capacity}
use Rattle.rules.specs.Parts.{replies}
use Rattle.rules.specs.Sales.{run}
use Rattle.sales.specs.State.{state_of}
use Rattle.runs.specs.Calls.{calls_of}
use Rattle.runs.proofs.run.run_into.Given as goal

abbrev pub invariant-loop-call : goal.invariant-loop-call
invariant-loop-call g l =
    let s = state_of g.S.PhaseSheet g.B.StepBook l.initial.sale in
    let made = calls_of g.T.PhaseSheet g.C.StepBook (take l.call-index l.calls) in
    (vec_items l.told ≡ replies s made) × (state_of g.S.PhaseSheet g.B.StepBook l.sale ≡ run s made) × (length l.calls ≤ vec_capacity l.told)
