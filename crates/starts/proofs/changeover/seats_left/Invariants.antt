use Rattle.std.proofs.Common.{◌≡◌, ◌-◌, take}
use Rattle.accounts.specs.Seated.{seated}
use Rattle.rules.specs.Sales.{carried}
use Rattle.sale_parts.specs.State.{state_of}
use Rattle.starts.proofs.changeover.seats_left.Given as goal

abbrev pub invariant-loop-seat : goal.invariant-loop-seat
invariant-loop-seat g l = seated l.seats ≡ take (l.seat - 1) (carried (state_of g.S.PhaseSheet g.B.StepBook l.sale) 1 (seated l.sale.ledger.seats))
