use Rattle.std.proofs.Common.{◌≡◌, ◌-◌}
use Rattle.closing.proofs.Rejecting.{rejected_to}
use Rattle.closing.proofs.reject.reject_losing.Given as goal

abbrev pub invariant-loop-number : goal.invariant-loop-number
invariant-loop-number g l =
    let b = g.B.StepBook in
    (b.frame l.book ≡ b.frame l.initial.book)
    × (b.steps l.book ≡ rejected_to (l.number - 1) (b.steps l.initial.book))
