use Rattle.std.proofs.Common.{◌≡◌, ◌*◌, ◌-◌, ◌≤◌, take}
use Rattle.rules.specs.Lists.{total}
use Rattle.sums.proofs.measure.sum_over.Given as goal

-- the sum over the steps passed, each of which added at most the measure's most, and 40,000
abbrev pub invariant-loop-number : goal.invariant-loop-number
invariant-loop-number g l =
    (1 ≤ l.number)
    × (l.sum ≡ total (g.M.Measure.amount l.measure) (take (l.number - 1) (g.B.StepBook.steps l.book)))
    × (l.sum ≤ (l.number - 1) * g.M.Measure.most)
    × (l.sum ≤ 40000 * (l.number - 1))
