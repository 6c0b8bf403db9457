use Rattle.std.proofs.Common.{◌≡◌}
use Rattle.closing.proofs.Walk.{Walked, waiting}
use Rattle.closing.proofs.award.hand_out_market.Given as goal

abbrev pub invariant-loop-number : goal.invariant-loop-number
invariant-loop-number g l =
    let b = g.B.StepBook in
    (b.frame l.book ≡ b.frame l.initial.book)
    × Walked l.market l.lots (b.steps l.initial.book) (b.steps l.book) l.at l.walk.left l.walk.clearing

abbrev pub decreases-loop-number : goal.decreases-loop-number
decreases-loop-number g l = waiting l.market (g.B.StepBook.steps l.initial.book) l.at
