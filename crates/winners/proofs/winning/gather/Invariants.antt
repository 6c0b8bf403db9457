use Rattle.std.proofs.Common.{length, vec_items, vec_len, vec_capacity}
use Rattle.winners.proofs.NextInRank.{rank_behind}
use Rattle.winners.proofs.Gathered.{Gathered}
use Rattle.winners.proofs.winning.gather.Given as goal

abbrev pub invariant-loop-number : goal.invariant-loop-number
invariant-loop-number g l = Gathered l.market (g.B.StepBook.steps l.book) (vec_items l.initial.found) (vec_items l.found) l.at (vec_len l.found) (vec_capacity l.found)

-- the steps that the walk hasn't come to
abbrev pub decreases-loop-number : goal.decreases-loop-number
decreases-loop-number g l = length (rank_behind l.market (g.B.StepBook.steps l.book) l.at)
