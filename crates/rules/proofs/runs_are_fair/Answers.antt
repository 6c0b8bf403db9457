use Rattle.rules.proofs.Runs.{runs_are_fair}
use Rattle.rules.proofs.EveryRun.{runs_down_the_rank, runs_accounted, rounds_bounded}
use Rattle.rules.proofs.runs_are_fair.Goals as goal

pub returns : goal.returns
returns c = record { fair = runs_are_fair; down_the_rank = runs_down_the_rank; accounted = runs_accounted; bounded = rounds_bounded }
