-- The winning steps of a market.
use Rattle.std.specs.Prelude.{ℕ, Bool, List, [], ◌∷◌, None, Some, Option, filter, nat_lt}
use Rattle.steps.specs.declared.record.StepRecord.{StepRecord}
use Rattle.books.specs.Replies.{at}
use Rattle.rules.specs.DownRank.{in_rank}
use Rattle.rules.specs.Books.{bid_of, won}

-- the step wins a share
abbrev pub is_winning : StepRecord → Bool
is_winning x = nat_lt 0 (won x)

-- the step of the number, where there is one
abbrev pub stepped : List StepRecord → Option ℕ → List StepRecord
stepped steps None = []
stepped steps (Some number) = at steps number ∷ []

-- the winning steps of the market m, in rank
abbrev pub winning : ℕ → List StepRecord → List StepRecord
winning m xs = filter is_winning (in_rank bid_of m xs)
