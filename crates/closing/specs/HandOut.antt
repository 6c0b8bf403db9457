-- The lots of a round, handed out to a part of the steps at a time.
use Rattle.std.specs.Prelude.{ℕ, ◌-◌, min, Bool, cond, List, map, Some, Option, nat_lt}
use Rattle.steps.specs.declared.record.Bid.{Bid}
use Rattle.steps.specs.declared.record.StepRecord.{StepRecord}
use Rattle.rules.specs.Books.{hands}

-- the lots handed out to the steps whose bids pass the test; the others are as they were
abbrev pub handed : (Bid → Bool) → ℕ → List StepRecord → List StepRecord
handed test lots xs = map (λ x. cond (test x.bid) (hands lots xs x) x) xs

-- what a step gets of the lots left
abbrev pub gets : ℕ → StepRecord → ℕ
gets left x = min x.shares.standing left

-- the step that gets so much: the rest is losing
abbrev pub awarded : ℕ → StepRecord → StepRecord
awarded left x = record { bid = x.bid; shares = record { standing = x.shares.standing; losing = x.shares.standing - gets left x; rejected = x.shares.rejected } }

-- the clearing discount behind the step: its own if it gets a share, else that of the steps before
abbrev pub cleared : ℕ → StepRecord → Option ℕ → Option ℕ
cleared left x clearing = cond (nat_lt 0 (gets left x)) (Some x.bid.discount) clearing
