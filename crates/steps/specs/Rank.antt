-- The rank of bids, and of steps by their bids.
use Rattle.std.specs.Prelude.{◌≡◌, ℕ, Bool, ◌&&◌, ◌||◌, ◌==◌, nat_lt}
use Rattle.steps.specs.declared.record.Bid.{Bid}
use Rattle.steps.specs.declared.record.StepRecord.{StepRecord}

-- a ranks before b: the larger discount, then the lower stamp, then the lower number
abbrev pub before : Bid → Bid → Bool
before a b =
    nat_lt b.discount a.discount
    || (a.discount == b.discount && (nat_lt a.stamp b.stamp || (a.stamp == b.stamp && nat_lt a.number b.number)))

-- steps are ranked within their market
abbrev pub market_of : StepRecord → ℕ
market_of x = x.bid.market

-- x ranks before y by their bids
abbrev pub step_precedes : StepRecord → StepRecord → Bool
step_precedes x y = before x.bid y.bid

-- nothing that the rank compares differs
abbrev pub StepAlike : StepRecord → StepRecord → Type 0
StepAlike x y = (x.bid.discount ≡ y.bid.discount) × (x.bid.stamp ≡ y.bid.stamp) × (x.bid.number ≡ y.bid.number)
