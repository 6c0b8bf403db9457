-- The step's rule, as tests of a record's figures.
use Rattle.std.specs.Prelude.{ℕ, ◌+◌, Bool, ◌&&◌, nat_le}
use Rattle.steps.specs.declared.record.Bid.{Bid}
use Rattle.steps.specs.declared.record.Shares.{Shares}
use Rattle.steps.specs.declared.record.StepRecord.{StepRecord}

-- a market from 1 to 7, and a discount of at most 10,000
abbrev pub offer_ok : ℕ → ℕ → Bool
offer_ok market discount = nat_le 1 market && (nat_le market 7 && nat_le discount 10000)

-- no more shares losing than standing, and at most 100 standing and rejected
abbrev pub shares_ok : Shares → Bool
shares_ok s = nat_le s.losing s.standing && nat_le (s.standing + s.rejected) 100

-- the whole rule
abbrev pub step_ok : StepRecord → Bool
step_ok r = offer_ok r.bid.market r.bid.discount && shares_ok r.shares

-- so many shares, all standing
abbrev pub all_standing : ℕ → Shares
all_standing n = record { standing = n; losing = 0; rejected = 0 }

-- a bid and a record of zeros, which stand where a list has none
abbrev pub no_bid : Bid
no_bid = record { number = 0; seat = 0; market = 0; discount = 0; stamp = 0 }

abbrev pub no_step : StepRecord
no_step = record { bid = no_bid; shares = all_standing 0 }
