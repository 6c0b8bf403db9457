-- Parts of the rules under names of their own, for the code that is held to them.
use Rattle.std.specs.Prelude.{ℕ, ◌+◌, ◌-◌, ◌*◌, Bool, true, false, List, [], ◌∷◌, length, Result, ◌==◌, nat_lt}
use Rattle.sheets.specs.Figures.{Figures}
use Rattle.steps.specs.declared.record.StepRecord.{StepRecord}
use Rattle.rules.specs.declared.account.Account.{Account}
use Rattle.rules.specs.declared.answer.Answer.{Answer}
use Rattle.rules.specs.declared.fault.SaleFault.{SaleFault}
use Rattle.rules.specs.Books.{standing_of, won, weighted, of_seat}
use Rattle.rules.specs.Sales.{State, account, standing_weight, won_in, next_round, owed, lapsed, Call, close, done, reply, after}

-- the losing shares of a step
abbrev pub losing_of : StepRecord → ℕ
losing_of x = x.shares.losing

-- a sale with these lots and accounts that begins: everything else is as it was, but it has not ended
abbrev pub begun : State → ℕ → List Account → State
begun s lots accounts = record {
  figures = s.figures;
  size = s.size;
  steps = s.steps;
  lots = lots;
  round = s.round;
  opened = s.opened;
  ended = false;
  increments = s.increments;
  clearing = s.clearing;
  raised = s.raised;
  last_stamp = s.last_stamp;
  accounts = accounts;
}

-- the next round, with these increments
abbrev pub round_begun : State → List ℕ → State
round_begun s increments = record {
  figures = s.figures;
  size = s.size;
  steps = s.steps;
  lots = s.lots;
  round = next_round s;
  opened = true;
  ended = s.ended;
  increments = increments;
  clearing = s.clearing;
  raised = false;
  last_stamp = s.last_stamp;
  accounts = s.accounts;
}

-- the lots of the first sale less the shares won
abbrev pub unsold : State → ℕ
unsold first = first.lots - won_in first

-- what a seat has bought in the first sale, less its winnings there times the weight of the one market
abbrev pub left_to : State → ℕ → Account → ℕ
left_to first seat a = a.bought - first.figures.weight 1 * of_seat seat won first.steps

-- so many shares more, weighted, would exceed the seat's eligibility
abbrev pub not_eligible : State → ℕ → ℕ → ℕ → Bool
not_eligible s seat market shares = nat_lt (account s (seat - 1)).eligible (standing_weight s seat + shares * s.figures.weight market)

-- the book has as many steps as places
abbrev pub book_full : State → Bool
book_full s = length s.steps == s.size

-- the account of a seat at the closing of a round, with these steps in the book
abbrev pub closed_account : Figures → ℕ → List StepRecord → ℕ → Account → Account
closed_account f round steps seat a = lapsed (owed f round a.eligible) (weighted f.weight seat standing_of steps) a

-- what an accepted closing leaves
abbrev pub close_leaves : State → State
close_leaves s = done s close

-- the replies to a list of calls
abbrev pub replies : State → List Call → List (Result Answer SaleFault)
replies s [] = []
replies s (c ∷ cs) = reply s c ∷ replies (after s c) cs
