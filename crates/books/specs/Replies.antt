-- What each call of a book answers, and which steps the book has after it.
use Rattle.std.specs.Prelude.{◌≡◌, ℕ, ◌+◌, ◌-◌, ◌<◌, ◌≤◌, Bool, true, false, cond, ◌&&◌, List, [], ◌∷◌, ◌++◌, length, Some, None, Ok, Err, Option, Result, ◌==◌, nat_le, slice_index_or, slice_set}
use Rattle.offers.specs.declared.NewStep.{NewStep}
use Rattle.ranks.specs.Order.{FirstBehind}
use Rattle.steps.specs.declared.record.Shares.{Shares}
use Rattle.steps.specs.declared.record.StepRecord.{StepRecord}
use Rattle.steps.specs.declared.step.Step.{Step}
use Rattle.steps.specs.declared.fault.BookFault.{BookFault}
use Rattle.steps.specs.declared.fault.BookFault.TheVariants.{Full, NoStep, BadStep}
use Rattle.steps.specs.Rule.{step_ok, shares_ok, no_step, all_standing}
use Rattle.steps.specs.Rank.{market_of, step_precedes}

-- the list has a step of that number
abbrev pub held : List StepRecord → ℕ → Bool
held steps number = nat_le 1 number && nat_le number (length steps)

-- the step of that number
abbrev pub at : List StepRecord → ℕ → StepRecord
at steps number = slice_index_or steps (number - 1) no_step

-- the step that a put enters: the next number, all shares standing
abbrev pub entered : List StepRecord → NewStep → StepRecord
entered steps new = record {
  bid = record { number = length steps + 1; seat = new.seat; market = new.market; discount = new.discount; stamp = new.stamp };
  shares = all_standing new.shares;
}

-- a put refuses a step that breaks the rule, then any step where the book is full; else it answers the new number
abbrev pub put_reply : ℕ → List StepRecord → StepRecord → Result ℕ BookFault
put_reply size steps new = cond (step_ok new) (cond (length steps == size) (Err Full) (Ok (length steps + 1))) (Err BadStep)

-- the new step comes last
abbrev pub put_after : ℕ → List StepRecord → StepRecord → List StepRecord
put_after size steps new = cond (step_ok new) (cond (length steps == size) steps (steps ++ new ∷ [])) steps

-- a read answers the step of that number, or refuses
abbrev pub ReadReply : List StepRecord → ℕ → Result Step BookFault → Type 0
ReadReply steps number (Ok step) = (held steps number ≡ true) × (step.stored ≡ at steps number)
ReadReply steps number (Err fault) = (held steps number ≡ false) × (fault ≡ NoStep)

-- a step with other share figures
abbrev pub reshared : StepRecord → Shares → StepRecord
reshared x shares = record { bid = x.bid; shares = shares }

-- a set refuses a number that no step has, then shares that break the rule
abbrev pub set_reply : List StepRecord → ℕ → Shares → Result (Unit {0}) BookFault
set_reply steps number shares = cond (held steps number) (cond (shares_ok shares) (Ok tt) (Err BadStep)) (Err NoStep)

-- the one step has the new share figures
abbrev pub set_after : List StepRecord → ℕ → Shares → List StepRecord
set_after steps number shares =
    cond (held steps number) (cond (shares_ok shares) (slice_set steps (number - 1) (reshared (at steps number) shares)) steps) steps

-- the place behind which next looks: none for 0, the top
abbrev pub place_of : ℕ → Option ℕ
place_of number = cond (number == 0) None (Some (number - 1))

-- the place of a number that is answered
abbrev pub answered : Option ℕ → Option ℕ
answered None = None
answered (Some number) = Some (number - 1)

-- an answered number counts from 1
abbrev pub Numbered : Option ℕ → Type 0
Numbered None = Unit {0}
Numbered (Some number) = 1 ≤ number

-- next answers the number of the market's first step that ranks behind, or refuses a number that no step has
abbrev pub NextReply : List StepRecord → ℕ → ℕ → Result (Option ℕ) BookFault → Type 0
NextReply steps market number (Ok answer) =
    (number ≤ length steps) × Numbered answer × FirstBehind market_of step_precedes steps market (place_of number) (answered answer)
NextReply steps market number (Err fault) = (length steps < number) × (fault ≡ NoStep)
