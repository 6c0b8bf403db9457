-- A sale, its calls, and for each call the tests in their order, the answer, and what it leaves.
use Rattle.std.specs.Prelude.{ℕ, suc, ◌+◌, ◌-◌, ◌*◌, ◌/◌, ◌^◌, min, Bool, true, false, cond, not, ◌&&◌, ◌||◌, ltb, List, [], ◌∷◌, ◌++◌, map, length, replicate, Some, None, Ok, Err, Option, Result, ◌==◌, nat_le, nat_lt, slice_index, slice_index_or, slice_set}
use Rattle.steps.specs.declared.fault.BookFault.TheVariants.{Full, NoStep}
use Rattle.rules.specs.declared.account.Account.{Account}
use Rattle.rules.specs.declared.answer.Answer.{Answer}
use Rattle.rules.specs.declared.answer.Answer.TheVariants.{Told, Closed}
use Rattle.rules.specs.declared.fault.SaleFault.{SaleFault}
use Rattle.rules.specs.declared.fault.SaleFault.TheVariants.{Book, SeatCount, DepositSize, Taken, SaleEnded, RoundOpen, RowLength, IncrementSize, RoundShut, NoSeat, NoMarket, ShareCount, DiscountSize, StampBehind, EntryOver, NotEligible, OtherSeat, RaiseShares, NoClearing, LowRaise, FirstGoing, FirstMarkets, NothingLeft}
use Rattle.rules.specs.Lists.{total, any, listed}
use Rattle.sheets.specs.Figures.{Figures}
use Rattle.steps.specs.declared.record.StepRecord.{StepRecord}
use Rattle.steps.specs.Rule.{no_step, all_standing}
use Rattle.rules.specs.Books.{won, rejects, settled, least, weighted, of_seat, standing_of}

-- the state of a sale: its sheet's figures, its book's size and steps, and its own figures
pub record State : Type 0 where
  pub figures : Figures
  pub size : ℕ
  pub steps : List StepRecord
  pub lots : ℕ
  pub round : ℕ
  pub opened : Bool
  pub ended : Bool
  pub increments : List ℕ
  pub clearing : List (Option ℕ)
  pub raised : Bool
  pub last_stamp : ℕ
  pub accounts : List Account

-- a sale as it is made: ended, with no seat, no clearing discount and every number 0
abbrev pub fresh : Figures → ℕ → List StepRecord → State
fresh f size steps = record {
  figures = f;
  size = size;
  steps = steps;
  lots = 0;
  round = 0;
  opened = false;
  ended = true;
  increments = replicate 7 0;
  clearing = replicate 7 None;
  raised = false;
  last_stamp = 0;
  accounts = [];
}

-- the account that stands where there is no seat
abbrev pub nobody : Account
nobody = record { bought = 0; eligible = 0 }

-- the account at place k, of seat k + 1
abbrev pub account : State → ℕ → Account
account s k = slice_index_or s.accounts k nobody

-- the step of the number n, and the increment and the clearing discount of the market m
abbrev pub step_at : State → ℕ → StepRecord
step_at s n = slice_index_or s.steps (n - 1) no_step

abbrev pub increment : State → ℕ → ℕ
increment s m = slice_index s.increments (m - 1)

abbrev pub clearing_at : State → ℕ → Option ℕ
clearing_at s m = slice_index_or s.clearing (m - 1) None

-- the standing shares of seat k, each times its market's weight; losing ones count
abbrev pub standing_weight : State → ℕ → ℕ
standing_weight s k = weighted s.figures.weight k standing_of s.steps

-- the calls: deposits; the first sale; a row of increments; seat, market, shares, discount and stamp; seat, step, shares, discount and stamp
pub data Call : Type 0 where
  start : List ℕ → Call
  changeover : State → Call
  opening : List ℕ → Call
  enter : ℕ → ℕ → ℕ → ℕ → ℕ → Call
  raise : ℕ → ℕ → ℕ → ℕ → ℕ → Call
  close : Call

-- a test of a call, and the refusal where it holds
pub record Test : Type 0 where
  pub fails : Bool
  pub refusal : SaleFault

abbrev pub refuse : SaleFault → Bool → Test
refuse n b = record { fails = b; refusal = n }

-- a call passes, or the first test that holds refuses it
pub data Verdict : Type 0 where
  passed : Verdict
  failed : SaleFault → Verdict

abbrev pub unless : Bool → SaleFault → Verdict → Verdict
unless true n v = failed n
unless false n v = v

abbrev pub verdict_of : List Test → Verdict
verdict_of [] = passed
verdict_of (t ∷ ts) = unless t.fails t.refusal (verdict_of ts)

-- there is no clearing discount; the discount d is below it plus the increment i
abbrev pub missing : Option ℕ → Bool
missing None = true
missing (Some c) = false

abbrev pub short : Option ℕ → ℕ → ℕ → Bool
short None i d = false
short (Some c) i d = nat_lt d (c + i)

-- a raise of a step at the discount own to d: below the clearing discount plus the increment, or not above its own
abbrev pub low_raise : Option ℕ → ℕ → ℕ → ℕ → Bool
low_raise clearing i own d = short clearing i d || nat_le d own

-- n is not from 1 to top
abbrev pub outside : ℕ → ℕ → Bool
outside n top = n == 0 || nat_lt top n

-- the sale has a seat, or its book a step
abbrev pub taken : State → Bool
taken s = nat_lt 0 (length s.accounts) || nat_lt 0 (length s.steps)

-- the shares won in a sale
abbrev pub won_in : State → ℕ
won_in s = total won s.steps

-- the lowest seat whose deposit is over 20,000,000 dollars, where the first deposit is seat k's
abbrev pub seat_over : ℕ → List ℕ → ℕ
seat_over k [] = 0
seat_over k (d ∷ ds) = cond (nat_lt 20_000_000 d) k (seat_over (k + 1) ds)

-- the tests of each call, in their order
abbrev pub tests : State → Call → List Test
tests s (start deposits) =
    refuse (SeatCount (length deposits)) (outside (length deposits) 24)
    ∷ refuse (DepositSize (seat_over 1 deposits)) (any (λ d. ltb 20_000_000 d) deposits)
    ∷ refuse Taken (taken s)
    ∷ []
tests s (changeover first) =
    refuse FirstGoing (not first.ended)
    ∷ refuse FirstMarkets (nat_lt 1 first.figures.markets)
    ∷ refuse NothingLeft (first.lots - won_in first == 0)
    ∷ refuse Taken (taken s)
    ∷ []
tests s (opening row) =
    refuse SaleEnded s.ended
    ∷ refuse RoundOpen s.opened
    ∷ refuse RowLength (not (length row == s.figures.markets))
    ∷ refuse IncrementSize (any (λ n. ltb 1000 n) row)
    ∷ []
tests s (enter seat market shares discount stamp) =
    refuse RoundShut (not s.opened)
    ∷ refuse NoSeat (outside seat (length s.accounts))
    ∷ refuse NoMarket (outside market s.figures.markets)
    ∷ refuse ShareCount (outside shares 100)
    ∷ refuse DiscountSize (nat_lt 10_000 discount)
    ∷ refuse StampBehind (nat_lt stamp s.last_stamp)
    ∷ refuse EntryOver (nat_lt s.figures.openings s.round)
    ∷ refuse NotEligible (nat_lt (account s (seat - 1)).eligible (standing_weight s seat + shares * s.figures.weight market))
    ∷ refuse (Book Full) (length s.steps == s.size)
    ∷ []
tests s (raise seat number shares discount stamp) =
    let x = step_at s number in
    refuse RoundShut (not s.opened)
    ∷ refuse NoSeat (outside seat (length s.accounts))
    ∷ refuse (Book NoStep) (outside number (length s.steps))
    ∷ refuse OtherSeat (not (x.bid.seat == seat))
    ∷ refuse RaiseShares (outside shares x.shares.standing)
    ∷ refuse DiscountSize (nat_lt 10_000 discount)
    ∷ refuse StampBehind (nat_lt stamp s.last_stamp)
    ∷ refuse NoClearing (missing (clearing_at s x.bid.market))
    ∷ refuse LowRaise (low_raise (clearing_at s x.bid.market) (increment s x.bid.market) x.bid.discount discount)
    ∷ refuse (Book Full) (length s.steps == s.size)
    ∷ []
tests s close = refuse RoundShut (not s.opened) ∷ []

abbrev pub verdict : State → Call → Verdict
verdict s c = verdict_of (tests s c)

-- the account that a deposit buys
abbrev pub dollars : ℕ → Account
dollars d = record { bought = d / 500; eligible = d / 500 }

-- an increment of 0 stands for 50
abbrev pub fixed : ℕ → ℕ
fixed n = cond (n == 0) 50 n

-- seven increments: those of the row, and 0 for markets that the sale hasn't
abbrev pub padded : List ℕ → List ℕ
padded row = map fixed row ++ replicate (7 - length row) 0

-- a round's number is held in 64 bits, and stops at the largest
abbrev pub next_round : State → ℕ
next_round s = min (s.round + 1) (2 ^ 64 - 1)

-- the step that a new step or a raise enters
abbrev pub new_step : State → ℕ → ℕ → ℕ → ℕ → ℕ → StepRecord
new_step s seat market shares discount stamp = record {
  bid = record { number = suc (length s.steps); seat = seat; market = market; discount = discount; stamp = stamp };
  shares = all_standing shares;
}

-- shares are taken out of a step, its losing part first
abbrev pub less : ℕ → StepRecord → StepRecord
less n x = record { bid = x.bid; shares = record { standing = x.shares.standing - n; losing = x.shares.losing - min n x.shares.losing; rejected = x.shares.rejected } }

-- the activity owed in a round, from the eligibility now, rounded up
abbrev pub owed : Figures → ℕ → ℕ → ℕ
owed f round now = (f.percent round * now + 99) / 100

-- the account of a seat with the weight w standing, at a closing: what it owes and hasn't standing is cut
abbrev pub lapsed : ℕ → ℕ → Account → Account
lapsed owing w a = record { bought = a.bought; eligible = a.eligible - (owing - w) }

-- each account, the first of which is seat k's
abbrev pub lapses : State → ℕ → List Account → List Account
lapses s k [] = []
lapses s k (a ∷ rest) = lapsed (owed s.figures s.round a.eligible) (standing_weight s k) a ∷ lapses s (suc k) rest

-- the steps after a closing: losing shares rejected, then the lots handed out down the rank
abbrev pub settled_steps : State → List StepRecord
settled_steps s = settled s.lots (map rejects s.steps)

-- a closing ends the sale: past the opening rounds, and no raise in the round
abbrev pub ends : State → Bool
ends s = nat_lt s.figures.openings s.round && not s.raised

-- the accounts of the seats of a first sale, the first of which is seat k's
abbrev pub carried : State → ℕ → List Account → List Account
carried first k [] = []
carried first k (a ∷ rest) =
    let left = a.bought - first.figures.weight 1 * of_seat k won first.steps in
    record { bought = left; eligible = left } ∷ carried first (suc k) rest

-- what each accepted call leaves
abbrev pub done : State → Call → State
done s (start deposits) = record {
  figures = s.figures;
  size = s.size;
  steps = s.steps;
  lots = 100;
  round = s.round;
  opened = s.opened;
  ended = false;
  increments = s.increments;
  clearing = s.clearing;
  raised = s.raised;
  last_stamp = s.last_stamp;
  accounts = map dollars deposits;
}
done s (changeover first) = record {
  figures = s.figures;
  size = s.size;
  steps = s.steps;
  lots = first.lots - won_in first;
  round = s.round;
  opened = s.opened;
  ended = false;
  increments = s.increments;
  clearing = s.clearing;
  raised = s.raised;
  last_stamp = s.last_stamp;
  accounts = carried first 1 first.accounts;
}
done s (opening row) = record {
  figures = s.figures;
  size = s.size;
  steps = s.steps;
  lots = s.lots;
  round = next_round s;
  opened = true;
  ended = s.ended;
  increments = padded row;
  clearing = s.clearing;
  raised = false;
  last_stamp = s.last_stamp;
  accounts = s.accounts;
}
done s (enter seat market shares discount stamp) = record {
  figures = s.figures;
  size = s.size;
  steps = s.steps ++ (new_step s seat market shares discount stamp ∷ []);
  lots = s.lots;
  round = s.round;
  opened = s.opened;
  ended = s.ended;
  increments = s.increments;
  clearing = s.clearing;
  raised = s.raised;
  last_stamp = stamp;
  accounts = s.accounts;
}
done s (raise seat number shares discount stamp) =
    let x = step_at s number in
    record {
      figures = s.figures;
      size = s.size;
      steps = slice_set s.steps (number - 1) (less shares x) ++ (new_step s x.bid.seat x.bid.market shares discount stamp ∷ []);
      lots = s.lots;
      round = s.round;
      opened = s.opened;
      ended = s.ended;
      increments = s.increments;
      clearing = s.clearing;
      raised = true;
      last_stamp = stamp;
      accounts = s.accounts;
    }
done s close = record {
  figures = s.figures;
  size = s.size;
  steps = settled_steps s;
  lots = s.lots;
  round = s.round;
  opened = false;
  ended = ends s;
  increments = s.increments;
  clearing = listed (λ m. least m (settled_steps s)) 1 7;
  raised = s.raised;
  last_stamp = s.last_stamp;
  accounts = lapses s 1 s.accounts;
}

-- what each accepted call answers
abbrev pub answer : State → Call → Answer
answer s (start deposits) = Told 100
answer s (changeover first) = Told (first.lots - won_in first)
answer s (opening row) = Told (next_round s)
answer s (enter seat market shares discount stamp) = Told (suc (length s.steps))
answer s (raise seat number shares discount stamp) = Told (suc (length s.steps))
answer s close = Closed (total (λ x. x.shares.losing) s.steps) (ends s)

abbrev pub by_verdict : {X : Type 0} → Verdict → X → (SaleFault → X) → X
by_verdict passed x y = x
by_verdict (failed n) x y = y n

-- the reply to a call, and the state after it: a refused call leaves the state as it was
abbrev pub reply : State → Call → Result Answer SaleFault
reply s c = by_verdict (verdict s c) (Ok (answer s c)) Err

abbrev pub after : State → Call → State
after s c = by_verdict (verdict s c) (done s c) (λ _. s)

-- the state after a list of calls
abbrev pub run : State → List Call → State
run s [] = s
run s (c ∷ cs) = run (after s c) cs
