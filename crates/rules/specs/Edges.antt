-- Each limit of a sale at its edge, and which refusal comes first where several apply.
use Rattle.std.specs.Prelude.{◌≡◌, ℕ, List, [], ◌∷◌, map, replicate}
use Rattle.sheets.specs.Phases.{full_term, single_year}
use Rattle.steps.specs.declared.fault.BookFault.TheVariants.{Full, NoStep}
use Rattle.rules.specs.declared.fault.SaleFault.TheVariants.{Book, SeatCount, DepositSize, Taken, SaleEnded, RoundOpen, RowLength, IncrementSize, RoundShut, NoSeat, NoMarket, ShareCount, DiscountSize, StampBehind, EntryOver, NotEligible, OtherSeat, RaiseShares, NoClearing, LowRaise, FirstGoing, FirstMarkets, NothingLeft}
use Rattle.rules.specs.Sales.{State, fresh, increment, Verdict, passed, failed, Call, start, changeover, opening, enter, raise, close, verdict, run}

-- a row of n increments
abbrev pub row : ℕ → ℕ → List ℕ
row n increment = replicate n increment

-- new sales with room for three steps
abbrev pub new_years : State
new_years = fresh single_year 3 []

abbrev pub new_term : State
new_term = fresh full_term 3 []

-- single years, not opened yet; seat 1 may have any step, seat 2 one share of year 1
abbrev pub two_seats : Call
two_seats = start (20_000_000 ∷ 50_000 ∷ [])

abbrev pub shut_years : State
shut_years = run new_years (two_seats ∷ [])

-- round 1 of single years, with a step of seat 1 at the stamp 5
abbrev pub open_years : State
open_years = run shut_years (opening (row 7 0) ∷ enter 1 7 100 10_000 5 ∷ [])

-- the same with all three places of the book taken
abbrev pub full_years : State
full_years = run open_years (enter 1 1 1 0 5 ∷ enter 1 1 1 0 5 ∷ [])

-- the full term, with 60 shares of seat 1 at 400, 60 of seat 2 at 300, 20 of which lose, in round 2; clearing discount 300, increment 100
abbrev pub round_two : State
round_two = run new_term (start (12_000_000 ∷ 12_000_000 ∷ []) ∷ opening (100 ∷ []) ∷ enter 1 1 60 400 5 ∷ enter 2 1 60 300 6 ∷ close ∷ opening (100 ∷ []) ∷ [])

-- the same with the third place taken by a raise of 30 shares of step 2, 20 losing and 10 winning; and at its end, where nobody raises any more
abbrev pub raised_term : State
raised_term = run round_two (raise 2 2 30 400 7 ∷ [])

abbrev pub sold_term : State
sold_term = run raised_term (close ∷ opening (100 ∷ []) ∷ close ∷ [])

-- an ended full term in which seat 1 has 60 shares, and 40 are unsold
abbrev pub part_sold : State
part_sold = run new_term (start (12_000_000 ∷ []) ∷ opening (0 ∷ []) ∷ enter 1 1 60 400 5 ∷ close ∷ opening (0 ∷ []) ∷ close ∷ [])

-- four rounds of single years without an order
abbrev pub four_rounds : List Call
four_rounds = opening (row 7 0) ∷ close ∷ opening (row 7 0) ∷ close ∷ opening (row 7 0) ∷ close ∷ opening (row 7 0) ∷ close ∷ []

-- an ended sale of single years in which nobody bid, and one in which as many shares were won as were on offer in a market
abbrev pub ended_years : State
ended_years = run shut_years (opening (row 7 0) ∷ close ∷ four_rounds)

abbrev pub sold_years : State
sold_years = run open_years (close ∷ four_rounds)

-- what each of the calls would be told of the state
abbrev pub told : State → List Call → List Verdict
told s calls = map (verdict s) calls

pub record EdgesHold : Type 0 where
  -- 1 to 24 deposits, each at most 20,000,000; the number comes before the size, the lowest seat is named, and a start of a started sale comes last
  pub starts : told new_years (start [] ∷ start (row 24 20_000_000) ∷ start (row 25 20_000_001) ∷ start (20_000_000 ∷ 20_000_001 ∷ 20_000_002 ∷ []) ∷ [])
      ≡ (failed (SeatCount 0) ∷ passed ∷ failed (SeatCount 25) ∷ failed (DepositSize 2) ∷ [])
  pub starts_once : told shut_years (start (20_000_001 ∷ []) ∷ two_seats ∷ []) ≡ (failed (DepositSize 1) ∷ failed Taken ∷ [])
  pub starts_empty_book : told (fresh single_year 3 open_years.steps) (two_seats ∷ []) ≡ (failed Taken ∷ [])
  -- an opening: one increment for each market, at most 1,000, in a sale that goes on and has no round open
  pub opens : told shut_years (opening (row 6 1_001) ∷ opening (row 8 0) ∷ opening (row 7 1_000) ∷ opening (row 7 1_001) ∷ []) ≡ (failed RowLength ∷ failed RowLength ∷ passed ∷ failed IncrementSize ∷ [])
  pub opens_once : told open_years (opening (row 6 0) ∷ []) ≡ (failed RoundOpen ∷ [])
  pub opens_not_ended : told new_years (opening (row 7 0) ∷ opening (row 6 1_001) ∷ []) ≡ (failed SaleEnded ∷ failed SaleEnded ∷ [])
  -- nothing but an opening while no round is open
  pub shut : told shut_years (enter 0 0 0 10_001 0 ∷ raise 0 0 0 10_001 0 ∷ close ∷ []) ≡ (failed RoundShut ∷ failed RoundShut ∷ failed RoundShut ∷ [])
  -- a new step: what is wrong from the first test on, mended one by one
  pub enters : told open_years
      (enter 0 0 0 10_001 4 ∷ enter 3 0 0 10_001 4 ∷ enter 2 0 0 10_001 4 ∷ enter 2 8 0 10_001 4 ∷ enter 2 7 0 10_001 4 ∷ enter 2 7 101 10_001 4 ∷ enter 2 7 100 10_001 4 ∷ enter 2 7 100 10_000 4
      ∷ enter 2 7 100 10_000 5 ∷ enter 2 1 2 0 5 ∷ enter 2 1 1 0 5 ∷ [])
      ≡ (failed NoSeat ∷ failed NoSeat ∷ failed NoMarket ∷ failed NoMarket ∷ failed ShareCount ∷ failed ShareCount ∷ failed DiscountSize ∷ failed StampBehind
      ∷ failed NotEligible ∷ failed NotEligible ∷ passed ∷ [])
  -- its standing shares count, whatever their market, and a full book is told last
  pub enters_standing : told (run open_years (enter 2 7 7 0 5 ∷ [])) (enter 2 1 1 0 5 ∷ enter 2 7 1 0 5 ∷ []) ≡ (failed NotEligible ∷ failed NotEligible ∷ [])
  pub enters_full : told full_years (enter 2 1 2 0 5 ∷ enter 2 1 1 0 5 ∷ []) ≡ (failed NotEligible ∷ failed (Book Full) ∷ [])
  pub enters_early : told round_two (enter 1 1 1 0 5 ∷ enter 1 1 100 0 6 ∷ []) ≡ (failed StampBehind ∷ failed EntryOver ∷ [])
  -- a raise likewise
  pub raises : told round_two
      (raise 0 0 0 10_001 5 ∷ raise 3 0 0 10_001 5 ∷ raise 1 0 0 10_001 5 ∷ raise 1 3 0 10_001 5 ∷ raise 1 2 0 10_001 5 ∷ raise 2 2 0 10_001 5 ∷ raise 2 2 61 10_001 5 ∷ raise 2 2 60 10_001 5 ∷ raise 2 2 60 10_000 5
      ∷ raise 2 2 60 399 5 ∷ raise 2 2 60 399 6 ∷ raise 2 2 60 400 6 ∷ raise 1 1 60 400 6 ∷ raise 1 1 60 401 6 ∷ [])
      ≡ (failed NoSeat ∷ failed NoSeat ∷ failed (Book NoStep) ∷ failed (Book NoStep) ∷ failed OtherSeat ∷ failed RaiseShares ∷ failed RaiseShares ∷ failed DiscountSize ∷ failed StampBehind
      ∷ failed StampBehind ∷ failed LowRaise ∷ passed ∷ failed LowRaise ∷ passed ∷ [])
  pub raises_cleared : told open_years (raise 1 1 1 10_000 4 ∷ raise 1 1 1 10_000 5 ∷ []) ≡ (failed StampBehind ∷ failed NoClearing ∷ [])
  pub raises_full : told raised_term (raise 2 2 31 400 7 ∷ raise 2 2 30 399 7 ∷ raise 2 2 30 400 7 ∷ []) ≡ (failed RaiseShares ∷ failed LowRaise ∷ failed (Book Full) ∷ [])
  pub raises_in_time : told raised_term (raise 2 2 1 400 6 ∷ []) ≡ (failed StampBehind ∷ [])
  -- a changeover: from an ended sale of one market that left something, into a new one
  pub changes : told new_years (changeover round_two ∷ changeover shut_years ∷ changeover ended_years ∷ changeover sold_years ∷ changeover sold_term ∷ changeover part_sold ∷ [])
      ≡ (failed FirstGoing ∷ failed FirstGoing ∷ failed FirstMarkets ∷ failed FirstMarkets ∷ failed NothingLeft ∷ passed ∷ [])
  pub changes_once : told shut_years (changeover ended_years ∷ changeover sold_term ∷ changeover part_sold ∷ []) ≡ (failed FirstMarkets ∷ failed NothingLeft ∷ failed Taken ∷ [])
  -- a new sale's increments are 0; an increment of 0 stands for 50, and only the sale's markets have one
  pub no_increment : map (increment new_years) (1 ∷ 7 ∷ []) ≡ (0 ∷ 0 ∷ [])
  pub default_increment : map (increment (run new_term (start (500 ∷ []) ∷ opening (0 ∷ []) ∷ []))) (1 ∷ 2 ∷ []) ≡ (50 ∷ 0 ∷ [])
