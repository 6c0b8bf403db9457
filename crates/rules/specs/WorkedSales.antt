-- Sales call by call: a whole one of two bidders, and a procurement whose second sale is followed to its first closing; and what a raise leaves of a step.
use Rattle.std.specs.Prelude.{◌≡◌, true, false, List, [], ◌∷◌, map, replicate, Ok, Err}
use Rattle.sheets.specs.Phases.{full_term, single_year}
use Rattle.rules.specs.declared.account.Account.{Account}
use Rattle.rules.specs.declared.fault.SaleFault.TheVariants.{LowRaise}
use Rattle.rules.specs.declared.answer.Answer.TheVariants.{Told, Closed}
use Rattle.rules.specs.Books.{won}
use Rattle.rules.specs.Sales.{State, fresh, less, Call, start, changeover, opening, enter, raise, close, reply, after, run}
use Rattle.rules.specs.Parts.{replies}
use Rattle.rules.specs.Tallies.{blank, tally, gets}
use Rattle.rules.specs.Fair.{Real, Shared}
use Rattle.rules.specs.Cases.{entered_at}

-- a sale of two bidders: seat 2 is outbid, asks too little once, raises 10 of its losing shares, and nobody raises in round 3
abbrev pub two_bidders : List Call
two_bidders =
    start (14_000_000 ∷ 12_000_000 ∷ []) ∷ opening (100 ∷ []) ∷ enter 1 1 70 300 10 ∷ enter 2 1 60 200 11 ∷ close
    ∷ opening (100 ∷ []) ∷ raise 2 2 30 250 20 ∷ raise 2 2 10 300 21 ∷ close
    ∷ opening (100 ∷ []) ∷ close ∷ []

abbrev pub new_term : State
new_term = fresh full_term 512 []

-- a procurement of two sales: the first leaves 30 shares unsold, and the second offers them year by year
abbrev pub first_calls : List Call
first_calls =
    start (14_000_000 ∷ 12_000_000 ∷ []) ∷ opening (100 ∷ []) ∷ enter 1 1 40 300 10 ∷ enter 2 1 30 200 11 ∷ close ∷ opening (100 ∷ []) ∷ close ∷ []

abbrev pub first_sale : State
first_sale = run new_term first_calls

abbrev pub second_start : State
second_start = after (run (fresh single_year 512 []) []) (changeover first_sale)

abbrev pub second_calls : List Call
second_calls = opening (replicate 7 0) ∷ enter 1 1 30 500 20 ∷ enter 2 1 20 600 21 ∷ enter 2 7 30 600 22 ∷ []

abbrev pub second_sale : State
second_sale = run second_start second_calls

pub record WorkedSales : Type 0 where
  -- the sale of two bidders: every reply, and who wins in the end, as the tally has it too
  pub two_bidders_told : replies new_term two_bidders
      ≡ (Ok (Told 100) ∷ Ok (Told 1) ∷ Ok (Told 1) ∷ Ok (Told 2) ∷ Ok (Closed 0 false) ∷ Ok (Told 2) ∷ Err LowRaise ∷ Ok (Told 3) ∷ Ok (Closed 20 false) ∷ Ok (Told 3) ∷ Ok (Closed 10 true) ∷ [])
  pub two_bidders_win : map won (run new_term two_bidders).steps ≡ (70 ∷ 20 ∷ 10 ∷ [])
  pub two_bidders_tallied : map (gets (tally new_term blank two_bidders)) (tally new_term blank two_bidders).entries ≡ (70 ∷ 20 ∷ 10 ∷ [])
  -- two sales: the first is one that its calls made, so the promise over both holds of the second with nothing left to assume
  pub first_made : Real 1 first_sale
  pub first_wins : map won first_sale.steps ≡ (40 ∷ 30 ∷ [])
  pub both_carry : map (λ (a : Account). a.bought) second_start.accounts ≡ (12_000 ∷ 12_000 ∷ [])
  pub second_told : reply second_sale close ≡ Ok (Closed 0 false)
  pub second_wins : map won (after second_sale close).steps ≡ (10 ∷ 20 ∷ 30 ∷ [])
  pub second_shares : Shared first_sale (after second_sale close)
  -- of a step with 30 shares standing, 10 of them losing, a raise of 15 leaves 15 standing
  pub raised_stands : (less 15 (record { bid = (entered_at 1 400 7 30).bid; shares = record { standing = 30; losing = 10; rejected = 0 } })).shares.standing ≡ 15
