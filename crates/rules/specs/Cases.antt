-- Worked cases of the rules, and three misreadings that they shut out.
use Rattle.std.specs.Prelude.{◌≡◌, ℕ, Bool, true, false, List, [], ◌∷◌, map, Some, Err}
use Rattle.sheets.specs.Phases.{full_term, single_year}
use Rattle.steps.specs.declared.record.StepRecord.{StepRecord}
use Rattle.steps.specs.Rule.{all_standing}
use Rattle.rules.specs.declared.account.Account.{Account}
use Rattle.rules.specs.declared.fault.SaleFault.TheVariants.{DepositSize}
use Rattle.rules.specs.Books.{won, settled, least}
use Rattle.rules.specs.Sales.{State, fresh, start, opening, reply, done, dollars, low_raise, less, owed, lapsed, lapses, ends, carried}
use Rattle.rules.specs.Bonds.{bond}

-- a step of market 1 as it was entered
abbrev pub entered_at : ℕ → ℕ → ℕ → ℕ → StepRecord
entered_at number discount stamp shares = record {
  bid = record { number = number; seat = 1; market = 1; discount = discount; stamp = stamp };
  shares = all_standing shares;
}

-- nine steps of one market, in rank: the fifth and the sixth tie in discount, and so do the last two; of each pair the earlier stamp has the higher number
abbrev pub nine_steps : List StepRecord
nine_steps =
    entered_at 1 500 34_542 20 ∷ entered_at 2 480 216_865 15 ∷ entered_at 3 470 42_705 25
    ∷ entered_at 4 430 138_112 20 ∷ entered_at 6 400 295_367 30 ∷ entered_at 5 400 306_765 40
    ∷ entered_at 7 350 308_840 15 ∷ entered_at 9 320 306_846 20 ∷ entered_at 8 320 308_202 15 ∷ []

-- the eligibility after a closing in the first round of single years, with so much standing
abbrev pub left_of : ℕ → ℕ → ℕ → ℕ
left_of bought now standing = (lapsed (owed single_year 1 now) standing (record { bought = bought; eligible = now })).eligible

-- an ended sale of the full term in which nobody won and activity has cut a seat's eligibility
abbrev pub cut_sale : State
cut_sale = fresh full_term 8 []

abbrev pub cut_account : Account
cut_account = record { bought = 10_000; eligible = 100 }

-- the first round of a sale of single years, and a seat whose eligibility was cut before
abbrev pub first_round : State
first_round = done (fresh single_year 8 []) (opening (0 ∷ 0 ∷ 0 ∷ 0 ∷ 0 ∷ 0 ∷ 0 ∷ []))

abbrev pub half_account : Account
half_account = record { bought = 10_000; eligible = 5_000 }

-- a sale of the full term, which has one opening round, in the round n
abbrev pub at_round : ℕ → Bool → State
at_round n raised = record {
  figures = full_term;
  size = 8;
  steps = [];
  lots = 100;
  round = n;
  opened = true;
  ended = false;
  increments = [];
  clearing = [];
  raised = raised;
  last_stamp = 0;
  accounts = [];
}

pub record WorkedCases : Type 0 where
  -- deposits of 499, 500 and 20,000,000 dollars buy 0, 1 and 40,000; one dollar more is refused
  pub deposits_buy : map (λ d. (dollars d).bought) (499 ∷ 500 ∷ 20_000_000 ∷ []) ≡ (0 ∷ 1 ∷ 40_000 ∷ [])
  pub deposit_refused : reply cut_sale (start (20_000_001 ∷ [])) ≡ Err (DepositSize 1)
  -- at 25 percent: 10,000 with 2,000 standing, 10,000 with 2,500, and 9,501 with 2,375, where rounding up counts
  pub activity_cuts : left_of 10_000 10_000 2_000 ≡ 9_500
  pub activity_met : left_of 10_000 10_000 2_500 ≡ 10_000
  pub activity_rounds_up : left_of 9_501 9_501 2_375 ≡ 9_500
  -- 100 lots down the rank of the nine steps, and their clearing discount
  pub nine_win : map won (settled 100 nine_steps) ≡ (20 ∷ 15 ∷ 25 ∷ 20 ∷ 20 ∷ 0 ∷ 0 ∷ 0 ∷ 0 ∷ [])
  pub nine_clear : least 1 (settled 100 nine_steps) ≡ Some 400
  -- clearing discount 400 and increment 50: a step at 400 may be raised to 450 and not to 449, one at 500 to 501 and not to 500
  pub below_increment : low_raise (Some 400) 50 400 449 ≡ true
  pub at_increment : low_raise (Some 400) 50 400 450 ≡ false
  pub not_above_own : low_raise (Some 400) 50 500 500 ≡ true
  pub above_own : low_raise (Some 400) 50 500 501 ≡ false
  -- the bond of 20 full-term shares, in year 1 and in year 3
  pub first_bond : bond (λ _. 20) 1 ≡ 40_000_000
  pub third_bond : bond (λ _. 20) 3 ≡ 21_400_000
  -- not so: activity owed from what was bought; a second sale from the cut eligibility; a remainder with another stamp
  pub owed_from_now : map (λ (a : Account). a.eligible) (lapses first_round 1 (half_account ∷ [])) ≡ (3_750 ∷ [])
  pub carried_from_bought : map (λ (a : Account). a.eligible) (carried cut_sale 1 (cut_account ∷ [])) ≡ (10_000 ∷ [])
  pub remainder_kept : (n : ℕ) (x : StepRecord) → (less n x).bid ≡ x.bid
  -- a raise takes the losing part first: of 30 standing shares, 10 of them losing, 15 are raised
  pub losing_first : (less 15 (record { bid = (entered_at 1 400 7 30).bid; shares = record { standing = 30; losing = 10; rejected = 0 } })).shares.losing ≡ 0
  -- a closing ends a sale past its opening rounds, unless there was a raise
  pub opening_goes_on : ends (at_round 1 false) ≡ false
  pub quiet_round_ends : ends (at_round 2 false) ≡ true
  pub raised_goes_on : ends (at_round 2 true) ≡ false
