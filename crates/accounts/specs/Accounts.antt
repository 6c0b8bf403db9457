-- What opening and cutting an account make of a list of accounts.
use Rattle.std.specs.Prelude.{ℕ, ◌-◌, cond, List, [], ◌∷◌, ◌++◌, length, nat_lt, slice_index_or, slice_set}
use Rattle.rules.specs.declared.account.Account.{Account}
use Rattle.rules.specs.Sales.{nobody, outside}

-- an account of which nothing is used yet
abbrev pub opened_with : ℕ → Account
opened_with bought = record { bought = bought; eligible = bought }

-- a seat more, unless there are 24
abbrev pub with_opened : ℕ → List Account → List Account
with_opened bought accounts = cond (nat_lt (length accounts) 24) (accounts ++ opened_with bought ∷ []) accounts

-- an account whose eligibility is lowered by so much, to nothing at most
abbrev pub cut_by : ℕ → Account → Account
cut_by by a = record { bought = a.bought; eligible = a.eligible - by }

-- the one seat's account is cut, where there is such a seat
abbrev pub with_cut : ℕ → ℕ → List Account → List Account
with_cut seat by accounts = cond (outside seat (length accounts)) accounts (slice_set accounts (seat - 1) (cut_by by (slice_index_or accounts (seat - 1) nobody)))
