-- The accounts that a table holds.
use Rattle.std.specs.Prelude.{List, map, take}
use Rattle.rules.specs.declared.account.Account.{Account}
use Rattle.accounts.specs.declared.account.SeatAccount.{SeatAccount}
use Rattle.accounts.specs.declared.seats.Seats.{Seats}

-- the plain account of a row
abbrev pub plain_of : SeatAccount → Account
plain_of row = row.account

-- the accounts of the seats that there are, in order
abbrev pub seated : Seats → List Account
seated s = map plain_of (take s.count s.rows)
