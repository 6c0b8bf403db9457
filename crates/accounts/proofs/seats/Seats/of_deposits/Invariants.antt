use Rattle.std.proofs.Common.{◌≡◌, map, take}
use Rattle.rules.specs.Sales.{dollars}
use Rattle.accounts.specs.Seated.{seated}
use Rattle.accounts.proofs.seats.Seats.of_deposits.Given as goal

-- the deposits read so far have bought their accounts
abbrev pub invariant-loop-dollars : goal.invariant-loop-dollars
invariant-loop-dollars l = seated l.seats ≡ map dollars (take l.dollars-index l.fn.deposits)
