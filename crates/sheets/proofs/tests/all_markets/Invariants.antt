use Rattle.std.proofs.Common.{◌*◌, ◌-◌, ◌≤◌}
use Rattle.sheets.proofs.tests.all_markets.Given as goal

abbrev pub invariant-loop-market : goal.invariant-loop-market
invariant-loop-market g l = (1 ≤ l.market) × (l.sum ≤ 400 * (l.market - 1))
