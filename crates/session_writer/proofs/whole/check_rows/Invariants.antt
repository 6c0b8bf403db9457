use Rattle.std.proofs.Common.{◌≡◌, ℕ, ◌+◌, ◌<◌, map, get_or, drop}
use Rattle.records.specs.Event.{value_of, close}
use Rattle.session_writer.specs.Writing.{rows_fit}
use Rattle.session_writer.specs.RoundTrip.{Kept}
use Rattle.session_writer.proofs.whole.check_rows.Given as goal

-- the events that are left decide, and those before can be kept
abbrev pub invariant-loop-i : goal.invariant-loop-i
invariant-loop-i l = (rows_fit (l.i + 1) (drop l.i (map value_of l.events)) ≡ rows_fit 1 (map value_of l.events)) × ((k : ℕ) → k < l.i → Kept (get_or (map value_of l.events) k close))
