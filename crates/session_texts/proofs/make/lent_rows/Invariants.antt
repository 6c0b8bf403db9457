use Rattle.std.proofs.Common.{◌≡◌, true, map, take, vec_items}
use Rattle.std.specs.List.{AllByRecursion}
use Rattle.records.specs.Event.{value_of, row_fits}
use Rattle.lines.specs.Record.{own_value}
use Rattle.session_texts.proofs.make.lent_rows.Given as goal

-- those before this one are there, each with a row that fits
abbrev pub invariant-loop-event : goal.invariant-loop-event
invariant-loop-event l =
    record {
      done : map value_of (vec_items l.all) ≡ map own_value (take l.event-index l.events);
      rows : AllByRecursion (λ e. row_fits (value_of e) ≡ true) (vec_items l.all);
    }
