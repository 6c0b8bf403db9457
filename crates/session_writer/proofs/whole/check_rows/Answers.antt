use Rattle.std.proofs.Common.{map, arith}
use Rattle.std.proofs.lemmas.List.{get_or-map, length-map}
use Rattle.std.proofs.lemmas.Result.{err_from_is_err_and}
use Rattle.records.specs.Event.{value_of, close}
use Rattle.session_writer.proofs.Wholes.{rows_stop, rows_pass}
use Rattle.session_writer.proofs.whole.check_rows.Goals as goal

pub returns-in_err-event_bytes-clause-value : goal.returns-in_err-event_bytes-clause-value
returns-in_err-event_bytes-clause-value c =
    let vs = map value_of c.args.events.now in
    let n = length-map c.args.events.now value_of in
    let p = err_from_is_err_and c.from_residual.result c.from_residual.ensures.1 in
    rw (p.1, p.2) (rows_stop vs c.loop-i.i (omega arith) _ (get_or-map value_of _ _ _ close c.loop-i-test.true) _ c.in_err-event_bytes.ensures c.loop-i.invariant.0)

pub loop-i-preserved : goal.loop-i-preserved
loop-i-preserved c =
    let vs = map value_of c.args.events.now in
    let n = length-map c.args.events.now value_of in
    rows_pass vs c.loop-i.i (omega arith) _ (get_or-map value_of _ _ _ close c.loop-i-test.true) c.in_ok-event_bytes.ensures.1 c.loop-i.invariant

pub returns-clause-kept : goal.returns-clause-kept
returns-clause-kept c = let n = length-map c.args.events.now value_of in λ k h. c.loop-i.invariant.1 k (omega arith)
