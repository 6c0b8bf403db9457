use Rattle.std.proofs.Common.{length, take, ap, ◌∙◌, arith, length-take}
use Rattle.std.proofs.lemmas.List.{take_all}
use Rattle.rules.specs.Parts.{replies}
use Rattle.rules.specs.Sales.{run}
use Rattle.rules.proofs.Runs.{stays_fair}
use Rattle.sales.specs.State.{state_of}
use Rattle.runs.specs.Calls.{call_of, calls_of}
use Rattle.runs.proofs.Runs.{reply_for_each, one_reply_more, one_call_more}
use Rattle.runs.proofs.run.run_into.Goals as goal

pub push_reserved-requires : goal.push_reserved-requires
push_reserved-requires g c =
    let s = state_of g.S.PhaseSheet g.B.StepBook c.args.sale.now in
    let i = c.loop-call.call-index in
    let f = call_of g.T.PhaseSheet g.C.StepBook in
    omega (arith, c.loop-call.told.ok.0, ap length c.loop-call.invariant.0, reply_for_each f s (take i c.args.calls.now), length-take i c.args.calls.now, c.loop-call.invariant.2, c.loop-call-test.true)

pub loop-call-preserved : goal.loop-call-preserved
loop-call-preserved g c =
    let s = state_of g.S.PhaseSheet g.B.StepBook c.args.sale.now in
    let f = call_of g.T.PhaseSheet g.C.StepBook in
    let xs = c.args.calls.now in
    let i = c.loop-call.call-index in
    let x = c.call-item.result in
    let o = c.perform-reply.ensures.obeys in (
      one_reply_more f xs i x c.loop-call-test.true c.call-item.is s _ _ _ c.loop-call.invariant.1 o _ _ c.loop-call.invariant.0 c.push_reserved.ensures.items,
      one_call_more f xs i x c.loop-call-test.true c.call-item.is s _ _ _ c.loop-call.invariant.1 o,
      omega (arith, c.push_reserved.ensures.capacity, c.loop-call.invariant.2),
    )

pub returns : goal.returns
returns g c =
    let s = state_of g.S.PhaseSheet g.B.StepBook c.args.sale.now in
    let all = ap (calls_of g.T.PhaseSheet g.C.StepBook) (take_all c.loop-call.call-index c.args.calls.now c.loop-call-test.false) in
    let left = c.loop-call.invariant.1 ∙ ap (run s) all in
    record {
      replied = c.loop-call.invariant.0 ∙ ap (replies s) all;
      left = left;
      fair = stays_fair s _ (calls_of g.T.PhaseSheet g.C.StepBook c.args.calls.now) (g.met.S.PhaseSheet.lawful c.args.sale.now.parts.sheet) left;
    }
