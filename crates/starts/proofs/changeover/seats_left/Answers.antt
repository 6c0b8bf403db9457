use Rattle.std.proofs.Common.{◌≡◌, ◌+◌, ◌-◌, ◌≤◌, length, take, ap, ◌∙◌, arith}
use Rattle.std.proofs.lemmas.List.{take_all}
use Rattle.accounts.specs.Seated.{seated}
use Rattle.rules.specs.Sales.{carried}
use Rattle.rules.proofs.Weights.{length_carried}
use Rattle.starts.proofs.Carried.{carried_next}
use Rattle.sale_parts.specs.State.{state_of}
use Rattle.starts.proofs.changeover.seats_left.Goals as goal

pub loop-seat-preserved : goal.loop-seat-preserved
loop-seat-preserved g c =
    let s = state_of g.S.PhaseSheet g.B.StepBook c.args.sale.now in
    let l = c.loop-seat in
    let count = c.count-seat-end.ensures in
    let next : l.seat ≡ l.seat + 1 - 1 = omega arith in
    carried_next s (seated l.seats) l.seat _ l.auto.seat (omega (arith, count.count)) (omega (arith, count.most)) c.bought_left.ensures l.invariant _ c.open_account.ensures.after
    ∙ ap (λ n. take n (carried s 1 s.accounts)) next

pub returns-2 : goal.returns-2
returns-2 g c =
    let s = state_of g.S.PhaseSheet g.B.StepBook c.args.sale.now in
    let l = c.loop-seat in
    let count = c.count-seat-end.ensures in
    let past : length s.accounts ≤ l.seat = search (arith, count.count) in
    carried_next s (seated l.seats) l.seat _ l.auto.seat (omega (arith, count.count)) (omega (arith, count.most)) c.bought_left.ensures l.invariant _ c.open_account.ensures.after
    ∙ take_all l.seat (carried s 1 s.accounts) (omega (arith, length_carried s 1 s.accounts, past))
