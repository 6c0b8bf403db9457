use Rattle.std.proofs.Common.{◌≡◌, ◌+◌, ◌-◌, ◌≤◌, length, ap, ◌∙◌, arith}
use Rattle.accounts.specs.Seated.{seated}
use Rattle.rules.specs.Parts.{closed_account}
use Rattle.rounds.proofs.Cut.{first_with, cut_next, all_with}
use Rattle.rounds.proofs.close.cut_seats.Goals as goal

pub loop-seat-preserved : goal.loop-seat-preserved
loop-seat-preserved g c =
    let figures = g.S.PhaseSheet.figures c.args.sheet.now in
    let steps = g.B.StepBook.steps c.args.book.now in
    let l = c.loop-seat in
    let next : l.seat ≡ l.seat + 1 - 1 = omega arith in
    cut_next figures c.args.round steps (seated c.args.seats.now) (seated l.seats) _ l.seat _ l.auto.seat (omega (arith, c.count-seat-end.ensures.count)) l.invariant c.lacking-by.ensures c.cut.ensures
    ∙ ap (λ n. first_with (closed_account figures c.args.round steps) 1 n (seated c.args.seats.now)) next

pub returns : goal.returns
returns g c = c.loop-seat.invariant ∙ all_with _ 1 (c.loop-seat.seat - 1) (seated c.args.seats.now) (omega (arith, c.count-seat-end.ensures.count))

pub returns-2 : goal.returns-2
returns-2 g c =
    let figures = g.S.PhaseSheet.figures c.args.sheet.now in
    let steps = g.B.StepBook.steps c.args.book.now in
    let l = c.loop-seat in
    let past : length (seated c.args.seats.now) ≤ l.seat = search (arith, c.count-seat-end.ensures.count) in
    cut_next figures c.args.round steps (seated c.args.seats.now) (seated l.seats) _ l.seat _ l.auto.seat (omega (arith, c.count-seat-end.ensures.count)) l.invariant c.lacking-by.ensures c.cut.ensures
    ∙ all_with _ 1 l.seat (seated c.args.seats.now) past
