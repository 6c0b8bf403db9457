use Rattle.std.proofs.Common.{ap, ◌∙◌}
use Rattle.books.specs.Replies.{entered}
use Rattle.books.proofs.After.{put_accepted}
use Rattle.sale_parts.specs.State.{state_of}
use Rattle.orders.proofs.Raised.{still_held, still_at, moved, raise_obeyed}
use Rattle.orders.proofs.raise.move_shares.Goals as goal

pub take_out-requires : goal.take_out-requires
take_out-requires g c =
    let a = c.args in
    let xs = g.B.StepBook.steps a.sale.now.book in
    let size = (g.B.StepBook.frame a.sale.now.book).size in
    let ys = g.B.StepBook.steps c.put.new.self in
    let new = entered xs (record { seat = a.raise.seat; market = a.step.bid.market; shares = a.raise.shares; discount = a.raise.discount; stamp = a.raise.stamp }) in
    let reply = c.in_ok-entered.ensures.reply in
    record {
      step = still_at size xs ys a.raise.step c.in_ok-entered.entered a.step new c.requires.step c.requires.held reply c.put.ensures.after;
      held = still_held size xs ys a.raise.step c.in_ok-entered.entered a.step new c.requires.step c.requires.held reply c.put.ensures.after;
      enough = c.requires.enough;
    }

pub returns : goal.returns
returns g c =
    let a = c.args in
    let s = state_of g.S.PhaseSheet g.B.StepBook a.sale.now in
    let ys = g.B.StepBook.steps c.put.new.self in
    let new = entered s.steps (record { seat = a.raise.seat; market = a.step.bid.market; shares = a.raise.shares; discount = a.raise.discount; stamp = a.raise.stamp }) in
    let reply = c.in_ok-entered.ensures.reply in
    let k = put_accepted s.size s.steps new c.in_ok-entered.entered reply in
    let steps = moved s.size s.steps ys a.raise.step c.in_ok-entered.entered a.step new c.requires.step c.requires.held reply c.put.ensures.after a.raise.shares _ c.take_out.ensures.steps in
    raise_obeyed s a.raise c.in_ok-entered.entered _ a.step _ c.requires.tested k.1 k.2 c.requires.step c.requires.own steps
    (ap (λ f. f.size) (c.take_out.ensures.frame ∙ c.put.ensures.frame))
