use Rattle.std.proofs.Common.{rules, arith}
use borrow.Author.Tests.{tests}
use Rattle.std.proofs.lemmas.Result.{err_from_is_err_and}
use Rattle.session_texts.proofs.Lines.{line_taken, heard_more, told_stopped}
use Rattle.session_texts.proofs.hear.hear_text.Goals as goal

pub loop-at-preserved : goal.loop-at-preserved
loop-at-preserved c =
    let step = c.in-Some.ensures.steps in
    let cut = line_taken _ c.loop-at.at-iterator.iter c.next.new.self.iter c.in-Some.line step.0 (λ a r q k. (search (rules, tests), search (rules, tests))) in
    record { goes_on = search rules; ends = search rules; told = heard_more _ _ _ _ _ _ _ cut c.loop-at.invariant.told _ (omega arith) c.in_ok-hear.ensures }

pub returns-in_err-hear : goal.returns-in_err-hear
returns-in_err-hear c =
    let step = c.in-Some.ensures.steps in
    let cut = line_taken _ c.loop-at.at-iterator.iter c.next.new.self.iter c.in-Some.line step.0 (λ a r q k. (search (rules, tests), search (rules, tests))) in
    let p = err_from_is_err_and c.from_residual.result c.from_residual.ensures.1 in
    rw (p.1, p.2) (told_stopped c.args.text.now _ _ _ _ _ _ _ _ cut c.loop-at.invariant.told (omega arith) c.in_err-hear.ensures)
