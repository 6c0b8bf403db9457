use Rattle.std.proofs.Common.{List, sym, subst}
use Rattle.steps.specs.declared.record.StepRecord.{StepRecord}
use Rattle.books.specs.Replies.{NextReply}
use Rattle.books.proofs.After.{next_one}
use Rattle.book_tests.proofs.callers.next_in_both.Goals as goal

pub returns : goal.returns
returns g c =
    let a = c.args in
    next_one (g.B.StepBook.steps a.one.now) a.market a.number c.next.result c.next-2.result c.next.ensures
    (subst (λ (steps : List StepRecord). NextReply steps a.market a.number c.next-2.result) (sym c.requires) c.next-2.ensures)
