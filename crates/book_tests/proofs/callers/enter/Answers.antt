use Rattle.books.specs.Replies.{entered}
use Rattle.books.proofs.After.{read_back}
use Rattle.book_tests.proofs.callers.enter.Goals as goal

pub returns : goal.returns
returns g c =
    let a = c.args in
    let put = c.in_ok-number.ensures in
    let steps = g.B.StepBook.steps a.book.now in
    record {
      after = put.after;
      reply = read_back (λ _. Unit {0}) (g.B.StepBook.frame a.book.now).size steps (g.B.StepBook.steps c.put.new.self) (entered steps (record { seat = a.seat; market = a.market; shares = 50; discount = 100; stamp = 7 })) c.in_ok-number.number c.read.result put.reply put.after c.read.ensures;
    }
