use Rattle.std.proofs.Common.{◌≡◌, ℕ, Ok, ◌++◌, Option, filter, refl, subst, ◌∙◌}
use Rattle.std.proofs.lemmas.List.{append-nil}
use Rattle.books.specs.Replies.{NextReply}
use Rattle.winners.specs.Winning.{is_winning, stepped}
use Rattle.winners.proofs.Gathered.{gathered_none, rank_falls, room_left, gathered_more, gathered_all}
use Rattle.winners.proofs.winning.gather.Goals as goal

pub loop-number-init : goal.loop-number-init
loop-number-init g c = gathered_none _ _ _ _ _ c.requires

pub add_next-requires-clause-room : goal.add_next-requires-clause-room
add_next-requires-clause-room g c = λ next reply. room_left _ _ _ _ _ _ _ c.loop-number.invariant (g.B.StepBook.lawful c.args.book.now).sound next reply

pub loop-number-smaller : goal.loop-number-smaller
loop-number-smaller g c =
    let next = subst (λ (r : Option ℕ). NextReply (g.B.StepBook.steps c.args.book.now) c.args.market c.loop-number.at (Ok r)) c.in-Some.is c.add_next.ensures.next in
    rank_falls _ _ _ _ _ _ _ c.loop-number.invariant (g.B.StepBook.lawful c.args.book.now).sound _ next

pub loop-number-preserved : goal.loop-number-preserved
loop-number-preserved g c =
    let xs = g.B.StepBook.steps c.args.book.now in
    let e = c.add_next.ensures in
    let next = subst (λ (r : Option ℕ). NextReply xs c.args.market c.loop-number.at (Ok r)) c.in-Some.is e.next in
    let items = subst (λ (r : Option ℕ). c.add_next.new.found.items ≡ c.loop-number.found.items ++ filter is_winning (stepped xs r)) c.in-Some.is e.items in
    gathered_more _ _ _ _ _ _ _ c.loop-number.invariant (g.B.StepBook.lawful c.args.book.now).sound _ next _ _ _ _ refl items e.len e.capacity

pub returns : goal.returns
returns g c =
    let e = c.in_default.ensures in
    e.items ∙ append-nil _ ∙ gathered_all _ _ _ _ _ _ _ c.loop-number.invariant (g.B.StepBook.lawful c.args.book.now).sound e.next
