use Rattle.std.proofs.Common.{◌≡◌, ◌+◌, ◌-◌, ◌≤◌, length, ap, ◌∙◌, arith}
use Rattle.std.proofs.lemmas.List.{take_all}
use Rattle.rules.specs.Lists.{total}
use Rattle.sums.proofs.Sums.{first_part, sum_more, most_more, most_all, none_missing}
use Rattle.sums.proofs.measure.sum_over.Goals as goal
use Rattle.sums.proofs.measure.sum_over.Goals.{in-Ok, in_default}

pub loop-number-preserved : goal.loop-number-preserved
loop-number-preserved g c =
    let xs = g.B.StepBook.steps c.args.book.now in
    let l = c.loop-number in
    let most : l.number ≤ length xs = omega (arith, first_part (length xs) (g.B.StepBook.frame c.args.book.now).size c.count-count.ensures) in
    let next : l.number + 1 - 1 ≡ l.number = omega arith in
    elim c.match-read.branch [
      | in-Ok w ↦ simp (w.sum-is, next) (
        omega arith,
        sum_more (g.M.Measure.amount c.args.measure.now) xs l.number _ _ _ l.invariant.0 most w.in-Ok.ensures.1 l.invariant.1 w.amount-sum.ensures.value,
        most_more l.number _ _ _ l.invariant.0 l.invariant.2 w.amount-sum.ensures.most,
        omega (arith, w.amount-sum.ensures.small),
      )
      | in_default w ↦ absurd (none_missing xs l.number l.invariant.0 most w.in_default.ensures.0)
    ]

pub returns-after-read-clause-sum : goal.returns-after-read-clause-sum
returns-after-read-clause-sum g c =
    let xs = g.B.StepBook.steps c.args.book.now in
    let l = c.loop-number in
    let count = first_part (length xs) (g.B.StepBook.frame c.args.book.now).size c.count-count.ensures in
    let most : l.number ≤ length xs = omega (arith, count) in
    let past : length xs ≤ l.number = search (arith, count) in
    elim c.match-read.branch [
      | in-Ok w ↦ simp w.sum-is (sum_more (g.M.Measure.amount c.args.measure.now) xs l.number _ _ _ l.invariant.0 most w.in-Ok.ensures.1 l.invariant.1 w.amount-sum.ensures.value ∙ ap (total (g.M.Measure.amount c.args.measure.now)) (take_all l.number xs past))
      | in_default w ↦ absurd (none_missing xs l.number l.invariant.0 most w.in_default.ensures.0)
    ]

pub returns-after-read-clause-most : goal.returns-after-read-clause-most
returns-after-read-clause-most g c =
    let b = c.args.book.now in
    let xs = g.B.StepBook.steps b in
    let law = g.B.StepBook.lawful b in
    let l = c.loop-number in
    let most : l.number ≤ length xs = omega (arith, first_part (length xs) (g.B.StepBook.frame b).size c.count-count.ensures) in
    elim c.match-read.branch [
      | in-Ok w ↦ simp w.sum-is (most_all l.number _ _ (omega (arith, law.small, law.room)) (most_more l.number _ _ _ l.invariant.0 l.invariant.2 w.amount-sum.ensures.most))
      | in_default w ↦ absurd (none_missing xs l.number l.invariant.0 most w.in_default.ensures.0)
    ]
