use Rattle.std.proofs.Common.{◌≡◌, length, None}
use Rattle.rules.specs.Books.{settled, least}
use Rattle.closing.proofs.Markets.{upto, Filled}
use Rattle.closing.proofs.award.hand_out.Given as goal

abbrev pub invariant-loop-place : goal.invariant-loop-place
invariant-loop-place g l =
    let b = g.B.StepBook in
    let xs = b.steps l.initial.book in
    (b.frame l.book ≡ b.frame l.initial.book)
    × (b.steps l.book ≡ upto l.place l.lots xs)
    × (length l.least-items ≡ 7)
    × Filled (λ m. least m (settled l.lots xs)) None l.place l.least-items
