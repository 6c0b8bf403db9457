use Rattle.std.proofs.Common.{None, refl, ◌∙◌, arith, length-set}
use Rattle.rules.specs.Books.{settled, least}
use Rattle.closing.proofs.Markets.{upto_none, upto_more, upto_clearing, upto_all, filled_more, filled_all}
use Rattle.closing.proofs.award.hand_out.Goals as goal

pub loop-place-init : goal.loop-place-init
loop-place-init g c = (refl, upto_none _ _ (g.B.StepBook.lawful c.args.book.now).sound, refl, λ i l. absurd (omega arith))

pub loop-place-preserved : goal.loop-place-preserved
loop-place-preserved g c =
    let inv = c.loop-place.invariant in
    let e = c.hand_out_market.ensures in
    let next = c.market_at.ensures in
    let xs = g.B.StepBook.steps c.args.book.now in (
      e.frame ∙ inv.0,
      upto_more c.args.lots xs _ _ _ _ next inv.1 e.steps,
      simp length-set inv.2,
      filled_more (λ m. least m (settled c.args.lots xs)) None _ _ _ _ next (omega (arith, inv.2)) inv.3 (e.clearing ∙ upto_clearing c.args.lots xs _ _ _ inv.1),
    )

pub returns : goal.returns
returns g c =
    let inv = c.loop-place.invariant in
    let xs = g.B.StepBook.steps c.args.book.now in
    record {
      frame = inv.0;
      steps = upto_all c.args.lots xs (g.B.StepBook.lawful c.args.book.now).sound c.loop-place.place (g.B.StepBook.steps c.loop-place.book) (omega arith) inv.1;
      clearing = filled_all (λ m. least m (settled c.args.lots xs)) None c.loop-place.place 7 c.loop-place.least-items inv.2 (omega arith) inv.3;
    }
