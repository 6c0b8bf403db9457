use Rattle.std.proofs.Common.{refl, ◌∙◌}
use Rattle.closing.proofs.Turn.{walked_none, walked_within, walk_falls, walked_more, walked_steps, walked_clearing}
use Rattle.closing.proofs.award.hand_out_market.Goals as goal

pub loop-number-init : goal.loop-number-init
loop-number-init g c = (refl, walked_none _ _ _)

pub next_of-requires : goal.next_of-requires
next_of-requires g c = walked_within _ _ _ _ _ _ _ c.loop-number.invariant.1

pub loop-number-smaller : goal.loop-number-smaller
loop-number-smaller g c =
    walk_falls _ _ _ _ _ _ _ c.loop-number.invariant.1 (g.B.StepBook.lawful c.args.book.now).sound _ c.in-Some.ensures

pub loop-number-preserved : goal.loop-number-preserved
loop-number-preserved g c =
    let inv = c.loop-number.invariant in
    let e = c.award_step-walk.ensures in (
      e.frame ∙ inv.0,
      walked_more _ _ _ _ _ _ _ inv.1 (g.B.StepBook.lawful c.args.book.now).sound _ c.in-Some.ensures _ _ _ e.steps e.left e.clearing,
    )

pub returns : goal.returns
returns g c =
    let inv = c.loop-number.invariant in
    record {
      frame = inv.0;
      steps = walked_steps _ _ _ _ _ _ _ inv.1 c.in_default.ensures;
      clearing = walked_clearing _ _ _ _ _ _ _ inv.1 c.in_default.ensures;
    }
