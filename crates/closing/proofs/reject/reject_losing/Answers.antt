use Rattle.std.proofs.Common.{◌≡◌, ℕ, ◌+◌, ◌-◌, ◌≤◌, length, refl, ap, ◌∙◌, arith}
use Rattle.closing.proofs.Rejecting.{rejected_to, rejected_none, rejected_steps, next_held, next_rejected}
use Rattle.closing.proofs.reject.reject_losing.Goals as goal

pub loop-number-init : goal.loop-number-init
loop-number-init g c = (refl, rejected_none _ (g.B.StepBook.lawful c.args.book.now).sound)

pub reject_step-requires : goal.reject_step-requires
reject_step-requires g c =
    let count = ap (λ (r : ℕ × ℕ). r.0) c.count-count.ensures in
    next_held _ (g.B.StepBook.lawful c.args.book.now).sound _ c.loop-number.number c.loop-number.auto.number c.loop-number.invariant.1 (omega (arith, count))

pub loop-number-preserved : goal.loop-number-preserved
loop-number-preserved g c =
    let count = ap (λ (r : ℕ × ℕ). r.0) c.count-count.ensures in
    let sound = (g.B.StepBook.lawful c.args.book.now).sound in
    let n = c.loop-number.number in
    let e = c.reject_step.ensures in
    let inv = c.loop-number.invariant in
    let next : n ≡ n + 1 - 1 = omega arith in
    (e.frame ∙ inv.0, next_rejected _ sound _ n c.loop-number.auto.number inv.1 (omega (arith, count)) _ e.steps ∙ ap (λ k. rejected_to k (g.B.StepBook.steps c.args.book.now)) next)

pub returns : goal.returns
returns g c =
    let inv = c.loop-number.invariant in
    let sound = (g.B.StepBook.lawful c.args.book.now).sound in
    let count = ap (λ (r : ℕ × ℕ). r.0) c.count-count.ensures in
    record { frame = inv.0; steps = rejected_steps _ sound _ _ inv.1 (omega (arith, count)) }

pub returns-2 : goal.returns-2
returns-2 g c =
    let count = ap (λ (r : ℕ × ℕ). r.0) c.count-count.ensures in
    let xs = g.B.StepBook.steps c.args.book.now in
    let sound = (g.B.StepBook.lawful c.args.book.now).sound in
    let n = c.loop-number.number in
    let e = c.reject_step.ensures in
    let inv = c.loop-number.invariant in
    let past : length xs ≤ n = search (arith, count) in
    record {
      frame = e.frame ∙ inv.0;
      steps = rejected_steps _ sound _ n (next_rejected _ sound _ n c.loop-number.auto.number inv.1 (omega (arith, count)) _ e.steps) past;
    }
