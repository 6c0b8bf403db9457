use Rattle.std.proofs.Common.{◌≤◌, mul-le-mul, arith}
use Rattle.orders.proofs.enter.not_eligible.Goals as goal

pub overflow_add-wanted : goal.overflow_add-wanted
overflow_add-wanted g c =
    let shares : c.args.step.shares ≤ 255 = omega arith in
    let light = (g.met.S.PhaseSheet.lawful c.args.sale.now.sheet).light c.args.step.market in
    let weight : c.weight.result ≤ 400 = omega (arith, c.weight.ensures, light) in
    omega (arith, mul-le-mul shares weight, c.standing_weight-standing.ensures.most)
