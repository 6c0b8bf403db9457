use Rattle.std.proofs.Common.{◌≤◌, mul-le-mul, arith}
use Rattle.starts.proofs.changeover.bought_left.Goals as goal

pub overflow_mul-spent : goal.overflow_mul-spent
overflow_mul-spent g c =
    let light = (g.met.S.PhaseSheet.lawful c.args.sale.now.sheet).light 1 in
    let w : c.weight.result ≤ 400 = omega (arith, c.weight.ensures, light) in
    omega (arith, mul-le-mul w c.shares_won_by.ensures.most)
