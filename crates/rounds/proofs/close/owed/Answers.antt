use Rattle.std.proofs.Common.{◌≤◌, mul-le-mul_right, arith}
use Rattle.rounds.proofs.close.owed.Goals as goal

pub overflow_cast-result-2 : goal.overflow_cast-result-2
overflow_cast-result-2 g c =
    let few : c.percent-percent.result ≤ 100 = omega (arith, c.percent-percent.ensures, (g.met.S.PhaseSheet.lawful c.args.sheet.now).parts c.args.round) in
    omega (arith, mul-le-mul_right c.args.eligible few)
