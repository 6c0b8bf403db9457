use Rattle.std.proofs.Common.{◌≤◌, ap, mul-le-mul, arith}
use Rattle.sums.proofs.Sums.{seat_weight}
use Rattle.sums.proofs.weight.StandingWeightMeasure.amount.Goals as goal

pub returns-then-record-self : goal.returns-then-record-self
returns-then-record-self g c =
    let f = g.S.PhaseSheet.figures c.args.self.now.sheet.now in
    let few : c.stored-record.result.shares.standing ≤ 100 = omega (arith, ap (λ x. x.shares.standing) c.stored-record.ensures.same) in
    let light : c.weight.result ≤ 400 = omega (arith, (g.met.S.PhaseSheet.lawful c.args.self.now.sheet.now).light c.stored-record.result.bid.market) in
    record { value = seat_weight f.weight c.args.self.now.seat c.args.step.stored c.stored-record.result c.weight.result c.stored-record.ensures.same c.if-record-self.true c.weight.ensures; most = mul-le-mul few light; small = mul-le-mul few light }
