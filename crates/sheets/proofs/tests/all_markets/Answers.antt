use Rattle.std.proofs.Common.{arith, rules}
use Rattle.sheets.proofs.tests.all_markets.Goals as goal

pub overflow_add-sum : goal.overflow_add-sum
overflow_add-sum g c =
    let law = g.met.S.PhaseSheet.lawful c.args.sheet.now in
    let light = law.light c.loop-market.market in
    let few = law.few_markets in
    search rules

pub loop-market-preserved : goal.loop-market-preserved
loop-market-preserved g c =
    let light = (g.met.S.PhaseSheet.lawful c.args.sheet.now).light c.loop-market.market in
    search rules
