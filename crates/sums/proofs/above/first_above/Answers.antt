use Rattle.sums.proofs.FirstAbove.{first_is}
use Rattle.sums.proofs.above.first_above.Goals as goal

pub returns : goal.returns
returns g c = first_is g.N.Number.value c.args.most c.args.numbers.now _ c.find_above.ensures
