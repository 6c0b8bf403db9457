use Rattle.std.proofs.Common.{rules, ◌∙◌, arith}
use Rattle.arrays.proofs.Made.{made_is}
use Rattle.lines.proofs.Pairs.{pair_at, increments_are}
use Rattle.lines.proofs.row.steps_of.Goals as goal

pub returns : goal.returns
returns c = made_is _ _ (pair_at c.args.row.now) (λ i y q k. search rules) _ 7 c.from_fn.ensures.items ∙ increments_are 7 c.args.row.now (omega arith)
