use Rattle.std.proofs.Common.{rules, ◌∙◌}
use Rattle.arrays.proofs.Made.{made_is}
use Rattle.rounds.proofs.Rows.{pad_at, padded_is}
use Rattle.rounds.proofs.open.padded.Goals as goal

pub returns : goal.returns
returns c = made_is _ _ (pad_at c.args.row.now) (λ i y q k. search rules) _ 7 c.from_fn.ensures.items ∙ padded_is c.args.row.now c.requires
