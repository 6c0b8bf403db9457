use Rattle.std.proofs.Common.{map, ap, ◌∙◌}
use Rattle.std.proofs.lemmas.List.{take_all}
use Rattle.rules.specs.Sales.{dollars}
use Rattle.starts.proofs.start.seats_for.Goals as goal

pub returns : goal.returns
returns c = c.of_deposits.ensures ∙ ap (map dollars) (take_all 24 c.args.deposits.now c.requires)
