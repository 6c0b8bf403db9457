use Rattle.accounts.proofs.Seated.{appends}
use Rattle.accounts.proofs.seats.Seats.append.Goals as goal

pub returns : goal.returns
returns c = appends c.args.self.now c.args.row c.requires
