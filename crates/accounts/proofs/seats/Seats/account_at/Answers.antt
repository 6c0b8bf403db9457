use Rattle.accounts.proofs.Seated.{account_at}
use Rattle.accounts.proofs.seats.Seats.account_at.Goals as goal

pub returns : goal.returns
returns c = account_at c.args.self.now c.args.place _ c.requires
