use Rattle.std.proofs.Common.{sym, refl}
use Rattle.accounts.proofs.Seated.{length_seated}
use Rattle.accounts.proofs.seats.Seats.len.Goals as goal

pub returns : goal.returns
returns c = record { seats = sym (length_seated c.args.self.now); rows = refl }
