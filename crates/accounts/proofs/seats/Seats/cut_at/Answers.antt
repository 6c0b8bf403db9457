use Rattle.accounts.proofs.Seated.{cuts}
use Rattle.accounts.proofs.seats.Seats.cut_at.Goals as goal

pub returns : goal.returns
returns c = cuts c.args.self.now c.cut_row.new.rows c.args.place c.args.by c.requires c.cut_row.ensures
