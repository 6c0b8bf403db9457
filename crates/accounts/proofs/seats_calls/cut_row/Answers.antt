use Rattle.accounts.proofs.Seated.{row_cut}
use Rattle.accounts.proofs.seats_calls.cut_row.Goals as goal

pub returns : goal.returns
returns c = row_cut c.args.rows.now c.args.place c.index-rows-place.result c.cut.new.self c.args.by c.requires c.cut.ensures
