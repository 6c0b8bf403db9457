use Rattle.std.proofs.Common.{arith, rules}
use Rattle.session_writer.proofs.Puts.{deposit_back}
use Rattle.session_writer.proofs.writer.write_deposit.Goals as goal

pub returns-clause-reads : goal.returns-clause-reads
returns-clause-reads c = deposit_back _ _ c.args.number _ _ c.args.dollars c.requires.place (omega arith) (search rules) (omega arith)
