use Rattle.std.proofs.Common.{◌∙◌, arith}
use Rattle.session_writer.proofs.Puts.{event_back}
use Rattle.session_writer.proofs.writer.write_event.Goals as goal

pub returns-clause-reads : goal.returns-clause-reads
returns-clause-reads c =
    let bytes = c.in_ok-record.ensures in
    event_back _ _ c.args.number _ _ _ c.requires.place (c.copy_from_slice.ensures.after ∙ bytes.0) bytes.1 (omega arith)
