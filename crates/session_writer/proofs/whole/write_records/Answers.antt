use Rattle.std.proofs.Common.{◌∙◌, arith}
use Rattle.session_writer.proofs.Sections.{part_more}
use Rattle.session_writer.proofs.whole.write_records.Goals as goal

pub loop-i-preserved : goal.loop-i-preserved
loop-i-preserved g c =
    part_more g.R.Record.bytes g.row.N c.args.memory.now c.args.start c.args.records.now c.loop-i.i c.index-records-i.result c.loop-i.memory _ _ c.requires.room c.loop-i-test.true c.index-records-i.is c.loop-i.invariant (c.copy_from_slice.ensures.after ∙ c.to_bytes.ensures) (c.copy_from_slice.ensures.len ∙ omega arith) (omega arith)
