use Rattle.sessions.proofs.Header.{placed_in_file}
use Rattle.sessions.proofs.reader.Reader.place.Goals as goal

pub returns : goal.returns
returns c =
    let p = placed_in_file c.args.section c.args.self.now.bytes.now c.args.number _ _ c.args.self.now.opens c.header.ensures c.place.ensures in
    record { value = p.0; within = p.1 }
