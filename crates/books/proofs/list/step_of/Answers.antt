use Rattle.books.proofs.Records.{read_makes}
use Rattle.books.proofs.list.step_of.Goals as goal

pub unwrap-requires : goal.unwrap-requires
unwrap-requires g c =
    let steps = g.M.StepMemory.steps c.args.memory.now in
    let told = c.in_ok-record.ensures in
    read_makes steps c.args.number c.in_ok-record.record c.try_from.result told.0 told.1 (g.M.StepMemory.lawful c.args.memory.now).sound c.try_from.ensures
