use Rattle.std.proofs.Common.{◌<◌, take, set, ap, ◌∙◌, arith}
use lib.Seq.{take-set-lt}
use Rattle.std.proofs.lemmas.List.{length-take-le}
use Rattle.books.proofs.flat_calls.FlatBookStepMemory.replace.Goals as goal

pub returns-clause-after : goal.returns-clause-after
returns-clause-after c =
    let b = c.args.self.now in
    let a = c.args in
    let e = length-take-le b.count b.records.now b.room in
    let within : a.place < b.count = omega (arith, e, c.requires.within) in
    take-set-lt b.count b.records.now a.place c.stored.result within ∙ ap (set (take b.count b.records.now) a.place) c.stored.ensures.same
