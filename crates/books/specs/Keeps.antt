-- Lists of sound records keep a book's laws.
use Rattle.std.specs.Prelude.{◌≡◌, ℕ, ◌<◌, ◌≤◌, min, List, length, take}
use Rattle.std.proofs.Common.{arith}
use Rattle.std.proofs.lemmas.List.{length-take-le, get_or-take}
use Rattle.steps.specs.declared.record.StepRecord.{StepRecord}
use Rattle.books.specs.Lawful.{Lawful, SoundBelow}

-- the first n records, each of them sound, are the steps of a book with room for as many as the list has, 1,024 at most
pub taken_lawful : (list : List StepRecord) (n : ℕ) → n ≤ length list → n ≤ 1024 → SoundBelow list n → Lawful (min (length list) 1024) (take n list)
taken_lawful list n within few sound =
    let e : length (take n list) ≡ n = length-take-le n list within in
    record { small = omega arith; room = omega arith; sound = λ i h. let l : i < n = omega arith in rw get_or-take (sound i l) }
