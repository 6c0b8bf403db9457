-- What is read from a sound book.
use Rattle.std.proofs.Common.{◌≡◌, ℕ, ◌+◌, ◌-◌, ◌<◌, true, eqb, leb, List, length, get_or, Ok, Err, Result, IsOk, refl, ap, ◌∙◌, arith}
use Rattle.std.proofs.lemmas.Bool.{leb-true, both_ways, and_parts}
use Rattle.steps.specs.declared.record.StepRecord.{StepRecord}
use Rattle.steps.specs.declared.step.Step.{Step}
use Rattle.steps.specs.declared.fault.BookFault.{BookFault}
use Rattle.steps.specs.Rule.{step_ok, no_step}
use Rattle.steps.specs.Checked.{Checked}
use Rattle.books.specs.Replies.{held, at, ReadReply}
use Rattle.books.specs.Lawful.{SoundBelow}

-- a step that is held keeps the step's rule
pub held_keeps : (steps : List StepRecord) (number : ℕ) → held steps number ≡ true → SoundBelow steps (length steps) → step_ok (at steps number) ≡ true
held_keeps steps number h sound =
    let p = and_parts (leb 1 number) (leb number (length steps)) h in
    let within : number - 1 < length steps = omega (arith, leb-true _ _ p.0, leb-true _ _ p.1) in
    (and_parts (eqb (get_or steps (number - 1) no_step).bid.number (number - 1 + 1)) (step_ok (at steps number)) (sound (number - 1) within)).1

-- a record read from a sound book is answered as a step
pub read_checked : (steps : List StepRecord) (number : ℕ) (x : StepRecord) (r : Result Step BookFault)
    → held steps number ≡ true → x ≡ at steps number → SoundBelow steps (length steps) → Checked x r → ReadReply steps number r
read_checked steps number x (Err fault) h read sound m = absurd (both_ways _ m.0 (ap step_ok read ∙ held_keeps steps number h sound))
read_checked steps number x (Ok step) h read sound m = (h, m.1 ∙ read)

-- so the record makes a step
pub read_makes : (steps : List StepRecord) (number : ℕ) (x : StepRecord) (r : Result Step BookFault)
    → held steps number ≡ true → x ≡ at steps number → SoundBelow steps (length steps) → Checked x r → IsOk r
read_makes steps number x (Err fault) h read sound m = absurd (both_ways _ (read_checked steps number x (Err fault) h read sound m).0 h)
read_makes steps number x (Ok step) h read sound m = refl
