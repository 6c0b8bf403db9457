-- What it is to make a step of a record.
use Rattle.std.specs.Prelude.{◌≡◌, true, false, Result, MatchResult}
use Rattle.steps.specs.declared.record.StepRecord.{StepRecord}
use Rattle.steps.specs.declared.step.Step.{Step}
use Rattle.steps.specs.declared.fault.BookFault.{BookFault}
use Rattle.steps.specs.declared.fault.BookFault.TheVariants.{BadStep}
use Rattle.steps.specs.Rule.{step_ok}

-- the step of the record where it keeps the rule, and else a refusal
abbrev pub Checked : StepRecord → Result Step BookFault → Type 0
Checked stored r = MatchResult r (λ step. (step_ok stored ≡ true) × (step.stored ≡ stored)) (λ fault. (step_ok stored ≡ false) × (fault ≡ BadStep))
