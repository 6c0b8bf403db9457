-- What questions that can be refused answer.
use Rattle.std.specs.Prelude.{◌≡◌, ℕ, true, false, length, Ok, Err, Result}
use Rattle.steps.specs.declared.step.Step.{Step}
use Rattle.steps.specs.declared.fault.BookFault.TheVariants.{NoStep}
use Rattle.rules.specs.declared.fault.SaleFault.{SaleFault}
use Rattle.rules.specs.declared.fault.SaleFault.TheVariants.{Book, NoSeat, NoMarket}
use Rattle.rules.specs.Sales.{State, step_at, outside}

-- x, or a refusal where the sale has no such market
abbrev pub OfMarket : {X : Type 0} → State → ℕ → X → Result X SaleFault → Type 0
OfMarket s market x (Ok y) = (outside market s.figures.markets ≡ false) × (y ≡ x)
OfMarket s market x (Err f) = (outside market s.figures.markets ≡ true) × (f ≡ NoMarket)

-- x, or a refusal where the sale has no such seat
abbrev pub OfSeat : {X : Type 0} → State → ℕ → X → Result X SaleFault → Type 0
OfSeat s seat x (Ok y) = (outside seat (length s.accounts) ≡ false) × (y ≡ x)
OfSeat s seat x (Err f) = (outside seat (length s.accounts) ≡ true) × (f ≡ NoSeat)

-- the step of the number, or a refusal where there is none
abbrev pub OfNumber : State → ℕ → Result Step SaleFault → Type 0
OfNumber s number (Ok step) = (outside number (length s.steps) ≡ false) × (step.stored ≡ step_at s number)
OfNumber s number (Err f) = (outside number (length s.steps) ≡ true) × (f ≡ Book NoStep)
