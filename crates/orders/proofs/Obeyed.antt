-- Calls that follow the rules.
use Rattle.std.proofs.Common.{◌≡◌, length, Ok, Err, Result, sym, ap, ◌∙◌}
use Rattle.std.proofs.lemmas.Bool.{ne_eqb}
use Rattle.steps.specs.declared.fault.BookFault.TheVariants.{Full}
use Rattle.rules.specs.declared.answer.Answer.{Answer}
use Rattle.rules.specs.declared.fault.SaleFault.{SaleFault}
use Rattle.rules.specs.declared.fault.SaleFault.TheVariants.{Book}
use Rattle.rules.specs.Sales.{State, passed, unless, Call, verdict, answer, done, by_verdict}
use Rattle.sale_parts.specs.State.{Obeys, PassesButFull}

-- an accepted call answers and leaves what the rules say
pub obeys_accepted : (s : State) (c : Call) (r : Result Answer SaleFault) (s' : State) → verdict s c ≡ passed → r ≡ Ok (answer s c) → s' ≡ done s c → Obeys s c r s'
obeys_accepted s c r s' v a d = record {
  answered = a ∙ ap (λ v. by_verdict v (Ok (answer s c)) Err) (sym v);
  left = d ∙ ap (λ v. by_verdict v (done s c) (λ _. s)) (sym v);
}

-- the same where the book had room
pub obeys_put : (s : State) (c : Call) (r : Result Answer SaleFault) (s' : State) → PassesButFull s c → (length s.steps ≡ s.size → ⊥) → r ≡ Ok (answer s c) → s' ≡ done s c → Obeys s c r s'
obeys_put s c r s' v room a d = obeys_accepted s c r s' (v ∙ ap (λ b. unless b (Book Full) passed) (ne_eqb (length s.steps) s.size room)) a d
