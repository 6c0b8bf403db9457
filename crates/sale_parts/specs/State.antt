-- The state of a sale as the rules see it, and what it is for a call to follow them.
use Rattle.std.specs.Prelude.{◌≡◌, ℕ, Bool, ◌&&◌, Ok, Err, Result}
use Rattle.sheets.specs.declared.sheet.PhaseSheet.{Ghosts as SheetGhosts}
use Rattle.books.specs.declared.book.StepBook.{Ghosts as BookGhosts}
use Rattle.accounts.specs.Seated.{seated}
use Rattle.rules.specs.declared.answer.Answer.{Answer}
use Rattle.rules.specs.declared.fault.SaleFault.{SaleFault}
use Rattle.rules.specs.declared.fault.SaleFault.TheVariants.{Book}
use Rattle.offers.specs.declared.NewStep.{NewStep}
use Rattle.offers.specs.declared.Raise.{Raise}
use Rattle.steps.specs.Rule.{offer_ok, shares_ok, all_standing}
use Rattle.steps.specs.declared.fault.BookFault.TheVariants.{Full}
use Rattle.rules.specs.Sales.{State, Verdict, passed, failed, unless, Call, enter, raise, verdict, reply, after}
use Rattle.rules.specs.Parts.{book_full}
use Rattle.sale_parts.specs.declared.parts.SaleParts.{SaleParts}

-- the state that the rules speak of: the sheet's figures, the book's size and steps, and the ledger
abbrev pub state_of : {S B : Type 0} → SheetGhosts S → BookGhosts B → SaleParts S B → State
state_of sheet book s = record {
  figures = sheet.figures s.sheet;
  size = (book.frame s.book).size;
  steps = book.steps s.book;
  lots = s.ledger.lots;
  round = s.ledger.round;
  opened = s.ledger.opened;
  ended = s.ledger.ended;
  increments = s.ledger.increments;
  clearing = s.ledger.clearing;
  raised = s.ledger.raised;
  last_stamp = s.ledger.last_stamp;
  accounts = seated s.ledger.seats;
}

-- a call answers r and leaves s' of s, as the rules say
pub record Obeys (s : State) (c : Call) (r : Result Answer SaleFault) (s' : State) : Type 0 where
  pub answered : r ≡ reply s c
  pub left : s' ≡ after s c

-- the same of a sale that was `before` and is `later`
abbrev pub Does : {S B : Type 0} → SheetGhosts S → BookGhosts B → SaleParts S B → Call → Result Answer SaleFault → SaleParts S B → Type 0
Does sheet book before c r later = Obeys (state_of sheet book before) c r (state_of sheet book later)

-- r tells a verdict: Ok that the call passes, or why it is refused
abbrev pub Tested : {X : Type 0} → Verdict → Result X SaleFault → Type 0
Tested v (Ok x) = v ≡ passed
Tested v (Err f) = v ≡ failed f

-- a call passes every test but perhaps the last, which refuses it where the book is full
abbrev pub PassesButFull : State → Call → Type 0
PassesButFull s c = verdict s c ≡ unless (book_full s) (Book Full) passed

-- r tells that a call passes so, or why it is refused
abbrev pub TestedButFull : {X : Type 0} → State → Call → Result X SaleFault → Type 0
TestedButFull s c (Ok x) = PassesButFull s c
TestedButFull s c (Err f) = verdict s c ≡ failed f

-- a book takes a step of this market and discount with so many shares, if it has room
abbrev pub offered : ℕ → ℕ → ℕ → Bool
offered market discount shares = offer_ok market discount && shares_ok (all_standing shares)

-- the calls of a seat, by what it asks for
abbrev pub entering : NewStep → Call
entering step = enter step.seat step.market step.shares step.discount step.stamp

abbrev pub raising : Raise → Call
raising asked = raise asked.seat asked.step asked.shares asked.discount asked.stamp
