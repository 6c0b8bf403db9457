use Rattle.std.proofs.Common.{◌≡◌, ℕ, List, length, codes, Result, sym, ap, ◌∙◌, arith, rules}
use Rattle.std.proofs.lemmas.Slice.Eq.{HasBytesAt, text_from_reads}
use Rattle.lines.specs.declared.fault.LineFault.{LineFault}
use Rattle.lines.specs.Record.{Record}
use Rattle.lines.specs.Parsed.{said}
use Rattle.lines.proofs.parse.said_by.Goals as goal

-- an arm whose pattern is this word
arm : (word first text : List ℕ) (r : Result Record LineFault) → r ≡ said first text → length word ≡ length first → HasBytesAt word 0 first → r ≡ said word text
arm word first text r h l b = h ∙ ap (λ w. said w text) (sym (text_from_reads word first l b))

pub returns-in-deposit : goal.returns-in-deposit
returns-in-deposit c = arm c.args.word.now (codes "deposit") c.args.text.now _ c.deposit.ensures (omega arith) (search rules)

pub returns-in-open : goal.returns-in-open
returns-in-open c = arm c.args.word.now (codes "open") c.args.text.now _ c.open.ensures (omega arith) (search rules)

pub returns-in-enter : goal.returns-in-enter
returns-in-enter c = arm c.args.word.now (codes "enter") c.args.text.now _ c.enter.ensures (omega arith) (search rules)

pub returns-in-raise : goal.returns-in-raise
returns-in-raise c = arm c.args.word.now (codes "raise") c.args.text.now _ c.raise.ensures (omega arith) (search rules)

pub returns-in-close : goal.returns-in-close
returns-in-close c = arm c.args.word.now (codes "close") c.args.text.now _ c.bare.ensures (omega arith) (search rules)

pub returns-in-changeover : goal.returns-in-changeover
returns-in-changeover c = arm c.args.word.now (codes "changeover") c.args.text.now _ c.bare-in-changeover.ensures (omega arith) (search rules)
