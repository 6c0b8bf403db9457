use Rattle.std.proofs.Common.{◌≡◌, not, eqb, length, sym, ap, ◌∙◌, arith}
use Rattle.lines.specs.declared.line.Line.TheVariants.{Deposit}
use Rattle.lines.specs.Record.{record_of}
use Rattle.session_texts.specs.Told.{late}
use Rattle.session_texts.proofs.Drafts.{late_is}
use Rattle.session_texts.proofs.draft.Draft.is_late.Goals as goal

pub returns-in-Deposit : goal.returns-in-Deposit
returns-in-Deposit c =
    let d = c.self.inside in
    let long : d.events.len ≡ length d.events.items = omega arith in
    ap not c.is_empty.ensures
    ∙ ap (λ n. not (eqb n 0)) long
    ∙ sym (late_is d.deposits.items d.events.items c.in-Deposit.field-0)
    ∙ ap (λ rs. late rs (record_of (Deposit c.in-Deposit.field-0))) c.self.view_is
    ∙ ap (λ l. late c.args.self.now (record_of l)) (sym c.in-Deposit.is)
