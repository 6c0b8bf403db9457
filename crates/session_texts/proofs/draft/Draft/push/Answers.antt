use Rattle.std.proofs.Common.{[], ◌∷◌, ◌++◌, sym, ap, ◌∙◌, arith}
use Rattle.lines.specs.Record.{deposit, record_of}
use Rattle.session_texts.specs.Records.{record_size, file_size}
use Rattle.session_texts.specs.Drafts.{records_of}
use Rattle.session_texts.specs.Told.{late}
use Rattle.session_texts.proofs.Drafts.{size_is, deposit_added}
use Rattle.session_texts.proofs.draft.Draft.push.Goals as goal

pub invariant_of-self : goal.invariant_of-self
invariant_of-self c =
    let size = size_is c.self.inside.deposits.items c.self.inside.events.items in
    let seen = ap file_size c.self.view_is in
    let width = ap (λ l. record_size (record_of l)) c.in-Deposit.is in
    omega (arith, c.requires.room)

pub invariant_of-self-in-Continue-branch-2 : goal.invariant_of-self-in-Continue-branch-2
invariant_of-self-in-Continue-branch-2 c =
    let size = size_is c.self.inside.deposits.items c.self.inside.events.items in
    let seen = ap file_size c.self.view_is in
    let width = ap (λ l. record_size (record_of l)) c.in-Event.is in
    omega (arith, c.requires.room)

pub returns-in_ok-push-in-Deposit : goal.returns-in_ok-push-in-Deposit
returns-in_ok-push-in-Deposit c =
    let d = c.self.inside in
    let in_time = ap (λ rs. late rs (deposit c.in-Deposit.dollars)) c.self.view_is ∙ sym (ap (λ l. late c.args.self.now (record_of l)) c.in-Deposit.is) ∙ c.requires.in_time in
    ap (λ ds. records_of ds d.events.items) c.in_ok-push-in-Deposit.ensures.items
    ∙ deposit_added d.deposits.items d.events.items c.in-Deposit.dollars in_time
    ∙ ap (λ rs. rs ++ (deposit c.in-Deposit.dollars ∷ [])) c.self.view_is
    ∙ ap (λ l. c.args.self.now ++ (record_of l ∷ [])) (sym c.in-Deposit.is)
