use Rattle.std.proofs.Common.{◌≡◌, ℕ, Bor, true, List, map, length, Ok, sym, ap, ◌∙◌, subst, arith}
use Rattle.std.specs.List.{AllByRecursion}
use Rattle.records.specs.declared.event.Event.{Event}
use Rattle.records.specs.Event.{value_of, row_fits}
use Rattle.lines.specs.Record.{own_value}
use Rattle.session_writer.specs.Writing.{session_put}
use Rattle.session_texts.specs.Records.{deposits_in, events_in, file_of}
use Rattle.session_texts.proofs.Drafts.{deposits_from, events_from}
use Rattle.session_texts.proofs.Files.{file_put, put_accepted, put_left}
use Rattle.session_texts.proofs.draft.Draft.file.Goals as goal
use Rattle.session_texts.proofs.draft.Draft.file.Goals.{After-put_session}

file_is_put : (c : After-put_session) → (session_put c.deref_mut.result.now c.deref-2.result.now (map value_of c.deref-3.result.now) ≡ Ok (file_of c.args.self.now)) × (length (file_of c.args.self.now) ≡ length c.deref_mut.result.now)
file_is_put c =
    let d = c.self.inside in
    let ds = c.deref-2.ensures.value ∙ sym (deposits_from d.deposits.items (map own_value d.events.items)) ∙ ap deposits_in c.self.view_is in
    let es = ap (λ xs. map value_of xs) c.deref-3.ensures.value ∙ c.in_ok-events.ensures.value ∙ ap (λ xs. map own_value xs) c.deref.ensures.value ∙ sym (events_from d.deposits.items (map own_value d.events.items)) ∙ ap events_in c.self.view_is in
    let rows = subst (λ (xs : List (Event (Bor (List ℕ)))). AllByRecursion (λ e. row_fits (value_of e) ≡ true) xs) (sym c.deref-3.ensures.value) c.in_ok-events.ensures.rows in
    file_put _ _ _ c.args.self.now (c.deref_mut.ensures.len ∙ c.in_ok-file.ensures.len ∙ c.size.ensures.value) (omega arith) ds es rows

pub unwrap-requires : goal.unwrap-requires
unwrap-requires c = put_accepted _ _ _ _ _ c.put_session.ensures.wrote (file_is_put (goal.at.unwrap-requires c).After-put_session).0

pub returns : goal.returns
returns c =
    let p = file_is_put (goal.at.returns c).After-put_session in
    put_left _ _ _ _ (file_of c.args.self.now) _ _ c.in_ok-file.file.len c.put_session.ensures.wrote p.0 c.unwrap.ensures (p.1 ∙ c.deref_mut.ensures.len)
