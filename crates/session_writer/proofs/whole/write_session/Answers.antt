use Rattle.std.proofs.Common.{◌≡◌, ℕ, ◌+◌, ◌*◌, ◌++◌, map, length, drop, sym, ap, ◌∙◌, subst, arith}
use Rattle.std.proofs.lemmas.List.{get_or-map, length-map}
use Rattle.std.proofs.lemmas.List.Folds.{flat_map-map}
use Rattle.records.specs.Event.{EventValue, value_of, encoded, close}
use Rattle.session_writer.specs.Writing.{Room, written}
use Rattle.session_writer.specs.RoundTrip.{Kept}
use Rattle.session_writer.proofs.Wholes.{session_is_put}
use Rattle.session_writer.proofs.whole.write_session.Goals as goal

pub write_records-requires-2-clause-kept : goal.write_records-requires-2-clause-kept
write_records-requires-2-clause-kept c = λ k d h.
    let n = length-map c.args.events.now value_of in
    subst (λ (v : EventValue). Kept v) (get_or-map value_of _ k d close h) (c.requires.kept k (omega arith))

pub returns : goal.returns
returns c =
    let vs = map value_of c.args.events.now in
    let n : length c.args.events.now ≡ length vs = sym (length-map c.args.events.now value_of) in
    let p = session_is_put c.args.memory.now _ _ _ c.args.deposits.now vs c.requires.fits (subst (λ (m : ℕ). Room (length c.args.memory.now) (length c.args.deposits.now) m) n c.requires.room) (λ k. omega (arith, c.type_inv.deposits k)) c.requires.kept
    (ap (λ l. l ++ drop 16 c.args.memory.now) (c.copy_from_slice.ensures.after ∙ c.requires.header)) c.write_records.ensures (c.write_records-2.ensures ∙ ap (λ l. written c.write_records.new.memory (16 + 4 * length c.args.deposits.now) l) (sym (flat_map-map encoded value_of c.args.events.now))) in
    record { wrote = p.0; reads = p.1 }
