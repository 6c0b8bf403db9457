use Rattle.std.proofs.Common.{Ok, Err, Result, MatchResult, IsOk, sym, refl, arith, false-eqb}
use Rattle.std.proofs.lemmas.Result.{MatchResult-at_ok}
use Rattle.lines.proofs.Figures.{digits_are_text, number_past}
use Rattle.lines.proofs.fields.number.Goals as goal

ok_unless : {T E : Type 0} (P : T → Type 0) (Q : E → Type 0) (r : Result T E) → MatchResult r P Q → ((e : E) → Q e → ⊥) → IsOk r
ok_unless P Q (Ok x) h n = refl
ok_unless P Q (Err e) h n = absurd (n e h)

-- digits are text
pub unwrap-requires : goal.unwrap-requires
unwrap-requires c = ok_unless _ _ c.from_utf8.result c.from_utf8.ensures.cases (λ e h. h.0 (digits_are_text _ (sym c.if-not-all_digits.ensures)))

pub returns-in_default-2-clause-read : goal.returns-in_default-2-clause-read
returns-in_default-2-clause-read c =
    let same = (MatchResult-at_ok _ _ _ c.unwrap.ensures c.from_utf8.ensures.cases).0 in
    sym (number_past _ _ c.args.word.now (omega (arith, false-eqb _ 0 c.if-is_empty.ensures)) (sym c.if-not-all_digits.ensures) (omega arith) (rw same at c.in_default.ensures.value.0))
