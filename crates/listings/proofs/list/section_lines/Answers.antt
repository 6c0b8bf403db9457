use Rattle.std.proofs.Common.{◌≡◌, ◌+◌, ◌-◌, string_bytes, ap, ◌∙◌, arith}
use lib.Utf8.{encode}
use Rattle.sessions.specs.Lent.{lent}
use Rattle.listings.specs.Texts.{up_to}
use Rattle.listings.specs.Listed.{record_line}
use Rattle.listings.proofs.Lines.{up_to_more}
use Rattle.listings.proofs.list.section_lines.Goals as goal
use Rattle.listings.proofs.list.section_lines.Goals.{else-loop-number-test, then-loop-number-test+in_ok-record_line+in_ok-push_str+in_ok-push+else-number-number-end}

pub loop-number-preserved : goal.loop-number-preserved
unfolding encode
loop-number-preserved c =
    let line = record_line c.args.section (lent c.args.reader.now) in
    let same : c.loop-number.number ≡ c.loop-number.number + 1 - 1 = omega arith in
    let listed = up_to_more line c.loop-number.number _ _ _ _ (omega arith) c.loop-number.invariant.listed c.in_ok-push_str.ensures.bytes (c.deref.ensures ∙ c.in_ok-record_line.ensures) c.in_ok-push.ensures.bytes in
    record { listed = listed ∙ ap (up_to line) same; numbered = omega arith }

-- a section without records, and one whose last record is listed
pub returns : goal.returns
unfolding encode
returns c =
    let line = record_line c.args.section (lent c.args.reader.now) in
    let count = c.count-number-end.ensures in
    elim c.loop-number-test.branch [
      | else-loop-number-test w ↦ let none : c.loop-number.number - 1 ≡ c.count-number-end.result = omega (arith, c.loop-number.auto.number-end) in ap string_bytes w.text-is ∙ c.loop-number.invariant.listed ∙ ap (up_to line) (none ∙ count)
      | then-loop-number-test+in_ok-record_line+in_ok-push_str+in_ok-push+else-number-number-end w ↦
          let last : c.loop-number.number ≡ c.count-number-end.result = omega arith in
          ap string_bytes w.text-is
          ∙ up_to_more line c.loop-number.number _ _ _ _ (omega arith) c.loop-number.invariant.listed w.in_ok-push_str.ensures.bytes (w.deref.ensures ∙ w.in_ok-record_line.ensures) w.in_ok-push.ensures.bytes
          ∙ ap (up_to line) (last ∙ count)
    ]
