use Rattle.std.proofs.Common.{◌≡◌, ◌+◌}
use Rattle.session_texts.specs.Told.{told, heard_all}
use Rattle.session_texts.proofs.Lines.{lines_left}
use Rattle.session_texts.proofs.hear.hear_text.Given as goal

-- what is left decides
abbrev pub invariant-loop-at : goal.invariant-loop-at
invariant-loop-at l =
    record {
      goes_on : (goal.iterator-loop-at).can_next l.at-iterator;
      ends : (goal.iterator-loop-at).is_finite l.at-iterator;
      told : heard_all (l.at-iterator.count + 1) (lines_left l.at-iterator.iter) l.draft ≡ told l.text;
    }
