-- What a session's text tells, line by line.
use Rattle.std.specs.Prelude.{ℕ, ◌+◌, Bool, cond, not, ◌&&◌, List, [], ◌∷◌, ◌++◌, Some, None, Ok, Err, Option, Result, nat_le}
use Rattle.lines.specs.declared.fault.LineFault.{LineFault}
use Rattle.lines.specs.Record.{Record}
use Rattle.lines.specs.Parsed.{parsed}
use Rattle.session_texts.specs.declared.fault.TextFault.{TextFault}
use Rattle.session_texts.specs.declared.fault.TextFault.TheVariants.{BadLine, LateDeposit, Oversize}
use Rattle.session_texts.specs.Lines.{lines_of}
use Rattle.session_texts.specs.Records.{record_size, file_size, is_event, has_event}

-- a deposit comes too late once an event was told
abbrev pub late : List Record → Record → Bool
late rs r = not (is_event r) && has_event rs

-- one record more, unless it is a late deposit or the file would have over 65,536 bytes
abbrev pub added : List Record → Record → Result (List Record) TextFault
added rs r = cond (late rs r) (Err LateDeposit) (cond (nat_le (file_size rs + record_size r) 65536) (Ok (rs ++ (r ∷ []))) (Err Oversize))

-- what was told after one line more
abbrev pub heard : List Record → Result (Option Record) LineFault → Result (List Record) TextFault
heard rs (Ok None) = Ok rs
heard rs (Ok (Some r)) = added rs r
heard rs (Err f) = Err (BadLine f)

-- and after some lines, the first of which has the number n: the first line that is refused stops it
abbrev pub heard_from : ℕ → Result (List Record) TextFault → (List Record → Result (List Record) (ℕ × TextFault)) → Result (List Record) (ℕ × TextFault)
heard_from n (Ok rs) more = more rs
heard_from n (Err f) more = Err (n, f)

abbrev pub heard_all : ℕ → List (List ℕ) → List Record → Result (List Record) (ℕ × TextFault)
heard_all n [] rs = Ok rs
heard_all n (l ∷ ls) rs = heard_from n (heard rs (parsed l)) (heard_all (n + 1) ls)

-- what a text tells; lines are counted from 1
abbrev pub told : List ℕ → Result (List Record) (ℕ × TextFault)
told text = heard_all 1 (lines_of text) []
