use Rattle.std.proofs.Common.{◌≡◌, ℕ, ◌+◌, List, ◌++◌, length, take, drop, Ok, Err, Result}
use Rattle.lines.specs.declared.fault.LineFault.{LineFault}
use Rattle.lines.specs.Fields.{fields, Under}
use Rattle.lines.proofs.fields.read_fields.Given as goal

-- the numbers that were read, before those to come
abbrev pub after : List ℕ → Result (List ℕ) LineFault → Result (List ℕ) LineFault
after xs (Ok ys) = Ok (xs ++ ys)
after xs (Err f) = Err f

-- what was read, and what is left to read, make the whole; no number so far is over its limit
abbrev pub invariant-loop-i : goal.invariant-loop-i
invariant-loop-i g l =
    record {
      whole : after (take l.i l.numbers) (fields (drop l.i l.fn.limits) (l.i + 1) l.left) ≡ fields l.fn.limits 1 l.text;
      long : length l.numbers ≡ g.row.N;
      within : Under l.fn.limits l.numbers;
    }
