-- What a clerk is told of a text that is refused.
use Rattle.std.specs.Prelude.{ℕ, List, ◌++◌, codes, decimal}
use Rattle.lines.specs.Fault.{shown_fault}
use Rattle.session_texts.specs.declared.fault.TextFault.{TextFault}
use Rattle.session_texts.specs.declared.fault.TextFault.TheVariants.{BadLine, LateDeposit, Oversize}
use Rattle.session_texts.specs.declared.fault.MakeFault.{MakeFault}
use Rattle.session_texts.specs.declared.fault.MakeFault.TheVariants.{Line, Memory}

abbrev pub shown_text : TextFault → List ℕ
shown_text (BadLine f) = shown_fault f
shown_text LateDeposit = codes "a deposit stands after an event"
shown_text Oversize = codes "the file would have over 65536 bytes"

abbrev pub shown_make : MakeFault → List ℕ
shown_make (Line n f) = codes "line " ++ (decimal n ++ (codes ": " ++ shown_text f))
shown_make Memory = codes "out of memory"
