-- What a clerk is told of a line that can't be read.
use Rattle.std.specs.Prelude.{ℕ, List, ◌++◌, codes, decimal}
use Rattle.lines.specs.declared.fault.LineFault.{LineFault}
use Rattle.lines.specs.declared.fault.LineFault.TheVariants.{UnknownWord, Missing, NotANumber, TooLarge, Surplus}

abbrev pub shown_fault : LineFault → List ℕ
shown_fault UnknownWord = codes "the first word is not known"
shown_fault (Missing field) = codes "field " ++ (decimal field ++ codes " is missing")
shown_fault (NotANumber field) = codes "field " ++ (decimal field ++ codes " is not a number")
shown_fault (TooLarge field most) = codes "field " ++ (decimal field ++ (codes " is larger than " ++ decimal most))
shown_fault Surplus = codes "a word is left over behind the last field"
