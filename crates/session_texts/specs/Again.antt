-- A file that is listed and made again.
use Rattle.std.specs.Prelude.{◌≡◌, ℕ, ◌≤◌, List, ◌++◌, map, length, vec_items, Result, Vec, MatchResult}
use Rattle.std.specs.List.{AllByRecursion}
use Rattle.std.specs.declared.alloc.Global.{Global}
use Rattle.records.specs.Event.{EventValue}
use Rattle.lines.specs.Record.{Record, deposit, event, Fits}
use Rattle.listings.specs.Listed.{listed}
use Rattle.sessions.specs.Layout.{size_of}
use Rattle.session_writer.specs.Writing.{session_bytes}
use Rattle.session_texts.specs.declared.fault.MakeFault.{MakeFault}
use Rattle.session_texts.specs.declared.fault.MakeFault.TheVariants.{Memory}

-- the records of these deposits and these events
abbrev pub records_from : List ℕ → List EventValue → List Record
records_from ds es = map deposit ds ++ map event es

-- the listing of a file in the standard layout, whose figures have their widths, makes that file again, unless memory is wanting
abbrev pub MadeAgain : Result (Vec ℕ Global) MakeFault → List ℕ → Type 0
MadeAgain r text =
    (ds : List ℕ) (es : List EventValue) → AllByRecursion Fits (records_from ds es) → size_of (length ds) (length es) ≤ 65536 → text ≡ listed (session_bytes ds es)
    → MatchResult r (λ file. vec_items file ≡ session_bytes ds es) (λ f. f ≡ Memory)
