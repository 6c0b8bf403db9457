-- A file that is listed and made again is the same.
use Rattle.std.proofs.Common.{◌≡◌, ℕ, ◌≤◌, List, [], length, Ok, Err, Result, Vec, refl, ap, ◌∙◌, arith}
use Rattle.std.specs.List.{AllByRecursion}
use Rattle.std.specs.declared.alloc.Global.{Global}
use Rattle.records.specs.Event.{EventValue}
use Rattle.lines.specs.Record.{Fits}
use Rattle.listings.specs.Listed.{listed}
use Rattle.sessions.specs.Layout.{size_of}
use Rattle.session_writer.specs.Writing.{session_bytes}
use Rattle.session_texts.specs.declared.fault.MakeFault.{MakeFault}
use Rattle.session_texts.specs.declared.fault.MakeFault.TheVariants.{Line, Memory}
use Rattle.session_texts.specs.Records.{events_in, file_size, file_of}
use Rattle.session_texts.specs.Told.{told, heard_all}
use Rattle.session_texts.specs.Drafts.{MadeFrom}
use Rattle.session_texts.specs.Again.{records_from, MadeAgain}
use Rattle.session_texts.proofs.Drafts.{size_counted, deposits_from, events_from}
use Rattle.session_texts.proofs.Heard.{lines_of_records, all_heard, in_time}
use Rattle.session_texts.proofs.Relisted.{listed_text}

module _ (ds : List ℕ) (es : List EventValue) (fit : AllByRecursion Fits (records_from ds es)) (small : size_of (length ds) (length es) ≤ 65536) where
  size_within : file_size (records_from ds es) ≤ 65536
  size_within =
      let a = size_counted (records_from ds es) in
      let b = ap length (deposits_from ds es) in
      let c = ap length (events_from ds es) in
      omega arith

  pub told_again : told (listed (session_bytes ds es)) ≡ Ok (records_from ds es)
  told_again =
      ap told (listed_text ds es fit small)
      ∙ ap (λ ls. heard_all 1 ls []) (lines_of_records (records_from ds es) fit)
      ∙ all_heard (records_from ds es) [] 1 (in_time ds es [] refl) fit size_within

  pub file_again : file_of (records_from ds es) ≡ session_bytes ds es
  file_again = ap (λ l. session_bytes l (events_in (records_from ds es))) (deposits_from ds es) ∙ ap (λ l. session_bytes ds l) (events_from ds es)

pub made_again : (r : Result (Vec ℕ Global) MakeFault) (text : List ℕ) → MadeFrom r text → MadeAgain r text
made_again (Ok file) text p ds es fit small e =
    let t = told_again ds es fit small in
    let q = p.1 in
    let same : p.0 ≡ records_from ds es = cc in
    p.2 ∙ ap file_of same ∙ file_again ds es fit small
made_again (Err (Line n f)) text p ds es fit small e =
    let t = told_again ds es fit small in
    let z : ◌≡◌ {A = ℕ} 0 1 = cc in
    absurd (omega arith)
made_again (Err Memory) text p ds es fit small e = refl
