-- The lines of records that come in time and fit are all heard.
use Rattle.std.proofs.Common.{◌≡◌, ℕ, ◌+◌, ◌≤◌, true, false, eqb, leb, List, [], ◌∷◌, ◌++◌, map, Ok, sym, refl, ap, ◌∙◌, append_assoc, arith}
use Rattle.std.proofs.lemmas.Bool.Decides.{nat_tests}
use Rattle.std.specs.List.{flat_map, AllByRecursion, onto_first}
use Rattle.std.proofs.lemmas.List.{append-nil}
use Rattle.records.specs.Event.{EventValue}
use Rattle.lines.specs.Record.{Record, deposit, event, Fits}
use Rattle.lines.specs.Shown.{shown_record, OneLine}
use Rattle.lines.proofs.Back.{line_back, no_newline}
use Rattle.listings.specs.Texts.{ended_line}
use Rattle.session_texts.specs.Lines.{lines_of}
use Rattle.session_texts.specs.Records.{record_size, file_size, has_event}
use Rattle.session_texts.specs.Told.{late, heard, heard_from, heard_all}
use Rattle.session_texts.specs.Again.{records_from}
use Rattle.session_texts.proofs.Drafts.{file_size_push, has_event_append}

-- a line of its own, and the lines behind it
line_first : (l text : List ℕ) → OneLine l → lines_of (l ++ (10 ∷ text)) ≡ l ∷ lines_of text
line_first [] text h = refl
line_first (b ∷ bs) text h =
    let other : eqb b 10 ≡ false = grind (arith, nat_tests, h.0) in
    rw other (ap (onto_first b) (line_first bs text h.1))

-- the text of these records
abbrev pub text_of : List Record → List ℕ
text_of rs = flat_map (λ r. ended_line (shown_record r)) rs

pub lines_of_records : (rs : List Record) → AllByRecursion Fits rs → lines_of (text_of rs) ≡ map shown_record rs ++ ([] ∷ [])
lines_of_records [] h = refl
lines_of_records (r ∷ rs) h =
    ap lines_of (append_assoc (shown_record r) (10 ∷ []) (text_of rs))
    ∙ line_first (shown_record r) (text_of rs) (no_newline r h.0)
    ∙ ap (λ ls. shown_record r ∷ ls) (lines_of_records rs h.1)

file_size_append : (xs ys : List Record) → file_size (xs ++ ys) + 16 ≡ file_size xs + file_size ys
file_size_append [] ys = omega arith
file_size_append (x ∷ xs) ys = let h = file_size_append xs ys in omega arith

file_size_low : (rs : List Record) → 16 ≤ file_size rs
file_size_low [] = omega arith
file_size_low (r ∷ rs) = let h = file_size_low rs in omega arith

-- no deposit comes behind an event
abbrev pub InTime : List Record → List Record → Type 0
InTime done [] = Unit {0}
InTime done (r ∷ rs) = (late done r ≡ false) × InTime (done ++ (r ∷ [])) rs

pub all_heard : (rs done : List Record) (n : ℕ) → InTime done rs → AllByRecursion Fits rs → file_size (done ++ rs) ≤ 65536 → heard_all n (map shown_record rs ++ ([] ∷ [])) done ≡ Ok (done ++ rs)
all_heard [] done n t f small = ap Ok (sym (append-nil done))
all_heard (r ∷ rs) done n t f small =
    let a = file_size_append (done ++ (r ∷ [])) rs in
    let b = file_size_push done r in
    let c = file_size_low rs in
    let same : (done ++ (r ∷ [])) ++ rs ≡ done ++ (r ∷ rs) = append_assoc done (r ∷ []) rs in
    let d = ap file_size same in
    let room : leb (file_size done + record_size r) 65536 ≡ true = grind (arith, nat_tests) in
    let more : heard_all (n + 1) (map shown_record rs ++ ([] ∷ [])) (done ++ (r ∷ [])) ≡ Ok ((done ++ (r ∷ [])) ++ rs) = all_heard rs (done ++ (r ∷ [])) (n + 1) t.1 f.1 (omega arith) in
    ap (λ p. heard_from n (heard done p) (heard_all (n + 1) (map shown_record rs ++ ([] ∷ [])))) (line_back r f.0)
    ∙ rw (t.0, room) (more ∙ ap Ok same)

events_in_time : (es : List EventValue) (done : List Record) → InTime done (map event es)
events_in_time [] done = tt
events_in_time (e ∷ es) done = (refl, events_in_time es (done ++ (event e ∷ [])))

pub in_time : (ds : List ℕ) (es : List EventValue) (done : List Record) → has_event done ≡ false → InTime done (records_from ds es)
in_time [] es done h = events_in_time es done
in_time (d ∷ ds) es done h = (h, in_time ds es (done ++ (deposit d ∷ [])) (has_event_append done (deposit d) ∙ rw h))
