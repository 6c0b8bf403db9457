-- The records of a draft: deposits, and events behind them.
use Rattle.std.proofs.Common.{◌≡◌, ℕ, ◌+◌, false, not, ◌||◌, eqb, List, [], ◌∷◌, ◌++◌, map, length, sym, refl, ap, ◌∙◌, append-nil, arith}
use Rattle.std.proofs.lemmas.Bool.Decides.{nat_tests}
use Rattle.std.proofs.lemmas.List.{map_push, length-map}
use Rattle.records.specs.declared.event.Event.{Event}
use Rattle.records.specs.Event.{EventValue}
use Rattle.lines.specs.Record.{Record, deposit, event, own_value}
use Rattle.sessions.specs.Layout.{size_of}
use Rattle.session_texts.specs.Records.{record_size, file_size, is_event, has_event, deposits_in, events_in}
use Rattle.session_texts.specs.Drafts.{records_of}
use Rattle.session_texts.specs.Told.{late}
use Rattle.session_texts.specs.Again.{records_from}

pub file_size_push : (rs : List Record) (r : Record) → file_size (rs ++ (r ∷ [])) ≡ file_size rs + record_size r
file_size_push [] r = omega arith
file_size_push (x ∷ rs) r = let h = file_size_push rs r in omega arith

pub has_event_append : (rs : List Record) (r : Record) → has_event (rs ++ (r ∷ [])) ≡ (has_event rs || is_event r)
has_event_append [] r = grind (arith, nat_tests)
has_event_append (x ∷ rs) r = let h = has_event_append rs r in grind (arith, nat_tests)

-- the size that was counted is that of the file
pub size_counted : (rs : List Record) → file_size rs ≡ size_of (length (deposits_in rs)) (length (events_in rs))
size_counted [] = refl
size_counted (deposit dollars ∷ rs) = let h = size_counted rs in omega arith
size_counted (event e ∷ rs) = let h = size_counted rs in omega arith

pub deposits_from : (ds : List ℕ) (es : List EventValue) → deposits_in (records_from ds es) ≡ ds
deposits_from (d ∷ ds) es = ap (λ l. d ∷ l) (deposits_from ds es)
deposits_from [] (e ∷ es) = deposits_from [] es
deposits_from [] [] = refl

pub events_from : (ds : List ℕ) (es : List EventValue) → events_in (records_from ds es) ≡ es
events_from (d ∷ ds) es = events_from ds es
events_from [] (e ∷ es) = ap (λ l. e ∷ l) (events_from [] es)
events_from [] [] = refl

behind_deposits : (ds : List ℕ) (rs : List Record) → has_event (map deposit ds ++ rs) ≡ has_event rs
behind_deposits [] rs = refl
behind_deposits (d ∷ ds) rs = behind_deposits ds rs

pub size_is : (ds : List ℕ) (es : List (Event (List ℕ))) → file_size (records_of ds es) ≡ size_of (length ds) (length es)
size_is ds es =
    let vs = map own_value es in
    let a = size_counted (records_from ds vs) in
    let b = ap length (deposits_from ds vs) in
    let c = ap length (events_from ds vs) in
    let d = length-map es own_value in
    omega arith

-- a deposit is late behind any event
pub late_is : (ds : List ℕ) (es : List (Event (List ℕ))) (dollars : ℕ) → late (records_of ds es) (deposit dollars) ≡ not (eqb (length es) 0)
late_is ds [] dollars = behind_deposits ds []
late_is ds (e ∷ es) dollars = behind_deposits ds (map event (map own_value (e ∷ es))) ∙ grind (arith, nat_tests)

-- and one that is not stands behind the deposits
pub deposit_added : (ds : List ℕ) (es : List (Event (List ℕ))) (dollars : ℕ) → late (records_of ds es) (deposit dollars) ≡ false → records_of (ds ++ (dollars ∷ [])) es ≡ records_of ds es ++ (deposit dollars ∷ [])
deposit_added ds [] dollars h = append-nil _ ∙ map_push deposit ds dollars ∙ ap (λ rs. rs ++ (deposit dollars ∷ [])) (sym (append-nil (map deposit ds)))
deposit_added ds (e ∷ es) dollars h = absurd (let p = late_is ds (e ∷ es) dollars in grind (arith, nat_tests))
