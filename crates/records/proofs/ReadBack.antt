-- An event is read back from the bytes that keep it.
use Rattle.std.proofs.Common.{◌≡◌, ℕ, List, length, Ok, refl, ap, arith}
use Rattle.std.proofs.lemmas.List.{take_all}
use Rattle.records.specs.Event.{EventValue, opening, new_step, raise, close, changeover, decoded, encoded, Sized, Keeps}
use Rattle.records.proofs.BigEndian.{number_back}

pub event_back : (e : EventValue) → Sized e → decoded (encoded e) ≡ Ok e
event_back (opening row) h = ap (λ (r : List ℕ). Ok (opening r)) (take_all 14 row (omega arith))
event_back (new_step a b c d t) h = rw (number_back 2 d h.0, number_back 8 t h.1)
event_back (raise a b s d t) h = rw (number_back 2 s h.0, number_back 2 d h.1, number_back 8 t h.2)
event_back close h = refl
event_back changeover h = refl

pub length_encoded : (e : EventValue) → Sized e → length (encoded e) ≡ 16
length_encoded (opening row) h = omega arith
length_encoded (new_step a b c d t) h = refl
length_encoded (raise a b s d t) h = refl
length_encoded close h = refl
length_encoded changeover h = refl

-- the event's own bytes keep it
pub keeps : (bs : List ℕ) (e : EventValue) → Sized e → bs ≡ encoded e → Keeps bs e
keeps bs e h b = record { bytes = b; long = rw b (length_encoded e h); back = rw b (event_back e h) }
