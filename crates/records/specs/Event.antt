-- What an event is, apart from where its row lies, and the 16 bytes that keep one.
use Rattle.std.specs.Prelude.{◌≡◌, ℕ, ◌^◌, ◌<◌, Bool, true, false, cond, List, ◌∷◌, ◌++◌, length, take, drop, replicate, Ok, Err, Result, ◌==◌, slice_index}
use Rattle.std.specs.Borrow.{Bor}
use Rattle.faults.specs.declared.record.RecordFault.{RecordFault}
use Rattle.faults.specs.declared.record.RecordFault.TheVariants.{RowLength, UnknownKind, NotZero}
use Rattle.offers.specs.declared.NewStep.{NewStep}
use Rattle.offers.specs.declared.Raise.{Raise}
use Rattle.records.specs.declared.event.Event.{Event}
use Rattle.records.specs.declared.event.Event.TheVariants.{Open, NewStep as OfNewStep, Raise as OfRaise, Close, Changeover}
use Rattle.records.specs.Bytes.{be, bytes_of, all_zero}

-- an event as a value: an opening has its row itself, and not a place in a file
pub data EventValue : Type 0 where
  opening : (row : List ℕ) → EventValue
  new_step : (seat market shares discount stamp : ℕ) → EventValue
  raise : (seat shares step discount stamp : ℕ) → EventValue
  close : EventValue
  changeover : EventValue

-- the value of a new step, of a raise, and of an event that the code holds
abbrev pub value_of_new_step : NewStep → EventValue
value_of_new_step s = new_step s.seat s.market s.shares s.discount s.stamp

abbrev pub value_of_raise : Raise → EventValue
value_of_raise r = raise r.seat r.shares r.step r.discount r.stamp

abbrev pub value_with : {R : Type 0} → (R → List ℕ) → Event R → EventValue
value_with bytes (Open row) = opening (bytes row)
value_with bytes (OfNewStep s) = value_of_new_step s
value_with bytes (OfRaise r) = value_of_raise r
value_with bytes Close = close
value_with bytes Changeover = changeover

abbrev pub value_of : Event (Bor (List ℕ)) → EventValue
value_of e = value_with (λ row. row.now) e

-- the same of an answer
abbrev pub seen : {F : Type 0} → Result (Event (Bor (List ℕ))) F → Result EventValue F
seen (Ok e) = Ok (value_of e)
seen (Err f) = Err f

-- an event whose bytes that must be zero are zero
abbrev pub where_zero : Bool → EventValue → Result EventValue RecordFault
where_zero zeros e = cond zeros (Ok e) (Err NotZero)

-- the event that 16 bytes keep: the kind is the first byte
abbrev pub decoded : List ℕ → Result EventValue RecordFault
decoded bs =
    cond (slice_index bs 0 == 1) (where_zero (slice_index bs 1 == 0) (opening (take 14 (drop 2 bs))))
    (cond (slice_index bs 0 == 2) (where_zero (all_zero (take 2 (drop 4 bs))) (new_step (slice_index bs 1) (slice_index bs 2) (slice_index bs 3) (be 2 bs 6) (be 8 bs 8)))
    (cond (slice_index bs 0 == 3) (where_zero (slice_index bs 3 == 0) (raise (slice_index bs 1) (slice_index bs 2) (be 2 bs 4) (be 2 bs 6) (be 8 bs 8)))
    (cond (slice_index bs 0 == 4) (where_zero (all_zero (take 15 (drop 1 bs))) close)
    (cond (slice_index bs 0 == 5) (where_zero (all_zero (take 15 (drop 1 bs))) changeover)
    (Err UnknownKind)))))

-- the 16 bytes that keep an event
abbrev pub encoded : EventValue → List ℕ
encoded (opening row) = 1 ∷ 0 ∷ row
encoded (new_step seat market shares discount stamp) = 2 ∷ seat ∷ market ∷ shares ∷ 0 ∷ 0 ∷ (bytes_of 2 discount ++ bytes_of 8 stamp)
encoded (raise seat shares step discount stamp) = 3 ∷ seat ∷ shares ∷ 0 ∷ (bytes_of 2 step ++ (bytes_of 2 discount ++ bytes_of 8 stamp))
encoded close = 4 ∷ replicate 15 0
encoded changeover = 5 ∷ replicate 15 0

-- an opening's row has 14 bytes
abbrev pub row_fits : EventValue → Bool
row_fits (opening row) = length row == 14
row_fits (new_step _ _ _ _ _) = true
row_fits (raise _ _ _ _ _) = true
row_fits close = true
row_fits changeover = true

-- an event whose fields have their widths: every event that the code holds, but for an opening with another row
abbrev pub Sized : EventValue → Type 0
Sized (opening row) = length row ≡ 14
Sized (new_step seat market shares discount stamp) = (discount < 2 ^ 16) × (stamp < 2 ^ 64)
Sized (raise seat shares step discount stamp) = (step < 2 ^ 16) × (discount < 2 ^ 16) × (stamp < 2 ^ 64)
Sized close = Unit {0}
Sized changeover = Unit {0}

-- these bytes keep the event: they are its own, 16 in all, and it is read back from them
pub record Keeps (bs : List ℕ) (e : EventValue) : Type 0 where
  pub bytes : bs ≡ encoded e
  pub long : length bs ≡ 16
  pub back : decoded bs ≡ Ok e

-- what making the bytes of an event answers
abbrev pub Encoded : Result (List ℕ) RecordFault → EventValue → Type 0
Encoded (Ok bs) e = (row_fits e ≡ true) × Keeps bs e
Encoded (Err f) e = (row_fits e ≡ false) × (f ≡ RowLength)
