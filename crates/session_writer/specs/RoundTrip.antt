-- What is put is read back, and nothing else changes.
use Rattle.std.specs.Prelude.{◌≡◌, ℕ, ◌+◌, ◌<◌, true, List, length, take, drop, Ok, slice_index, slice_index_or}
use Rattle.records.specs.Event.{EventValue, close, encoded, row_fits, Keeps}
use Rattle.faults.specs.declared.section.Section.{Section}
use Rattle.faults.specs.declared.section.Section.TheVariants.{Deposits, Events}
use Rattle.sessions.specs.Layout.{count, place, width}
use Rattle.sessions.specs.Reading.{opened, record_at, deposit_at, event_at}

-- the file new is the file old, but for the bytes of the record n of the section s: every other record reads as before
pub record OnlyRecord (s : Section) (old new : List ℕ) (n : ℕ) : Type 0 where
  pub opens : opened new ≡ opened old
  pub counts : (t : Section) → count t new ≡ count t old
  pub others : (t : Section) (k : ℕ) → ((t ≡ s) × (k ≡ n) → ⊥) → record_at t new k ≡ record_at t old k
  pub before : take (place s old n) new ≡ take (place s old n) old
  pub behind : drop (place s old n + width s) new ≡ drop (place s old n + width s) old

-- and the deposit n is these dollars
pub record DepositIn (old new : List ℕ) (n dollars : ℕ) : Type 0 where
  pub here : deposit_at new n ≡ Ok dollars
  pub only : OnlyRecord Deposits old new n

-- and the event n is this one
pub record EventIn (old new : List ℕ) (n : ℕ) (e : EventValue) : Type 0 where
  pub here : event_at new n ≡ Ok e
  pub only : OnlyRecord Events old new n

-- the file new may be read, has places for c deposits and m events, and is the memory old behind its header
pub record HeaderIn (old new : List ℕ) (c m : ℕ) : Type 0 where
  pub opens : opened new ≡ Ok tt
  pub deposits : count Deposits new ≡ c
  pub events : count Events new ≡ m
  pub behind : drop 16 new ≡ drop 16 old

-- the event can be kept in 16 bytes
abbrev pub Kept : EventValue → Type 0
Kept e = (row_fits e ≡ true) × Keeps (encoded e) e

abbrev pub AllKept : List EventValue → Type 0
AllKept es = (k : ℕ) → k < length es → Kept (slice_index_or es k close)

-- the file gives back these deposits and these events, record for record, and no other
pub record SessionIn (bs : List ℕ) (ds : List ℕ) (es : List EventValue) : Type 0 where
  pub opens : opened bs ≡ Ok tt
  pub deposits : count Deposits bs ≡ length ds
  pub events : count Events bs ≡ length es
  pub all_deposits : (k : ℕ) → k < length ds → deposit_at bs (k + 1) ≡ Ok (slice_index ds k)
  pub all_events : (k : ℕ) → k < length es → event_at bs (k + 1) ≡ Ok (slice_index_or es k close)
