-- A whole session, written record by record and read back.
use Rattle.std.proofs.Common.{◌≡◌, ℕ, ◌+◌, ◌-◌, ◌*◌, ◌^◌, ◌<◌, true, false, cond, List, ◌++◌, length, get_or, drop, Ok, Err, sym, refl, ap, ◌∙◌, subst, append_assoc, add_assoc, arith, below_more}
use Rattle.std.specs.List.{between, flat_map}
use Rattle.std.proofs.lemmas.List.{drop_more, length-append}
use Rattle.std.proofs.lemmas.Bool.Decides.{nat_tests}
use Rattle.faults.specs.declared.record.RecordFault.TheVariants.{RowLength}
use Rattle.records.specs.Bytes.{be, bytes_of}
use Rattle.records.specs.Event.{EventValue, close, encoded, decoded, row_fits}
use Rattle.records.proofs.BigEndian.{number_back, length_bytes_of}
use Rattle.faults.specs.declared.section.Section.TheVariants.{Deposits, Events}
use Rattle.faults.specs.declared.file.FileFault.{FileFault}
use Rattle.faults.specs.declared.file.FileFault.TheVariants.{Record}
use Rattle.sessions.specs.Layout.{header_of, count, place}
use Rattle.sessions.specs.Reading.{opened, next, numbered, deposit_at, event_at, of_number}
use Rattle.session_writer.specs.Writing.{written, Room, rows_fit, session_fits, session_bytes, session_put}
use Rattle.session_writer.specs.RoundTrip.{Kept, AllKept, SessionIn}
use Rattle.session_writer.proofs.Layouts.{header_opens, deposit_count, event_count, deposit_start, event_start}
use Rattle.sessions.proofs.Records.{record_read}
use Rattle.session_writer.proofs.Sections.{Even, length_joined, joined_part, written_more, between_behind, between_front}

-- the test of the rows, one event on
module _ (vs : List EventValue) (i : ℕ) (h : i < length vs) (v : EventValue) (e : get_or vs i close ≡ v) where
  rows_next : rows_fit (i + 1) (drop i vs) ≡ cond (row_fits v) (rows_fit (i + 1 + 1) (drop (i + 1) vs)) (Err (Record (i + 1) RowLength))
  rows_next = ap (λ l. rows_fit (i + 1) l) (drop_more vs i close h) ∙ ap (λ x. cond (row_fits x) (rows_fit (i + 1 + 1) (drop (i + 1) vs)) (Err (Record (i + 1) RowLength))) e

  pub rows_stop : (f : FileFault) → (row_fits v ≡ false) × (f ≡ Record (i + 1) RowLength) → rows_fit (i + 1) (drop i vs) ≡ rows_fit 1 vs → Err f ≡ rows_fit 1 vs
  rows_stop f p q = rw p.1 (sym (rw p.0 at rows_next) ∙ q)

  pub rows_pass : Kept v → (rows_fit (i + 1) (drop i vs) ≡ rows_fit 1 vs) × ((k : ℕ) → k < i → Kept (get_or vs k close)) → (rows_fit (i + 1 + 1) (drop (i + 1) vs) ≡ rows_fit 1 vs) × ((k : ℕ) → k < i + 1 → Kept (get_or vs k close))
  rows_pass p q =
      (sym (rw p.0 at rows_next) ∙ q.0, below_more (λ k. Kept (get_or vs k close)) i q.1 (subst (λ (x : EventValue). Kept x) (sym e) p))

pub even_deposits : (ds : List ℕ) → Even (bytes_of 4) 4 0 ds
even_deposits ds k h = length_bytes_of 4 (get_or ds k 0)

pub even_events : (vs : List EventValue) → AllKept vs → Even encoded 16 close vs
even_events vs kept k h = (kept k h).1.long

counted : (k many : ℕ) → k < many → numbered (k + 1) many ≡ true
counted k many h = grind (arith, nat_tests)

-- the file of these deposits and events, with anything behind it, gives them back
module _ (ds : List ℕ) (vs : List EventValue) (rest : List ℕ) (few : length ds < 65536) (few' : length vs < 65536) (small : (k : ℕ) → get_or ds k 0 < 2 ^ 32) (kept : AllKept vs) where
  -- what stands behind the header
  abbrev tail : List ℕ
  tail = (flat_map (bytes_of 4) ds ++ flat_map encoded vs) ++ rest

  abbrev file : List ℕ
  file = session_bytes ds vs ++ rest

  deposit_bytes : length (flat_map (bytes_of 4) ds) ≡ 4 * length ds
  deposit_bytes = length_joined (bytes_of 4) 4 0 ds (even_deposits ds)

  event_bytes : length (flat_map encoded vs) ≡ 16 * length vs
  event_bytes = length_joined encoded 16 close vs (even_events vs kept)

  -- it is the deposits, the events, and the rest
  behind : tail ≡ flat_map (bytes_of 4) ds ++ (flat_map encoded vs ++ rest)
  behind = append_assoc (flat_map (bytes_of 4) ds) (flat_map encoded vs) rest

  opens : opened file ≡ Ok tt
  opens =
      let size = length-append (flat_map (bytes_of 4) ds ++ flat_map encoded vs) rest in
      let sum = length-append (flat_map (bytes_of 4) ds) (flat_map encoded vs) in
      let a = deposit_bytes in
      let b = event_bytes in
      header_opens (length ds) (length vs) tail few few' (omega arith)

  deposits : count Deposits file ≡ length ds
  deposits = deposit_count (length ds) (length vs) tail few few'

  events : count Events file ≡ length vs
  events = event_count (length ds) (length vs) tail few few'

  deposit_place : (k : ℕ) → place Deposits file (k + 1) ≡ 16 + 4 * k
  deposit_place k = let s = deposit_start (length ds) (length vs) tail few few' in ap (λ z. z + 4 * (k + 1 - 1)) s ∙ omega arith

  event_place : (k : ℕ) → place Events file (k + 1) ≡ 16 + (4 * length ds + 16 * k)
  event_place k = let s = event_start (length ds) (length vs) tail few few' in ap (λ z. z + 16 * (k + 1 - 1)) s ∙ omega arith

  deposit_record : (k : ℕ) → k < length ds → between (16 + 4 * k) (16 + 4 * k + 4) file ≡ bytes_of 4 (get_or ds k 0)
  deposit_record k h =
      let a = deposit_bytes in
      ap (λ z. between (16 + 4 * k) z file) (add_assoc 16 (4 * k) 4)
      ∙ between_behind (header_of (length ds) (length vs)) tail 16 (4 * k) (4 * k + 4) refl
      ∙ ap (λ l. between (4 * k) (4 * k + 4) l) behind
      ∙ between_front (flat_map (bytes_of 4) ds) (flat_map encoded vs ++ rest) (4 * k) (4 * k + 4) (omega arith) (omega arith)
      ∙ joined_part (bytes_of 4) 4 0 ds (even_deposits ds) k h

  event_record : (k : ℕ) → k < length vs → between (16 + (4 * length ds + 16 * k)) (16 + (4 * length ds + 16 * k) + 16) file ≡ encoded (get_or vs k close)
  event_record k h =
      let b = event_bytes in
      ap (λ z. between (16 + (4 * length ds + 16 * k)) z file) (omega arith)
      ∙ between_behind (header_of (length ds) (length vs)) tail 16 (4 * length ds + 16 * k) (4 * length ds + (16 * k + 16)) refl
      ∙ ap (λ l. between (4 * length ds + 16 * k) (4 * length ds + (16 * k + 16)) l) behind
      ∙ between_behind (flat_map (bytes_of 4) ds) (flat_map encoded vs ++ rest) (4 * length ds) (16 * k) (16 * k + 16) deposit_bytes
      ∙ between_front (flat_map encoded vs) rest (16 * k) (16 * k + 16) (omega arith) (omega arith)
      ∙ joined_part encoded 16 close vs (even_events vs kept) k h

  deposits_back : (k : ℕ) → k < length ds → deposit_at file (k + 1) ≡ Ok (get_or ds k 0)
  deposits_back k h =
      ap (λ r. next r (λ bs. Ok (be 4 bs 0))) (record_read Deposits file (k + 1) (16 + 4 * k) _ opens (ap (λ c. numbered (k + 1) c) deposits ∙ counted k (length ds) h) (deposit_place k) (deposit_record k h))
      ∙ ap Ok (number_back 4 (get_or ds k 0) (small k))

  events_back : (k : ℕ) → k < length vs → event_at file (k + 1) ≡ Ok (get_or vs k close)
  events_back k h =
      ap (λ r. next r (λ bs. of_number (k + 1) (decoded bs))) (record_read Events file (k + 1) (16 + (4 * length ds + 16 * k)) _ opens (ap (λ c. numbered (k + 1) c) events ∙ counted k (length vs) h) (event_place k) (event_record k h))
      ∙ ap (of_number (k + 1)) (kept k h).1.back

  pub session_in : SessionIn (session_bytes ds vs ++ rest) ds vs
  session_in = record { opens = opens; deposits = deposits; events = events; all_deposits = deposits_back; all_events = events_back }

-- header, deposits and events, written one behind the other
pub session_is_put : (ms top mid new ds : List ℕ) (vs : List EventValue) → session_fits (length ms) (length ds) vs ≡ Ok tt → Room (length ms) (length ds) (length vs) → ((k : ℕ) → get_or ds k 0 < 2 ^ 32) → AllKept vs → top ≡ written ms 0 (header_of (length ds) (length vs)) → mid ≡ written top 16 (flat_map (bytes_of 4) ds) → new ≡ written mid (16 + 4 * length ds) (flat_map encoded vs) → (session_put ms ds vs ≡ Ok new) × SessionIn new ds vs
session_is_put ms top mid new ds vs fits room small kept a b c =
    let d = length_joined (bytes_of 4) 4 0 ds (even_deposits ds) in
    let e = length_joined encoded 16 close vs (even_events vs kept) in
    let h = header_of (length ds) (length vs) in
    let size = length-append h (flat_map (bytes_of 4) ds) in
    let front : mid ≡ written ms 0 (h ++ flat_map (bytes_of 4) ds) = b ∙ ap (λ m. written m 16 (flat_map (bytes_of 4) ds)) a ∙ written_more ms 0 h (flat_map (bytes_of 4) ds) (omega (arith, room.fits)) in
    let at : 16 + 4 * length ds ≡ 0 + length (h ++ flat_map (bytes_of 4) ds) = omega arith in
    let whole : new ≡ written ms 0 (session_bytes ds vs) = c ∙ ap (λ m. written m (16 + 4 * length ds) (flat_map encoded vs)) front ∙ ap (λ z. written (written ms 0 (h ++ flat_map (bytes_of 4) ds)) z (flat_map encoded vs)) at ∙ written_more ms 0 (h ++ flat_map (bytes_of 4) ds) (flat_map encoded vs) (omega (arith, room.fits)) in
    (ap (λ r. next r (λ _. Ok (written ms 0 (session_bytes ds vs)))) fits ∙ ap Ok (sym whole), subst (λ (l : List ℕ). SessionIn l ds vs) (sym whole) (session_in ds vs _ room.deposits room.events small kept))
