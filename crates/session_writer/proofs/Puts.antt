-- A record put into a file is read back, and no other record changes.
use Rattle.std.proofs.Common.{◌≡◌, ℕ, ◌+◌, ◌-◌, ◌*◌, ◌^◌, ◌<◌, ◌≤◌, Bool, true, false, cond, ◌⊎◌, List, length, take, Ok, Result, sym, refl, ap, ◌∙◌, subst, arith}
use borrow.Rule.Slice.PartMut.{put_mid}
use Rattle.records.specs.Bytes.{be, bytes_of}
use Rattle.records.specs.Event.{EventValue, encoded, decoded}
use Rattle.records.proofs.BigEndian.{number_back}
use Rattle.faults.specs.declared.section.Section.{Section}
use Rattle.faults.specs.declared.section.Section.TheVariants.{Deposits, Events}
use Rattle.faults.specs.declared.file.FileFault.{FileFault}
use Rattle.sessions.specs.Layout.{count, place, width}
use Rattle.sessions.specs.Reading.{opened, numbered, next, record_at, located, of_number}
use Rattle.session_writer.specs.Writing.{written}
use Rattle.session_writer.specs.RoundTrip.{OnlyRecord, DepositIn, EventIn, Kept}
use Rattle.sessions.proofs.Records.{opened_record}
use Rattle.sessions.proofs.Header.{Found, found, record_within, records_apart}
use Rattle.session_writer.proofs.Written as kept

-- one test before two answers
same_answer : {X : Type 0} (b c : Bool) (x y f : Result X FileFault) → b ≡ c → (c ≡ true → x ≡ y) → cond b x f ≡ cond c y f
same_answer b true x y f p q = rw (p, q refl)
same_answer b false x y f p q = rw p

-- a write of the record n of the section s, found at a place
module _ (s : Section) (ms ys : List ℕ) (n at : ℕ) (f : Found s ms n at) (size : length ys ≡ width s) where
  low : 16 ≤ at
  low = let w = record_within s ms n f.opens f.counted in omega (arith, f.here)

  room : at + length ys ≤ length ms
  room = let w = record_within s ms n f.opens f.counted in omega (arith, f.here)

  top : take 16 (written ms at ys) ≡ take 16 ms
  top = kept.take_written ms ys at room 16 low

  opens : opened (written ms at ys) ≡ opened ms
  opens = kept.same_opened (written ms at ys) ms top (kept.length_written ms ys at room)

  same_place : (t : Section) (k : ℕ) → place t (written ms at ys) k ≡ place t ms k
  same_place t k = ap (λ z. z + width t * (k - 1)) (kept.same_start (written ms at ys) ms top t)

  counts : (t : Section) → count t (written ms at ys) ≡ count t ms
  counts = kept.same_count (written ms at ys) ms top

  others : (t : Section) (k : ℕ) → ((t ≡ s) × (k ≡ n) → ⊥) → record_at t (written ms at ys) k ≡ record_at t ms k
  others t k ne =
      opened_record t (written ms at ys) k (place t ms k) (opens ∙ f.opens) (same_place t k)
      ∙ same_answer _ _ _ _ _ (ap (λ c. numbered k c) (counts t)) (λ q. ap Ok (kept.apart_written ms ys at room (place t ms k) (place t ms k + width t) (apart q)))
      ∙ sym (opened_record t ms k (place t ms k) f.opens refl)
    where
      apart : numbered k (count t ms) ≡ true → (place t ms k + width t ≤ at) ⊎ (at + length ys ≤ place t ms k)
      apart q = subst (λ (z : ℕ). (place t ms k + width t ≤ z) ⊎ (z + length ys ≤ place t ms k)) (sym f.here) (subst (λ (w : ℕ). (place t ms k + width t ≤ place s ms n) ⊎ (place s ms n + w ≤ place t ms k)) (sym size) (records_apart s t ms n k f.opens f.counted q ne))

  pub only_record : OnlyRecord s ms (written ms at ys) n
  only_record =
      record {
        opens = opens;
        counts = counts;
        others = others;
        before = kept.take_written ms ys at room (place s ms n) (omega (arith, f.here));
        behind = kept.drop_written ms ys at room (place s ms n + width s) (omega (arith, f.here));
      }

  pub record_back : record_at s (written ms at ys) n ≡ Ok ys
  record_back =
      opened_record s (written ms at ys) n at (opens ∙ f.opens) (same_place s n ∙ sym f.here)
      ∙ same_answer _ true _ _ _ (ap (λ c. numbered n c) (counts s) ∙ f.counted) (λ _. ap Ok (kept.here_written ms ys at room (at + width s) (omega arith)))

module _ (ms ys : List ℕ) (n at k : ℕ) where
  pub deposit_back : (dollars : ℕ) → Ok at ≡ located Deposits ms n → dollars < 2 ^ 32 → ys ≡ bytes_of 4 dollars → k ≡ 4 → DepositIn ms (put_mid at k ms ys) n dollars
  deposit_back d h small y size =
      let f = found Deposits ms n at (sym h) in
      let bs = bytes_of 4 d in
      let same : written ms at bs ≡ put_mid at k ms ys = kept.part_written ms ys bs at k y size in
      subst (λ (new : List ℕ). DepositIn ms new n d) same (record { here = ap (λ r. next r (λ z. Ok (be 4 z 0))) (record_back Deposits ms bs n at f refl) ∙ ap Ok (number_back 4 d small); only = only_record Deposits ms bs n at f refl })

  pub event_back : (e : EventValue) → Ok at ≡ located Events ms n → ys ≡ encoded e → Kept e → k ≡ 16 → EventIn ms (put_mid at k ms ys) n e
  event_back e h y keeps size =
      let f = found Events ms n at (sym h) in
      let bs = encoded e in
      let same : written ms at bs ≡ put_mid at k ms ys = kept.part_written ms ys bs at k y (omega (arith, keeps.1.long)) in
      subst (λ (new : List ℕ). EventIn ms new n e) same (record { here = ap (λ r. next r (λ z. of_number n (decoded z))) (record_back Events ms bs n at f keeps.1.long) ∙ ap (of_number n) keeps.1.back; only = only_record Events ms bs n at f keeps.1.long })
