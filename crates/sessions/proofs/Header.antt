-- What a header that may be read says of its sections, and where their records lie.
use Rattle.std.proofs.Common.{◌≡◌, ℕ, suc, ◌+◌, ◌-◌, ◌*◌, ◌<◌, ◌≤◌, Bool, true, false, cond, ◌⊎◌, List, length, take, Ok, Err, Result, IfOk, sym, refl, ap, ◌∙◌, inl, inr, mul-le-mul_left, mul-suc, arith}
use Rattle.std.proofs.lemmas.Bool.{cases_lt}
use Rattle.std.proofs.lemmas.Bool.Decides.{nat_tests}
use Rattle.faults.specs.declared.file.FileFault.{FileFault}
use Rattle.faults.specs.declared.file.FileFault.TheVariants.{NoRecord}
use Rattle.faults.specs.declared.section.Section.{Section}
use Rattle.faults.specs.declared.section.Section.TheVariants.{Deposits, Events}
use Rattle.sessions.specs.Layout.{count, start, finish, place, width}
use Rattle.sessions.specs.Reading.{opened, numbered, placed, located, next}
use Rattle.records.proofs.BigEndian.{be_take}

-- each section lies behind the header and within the file, and the two lie apart
pub record Sound (bs : List ℕ) : Type 0 where
  pub long : 16 ≤ length bs
  pub low : (s : Section) → 16 ≤ start s bs
  pub high : (s : Section) → finish s bs ≤ length bs
  pub apart : 0 < count Deposits bs → 0 < count Events bs → (finish Deposits bs ≤ start Events bs) ⊎ (finish Events bs ≤ start Deposits bs)

low_of : (bs : List ℕ) → opened bs ≡ Ok tt → (s : Section) → 16 ≤ start s bs
low_of bs h Deposits = grind (arith, nat_tests)
low_of bs h Events = grind (arith, nat_tests)

high_of : (bs : List ℕ) → opened bs ≡ Ok tt → (s : Section) → finish s bs ≤ length bs
high_of bs h Deposits = grind (arith, nat_tests)
high_of bs h Events = grind (arith, nat_tests)

pub sound : (bs : List ℕ) → opened bs ≡ Ok tt → Sound bs
sound bs h = record { long = grind (arith, nat_tests); low = low_of bs h; high = high_of bs h; apart = λ a b. grind (arith, nat_tests) }

pub number_within : (n many : ℕ) → numbered n many ≡ true → (1 ≤ n) × (n ≤ many)
number_within n many h = (grind (arith, nat_tests), grind (arith, nat_tests))

-- a record lies behind the header and within the file
pub record_within : (s : Section) (bs : List ℕ) (n : ℕ) → opened bs ≡ Ok tt → numbered n (count s bs) ≡ true → (16 ≤ place s bs n) × (place s bs n + width s ≤ length bs)
record_within Deposits bs n h k = let f = sound bs h in let w = number_within n (count Deposits bs) k in (omega (arith, f.low Deposits), omega (arith, f.high Deposits))
record_within Events bs n h k = let f = sound bs h in let w = number_within n (count Events bs) k in (omega (arith, f.low Events), omega (arith, f.high Events))

-- what a place that was found says
pub record Found (s : Section) (bs : List ℕ) (n at : ℕ) : Type 0 where
  pub opens : opened bs ≡ Ok tt
  pub counted : numbered n (count s bs) ≡ true
  pub here : at ≡ place s bs n

-- an answer that went through two tests
went_through : {A : Type 0} (r : Result (Unit {0}) FileFault) (b : Bool) (x y : A) (f : FileFault) → next r (λ _. cond b (Ok x) (Err f)) ≡ Ok y → (r ≡ Ok tt) × (b ≡ true) × (y ≡ x)
went_through (Ok _) true x y f h = (refl, refl, cc)
went_through (Ok _) false x y f h = let z : ◌≡◌ {A = ℕ} 0 1 = cc in absurd (omega arith)
went_through (Err e) b x y f h = let z : ◌≡◌ {A = ℕ} 0 1 = cc in absurd (omega arith)

pub found : (s : Section) (bs : List ℕ) (n at : ℕ) → located s bs n ≡ Ok at → Found s bs n at
found s bs n at h =
    let w = went_through (opened bs) (numbered n (count s bs)) (place s bs n) at (NoRecord n) h in
    record { opens = w.0; counted = w.1; here = w.2 }

-- two records of one section, each of w bytes
ahead : (w from n k : ℕ) → 1 ≤ k → k + 1 ≤ n → from + w * (k - 1) + w ≤ from + w * (n - 1)
ahead w from n k a h =
    let m : w * suc (k - 1) ≤ w * (n - 1) = mul-le-mul_left w (omega arith) in
    let s = mul-suc w (k - 1) in
    omega arith

apart_by : (w from n k : ℕ) → 1 ≤ n → 1 ≤ k → (k ≡ n → ⊥) → (from + w * (k - 1) + w ≤ from + w * (n - 1)) ⊎ (from + w * (n - 1) + w ≤ from + w * (k - 1))
apart_by w from n k a b ne = elim (cases_lt k n) [ inl h ↦ inl (ahead w from n k b (omega arith)) | inr h ↦ inr (ahead w from k n a (omega arith)) ]

-- a deposit and an event, where the sections lie apart
across : (d e c m k n : ℕ) → (d + 4 * c ≤ e) ⊎ (e + 16 * m ≤ d) → (1 ≤ k) × (k ≤ c) → (1 ≤ n) × (n ≤ m) → (d + 4 * (k - 1) + 4 ≤ e + 16 * (n - 1)) ⊎ (e + 16 * (n - 1) + 16 ≤ d + 4 * (k - 1))
across d e c m k n (inl h) p q = inl (omega arith)
across d e c m k n (inr h) p q = inr (omega arith)

⊎_swap : {X Y : Type 0} → X ⊎ Y → Y ⊎ X
⊎_swap (inl x) = inr x
⊎_swap (inr y) = inl y

-- the header says of the sections what the file does
head_count : (s : Section) (bs : List ℕ) → count s (take 16 bs) ≡ count s bs
head_count Deposits bs = be_take 2 bs 4 16 (omega arith)
head_count Events bs = be_take 2 bs 6 16 (omega arith)

head_start : (s : Section) (bs : List ℕ) → start s (take 16 bs) ≡ start s bs
head_start Deposits bs = be_take 4 bs 8 16 (omega arith)
head_start Events bs = be_take 4 bs 12 16 (omega arith)

placed_in_head : (s : Section) (bs : List ℕ) (n : ℕ) → opened bs ≡ Ok tt → placed s (take 16 bs) n ≡ located s bs n
placed_in_head s bs n h = rw (h, head_count s bs, head_start s bs)

-- a record that is found lies within the file
located_within : (s : Section) (bs : List ℕ) (n : ℕ) (r : Result ℕ FileFault) → r ≡ located s bs n → IfOk r (λ at. at + width s ≤ length bs)
located_within s bs n (Ok at) h =
    let f = found s bs n at (sym h) in
    let w = record_within s bs n f.opens f.counted in
    omega (arith, f.here)
located_within s bs n (Err e) h = tt

-- what the header of a file that may be read says of a record is so
pub placed_in_file : (s : Section) (bs : List ℕ) (n : ℕ) (head : List ℕ) (r : Result ℕ FileFault) → opened bs ≡ Ok tt → head ≡ take 16 bs → r ≡ placed s head n → (r ≡ located s bs n) × IfOk r (λ at. at + width s ≤ length bs)
placed_in_file s bs n head r h e p =
    let q : r ≡ located s bs n = p ∙ ap (λ l. placed s l n) e ∙ placed_in_head s bs n h in
    (q, located_within s bs n r q)

-- two records that are not one lie apart
pub records_apart : (s t : Section) (bs : List ℕ) (n k : ℕ) → opened bs ≡ Ok tt → numbered n (count s bs) ≡ true → numbered k (count t bs) ≡ true → ((t ≡ s) × (k ≡ n) → ⊥) → (place t bs k + width t ≤ place s bs n) ⊎ (place s bs n + width s ≤ place t bs k)
records_apart Deposits Deposits bs n k h p q ne = apart_by 4 (start Deposits bs) n k (number_within n _ p).0 (number_within k _ q).0 (λ e. ne (refl, e))
records_apart Events Events bs n k h p q ne = apart_by 16 (start Events bs) n k (number_within n _ p).0 (number_within k _ q).0 (λ e. ne (refl, e))
records_apart Deposits Events bs n k h p q ne =
    let v = number_within n _ p in
    let w = number_within k _ q in
    ⊎_swap (across (start Deposits bs) (start Events bs) (count Deposits bs) (count Events bs) n k ((sound bs h).apart (omega arith) (omega arith)) v w)
records_apart Events Deposits bs n k h p q ne =
    let v = number_within n _ p in
    let w = number_within k _ q in
    across (start Deposits bs) (start Events bs) (count Deposits bs) (count Events bs) k n ((sound bs h).apart (omega arith) (omega arith)) w v
