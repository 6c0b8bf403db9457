-- A header in the standard layout may be read, and says what was written.
use Rattle.std.proofs.Common.{◌≡◌, ℕ, ◌+◌, ◌*◌, ◌<◌, ◌≤◌, true, false, ltb, List, ◌++◌, length, take, drop, Ok, sym, refl, subst, arith, length-append, length-drop}
use Rattle.std.proofs.lemmas.Bool.Decides.{nat_tests}
use Rattle.std.specs.Str.{bytes_eq}
use Rattle.records.proofs.BigEndian.{number_back}
use Rattle.faults.specs.declared.section.Section.TheVariants.{Deposits, Events}
use Rattle.sessions.specs.Layout.{letters, count, start, finish, header_of, size_of}
use Rattle.sessions.specs.Reading.{opened, outside, overlap}
use Rattle.session_writer.specs.Writing.{room_for, Room}
use Rattle.session_writer.specs.RoundTrip.{HeaderIn}

-- sections one behind the other, within the file
opens_when : (bs : List ℕ) → 16 ≤ length bs → bytes_eq (take 4 bs) letters ≡ true → 16 ≤ start Deposits bs → finish Deposits bs ≤ start Events bs → finish Events bs ≤ length bs → opened bs ≡ Ok tt
opens_when bs long same a b c =
    let p : ltb (length bs) 16 ≡ false = grind (arith, nat_tests) in
    let q : outside Deposits bs ≡ false = grind (arith, nat_tests) in
    let r : outside Events bs ≡ false = grind (arith, nat_tests) in
    let s : overlap (start Deposits bs) (finish Deposits bs) (start Events bs) (finish Events bs) ≡ false = grind (arith, nat_tests) in
    rw (p, same, q, r, s)

module _ (c m : ℕ) (rest : List ℕ) (few : c < 65536) (few' : m < 65536) where
  pub deposit_count : count Deposits (header_of c m ++ rest) ≡ c
  deposit_count = number_back 2 c (omega arith)

  pub event_count : count Events (header_of c m ++ rest) ≡ m
  event_count = number_back 2 m (omega arith)

  pub deposit_start : start Deposits (header_of c m ++ rest) ≡ 16
  deposit_start = number_back 4 16 (omega arith)

  pub event_start : start Events (header_of c m ++ rest) ≡ 16 + 4 * c
  event_start = number_back 4 (16 + 4 * c) (omega arith)

  pub header_opens : size_of c m ≤ length (header_of c m ++ rest) → opened (header_of c m ++ rest) ≡ Ok tt
  header_opens room =
      let a = deposit_count in
      let b = event_count in
      let d = deposit_start in
      let e = event_start in
      opens_when (header_of c m ++ rest) (omega arith) refl (omega arith) (omega arith) (omega arith)

pub room : (size c m : ℕ) → Ok tt ≡ room_for size c m → Room size c m
room size c m h = record { deposits = grind (arith, nat_tests); events = grind (arith, nat_tests); fits = grind (arith, nat_tests) }

pub header_back : (ms ys : List ℕ) (c m : ℕ) → room_for (length ms) c m ≡ Ok tt → ys ≡ header_of c m → HeaderIn ms (ys ++ drop 16 ms) c m
header_back ms ys c m h y =
    let r = room (length ms) c m (sym h) in
    let size = length-append (header_of c m) (drop 16 ms) in
    subst (λ (head : List ℕ). HeaderIn ms (head ++ drop 16 ms) c m) (sym y)
    (record { opens = header_opens c m (drop 16 ms) r.deposits r.events (omega (arith, r.fits, length-drop 16 ms)); deposits = deposit_count c m (drop 16 ms) r.deposits r.events; events = event_count c m (drop 16 ms) r.deposits r.events; behind = refl })
