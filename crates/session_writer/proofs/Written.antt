-- What a write leaves as it was, over plain lists of bytes.
use Rattle.std.proofs.Common.{◌≡◌, ℕ, ◌+◌, ◌-◌, ◌≤◌, ◌⊎◌, List, length, take, drop, sym, refl, ap, ◌∙◌, inl, inr, arith, rules}
use borrow.Rule.Slice.PartMut.{put_mid}
use Rattle.std.specs.List.{between}
use Rattle.std.proofs.lemmas.List.{take-take}
use Rattle.std.proofs.lemmas.Slice.{overwrites, between_is, take-put_mid_below, drop-put_mid, between-put_mid}
use Rattle.records.specs.Bytes.{be}
use Rattle.records.proofs.BigEndian.{be_take}
use Rattle.faults.specs.declared.section.Section.{Section}
use Rattle.faults.specs.declared.section.Section.TheVariants.{Deposits, Events}
use Rattle.sessions.specs.Layout.{count, start}
use Rattle.sessions.specs.Reading.{opened}
use Rattle.session_writer.specs.Writing.{written}

module _ (ms ys : List ℕ) (at : ℕ) (room : at + length ys ≤ length ms) where
  pub length_written : length (written ms at ys) ≡ length ms
  length_written = search (rules, overwrites)

  pub take_written : (n : ℕ) → n ≤ at → take n (written ms at ys) ≡ take n ms
  take_written n h = take-put_mid_below at (length ys) ms ys n h (omega arith)

  pub drop_written : (n : ℕ) → at + length ys ≤ n → drop n (written ms at ys) ≡ drop n ms
  drop_written n h = drop-put_mid at (length ys) ms ys n h (omega arith) refl

  pub here_written : (e : ℕ) → e ≡ at + length ys → between at e (written ms at ys) ≡ ys
  here_written e h = between-put_mid at (length ys) ms ys e (omega arith) (omega arith)

  pub apart_written : (a b : ℕ) → (b ≤ at) ⊎ (at + length ys ≤ a) → between a b (written ms at ys) ≡ between a b ms
  apart_written a b (inl h) = between_is (written ms at ys) a b ∙ ap (λ l. drop a l) (take_written b h) ∙ sym (between_is ms a b)
  apart_written a b (inr h) = ap (λ l. take (b - a) l) (drop_written a h)

-- what the code's write to a part leaves is the memory with those bytes written
pub part_written : (ms ys zs : List ℕ) (at k : ℕ) → ys ≡ zs → k ≡ length zs → written ms at zs ≡ put_mid at k ms ys
part_written ms ys zs at k q r = cc

-- two files with one header: it says the same of both
module _ (xs ys : List ℕ) (t : take 16 xs ≡ take 16 ys) where
  same_number : (k i : ℕ) → i + k ≤ 16 → be k xs i ≡ be k ys i
  same_number k i h = sym (be_take k xs i 16 h) ∙ ap (λ l. be k l i) t ∙ be_take k ys i 16 h

  pub same_count : (s : Section) → count s xs ≡ count s ys
  same_count Deposits = same_number 2 4 (omega arith)
  same_count Events = same_number 2 6 (omega arith)

  pub same_start : (s : Section) → start s xs ≡ start s ys
  same_start Deposits = same_number 4 8 (omega arith)
  same_start Events = same_number 4 12 (omega arith)

  pub same_opened : length xs ≡ length ys → opened xs ≡ opened ys
  same_opened l =
      let a = same_count Deposits in
      let b = same_count Events in
      let c = same_start Deposits in
      let d = same_start Events in
      let e : take 4 xs ≡ take 4 ys = sym (take-take 4 16 xs (omega arith)) ∙ ap (λ z. take 4 z) t ∙ take-take 4 16 ys (omega arith) in
      cc
