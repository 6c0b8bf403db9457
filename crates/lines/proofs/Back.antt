-- What is shown of a line is parsed back to what the line says.
use Rattle.std.proofs.Common.{◌≡◌, ℕ, zero, suc, ◌+◌, ◌*◌, ◌/◌, ◌%◌, ◌^◌, ◌<◌, ◌≤◌, true, false, List, [], ◌∷◌, ◌++◌, length, get_or, replicate, Some, Ok, codes, decimal, refl, ap, ◌∙◌, arith, rules}
use Rattle.std.specs.Char.{is_ascii_digit}
use Rattle.std.specs.List.{AllZip}
use Rattle.std.specs.Str.{all_ascii_digits}
use Rattle.std.proofs.lemmas.Fmt.{digits_decimal, digits_value-decimal, decimal_nonempty}
use Rattle.std.proofs.ByRecursion.{All-append}
use Rattle.std.proofs.lemmas.Bool.{and_parts}
use Rattle.std.proofs.lemmas.Bool.Decides.{nat_tests}
use Rattle.records.specs.Event.{opening, new_step, raise, close, changeover}
use Rattle.lines.specs.Record.{Record, deposit, event, Fits}
use Rattle.lines.specs.Words.{blank, skip, front, back, word, rest}
use Rattle.lines.specs.Fields.{number_in, fields}
use Rattle.lines.specs.Row.{row_of, increments}
use Rattle.lines.specs.Parsed.{parsed, deposit_limits, open_limits, enter_limits, raise_limits, open_of, filled, spoken}
use Rattle.lines.specs.Shown.{first_word, numbers_of, listed, shown_record, OneLine, Written}
use Rattle.lines.proofs.Figures.{figures, number_held}

-- a digit is no blank
digit_solid : (b : ℕ) → is_ascii_digit b ≡ true → blank b ≡ false
digit_solid b h = grind (arith, nat_tests)

-- a word of digits, before what begins with a blank or is empty
module _ (t : List ℕ) where
  front_digits : (ds : List ℕ) → all_ascii_digits ds ≡ true → front t ≡ [] → front (ds ++ t) ≡ ds
  front_digits [] d e = e
  front_digits (b ∷ bs) d e =
      let p = and_parts (is_ascii_digit b) (all_ascii_digits bs) d in
      rw (digit_solid b p.0, front_digits bs p.1 e)

  back_digits : (ds : List ℕ) → all_ascii_digits ds ≡ true → back t ≡ t → back (ds ++ t) ≡ t
  back_digits [] d e = e
  back_digits (b ∷ bs) d e =
      let p = and_parts (is_ascii_digit b) (all_ascii_digits bs) d in
      rw (digit_solid b p.0) (back_digits bs p.1 e)

  skip_digits : (ds : List ℕ) → all_ascii_digits ds ≡ true → 0 < length ds → skip (ds ++ t) ≡ ds ++ t
  skip_digits [] d s = absurd (omega arith)
  skip_digits (b ∷ bs) d s = rw (digit_solid b (and_parts (is_ascii_digit b) (all_ascii_digits bs) d).0)

-- numbers that are listed begin with a blank, if there are any
front_listed : (ns : List ℕ) → front (listed ns) ≡ []
front_listed [] = refl
front_listed (n ∷ ns) = refl

back_listed : (ns : List ℕ) → back (listed ns) ≡ listed ns
back_listed [] = refl
back_listed (n ∷ ns) = refl

module _ (n : ℕ) (ns : List ℕ) (h : n < 2 ^ 64) where
  word_listed : word (listed (n ∷ ns)) ≡ decimal n
  word_listed =
      let d = digits_decimal figures n h in
      ap front (skip_digits (listed ns) (decimal n) d (decimal_nonempty n h)) ∙ front_digits (listed ns) (decimal n) d (front_listed ns)

  rest_listed : rest (listed (n ∷ ns)) ≡ listed ns
  rest_listed =
      let d = digits_decimal figures n h in
      ap back (skip_digits (listed ns) (decimal n) d (decimal_nonempty n h)) ∙ back_digits (listed ns) (decimal n) d (back_listed ns)

  number_listed : (most at : ℕ) → n ≤ most → number_in most at (decimal n) ≡ Ok n
  number_listed most at k =
      let v = digits_value-decimal figures n h in
      number_held most at (decimal n) (decimal_nonempty n h) (digits_decimal figures n h) (rw v k) ∙ ap (λ (x : ℕ). Ok x) v

-- a number for each limit, none over it
abbrev pub Room : List ℕ → List ℕ → Type 0
Room limits ns = AllZip (λ most n. (n ≤ most) × (n < 2 ^ 64)) limits ns

-- numbers that are listed are read back, from any field on
pub fields_back : (limits ns : List ℕ) (at : ℕ) → Room limits ns → fields limits at (listed ns) ≡ Ok ns
fields_back [] [] at h = refl
fields_back [] (n ∷ ns) at h = absurd h
fields_back (most ∷ limits) [] at h = absurd h
fields_back (most ∷ limits) (n ∷ ns) at h =
    rw (word_listed n ns h.0.1, rest_listed n ns h.0.1, number_listed n ns h.0.1 most at h.0.0, fields_back limits ns (suc at) h.1)

-- a row of whole increments is made again from them
pub row_back : (k : ℕ) (row : List ℕ) → length row ≡ 2 * k → ((j : ℕ) → get_or row j 0 < 256) → row_of (increments row) ≡ row
row_back k [] e h = refl
row_back k (a ∷ []) e h = absurd (omega arith)
row_back zero (a ∷ b ∷ bs) e h = absurd (omega arith)
row_back (suc k) (a ∷ b ∷ bs) e h =
    let x = h 0 in
    let y = h 1 in
    let high : (a * 256 ^ 1 + (b * 256 ^ 0 + 0)) / 256 ^ 1 % 256 ≡ a = omega arith in
    let low : (a * 256 ^ 1 + (b * 256 ^ 0 + 0)) / 256 ^ 0 % 256 ≡ b = omega arith in
    rw (high, low, row_back k bs (omega arith) (λ j. h (suc (suc j))))

-- and each of them has two bytes
increments_room : (k : ℕ) (row : List ℕ) → length row ≡ 2 * k → ((j : ℕ) → get_or row j 0 < 256) → Room (replicate k 65535) (increments row)
increments_room zero [] e h = tt
increments_room (suc k) [] e h = absurd (omega arith)
increments_room k (a ∷ []) e h = absurd (omega arith)
increments_room zero (a ∷ b ∷ bs) e h = absurd (omega arith)
increments_room (suc k) (a ∷ b ∷ bs) e h =
    let x = h 0 in
    let y = h 1 in
    ((omega arith, omega arith), increments_room k bs (omega arith) (λ j. h (suc (suc j))))

-- the most that each number of a record may be
abbrev limits_of : Record → List ℕ
limits_of (deposit dollars) = deposit_limits
limits_of (event (opening row)) = open_limits
limits_of (event (new_step seat market shares discount stamp)) = enter_limits
limits_of (event (raise seat shares step discount stamp)) = raise_limits
limits_of (event close) = []
limits_of (event changeover) = []

-- a record whose figures have their widths has room in its fields
numbers_room : (r : Record) → Fits r → Room (limits_of r) (numbers_of r)
numbers_room (deposit dollars) h = search rules
numbers_room (event (opening row)) h = increments_room 7 row h.0 h.1
numbers_room (event (new_step seat market shares discount stamp)) h = search rules
numbers_room (event (raise seat shares step discount stamp)) h = search rules
numbers_room (event close) h = tt
numbers_room (event changeover) h = tt

numbers_back : (r : Record) → Fits r → fields (limits_of r) 1 (listed (numbers_of r)) ≡ Ok (numbers_of r)
numbers_back r h = fields_back (limits_of r) (numbers_of r) 1 (numbers_room r h)

-- the word of an opening is read, however many increments follow
open_begun : (ns : List ℕ) → parsed (codes "open" ++ listed ns) ≡ spoken (filled open_of (fields open_limits 1 (listed ns)))
open_begun [] = refl
open_begun (n ∷ ns) = refl

-- what is shown of a record is parsed back
pub line_back : (r : Record) → Fits r → parsed (shown_record r) ≡ Ok (Some r)
line_back (deposit dollars) h = rw (numbers_back (deposit dollars) h)
line_back (event (opening row)) h = open_begun (increments row) ∙ rw (numbers_back (event (opening row)) h, row_back 7 row h.0 h.1)
line_back (event (new_step seat market shares discount stamp)) h = rw (numbers_back (event (new_step seat market shares discount stamp)) h)
line_back (event (raise seat shares step discount stamp)) h = rw (numbers_back (event (raise seat shares step discount stamp)) h)
line_back (event close) h = refl
line_back (event changeover) h = refl

digit_runs_on : (b : ℕ) → is_ascii_digit b ≡ true → b ≡ 10 → ⊥
digit_runs_on b h e = grind (arith, nat_tests)

digits_run_on : (ds : List ℕ) → all_ascii_digits ds ≡ true → OneLine ds
digits_run_on [] d = tt
digits_run_on (b ∷ bs) d = let p = and_parts (is_ascii_digit b) (all_ascii_digits bs) d in (digit_runs_on b p.0, digits_run_on bs p.1)

listed_runs_on : (limits ns : List ℕ) → Room limits ns → OneLine (listed ns)
listed_runs_on [] [] h = tt
listed_runs_on [] (n ∷ ns) h = absurd h
listed_runs_on (most ∷ limits) [] h = absurd h
listed_runs_on (most ∷ limits) (n ∷ ns) h =
    (λ e. omega arith, All-append (λ b. b ≡ 10 → ⊥) (decimal n) (listed ns) (digits_run_on (decimal n) (digits_decimal figures n h.0.1)) (listed_runs_on limits ns h.1))

word_runs_on : (r : Record) → OneLine (first_word r)
word_runs_on (deposit dollars) = search rules
word_runs_on (event (opening row)) = search rules
word_runs_on (event (new_step seat market shares discount stamp)) = search rules
word_runs_on (event (raise seat shares step discount stamp)) = search rules
word_runs_on (event close) = search rules
word_runs_on (event changeover) = search rules

-- what is shown of a record stays on its line
pub no_newline : (r : Record) → Fits r → OneLine (shown_record r)
no_newline r h = All-append (λ b. b ≡ 10 → ⊥) (first_word r) (listed (numbers_of r)) (word_runs_on r) (listed_runs_on (limits_of r) (numbers_of r) (numbers_room r h))

-- all of it at once
pub written : (r : Record) → Fits r → Written (shown_record r) r
written r h = record { text = refl; stays = no_newline r h; back = line_back r h }
