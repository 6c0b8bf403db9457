-- The numbers that follow a line's first word.
use Rattle.std.specs.Prelude.{ℕ, suc, ◌≤◌, cond, List, [], ◌∷◌, Ok, Err, Result, nat_le, slice_index}
use Rattle.std.specs.Str.Parse.{digits_value}
use Rattle.std.specs.Str.{all_ascii_digits}
use Rattle.lines.specs.declared.fault.LineFault.{LineFault}
use Rattle.lines.specs.declared.fault.LineFault.TheVariants.{Missing, NotANumber, TooLarge, Surplus}
use Rattle.lines.specs.Words.{skip, word, rest}

-- the number in field n, which a word writes in digits, at most as large as the field holds
abbrev pub number_in : (most n : ℕ) → List ℕ → Result ℕ LineFault
number_in most n [] = Err (Missing n)
number_in most n (b ∷ bs) =
    cond (all_ascii_digits (b ∷ bs)) (cond (nat_le (digits_value 10 (b ∷ bs)) most) (Ok (digits_value 10 (b ∷ bs))) (Err (TooLarge n most))) (Err (NotANumber n))

-- a number before others, where none is refused: the first refusal counts
abbrev pub before : Result ℕ LineFault → Result (List ℕ) LineFault → Result (List ℕ) LineFault
before (Ok v) (Ok vs) = Ok (v ∷ vs)
before (Ok v) (Err f) = Err f
before (Err f) vs = Err f

-- no word is left
abbrev pub ended : List ℕ → Result (List ℕ) LineFault
ended [] = Ok []
ended (b ∷ bs) = Err Surplus

-- the numbers of a text from field n on: one for each limit, and no word more
abbrev pub fields : (limits : List ℕ) (n : ℕ) (text : List ℕ) → Result (List ℕ) LineFault
fields [] n text = ended (skip text)
fields (most ∷ limits) n text = before (number_in most n (word text)) (fields limits (suc n) (rest text))

-- no number is over its limit
abbrev pub Under : (limits numbers : List ℕ) → Type 0
Under limits numbers = (k : ℕ) → slice_index numbers k ≤ slice_index limits k
