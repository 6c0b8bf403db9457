-- How a line is written: words with one space between.
use Rattle.std.specs.Prelude.{◌≡◌, ℕ, List, [], ◌∷◌, ◌++◌, Some, Ok, codes, decimal, ◌≢◌}
use Rattle.std.specs.List.{AllByRecursion, flat_map}
use Rattle.records.specs.Event.{opening, new_step, raise, close, changeover}
use Rattle.lines.specs.Record.{Record, deposit, event}
use Rattle.lines.specs.Row.{increments}
use Rattle.lines.specs.Parsed.{parsed}

-- the word that a line begins with
abbrev pub first_word : Record → List ℕ
first_word (deposit dollars) = codes "deposit"
first_word (event (opening row)) = codes "open"
first_word (event (new_step seat market shares discount stamp)) = codes "enter"
first_word (event (raise seat shares step discount stamp)) = codes "raise"
first_word (event close) = codes "close"
first_word (event changeover) = codes "changeover"

-- the numbers that follow it
abbrev pub numbers_of : Record → List ℕ
numbers_of (deposit dollars) = dollars ∷ []
numbers_of (event (opening row)) = increments row
numbers_of (event (new_step seat market shares discount stamp)) = seat ∷ market ∷ shares ∷ discount ∷ stamp ∷ []
numbers_of (event (raise seat shares step discount stamp)) = seat ∷ step ∷ shares ∷ discount ∷ stamp ∷ []
numbers_of (event close) = []
numbers_of (event changeover) = []

-- numbers, each behind a space
abbrev pub listed : List ℕ → List ℕ
listed ns = flat_map (λ n. 32 ∷ decimal n) ns

-- the text of a line
abbrev pub shown_record : Record → List ℕ
shown_record r = first_word r ++ listed (numbers_of r)

-- a text that stays on one line: no byte of it is a newline
abbrev pub OneLine : List ℕ → Type 0
OneLine bs = AllByRecursion (λ b. b ≢ 10) bs

-- a record's own text, which stays on its line and is parsed back to what it says
pub record Written (bs : List ℕ) (r : Record) : Type 0 where
  pub text : bs ≡ shown_record r
  pub stays : OneLine bs
  pub back : parsed bs ≡ Ok (Some r)
