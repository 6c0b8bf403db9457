-- What one line of a session's text says.
use Rattle.std.specs.Prelude.{ℕ, ◌-◌, ◌^◌, Bool, true, cond, List, [], ◌∷◌, replicate, Some, None, Ok, Err, codes, Option, Result, ◌==◌, slice_index}
use Rattle.std.specs.Str.{bytes_eq}
use Rattle.records.specs.Event.{opening, new_step, raise, close, changeover}
use Rattle.lines.specs.declared.fault.LineFault.{LineFault}
use Rattle.lines.specs.declared.fault.LineFault.TheVariants.{UnknownWord}
use Rattle.lines.specs.Record.{Record, deposit, event}
use Rattle.lines.specs.Row.{row_of}
use Rattle.lines.specs.Words.{word, rest}
use Rattle.lines.specs.Fields.{fields}

-- the most that a number of so many bits can be
abbrev pub most : ℕ → ℕ
most bits = 2 ^ bits - 1

-- the most that each field of a line may be, by the line's kind
abbrev pub deposit_limits : List ℕ
deposit_limits = most 32 ∷ []

abbrev pub open_limits : List ℕ
open_limits = replicate 7 (most 16)

abbrev pub enter_limits : List ℕ
enter_limits = most 8 ∷ most 8 ∷ most 8 ∷ most 16 ∷ most 64 ∷ []

abbrev pub raise_limits : List ℕ
raise_limits = most 8 ∷ most 16 ∷ most 8 ∷ most 16 ∷ most 64 ∷ []

-- what the numbers in the fields say: dollars
abbrev pub deposit_of : List ℕ → Record
deposit_of ns = deposit (slice_index ns 0)

-- the increments of a row
abbrev pub open_of : List ℕ → Record
open_of ns = event (opening (row_of ns))

-- seat, market, shares, discount and stamp
abbrev pub enter_of : List ℕ → Record
enter_of ns = event (new_step (slice_index ns 0) (slice_index ns 1) (slice_index ns 2) (slice_index ns 3) (slice_index ns 4))

-- seat, step, shares, discount and stamp
abbrev pub raise_of : List ℕ → Record
raise_of ns = event (raise (slice_index ns 0) (slice_index ns 2) (slice_index ns 1) (slice_index ns 3) (slice_index ns 4))

-- what a line says whose fields are these, unless one is refused
abbrev pub filled : (List ℕ → Record) → Result (List ℕ) LineFault → Result Record LineFault
filled make (Ok ns) = Ok (make ns)
filled make (Err f) = Err f

-- what a line says, by its first word
abbrev pub said : (first text : List ℕ) → Result Record LineFault
said first text =
    cond (bytes_eq first (codes "deposit")) (filled deposit_of (fields deposit_limits 1 text))
    (cond (bytes_eq first (codes "open")) (filled open_of (fields open_limits 1 text))
    (cond (bytes_eq first (codes "enter")) (filled enter_of (fields enter_limits 1 text))
    (cond (bytes_eq first (codes "raise")) (filled raise_of (fields raise_limits 1 text))
    (cond (bytes_eq first (codes "close")) (filled (λ _. event close) (fields [] 1 text))
    (cond (bytes_eq first (codes "changeover")) (filled (λ _. event changeover) (fields [] 1 text))
    (Err UnknownWord))))))

-- no word, or one that begins with '#': the line says nothing
abbrev pub silent : List ℕ → Bool
silent [] = true
silent (b ∷ bs) = b == 35

-- something is said, unless it is refused
abbrev pub spoken : Result Record LineFault → Result (Option Record) LineFault
spoken (Ok r) = Ok (Some r)
spoken (Err f) = Err f

-- what a line says, if anything
abbrev pub parsed : List ℕ → Result (Option Record) LineFault
parsed line = cond (silent (word line)) (Ok None) (spoken (said (word line) (rest line)))
