-- Lines put together to a text.
use Rattle.std.specs.Prelude.{ℕ, zero, suc, ◌+◌, List, [], ◌∷◌, ◌++◌}

-- a line with its newline
abbrev pub ended_line : List ℕ → List ℕ
ended_line line = line ++ (10 ∷ [])

-- the lines of the numbers 1 to n, one behind the other
abbrev pub up_to : (ℕ → List ℕ) → ℕ → List ℕ
up_to line zero = []
up_to line (suc n) = up_to line n ++ ended_line (line (n + 1))
