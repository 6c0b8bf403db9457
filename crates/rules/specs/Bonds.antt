-- The bond that a winner owes, from a year on.
use Rattle.std.specs.Prelude.{ℕ, zero, suc, ◌+◌, ◌-◌, ◌*◌}
use Rattle.sheets.specs.Years.{weight_of_year}

-- the weights of a year and the years behind it, n in all, each times the shares won for it
abbrev pub weighted_from : (ℕ → ℕ) → ℕ → ℕ → ℕ
weighted_from shares year zero = 0
weighted_from shares year (suc n) = weight_of_year year * shares year + weighted_from shares (suc year) n

-- 5,000 dollars for each hundredth of a weighted share, from the year to year 7
abbrev pub bond : (ℕ → ℕ) → ℕ → ℕ
bond shares year = 5_000 * weighted_from shares year (8 - year)
