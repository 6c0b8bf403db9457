-- The weights of the seven years.
use Rattle.std.specs.Prelude.{ℕ, ◌-◌, cond, ◌&&◌, List, [], ◌∷◌, Some, None, sum, Option, nat_le, slice_index}

-- what a share of each year weighs, the first year's first
abbrev pub year_weights : List ℕ
year_weights = 100 ∷ 86 ∷ 71 ∷ 57 ∷ 43 ∷ 29 ∷ 14 ∷ []

-- what a share of a year weighs, and 0 where there is no such year
abbrev pub weight_of_year : ℕ → ℕ
weight_of_year year = cond (nat_le 1 year) (slice_index year_weights (year - 1)) 0

-- the same, or none where there is no such year
abbrev pub weight_in : ℕ → Option ℕ
weight_in year = cond (nat_le 1 year && nat_le year 7) (Some (weight_of_year year)) None

-- what a share of all years weighs
abbrev pub all_years : ℕ
all_years = sum year_weights
