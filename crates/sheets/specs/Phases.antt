-- The figures of the two phases.
use Rattle.std.specs.Prelude.{◌*◌, cond, ◌==◌, nat_le}
use Rattle.sheets.specs.Figures.{Figures}
use Rattle.sheets.specs.Years.{weight_of_year, all_years}

-- the full term: one market of all years' weight, and one opening round of 100 percent
abbrev pub full_term : Figures
full_term = record { markets = 1; openings = 1; percent = λ r. cond (r == 1) 100 0; weight = λ m. cond (m == 1) all_years 0 }

-- single years: a market for each year, of its weight, and four opening rounds of 25, 50, 75 and 100 percent
abbrev pub single_year : Figures
single_year = record { markets = 7; openings = 4; percent = λ r. cond (nat_le r 4) (25 * r) 0; weight = weight_of_year }
