-- The figures of a phase, and their bounds.
use Rattle.std.specs.Prelude.{◌≡◌, ℕ, ◌<◌, ◌≤◌}

-- how many markets and opening rounds there are, the percent of activity owed in each round, and the weight of each market
pub record Figures : Type 0 where
  pub markets : ℕ
  pub openings : ℕ
  pub percent : ℕ → ℕ
  pub weight : ℕ → ℕ

-- one to seven markets and one to eight opening rounds; at most 100 percent, and none outside the opening rounds; a weight from 1 to 400
-- for each market, and none outside the markets
pub record Lawful (f : Figures) : Type 0 where
  pub some_market : 1 ≤ f.markets
  pub few_markets : f.markets ≤ 7
  pub some_opening : 1 ≤ f.openings
  pub few_openings : f.openings ≤ 8
  pub parts : (r : ℕ) → f.percent r ≤ 100
  pub no_part : f.percent 0 ≡ 0
  pub no_later_part : (r : ℕ) → f.openings < r → f.percent r ≡ 0
  pub heavy : (m : ℕ) → 1 ≤ m → m ≤ f.markets → 1 ≤ f.weight m
  pub light : (m : ℕ) → f.weight m ≤ 400
  pub no_weight : f.weight 0 ≡ 0
  pub no_other_weight : (m : ℕ) → f.markets < m → f.weight m ≡ 0
