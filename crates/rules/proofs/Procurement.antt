-- The two sales of the worked procurement: the first is one that its calls made.
use Rattle.std.proofs.Common.{◌≡◌, ℕ, ◌<◌, ◌≤◌, [], refl, arith, rules}
use Rattle.std.proofs.lemmas.Bool.Decides.{nat_tests}
use Rattle.sheets.specs.Figures.{Lawful}
use Rattle.sheets.specs.Years.{weight_of_year}
use Rattle.sheets.specs.Phases.{full_term, single_year}
use Rattle.rules.specs.Books.{ahead}
use Rattle.rules.specs.Sales.{close, after}
use Rattle.rules.specs.Fair.{Real, Shared}
use Rattle.rules.specs.WorkedSales.{first_calls, first_sale, second_calls, second_sale}
use Rattle.rules.proofs.Runs.{runs_are_fair}

full_term_lawful : Lawful full_term
full_term_lawful = record {
  some_market = omega arith;
  few_markets = omega arith;
  some_opening = omega arith;
  few_openings = omega arith;
  parts = λ r. grind (arith, nat_tests);
  no_part = refl;
  no_later_part = λ r h. grind (arith, nat_tests);
  heavy = λ m low high. grind (arith, nat_tests);
  light = λ m. grind (arith, nat_tests);
  no_weight = refl;
  no_other_weight = λ m h. grind (arith, nat_tests);
}

pub first_real : Real 1 first_sale
first_real = (full_term, full_term_lawful, 512, [], first_calls, (tt, (tt, (tt, (tt, (tt, (tt, (tt, tt))))))), refl)

single_year_lawful : Lawful single_year
single_year_lawful = record {
  some_market = omega arith;
  few_markets = omega arith;
  some_opening = omega arith;
  few_openings = omega arith;
  parts = λ r. grind (arith, nat_tests);
  no_part = refl;
  no_later_part = λ r h. grind (arith, nat_tests);
  heavy = heavy;
  light = light;
  no_weight = refl;
  no_other_weight = other;
}
  where
    heavy : (m : ℕ) → 1 ≤ m → m ≤ 7 → 1 ≤ weight_of_year m
    heavy m low high = search rules

    light : (m : ℕ) → weight_of_year m ≤ 400
    light m = search rules

    other : (m : ℕ) → 7 < m → weight_of_year m ≡ 0
    other m h = search rules

pub second_shared : Shared first_sale (after second_sale close)
unfolding ahead
second_shared =
    runs_are_fair.1 single_year single_year_lawful 512 [] []
    second_calls
    first_sale 1 first_real refl refl
