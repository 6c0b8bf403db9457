-- Each case computes, but for the two sales together, where the theorem says it.
use Rattle.std.proofs.Common.{refl}
use Rattle.rules.specs.Books.{ahead}
use Rattle.rules.specs.Tallies.{heard}
use Rattle.rules.proofs.Procurement.{first_real, second_shared}
use Rattle.rules.proofs.cases_hold.Goals as goal

pub returns : goal.returns
unfolding ahead heard
returns c = record {
  cases =
      record {
        deposits_buy = refl;
        deposit_refused = refl;
        activity_cuts = refl;
        activity_met = refl;
        activity_rounds_up = refl;
        nine_win = refl;
        nine_clear = refl;
        below_increment = refl;
        at_increment = refl;
        not_above_own = refl;
        above_own = refl;
        first_bond = refl;
        third_bond = refl;
        owed_from_now = refl;
        carried_from_bought = refl;
        remainder_kept = λ n x. refl;
        losing_first = refl;
        opening_goes_on = refl;
        quiet_round_ends = refl;
        raised_goes_on = refl;
      };
  sales =
      record {
        two_bidders_told = refl;
        two_bidders_win = refl;
        two_bidders_tallied = refl;
        first_made = first_real;
        first_wins = refl;
        both_carry = refl;
        second_told = refl;
        second_wins = refl;
        second_shares = second_shared;
        raised_stands = refl;
      };
  edges =
      record {
        starts = refl;
        starts_once = refl;
        starts_empty_book = refl;
        opens = refl;
        opens_once = refl;
        opens_not_ended = refl;
        shut = refl;
        enters = refl;
        enters_standing = refl;
        enters_full = refl;
        enters_early = refl;
        raises = refl;
        raises_cleared = refl;
        raises_full = refl;
        raises_in_time = refl;
        changes = refl;
        changes_once = refl;
        no_increment = refl;
        default_increment = refl;
      };
}
