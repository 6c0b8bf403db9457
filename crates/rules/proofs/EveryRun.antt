-- What else holds of every run: lots go down the rank, accepted shares are accounted for, and rounds are bounded.
use Rattle.std.proofs.Common.{◌≡◌, ℕ, ◌+◌, Bool, true, false, cond, ◌&&◌, eqb, List, map, sym, refl, ap, ◌∙◌, subst}
use Rattle.steps.specs.declared.record.StepRecord.{StepRecord}
use Rattle.rules.specs.Books.{bid_of, standing_of}
use Rattle.rules.specs.Sales.{fresh, run}
use Rattle.rules.specs.Tallies.{Entry, entry_bid, entry_shares, blank, tally, gets}
use Rattle.rules.specs.Fair.{entry_of, Real}
use Rattle.rules.specs.DownRank.{gets_down, RunsDownTheRank}
use Rattle.rules.specs.Accepted.{rejected_of, of_both, RunsAccounted}
use Rattle.rules.specs.Rounds.{RoundsBounded}
use Rattle.rules.proofs.Totals.{total_map, total_same, total_plus, map_same}
use Rattle.rules.proofs.Ranks.{Numbered, numbered_map}
use Rattle.rules.proofs.DownRank.{down_the_rank}
use Rattle.rules.proofs.Phases.{reaches}
use Rattle.rules.proofs.Runs.{going_open, going_seated, runs_are_fair, real_calls, real_sound}
use Rattle.rules.proofs.Rounds.{Peopled, few_rounds}

pub runs_down_the_rank : RunsDownTheRank
runs_down_the_rank f l size book calls e =
    let s = run (fresh f size book) calls in
    let t = tally (fresh f size book) blank calls in
    let g = going_open s t (reaches f l size book calls) e in
    let numbered = subst (Numbered entry_bid 1) (sym g.mirrored) (numbered_map bid_of entry_bid entry_of (λ x. refl) 1 s.steps g.numbered) in
    (runs_are_fair.0 f l size book calls).won_fairly e
    ∙ map_same (gets t) (gets_down t) t.entries (λ z i. sym (down_the_rank entry_bid entry_shares t.lots t.entries z numbered i))

accounted_for : (es : List Entry) (xs : List StepRecord) (k m : ℕ) → es ≡ map entry_of xs →
    of_both entry_bid entry_shares k m es ≡ of_both bid_of standing_of k m xs + of_both bid_of rejected_of k m xs
accounted_for es xs k m e =
    ap (of_both entry_bid entry_shares k m) e ∙ total_map _ entry_of xs
    ∙ total_same _ _ xs (λ x i. both (eqb x.bid.seat k && eqb x.bid.market m) x.shares.standing x.shares.rejected) ∙ total_plus _ _ xs
  where
    both : (t : Bool) (a b : ℕ) → cond t (a + b) 0 ≡ cond t a 0 + cond t b 0
    both true a b = refl
    both false a b = refl

pub runs_accounted : RunsAccounted
runs_accounted f l size book calls h k m =
    let s = run (fresh f size book) calls in
    let t = tally (fresh f size book) blank calls in
    accounted_for t.entries s.steps k m (going_seated s t (reaches f l size book calls) h).mirrored

pub rounds_bounded : RoundsBounded
rounds_bounded f size book calls n real = few_rounds f size book calls (real_calls (Real n) Peopled (λ first r. (real_sound n first r).has_seat) calls real)
