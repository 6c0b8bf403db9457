-- Accepted shares, accounted for by seat and market.
use Rattle.std.specs.Prelude.{◌≡◌, ℕ, ◌+◌, cond, ◌&&◌, List, ◌==◌}
use Rattle.sheets.specs.Figures.{Figures, Lawful}
use Rattle.steps.specs.declared.record.Bid.{Bid}
use Rattle.steps.specs.declared.record.StepRecord.{StepRecord}
use Rattle.rules.specs.Lists.{total}
use Rattle.rules.specs.Books.{bid_of, standing_of}
use Rattle.rules.specs.Sales.{fresh, Call, run}
use Rattle.rules.specs.Tallies.{Tally, entry_bid, entry_shares, blank, tally}
use Rattle.rules.specs.Fair.{Seated}

-- the rejected shares of a step
abbrev pub rejected_of : StepRecord → ℕ
rejected_of x = x.shares.rejected

-- the sum of f over those of xs that are of the seat k and the market m
abbrev pub of_both : {X : Type 0} → (X → Bid) → (X → ℕ) → ℕ → ℕ → List X → ℕ
of_both bid f k m xs = total (λ y. cond ((bid y).seat == k && (bid y).market == m) (f y) 0) xs

-- the accepted shares of the seat k in the market m
abbrev pub accepted : Tally → ℕ → ℕ → ℕ
accepted t k m = of_both entry_bid entry_shares k m t.entries

-- once the sale has a seat, for each seat and market accepted shares are standing plus rejected
abbrev pub RunsAccounted : Type 0
RunsAccounted =
    (f : Figures) → Lawful f → (size : ℕ) (book : List StepRecord) (calls : List Call) →
    let s = run (fresh f size book) calls in
    Seated s → (k m : ℕ) → accepted (tally (fresh f size book) blank calls) k m ≡ of_both bid_of standing_of k m s.steps + of_both bid_of rejected_of k m s.steps
