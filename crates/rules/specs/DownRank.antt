-- Lots handed out down the rank of a market, as a reader sees it. X is anything that has a bid: a step or an entry of the tally.
use Rattle.std.specs.Prelude.{◌≡◌, ℕ, ◌-◌, min, cond, List, [], ◌∷◌, map, ◌==◌}
use Rattle.sheets.specs.Figures.{Figures, Lawful}
use Rattle.steps.specs.declared.record.Bid.{Bid}
use Rattle.steps.specs.declared.record.StepRecord.{StepRecord}
use Rattle.steps.specs.Rank.{before}
use Rattle.rules.specs.Books.{won}
use Rattle.rules.specs.Sales.{fresh, Call, close, verdict, passed, after, run}
use Rattle.rules.specs.Tallies.{Tally, Entry, entry_bid, entry_shares, blank, tally}

-- x goes into a ranked list in front of the first that it ranks before
abbrev pub ranked_in : {X : Type 0} → (X → Bid) → X → List X → List X
ranked_in bid x [] = x ∷ []
ranked_in bid x (y ∷ ys) = cond (before (bid x) (bid y)) (x ∷ y ∷ ys) (y ∷ ranked_in bid x ys)

-- those of xs that are of the market m, in rank
abbrev pub in_rank : {X : Type 0} → (X → Bid) → ℕ → List X → List X
in_rank bid m [] = []
in_rank bid m (x ∷ xs) = cond ((bid x).market == m) (ranked_in bid x (in_rank bid m xs)) (in_rank bid m xs)

-- lots go down a ranked list: each gets the lesser of its f and the lots left. What the one of the number n gets
abbrev pub handed_down : {X : Type 0} → (X → Bid) → (X → ℕ) → ℕ → List X → ℕ → ℕ
handed_down bid f lots [] n = 0
handed_down bid f lots (x ∷ xs) n = cond ((bid x).number == n) (min (f x) lots) (handed_down bid f (lots - f x) xs n)

-- what an entry gets so
abbrev pub gets_down : Tally → Entry → ℕ
gets_down t e = handed_down entry_bid entry_shares t.lots (in_rank entry_bid e.bid.market t.entries) e.bid.number

-- after each accepted closing every step wins what its entry gets down the rank
abbrev pub RunsDownTheRank : Type 0
RunsDownTheRank =
    (f : Figures) → Lawful f → (size : ℕ) (book : List StepRecord) (calls : List Call) →
    let s = run (fresh f size book) calls in
    let t = tally (fresh f size book) blank calls in
    verdict s close ≡ passed → map won (after s close).steps ≡ map (gets_down t) t.entries
