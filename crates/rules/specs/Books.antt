-- Bids in rank, the steps of a book, and what a closing does to them.
use Rattle.std.specs.Prelude.{ℕ, ◌+◌, ◌-◌, ◌*◌, min, Bool, cond, ◌&&◌, List, [], ◌∷◌, map, Some, None, Option, ◌==◌, nat_lt}
use Rattle.steps.specs.declared.record.Bid.{Bid}
use Rattle.steps.specs.declared.record.StepRecord.{StepRecord}
use Rattle.steps.specs.Rank.{before}
use Rattle.rules.specs.Lists.{total}

-- a is ahead of b: it ranks before b in the same market
unfoldable pub ahead : Bid → Bid → Bool
ahead a b = a.market == b.market && before a b

-- the numbers f of those of xs that are ahead of b
abbrev pub front : {X : Type 0} → (X → Bid) → (X → ℕ) → List X → Bid → ℕ
front bid f xs b = total (λ y. cond (ahead (bid y) b) (f y) 0) xs

abbrev pub bid_of : StepRecord → Bid
bid_of x = x.bid

abbrev pub standing_of : StepRecord → ℕ
standing_of x = x.shares.standing

-- a step wins what stands and isn't losing
abbrev pub won : StepRecord → ℕ
won x = x.shares.standing - x.shares.losing

-- a closing's two passes over a step
abbrev pub rejects : StepRecord → StepRecord
rejects x = record { bid = x.bid; shares = record { standing = x.shares.standing - x.shares.losing; losing = 0; rejected = x.shares.rejected + x.shares.losing } }

-- what a step gets of the lots: its standing shares, as far as they reach behind all that rank ahead of it
abbrev pub wins : ℕ → List StepRecord → StepRecord → ℕ
wins lots xs x = min x.shares.standing (lots - front bid_of standing_of xs x.bid)

abbrev pub hands : ℕ → List StepRecord → StepRecord → StepRecord
hands lots xs x = record { bid = x.bid; shares = record { standing = x.shares.standing; losing = x.shares.standing - wins lots xs x; rejected = x.shares.rejected } }

abbrev pub settled : ℕ → List StepRecord → List StepRecord
settled lots xs = map (hands lots xs) xs

-- the least discount among the winners in market m
abbrev pub lower : ℕ → Option ℕ → Option ℕ
lower d None = Some d
lower d (Some c) = Some (min d c)

abbrev pub least : ℕ → List StepRecord → Option ℕ
least m [] = None
least m (x ∷ xs) = cond (x.bid.market == m && nat_lt 0 (won x)) (lower x.bid.discount (least m xs)) (least m xs)

-- what seat k has standing, weighted
abbrev pub weighted : (ℕ → ℕ) → ℕ → (StepRecord → ℕ) → List StepRecord → ℕ
weighted weight k f xs = total (λ x. cond (x.bid.seat == k) (f x * weight x.bid.market) 0) xs

-- the same, not weighted
abbrev pub of_seat : ℕ → (StepRecord → ℕ) → List StepRecord → ℕ
of_seat k f xs = total (λ x. cond (x.bid.seat == k) (f x) 0) xs

abbrev pub of_market : ℕ → (StepRecord → ℕ) → List StepRecord → ℕ
of_market m f xs = total (λ x. cond (x.bid.market == m) (f x) 0) xs
