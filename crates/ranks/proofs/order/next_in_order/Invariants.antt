use Rattle.std.specs.Option.{option_map}
use Rattle.ranks.specs.Order.{Within, FirstBelow}
use Rattle.ranks.proofs.Seen.{StartsAt, ReadAt}
use Rattle.ranks.proofs.order.next_in_order.Given as goal

-- what is best so far is the first of the places passed, with its record; the start is where it was
abbrev pub invariant-loop-place : goal.invariant-loop-place
invariant-loop-place g l =
    let best = option_map (λ b. b.0) l.best in
    record {
      starts : StartsAt l.list l.fn.behind (option_map (λ s. s.now) l.start);
      within : Within l.place best;
      first : (d : _) → FirstBelow g.R.Ranked.group g.R.Ranked.precedes d l.list l.group l.fn.behind l.place best;
      read : ReadAt (λ r. r.now) l.list l.best;
    }
