-- The winning steps found on the way down a market's rank: at the start, one turn on, and at the end.
use Rattle.std.proofs.Common.{◌≡◌, ℕ, suc, ◌+◌, ◌<◌, ◌≤◌, Bool, true, false, cond, eqb, List, [], ◌∷◌, ◌++◌, length, Some, None, Ok, filter, sym, refl, ap, ◌∙◌, arith}
use Rattle.std.proofs.lemmas.List.{append-nil, append_assoc}
use Rattle.std.proofs.lemmas.List.Elements.{filter-append}
use Rattle.steps.specs.declared.record.StepRecord.{StepRecord}
use Rattle.steps.specs.Rank.{before}
use Rattle.books.specs.Replies.{at, NextReply}
use Rattle.books.specs.Lawful.{SoundBelow}
use Rattle.rules.specs.DownRank.{ranked_in, in_rank}
use Rattle.rules.specs.Books.{bid_of}
use Rattle.winners.specs.Winning.{is_winning, winning}
use Rattle.winners.proofs.NextInRank.{rank_behind, behind_top, next_first, next_none}

-- one more goes into a ranked list
ranked_in_longer : (x : StepRecord) (ys : List StepRecord) → length (ranked_in bid_of x ys) ≡ suc (length ys)
ranked_in_longer x [] = refl
ranked_in_longer x (y ∷ ys) = go (before x.bid y.bid) (ranked_in_longer x ys)
  where
    go : (t : Bool) → length (ranked_in bid_of x ys) ≡ suc (length ys) → length (cond t (x ∷ y ∷ ys) (y ∷ ranked_in bid_of x ys)) ≡ suc (suc (length ys))
    go true r = refl
    go false r = ap suc r

-- a market has no more steps than the book
rank_short : (m : ℕ) (xs : List StepRecord) → length (in_rank bid_of m xs) ≤ length xs
rank_short m [] = omega arith
rank_short m (x ∷ xs) = go (eqb x.bid.market m) (rank_short m xs)
  where
    go : (t : Bool) → length (in_rank bid_of m xs) ≤ length xs → length (cond t (ranked_in bid_of x (in_rank bid_of m xs)) (in_rank bid_of m xs)) ≤ suc (length xs)
    go true r = omega (arith, ranked_in_longer x (in_rank bid_of m xs))
    go false r = omega arith

-- at number n: with the winning steps that come behind it, those found are all, and there is room for them
pub record Gathered (m : ℕ) (xs old found : List StepRecord) (n len cap : ℕ) : Type 0 where
  pub within : n ≤ length xs
  pub all : found ++ filter is_winning (rank_behind m xs n) ≡ old ++ winning m xs
  pub room : len + length (rank_behind m xs n) ≤ cap

pub gathered_none : (m : ℕ) (xs old : List StepRecord) (len cap : ℕ) → len + length xs ≤ cap → Gathered m xs old old 0 len cap
gathered_none m xs old len cap room = record {
  within = omega arith;
  all = ap (λ ys. old ++ filter is_winning ys) (behind_top m xs);
  room = omega (arith, ap length (behind_top m xs), rank_short m xs);
}

module _ (m : ℕ) (xs old found : List StepRecord) (n len cap : ℕ) (so_far : Gathered m xs old found n len cap) (sound : SoundBelow xs (length xs)) where
  -- next answered the number p
  module _ (p : ℕ) (reply : NextReply xs m n (Ok (Some p))) where
    -- fewer are left behind it
    pub rank_falls : length (rank_behind m xs p) < length (rank_behind m xs n)
    rank_falls = omega (arith, ap length (next_first m xs sound n p reply))

    -- there is room for its step
    pub room_left : len < cap
    room_left = omega (arith, ap length (next_first m xs sound n p reply), so_far.room)

    -- its step was added if it wins
    pub gathered_more : (more : List StepRecord) (step : StepRecord) (len-now cap-now : ℕ) → step ≡ at xs p → more ≡ found ++ filter is_winning (step ∷ []) → len-now ≤ len + 1 → cap-now ≡ cap
        → Gathered m xs old more p len-now cap-now
    gathered_more more step len-now cap-now read added longer same =
        let first = next_first m xs sound n p reply in
        let rest = rank_behind m xs p in
        record {
          within = omega (arith, reply.1, reply.2.within);
          all =
              ap (λ ys. ys ++ filter is_winning rest) (added ∙ ap (λ x. found ++ filter is_winning (x ∷ [])) read)
              ∙ append_assoc found (filter is_winning (at xs p ∷ [])) (filter is_winning rest)
              ∙ ap (λ ys. found ++ ys) (sym (filter-append is_winning (at xs p ∷ []) rest) ∙ ap (filter is_winning) (sym first))
              ∙ so_far.all;
          room = omega (arith, ap length first, so_far.room);
        }

  -- where next answers none, those found are all
  pub gathered_all : NextReply xs m n (Ok None) → found ≡ old ++ winning m xs
  gathered_all reply = sym (append-nil found) ∙ ap (λ ys. found ++ filter is_winning ys) (sym (next_none m xs sound n reply)) ∙ so_far.all
