-- What `next` answers of steps that kept their bids is true of the steps as they were.
use Rattle.std.proofs.Common.{◌≡◌, ℕ, ◌-◌, ◌<◌, ◌≤◌, Bool, true, false, cond, ◌||◌, eqb, List, map, length, get_or, Some, None, Ok, sym, refl, ap, ◌∙◌, arith}
use Rattle.std.proofs.lemmas.List.{length-map}
use Rattle.std.proofs.lemmas.Bool.{eqb-false}
use Rattle.ranks.specs.Order.{Behind, Stands}
use Rattle.steps.specs.declared.record.StepRecord.{StepRecord}
use Rattle.steps.specs.Rank.{before, market_of, step_precedes}
use Rattle.steps.specs.Rule.{no_step}
use Rattle.books.specs.Replies.{at, place_of, NextReply}
use Rattle.closing.proofs.Places.{each, bid_at}
use Rattle.closing.proofs.Walk.{behind, Comes, Ends}

module _ (g : StepRecord → StepRecord) (kept : (x : StepRecord) → (g x).bid ≡ x.bid) (xs : List StepRecord) (m n : ℕ) (within : n ≤ length xs) where
  same_rank : (j k : ℕ) → before (get_or (map g xs) j no_step).bid (get_or (map g xs) k no_step).bid ≡ before (get_or xs j no_step).bid (get_or xs k no_step).bid
  same_rank j k = ap (λ b. before b (get_or (map g xs) k no_step).bid) (bid_at g kept xs j) ∙ ap (before (get_or xs j no_step).bid) (bid_at g kept xs k)

  from_reply : (k : ℕ) → Behind step_precedes no_step (map g xs) (place_of n) k → behind xs n (get_or xs k no_step).bid ≡ true
  from_reply k = go (eqb n 0)
    where
      go : (t : Bool) → Behind step_precedes no_step (map g xs) (cond t None (Some (n - 1))) k → (t || before (at xs n).bid (get_or xs k no_step).bid) ≡ true
      go true h = refl
      go false h = sym (same_rank (n - 1) k) ∙ h.1

  to_reply : (k : ℕ) → behind xs n (get_or xs k no_step).bid ≡ true → Behind step_precedes no_step (map g xs) (place_of n) k
  to_reply k = go (eqb n 0) refl
    where
      go : (t : Bool) → eqb n 0 ≡ t → (t || before (at xs n).bid (get_or xs k no_step).bid) ≡ true → Behind step_precedes no_step (map g xs) (cond t None (Some (n - 1))) k
      go true e h = tt
      go false e h = (omega (arith, eqb-false n 0 e, length-map xs g), same_rank (n - 1) k ∙ h)

  -- a step of the market that ranks behind number n stands so among the steps that next saw
  stands : (k : ℕ) → k < length xs → (get_or xs k no_step).bid.market ≡ m → behind xs n (get_or xs k no_step).bid ≡ true → Stands market_of step_precedes no_step (map g xs) m (place_of n) k
  stands k l e b = (omega (arith, length-map xs g), ap (λ b. b.market) (bid_at g kept xs k) ∙ e, to_reply k b)

  pub next_comes : (p : ℕ) → NextReply (map g xs) m n (Ok (Some p)) → Comes m xs n p
  next_comes p h =
      let f = h.2.first no_step in
      record {
        one = h.1;
        within = omega (arith, h.1, f.below, length-map xs g);
        market = sym (ap (λ b. b.market) (bid_at g kept xs (p - 1))) ∙ f.stands.1;
        later = from_reply (p - 1) f.stands.2;
        first =
            each
            (λ x. x.bid.market ≡ m → behind xs n x.bid ≡ true → before x.bid (at xs p).bid ≡ false)
            xs
            no_step
            (λ k l e b. sym (same_rank k (p - 1)) ∙ f.leads k (omega (arith, length-map xs g)) (stands k l e b));
      }

  pub next_ends : NextReply (map g xs) m n (Ok None) → Ends m xs n
  next_ends h =
      each (λ x. x.bid.market ≡ m → behind xs n x.bid ≡ false) xs no_step (λ k l e. go k l e (behind xs n (get_or xs k no_step).bid) refl)
    where
      go : (k : ℕ) → k < length xs → (get_or xs k no_step).bid.market ≡ m → (t : Bool) → behind xs n (get_or xs k no_step).bid ≡ t → behind xs n (get_or xs k no_step).bid ≡ false
      go k l e true b = absurd (h.2.first no_step k (omega (arith, length-map xs g)) (stands k l e b))
      go k l e false b = b
