-- One turn of the walk down a market's rank, its start and its end.
use Rattle.std.proofs.Common.{◌≡◌, ℕ, ◌-◌, ◌<◌, ◌≤◌, Bool, true, false, cond, not, ◌&&◌, eqb, ltb, List, length, set, Some, None, Ok, Option, sym, refl, ap, ◌∙◌, subst, arith}
use Rattle.std.proofs.lemmas.List.{length-map, map-id}
use Rattle.std.proofs.lemmas.Bool.{eqb-true, ltb-true, ltb-false, and_right}
use Rattle.steps.specs.declared.record.StepRecord.{StepRecord}
use Rattle.books.specs.Replies.{at, NextReply}
use Rattle.books.specs.Lawful.{SoundBelow}
use Rattle.rules.specs.Lists.{In}
use Rattle.rules.specs.Books.{wins, hands, settled, least}
use Rattle.rules.proofs.Totals.{map_same, total_none}
use Rattle.closing.specs.HandOut.{handed, gets, awarded, cleared}
use Rattle.closing.proofs.Clearing.{lowest, lowest_same, lowest_none, clearing_lowest}
use Rattle.closing.proofs.Walk.{Walked, Comes, Ends, behind, served, waiting, won_by, taken_more, waiting_falls, got_wins, unchanged, steps_more, cleared_lower, cleared_same}
use Rattle.closing.proofs.Next.{next_comes, next_ends}

-- a step that was handed lots, or not, has its bid
hand_bid : (lots : ℕ) (xs : List StepRecord) (t : Bool) (x : StepRecord) → (cond t (hands lots xs x) x).bid ≡ x.bid
hand_bid lots xs true x = refl
hand_bid lots xs false x = refl

-- at the top none is served
none_served : (m : ℕ) (xs : List StepRecord) (x : StepRecord) → served m xs 0 x.bid ≡ false
none_served m xs x = and_right (eqb x.bid.market m) false refl

-- the walk starts above the top
pub walked_none : (m lots : ℕ) (xs : List StepRecord) → Walked m lots xs xs 0 lots None
walked_none m lots xs = record {
  steps = sym (map_same _ (λ x. x) xs (λ x i. ap (λ t. cond t (hands lots xs x) x) (none_served m xs x)) ∙ map-id xs);
  within = omega arith;
  lots_left = omega (arith, total_none _ xs (λ x i. ap (λ t. cond t x.shares.standing 0) (none_served m xs x)));
  clears = sym (lowest_none _ xs (λ x i. ap (λ t. t && ltb 0 (wins lots xs x)) (none_served m xs x)));
}

module _ (m lots : ℕ) (xs ys : List StepRecord) (n left : ℕ) (clearing : Option ℕ) (w : Walked m lots xs ys n left clearing) where
  -- the number that the walk stands at is held, or 0
  pub walked_within : n ≤ length ys
  walked_within = omega (arith, w.within, ap length w.steps ∙ length-map xs _)

  module _ (sound : SoundBelow xs (length xs)) (p : ℕ) (reply : NextReply ys m n (Ok (Some p))) where
    -- the number that next answered is the market's next among the steps as they were
    comes : Comes m xs n p
    comes = next_comes _ (λ x. hand_bid lots xs (served m xs n x.bid) x) xs m n w.within p (subst (λ (v : List StepRecord). NextReply v m n (Ok (Some p))) w.steps reply)

    -- no step is read after it was served
    read_as_was : at ys p ≡ at xs p
    read_as_was = ap (λ v. at v p) w.steps ∙ unchanged m xs sound n p comes lots left w.lots_left

    -- one fewer waits
    pub walk_falls : waiting m xs p < waiting m xs n
    walk_falls = waiting_falls m xs sound n p comes

    -- the step of number p got what it could, and set the clearing discount if it got a share
    pub walked_more : (zs : List StepRecord) (left-now : ℕ) (clearing-now : Option ℕ) → zs ≡ set ys (p - 1) (awarded left (at ys p)) → left-now ≡ left - gets left (at ys p) → clearing-now ≡ cleared left (at ys p) clearing
        → Walked m lots xs zs p left-now clearing-now
    walked_more zs left-now clearing-now made is-left is-clearing =
        let y = at xs p in
        record {
          steps =
              made
              ∙ ap (λ x. set ys (p - 1) (awarded left x)) read_as_was
              ∙ ap (λ v. set v (p - 1) (awarded left y)) w.steps
              ∙ steps_more m xs sound n p comes lots left w.lots_left;
          within = comes.within;
          lots_left = omega (arith, w.lots_left, taken_more m xs sound n p comes, is-left ∙ ap (λ x. left - gets left x) read_as_was);
          clears = is-clearing ∙ ap (λ x. cleared left x clearing) read_as_was ∙ lowers (ltb 0 (gets left y)) refl;
        }
      where
        lowers : (t : Bool) → ltb 0 (gets left (at xs p)) ≡ t → cond t (Some (at xs p).bid.discount) clearing ≡ lowest (won_by m lots xs p) xs
        lowers true e = sym (cleared_lower m xs sound n p comes lots left w.lots_left (omega (arith, ltb-true _ _ e, got_wins m xs sound n p comes lots left w.lots_left)))
        lowers false e = w.clears ∙ cleared_same m xs sound n p comes lots left w.lots_left (omega (arith, ltb-false _ _ e, got_wins m xs sound n p comes lots left w.lots_left))

  module _ (reply : NextReply ys m n (Ok None)) where
    -- where next answers none, no step of the market waits
    ends : Ends m xs n
    ends = next_ends _ (λ x. hand_bid lots xs (served m xs n x.bid) x) xs m n w.within (subst (λ (v : List StepRecord). NextReply v m n (Ok None)) w.steps reply)

    -- all of the market were served
    all_served : (x : StepRecord) → In x xs → served m xs n x.bid ≡ eqb x.bid.market m
    all_served x i = go (eqb x.bid.market m) refl
      where
        go : (t : Bool) → eqb x.bid.market m ≡ t → (t && not (behind xs n x.bid)) ≡ t
        go true e = ap not (ends x i (eqb-true _ _ e))
        go false e = refl

    pub walked_steps : ys ≡ handed (λ b. eqb b.market m) lots xs
    walked_steps = w.steps ∙ map_same _ _ xs (λ x i. ap (λ t. cond t (hands lots xs x) x) (all_served x i))

    pub walked_clearing : clearing ≡ least m (settled lots xs)
    walked_clearing = w.clears ∙ lowest_same _ _ xs (λ x i. ap (λ t. t && ltb 0 (wins lots xs x)) (all_served x i)) ∙ sym (clearing_lowest m lots xs xs)
