-- What a book answers for the next step of a market is the next down the market's rank.
use Rattle.std.proofs.Common.{◌≡◌, ℕ, suc, ◌+◌, ◌-◌, ◌<◌, ◌≤◌, Bool, true, false, cond, ◌||◌, eqb, List, [], ◌∷◌, length, get_or, Some, None, Ok, filter, sym, refl, ap, ◌∙◌, subst, inl, inr, arith}
use Rattle.std.proofs.lemmas.Bool.{eqb-true, eqb-false, ne_eqb, and_parts, both_ways}
use Rattle.ranks.specs.Order.{Behind, Stands}
use Rattle.steps.specs.declared.record.StepRecord.{StepRecord}
use Rattle.steps.specs.Rank.{market_of, step_precedes}
use Rattle.steps.specs.Rule.{no_step}
use Rattle.books.specs.Replies.{at, place_of, NextReply}
use Rattle.books.specs.Lawful.{SoundBelow}
use Rattle.rules.specs.Lists.{In}
use Rattle.rules.specs.DownRank.{in_rank}
use Rattle.rules.specs.Books.{bid_of}
use Rattle.rules.proofs.Totals.{in_at}
use Rattle.rules.proofs.Ranks.{Numbered, transitive}
use Rattle.rules.proofs.DownRank.{Sorted, from_rank, into_rank, in_rank_sorted}
use Rattle.winners.proofs.Kept.{kept_all, kept_none, kept_from}

-- the step x ranks behind the one of number n; every step ranks behind number 0
abbrev pub behind : List StepRecord → ℕ → StepRecord → Bool
behind xs n x = eqb n 0 || step_precedes (at xs n) x

-- those of the market m, in rank, that come behind the step of number n
abbrev pub rank_behind : ℕ → List StepRecord → ℕ → List StepRecord
rank_behind m xs n = filter (behind xs n) (in_rank bid_of m xs)

-- what holds at each place holds of each in the list
each : (P : StepRecord → Type 0) (xs : List StepRecord) → ((i : ℕ) → i < length xs → P (get_or xs i no_step)) → (x : StepRecord) → In x xs → P x
each P [] h x i = elim i [ ]
each P (y ∷ xs) h x (inl e) = subst P (sym e) (h 0 (omega arith))
each P (y ∷ xs) h x (inr i) = each P xs (λ k l. h (suc k) (omega arith)) x i

-- numbers that count by places from k
numbered_from : (k : ℕ) (xs : List StepRecord) → ((i : ℕ) → i < length xs → (get_or xs i no_step).bid.number ≡ k + i) → Numbered bid_of k xs
numbered_from k [] h = tt
numbered_from k (x ∷ xs) h = (omega (arith, h 0 (omega arith)), numbered_from (suc k) xs (λ i l. omega (arith, h (suc i) (omega arith))))

-- the whole rank comes behind number 0
pub behind_top : (m : ℕ) (xs : List StepRecord) → rank_behind m xs 0 ≡ in_rank bid_of m xs
behind_top m xs = kept_all (behind xs 0) (in_rank bid_of m xs) (λ y i. refl)

-- the steps of a book, which are numbered by their places, and a market
module _ (m : ℕ) (xs : List StepRecord) (sound : SoundBelow xs (length xs)) where
  number_at : (i : ℕ) → i < length xs → (get_or xs i no_step).bid.number ≡ i + 1
  number_at i l = eqb-true _ _ (and_parts (eqb (get_or xs i no_step).bid.number (i + 1)) _ (sound i l)).0

  numbered : Numbered bid_of 1 xs
  numbered = numbered_from 1 xs (λ i l. omega (arith, number_at i l))

  ranked : Sorted bid_of (in_rank bid_of m xs)
  ranked = in_rank_sorted bid_of m 1 xs numbered

  behind_number : (p : ℕ) → 1 ≤ p → rank_behind m xs p ≡ filter (step_precedes (at xs p)) (in_rank bid_of m xs)
  behind_number p one = ap (λ t. filter (λ x. t || step_precedes (at xs p) x) (in_rank bid_of m xs)) (ne_eqb p 0 (λ e. omega arith))

  module _ (n : ℕ) (within : n ≤ length xs) where
    from_reply : (k : ℕ) → Behind step_precedes no_step xs (place_of n) k → behind xs n (get_or xs k no_step) ≡ true
    from_reply k = go (eqb n 0)
      where
        go : (t : Bool) → Behind step_precedes no_step xs (cond t None (Some (n - 1))) k → (t || step_precedes (at xs n) (get_or xs k no_step)) ≡ true
        go true h = refl
        go false h = h.1

    to_reply : (k : ℕ) → behind xs n (get_or xs k no_step) ≡ true → Behind step_precedes no_step xs (place_of n) k
    to_reply k = go (eqb n 0) refl
      where
        go : (t : Bool) → eqb n 0 ≡ t → (t || step_precedes (at xs n) (get_or xs k no_step)) ≡ true → Behind step_precedes no_step xs (cond t None (Some (n - 1))) k
        go true e h = tt
        go false e h = (omega (arith, eqb-false n 0 e), h)

    -- where no step with P stands behind number n, as next sees it, the rank has none behind n
    none_behind : (P : StepRecord → Type 0) → ((k : ℕ) → k < length xs → Stands market_of step_precedes no_step xs m (place_of n) k → P (get_or xs k no_step) → ⊥)
        → (z : StepRecord) → In z (in_rank bid_of m xs) → P z → behind xs n z ≡ false
    none_behind P h z i =
        let from = from_rank bid_of m z xs i in
        each (λ y. y.bid.market ≡ m → P y → behind xs n y ≡ false) xs (λ k l e q. go k l e q (behind xs n (get_or xs k no_step)) refl) z from.0 from.1
      where
        go : (k : ℕ) → k < length xs → (get_or xs k no_step).bid.market ≡ m → P (get_or xs k no_step) → (t : Bool) → behind xs n (get_or xs k no_step) ≡ t → behind xs n (get_or xs k no_step) ≡ false
        go k l e q true b = absurd (h k l (l, e, to_reply k b) q)
        go k l e q false b = b

    -- what ranks behind a step behind number n is behind it too
    further : (y z : StepRecord) → behind xs n y ≡ true → step_precedes y z ≡ true → behind xs n z ≡ true
    further y z = go (eqb n 0)
      where
        go : (t : Bool) → (t || step_precedes (at xs n) y) ≡ true → step_precedes y z ≡ true → (t || step_precedes (at xs n) z) ≡ true
        go true h q = refl
        go false h q = transitive (at xs n).bid y.bid z.bid h q

  -- the number that next answers is that of the first behind number n, and the others come behind it
  pub next_first : (n p : ℕ) → NextReply xs m n (Ok (Some p)) → rank_behind m xs n ≡ at xs p ∷ rank_behind m xs p
  next_first n p h =
      let f = h.2.first no_step in
      let y = at xs p in
      let here = from_reply n h.0 (p - 1) f.stands.2 in
      kept_from
      (behind xs n)
      y
      (in_rank bid_of m xs)
      ranked
      (into_rank bid_of m y xs f.stands.1 (in_at xs (p - 1) no_step f.below))
      here
      (none_behind n h.0 (λ z. step_precedes z y ≡ true) (λ k l s q. both_ways _ (f.leads k l s) q))
      (λ z i q. further n h.0 y z here q)
      ∙ ap (λ zs. y ∷ zs) (sym (behind_number p h.1))

  -- where next answers none, none comes behind number n
  pub next_none : (n : ℕ) → NextReply xs m n (Ok None) → rank_behind m xs n ≡ []
  next_none n h =
      kept_none (behind xs n) (in_rank bid_of m xs) (λ z i. none_behind n h.0 (λ _. Unit {0}) (λ k l s _. h.2.first no_step k l s) z i tt)
