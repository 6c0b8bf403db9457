-- The walk down a market's rank: who was served on the way to a step, and what one step more changes.
use Rattle.std.proofs.Common.{◌≡◌, ℕ, ◌+◌, ◌-◌, ◌<◌, ◌≤◌, min, Bool, true, false, cond, not, ◌&&◌, ◌||◌, eqb, ltb, ◌⊎◌, List, length, set, Some, Option, sym, refl, ap, ◌∙◌, subst, inl, inr, arith}
use Rattle.std.proofs.lemmas.List.{get_or-map}
use Rattle.std.proofs.lemmas.Bool.{eqb-true, eq-eqb, ne_eqb, or_parts, and_parts, and_from, and_right, cases_eq, lt-ltb}
use Rattle.std.proofs.lemmas.Bool.Decides.{nat_tests}
use Rattle.steps.specs.declared.record.Bid.{Bid}
use Rattle.steps.specs.declared.record.StepRecord.{StepRecord}
use Rattle.steps.specs.Rank.{before}
use Rattle.steps.specs.Rule.{no_step}
use Rattle.books.specs.Replies.{at}
use Rattle.books.specs.Lawful.{SoundBelow}
use Rattle.rules.specs.Lists.{total, In}
use Rattle.rules.specs.Books.{ahead, front, bid_of, standing_of, wins, hands}
use Rattle.rules.proofs.Totals.{total_same, in_at}
use Rattle.rules.proofs.Ranks.{irreflexive, total_order, discounts_fall, unique}
use Rattle.closing.specs.HandOut.{handed, gets, awarded}
use Rattle.closing.proofs.Places.{sound_numbered, sound_number, map_one, total_one}
use Rattle.closing.proofs.Clearing.{lowest, lowest_same, lowest_at}

-- the bid ranks behind the step of number n; every bid ranks behind number 0
abbrev pub behind : List StepRecord → ℕ → Bid → Bool
behind xs n b = eqb n 0 || before (at xs n).bid b

-- the bid is the market's and was served on the way down to number n
abbrev pub served : ℕ → List StepRecord → ℕ → Bid → Bool
served m xs n b = eqb b.market m && not (behind xs n b)

-- how many of the market still wait
abbrev pub waiting : ℕ → List StepRecord → ℕ → ℕ
waiting m xs n = total (λ x. cond (eqb x.bid.market m && behind xs n x.bid) 1 0) xs

-- what the served stand with
abbrev pub taken : ℕ → List StepRecord → ℕ → ℕ
taken m xs n = total (λ x. cond (served m xs n x.bid) x.shares.standing 0) xs

-- x was served, and got a share
abbrev pub won_by : ℕ → ℕ → List StepRecord → ℕ → StepRecord → Bool
won_by m lots xs n x = served m xs n x.bid && ltb 0 (wins lots xs x)

-- the step of number p is the market's first behind number n
pub record Comes (m : ℕ) (xs : List StepRecord) (n p : ℕ) : Type 0 where
  pub one : 1 ≤ p
  pub within : p ≤ length xs
  pub market : (at xs p).bid.market ≡ m
  pub later : behind xs n (at xs p).bid ≡ true
  pub first : (x : StepRecord) → In x xs → x.bid.market ≡ m → behind xs n x.bid ≡ true → before x.bid (at xs p).bid ≡ false

-- no step of the market ranks behind number n
abbrev pub Ends : ℕ → List StepRecord → ℕ → Type 0
Ends m xs n = (x : StepRecord) → In x xs → x.bid.market ≡ m → behind xs n x.bid ≡ false

-- where the walk stands at number n: the steps are ys, so many lots are left, and the clearing discount so far
pub record Walked (m lots : ℕ) (xs ys : List StepRecord) (n left : ℕ) (clearing : Option ℕ) : Type 0 where
  pub steps : ys ≡ handed (served m xs n) lots xs
  pub within : n ≤ length xs
  pub lots_left : left ≡ lots - taken m xs n
  pub clears : clearing ≡ lowest (won_by m lots xs n) xs

-- z isn't behind w, which y is behind: z is before y
overtakes : (w z y : Bid) → before w z ≡ false → before w y ≡ true → before z y ≡ true
overtakes w z y p q = grind (arith, nat_tests)

-- z isn't behind w, which y is behind: z isn't behind y
stays_ahead : (w z y : Bid) → before w z ≡ false → before w y ≡ true → before y z ≡ false
stays_ahead w z y p q = grind (arith, nat_tests)

and_same : (b u v : Bool) → (b ≡ true → u ≡ v) → (b && u) ≡ (b && v)
and_same true u v h = h refl
and_same false u v h = refl

-- the walk goes from number n to number p, whose step is y
module _ (m : ℕ) (xs : List StepRecord) (sound : SoundBelow xs (length xs)) (n p : ℕ) (next : Comes m xs n p) where
  abbrev y : StepRecord
  y = at xs p

  place : p - 1 < length xs
  place = omega (arith, next.one, next.within)

  inside : In y xs
  inside = in_at xs (p - 1) no_step place

  number : y.bid.number ≡ p
  number = omega (arith, sound_number xs sound (p - 1) place, next.one)

  apart : (x : StepRecord) → (x.bid.number ≡ 1 + (p - 1) → ⊥) → x.bid.number ≡ p → ⊥
  apart x ne e = ne (omega (arith, next.one))

  -- what holds of the step of number p and of every other holds of each
  both : (P : StepRecord → Type 0) → P y → ((x : StepRecord) → In x xs → (x.bid.number ≡ p → ⊥) → P x) → (x : StepRecord) → In x xs → P x
  both P here there x i = go (cases_eq x.bid.number p)
    where
      go : (x.bid.number ≡ p) ⊎ (x.bid.number ≡ p → ⊥) → P x
      go (inl e) = subst P (sym (unique bid_of 1 xs x y (sound_numbered xs sound) i inside (e ∙ sym number))) here
      go (inr ne) = there x i ne

  behind_p : (b : Bid) → behind xs p b ≡ before y.bid b
  behind_p b = ap (λ t. t || before y.bid b) (ne_eqb p 0 (λ e. omega (arith, next.one)))

  passed : (b : Bid) → behind xs n b ≡ false → (before (at xs n).bid b ≡ false) × (before (at xs n).bid y.bid ≡ true)
  passed b h =
      let q = or_parts (eqb n 0) (before (at xs n).bid b) h in
      (q.1, sym (ap (λ t. t || before (at xs n).bid y.bid) q.0) ∙ next.later)

  -- of the market, those that rank before the step of number p were served
  ranked : (x : StepRecord) → In x xs → x.bid.market ≡ m → before x.bid y.bid ≡ not (behind xs n x.bid)
  ranked x i e = go (behind xs n x.bid) refl
    where
      go : (t : Bool) → behind xs n x.bid ≡ t → before x.bid y.bid ≡ not t
      go true h = next.first x i e h
      go false h = let q = passed x.bid h in overtakes (at xs n).bid x.bid y.bid q.0 q.1

  -- but for the step of number p, those of the market wait as before
  others : (x : StepRecord) → In x xs → (x.bid.number ≡ p → ⊥) → x.bid.market ≡ m → behind xs n x.bid ≡ behind xs p x.bid
  others x i ne e = go (behind xs n x.bid) refl ∙ sym (behind_p x.bid)
    where
      go : (t : Bool) → behind xs n x.bid ≡ t → t ≡ before y.bid x.bid
      go true h = sym (total_order x.bid y.bid (λ q. ne (q ∙ number)) (next.first x i e h))
      go false h = let q = passed x.bid h in sym (stays_ahead (at xs n).bid x.bid y.bid q.0 q.1)

  served_others : (x : StepRecord) → In x xs → (x.bid.number ≡ p → ⊥) → served m xs n x.bid ≡ served m xs p x.bid
  served_others x i ne = and_same (eqb x.bid.market m) _ _ (λ t. ap not (others x i ne (eqb-true _ _ t)))

  mine : eqb y.bid.market m ≡ true
  mine = eq-eqb _ _ next.market

  not_yet : served m xs n y.bid ≡ false
  not_yet = ap (λ t. t && not (behind xs n y.bid)) mine ∙ ap not next.later

  now_served : served m xs p y.bid ≡ true
  now_served = ap (λ t. t && not (behind xs p y.bid)) mine ∙ ap not (behind_p y.bid ∙ irreflexive y.bid)

  -- those ahead of y are those that were served
  ahead_served : (x : StepRecord) → In x xs → ahead x.bid y.bid ≡ served m xs n x.bid
  unfolding ahead
  ahead_served x i =
      ap (λ k. eqb x.bid.market k && before x.bid y.bid) next.market ∙ and_same (eqb x.bid.market m) _ _ (λ t. ranked x i (eqb-true _ _ t))

  front_taken : front bid_of standing_of xs y.bid ≡ taken m xs n
  front_taken = total_same _ _ xs (λ x i. ap (λ t. cond t x.shares.standing 0) (ahead_served x i))

  -- y's standing shares count as taken from now on
  pub taken_more : taken m xs p ≡ taken m xs n + y.shares.standing
  taken_more =
      let before-p = λ (x : StepRecord). cond (served m xs n x.bid) x.shares.standing 0 in
      let at_p = λ (x : StepRecord). cond (served m xs p x.bid) x.shares.standing 0 in
      let same = total_one before-p at_p 1 xs (p - 1) (sound_numbered xs sound) place (λ x i ne. ap (λ t. cond t x.shares.standing 0) (served_others x i (apart x ne))) in
      omega (arith, same, ap (λ t. cond t y.shares.standing 0) not_yet, ap (λ t. cond t y.shares.standing 0) now_served)

  pub waiting_falls : waiting m xs p < waiting m xs n
  waiting_falls =
      let waits : ℕ → StepRecord → ℕ = λ q x. cond (eqb x.bid.market m && behind xs q x.bid) 1 0 in
      let same =
      total_one (waits n) (waits p) 1 xs (p - 1) (sound_numbered xs sound) place (λ x i ne. ap (λ t. cond t 1 0) (and_same (eqb x.bid.market m) _ _ (λ t. others x i (apart x ne) (eqb-true _ _ t)))) in
      let was : waits n y ≡ 1 = ap (λ t. cond (t && behind xs n y.bid) 1 0) mine ∙ ap (λ t. cond t 1 0) next.later in
      let is : waits p y ≡ 0 = ap (λ t. cond (t && behind xs p y.bid) 1 0) mine ∙ ap (λ t. cond t 1 0) (behind_p y.bid ∙ irreflexive y.bid) in
      omega (arith, same)

  module _ (lots left : ℕ) (is-left : left ≡ lots - taken m xs n) where
    -- what y gets of the lots left is what it wins
    pub got_wins : gets left y ≡ wins lots xs y
    got_wins = ap (λ k. min y.shares.standing k) (is-left ∙ ap (λ k. lots - k) (sym front_taken))

    -- y is as it was
    pub unchanged : at (handed (served m xs n) lots xs) p ≡ y
    unchanged = get_or-map _ xs (p - 1) no_step no_step place ∙ ap (λ t. cond t (hands lots xs y) y) not_yet

    -- y is handed its lots
    pub steps_more : set (handed (served m xs n) lots xs) (p - 1) (awarded left y) ≡ handed (served m xs p) lots xs
    steps_more =
        let hand = λ (t : Bool) (x : StepRecord). cond t (hands lots xs x) x in
        map_one
        (λ x. hand (served m xs n x.bid) x)
        (λ x. hand (served m xs p x.bid) x)
        1
        xs
        (p - 1)
        (awarded left y)
        (sound_numbered xs sound)
        place
        (ap (λ k. record { bid = y.bid; shares = record { standing = y.shares.standing; losing = y.shares.standing - k; rejected = y.shares.rejected } }) got_wins ∙ sym (ap (λ t. hand t y) now_served))
        (λ x i ne. ap (λ t. hand t x) (served_others x i (apart x ne)))

    -- a step that gets a share has the lowest discount so far
    pub cleared_lower : 0 < wins lots xs y → lowest (won_by m lots xs p) xs ≡ Some y.bid.discount
    cleared_lower l =
        lowest_at
        (won_by m lots xs p)
        y
        xs
        inside
        (and_from (served m xs p y.bid) (ltb 0 (wins lots xs y)) now_served (lt-ltb 0 (wins lots xs y) l))
        (both (λ x. won_by m lots xs p x ≡ true → y.bid.discount ≤ x.bid.discount) (λ _. omega arith) older)
      where
        older : (x : StepRecord) → In x xs → (x.bid.number ≡ p → ⊥) → won_by m lots xs p x ≡ true → y.bid.discount ≤ x.bid.discount
        older x i ne h =
            let s = and_parts (served m xs p x.bid) (ltb 0 (wins lots xs x)) h in
            let q = and_parts (eqb x.bid.market m) (not (behind xs n x.bid)) (served_others x i ne ∙ s.0) in
            discounts_fall x.bid y.bid (ranked x i (eqb-true _ _ q.0) ∙ q.1)

    -- one that gets none changes nothing
    pub cleared_same : wins lots xs y ≡ 0 → lowest (won_by m lots xs n) xs ≡ lowest (won_by m lots xs p) xs
    cleared_same e =
        lowest_same
        (won_by m lots xs n)
        (won_by m lots xs p)
        xs
        (both
        (λ x. won_by m lots xs n x ≡ won_by m lots xs p x)
        (and_right _ _ (ap (ltb 0) e) ∙ sym (and_right _ _ (ap (ltb 0) e)))
        (λ x i ne. ap (λ t. t && ltb 0 (wins lots xs x)) (served_others x i ne)))
